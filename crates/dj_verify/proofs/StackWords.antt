-- The words of a stack.
use Rattle.std.proofs.Common.{◌≡◌, ℕ, ◌+◌, List, [], ◌∷◌, length, refl, sym, ap, ◌∙◌, length-append}
use Rattle.std.specs.List.{flat_map}
use Rattle.dj_frames.specs.Frames.{Tag, slots_of}
use Rattle.dj_tags.specs.Goes.{words}
use Rattle.dj_verify.specs.Rules.{stack_words}

pub words_are : (tags : List Tag) → stack_words tags ≡ length (flat_map slots_of tags)
words_are [] = refl
words_are (first ∷ tags) = ap (λ (n : ℕ). words first + n) (words_are tags) ∙ sym (length-append (slots_of first) (flat_map slots_of tags))
