-- The words of the entries of a stack.
use Rattle.std.proofs.Common.{◌≡◌, ℕ, ◌+◌, ◌<◌, ◌≤◌, List, [], ◌∷◌, ◌++◌, drop, get_or, length, length-append, take, take-append-drop, refl, ap, ◌∙◌, arith}
use Rattle.std.specs.List.{flat_map}
use Rattle.std.proofs.lemmas.List.{map-append}
use Rattle.std.proofs.lemmas.List.Concat.{flat_map-append}
use Rattle.dj_frames.specs.declared.tag.Tag as code
use Rattle.dj_frames.specs.Frames.{slots_of, view_tag, view_tags}
use Rattle.dj_tags.specs.Goes.{reversed}
use Rattle.dj_effects.specs.declared.stack.Entry.{Entry}
use Rattle.dj_effects.specs.Stacked.{tags_of, stacked}
use Rattle.dj_effects.proofs.Stacking.{tags_more}

-- the words of tags
abbrev words_of : List code.Tag → ℕ
words_of tags = length (flat_map slots_of (view_tags tags))

words_append : (front back : List code.Tag) → words_of (front ++ back) ≡ words_of front + words_of back
words_append front back =
    ap (λ tags. length (flat_map slots_of tags)) (map-append view_tag front back)
    ∙ ap length (flat_map-append slots_of (view_tags front) (view_tags back))
    ∙ length-append (flat_map slots_of (view_tags front)) (flat_map slots_of (view_tags back))

words_one : (tag : code.Tag) → words_of (tag ∷ []) ≡ length (slots_of (view_tag tag))
words_one tag = length-append (slots_of (view_tag tag)) [] ∙ omega arith

words_reversed : (tags : List code.Tag) → words_of (reversed tags) ≡ words_of tags
words_reversed [] = refl
words_reversed (tag ∷ tags) =
    let later = words_reversed tags in
    let split = words_append (reversed tags) (tag ∷ []) in
    let whole = words_append (tag ∷ []) tags in
    omega (arith, later, split, whole)

-- those of a stack are those that were pushed and those below
pub stacked_words : (below : List code.Tag) (pushed : List Entry) → words_of (stacked below pushed) ≡ words_of (tags_of pushed) + words_of below
stacked_words below pushed =
    let split = words_append (reversed (tags_of pushed)) (reversed below) in
    let front = words_reversed (tags_of pushed) in
    let back = words_reversed below in
    omega (arith, split, front, back)

-- ---- entries one by one

pub words_more : (pushed : List Entry) (k : ℕ) (entry : Entry) → k < length pushed → get_or pushed k entry ≡ entry → words_of (tags_of (take (k + 1) pushed)) ≡ words_of (tags_of (take k pushed)) + length (slots_of (view_tag entry.tag))
words_more pushed k entry within is =
    let more = ap words_of (tags_more pushed k entry within is) in
    let split = words_append (tags_of (take k pushed)) (entry.tag ∷ []) in
    let one = words_one entry.tag in
    omega (arith, more, split, one)

-- the first entries take no more than all
pub words_at : (pushed : List Entry) (k : ℕ) (entry : Entry) → k < length pushed → get_or pushed k entry ≡ entry → words_of (tags_of (take k pushed)) + length (slots_of (view_tag entry.tag)) ≤ words_of (tags_of pushed)
words_at pushed k entry within is =
    let more = words_more pushed k entry within is in
    let front = take (k + 1) pushed in
    let back = drop (k + 1) pushed in
    let whole = ap (λ list. words_of (tags_of list)) (take-append-drop (k + 1) pushed) in
    let tags = ap words_of (map-append (λ entry. entry.tag) front back) in
    let split = words_append (tags_of front) (tags_of back) in
    omega (arith, more, whole, tags, split)
