-- Lists of jumps.
use Rattle.std.proofs.Common.{ℕ, Bool, true, false, not, ◌&&◌, ◌||◌, ◌==◌, List, [], ◌∷◌, ◌++◌, ◌≡◌, refl, sym, ap, ◌∙◌}
use Rattle.std.specs.Prelude.{if◌then◌else◌}
use Rattle.std.proofs.lemmas.Bool.{false≢true, eqb-true}
use Rattle.dj_reach.specs.declared.jump.Jump.{Jump}
use Rattle.dj_reach.specs.declared.jump.Jump.TheVariants.{Break, Continue}
use Rattle.dj_reach.specs.Jumps.{is_same_jump, is_jump_to, is_one_of}
use Rattle.dj_reach.specs.Walks.{others}
use Rattle.dj_reach.proofs.Truths.{and_false, or_last}

pub one_of-append : (jump : Jump) (first second : List Jump) → is_one_of jump (first ++ second) ≡ (is_one_of jump first || is_one_of jump second)
one_of-append jump [] second = refl
one_of-append jump (one ∷ rest) second = ap (λ b. is_same_jump one jump || b) (one_of-append jump rest second) ∙ go (is_same_jump one jump)
  where
    go : (b : Bool) → (b || (is_one_of jump rest || is_one_of jump second)) ≡ ((b || is_one_of jump rest) || is_one_of jump second)
    go true = refl
    go false = refl

-- equal jumps go to one label
pub same_label : (label : ℕ) (first second : Jump) → is_same_jump first second ≡ true → is_jump_to label first ≡ is_jump_to label second
same_label label (Break first) (Break second) same = ap (λ n. n == label) (eqb-true first second same)
same_label label (Break first) (Continue second) same = absurd (false≢true same)
same_label label (Continue first) (Break second) same = absurd (false≢true same)
same_label label (Continue first) (Continue second) same = ap (λ n. n == label) (eqb-true first second same)

others_step : (b c d o t : Bool) → (d ≡ true → b ≡ c) → o ≡ (not c && t) → (if b then o else (d || o)) ≡ (not c && (d || t))
others_step true true d o t e h = h
others_step true false true o t e h = absurd (false≢true (sym (e refl)))
others_step true false false o t e h = h
others_step false true true o t e h = absurd (false≢true (e refl))
others_step false true false o t e h = h
others_step false false true o t e h = refl
others_step false false false o t e h = h

one_of-if : (jump one : Jump) (b : Bool) (rest : List Jump) → is_one_of jump (if b then rest else one ∷ rest) ≡ (if b then is_one_of jump rest else (is_same_jump one jump || is_one_of jump rest))
one_of-if jump one true rest = refl
one_of-if jump one false rest = refl

pub one_of-others : (label : ℕ) (jump : Jump) (jumps : List Jump) → is_one_of jump (others label jumps) ≡ (not (is_jump_to label jump) && is_one_of jump jumps)
one_of-others label jump [] = and_false (not (is_jump_to label jump))
one_of-others label jump (one ∷ rest) =
    one_of-if jump one (is_jump_to label one) (others label rest)
    ∙ others_step (is_jump_to label one) (is_jump_to label jump) (is_same_jump one jump) (is_one_of jump (others label rest)) (is_one_of jump rest) (same_label label one jump) (one_of-others label jump rest)

-- a jump, where it is reached
pub one_of-here : (reached : Bool) (here jump : Jump) (jumps : List Jump)
    → is_one_of jump (if reached then jumps ++ here ∷ [] else jumps) ≡ (is_one_of jump jumps || (reached && is_same_jump here jump))
one_of-here true here jump jumps = one_of-append jump jumps (here ∷ []) ∙ ap (λ b. is_one_of jump jumps || b) (or_last (is_same_jump here jump))
one_of-here false here jump jumps = sym (or_last (is_one_of jump jumps))
