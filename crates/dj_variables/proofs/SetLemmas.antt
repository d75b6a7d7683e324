-- Sets of variables.
use Rattle.std.proofs.Common.{Bool, true, false, ◌&&◌, ◌≡◌, refl, sym, ap, ◌∙◌}
use Rattle.dj_syntax.specs.declared.variable.Var.{Var}
use Rattle.dj_variables.specs.Sets.{Set, everything, meet}

pub same_sets : {first second : Set} → ((variable : Var) → first variable ≡ second variable) → first ≡ second
same_sets each = λ i variable. each variable i

and_same : (b : Bool) → (b && b) ≡ b
and_same true = refl
and_same false = refl

and_swap : (b c : Bool) → (b && c) ≡ (c && b)
and_swap true true = refl
and_swap true false = refl
and_swap false true = refl
and_swap false false = refl

pub and_last : (b : Bool) → (b && true) ≡ b
and_last true = refl
and_last false = refl

and_three : (p q r : Bool) → ((p && q) && r) ≡ (p && (q && r))
and_three true q r = refl
and_three false q r = refl

pub meet_same : (a : Set) → meet a a ≡ a
meet_same a = same_sets (λ x. and_same (a x))

pub meet_everything : (a : Set) → meet a everything ≡ a
meet_everything a = same_sets (λ x. and_last (a x))

pub meet_swap : (a b : Set) → meet a b ≡ meet b a
meet_swap a b = same_sets (λ x. and_swap (a x) (b x))

pub meet_three : (a b c : Set) → meet (meet a b) c ≡ meet a (meet b c)
meet_three a b c = same_sets (λ x. and_three (a x) (b x) (c x))

-- (a and b) and c is a and (c and b)
pub meet_turn : (a b c : Set) → meet (meet a b) c ≡ meet a (meet c b)
meet_turn a b c = meet_three a b c ∙ ap (meet a) (meet_swap b c)

pub meet_four : (a b c d : Set) → meet (meet b d) (meet a c) ≡ meet (meet a b) (meet c d)
meet_four a b c d =
    meet_swap (meet b d) (meet a c) ∙ meet_three a c (meet b d)
    ∙ ap (meet a) (sym (meet_three c b d) ∙ ap (λ s. meet s d) (meet_swap c b) ∙ meet_three b c d)
    ∙ sym (meet_three a b (meet c d))
