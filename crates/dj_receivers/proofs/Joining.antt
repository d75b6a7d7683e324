-- Where control comes otherwise than from the instruction before, one call behind another.
use Rattle.std.proofs.Common.{◌≡◌, ℕ, zero, suc, ◌+◌, ◌<◌, ◌≤◌, Bool, true, false, List, [], ◌∷◌, length, drop, get_or, refl, sym, ap, subst, ◌∙◌, arith}
use Rattle.std.specs.List.{Contains, list_any}
use Rattle.std.proofs.lemmas.List.{drop_all}
use Rattle.dj_instructions.specs.declared.instruction.Instruction as declared
use Rattle.dj_instructions.specs.Instructions.{view_instruction, view_instructions}
use Rattle.dj_code.specs.declared.method_code.Handler.{Handler}
use Rattle.dj_code.specs.Targets.{targets_of}
use Rattle.dj_starts.specs.Marks.{MarksMore}
use Rattle.dj_starts.proofs.Marking.{both_more, none_more}
use Rattle.dj_receivers.specs.Receivers.{stores_own}
use Rattle.dj_receivers.specs.Steps.{IsJumpedTo, IsHandlerOf}

abbrev Listed : Type 0
Listed = List (ℕ × declared.Instruction)

-- from a place on
pub from_item : {X : Type 0} (xs : List X) (i : ℕ) (x : X) → i < length xs → x ≡ get_or xs i x → drop i xs ≡ x ∷ drop (i + 1) xs
from_item [] i x within is = absurd (omega arith)
from_item {X} (y ∷ xs) zero x within is = ap (λ (z : X). z ∷ xs) (sym is)
from_item (y ∷ xs) (suc i) x within is = let next : suc i + 1 ≡ suc (i + 1) = omega arith in rw next (from_item xs i x (omega arith) is)

abbrev pub any_stores : Listed → Bool
any_stores list = list_any (λ at. stores_own at.1) (view_instructions list)

pub stores_here : (all : Listed) (i : ℕ) (x : ℕ × declared.Instruction) → i < length all → x ≡ get_or all i x → any_stores (drop i all) ≡ any_stores all → stores_own (view_instruction x.1) ≡ true → true ≡ any_stores all
stores_here all i x within is same stores = sym (ap any_stores (from_item all i x within is) ∙ rw stores refl) ∙ same

pub stores_next : (all : Listed) (i : ℕ) (x : ℕ × declared.Instruction) → i < length all → x ≡ get_or all i x → any_stores (drop i all) ≡ any_stores all → stores_own (view_instruction x.1) ≡ false → any_stores (drop (i + 1) all) ≡ any_stores all
stores_next all i x within is same none = sym (ap any_stores (from_item all i x within is) ∙ rw none refl) ∙ same

pub stores_end : (all : Listed) (i : ℕ) → length all ≤ i → any_stores (drop i all) ≡ any_stores all → false ≡ any_stores all
stores_end all i past same = sym (ap any_stores (drop_all i all past)) ∙ same

-- those from a place on are marked by one instruction more
pub jumps_step : (all : Listed) (i : ℕ) (x : ℕ × declared.Instruction) → i < length all → x ≡ get_or all i x → (a b after : List Bool) → MarksMore a b (Contains (targets_of (view_instruction x.1)))
    → MarksMore b after (IsJumpedTo (view_instructions (drop (i + 1) all))) → MarksMore a after (IsJumpedTo (view_instructions (drop i all)))
jumps_step all i x within is a b after one more =
    subst (λ (list : Listed). MarksMore a after (IsJumpedTo (view_instructions list))) (sym (from_item all i x within is))
    (both_more a b after (Contains (targets_of (view_instruction x.1))) (IsJumpedTo (view_instructions (drop (i + 1) all))) one more)

pub jumps_end : (all : Listed) (i : ℕ) (marks : List Bool) → length all ≤ i → MarksMore marks marks (IsJumpedTo (view_instructions (drop i all)))
jumps_end all i marks past = subst (λ (list : Listed). MarksMore marks marks (IsJumpedTo (view_instructions list))) (sym (drop_all i all past)) (none_more marks (λ pc. ⊥) (λ pc within no. no))

pub handlers_step : (all : List Handler) (i : ℕ) (x : Handler) → i < length all → x ≡ get_or all i x → (a b after : List Bool) → MarksMore a b (λ pc. pc ≡ x.target)
    → MarksMore b after (IsHandlerOf (drop (i + 1) all)) → MarksMore a after (IsHandlerOf (drop i all))
handlers_step all i x within is a b after one more =
    subst (λ (list : List Handler). MarksMore a after (IsHandlerOf list)) (sym (from_item all i x within is)) (both_more a b after (λ pc. pc ≡ x.target) (IsHandlerOf (drop (i + 1) all)) one more)

pub handlers_end : (all : List Handler) (i : ℕ) (marks : List Bool) → length all ≤ i → MarksMore marks marks (IsHandlerOf (drop i all))
handlers_end all i marks past = subst (λ (list : List Handler). MarksMore marks marks (IsHandlerOf list)) (sym (drop_all i all past)) (none_more marks (λ pc. ⊥) (λ pc within no. no))
