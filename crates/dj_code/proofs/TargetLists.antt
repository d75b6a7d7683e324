-- Lists of targets, and items of lists.
use Rattle.std.proofs.Common.{Bool, ◌≡◌, ℕ, zero, suc, ◌<◌, refl, ℤ, pos, List, [], ◌∷◌, length, map, get_or, sym, ap, ◌∙◌, arith, subst}
use Rattle.std.specs.Prelude.{IsTrue, ◌↔◌}
use Rattle.std.specs.List.{All}
use Rattle.std.proofs.lemmas.List.{get_or-map, length-map}
use Rattle.std.proofs.lemmas.List.Elements.{All-cons, All-tail}
use Rattle.dj_instructions.specs.declared.instruction.Instruction as declared
use Rattle.dj_instructions.specs.Instructions.{Instruction, view_instruction, view_instructions}

abbrev pub target : ℤ × ℕ → ℕ
target case = case.1

-- the targets of cases, each of which is right
pub cases_right : (P : ℕ → Type 0) (cases : List (ℤ × ℕ)) → ((k : ℕ) (d : ℤ × ℕ) → k < length cases → P (get_or cases k d).1) → All P (map target cases)
cases_right P cases right k d lt =
    let within : k < length cases = omega (arith, length-map cases target) in
    subst P (sym (get_or-map target cases k (pos 0, 0) d within)) (right k (pos 0, 0) within)

-- one of them isn't
pub cases_wrong : (P : ℕ → Type 0) (cases : List (ℤ × ℕ)) (k : ℕ) (d : ℤ × ℕ) → k < length cases → (P (get_or cases k d).1 → ⊥) → All P (map target cases) → ⊥
cases_wrong P cases k d within wrong all =
    wrong (subst P (get_or-map target cases k d 0 within) (all k 0 (omega (arith, length-map cases target))))

-- one more, which is right
pub all_behind : (P : ℕ → Type 0) (x : ℕ) (xs : List ℕ) (right : Bool) → P x → IsTrue right ↔ All P xs → IsTrue right ↔ All P (x ∷ xs)
all_behind P x xs right here tells = (λ yes. All-cons P x xs here (tells.0 yes), λ all. tells.1 (All-tail P x xs all))

abbrev pub viewed : ℕ × declared.Instruction → ℕ × Instruction
viewed x = (x.0, view_instruction x.1)

-- the item of instructions as plain data
pub viewed_at : (xs : List (ℕ × declared.Instruction)) (i : ℕ) (item : ℕ × declared.Instruction) → i < length xs → item ≡ get_or xs i item → (d : ℕ × Instruction) → get_or (view_instructions xs) i d ≡ (item.0, view_instruction item.1)
viewed_at xs i item within is d = get_or-map viewed xs i item d within ∙ ap viewed (sym is)

-- an item within a list, whatever stands for those past its end
pub item_at : {X : Type 0} (xs : List X) (i : ℕ) → i < length xs → (d e : X) → get_or xs i e ≡ get_or xs i d
item_at [] i within d e = absurd (omega arith)
item_at (x ∷ xs) zero within d e = refl
item_at (x ∷ xs) (suc i) within d e = item_at xs i (omega arith) d e
