-- Where instructions begin, by their offsets.
use Rattle.std.proofs.Common.{◌≡◌, ℕ, zero, suc, ◌+◌, ◌<◌, Bool, true, false, eqb, List, [], ◌∷◌, drop, length, get_or, slice_get, Some, None, refl, ap, sym, ◌∙◌, arith, drop-cons, add-one}
use Rattle.std.specs.Ordering.{nat_cmp}
use Rattle.std.specs.BTreeMap as tree
use Rattle.std.specs.BTreeMap.{BTreeMap, Updates, is_at}
use Rattle.std.proofs.lemmas.Bool.{false_from_ne_true}
use Rattle.std.proofs.lemmas.Bool.Decides.{nat_tests}
use Rattle.std.proofs.lemmas.List.{drop_all}
use Rattle.std.proofs.lemmas.Map.Lookups.{exact_unsigned}
use Rattle.std.proofs.lemmas.Map.Views.{tells_apart}
use Rattle.std.proofs.lemmas.Option.{get_or_from_slice_get, slice_get_within}
use Rattle.dj_instructions.specs.declared.instruction.Instruction as code_instruction
use Rattle.dj_instructions.specs.Instructions.{Instruction, Instructions, view_instruction, view_instructions}
use Rattle.dj_bytecode.specs.Machine.{code_from}
use Rattle.dj_machine.specs.Runs.{from_place, AreStartsFrom}

-- nothing begins behind the last one
pub none_behind : (instructions : Instructions) (places : BTreeMap ℕ ℕ) → ((pc : ℕ) → tree.get nat_cmp places pc ≡ None) → AreStartsFrom (length instructions) instructions places
none_behind instructions places none pc = rw (none pc, drop_all (length instructions) instructions (omega arith)) refl

eqb-is : (m n : ℕ) → eqb m n ≡ true → m ≡ n
eqb-is m n e = grind (arith, nat_tests)

eqb-apart : (m n : ℕ) → eqb m n ≡ false → m ≡ n → ⊥
eqb-apart m n e same = grind (arith, nat_tests)

-- one instruction more
pub one_more : (instructions : Instructions) (from pc : ℕ) (instruction : Instruction) (places more : BTreeMap ℕ ℕ) → slice_get instructions from ≡ Some (pc, instruction) → AreStartsFrom (from + 1) instructions places → Updates nat_cmp places more pc (Some from)
    → AreStartsFrom from instructions more
one_more instructions from pc instruction places more is are updates asked = go (eqb pc asked) refl
  where
    within : from < length instructions
    within = slice_get_within instructions from (pc, instruction) is

    there : drop from instructions ≡ (pc, instruction) ∷ drop (from + 1) instructions
    there = drop-cons instructions from (pc, instruction) within ∙ ap (λ first. first ∷ drop (suc from) instructions) (get_or_from_slice_get instructions from (pc, instruction) (pc, instruction) is) ∙ rw add-one refl

    go : (b : Bool) → eqb pc asked ≡ b → from_place instructions (tree.get nat_cmp more asked) ≡ code_from asked (drop from instructions)
    go true e =
        let here : tree.get nat_cmp more asked ≡ Some from = rw (← eqb-is pc asked e) updates.1 in
        rw (here, there, e) refl
    go false e =
        let apart : is_at (nat_cmp pc) asked ≡ false = false_from_ne_true (is_at (nat_cmp pc) asked) (λ at. eqb-apart pc asked e (tells_apart exact_unsigned pc asked at)) in
        rw (updates.2 asked apart, there, e) (are asked)

pub place_is : (instructions : List (ℕ × code_instruction.Instruction)) (place : ℕ) (item : ℕ × code_instruction.Instruction) → place < length instructions → item ≡ get_or instructions place item → slice_get (view_instructions instructions) place ≡ Some (item.0, view_instruction item.1)
place_is [] place item within is = absurd (omega arith)
place_is (first ∷ rest) zero item within is = ap (λ (x : ℕ × code_instruction.Instruction). Some (x.0, view_instruction x.1)) (sym is)
place_is (first ∷ rest) (suc place) item within is = place_is rest place item (omega arith) is

-- the instructions that an offset leads to
pub from_some : (instructions : List (ℕ × code_instruction.Instruction)) (places : BTreeMap ℕ ℕ) (pc place : ℕ) (result : List (ℕ × code_instruction.Instruction)) → AreStartsFrom 0 (view_instructions instructions) places
    → tree.get nat_cmp places pc ≡ Some place → result ≡ drop place instructions → view_instructions result ≡ code_from pc (view_instructions instructions)
from_some instructions places pc place result are found is = ap view_instructions is ∙ viewed instructions place ∙ ap (from_place (view_instructions instructions)) (sym found) ∙ are pc
  where
    viewed : (instructions : List (ℕ × code_instruction.Instruction)) (place : ℕ) → view_instructions (drop place instructions) ≡ drop place (view_instructions instructions)
    viewed [] zero = refl
    viewed [] (suc place) = refl
    viewed (first ∷ rest) zero = refl
    viewed (first ∷ rest) (suc place) = viewed rest place

pub from_none : (instructions : Instructions) (places : BTreeMap ℕ ℕ) (pc : ℕ) → AreStartsFrom 0 instructions places → tree.get nat_cmp places pc ≡ None → [] ≡ code_from pc instructions
from_none instructions places pc are absent = ap (from_place instructions) (sym absent) ∙ are pc
