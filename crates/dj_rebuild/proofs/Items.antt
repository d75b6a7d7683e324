-- Instructions of the program by their places.
use Rattle.std.proofs.Common.{◌≡◌, ℕ, suc, ◌+◌, ◌<◌, ◌≤◌, List, [], ◌∷◌, drop, length, get_or, Some, sym, ap, ◌∙◌, arith}
use Rattle.std.proofs.Math.Seq.{drop-cons}
use Rattle.std.proofs.Math.ListN.{drop_of_length-le}
use Rattle.std.proofs.lemmas.List.{drop-map}
use Rattle.dj_instructions.specs.Instructions.{Instructions, view_instruction, view_instructions}
use Rattle.dj_instructions.specs.declared.instruction.Instruction as declared
use Rattle.dj_bytecode.specs.Machine.{pc_of}
use Rattle.dj_rebuild.specs.Walking.{first_of}

abbrev pub Listed : Type 0
Listed = List (ℕ × declared.Instruction)

-- an instruction, and those behind it
pub there : (all : Listed) (at : ℕ) (default : ℕ × declared.Instruction) → at < length all
    → drop at (view_instructions all) ≡ ((get_or all at default).0, view_instruction (get_or all at default).1) ∷ drop (at + 1) (view_instructions all)
there all at default within =
    drop-map _ at all ∙ ap view_instructions (drop-cons all at default within) ∙ ap (λ (list : Instructions). ((get_or all at default).0, view_instruction (get_or all at default).1) ∷ list) (sym (drop-map _ (suc at) all))
    ∙ ap (λ (n : ℕ). ((get_or all at default).0, view_instruction (get_or all at default).1) ∷ drop n (view_instructions all)) next
  where
    next : suc at ≡ at + 1
    next = omega arith

pub first-there : (all : Listed) (at : ℕ) (default : ℕ × declared.Instruction) → at < length all → Some (view_instruction (get_or all at default).1) ≡ first_of (drop at (view_instructions all))
first-there all at default within = ap first_of (sym (there all at default within))

pub pc-there : (all : Listed) (at : ℕ) (default : ℕ × declared.Instruction) → at < length all → (get_or all at default).0 ≡ pc_of (drop at (view_instructions all))
pc-there all at default within = ap pc_of (sym (there all at default within))

-- none is behind the last
pub past : (all : Listed) (at : ℕ) → length all ≤ at → drop at (view_instructions all) ≡ []
past all at behind = drop-map _ at all ∙ ap view_instructions (drop_of_length-le all behind)

pub item-there : (all : Listed) (at : ℕ) (item : ℕ × declared.Instruction) → item ≡ get_or all at item → at < length all
    → drop at (view_instructions all) ≡ (item.0, view_instruction item.1) ∷ drop (at + 1) (view_instructions all)
item-there all at item is within = there all at item within ∙ ap (λ (one : ℕ × declared.Instruction). (one.0, view_instruction one.1) ∷ drop (at + 1) (view_instructions all)) (sym is)
