-- Which slot an instruction writes, by what it means.
use Rattle.std.proofs.Common.{◌≡◌, ℕ, suc, ◌+◌, ◌<◌, Bool, true, false, List, [], ◌∷◌, drop, get_or, length, Option, Some, None, refl, sym, ap, ◌∙◌, arith}
use Rattle.std.proofs.Math.Seq.{drop-cons}
use Rattle.std.specs.Prelude.{◌||◌}
use Rattle.dj_names.specs.declared.members.Constant.{Constant}
use Rattle.dj_names.specs.declared.members.Constant.TheVariants as constant
use Rattle.dj_names.specs.Types as types
use Rattle.dj_names.specs.Types.{JType}
use Rattle.dj_instructions.specs.declared.kinds.Kind.{Kind}
use Rattle.dj_instructions.specs.declared.kinds.Kind.TheVariants as kind
use Rattle.dj_instructions.specs.declared.kinds.Calc.{Calc}
use Rattle.dj_instructions.specs.declared.kinds.Calc.TheVariants as calc
use Rattle.dj_instructions.specs.Instructions.{Instruction, view_instruction, view_instructions, Store, Iinc}
use Rattle.dj_instructions.specs.declared.instruction.Instruction as declared
use Rattle.dj_instructions.specs.Instructions as op
use Rattle.dj_bytecode.specs.Meanings.{constant_pushed, int_calculation, long_calculation, calculation, int_conversion, long_conversion, float_conversion, conversion, comparison, return_of, meaning_of}
use Rattle.dj_vars.specs.Naming.{written_slot}
use Rattle.dj_edges.specs.Edges.{is_slot, writes_slot}
use Rattle.dj_moves.specs.Moves.{slot_written}

of-constant : (pushed : Constant) → written_slot (constant_pushed pushed) ≡ None
of-constant (constant.Int number) = refl
of-constant other = refl

of-ints : (operation : Calc) → written_slot (int_calculation operation) ≡ None
of-ints calc.Add = refl
of-ints other = refl

of-longs : (operation : Calc) → written_slot (long_calculation operation) ≡ None
of-longs calc.Add = refl
of-longs other = refl

of-calculation : (operation : Calc) (of : Kind) → written_slot (calculation operation of) ≡ None
of-calculation operation kind.Int = of-ints operation
of-calculation operation kind.Long = of-longs operation
of-calculation operation other = refl

from-int : (to : JType) → written_slot (int_conversion to) ≡ None
from-int types.Int = refl
from-int other = refl

from-long : (to : JType) → written_slot (long_conversion to) ≡ None
from-long types.Int = refl
from-long other = refl

from-float : (to : JType) → written_slot (float_conversion to) ≡ None
from-float types.Int = refl
from-float other = refl

of-conversion : (from : Kind) (to : JType) → written_slot (conversion from to) ≡ None
of-conversion kind.Int to = from-int to
of-conversion kind.Long to = from-long to
of-conversion kind.Float to = from-float to
of-conversion kind.Double to = from-float to
of-conversion kind.Ref to = refl

of-comparison : (of : Kind) → written_slot (comparison of) ≡ None
of-comparison kind.Int = refl
of-comparison other = refl

of-return : (of : Option Kind) → written_slot (return_of of) ≡ None
of-return None = refl
of-return (Some own) = refl

pub written-is : (instruction : Instruction) → written_slot (meaning_of [] [] instruction) ≡ slot_written instruction
written-is (Store own slot) = refl
written-is (Iinc slot by) = refl
written-is (op.Push pushed) = of-constant pushed
written-is (op.Calc operation own) = of-calculation operation own
written-is (op.Convert from to) = of-conversion from to
written-is (op.Compare own greater) = of-comparison own
written-is (op.Return own) = of-return own
written-is (op.IfRefs true target) = refl
written-is (op.IfRefs false target) = refl
written-is (op.IfNull true target) = refl
written-is (op.IfNull false target) = refl
written-is other = refl

-- ---- instructions of the code

abbrev Listed : Type 0
Listed = List (ℕ × declared.Instruction)

drop-item : (all : Listed) (index : ℕ) (item : ℕ × declared.Instruction) → item ≡ get_or all index item → index < length all → drop index all ≡ item ∷ drop (index + 1) all
drop-item all index item is within =
    drop-cons all index item within ∙ ap (λ (first : ℕ × declared.Instruction). first ∷ drop (suc index) all) (sym is) ∙ ap (λ (n : ℕ). item ∷ drop n all) next
  where
    next : suc index ≡ index + 1
    next = omega arith

pub write-step : (all : Listed) (index : ℕ) (item : ℕ × declared.Instruction) → item ≡ get_or all index item → index < length all → (found : Bool) → is_slot 0 (slot_written (view_instruction item.1)) ≡ found
    → writes_slot 0 (view_instructions (drop index all)) ≡ (found || writes_slot 0 (view_instructions (drop (index + 1) all)))
write-step all index item is within found e =
    ap (λ (list : Listed). writes_slot 0 (view_instructions list)) (drop-item all index item is within)
    ∙ ap (λ (slot : Option ℕ). is_slot 0 slot || writes_slot 0 (view_instructions (drop (index + 1) all))) (written-is (view_instruction item.1))
    ∙ ap (λ (test : Bool). test || writes_slot 0 (view_instructions (drop (index + 1) all))) e
