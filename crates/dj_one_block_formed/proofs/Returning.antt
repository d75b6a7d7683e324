-- Code that keeps the rules by its frames returns nothing only where its method has no result.
use Rattle.std.proofs.Common.{arith, ℕ, zero, suc, ◌<◌, ◌≡◌, List, [], ◌∷◌, length, Option, Some, None, Contains, refl, subst}
use Rattle.std.specs.Prelude.{IfSome, slice_index_or}
use Rattle.dj_names.specs.declared.header.Header.{Header}
use Rattle.dj_names.specs.Types.{JType, result_of}
use Rattle.dj_instructions.specs.Instructions.{Instruction, Instructions, Return}
use Rattle.dj_code.specs.MethodCode.{Code, Typed}
use Rattle.dj_tags.specs.Goes.{Assignability, Working}
use Rattle.dj_tags.specs.Laxly.{Strictly}
use Rattle.dj_effects.specs.Rows.{work, leave}
use Rattle.dj_effects.specs.Operands.{HasOperands}
use Rattle.dj_verify.specs.Rules.{Place, FrameKeeps}
use Rattle.dj_verify.specs.Table.{flow_behind, AreFrames}
use Rattle.dj_verify.specs.declared.rule.Rule.TheVariants as rule
use Rattle.dj_sound.specs.States.{IsStrict, table_of}

-- an instruction finds its operands in a frame
record Finds (Goes : Assignability) (headers : List Header) (code : Code) (pc : ℕ) (instruction : Instruction) : Type 0 where
  pub frame : Working
  pub has : HasOperands Goes headers code pc (work code instruction) frame

finds : (Goes : Assignability) (headers : List Header) (code : Code) (flow : Option Working) (part : Instructions) (frames : List Working) → length frames ≡ length part → AreFrames Goes headers code flow part frames
    → (at pc : ℕ) (instruction : Instruction) → at < length part → slice_index_or part at (pc, instruction) ≡ (pc, instruction) → Finds Goes headers code pc instruction
finds Goes headers code flow [] frames same are at pc instruction less e = absurd (omega (arith, less))
finds Goes headers code flow (first ∷ rest) [] same are at pc instruction less e = absurd (omega (arith, same))
finds Goes headers code flow (first ∷ rest) (frame ∷ frames) same are zero pc instruction less e =
    let place : Place = record { flow = flow; pc = first.0; instruction = first.1; rest = rest } in
    subst (λ (one : ℕ × Instruction). Finds Goes headers code one.0 one.1) e
    (record { frame = frame; has = subst (λ found. IfSome found (λ frame. FrameKeeps Goes headers code place frame rule.Operands)) are.0 are.1.1.1.0 })
finds Goes headers code flow (first ∷ rest) (frame ∷ frames) same are (suc at) pc instruction less e =
    finds Goes headers code (flow_behind code (record { flow = flow; pc = first.0; instruction = first.1; rest = rest }) frame) rest frames (omega (arith, same)) are.2 at pc instruction (omega (arith, less)) e

pub gives-nothing : (world : List Header) (typed : Typed) → IsStrict world typed → (pc : ℕ) (instruction : Instruction) → Contains typed.code.instructions (pc, instruction) → instruction ≡ Return None → result_of typed.code.descriptor ≡ None
gives-nothing world typed strict pc instruction there is = by (result_of typed.code.descriptor) refl
  where
    found : Finds (Strictly world) world typed.code pc instruction
    found = finds (Strictly world) world typed.code (Some _) typed.code.instructions (table_of typed) strict.table.number strict.table.are there.0 pc instruction there.1 there.2

    by : (result : Option JType) → result_of typed.code.descriptor ≡ result → result_of typed.code.descriptor ≡ None
    by None e = e
    by (Some type) e = absurd (
        let has : HasOperands (Strictly world) world typed.code pc (work typed.code (Return None)) found.frame = subst (λ one. HasOperands (Strictly world) world typed.code pc (work typed.code one) found.frame) is found.has in
        subst (λ result. HasOperands (Strictly world) world typed.code pc (leave result None) found.frame) e has)
