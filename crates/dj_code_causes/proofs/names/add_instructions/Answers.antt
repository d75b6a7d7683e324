use Rattle.std.proofs.Common.{ℕ, arith}
use Rattle.dj_instructions.specs.declared.instruction.Instruction.{Instruction}
use Rattle.dj_instructions.specs.Instructions.{view_instruction}
use Rattle.dj_code_causes.specs.NamedIn.{IsInInstruction}
use Rattle.dj_names.specs.Headers.{Name}
use Rattle.dj_causes.proofs.HeadLemmas.{gained_none, gained_more, gained_all}
use Rattle.dj_code_causes.proofs.names.add_instructions.Goals as goal

pub loop-at-init : goal.loop-at-init
loop-at-init c = gained_none (λ (name : Name) (at : ℕ × Instruction). IsInInstruction (view_instruction at.1) name) c.args.instructions.now c.args.names.now

pub loop-at-preserved : goal.loop-at-preserved
loop-at-preserved c =
    gained_more (λ (name : Name) (at : ℕ × Instruction). IsInInstruction (view_instruction at.1) name) c.args.instructions.now c.loop-at.at-index c.at-item.result c.args.names.now c.loop-at.names c.add_instruction.new.names (omega arith) c.at-item.is
    c.loop-at.invariant c.in_ok-add_instruction.ensures.gains

pub returns : goal.returns
returns c = record { gains = gained_all (λ (name : Name) (at : ℕ × Instruction). IsInInstruction (view_instruction at.1) name) c.args.instructions.now c.loop-at.at-index c.args.names.now c.loop-at.names (omega arith) c.loop-at.invariant }
