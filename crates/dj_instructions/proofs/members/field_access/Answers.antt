use Rattle.std.specs.Option.{option_map}
use Rattle.dj_instructions.specs.Instructions.{view_instruction}
use Rattle.dj_instructions.specs.PoolNames.{view_reference}
use Rattle.dj_instructions.specs.PoolMeanings.{access_of}
use Rattle.dj_instructions.proofs.Meant.{reference_meant}
use Rattle.dj_instructions.proofs.members.field_access.Goals as goal

pub returns-in-Some : goal.returns-in-Some
returns-in-Some c =
    let names = rw c.in-Some.is at c.in_ok-reference.ensures.named in
    record { meant = reference_meant c.args.pool.now c.args.index (access_of c.args.opcode) (view_reference c.in-Some.reference) (option_map view_instruction c.access_of.result) names c.access_of.ensures.access }

pub returns-in-None : goal.returns-in-None
returns-in-None c = let none = rw c.in-None.is at c.in_ok-reference.ensures.named in record { meant = λ i h. none h.0 h.1 }
