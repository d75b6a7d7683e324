use Rattle.std.specs.Option.{option_map}
use Rattle.dj_instructions.specs.Instructions.{view_instruction}
use Rattle.dj_instructions.specs.PoolNames.{Member, view_member}
use Rattle.dj_instructions.specs.PoolMeanings.{dynamic_call}
use Rattle.dj_instructions.proofs.Meant.{member_meant}
use Rattle.dj_instructions.proofs.members.dynamic_with.Goals as goal

pub returns-in-Some : goal.returns-in-Some
returns-in-Some c =
    let names = rw c.in-Some.is at c.in_ok-member.ensures.named in
    record { meant = member_meant c.args.pool.now c.args.index (λ (m : Member). dynamic_call c.args.bootstrap m.name m.descriptor) (view_member c.in-Some.member) (option_map view_instruction c.call_site.result) names c.call_site.ensures.call }

pub returns-in-None : goal.returns-in-None
returns-in-None c = let none = rw c.in-None.is at c.in_ok-member.ensures.named in record { meant = λ i h. none h.0 h.1 }
