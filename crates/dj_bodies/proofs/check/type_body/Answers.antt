use Rattle.dj_body_types.specs.Views.{writing_of}
use Rattle.dj_bodies.proofs.check.type_body.Goals as goal

pub returns-clause-fault : goal.returns-clause-fault
returns-clause-fault c = record {
  writing = writing_of c.in_ok-said.said;
  right = rw (c.headers.ensures.headers, c.members.ensures.members) at c.in_ok-said.ensures.right;
  first = rw (c.headers-headers.ensures.headers, c.member_table-members.ensures.members, c.in-Some.is) at c.in_ok-first_fault.ensures.tells;
}
