use Rattle.dj_tags.proofs.Superclasses.{interface_at}
use Rattle.dj_tags.proofs.relations.is_interface_at.Goals as goal

pub returns : goal.returns
returns c = record { interface = λ class there. rw c.as_slice.ensures.headers (interface_at c.args.headers.now c.as_slice.ensures.distinct c.args.at c.index-as_slice-at.result class there) }
