use Rattle.dj_class.specs.Views.{view_method}
use Rattle.dj_causes.proofs.HeadLemmas.{in_head}
use Rattle.dj_causes.proofs.unsaid.head_names.Goals as goal

pub returns : goal.returns
returns c = record { names = in_head (view_method c.args.method.now) c.add_descriptor.new.names c.add_all.new.names (rw c.new-names.ensures at c.in_ok-add_descriptor.ensures.gains) (rw c.as_slice.ensures at c.in_ok-add_all.ensures.behind) }
