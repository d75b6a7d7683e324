use Rattle.dj_class.specs.Views.{view_class, view_method}
use Rattle.dj_causes.proofs.BareCauseLemmas.{least_unsaid_name}
use Rattle.dj_causes.proofs.bare.BareTable.unsaid_in_method.Goals as goal

pub returns : goal.returns
returns c = record {
  least = least_unsaid_name c.args.world.now (view_class c.args.class.now) (view_method c.args.method.now) c.in_ok-head.head c.in_ok-head.ensures.names c.in_ok-name.name c.args.self.now.common c.in_ok-own.own c.lesser.result c.lesser-2.result c.in_ok-name.ensures.unsaid c.requires.made.common
      (rw c.as_slice.ensures at (c.in_ok-own.ensures.least c.args.class.now.this_class c.requires.scope)) (rw c.in_ok-common.ensures.equal at c.lesser.ensures.lesser) c.lesser-2.ensures.lesser;
}
