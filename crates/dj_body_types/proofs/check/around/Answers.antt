use Rattle.dj_syntax.specs.Trees.{view_body}
use Rattle.dj_body_types.specs.Views.{writing_of}
use Rattle.dj_body_types.proofs.BodyLemmas.{around_is}
use Rattle.dj_body_types.proofs.check.around.Goals as goal

pub returns : goal.returns
returns c = record {
  around = around_is (writing_of c.args.said.now) c.args.headers.now c.args.members.now (view_body c.args.body.now) c.is_static-has_this.result c.is_constructor-constructs.result c.is_static-has_this.ensures.of_class c.is_constructor-constructs.ensures.constructor;
}
