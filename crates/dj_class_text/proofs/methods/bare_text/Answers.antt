use Rattle.dj_class.specs.Views.{view_class}
use Rattle.dj_class_text.proofs.ShowingLemmas.{bare_refused, bare_free}
use Rattle.dj_class_text.proofs.methods.bare_text.Goals as goal
use Rattle.dj_class_text.proofs.methods.bare_text.Goals.{in-Some, in-None+in_ok-text-in-None}

pub returns : goal.returns
returns c = record {
  bare = elim c.match-cause.branch [
    | in-Some w ↦ rw w.result-is (bare_refused c.args.world.now (view_class c.args.class.now) c.args.at c.in_ok-cause.cause _ w.in-Some.is c.in_ok-cause.ensures.first)
    | in-None+in_ok-text-in-None w ↦
        rw w.result-is (bare_free c.args.world.now (view_class c.args.class.now) c.args.at c.in_ok-cause.cause w.in-None.is c.in_ok-cause.ensures.first c.in_ok-cause.ensures.said, rw w.is_interface.ensures.interface at w.in_ok-text-in-None.ensures.text)
  ];
}
