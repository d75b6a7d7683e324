use Rattle.std.proofs.Common.{◌∙◌, sym}
use Rattle.std.proofs.lemmas.List.{at_drop_all}
use Rattle.dj_static.specs.Walks.{meet_all}
use Rattle.dj_static.proofs.WalkLemmas.{meet_more}
use Rattle.dj_static.proofs.walks.Walk.meet_all.Goals as goal

pub loop-class-preserved : goal.loop-class-preserved
loop-class-preserved c =
    meet_more c.args.headers.now c.args.classes.now c.loop-class.class-index c.class-item.result c.loop-class.self c.meet_named.new.self c.loop-class-test.true c.class-item.is (c.in_ok-meet_named.ensures.ok) ∙ c.loop-class.invariant

pub returns : goal.returns
returns c = record {
  ok = sym (at_drop_all (λ classes. meet_all c.args.headers.now classes c.loop-class.self) c.args.classes.now c.loop-class.class-index c.loop-class-test.false) ∙ c.loop-class.invariant;
}
