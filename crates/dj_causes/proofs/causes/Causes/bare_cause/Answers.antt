use Rattle.std.proofs.Common.{ap, ◌∙◌}
use Rattle.dj_class.specs.declared.method.Method.{Method}
use Rattle.dj_causes.proofs.ToldLemmas.{first_told, said_told}
use Rattle.dj_causes.proofs.causes.Causes.bare_cause.Goals as goal

pub returns-in_ok-cause-in-None-clause-first : goal.returns-in_ok-cause-in-None-clause-first
returns-in_ok-cause-in-None-clause-first c =
    first_told c.args.world.now c.args.class.now c.args.self.now.methods c.args.at c.index-as_slice-at.result c.index-as_slice-at-in-None.result c.in_ok-cause-in-None.cause c.requires.made.methods c.requires.within
    (rw c.as_slice.ensures at c.index-as_slice-at.is) (ap (λ (m : Method). m.code) c.index-as_slice-at.is ∙ c.in-None.is) (rw c.as_slice-in-None.ensures at c.index-as_slice-at-in-None.is) c.in_ok-cause-in-None.ensures.equal

pub returns-in_ok-cause-in-None-clause-said : goal.returns-in_ok-cause-in-None-clause-said
returns-in_ok-cause-in-None-clause-said c =
    said_told c.args.world.now c.args.class.now c.args.self.now.methods c.args.at c.index-as_slice-at.result c.index-as_slice-at-in-None.result c.in_ok-cause-in-None.cause c.requires.made.methods c.requires.within
    (rw c.as_slice.ensures at c.index-as_slice-at.is) (ap (λ (m : Method). m.code) c.index-as_slice-at.is ∙ c.in-None.is) (rw c.as_slice-in-None.ensures at c.index-as_slice-at-in-None.is) c.in_ok-cause-in-None.ensures.equal
