use Rattle.std.proofs.Common.{map, sym, arith, ◌∙◌}
use Rattle.dj_names.specs.Types.{view_types}
use Rattle.dj_meaning.specs.Members.{view_members}
use Rattle.dj_alone.specs.Rivals.{has}
use Rattle.dj_alone.proofs.Walking.{up-last, up-next}
use Rattle.dj_alone.proofs.alone.Rivals.is_upward.Goals as goal

pub returns-in-None : goal.returns-in-None
returns-in-None c = record {
  upward = sym (c.loop.invariant ∙ up-last (has c.args.self.headers.now (map view_members c.args.self.members.now) c.args.self.class.now c.args.self.name.now (view_types c.args.self.parameters.now)) c.args.self.headers.now c.args.most c.loop.counter c.loop.at.now (omega arith) (sym c.has.ensures.has ∙ c.if-has.false) c.in-None.ensures.superclass);
}

pub loop-preserved : goal.loop-preserved
loop-preserved c = c.loop.invariant ∙ up-next (has c.args.self.headers.now (map view_members c.args.self.members.now) c.args.self.class.now c.args.self.name.now (view_types c.args.self.parameters.now)) c.args.self.headers.now c.args.most c.loop.counter c.loop.at.now c.in-Some.superclass.now (omega arith) (sym c.has.ensures.has ∙ c.if-has.false) c.in-Some.ensures.superclass
