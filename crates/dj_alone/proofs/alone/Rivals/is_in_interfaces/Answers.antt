use Rattle.std.proofs.Common.{map, Some, sym, arith, ◌∙◌}
use Rattle.std.specs.List.{list_any}
use Rattle.dj_kinds.specs.Search.{upward, beside}
use Rattle.dj_names.specs.Types.{view_types}
use Rattle.dj_meaning.specs.Members.{view_members}
use Rattle.dj_alone.specs.Rivals.{has}
use Rattle.dj_alone.proofs.Walking.{any-flat, up-passes, up-last, up-next, up-end}
use Rattle.dj_alone.proofs.alone.Rivals.is_in_interfaces.Goals as goal

pub returns-then-is_beside : goal.returns-then-is_beside
returns-then-is_beside c = record {
  beside = sym (any-flat (has c.args.self.headers.now (map view_members c.args.self.members.now) c.args.self.class.now c.args.self.name.now (view_types c.args.self.parameters.now)) (beside c.args.most c.args.self.headers.now) (upward c.args.most c.args.self.headers.now (Some c.args.self.class.now)) ∙ c.loop.invariant
      ∙ up-passes (λ class. list_any (has c.args.self.headers.now (map view_members c.args.self.members.now) c.args.self.class.now c.args.self.name.now (view_types c.args.self.parameters.now)) (beside c.args.most c.args.self.headers.now class)) c.args.self.headers.now c.args.most c.loop.counter c.loop.at.now (omega arith) (sym c.is_beside.ensures.beside ∙ c.if-is_beside.true));
}

pub returns-in-None : goal.returns-in-None
returns-in-None c = record {
  beside = sym (any-flat (has c.args.self.headers.now (map view_members c.args.self.members.now) c.args.self.class.now c.args.self.name.now (view_types c.args.self.parameters.now)) (beside c.args.most c.args.self.headers.now) (upward c.args.most c.args.self.headers.now (Some c.args.self.class.now)) ∙ c.loop.invariant
      ∙ up-last (λ class. list_any (has c.args.self.headers.now (map view_members c.args.self.members.now) c.args.self.class.now c.args.self.name.now (view_types c.args.self.parameters.now)) (beside c.args.most c.args.self.headers.now class)) c.args.self.headers.now c.args.most c.loop.counter c.loop.at.now (omega arith) (sym c.is_beside.ensures.beside ∙ c.if-is_beside.false) c.in-None.ensures.superclass);
}

pub loop-preserved : goal.loop-preserved
loop-preserved c = c.loop.invariant ∙ up-next (λ class. list_any (has c.args.self.headers.now (map view_members c.args.self.members.now) c.args.self.class.now c.args.self.name.now (view_types c.args.self.parameters.now)) (beside c.args.most c.args.self.headers.now class)) c.args.self.headers.now c.args.most c.loop.counter c.loop.at.now c.in-Some.superclass.now (omega arith) (sym c.is_beside.ensures.beside ∙ c.if-is_beside.false) c.in-Some.ensures.superclass

pub returns : goal.returns
returns c = record {
  beside = sym (any-flat (has c.args.self.headers.now (map view_members c.args.self.members.now) c.args.self.class.now c.args.self.name.now (view_types c.args.self.parameters.now)) (beside c.args.most c.args.self.headers.now) (upward c.args.most c.args.self.headers.now (Some c.args.self.class.now)) ∙ c.loop.invariant ∙ up-end (λ class. list_any (has c.args.self.headers.now (map view_members c.args.self.members.now) c.args.self.class.now c.args.self.name.now (view_types c.args.self.parameters.now)) (beside c.args.most c.args.self.headers.now class)) c.args.self.headers.now c.args.most c.loop.counter c.loop.at.now (omega arith));
}
