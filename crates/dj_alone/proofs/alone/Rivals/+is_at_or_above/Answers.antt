use Rattle.std.proofs.Common.{◌-◌, map, sym, arith, ◌∙◌}
use Rattle.std.specs.List.{list_any}
use Rattle.dj_kinds.specs.Search.{depth_first}
use Rattle.dj_names.specs.Types.{view_types}
use Rattle.dj_meaning.specs.Members.{view_members}
use Rattle.dj_alone.specs.Rivals.{has}
use Rattle.dj_alone.proofs.Walking.{depth-fails, depth-nowhere, item-passes, items-end}
use Rattle.dj_alone.proofs.alone.Rivals.+is_at_or_above.Goals as goal

pub returns-then-not-has_above : goal.returns-then-not-has_above
returns-then-not-has_above t c = record {
  above = sym (depth-nowhere (has c.args.self.headers.now (map view_members c.args.self.members.now) c.args.self.class.now c.args.self.name.now (view_types c.args.self.parameters.now)) c.args.self.headers.now c.args.most c.args.interface.now (c.has_above.ensures.nowhere c.if-not-has_above.true));
}

pub returns-then-is_at_or_above : goal.returns-then-is_at_or_above
returns-then-is_at_or_above t c = record {
  above = sym (depth-fails (has c.args.self.headers.now (map view_members c.args.self.members.now) c.args.self.class.now c.args.self.name.now (view_types c.args.self.parameters.now)) c.args.self.headers.now c.args.most c.args.interface.now c.if-most-eq0.false (sym c.has.ensures.has ∙ c.if-has.false) ∙ c.loop-parent.invariant
      ∙ item-passes (λ parent. list_any (has c.args.self.headers.now (map view_members c.args.self.members.now) c.args.self.class.now c.args.self.name.now (view_types c.args.self.parameters.now)) (depth_first (c.args.most - 1) c.args.self.headers.now parent)) c.interfaces_of-parent-items.result.now c.loop-parent.parent-index c.parent-item.result (omega arith) c.parent-item.is (sym c.is_at_or_above.ensures.above ∙ c.if-is_at_or_above.true));
}

pub returns : goal.returns
returns t c = record {
  above = sym (depth-fails (has c.args.self.headers.now (map view_members c.args.self.members.now) c.args.self.class.now c.args.self.name.now (view_types c.args.self.parameters.now)) c.args.self.headers.now c.args.most c.args.interface.now c.if-most-eq0.false (sym c.has.ensures.has ∙ c.if-has.false) ∙ c.loop-parent.invariant
      ∙ items-end (λ parent. list_any (has c.args.self.headers.now (map view_members c.args.self.members.now) c.args.self.class.now c.args.self.name.now (view_types c.args.self.parameters.now)) (depth_first (c.args.most - 1) c.args.self.headers.now parent)) c.interfaces_of-parent-items.result.now c.loop-parent.parent-index (omega arith));
}
