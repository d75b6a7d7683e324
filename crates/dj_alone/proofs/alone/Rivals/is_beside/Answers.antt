use Rattle.std.proofs.Common.{map, sym, arith, ◌∙◌}
use Rattle.std.specs.List.{list_any}
use Rattle.dj_kinds.specs.Search.{depth_first, interfaces_of}
use Rattle.dj_names.specs.Types.{view_types}
use Rattle.dj_meaning.specs.Members.{view_members}
use Rattle.dj_alone.specs.Rivals.{has}
use Rattle.dj_alone.proofs.Walking.{any-flat, item-passes, items-end}
use Rattle.dj_alone.proofs.alone.Rivals.is_beside.Goals as goal

pub returns-then-is_at_or_above : goal.returns-then-is_at_or_above
returns-then-is_at_or_above c = record {
  beside = sym (any-flat (has c.args.self.headers.now (map view_members c.args.self.members.now) c.args.self.class.now c.args.self.name.now (view_types c.args.self.parameters.now)) (depth_first c.args.most c.args.self.headers.now) (interfaces_of c.args.self.headers.now c.args.class.now) ∙ c.loop-interface.invariant
      ∙ item-passes (λ parent. list_any (has c.args.self.headers.now (map view_members c.args.self.members.now) c.args.self.class.now c.args.self.name.now (view_types c.args.self.parameters.now)) (depth_first c.args.most c.args.self.headers.now parent)) c.interfaces_of-interface-items.result.now c.loop-interface.interface-index c.interface-item.result (omega arith) c.interface-item.is (sym c.is_at_or_above.ensures.above ∙ c.if-is_at_or_above.true));
}

pub returns : goal.returns
returns c = record {
  beside = sym (any-flat (has c.args.self.headers.now (map view_members c.args.self.members.now) c.args.self.class.now c.args.self.name.now (view_types c.args.self.parameters.now)) (depth_first c.args.most c.args.self.headers.now) (interfaces_of c.args.self.headers.now c.args.class.now) ∙ c.loop-interface.invariant
      ∙ items-end (λ parent. list_any (has c.args.self.headers.now (map view_members c.args.self.members.now) c.args.self.class.now c.args.self.name.now (view_types c.args.self.parameters.now)) (depth_first c.args.most c.args.self.headers.now parent)) c.interfaces_of-interface-items.result.now c.loop-interface.interface-index (omega arith));
}
