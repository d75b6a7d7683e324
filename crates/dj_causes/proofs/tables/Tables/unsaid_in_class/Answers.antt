use Rattle.std.proofs.Common.{inl}
use Rattle.dj_class.specs.Views.{view_class}
use Rattle.dj_causes.specs.ClassCauses.{IsOwnSaid}
use Rattle.dj_causes.proofs.ClassCauseLemmas.{fails, unsaid_parent}
use Rattle.dj_causes.proofs.tables.Tables.unsaid_in_class.Goals as goal

pub returns-in_ok-parent : goal.returns-in_ok-parent
returns-in_ok-parent c = record {
  first =
      let is_scope = c.requires.made.scope in
      unsaid_parent c.args.world.now (view_class c.args.class.now) c.in_ok-parent.parent (((rw c.headers.ensures.headers at c.in_ok-own.ensures.unobscured) c.args.world.now.members c.args.class.now.this_class is_scope).0 c.if-own.true) (c.in_ok-parent.ensures.first c.args.class.now.this_class is_scope);
}

pub returns-in_ok-units : goal.returns-in_ok-units
returns-in_ok-units c = record {
  first =
      let is_scope = c.requires.made.scope in
      inl (fails c.in_ok-own.own (IsOwnSaid c.args.world.now c.args.class.now.this_class) ((rw c.headers.ensures.headers at c.in_ok-own.ensures.unobscured) c.args.world.now.members c.args.class.now.this_class is_scope) c.if-own.false, c.in_ok-units.ensures.units);
}
