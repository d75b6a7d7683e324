use Rattle.std.proofs.Common.{sym, ap, ◌∙◌, option_map}
use Rattle.std.specs.Option.{option_copied}
use Rattle.dj_names.specs.Types.{view_static}
use Rattle.dj_syntax.specs.Trees.{view_stms}
use Rattle.dj_meaning.specs.Calls.{is_assignable}
use Rattle.dj_pending.specs.Entries.{view_atom}
use Rattle.dj_pending.specs.Stacks.{stacked}
use Rattle.dj_pending.specs.Building.{view_built}
use Rattle.dj_pending.specs.Steps.{view_target}
use Rattle.dj_rebuild.specs.Stores.{as_stored}
use Rattle.dj_rebuild.specs.declared.stores.Stored.{Stored}
use Rattle.dj_rebuild.proofs.Storing.{null-stored}
use Rattle.dj_rebuild.proofs.stores.store_atom.Goals as goal

pub returns-then-is_null : goal.returns-then-is_null
returns-then-is_null c = record {
  stored = λ slot names.
      ap (λ (stored : Stored). as_stored slot names (option_map view_target (option_copied c.args.target)) stored (view_built c.args.built.now)) c.stored_null.ensures.stored
      ∙ null-stored (view_stms c.args.built.now.emitted) (is_assignable c.args.headers.now) c.args.of slot names c.args.built.now.next (view_static c.args.kind) (view_atom c.args.atom) (stacked c.args.built.now.stack) (option_map view_target (option_copied c.args.target))
      (sym c.is_null.ensures.null ∙ c.if-is_null.true);
}
