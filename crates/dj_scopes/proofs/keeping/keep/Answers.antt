use Rattle.std.proofs.Common.{ap, ◌∙◌}
use Rattle.std.specs.Option.{option_map}
use Rattle.dj_names.specs.Types.{view_type}
use Rattle.dj_scopes.specs.Keeping.{scope_back, with_kind}
use Rattle.dj_scopes.proofs.KeepingLemmas.{scope_back-push}
use Rattle.dj_scopes.proofs.keeping.keep.Goals as goal

pub returns : goal.returns
returns c = record {
  kept = λ other.
      ap (λ list. scope_back list other) c.in_ok-push.ensures.ok ∙ scope_back-push c.args.kept.now _ other
      ∙ ap (λ type. scope_back c.args.kept.now (with_kind c.args.variable type other)) (ap (option_map view_type) c.in_ok-kind.ensures.equal ∙ c.kind.ensures.kind);
}
