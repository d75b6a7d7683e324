use Rattle.std.proofs.Common.{rules, ◌≡◌, ap, sym, ◌∙◌}
use Rattle.std.specs.Prelude.{option_map}
use Rattle.std.proofs.lemmas.Option.{slice_get-map}
use Rattle.dj_names.specs.declared.types.JType as code
use Rattle.dj_names.specs.declared.types.JType.{the_lemmas}
use Rattle.dj_names.specs.Types as types
use Rattle.dj_names.specs.Types.{view_type}
use Rattle.dj_declaring.specs.Entries as spec
use Rattle.dj_declarer.proofs.heads.kind_at.Goals as goal

is_int : view_type code.Int ≡ types.Int
is_int = search (rules, the_lemmas)

pub returns-in-None : goal.returns-in-None
returns-in-None c = record { kind = is_int ∙ ap spec.kind_or_int (ap (option_map view_type) c.in-None.ensures.there ∙ sym (slice_get-map view_type c.args.kinds.now c.args.number)) }

pub returns-in_ok-copy-in-Some : goal.returns-in_ok-copy-in-Some
returns-in_ok-copy-in-Some c = record {
  kind = ap view_type c.in_ok-copy-in-Some.ensures.equal
      ∙ ap spec.kind_or_int (ap (option_map view_type) c.in-Some.ensures.there ∙ sym (slice_get-map view_type c.args.kinds.now c.args.number));
}
