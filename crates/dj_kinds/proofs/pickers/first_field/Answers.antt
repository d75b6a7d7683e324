use Rattle.std.proofs.Common.{◌≡◌}
use Rattle.dj_names.specs.declared.members.Field.{Field}
use Rattle.dj_names.specs.Types.{view_type}
use Rattle.dj_kinds.specs.Own.{IsFieldOf}
use Rattle.dj_kinds.proofs.PickLemmas.{first_of_name}
use Rattle.dj_kinds.proofs.pickers.first_field.Goals as goal

pub returns : goal.returns
returns c =
    let name = c.args.name.now in
    let type = view_type c.args.kind.now in
    record {
      first = first_of_name c.args.fields.now (λ (f : Field). f.name) c.args.names.now name c.requires.named (λ (f : Field). view_type f.descriptor ≡ type) (IsFieldOf name type) (λ f. (λ h. h, λ h. h)) c.first_named.result
          c.first_named.ensures.first;
    }
