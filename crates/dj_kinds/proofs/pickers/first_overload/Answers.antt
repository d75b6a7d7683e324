use Rattle.std.proofs.Common.{◌≡◌}
use Rattle.dj_names.specs.declared.members.MethodHead.{MethodHead}
use Rattle.dj_names.specs.Types.{view_types, view_descriptor, parameters_of}
use Rattle.dj_kinds.specs.Own.{IsOverload, IsSeen}
use Rattle.dj_kinds.proofs.PickLemmas.{first_of_name}
use Rattle.dj_kinds.proofs.pickers.first_overload.Goals as goal

pub returns : goal.returns
returns c =
    let name = c.args.name.now in
    let parameters = view_types c.args.parameters.now in
    let Seen = IsSeen c.args.view.headers.now c.args.view.start.now c.args.view.class.now in
    record {
      first = first_of_name c.args.methods.now (λ (m : MethodHead). m.name) c.args.names.now name c.requires.named
          (λ (m : MethodHead). (parameters_of (view_descriptor m.descriptor) ≡ parameters) × Seen m) (λ (m : MethodHead). IsOverload name parameters m × Seen m)
          (λ m. (λ h. ((h.0, h.1.0), h.1.1), λ h. (h.0.0, (h.0.1, h.1)))) c.first_named.result c.first_named.ensures.first;
    }
