use Rattle.std.proofs.Common.{◌≡◌}
use Rattle.dj_names.specs.declared.members.MethodHead.{MethodHead}
use Rattle.dj_names.specs.Types.{view_descriptor}
use Rattle.dj_kinds.specs.Own.{IsMethodOf, IsSeen}
use Rattle.dj_kinds.proofs.PickLemmas.{first_of_name}
use Rattle.dj_kinds.proofs.pickers.SignatureMethodPicker.pick.Goals as goal

pub returns-clause-picks : goal.returns-clause-picks
returns-clause-picks c =
    let name = c.args.self.now.name.now in
    let descriptor = view_descriptor c.args.self.now.descriptor.now in
    let Seen = IsSeen c.args.view.headers.now c.args.view.start.now c.args.view.class.now in
    first_of_name c.args.methods.now (λ (m : MethodHead). m.name) c.args.names.now name c.requires.named
    (λ (m : MethodHead). (view_descriptor m.descriptor ≡ descriptor) × Seen m) (λ (m : MethodHead). IsMethodOf name descriptor m × Seen m)
    (λ m. (λ h. ((h.0, h.1.0), h.1.1), λ h. (h.0.0, (h.0.1, h.1)))) c.first_named.result c.first_named.ensures.first
