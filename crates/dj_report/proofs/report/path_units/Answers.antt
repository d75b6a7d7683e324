use Rattle.std.proofs.Common.{ℕ, refl, sym, ap, ◌∙◌}
use Rattle.std.specs.List.{flat_map}
use Rattle.std.specs.Char.Escape.{encode_utf16}
use Rattle.std.proofs.lemmas.Iterator.{YieldsList-from_chars}
use Rattle.std.proofs.lemmas.Iterator.Consumers.{YieldsList-end}
use Rattle.std.proofs.lemmas.List.Folds.{map_fixed}
use Rattle.dj_report.proofs.report.path_units.Goals as goal

pub returns : goal.returns
returns c =
    let end = YieldsList-end (YieldsList-from_chars c.args.path.now c.utf8.path cc) c.loop-character.yielded _ c.loop-character.yielded_by _ _ c.in-None.is c.next.ensures.steps in
    let all = sym (map_fixed (λ (x : ℕ). x) c.loop-character.yielded (λ _ _ _. refl)) ∙ end.0 in
    record { units = c.in_ok-units.ensures.units ∙ c.loop-character.invariant ∙ ap (flat_map encode_utf16) all }
