use Rattle.std.proofs.Common.{◌++◌, ◌<◌, ◌∙◌, sym, ap, arith, flat_map, length}
use Rattle.std.proofs.lemmas.List.{get_or-map, length-map, take_all}
use Rattle.dj_names.specs.Types.{view_type, view_types}
use Rattle.dj_names.specs.Descriptors.{spell_type}
use Rattle.dj_write.proofs.Spelled.{item_more}
use Rattle.dj_write.proofs.descriptors.push_types.Goals as goal

pub loop-kind-preserved : goal.loop-kind-preserved
loop-kind-preserved c =
    let kinds = c.args.kinds.now in
    let i = c.loop-kind.kind-index in
    let one = c.kind-item.result in
    let inside : i < length kinds = omega arith in
    let is = sym (get_or-map view_type kinds i one (view_type one) inside ∙ ap view_type (sym c.kind-item.is)) in
    item_more spell_type (view_types kinds) i (view_type one) _ _ _ (rw length-map inside) is c.loop-kind.invariant c.in_ok-push_type.ensures.pushed

pub returns : goal.returns
returns c =
    let all = view_types c.args.kinds.now in
    record { pushed = c.loop-kind.invariant ∙ ap (λ kinds. c.args.units.now.items ++ flat_map spell_type kinds) (take_all c.loop-kind.kind-index all (rw length-map (omega arith))) }
