use Rattle.std.proofs.Common.{◌≡◌, List, [], ◌∷◌, ◌++◌, map, sym, ap, ◌∙◌}
use Rattle.std.proofs.lemmas.List.{map_push, replicate_more}
use Rattle.dj_names.specs.declared.types.JType.TheFolds.{fold-roll-JType}
use Rattle.dj_names.specs.declared.types.JType.TheOpen as layer
use Rattle.dj_names.specs.declared.types.JType.TheVariants as variants
use Rattle.dj_names.specs.Types.{JType, Int, type_layer, view_type, view_types}
use Rattle.dj_evaluating.proofs.evaluating.ints.Goals as goal

view-int : view_type variants.Int ≡ Int
view-int = ap view_type (sym variants.rolls-Int) ∙ fold-roll-JType JType type_layer layer.Int

pub loop-made-preserved : goal.loop-made-preserved
loop-made-preserved c =
    ap view_types c.in_ok-push.ensures.ok ∙ map_push view_type c.loop-made.kinds variants.Int ∙ ap (λ (type : JType). map view_type c.loop-made.kinds ++ type ∷ []) view-int
    ∙ ap (λ (types : List JType). types ++ Int ∷ []) c.loop-made.invariant ∙ replicate_more c.loop-made._made Int
