-- How the types that are made while reading are seen plainly.
use Rattle.std.proofs.Common.{◌≡◌, ℕ, List, sym, ap, ◌∙◌, [], ◌∷◌, ◌++◌}
use Rattle.std.proofs.lemmas.List.{map-append}
use Rattle.dj_names.specs.declared.types.JType as code
use Rattle.dj_names.specs.declared.types.JType.TheFolds.{fold-roll-JType}
use Rattle.dj_names.specs.declared.types.JType.TheOpen as layer
use Rattle.dj_names.specs.declared.types.JType.TheVariants as variants
use Rattle.dj_names.specs.Types.{JType, Class, Array, type_layer, view_type, view_types}

-- a class
pub view-class : (name : List ℕ) → view_type (variants.Class name) ≡ Class name
view-class name = ap view_type (sym (variants.rolls-Class name)) ∙ fold-roll-JType JType type_layer (layer.Class name)

-- an array
pub view-array : (kind : code.JType) → view_type (variants.Array kind) ≡ Array (view_type kind)
view-array kind = ap view_type (sym (variants.rolls-Array kind)) ∙ fold-roll-JType JType type_layer (layer.Array kind)

-- a type more
pub view_types-push : (kinds pushed : List code.JType) (kind : code.JType) → pushed ≡ kinds ++ kind ∷ [] → view_types pushed ≡ view_types kinds ++ view_type kind ∷ []
view_types-push kinds pushed kind e = ap view_types e ∙ map-append view_type kinds (kind ∷ [])
