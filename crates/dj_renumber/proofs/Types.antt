-- Two types are one where the test says so.
use Rattle.std.proofs.Common.{Decides, true, [], ◌∷◌, ◌≡◌, refl, ap}
use Rattle.std.proofs.lemmas.Bool.{and_parts, and_from}
use Rattle.dj_names.specs.Types.{JType}
use Rattle.dj_values.specs.Deciding.{is_type}
use Rattle.dj_static.proofs.TypeLemmas.{Decides-types}

one_type : (first second : JType) → is_type first second ≡ true → first ≡ second
one_type first second is =
    let same : first ∷ [] ≡ second ∷ [] = (Decides-types (first ∷ []) (second ∷ [])).0 (and_from (is_type first second) true is refl) in cc

pub decides_type : (first second : JType) → Decides (is_type first second) (first ≡ second)
decides_type first second = (
  one_type first second,
  λ same. (and_parts (is_type first second) true ((Decides-types (first ∷ []) (second ∷ [])).1 (ap (λ one. one ∷ []) same))).0,
)
