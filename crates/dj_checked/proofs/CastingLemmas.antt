-- The tests of types decide what they test.
use Rattle.std.proofs.Common.{◌≡◌, true, Decides, List, [], ◌∷◌, refl, sym, ap, inl, inr}
use Rattle.std.proofs.lemmas.Bool.{and_parts}
use Rattle.std.proofs.lemmas.Bool.Decides.{Decides-like, Decides-and, Decides-or}
use Rattle.dj_names.specs.declared.header.Header.{Header}
use Rattle.dj_names.specs.Headers.{Name}
use Rattle.dj_names.specs.Types.{JType, Class, StaticType}
use Rattle.dj_names.specs.Assignable.{object_name, IsSubtype, IsAssignable, parent}
use Rattle.dj_names.proofs.AssignableLemmas.{GoesUp, class_cases, object_class}
use Rattle.dj_values.specs.Deciding.{is_type, goes_up}
use Rattle.dj_values.proofs.Deciding.{Decides-name, Decides-implements}
use Rattle.dj_meaning.specs.Calls.{is_assignable}
use Rattle.dj_static.proofs.TypeLemmas.{Decides-types, Decides-all_assignable}
use Rattle.dj_static.proofs.VisibleLemmas.{Decides-interface}

pub Decides-type : (first second : JType) → Decides (is_type first second) (first ≡ second)
Decides-type first second = (
  λ is. let same : (first ∷ []) ≡ (second ∷ []) = (Decides-types (first ∷ []) (second ∷ [])).0 (rw is refl) in cc,
  λ same. (and_parts (is_type first second) true ((Decides-types (first ∷ []) (second ∷ [])).1 (ap (λ type. type ∷ []) same))).0,
)

pub Decides-assignable : (headers : List Header) (from : StaticType) (to : JType) → Decides (is_assignable headers from to) (IsAssignable headers from to)
Decides-assignable headers from to = (
  λ is. ((Decides-all_assignable headers (from ∷ []) (to ∷ [])).0 (rw is refl)).0,
  λ goes. (and_parts (is_assignable headers from to) true ((Decides-all_assignable headers (from ∷ []) (to ∷ [])).1 (goes, tt))).0,
)

up_so : (headers : List Header) (from to : Name) → GoesUp headers from to → IsSubtype headers (Class from) (Class to)
up_so headers from to (inl above) = parent above
up_so headers from to (inr object) = object_class headers from to (sym object.1) object.0

pub Decides-goes_up : (headers : List Header) (from to : Name) → Decides (goes_up headers from to) (IsSubtype headers (Class from) (Class to))
Decides-goes_up headers from to =
    Decides-like (goes_up headers from to) (up_so headers from to) (class_cases headers from to)
    (Decides-or _ _ (Decides-implements headers from to) (Decides-and _ _ (Decides-interface headers from) (Decides-name to object_name)))
