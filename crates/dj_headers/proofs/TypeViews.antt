-- Types of the code, seen plainly, and where they go.
use Rattle.std.proofs.Common.{◌≡◌, ◌↔◌, ◌⊎◌, ℕ, zero, suc, List, [], ◌∷◌, Contains, ◌<◌, length, get_or, refl, sym, ap, subst, inl, inr, ◌∙◌, rules, arith}
use Rattle.dj_names.specs.declared.header.Header.{Header}
use Rattle.dj_names.specs.declared.types.JType as code
use Rattle.dj_names.specs.declared.types.JType.{the_lemmas}
use Rattle.dj_names.specs.declared.types.JType.TheVariants as variants
use Rattle.dj_names.specs.Types.{JType, Boolean, Byte, Char, Short, Int, Long, Float, Double, Class, Array, view_type}
use Rattle.dj_names.specs.Assignable.{wider_types, IsReference, above_arrays, IsSubtype, own_type, wider_number, elements, array}
use Rattle.dj_names.proofs.AssignableLemmas.{Beyond, ways, plain_way}

pub view-class : (name : List ℕ) → view_type (variants.Class name) ≡ Class name
view-class name = search (rules, the_lemmas)

pub view-array : (element : code.JType) → view_type (variants.Array element) ≡ Array (view_type element)
view-array element = search (rules, the_lemmas)

class_back : (kind : code.JType) (name : List ℕ) → view_type kind ≡ Class name → kind ≡ variants.Class name
class_back kind name h = search (rules, the_lemmas)

-- a type that is no class and no array goes to itself and to wider numbers alone
no_way_beyond : (headers : List Header) (from : code.JType) (to : JType) → ((name : List ℕ) → from ≡ variants.Class name → ⊥) → ((element : code.JType) → from ≡ variants.Array element → ⊥) → Beyond headers (view_type from) to → ⊥
no_way_beyond headers from to no_class no_array = go (view_type from) refl
  where
    no_array_seen : (element : JType) → view_type from ≡ Array element → ⊥
    no_array_seen element h = grind (arith, the_lemmas)

    go : (seen : JType) → view_type from ≡ seen → Beyond headers seen to → ⊥
    go Boolean is h = h
    go Byte is h = h
    go Char is h = h
    go Short is h = h
    go Int is h = h
    go Long is h = h
    go Float is h = h
    go Double is h = h
    go (Class name) is h = no_class name (class_back from name is)
    go (Array element) is h = no_array_seen element is

pub plain_subtype : (headers : List Header) (from : code.JType) (to : JType) → ((name : List ℕ) → from ≡ variants.Class name → ⊥) → ((element : code.JType) → from ≡ variants.Array element → ⊥)
    → IsSubtype headers (view_type from) to ↔ ((view_type from ≡ to) ⊎ Contains (wider_types (view_type from)) to)
plain_subtype headers from to no_class no_array = (
  λ goes. elim (ways headers (view_type from) to goes) [ inl plain ↦ plain | inr beyond ↦ absurd (no_way_beyond headers from to no_class no_array beyond) ],
  plain_way headers (view_type from) to,
)

-- ---- wider numbers

wider_at : (k : ℕ) (from to : code.JType) (lower upper : JType) → view_type from ≡ lower → view_type to ≡ upper → k < length (wider_types lower) → get_or (wider_types lower) k upper ≡ upper
    → Contains (wider_types (view_type from)) (view_type to)
wider_at k from to lower upper from_is to_is within is = rw (from_is, to_is) (k, within, is)

view-Byte : view_type variants.Byte ≡ Byte
view-Byte = search (rules, the_lemmas)

view-Char : view_type variants.Char ≡ Char
view-Char = search (rules, the_lemmas)

view-Short : view_type variants.Short ≡ Short
view-Short = search (rules, the_lemmas)

view-Int : view_type variants.Int ≡ Int
view-Int = search (rules, the_lemmas)

view-Long : view_type variants.Long ≡ Long
view-Long = search (rules, the_lemmas)

view-Float : view_type variants.Float ≡ Float
view-Float = search (rules, the_lemmas)

view-Double : view_type variants.Double ≡ Double
view-Double = search (rules, the_lemmas)

pub wider_than_byte : (from to : code.JType) → from ≡ variants.Byte
    → (to ≡ variants.Short) ⊎ ((to ≡ variants.Int) ⊎ ((to ≡ variants.Long) ⊎ ((to ≡ variants.Float) ⊎ (to ≡ variants.Double)))) → Contains (wider_types (view_type from)) (view_type to)
wider_than_byte from to is (inl short) = wider_at 0 from to Byte Short (ap view_type is ∙ view-Byte) (ap view_type short ∙ view-Short) (omega arith) refl
wider_than_byte from to is (inr (inl int)) = wider_at 1 from to Byte Int (ap view_type is ∙ view-Byte) (ap view_type int ∙ view-Int) (omega arith) refl
wider_than_byte from to is (inr (inr (inl long))) = wider_at 2 from to Byte Long (ap view_type is ∙ view-Byte) (ap view_type long ∙ view-Long) (omega arith) refl
wider_than_byte from to is (inr (inr (inr (inl float)))) = wider_at 3 from to Byte Float (ap view_type is ∙ view-Byte) (ap view_type float ∙ view-Float) (omega arith) refl
wider_than_byte from to is (inr (inr (inr (inr double)))) = wider_at 4 from to Byte Double (ap view_type is ∙ view-Byte) (ap view_type double ∙ view-Double) (omega arith) refl

module _ (lower : JType) (four : wider_types lower ≡ Int ∷ Long ∷ Float ∷ Double ∷ []) where
  pub wider_than_short : (from to : code.JType) → view_type from ≡ lower
      → (to ≡ variants.Int) ⊎ ((to ≡ variants.Long) ⊎ ((to ≡ variants.Float) ⊎ (to ≡ variants.Double))) → Contains (wider_types (view_type from)) (view_type to)
  wider_than_short from to is (inl int) = wider_at 0 from to lower Int is (ap view_type int ∙ view-Int) (rw four (omega arith)) (rw four refl)
  wider_than_short from to is (inr (inl long)) = wider_at 1 from to lower Long is (ap view_type long ∙ view-Long) (rw four (omega arith)) (rw four refl)
  wider_than_short from to is (inr (inr (inl float))) = wider_at 2 from to lower Float is (ap view_type float ∙ view-Float) (rw four (omega arith)) (rw four refl)
  wider_than_short from to is (inr (inr (inr double))) = wider_at 3 from to lower Double is (ap view_type double ∙ view-Double) (rw four (omega arith)) (rw four refl)

double_or_float : (kind : JType) → Contains (Float ∷ Double ∷ []) kind → (kind ≡ Float) ⊎ (kind ≡ Double)
double_or_float kind (zero, within, is) = inl (sym is)
double_or_float kind (suc zero, within, is) = inr (sym is)
double_or_float kind (suc (suc k), within, is) = absurd (omega arith)

pub none_wider_than_long : (from to : code.JType) → from ≡ variants.Long → (to ≡ variants.Float → ⊥) → (to ≡ variants.Double → ⊥) → ¬ Contains (wider_types (view_type from)) (view_type to)
none_wider_than_long from to is no_float no_double there =
    let from_is : view_type from ≡ Long = ap view_type is ∙ view-Long in
    let listed : Contains (Float ∷ Double ∷ []) (view_type to) = rw from_is at there in
    elim (double_or_float (view_type to) listed) [ inl float ↦ no_float (search (rules, the_lemmas)) | inr double ↦ no_double (search (rules, the_lemmas)) ]

pub view-char : (from : code.JType) → from ≡ variants.Char → view_type from ≡ Char
view-char from is = ap view_type is ∙ view-Char

pub view-short : (from : code.JType) → from ≡ variants.Short → view_type from ≡ Short
view-short from is = ap view_type is ∙ view-Short

-- ---- arrays

array_class_is : (headers : List Header) (element : JType) (to : List ℕ) → IsSubtype headers (Array element) (Class to) → Contains above_arrays to
array_class_is headers element to (wider_number (k, within, is)) = absurd (omega arith)
array_class_is headers element to (array above) = above

pub array_class : (headers : List Header) (from to element : code.JType) (name : List ℕ) → from ≡ variants.Array element → to ≡ variants.Class name → Contains above_arrays name ↔ IsSubtype headers (view_type from) (view_type to)
array_class headers from to element name is to_is = rw (is, to_is, view-array element, view-class name) (array, array_class_is headers (view_type element) name)

from_array : (headers : List Header) (from to : JType) → IsReference from → IsSubtype headers (Array from) (Array to) → IsSubtype headers from to
from_array headers from to reference own_type = own_type
from_array headers from to reference (wider_number (k, within, is)) = absurd (omega arith)
from_array headers from to reference (elements again h) = h

pub array_of_references : (headers : List Header) (from to element wanted : code.JType) → from ≡ variants.Array element → to ≡ variants.Array wanted → IsReference (view_type element)
    → IsSubtype headers (view_type element) (view_type wanted) ↔ IsSubtype headers (view_type from) (view_type to)
array_of_references headers from to element wanted is to_is reference =
    rw (is, to_is, view-array element, view-array wanted) (elements reference, from_array headers (view_type element) (view_type wanted) reference)

same_elements : (headers : List Header) (from to : JType) → (IsReference from → ⊥) → IsSubtype headers (Array from) (Array to) → from ≡ to
same_elements headers from to primitive own_type = refl
same_elements headers from to primitive (wider_number (k, within, is)) = absurd (omega arith)
same_elements headers from to primitive (elements reference h) = absurd (primitive reference)

pub array_of_primitives : (headers : List Header) (from to element wanted : code.JType) → from ≡ variants.Array element → to ≡ variants.Array wanted → (IsReference (view_type element) → ⊥)
    → (view_type element ≡ view_type wanted) ↔ IsSubtype headers (view_type from) (view_type to)
array_of_primitives headers from to element wanted is to_is primitive =
    rw (is, to_is, view-array element, view-array wanted)
    (λ same. subst (λ (kind : JType). IsSubtype headers (Array (view_type element)) (Array kind)) same own_type, same_elements headers (view_type element) (view_type wanted) primitive)
