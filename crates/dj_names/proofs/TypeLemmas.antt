-- What a type's spelling can begin with, and where reading a type stops.
use Rattle.std.proofs.Common.{◌≡◌, ◌≢◌, ℕ, suc, ◌<◌, ◌≤◌, List, [], ◌∷◌, ◌++◌, refl, sym, ap, subst, ◌∙◌, arith}
use Rattle.std.proofs.lemmas.List.{append-nil}
use Rattle.dj_names.specs.Types.{JType, Boolean, Byte, Char, Short, Int, Long, Float, Double, Class, Array}
use Rattle.dj_names.specs.Descriptors.{spell_type, dimensions, words, HasClassName}
use Rattle.dj_names.specs.Reading.{Begins, StopsIn, StopsAt, SpellsType, SpellsClassName, IsPrimitiveLetter, IsNoPrimitive}
use Rattle.dj_names.specs.declared.descriptors.Stop.{Stop}
use Rattle.dj_names.specs.declared.descriptors.Stop.TheVariants.{Here, Memory}
use Rattle.dj_names.proofs.Stopping.{stops_here, stops_after}
use Rattle.dj_names.proofs.OneSpelling.{one_type}

pub spell_type-nonempty : (type : JType) → spell_type type ≢ []
spell_type-nonempty Boolean e = cc
spell_type-nonempty Byte e = cc
spell_type-nonempty Char e = cc
spell_type-nonempty Short e = cc
spell_type-nonempty Int e = cc
spell_type-nonempty Long e = cc
spell_type-nonempty Float e = cc
spell_type-nonempty Double e = cc
spell_type-nonempty (Class name) e = cc
spell_type-nonempty (Array element) e = cc

same_head : (x y : ℕ) (xs ys : List ℕ) → x ∷ xs ≡ y ∷ ys → x ≡ y
same_head x y xs ys e = cc

nonempty-end : (name : List ℕ) → (name ++ 59 ∷ []) ≢ []
nonempty-end [] e = cc
nonempty-end (unit ∷ name) e = cc

-- a type that begins with `[` is an array
record IsArrayOf (type : JType) (units : List ℕ) : Type 0 where
  element : JType
  is : type ≡ Array element
  spelled : spell_type element ≡ units

array_of : (type : JType) (units : List ℕ) → spell_type type ≡ 91 ∷ units → IsArrayOf type units
array_of Boolean units e = absurd (omega (arith, same_head 90 91 [] units e))
array_of Byte units e = absurd (omega (arith, same_head 66 91 [] units e))
array_of Char units e = absurd (omega (arith, same_head 67 91 [] units e))
array_of Short units e = absurd (omega (arith, same_head 83 91 [] units e))
array_of Int units e = absurd (omega (arith, same_head 73 91 [] units e))
array_of Long units e = absurd (omega (arith, same_head 74 91 [] units e))
array_of Float units e = absurd (omega (arith, same_head 70 91 [] units e))
array_of Double units e = absurd (omega (arith, same_head 68 91 [] units e))
array_of (Class name) units e = absurd (omega (arith, same_head 76 91 (name ++ 59 ∷ []) units e))
array_of (Array element) units e = record { element = element; is = refl; spelled = cc }

-- a type that begins with `L` is a class
record IsClassOf (type : JType) (units : List ℕ) : Type 0 where
  name : List ℕ
  is : type ≡ Class name
  spelled : name ++ 59 ∷ [] ≡ units

class_of : (type : JType) (units : List ℕ) → spell_type type ≡ 76 ∷ units → IsClassOf type units
class_of Boolean units e = absurd (omega (arith, same_head 90 76 [] units e))
class_of Byte units e = absurd (omega (arith, same_head 66 76 [] units e))
class_of Char units e = absurd (omega (arith, same_head 67 76 [] units e))
class_of Short units e = absurd (omega (arith, same_head 83 76 [] units e))
class_of Int units e = absurd (omega (arith, same_head 73 76 [] units e))
class_of Long units e = absurd (omega (arith, same_head 74 76 [] units e))
class_of Float units e = absurd (omega (arith, same_head 70 76 [] units e))
class_of Double units e = absurd (omega (arith, same_head 68 76 [] units e))
class_of (Class name) units e = record { name = name; is = refl; spelled = cc }
class_of (Array element) units e = absurd (omega (arith, same_head 91 76 (spell_type element) units e))

-- a type that begins with neither is spelled by that unit alone
primitive_alone : (type : JType) (unit : ℕ) (units : List ℕ) → unit ≢ 91 → unit ≢ 76 → spell_type type ≡ unit ∷ units → spell_type type ≡ unit ∷ []
primitive_alone Boolean unit units a c e = ap (λ u. u ∷ []) cc
primitive_alone Byte unit units a c e = ap (λ u. u ∷ []) cc
primitive_alone Char unit units a c e = ap (λ u. u ∷ []) cc
primitive_alone Short unit units a c e = ap (λ u. u ∷ []) cc
primitive_alone Int unit units a c e = ap (λ u. u ∷ []) cc
primitive_alone Long unit units a c e = ap (λ u. u ∷ []) cc
primitive_alone Float unit units a c e = ap (λ u. u ∷ []) cc
primitive_alone Double unit units a c e = ap (λ u. u ∷ []) cc
primitive_alone (Class name) unit units a c e = absurd (c cc)
primitive_alone (Array element) unit units a c e = absurd (a cc)

-- what one unit spells has no class's name in it
HasClassName-alone : (type : JType) (unit : ℕ) → spell_type type ≡ unit ∷ [] → HasClassName type
HasClassName-alone Boolean unit e = tt
HasClassName-alone Byte unit e = tt
HasClassName-alone Char unit e = tt
HasClassName-alone Short unit e = tt
HasClassName-alone Int unit e = tt
HasClassName-alone Long unit e = tt
HasClassName-alone Float unit e = tt
HasClassName-alone Double unit e = tt
HasClassName-alone (Class name) unit e = absurd (nonempty-end name cc)
HasClassName-alone (Array element) unit e = absurd (spell_type-nonempty element cc)

one_letter : (type other : JType) (unit : ℕ) → spell_type type ≡ unit ∷ [] → spell_type other ≡ unit ∷ [] → type ≡ other
one_letter type other unit e f =
    (one_type type other [] [] (HasClassName-alone type unit e) (HasClassName-alone other unit f) (append-nil (spell_type type) ∙ e ∙ sym f ∙ sym (append-nil (spell_type other)))).0

letter : (type : JType) (unit : ℕ) → spell_type type ≡ unit ∷ [] → IsPrimitiveLetter unit
letter Boolean unit e = (0, omega arith, cc)
letter Byte unit e = (1, omega arith, cc)
letter Char unit e = (2, omega arith, cc)
letter Short unit e = (3, omega arith, cc)
letter Int unit e = (4, omega arith, cc)
letter Long unit e = (5, omega arith, cc)
letter Float unit e = (6, omega arith, cc)
letter Double unit e = (7, omega arith, cc)
letter (Class name) unit e = absurd (nonempty-end name cc)
letter (Array element) unit e = absurd (spell_type-nonempty element cc)

pub no_letter : (room unit : ℕ) → ¬ IsPrimitiveLetter unit → IsNoPrimitive Here room unit
no_letter room unit none type e fits = none (letter type unit e)

pub too_wide : (room unit : ℕ) (kind : JType) → spell_type kind ≡ unit ∷ [] → room < words kind → IsNoPrimitive Here room unit
too_wide room unit kind is wide type e fits = absurd (omega (arith, ap words (one_letter type kind unit e is)))

-- a type may begin with nothing read
pub type_begins : (depth room : ℕ) → 1 ≤ room → Begins (SpellsType depth room) []
type_begins depth room some = record {
  rest = 73 ∷ [];
  whole = record { type = Int; type_is = record { class_name = tt; dimensions_fit = omega arith; words_fit = some }; spelled = refl };
}

pub type_is_some : (depth room : ℕ) → ¬ SpellsType depth room []
type_is_some depth room s = spell_type-nonempty s.type s.spelled

pub no_type_at_end : (depth room : ℕ) → 1 ≤ room → StopsIn (SpellsType depth room) [] []
no_type_at_end depth room some = stops_here (SpellsType depth room) [] (type_begins depth room some) (type_is_some depth room) tt

no_array : (room : ℕ) (u : List ℕ) → ¬ SpellsType 0 room (91 ∷ u)
no_array room u s =
    let a = array_of s.type u s.spelled in
    absurd (omega (arith, s.type_is.dimensions_fit, ap dimensions a.is))

pub too_deep : (room : ℕ) (units : List ℕ) → 1 ≤ room → StopsIn (SpellsType 0 room) (91 ∷ units) (91 ∷ units)
too_deep room units some = stops_here (SpellsType 0 room) (91 ∷ units) (type_begins 0 room some) (type_is_some 0 room) (λ b. no_array room b.rest b.whole)

no_primitive : (depth room unit : ℕ) (u : List ℕ) → unit ≢ 91 → unit ≢ 76 → IsNoPrimitive Here room unit → ¬ SpellsType depth room (unit ∷ u)
no_primitive depth room unit u a c none s = none s.type (primitive_alone s.type unit u a c s.spelled) s.type_is.words_fit

pub no_type_here : (depth room unit : ℕ) (units : List ℕ) → 1 ≤ room → unit ≢ 91 → unit ≢ 76 → IsNoPrimitive Here room unit → StopsIn (SpellsType depth room) (unit ∷ units) (unit ∷ units)
no_type_here depth room unit units some a c none =
    stops_here (SpellsType depth room) (unit ∷ units) (type_begins depth room some) (type_is_some depth room) (λ b. no_primitive depth room unit b.rest a c none b.whole)

pub words-le : (type : JType) → words type ≤ 2
words-le Boolean = omega arith
words-le Byte = omega arith
words-le Char = omega arith
words-le Short = omega arith
words-le Int = omega arith
words-le Long = omega arith
words-le Float = omega arith
words-le Double = omega arith
words-le (Class name) = omega arith
words-le (Array element) = omega arith

array_into : (depth room : ℕ) → 1 ≤ room → (u : List ℕ) → SpellsType depth 2 u → SpellsType (suc depth) room (91 ∷ u)
array_into depth room some u s = record {
  type = Array s.type;
  type_is = record { class_name = s.type_is.class_name; dimensions_fit = omega (arith, s.type_is.dimensions_fit); words_fit = some };
  spelled = ap (λ units. 91 ∷ units) s.spelled;
}

array_out : (depth room : ℕ) (u : List ℕ) → SpellsType (suc depth) room (91 ∷ u) → SpellsType depth 2 u
array_out depth room u s =
    let a = array_of s.type u s.spelled in
    record {
      type = a.element;
      type_is = record {
        class_name = subst HasClassName a.is s.type_is.class_name;
        dimensions_fit = omega (arith, s.type_is.dimensions_fit, ap dimensions a.is);
        words_fit = words-le a.element;
      };
      spelled = a.spelled;
    }

-- where the element's type stops, the array's does
pub array_stops : (depth room : ℕ) (units left : List ℕ) → 1 ≤ room → StopsIn (SpellsType depth 2) units left → StopsIn (SpellsType (suc depth) room) (91 ∷ units) left
array_stops depth room units left some s =
    stops_after (SpellsType (suc depth) room) (SpellsType depth 2) (91 ∷ []) units left (array_into depth room some) (array_out depth room) s

class_into : (depth room : ℕ) → 1 ≤ room → (u : List ℕ) → SpellsClassName u → SpellsType depth room (76 ∷ u)
class_into depth room some u s = record {
  type = Class s.name;
  type_is = record { class_name = s.name_is; dimensions_fit = omega arith; words_fit = some };
  spelled = ap (λ units. 76 ∷ units) s.spelled;
}

class_out : (depth room : ℕ) (u : List ℕ) → SpellsType depth room (76 ∷ u) → SpellsClassName u
class_out depth room u s =
    let c = class_of s.type u s.spelled in
    record { name = c.name; name_is = subst HasClassName c.is s.type_is.class_name; spelled = c.spelled }

-- where the class's name stops, the type does
pub class_stops : (depth room : ℕ) (units left : List ℕ) → 1 ≤ room → StopsIn SpellsClassName units left → StopsIn (SpellsType depth room) (76 ∷ units) left
class_stops depth room units left some s =
    stops_after (SpellsType depth room) SpellsClassName (76 ∷ []) units left (class_into depth room some) (class_out depth room) s

pub array_stopped : (stop : Stop) (depth lower room : ℕ) (old units left : List ℕ) → 1 ≤ room → depth ≡ suc lower → old ≡ 91 ∷ units
    → StopsAt stop (SpellsType lower 2) units left → StopsAt stop (SpellsType depth room) old left
array_stopped Here depth lower room old units left some deep is s =
    subst (λ d. StopsIn (SpellsType d room) old left) (sym deep) (subst (λ u. StopsIn (SpellsType (suc lower) room) u left) (sym is) (array_stops lower room units left some s))
array_stopped (Memory error) depth lower room old units left some deep is s = tt

pub class_stopped : (stop : Stop) (depth room : ℕ) (old units left : List ℕ) → 1 ≤ room → old ≡ 76 ∷ units
    → StopsAt stop SpellsClassName units left → StopsAt stop (SpellsType depth room) old left
class_stopped Here depth room old units left some is s = subst (λ u. StopsIn (SpellsType depth room) u left) (sym is) (class_stops depth room units left some s)
class_stopped (Memory error) depth room old units left some is s = tt

pub primitive_stopped : (stop : Stop) (depth room unit : ℕ) (old left : List ℕ) → 1 ≤ room → unit ≢ 91 → unit ≢ 76 → (rest : List ℕ) × (old ≡ unit ∷ rest)
    → IsNoPrimitive stop room unit × (left ≡ old) → StopsAt stop (SpellsType depth room) old left
primitive_stopped Here depth room unit old left some a c (rest, is) (none, same) =
    subst (λ l. StopsIn (SpellsType depth room) old l) (sym same) (subst (λ u. StopsIn (SpellsType depth room) u u) (sym is) (no_type_here depth room unit rest some a c none))
primitive_stopped (Memory error) depth room unit old left some a c is (none, same) = tt

pub deep_stopped : (depth room : ℕ) (old : List ℕ) → 1 ≤ room → depth ≡ 0 → (rest : List ℕ) × (old ≡ 91 ∷ rest) → StopsIn (SpellsType depth room) old old
deep_stopped depth room old some none (rest, is) =
    subst (λ d. StopsIn (SpellsType d room) old old) (sym none) (subst (λ u. StopsIn (SpellsType 0 room) u u) (sym is) (too_deep room rest some))

pub end_stopped : (depth room : ℕ) (old : List ℕ) → 1 ≤ room → old ≡ [] → StopsIn (SpellsType depth room) old old
end_stopped depth room old some is = subst (λ u. StopsIn (SpellsType depth room) u u) (sym is) (no_type_at_end depth room some)
