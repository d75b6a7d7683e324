-- The tests of types and lists of types decide what they test.
use Rattle.std.proofs.Common.{◌≡◌, ℕ, nat_eq, ◌&&◌, Decides, if◌then◌else◌, List, [], ◌∷◌, ◌++◌, Option, Some, None, option_map, refl, sym, ap, ◌∙◌}
use Rattle.std.proofs.lemmas.Bool.{false≢true}
use Rattle.std.proofs.lemmas.Bool.Decides.{Decides-like, Decides-and}
use Rattle.dj_names.specs.declared.header.Header.{Header}
use Rattle.dj_names.specs.Types as types
use Rattle.dj_names.specs.Types.{JType, Boolean, Byte, Char, Short, Int, Long, Float, Double, Class, Array, StaticType, Of}
use Rattle.dj_names.specs.Descriptors.{spell_type}
use Rattle.dj_names.specs.Assignable.{IsReference, IsAssignable}
use Rattle.dj_names.proofs.OneSpelling.{primitive}
use Rattle.dj_values.specs.Deciding.{is_type, is_reference, is_subtype}
use Rattle.dj_values.proofs.Deciding.{Decides-name, Decides-subtype}
use Rattle.dj_kinds.specs.Choice.{AllAssignable, AllSubtypes}
use Rattle.dj_meaning.specs.Calls.{all_pairs, is_assignable}

-- all but the last
abbrev front : List ℕ → List ℕ
front [] = []
front (unit ∷ []) = []
front (unit ∷ next ∷ units) = unit ∷ front (next ∷ units)

front-push : (units : List ℕ) (last : ℕ) → front (units ++ last ∷ []) ≡ units
front-push [] last = refl
front-push (unit ∷ []) last = refl
front-push (unit ∷ next ∷ units) last = ap (λ list. unit ∷ list) (front-push (next ∷ units) last)

-- the type that units spell
abbrev spelled : List ℕ → Option JType
spelled [] = None
spelled (unit ∷ units) =
    if nat_eq unit 91 then option_map Array (spelled units) else (if nat_eq unit 76 then Some (Class (front units)) else primitive unit)

spelled-spell : (type : JType) → spelled (spell_type type) ≡ Some type
spelled-spell Boolean = refl
spelled-spell Byte = refl
spelled-spell Char = refl
spelled-spell Short = refl
spelled-spell Int = refl
spelled-spell Long = refl
spelled-spell Float = refl
spelled-spell Double = refl
spelled-spell (Class name) = ap (λ units. Some (Class units)) (front-push name 59)
spelled-spell (Array element) = ap (option_map Array) (spelled-spell element)

one_type : (first second : JType) → spell_type first ≡ spell_type second → first ≡ second
one_type first second same =
    let e : Some first ≡ Some second = sym (spelled-spell first) ∙ ap spelled same ∙ spelled-spell second in cc

Decides-type : (first second : JType) → Decides (is_type first second) (first ≡ second)
Decides-type first second =
    Decides-like (is_type first second) (one_type first second) (ap spell_type) (Decides-name (spell_type first) (spell_type second))

-- two lists of types are equal
pub Decides-types : (first second : List JType) → Decides (all_pairs is_type first second) (first ≡ second)
Decides-types [] [] = (λ is. refl, λ same. refl)
Decides-types [] (two ∷ second) = (λ is. absurd (false≢true is), λ same. cc)
Decides-types (one ∷ first) [] = (λ is. absurd (false≢true is), λ same. cc)
Decides-types (one ∷ first) (two ∷ second) =
    Decides-like (is_type one two && all_pairs is_type first second)
    (λ both. ap (λ type. type ∷ first) both.0 ∙ ap (λ list. two ∷ list) both.1) (λ same. (let e : one ≡ two = cc in e, let e : first ≡ second = cc in e))
    (Decides-and _ _ (Decides-type one two) (Decides-types first second))

Decides-reference : (type : JType) → Decides (is_reference type) (IsReference type)
Decides-reference Boolean = (λ is. false≢true is, λ h. absurd h)
Decides-reference Byte = (λ is. false≢true is, λ h. absurd h)
Decides-reference Char = (λ is. false≢true is, λ h. absurd h)
Decides-reference Short = (λ is. false≢true is, λ h. absurd h)
Decides-reference Int = (λ is. false≢true is, λ h. absurd h)
Decides-reference Long = (λ is. false≢true is, λ h. absurd h)
Decides-reference Float = (λ is. false≢true is, λ h. absurd h)
Decides-reference Double = (λ is. false≢true is, λ h. absurd h)
Decides-reference (Class name) = (λ is. tt, λ h. refl)
Decides-reference (Array element) = (λ is. tt, λ h. refl)

Decides-assignable : (headers : List Header) (from : StaticType) (to : JType) → Decides (is_assignable headers from to) (IsAssignable headers from to)
Decides-assignable headers types.Null to = Decides-reference to
Decides-assignable headers (Of from) to = Decides-subtype headers from to

-- arguments go where parameters are wanted
pub Decides-all_assignable : (headers : List Header) (from : List StaticType) (to : List JType) → Decides (all_pairs (is_assignable headers) from to) (AllAssignable headers from to)
Decides-all_assignable headers [] [] = (λ is. tt, λ h. refl)
Decides-all_assignable headers [] (two ∷ to) = (λ is. false≢true is, λ h. absurd h)
Decides-all_assignable headers (one ∷ from) [] = (λ is. false≢true is, λ h. absurd h)
Decides-all_assignable headers (one ∷ from) (two ∷ to) = Decides-and _ _ (Decides-assignable headers one two) (Decides-all_assignable headers from to)

-- types are subtypes of others
pub Decides-all_subtypes : (headers : List Header) (from to : List JType) → Decides (all_pairs (is_subtype headers) from to) (AllSubtypes headers from to)
Decides-all_subtypes headers [] [] = (λ is. tt, λ h. refl)
Decides-all_subtypes headers [] (two ∷ to) = (λ is. false≢true is, λ h. absurd h)
Decides-all_subtypes headers (one ∷ from) [] = (λ is. false≢true is, λ h. absurd h)
Decides-all_subtypes headers (one ∷ from) (two ∷ to) = Decides-and _ _ (Decides-subtype headers one two) (Decides-all_subtypes headers from to)
