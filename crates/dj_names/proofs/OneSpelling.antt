-- No spelling of a type begins another: the type can be told from what is spelled, whatever follows.
use Rattle.std.proofs.Common.{◌≡◌, ◌≢◌, ℕ, List, [], ◌∷◌, ◌++◌, false, nat_eq, if◌then◌else◌, Option, Some, None, option_map, Contains, codes, refl, sym, ap, subst, ◌∙◌, arith}
use Rattle.std.specs.List.{AllByRecursion}
use Rattle.std.proofs.lemmas.List.{append_assoc}
use Rattle.std.proofs.lemmas.List.Elements.{recursion_from_All}
use Rattle.std.proofs.lemmas.Bool.Decides.{nat_tests}
use Rattle.dj_names.specs.Types.{JType, Boolean, Byte, Char, Short, Int, Long, Float, Double, Class, Array}
use Rattle.dj_names.specs.ClassNames.{IsUnqualifiedName, joined, IsClassName}
use Rattle.dj_names.specs.Descriptors.{spell_type, HasClassName}

-- the units before the first `;`, and those after it
abbrev pub cut : List ℕ → List ℕ × List ℕ
cut [] = ([], [])
cut (unit ∷ units) = if nat_eq unit 59 then ([], units) else (unit ∷ (cut units).0, (cut units).1)

abbrev pub primitive : ℕ → Option JType
primitive unit =
    if nat_eq unit 90 then Some Boolean else (if nat_eq unit 66 then Some Byte else (if nat_eq unit 67 then Some Char else (if nat_eq unit 83 then Some Short else
    (if nat_eq unit 73 then Some Int else (if nat_eq unit 74 then Some Long else (if nat_eq unit 70 then Some Float else (if nat_eq unit 68 then Some Double else None)))))))

-- the type that the units begin with, and what follows it
abbrev pub decode : List ℕ → Option (JType × List ℕ)
decode [] = None
decode (unit ∷ units) =
    if nat_eq unit 91 then option_map (λ p. (Array p.0, p.1)) (decode units)
    else (if nat_eq unit 76 then Some (Class (cut units).0, (cut units).1) else option_map (λ type. (type, units)) (primitive unit))

-- no unit ends a class's name
abbrev pub NoEnd : List ℕ → Type 0
NoEnd = AllByRecursion (λ unit. unit ≢ 59)

test_fails : (m n : ℕ) → m ≢ n → nat_eq m n ≡ false
test_fails m n differ = grind (arith, nat_tests)

cut-name : (name rest : List ℕ) → NoEnd name → cut (name ++ 59 ∷ rest) ≡ (name, rest)
cut-name [] rest h = refl
cut-name (unit ∷ units) rest h = rw (test_fails unit 59 h.0, cut-name units rest h.1) refl

plain_is_no_end : (unit : ℕ) → ¬ Contains (codes ".;[/") unit → unit ≢ 59
plain_is_no_end unit plain is = plain (1, omega arith, sym is)

NoEnd-plain : (units : List ℕ) → AllByRecursion (λ unit. ¬ Contains (codes ".;[/") unit) units → NoEnd units
NoEnd-plain [] h = tt
NoEnd-plain (unit ∷ units) h = (plain_is_no_end unit h.0, NoEnd-plain units h.1)

NoEnd-append : (xs ys : List ℕ) → NoEnd xs → NoEnd ys → NoEnd (xs ++ ys)
NoEnd-append [] ys h k = k
NoEnd-append (x ∷ xs) ys h k = (h.0, NoEnd-append xs ys h.1 k)

NoEnd-segment : (segment : List ℕ) → IsUnqualifiedName segment → NoEnd segment
NoEnd-segment segment h = NoEnd-plain segment (recursion_from_All (λ unit. ¬ Contains (codes ".;[/") unit) segment h.plain)

NoEnd-joined : (segments : List (List ℕ)) → AllByRecursion IsUnqualifiedName segments → NoEnd (joined segments)
NoEnd-joined [] h = tt
NoEnd-joined (segment ∷ []) h = NoEnd-segment segment h.0
NoEnd-joined (segment ∷ next ∷ rest) h =
    NoEnd-append segment (47 ∷ joined (next ∷ rest)) (NoEnd-segment segment h.0) (λ is. absurd (omega arith), NoEnd-joined (next ∷ rest) h.1)

pub NoEnd-name : (name : List ℕ) → IsClassName name → NoEnd name
NoEnd-name name h = subst NoEnd h.is_joined (NoEnd-joined h.segments (recursion_from_All IsUnqualifiedName h.segments h.unqualified))

decode-class : (name rest : List ℕ) → IsClassName name → decode (76 ∷ name ++ 59 ∷ rest) ≡ Some (Class name, rest)
decode-class name rest h = ap (λ (p : List ℕ × List ℕ). Some (Class p.0, p.1)) (cut-name name rest (NoEnd-name name h))

pub decode-spell : (type : JType) (rest : List ℕ) → HasClassName type → decode (spell_type type ++ rest) ≡ Some (type, rest)
decode-spell Boolean rest h = refl
decode-spell Byte rest h = refl
decode-spell Char rest h = refl
decode-spell Short rest h = refl
decode-spell Int rest h = refl
decode-spell Long rest h = refl
decode-spell Float rest h = refl
decode-spell Double rest h = refl
decode-spell (Class name) rest h = ap (λ units. decode (76 ∷ units)) (append_assoc name (59 ∷ []) rest) ∙ decode-class name rest h
decode-spell (Array element) rest h = rw (decode-spell element rest h) refl

-- two spellings that begin alike are of one type
pub one_type : (type other : JType) (rest more : List ℕ) → HasClassName type → HasClassName other → spell_type type ++ rest ≡ spell_type other ++ more → (type ≡ other) × (rest ≡ more)
one_type type other rest more h k same =
    let e : ◌≡◌ {A = Option (JType × List ℕ)} (Some (type, rest)) (Some (other, more)) = sym (decode-spell type rest h) ∙ ap decode same ∙ decode-spell other more k in
    let pair : ◌≡◌ {A = JType × List ℕ} (type, rest) (other, more) = cc in
    (ap (λ (p : JType × List ℕ). p.0) pair, ap (λ (p : JType × List ℕ). p.1) pair)

-- a type never begins with a unit that no type begins with
pub no_type : (unit : ℕ) (units : List ℕ) (type : JType) (rest : List ℕ) → decode (unit ∷ units) ≡ None → HasClassName type → spell_type type ++ rest ≡ unit ∷ units → ⊥
no_type unit units type rest none h same =
    let e : ◌≡◌ {A = Option (JType × List ℕ)} (Some (type, rest)) None = sym (decode-spell type rest h) ∙ ap decode same ∙ none in
    cc
