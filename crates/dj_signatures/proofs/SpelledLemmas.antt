-- No two descriptors are spelled alike.
use Rattle.std.proofs.Common.{◌≡◌, ◌≢◌, ◌<◌, ℕ, List, [], ◌∷◌, ◌++◌, Option, Some, None, refl, sym, ap, ◌∙◌, arith}
use Rattle.std.specs.List.{flat_map}
use Rattle.std.proofs.lemmas.List.{append_assoc, append-nil}
use Rattle.dj_names.specs.Types.{JType, Boolean, Byte, Char, Short, Int, Long, Float, Double, Class, Array, Descriptor, Field, Method, parameters_of}
use Rattle.dj_signatures.specs.Spelled.{letter_of, spelled_units, spelled_rest, spelled_type, spelled_result, spelled_method, spelled_parameters, spelled_descriptor}

head_of : (x y : ℕ) (xs ys : List ℕ) → x ∷ xs ≡ y ∷ ys → x ≡ y
head_of x y xs ys e = cc

tail_of : (x y : ℕ) (xs ys : List ℕ) → x ∷ xs ≡ y ∷ ys → xs ≡ ys
tail_of x y xs ys e = cc

-- the units of names, whatever follows
units_apart : (a b r s : List ℕ) → spelled_units a ++ r ≡ spelled_units b ++ s → (a ≡ b) × (r ≡ s)
units_apart [] [] r s e = (refl, tail_of 59 59 r s e)
units_apart [] (v ∷ b) r s e = absurd (let h = head_of 59 76 r (v ∷ (spelled_units b ++ s)) e in omega (arith, h))
units_apart (u ∷ a) [] r s e = absurd (let h = head_of 76 59 (u ∷ (spelled_units a ++ r)) s e in omega (arith, h))
units_apart (u ∷ a) (v ∷ b) r s e =
    let rest = tail_of 76 76 (u ∷ (spelled_units a ++ r)) (v ∷ (spelled_units b ++ s)) e in
    let unit = head_of u v (spelled_units a ++ r) (spelled_units b ++ s) rest in
    let both = units_apart a b r s (tail_of u v (spelled_units a ++ r) (spelled_units b ++ s) rest) in
    (let same = both.0 in cc, both.1)

-- what stands behind the letters of types, whatever follows
rest_apart : (t u : JType) (r s : List ℕ) → letter_of t ≡ letter_of u → spelled_rest t ++ r ≡ spelled_rest u ++ s → (t ≡ u) × (r ≡ s)
rest_apart Boolean Boolean r s l e = (refl, e)
rest_apart Byte Byte r s l e = (refl, e)
rest_apart Char Char r s l e = (refl, e)
rest_apart Short Short r s l e = (refl, e)
rest_apart Int Int r s l e = (refl, e)
rest_apart Long Long r s l e = (refl, e)
rest_apart Float Float r s l e = (refl, e)
rest_apart Double Double r s l e = (refl, e)
rest_apart (Class a) (Class b) r s l e = let both = units_apart a b r s e in (ap Class both.0, both.1)
rest_apart (Array t) (Array u) r s l e =
    let both = rest_apart t u r s (head_of (letter_of t) (letter_of u) (spelled_rest t ++ r) (spelled_rest u ++ s) e) (tail_of (letter_of t) (letter_of u) (spelled_rest t ++ r) (spelled_rest u ++ s) e) in
    (ap Array both.0, both.1)
rest_apart t u r s l e = absurd (omega arith)

type_apart : (t u : JType) (r s : List ℕ) → spelled_type t ++ r ≡ spelled_type u ++ s → (t ≡ u) × (r ≡ s)
type_apart t u r s e =
    rest_apart t u r s (head_of (letter_of t) (letter_of u) (spelled_rest t ++ r) (spelled_rest u ++ s) e) (tail_of (letter_of t) (letter_of u) (spelled_rest t ++ r) (spelled_rest u ++ s) e)

-- the letters from 66 on
letter_above : (t : JType) → 65 < letter_of t
letter_above Boolean = omega arith
letter_above Byte = omega arith
letter_above Char = omega arith
letter_above Short = omega arith
letter_above Int = omega arith
letter_above Long = omega arith
letter_above Float = omega arith
letter_above Double = omega arith
letter_above (Class name) = omega arith
letter_above (Array element) = omega arith

letter_isnt_void : (t : JType) → letter_of t ≢ 86
letter_isnt_void Boolean e = omega arith
letter_isnt_void Byte e = omega arith
letter_isnt_void Char e = omega arith
letter_isnt_void Short e = omega arith
letter_isnt_void Int e = omega arith
letter_isnt_void Long e = omega arith
letter_isnt_void Float e = omega arith
letter_isnt_void Double e = omega arith
letter_isnt_void (Class name) e = omega arith
letter_isnt_void (Array element) e = omega arith

-- types with a parenthesis behind them, whatever follows
types_apart : (ts us : List JType) (r s : List ℕ) → flat_map spelled_type ts ++ 41 ∷ r ≡ flat_map spelled_type us ++ 41 ∷ s → (ts ≡ us) × (r ≡ s)
types_apart [] [] r s e = (refl, tail_of 41 41 r s e)
types_apart [] (u ∷ us) r s e =
    absurd (let h = head_of 41 (letter_of u) r ((spelled_rest u ++ flat_map spelled_type us) ++ 41 ∷ s) e in let above = letter_above u in omega (arith, h, above))
types_apart (t ∷ ts) [] r s e =
    absurd (let h = head_of (letter_of t) 41 ((spelled_rest t ++ flat_map spelled_type ts) ++ 41 ∷ r) s e in let above = letter_above t in omega (arith, h, above))
types_apart (t ∷ ts) (u ∷ us) r s e =
    let joined = sym (append_assoc (spelled_type t) (flat_map spelled_type ts) (41 ∷ r)) ∙ e ∙ append_assoc (spelled_type u) (flat_map spelled_type us) (41 ∷ s) in
    let first = type_apart t u (flat_map spelled_type ts ++ 41 ∷ r) (flat_map spelled_type us ++ 41 ∷ s) joined in
    let others = types_apart ts us r s first.1 in
    (let one = first.0 in let more = others.0 in cc, others.1)

-- ---- descriptors

parameters_are : (ts us : List JType) → flat_map spelled_type ts ≡ flat_map spelled_type us → ts ≡ us
parameters_are ts us e = (types_apart ts us [] [] (ap (λ (x : List ℕ). x ++ 41 ∷ []) e)).0

pub same_parameters : (d e : Descriptor) → spelled_parameters d ≡ spelled_parameters e → parameters_of d ≡ parameters_of e
same_parameters d e same = parameters_are (parameters_of d) (parameters_of e) same

type_is : (t u : JType) → spelled_type t ≡ spelled_type u → t ≡ u
type_is t u e = (type_apart t u [] [] (ap (λ (x : List ℕ). x ++ []) e)).0

result_is : (r s : Option JType) → spelled_result r ≡ spelled_result s → r ≡ s
result_is None None e = refl
result_is None (Some u) e = absurd (letter_isnt_void u (sym (head_of 86 (letter_of u) [] (spelled_rest u) e)))
result_is (Some t) None e = absurd (letter_isnt_void t (head_of (letter_of t) 86 (spelled_rest t) [] e))
result_is (Some t) (Some u) e = ap Some (type_is t u e)

pub same_descriptor : (d e : Descriptor) → spelled_descriptor d ≡ spelled_descriptor e → d ≡ e
same_descriptor (Field t) (Field u) e = ap Field (type_is t u e)
same_descriptor (Field t) (Method us s) e =
    absurd (let h = head_of (letter_of t) 40 (spelled_rest t) (flat_map spelled_type us ++ 41 ∷ spelled_result s) e in let above = letter_above t in omega (arith, h, above))
same_descriptor (Method ts r) (Field u) e =
    absurd (let h = head_of 40 (letter_of u) (flat_map spelled_type ts ++ 41 ∷ spelled_result r) (spelled_rest u) e in let above = letter_above u in omega (arith, h, above))
same_descriptor (Method ts r) (Method us s) e =
    let both = types_apart ts us (spelled_result r) (spelled_result s) (tail_of 40 40 (flat_map spelled_type ts ++ 41 ∷ spelled_result r) (flat_map spelled_type us ++ 41 ∷ spelled_result s) e) in
    let parameters = both.0 in
    let results = result_is r s both.1 in
    cc
