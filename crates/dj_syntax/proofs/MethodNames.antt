-- Names of methods and the parts of qualified names: what follows from their definitions.
use Rattle.std.proofs.Common.{◌≡◌, ◌≢◌, ℕ, zero, suc, ◌<◌, ◌==◌, true, false, Bool, cond, List, [], ◌∷◌, ◌++◌, length, replicate, Some, All, refl, ap, ◌∙◌, arith, ne_eqb}
use Rattle.std.specs.List.{AllByRecursion}
use Rattle.std.proofs.lemmas.List.Splits.{slice_split_none}
use Rattle.dj_names.specs.Types.{Int, Method}
use Rattle.dj_names.specs.ClassNames.{in_front, segments}
use Rattle.dj_names.specs.Identifiers.{IsIdentifier}
use Rattle.dj_names.proofs.SegmentLemmas.{segments-is, some_segment}
use Rattle.dj_syntax.specs.UnitText.{is_constructor, is_initialiser}
use Rattle.dj_syntax.specs.WellFormed.{IsNamed, IsMethodDescriptor}

-- an identifier names no constructor and no static initialiser
pub identifier_is_no_method_keyword : (name : List ℕ) → IsIdentifier name → (is_constructor name ≡ false) × (is_initialiser name ≡ false)
identifier_is_no_method_keyword [] identifier = absurd identifier.chars
identifier_is_no_method_keyword (first ∷ rest) identifier =
    let letter = identifier.chars.0 in
    let other : (first == 60) ≡ false = ne_eqb first 60 (λ e. omega (arith, letter)) in
    (rw other, rw other)

-- ---- descriptors

ints_are_named : (n : ℕ) → AllByRecursion IsNamed (replicate n Int)
ints_are_named zero = tt
ints_are_named (suc n) = (tt, ints_are_named n)

-- ints to an int
pub IsMethodDescriptor-ints : (n : ℕ) → IsMethodDescriptor (Method (replicate n Int) (Some Int))
IsMethodDescriptor-ints n = (ints_are_named n, tt)

-- ---- the parts of a name

-- a name without a slash is one part
pub segments-plain : (name : List ℕ) → All (λ unit. unit ≢ 47) name → segments name ≡ name ∷ []
segments-plain name plain =
    segments-is name ∙ slice_split_none (λ unit. unit == 47) name (λ k d l. ne_eqb _ 47 (plain k d l))

in_front-append : (unit : ℕ) (parts : List (List ℕ)) (last : List ℕ) → 0 < length parts → in_front unit (parts ++ last ∷ []) ≡ in_front unit parts ++ last ∷ []
in_front-append unit [] last some = absurd (omega arith)
in_front-append unit (first ∷ rest) last some = refl

-- a part more behind a slash
pub segments-append : (front last : List ℕ) → All (λ unit. unit ≢ 47) last → segments (front ++ 47 ∷ last) ≡ segments front ++ last ∷ []
segments-append [] last plain = ap (λ parts. [] ∷ parts) (segments-plain last plain)
segments-append (unit ∷ rest) last plain =
    rw (segments-append rest last plain) (go (unit == 47))
  where
    go : (slash : Bool) → cond slash ([] ∷ (segments rest ++ last ∷ [])) (in_front unit (segments rest ++ last ∷ [])) ≡ cond slash ([] ∷ segments rest) (in_front unit (segments rest)) ++ last ∷ []
    go true = refl
    go false = in_front-append unit (segments rest) last (some_segment rest)
