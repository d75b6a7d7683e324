-- What may follow while the name of a class is read, unit by unit.
use Rattle.std.proofs.Common.{◌≡◌, ◌≢◌, ℕ, zero, suc, ◌<◌, List, [], ◌∷◌, ◌++◌, Bool, true, false, not, nat_eq, MatchBool, Contains, get_or, codes, refl, sym, ap, subst, inl, inr, ◌∙◌, arith}
use Rattle.std.specs.List.{AllByRecursion}
use Rattle.std.proofs.lemmas.List.{append_assoc, append_cancel_right}
use Rattle.std.proofs.lemmas.List.Elements.{recursion_from_All, All-from_recursion}
use Rattle.std.proofs.lemmas.Bool.{false≢true}
use Rattle.std.proofs.lemmas.Bool.Decides.{nat_tests, eqb_tells}
use Rattle.dj_names.specs.ClassNames.{IsUnqualifiedName, joined, IsClassName}
use Rattle.dj_names.specs.Reading.{Begins, IsStuck, StopsIn, SpellsClassName, MayFollow}
use Rattle.dj_names.proofs.Stopping.{stops_here, stops_after}

-- a unit of a segment
abbrev IsPlain : ℕ → Type 0
IsPlain unit = ¬ Contains (codes ".;[/") unit

-- what ends a name, where the segment at hand has a unit or has none
abbrev pub EndsName : Bool → List ℕ → Type 0
EndsName started [] = ⊥
EndsName started (unit ∷ units) = MayFollow started unit × MatchBool (nat_eq unit 59) (units ≡ []) (EndsName (not (nat_eq unit 47)) units)

test_fails : (m n : ℕ) → m ≢ n → nat_eq m n ≡ false
test_fails m n differ = grind (arith, nat_tests)

plain_is_not : (unit : ℕ) → IsPlain unit → (unit ≢ 46) × (unit ≢ 59) × (unit ≢ 91) × (unit ≢ 47)
plain_is_not unit plain =
    (λ is. plain (0, omega arith, sym is), λ is. plain (1, omega arith, sym is), λ is. plain (2, omega arith, sym is), λ is. plain (3, omega arith, sym is))

is_plain : (unit : ℕ) → unit ≢ 46 → unit ≢ 59 → unit ≢ 91 → unit ≢ 47 → IsPlain unit
is_plain unit a b c d (k, within, is) = places k within is
  where
    places : (k : ℕ) → k < 4 → get_or (codes ".;[/") k unit ≡ unit → ⊥
    places zero l e = a (sym e)
    places (suc zero) l e = b (sym e)
    places (suc (suc zero)) l e = c (sym e)
    places (suc (suc (suc zero))) l e = d (sym e)
    places (suc (suc (suc (suc n)))) l e = absurd (omega arith)

-- plain units, and then what may follow a started segment
ends_plain : (started : Bool) (segment units : List ℕ) → AllByRecursion IsPlain segment → (segment ≡ [] → started ≡ true) → EndsName true units → EndsName started (segment ++ units)
ends_plain started [] units plain begun rest = subst (λ b. EndsName b units) (sym (begun refl)) rest
ends_plain started (unit ∷ segment) units plain begun rest =
    let no = plain_is_not unit plain.0 in (
      (no.0, no.2, λ either. elim either [ inl is ↦ absurd (no.1 is) | inr is ↦ absurd (no.3 is) ]),
      rw (test_fails unit 59 no.1, test_fails unit 47 no.3) (ends_plain true segment units plain.1 (λ is. refl) rest),
    )

ends_segment : (segment units : List ℕ) → IsUnqualifiedName segment → EndsName true units → EndsName false (segment ++ units)
ends_segment segment units h rest = ends_plain false segment units (recursion_from_All IsPlain segment h.plain) (λ is. absurd (h.some_unit is)) rest

ends_joined : (segment : List ℕ) (rest : List (List ℕ)) → AllByRecursion IsUnqualifiedName (segment ∷ rest) → EndsName false (joined (segment ∷ rest) ++ 59 ∷ [])
ends_joined segment [] h = ends_segment segment (59 ∷ []) h.0 ((λ is. absurd (omega arith), λ is. absurd (omega arith), λ is. refl), refl)
ends_joined segment (next ∷ rest) h =
    subst (EndsName false) (sym (append_assoc segment (47 ∷ joined (next ∷ rest)) (59 ∷ [])))
    (ends_segment segment (47 ∷ joined (next ∷ rest) ++ 59 ∷ []) h.0 ((λ is. absurd (omega arith), λ is. absurd (omega arith), λ is. refl), ends_joined next rest h.1))

ends_segments : (segments : List (List ℕ)) → segments ≢ [] → AllByRecursion IsUnqualifiedName segments → EndsName false (joined segments ++ 59 ∷ [])
ends_segments [] some h = absurd (some refl)
ends_segments (segment ∷ rest) some h = ends_joined segment rest h

pub ends_class : (units : List ℕ) → SpellsClassName units → EndsName false units
ends_class units h =
    let i = h.name_is in
    subst (EndsName false) (ap (λ name. name ++ 59 ∷ []) i.is_joined ∙ h.spelled) (ends_segments i.segments i.some_segment (recursion_from_All IsUnqualifiedName i.segments i.unqualified))

-- the segment at hand and those after it, of units that end a name
record Segments (started : Bool) (units : List ℕ) : Type 0 where
  segment : List ℕ
  rest : List (List ℕ)
  plain : AllByRecursion IsPlain segment
  unqualified : AllByRecursion IsUnqualifiedName rest
  some_unit : started ≡ false → segment ≢ []
  spelled : joined (segment ∷ rest) ++ 59 ∷ [] ≡ units

segment_ends : (started : Bool) (units : List ℕ) → started ≡ true → units ≡ [] → Segments started (59 ∷ units)
segment_ends started units is none = record {
  segment = [];
  rest = [];
  plain = tt;
  unqualified = tt;
  some_unit = λ no. absurd (false≢true (sym no ∙ is));
  spelled = ap (λ u. 59 ∷ u) (sym none);
}

next_segment : (started : Bool) (units : List ℕ) → started ≡ true → Segments false units → Segments started (47 ∷ units)
next_segment started units is s = record {
  segment = [];
  rest = s.segment ∷ s.rest;
  plain = tt;
  unqualified = (record { some_unit = s.some_unit refl; plain = All-from_recursion IsPlain s.segment s.plain }, s.unqualified);
  some_unit = λ no. absurd (false≢true (sym no ∙ is));
  spelled = ap (λ u. 47 ∷ u) s.spelled;
}

joined-cons : (unit : ℕ) (segment : List ℕ) (rest : List (List ℕ)) → joined ((unit ∷ segment) ∷ rest) ≡ unit ∷ joined (segment ∷ rest)
joined-cons unit segment [] = refl
joined-cons unit segment (next ∷ rest) = refl

more_segment : (started : Bool) (unit : ℕ) (units : List ℕ) → IsPlain unit → Segments true units → Segments started (unit ∷ units)
more_segment started unit units plain s = record {
  segment = unit ∷ s.segment;
  rest = s.rest;
  plain = (plain, s.plain);
  unqualified = s.unqualified;
  some_unit = λ no is. let e : ⊥ = cc in e;
  spelled = ap (λ name. name ++ 59 ∷ []) (joined-cons unit s.segment s.rest) ∙ ap (λ u. unit ∷ u) s.spelled;
}

segments_of : (started : Bool) (units : List ℕ) → EndsName started units → Segments started units
segments_of started [] h = absurd h
segments_of started (unit ∷ units) (follows, rest) =
    elim (eqb_tells unit 59) [
      | inl ends ↦ subst (λ u. Segments started (u ∷ units)) (sym ends.1)
          (segment_ends started units (follows.2 (inl ends.1)) (let P : Bool → Type 0 = λ b. MatchBool b (units ≡ []) (EndsName (not (nat_eq unit 47)) units) in subst P ends.0 rest))
      | inr goes ↦
          let on : EndsName (not (nat_eq unit 47)) units = (let P : Bool → Type 0 = λ b. MatchBool b (units ≡ []) (EndsName (not (nat_eq unit 47)) units) in subst P goes.0 rest) in
          elim (eqb_tells unit 47) [
            | inl slash ↦ subst (λ u. Segments started (u ∷ units)) (sym slash.1)
                (next_segment started units (follows.2 (inr slash.1)) (segments_of false units (subst (λ b. EndsName (not b) units) slash.0 on)))
            | inr plain ↦ more_segment started unit units (is_plain unit follows.0 goes.1 follows.1 plain.1) (segments_of true units (subst (λ b. EndsName (not b) units) plain.0 on))
          ]
    ]

pub class_ends : (units : List ℕ) → EndsName false units → SpellsClassName units
class_ends units h =
    let s = segments_of false units h in
    record {
      name = joined (s.segment ∷ s.rest);
      name_is = record {
        segments = s.segment ∷ s.rest;
        some_segment = λ is. let e : ⊥ = cc in e;
        unqualified = All-from_recursion IsUnqualifiedName (s.segment ∷ s.rest) (record { some_unit = s.some_unit refl; plain = All-from_recursion IsPlain s.segment s.plain }, s.unqualified);
        is_joined = refl;
      };
      spelled = s.spelled;
    }

-- so many units of a name were read, and these may follow
pub record NameRead (read : List ℕ) (started : Bool) : Type 0 where
  pub into : (u : List ℕ) → EndsName started u → SpellsClassName (read ++ u)
  pub out : (u : List ℕ) → SpellsClassName (read ++ u) → EndsName started u

pub NameRead-none : NameRead [] false
NameRead-none = record { into = class_ends; out = ends_class }

pub NameRead-push : (read : List ℕ) (started : Bool) (unit : ℕ) → NameRead read started → MayFollow started unit → unit ≢ 59 → NameRead (read ++ unit ∷ []) (not (nat_eq unit 47))
NameRead-push read started unit h follows goes = record {
  into = λ u on. subst SpellsClassName (sym (append_assoc read (unit ∷ []) u)) (h.into (unit ∷ u) (follows, rw (test_fails unit 59 goes) on));
  out = λ u is. let on : EndsName started (unit ∷ u) = h.out (unit ∷ u) (subst SpellsClassName (append_assoc read (unit ∷ []) u) is) in
      let P : Bool → Type 0 = λ b. MatchBool b (u ≡ []) (EndsName (not (nat_eq unit 47)) u) in subst P (test_fails unit 59 goes) on.1;
}

-- a name was read to its end
pub NameRead-name : (read : List ℕ) (started : Bool) (unit : ℕ) → NameRead read started → MayFollow started unit → unit ≡ 59 → IsClassName read
NameRead-name read started unit h follows ends =
    let s = h.into (59 ∷ []) (subst (MayFollow started) ends follows, refl) in
    subst IsClassName (append_cancel_right s.name read (59 ∷ []) s.spelled) s.name_is

-- the next unit may not follow
pub stuck_at : (started : Bool) (unit : ℕ) (left : List ℕ) → (rest : List ℕ) × (left ≡ unit ∷ rest) → ¬ MayFollow started unit → IsStuck (EndsName started) [] left
stuck_at started unit left (rest, is) wrong = subst (IsStuck (EndsName started) []) (sym is) (λ b. wrong b.whole.0)

-- no unit is left
pub stuck_at_end : (started : Bool) (left : List ℕ) → left ≡ [] → IsStuck (EndsName started) [] left
stuck_at_end started left is = subst (IsStuck (EndsName started) []) (sym is) tt

goes_on : (started : Bool) → Begins (EndsName started) []
goes_on started = record {
  rest = 97 ∷ 59 ∷ [];
  whole = (
    (λ is. absurd (omega arith), λ is. absurd (omega arith), λ either. elim either [ inl is ↦ absurd (omega arith) | inr is ↦ absurd (omega arith) ]),
    ((λ is. absurd (omega arith), λ is. absurd (omega arith), λ is. refl), refl),
  );
}

-- where the next unit may not follow, or none is left, reading stops
pub NameRead-stops : (read : List ℕ) (started : Bool) (left : List ℕ) → NameRead read started → IsStuck (EndsName started) [] left → StopsIn SpellsClassName (read ++ left) left
NameRead-stops read started left h stuck =
    stops_after SpellsClassName (EndsName started) read left left h.into h.out (stops_here (EndsName started) left (goes_on started) (λ is. is) stuck)
