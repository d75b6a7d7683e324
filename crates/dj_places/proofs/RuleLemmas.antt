-- The lowest place at which a rule is broken, as walks find it.
use Rattle.std.proofs.Common.{◌≡◌, ◌+◌, ℕ, min, Bool, true, false, Option, Some, None, refl, sym, ap, subst, ◌∙◌, arith}
use Rattle.std.proofs.Common.{inl, inr}
use Rattle.std.proofs.Math.Dec.{leb}
use Rattle.std.proofs.lemmas.Bool.{false≢true, leb-true, leb-false}
use Rattle.std.proofs.lemmas.Option.{none-some}
use Rattle.dj_places.specs.declared.kind.TypeKind.{TypeKind}
use Rattle.dj_places.specs.Rules.{Rules, NoRule, Rule, ◌and◌, Holds, Breaks, IsFirstBroken}
use Rattle.dj_places.specs.Places.{told, lower, first_broken}

-- ---- places

pub told_plus : (place more : ℕ) → told (told place + more) ≡ told (place + more)
told_plus place more = omega arith

pub told_later : (place more at : ℕ) → at ≡ told place → told (at + more) ≡ told (place + more)
told_later place more at is = ap (λ x. told (x + more)) is ∙ told_plus place more

-- ---- the lower of two

pub lower_none : (first : Option ℕ) → lower first None ≡ first
lower_none None = refl
lower_none (Some first) = refl

pub lower_assoc : (first second third : Option ℕ) → lower (lower first second) third ≡ lower first (lower second third)
lower_assoc None second third = refl
lower_assoc (Some first) None third = refl
lower_assoc (Some first) (Some second) None = refl
lower_assoc (Some first) (Some second) (Some third) = ap Some (omega arith)

pub lower_swap : (first second : Option ℕ) → lower first second ≡ lower second first
lower_swap None None = refl
lower_swap None (Some second) = refl
lower_swap (Some first) None = refl
lower_swap (Some first) (Some second) = ap Some (omega arith)

-- one part behind another
pub lower_then : (before between behind first second : Option ℕ) → between ≡ lower before first → behind ≡ lower between second → behind ≡ lower before (lower first second)
lower_then before between behind first second one two = two ∙ ap (λ x. lower x second) one ∙ lower_assoc before first second

-- ---- what is found

some_is_none : {place : ℕ} → Some place ≡ None → ⊥
some_is_none {place} is = none-some place (sym is)

both_none : (first second : Option ℕ) → lower first second ≡ None → (first ≡ None) × (second ≡ None)
both_none None second is = (refl, is)
both_none (Some first) None is = absurd (some_is_none is)
both_none (Some first) (Some second) is = absurd (some_is_none is)

-- where none is found, each rule is kept
pub none_broken : (rules : Rules) → first_broken rules ≡ None → Holds rules
none_broken NoRule is = tt
none_broken (Rule place kind true) is = refl
none_broken (Rule place kind false) is = absurd (some_is_none is)
none_broken (first and second) is =
    let each = both_none (first_broken first) (first_broken second) is in (none_broken first each.0, none_broken second each.1)

kept_or_broken : (rules : Rules) (place : ℕ) (kind : TypeKind) → Holds rules → Breaks place kind rules → ⊥
kept_or_broken NoRule place kind kept broken = broken
kept_or_broken (Rule at of is) place kind kept broken = false≢true (sym broken.0 ∙ kept)
kept_or_broken (first and second) place kind kept broken =
    elim broken [ inl x ↦ kept_or_broken first place kind kept.0 x | inr x ↦ kept_or_broken second place kind kept.1 x ]

some_same : (x y : ℕ) → Some x ≡ Some y → x ≡ y
some_same x y is = cc

-- a place is the first of a rule that is broken
record IsFound (rules : Rules) (place : ℕ) : Type 0 where
  first : ℕ
  is_first : IsFirstBroken rules first
  tells : place ≡ told first

least_of_two : (first second : Rules) (one two : ℕ) → IsFirstBroken first one → IsFirstBroken second two → (before : Bool) → leb one two ≡ before → IsFirstBroken (first and second) (min one two)
least_of_two first second one two a b true is =
    let low = leb-true one two is in
    let same : min one two ≡ one = omega arith in
    record {
      kind = a.kind;
      broken = inl (subst (λ at. Breaks at a.kind first) (sym same) a.broken);
      least = λ other of broken. elim broken [ inl x ↦ omega (arith, a.least other of x) | inr x ↦ omega (arith, b.least other of x) ];
    }
least_of_two first second one two a b false is =
    let high = leb-false one two is in
    let same : min one two ≡ two = omega arith in
    record {
      kind = b.kind;
      broken = inr (subst (λ at. Breaks at b.kind second) (sym same) b.broken);
      least = λ other of broken. elim broken [ inl x ↦ omega (arith, a.least other of x) | inr x ↦ omega (arith, b.least other of x) ];
    }

only_second : (first second : Rules) (one : ℕ) → Holds first → IsFirstBroken second one → IsFirstBroken (first and second) one
only_second first second one kept a = record {
  kind = a.kind;
  broken = inr a.broken;
  least = λ other of broken. elim broken [ inl x ↦ absurd (kept_or_broken first other of kept x) | inr x ↦ a.least other of x ];
}

only_first : (first second : Rules) (one : ℕ) → Holds second → IsFirstBroken first one → IsFirstBroken (first and second) one
only_first first second one kept a = record {
  kind = a.kind;
  broken = inl a.broken;
  least = λ other of broken. elim broken [ inl x ↦ a.least other of x | inr x ↦ absurd (kept_or_broken second other of kept x) ];
}

found_of_two : (first second : Rules) (place : ℕ) (one two : Option ℕ) → (one ≡ None → Holds first) → (two ≡ None → Holds second)
    → ((at : ℕ) → one ≡ Some at → IsFound first at) → ((at : ℕ) → two ≡ Some at → IsFound second at) → lower one two ≡ Some place → IsFound (first and second) place
found_of_two first second place None two none_one none_two one_at two_at is =
    let found = two_at place is in record { first = found.first; is_first = only_second first second found.first (none_one refl) found.is_first; tells = found.tells }
found_of_two first second place (Some one) None none_one none_two one_at two_at is =
    let found = one_at place is in record { first = found.first; is_first = only_first first second found.first (none_two refl) found.is_first; tells = found.tells }
found_of_two first second place (Some one) (Some two) none_one none_two one_at two_at is =
    let a = one_at one refl in
    let b = two_at two refl in
    record {
      first = min a.first b.first;
      is_first = least_of_two first second a.first b.first a.is_first b.is_first (leb a.first b.first) refl;
      tells = sym (some_same _ _ is) ∙ min_told one two a.first b.first a.tells b.tells;
    }
  where
    min_told : (x y u v : ℕ) → x ≡ told u → y ≡ told v → min x y ≡ told (min u v)
    min_told x y u v e f = omega (arith, e, f)

found : (rules : Rules) (place : ℕ) → first_broken rules ≡ Some place → IsFound rules place
found NoRule place is = absurd (some_is_none (sym is))
found (Rule at of true) place is = absurd (some_is_none (sym is))
found (Rule at of false) place is = record {
  first = at;
  is_first = record { kind = of; broken = (refl, refl, refl); least = λ other kind broken. omega (arith, broken.1) };
  tells = sym (some_same _ _ is);
}
found (first and second) place is =
    found_of_two first second place (first_broken first) (first_broken second) (none_broken first) (none_broken second) (found first) (found second) is

-- the place that is found is that of the first rule that is broken
pub first_is : (rules : Rules) (place : ℕ) → first_broken rules ≡ Some place → (first : ℕ) × IsFirstBroken rules first × (place ≡ told first)
first_is rules place is = let found = found rules place is in (found.first, found.is_first, found.tells)
