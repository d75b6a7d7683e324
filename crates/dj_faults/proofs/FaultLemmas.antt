-- The first fault, as walks find it.
use Rattle.std.proofs.Common.{◌≡◌, ◌+◌, ◌*◌, ◌<◌, ◌≤◌, ◌⊎◌, ℕ, Bool, true, false, Decides, Option, Some, None, if◌then◌else◌, refl, sym, ap, subst, ◌∙◌, arith, inl, inr}
use Rattle.std.proofs.lemmas.Bool.{false≢true, cases_lt, cases_Bool}
use Rattle.std.proofs.lemmas.Bool.Decides.{Decides-like, Decides-ltb, Decides-eqb, Decides-and, Decides-or, not_from_Decides}
use Rattle.std.proofs.lemmas.Option.{none-some, same_Some}
use Rattle.dj_places.specs.declared.kind.TypeKind.{TypeKind}
use Rattle.dj_places.specs.declared.kind.TypeKind.TheVariants as kinds
use Rattle.dj_places.specs.Places.{told}
use Rattle.dj_places.specs.Rules.{Rules, NoRule, Rule, ◌and◌, Holds, Breaks, IsFirstBroken}
use Rattle.dj_faults.specs.declared.fault.Fault.{Fault}
use Rattle.dj_faults.specs.Faults.{rank, is_before, lower, first_fault}
use Rattle.dj_faults.specs.FirstFault.{IsFirstFault, Tells, AreOf}

-- ---- the order of faults, by one number

rank_small : (kind : TypeKind) → rank kind < 10
rank_small kinds.Name = omega arith
rank_small kinds.WrongType = omega arith
rank_small kinds.Call = omega arith
rank_small kinds.Access = omega arith
rank_small kinds.Reach = omega arith
rank_small kinds.Assigned = omega arith
rank_small kinds.Thrown = omega arith
rank_small kinds.Catch = omega arith
rank_small kinds.Label = omega arith

abbrev order : Fault → ℕ
order fault = 10 * fault.place + rank fault.kind

less_so : (a b r s : ℕ) → r < 10 → (a < b) ⊎ ((a ≡ b) × (r < s)) → 10 * a + r < 10 * b + s
less_so a b r s small (inl below) = omega (arith, below, small)
less_so a b r s small (inr same) = omega (arith, same.0, same.1)

so_less : (a b r s : ℕ) → s < 10 → 10 * a + r < 10 * b + s → (a < b) ⊎ ((a ≡ b) × (r < s))
so_less a b r s small below =
    elim (cases_lt a b) [ inl first ↦ inl first | inr from ↦ (let same : a ≡ b = omega (arith, from, small, below) in inr (same, omega (arith, same, below))) ]

Decides-before : (first second : Fault) → Decides (is_before first second) (order first < order second)
Decides-before first second =
    Decides-like (is_before first second) (less_so first.place second.place (rank first.kind) (rank second.kind) (rank_small first.kind))
    (so_less first.place second.place (rank first.kind) (rank second.kind) (rank_small second.kind))
    (Decides-or _ _ (Decides-ltb first.place second.place) (Decides-and _ _ (Decides-eqb first.place second.place) (Decides-ltb (rank first.kind) (rank second.kind))))

before_so : (first second : Fault) → is_before first second ≡ true → order first < order second
before_so first second is = (Decides-before first second).0 is

not_before : (first second : Fault) → is_before first second ≡ false → order second ≤ order first
not_before first second is =
    elim (cases_lt (order first) (order second)) [ inl below ↦ absurd (not_from_Decides (is_before first second) (Decides-before first second) is below) | inr from ↦ from ]

so_not_before : (first second : Fault) → order second ≤ order first → is_before first second ≡ false
so_not_before first second from =
    elim (cases_Bool (is_before first second)) [ inl is ↦ (let below = before_so first second is in absurd (omega (arith, below, from))) | inr is ↦ is ]

-- ---- the lower of two

pub lower_none : (first : Option Fault) → lower first None ≡ first
lower_none None = refl
lower_none (Some first) = refl

abbrev less : Fault → Fault → Fault
less first second = if is_before second first then second else first

second_less : (a b : Fault) → is_before b a ≡ true → less a b ≡ b
second_less a b is = rw is refl

first_less : (a b : Fault) → is_before b a ≡ false → less a b ≡ a
first_less a b is = rw is refl

less_assoc : (a b c : Fault) → less (less a b) c ≡ less a (less b c)
less_assoc a b c = by_cases (is_before b a) (is_before c b) refl refl
  where
    by_cases : (x y : Bool) → is_before b a ≡ x → is_before c b ≡ y → less (less a b) c ≡ less a (less b c)
    by_cases true true first second =
        let one = before_so b a first in
        let two = before_so c b second in
        let last : is_before c a ≡ true = (Decides-before c a).1 (omega (arith, one, two)) in
        ap (λ x. less x c) (second_less a b first) ∙ second_less b c second ∙ sym (ap (less a) (second_less b c second) ∙ second_less a c last)
    by_cases true false first second =
        ap (λ x. less x c) (second_less a b first) ∙ first_less b c second ∙ sym (ap (less a) (first_less b c second) ∙ second_less a b first)
    by_cases false true first second = ap (λ x. less x c) (first_less a b first) ∙ sym (ap (less a) (second_less b c second))
    by_cases false false first second =
        let one = not_before b a first in
        let two = not_before c b second in
        let last : is_before c a ≡ false = so_not_before c a (omega (arith, one, two)) in
        ap (λ x. less x c) (first_less a b first) ∙ first_less a c last ∙ sym (ap (less a) (first_less b c second) ∙ first_less a b first)

pub lower_assoc : (first second third : Option Fault) → lower (lower first second) third ≡ lower first (lower second third)
lower_assoc None second third = refl
lower_assoc (Some first) None third = refl
lower_assoc (Some first) (Some second) None = refl
lower_assoc (Some first) (Some second) (Some third) = ap Some (less_assoc first second third)

-- one part behind another
pub lower_then : (before between behind first second : Option Fault) → between ≡ lower before first → behind ≡ lower between second → behind ≡ lower before (lower first second)
lower_then before between behind first second one two = two ∙ ap (λ x. lower x second) one ∙ lower_assoc before first second

-- ---- what is found

some_is_none : {fault : Fault} → Some fault ≡ None → ⊥
some_is_none {fault} is = none-some fault (sym is)

both_none : (first second : Option Fault) → lower first second ≡ None → (first ≡ None) × (second ≡ None)
both_none None second is = (refl, is)
both_none (Some first) None is = absurd (some_is_none is)
both_none (Some first) (Some second) is = absurd (some_is_none is)

-- where none is found, each rule is kept
pub none_broken : (rules : Rules) → first_fault rules ≡ None → Holds rules
none_broken NoRule is = tt
none_broken (Rule place kind true) is = refl
none_broken (Rule place kind false) is = absurd (some_is_none is)
none_broken (first and second) is =
    let each = both_none (first_fault first) (first_fault second) is in (none_broken first each.0, none_broken second each.1)

kept_or_broken : (rules : Rules) (place : ℕ) (kind : TypeKind) → Holds rules → Breaks place kind rules → ⊥
kept_or_broken NoRule place kind kept broken = broken
kept_or_broken (Rule at of is) place kind kept broken = false≢true (sym broken.0 ∙ kept)
kept_or_broken (first and second) place kind kept broken =
    elim broken [ inl x ↦ kept_or_broken first place kind kept.0 x | inr x ↦ kept_or_broken second place kind kept.1 x ]

abbrev at_told : ℕ → TypeKind → Fault
at_told place kind = record { place = told place; kind = kind }

only_second : (first second : Rules) (fault : Fault) → Holds first → IsFirstFault second fault → IsFirstFault (first and second) fault
only_second first second fault kept a = record {
  at = a.at;
  tells = a.tells;
  broken = inr a.broken;
  least = λ other kind broken. elim broken [ inl x ↦ absurd (kept_or_broken first other kind kept x) | inr x ↦ a.least other kind x ];
}

only_first : (first second : Rules) (fault : Fault) → Holds second → IsFirstFault first fault → IsFirstFault (first and second) fault
only_first first second fault kept a = record {
  at = a.at;
  tells = a.tells;
  broken = inl a.broken;
  least = λ other kind broken. elim broken [ inl x ↦ a.least other kind x | inr x ↦ absurd (kept_or_broken second other kind kept x) ];
}

-- the first of two that are broken
first_of_two : (first second : Rules) (one two : Fault) → IsFirstFault first one → IsFirstFault second two → (before : Bool) → is_before two one ≡ before
    → IsFirstFault (first and second) (if before then two else one)
first_of_two first second one two a b true is =
    let below = before_so two one is in
    record {
      at = b.at;
      tells = b.tells;
      broken = inr b.broken;
      least = λ other kind broken. elim broken [
        | inl x ↦ (let from = not_before (at_told other kind) one (a.least other kind x) in so_not_before (at_told other kind) two (omega (arith, below, from)))
        | inr x ↦ b.least other kind x
      ];
    }
first_of_two first second one two a b false is =
    let from = not_before two one is in
    record {
      at = a.at;
      tells = a.tells;
      broken = inl a.broken;
      least = λ other kind broken. elim broken [
        | inl x ↦ a.least other kind x
        | inr x ↦ (let more = not_before (at_told other kind) two (b.least other kind x) in so_not_before (at_told other kind) one (omega (arith, from, more)))
      ];
    }

found_of_two : (first second : Rules) (fault : Fault) (one two : Option Fault) → (one ≡ None → Holds first) → (two ≡ None → Holds second)
    → ((at : Fault) → one ≡ Some at → IsFirstFault first at) → ((at : Fault) → two ≡ Some at → IsFirstFault second at) → lower one two ≡ Some fault → IsFirstFault (first and second) fault
found_of_two first second fault None two none_one none_two one_at two_at is = only_second first second fault (none_one refl) (two_at fault is)
found_of_two first second fault (Some one) None none_one none_two one_at two_at is = only_first first second fault (none_two refl) (one_at fault is)
found_of_two first second fault (Some one) (Some two) none_one none_two one_at two_at is =
    subst (IsFirstFault (first and second)) (same_Some (less one two) fault is)
    (first_of_two first second one two (one_at one refl) (two_at two refl) (is_before two one) refl)

-- the fault that is found is the first
pub first_is : (rules : Rules) (fault : Fault) → first_fault rules ≡ Some fault → IsFirstFault rules fault
first_is NoRule fault is = absurd (some_is_none (sym is))
first_is (Rule at of true) fault is = absurd (some_is_none (sym is))
first_is (Rule at of false) fault is =
    subst (IsFirstFault (Rule at of false)) (same_Some (at_told at of) fault is)
    (record { at = at; tells = refl; broken = (refl, refl, refl); least = λ other kind broken. not_itself other kind broken.1 broken.2 })
  where
    not_itself : (other : ℕ) (kind : TypeKind) → other ≡ at → kind ≡ of → is_before (at_told other kind) (at_told at of) ≡ false
    not_itself other kind same alike = so_not_before (at_told other kind) (at_told at of) (rw (same, alike) (omega arith))
first_is (first and second) fault is =
    found_of_two first second fault (first_fault first) (first_fault second) (none_broken first) (none_broken second) (first_is first) (first_is second) is

-- what is found of two parts is the lower of what is found of each
pub tells_lower : (first second : Rules) (one two : Option Fault) → Tells first one → Tells second two → Tells (first and second) (lower one two)
tells_lower first second None None a b = (a, b)
tells_lower first second None (Some two) a b = only_second first second two a b
tells_lower first second (Some one) None a b = only_first first second one b a
tells_lower first second (Some one) (Some two) a b = first_of_two first second one two a b (is_before two one) refl

-- ---- rules of one kind

broken_of : (rules : Rules) (kind : TypeKind) → AreOf kind rules → (at : ℕ) (of : TypeKind) → Breaks at of rules → of ≡ kind
broken_of NoRule kind are at of broken = absurd broken
broken_of (Rule place its kept) kind are at of broken = broken.2 ∙ are
broken_of (first and second) kind are at of broken =
    elim broken [ inl x ↦ broken_of first kind are.0 at of x | inr x ↦ broken_of second kind are.1 at of x ]

-- the first that is broken, by its place, is the first fault
pub first_of_kind : (rules : Rules) (kind : TypeKind) (first : ℕ) → AreOf kind rules → IsFirstBroken rules first → IsFirstFault rules (at_told first kind)
first_of_kind rules kind first are is = record {
  at = first;
  tells = refl;
  broken = subst (λ (of : TypeKind). Breaks first of rules) (broken_of rules kind are first is.kind is.broken) is.broken;
  least = λ other of broken. no_lower other of (broken_of rules kind are other of broken) (is.least other of broken);
}
  where
    no_lower : (other : ℕ) (of : TypeKind) → of ≡ kind → first ≤ other → is_before (at_told other of) (at_told first kind) ≡ false
    no_lower other of same from = so_not_before (at_told other of) (at_told first kind) (rw same (omega (arith, from)))
