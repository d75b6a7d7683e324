-- The least name of which something holds, found by going through names.
use Rattle.std.proofs.Common.{◌≡◌, ◌≢◌, ◌⊎◌, ◌↔◌, Option, Some, None, refl, sym, ap, subst, inl, inr, ◌∙◌}
use Rattle.std.specs.declared.cmp.Ordering.{Ordering}
use Rattle.std.specs.declared.cmp.Ordering.TheVariants.{Less, Equal, Greater}
use Rattle.std.specs.Ordering.{nat_cmp, ordering_reverse}
use Rattle.std.specs.Cmp.Lexicographic.{slice_cmp, nat_list_cmp_total}
use Rattle.std.proofs.lemmas.Cmp.{tied_itself, alike_right}
use Rattle.dj_names.specs.Headers.{Name}
use Rattle.dj_causes.specs.Firsts.{IsLeastName}
use Rattle.dj_causes.specs.Tables.{IsLesser, IsLeastIfAny}

not_below_itself : (name : Name) → slice_cmp nat_cmp name name ≢ Less
not_below_itself name is = let same = tied_itself nat_list_cmp_total name in absurd (cc)

-- below neither of two that aren't below each other in this order
below_second : (other first second : Name) (order : Ordering) → slice_cmp nat_cmp second first ≡ order → order ≢ Less → slice_cmp nat_cmp other first ≡ Less → slice_cmp nat_cmp other second ≡ Less
below_second other first second Less is apart below = absurd (apart refl)
below_second other first second Equal is apart below = alike_right nat_list_cmp_total second first other is ∙ below
below_second other first second Greater is apart below = nat_list_cmp_total.trans other first second below (nat_list_cmp_total.antisymm first second ∙ ap ordering_reverse is)

module _ (P Q : Name → Type 0) where
  least_left : (name : Name) → IsLeastName P name → ((other : Name) → Q other → slice_cmp nat_cmp other name ≢ Less) → IsLeastName (λ n. P n ⊎ Q n) name
  least_left name least past = record { holds = inl least.holds; least = λ other either. elim either [ inl p ↦ least.least other p | inr q ↦ past other q ] }

  least_right : (name : Name) → IsLeastName Q name → ((other : Name) → P other → slice_cmp nat_cmp other name ≢ Less) → IsLeastName (λ n. P n ⊎ Q n) name
  least_right name least past = record { holds = inr least.holds; least = λ other either. elim either [ inl p ↦ past other p | inr q ↦ least.least other q ] }

  of_second : (second : Option Name) → ((name : Name) → ¬ P name) → IsLeastIfAny Q second → IsLeastIfAny (λ n. P n ⊎ Q n) second
  of_second None none other = λ name either. elim either [ inl p ↦ none name p | inr q ↦ other name q ]
  of_second (Some name) none least = least_right name least (λ other p. absurd (none other p))

  -- the lesser of two is the least of both
  pub lesser_least : (first second found : Option Name) → IsLesser first second found → IsLeastIfAny P first → IsLeastIfAny Q second → IsLeastIfAny (λ n. P n ⊎ Q n) found
  lesser_least None second found is none other = subst (IsLeastIfAny (λ n. P n ⊎ Q n)) (sym is) (of_second second none other)
  lesser_least (Some first) None found is least none = subst (IsLeastIfAny (λ n. P n ⊎ Q n)) (sym is) (least_left first least (λ other q. absurd (none other q)))
  lesser_least (Some first) (Some second) found (inl is) least other = subst (IsLeastIfAny (λ n. P n ⊎ Q n)) (sym is.0)
      (least_right second other (λ name p below. least.least name p (nat_list_cmp_total.trans name second first below is.1)))
  lesser_least (Some first) (Some second) found (inr is) least other = subst (IsLeastIfAny (λ n. P n ⊎ Q n)) (sym is.0)
      (least_left first least (λ name q below. other.least name q (below_second name first second (slice_cmp nat_cmp second first) refl is.1 below)))

  -- what holds alike has one least
  pub least_like : ((name : Name) → P name ↔ Q name) → (found : Option Name) → IsLeastIfAny P found → IsLeastIfAny Q found
  least_like like None none = λ name q. none name ((like name).1 q)
  least_like like (Some name) least = record { holds = (like name).0 least.holds; least = λ other q. least.least other ((like other).1 q) }

-- one name alone is the least
pub least_alone : (P : Name → Type 0) (name : Name) → P name → IsLeastIfAny (λ other. (name ≡ other) × P other) (Some name)
least_alone P name holds = record { holds = (refl, holds); least = λ other both. subst (λ (n : Name). slice_cmp nat_cmp n name ≢ Less) both.0 (not_below_itself name) }

pub least_none : (P : Name → Type 0) (name : Name) → ¬ P name → IsLeastIfAny (λ other. (name ≡ other) × P other) None
least_none P name none = λ other both. none (subst P (sym both.0) both.1)

-- a name that has a fault of its own
pub least_own : (P : Type 0) (name : Name) → P → IsLeastIfAny (λ other. P × (other ≡ name)) (Some name)
least_own P name holds = record { holds = (holds, refl); least = λ other both. subst (λ (n : Name). slice_cmp nat_cmp n name ≢ Less) (sym both.1) (not_below_itself name) }

pub no_own : (P : Type 0) (name : Name) → ¬ P → IsLeastIfAny (λ other. P × (other ≡ name)) None
no_own P name none = λ other both. none both.0
