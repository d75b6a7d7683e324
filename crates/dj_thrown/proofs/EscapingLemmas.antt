-- What may not escape, of which so much is looked at.
use Rattle.std.proofs.Common.{◌≡◌, ℕ, ◌+◌, ◌<◌, ◌≤◌, List, length, drop, get_or, Option, sym, ap, ◌∙◌}
use Rattle.std.proofs.lemmas.List.{drop_more, drop_all}
use Rattle.dj_names.specs.declared.header.Header.{Header}
use Rattle.dj_names.specs.Headers.{Name}
use Rattle.dj_places.specs.declared.kind.TypeKind.TheVariants.{Thrown}
use Rattle.dj_faults.specs.declared.fault.Fault.{Fault}
use Rattle.dj_faults.specs.Faults.{lower, fault_at}
use Rattle.dj_faults.proofs.FaultLemmas.{lower_none, lower_assoc}
use Rattle.dj_thrown.specs.declared.throwing.Throwing.{Throwing}
use Rattle.dj_thrown.specs.Catching.{may_escape}
use Rattle.dj_thrown.specs.Walks.{first_escaping}

module _ (headers : List Header) (declared : List Name) (thrown : List Throwing) (k : ℕ) where
  -- one more
  pub escaping_more : (one : Throwing) (before behind whole : Option Fault) → k < length thrown → one ≡ get_or thrown k one
      → behind ≡ lower before (fault_at one.place Thrown (may_escape headers declared one.class))
      → lower before (first_escaping headers declared (drop k thrown)) ≡ whole → lower behind (first_escaping headers declared (drop (k + 1) thrown)) ≡ whole
  escaping_more one before behind whole within is looked so_far =
      let rest = first_escaping headers declared (drop (k + 1) thrown) in
      ap (λ (fault : Option Fault). lower fault rest) looked
      ∙ lower_assoc before (fault_at one.place Thrown (may_escape headers declared one.class)) rest
      ∙ ap (λ (it : Throwing). lower before (lower (fault_at it.place Thrown (may_escape headers declared it.class)) rest)) is
      ∙ sym (ap (λ (list : List Throwing). lower before (first_escaping headers declared list)) (drop_more thrown k one within)) ∙ so_far

  pub escaping_all : (before whole : Option Fault) → length thrown ≤ k → lower before (first_escaping headers declared (drop k thrown)) ≡ whole → before ≡ whole
  escaping_all before whole past so_far =
      sym (lower_none before) ∙ sym (ap (λ (list : List Throwing). lower before (first_escaping headers declared list)) (drop_all k thrown past)) ∙ so_far
