-- The first cause, found range by range.
use Rattle.std.proofs.Common.{◌≡◌, ℕ, ◌+◌, ◌<◌, ◌≤◌, Option, Some, None, inl, inr, arith}
use Rattle.std.proofs.lemmas.Bool.{cases_lt}
use Rattle.dj_names.specs.Headers.{Name}
use Rattle.dj_causes.specs.declared.cause.Cause.{Cause}
use Rattle.dj_causes.specs.declared.cause.Cause.TheVariants as cause
use Rattle.dj_causes.specs.Firsts.{IsFirstCause}
use Rattle.dj_causes.specs.BareCauses.{number_of}
use Rattle.dj_method_causes.specs.Telling.{IsFirstAmong}

-- the numbers
from_one : (cause : Cause) → 1 ≤ number_of cause
from_one (cause.Float pc) = omega arith
from_one (cause.Dynamic pc) = omega arith
from_one (cause.Missing name) = omega arith
from_one (cause.Name name) = omega arith
from_one cause.Signature = omega arith
from_one (cause.Member pc) = omega arith
from_one (cause.Interface pc) = omega arith
from_one (cause.Monitor pc) = omega arith
from_one (cause.BeforeSuper pc) = omega arith
from_one (cause.Unborn pc) = omega arith
from_one (cause.Large count) = omega arith

to_eleven : (cause : Cause) → number_of cause ≤ 11
to_eleven (cause.Float pc) = omega arith
to_eleven (cause.Dynamic pc) = omega arith
to_eleven (cause.Missing name) = omega arith
to_eleven (cause.Name name) = omega arith
to_eleven cause.Signature = omega arith
to_eleven (cause.Member pc) = omega arith
to_eleven (cause.Interface pc) = omega arith
to_eleven (cause.Monitor pc) = omega arith
to_eleven (cause.BeforeSuper pc) = omega arith
to_eleven (cause.Unborn pc) = omega arith
to_eleven (cause.Large count) = omega arith

module _ (Holds : Cause → Type 0) where
  -- none of one number
  none_at : (k : ℕ) → ((one : Cause) → number_of one ≡ k → ¬ Holds one) → IsFirstAmong Holds k (k + 1) None
  none_at k none = λ one holds from. elim (cases_lt k (number_of one)) [ inl past ↦ omega (arith, past) | inr below ↦ absurd (none one (omega (arith, from, below)) holds) ]

  -- the one of a number
  pub some_at : (from to : ℕ) (one : Cause) → Holds one → from ≡ number_of one → number_of one < to → IsFirstAmong Holds from to (Some one)
  some_at from to one holds is below = record { holds = holds; above = omega (arith, is); below = below; least = λ other has above. omega (arith, is, above) }

  -- none of the first ones, and then the first of others
  pub after_none : (from between to : ℕ) (found : Option Cause) → from ≤ between → IsFirstAmong Holds from between None → IsFirstAmong Holds between to found → IsFirstAmong Holds from to found
  after_none from between to None order none rest = λ one holds above. rest one holds (none one holds above)
  after_none from between to (Some one) order none rest = record { holds = rest.holds; above = omega (arith, order, rest.above); below = rest.below; least = λ other holds above. rest.least other holds (none other holds above) }

  pub widened : (from between to : ℕ) (one : Cause) → between ≤ to → IsFirstAmong Holds from between (Some one) → IsFirstAmong Holds from to (Some one)
  widened from between to one order first = record { holds = first.holds; above = first.above; below = omega (arith, order, first.below); least = first.least }

  -- all of them
  pub of_all : (found : Option Cause) → IsFirstAmong Holds 1 12 found → IsFirstCause number_of Holds found
  of_all None none = λ one holds. (let far = none one holds (from_one one) in let near = to_eleven one in absurd (omega (arith, far, near)))
  of_all (Some one) first = record { holds = first.holds; least = λ other holds. first.least other holds (from_one other) }

  pub no_float : ((pc : ℕ) → ¬ Holds (cause.Float pc)) → IsFirstAmong Holds 1 2 None
  no_float none = none_at 1 other
    where
      other : (one : Cause) → number_of one ≡ 1 → ¬ Holds one
      other (cause.Float pc) is holds = none pc holds
      other (cause.Dynamic pc) is holds = absurd (omega (arith, is))
      other (cause.Missing name) is holds = absurd (omega (arith, is))
      other (cause.Name name) is holds = absurd (omega (arith, is))
      other cause.Signature is holds = absurd (omega (arith, is))
      other (cause.Member pc) is holds = absurd (omega (arith, is))
      other (cause.Interface pc) is holds = absurd (omega (arith, is))
      other (cause.Monitor pc) is holds = absurd (omega (arith, is))
      other (cause.BeforeSuper pc) is holds = absurd (omega (arith, is))
      other (cause.Unborn pc) is holds = absurd (omega (arith, is))
      other (cause.Large count) is holds = absurd (omega (arith, is))

  pub no_dynamic : ((pc : ℕ) → ¬ Holds (cause.Dynamic pc)) → IsFirstAmong Holds 2 3 None
  no_dynamic none = none_at 2 other
    where
      other : (one : Cause) → number_of one ≡ 2 → ¬ Holds one
      other (cause.Float pc) is holds = absurd (omega (arith, is))
      other (cause.Dynamic pc) is holds = none pc holds
      other (cause.Missing name) is holds = absurd (omega (arith, is))
      other (cause.Name name) is holds = absurd (omega (arith, is))
      other cause.Signature is holds = absurd (omega (arith, is))
      other (cause.Member pc) is holds = absurd (omega (arith, is))
      other (cause.Interface pc) is holds = absurd (omega (arith, is))
      other (cause.Monitor pc) is holds = absurd (omega (arith, is))
      other (cause.BeforeSuper pc) is holds = absurd (omega (arith, is))
      other (cause.Unborn pc) is holds = absurd (omega (arith, is))
      other (cause.Large count) is holds = absurd (omega (arith, is))

  pub no_missing : ((name : Name) → ¬ Holds (cause.Missing name)) → IsFirstAmong Holds 3 4 None
  no_missing none = none_at 3 other
    where
      other : (one : Cause) → number_of one ≡ 3 → ¬ Holds one
      other (cause.Float pc) is holds = absurd (omega (arith, is))
      other (cause.Dynamic pc) is holds = absurd (omega (arith, is))
      other (cause.Missing name) is holds = none name holds
      other (cause.Name name) is holds = absurd (omega (arith, is))
      other cause.Signature is holds = absurd (omega (arith, is))
      other (cause.Member pc) is holds = absurd (omega (arith, is))
      other (cause.Interface pc) is holds = absurd (omega (arith, is))
      other (cause.Monitor pc) is holds = absurd (omega (arith, is))
      other (cause.BeforeSuper pc) is holds = absurd (omega (arith, is))
      other (cause.Unborn pc) is holds = absurd (omega (arith, is))
      other (cause.Large count) is holds = absurd (omega (arith, is))

  pub no_name : ((name : Name) → ¬ Holds (cause.Name name)) → IsFirstAmong Holds 4 5 None
  no_name none = none_at 4 other
    where
      other : (one : Cause) → number_of one ≡ 4 → ¬ Holds one
      other (cause.Float pc) is holds = absurd (omega (arith, is))
      other (cause.Dynamic pc) is holds = absurd (omega (arith, is))
      other (cause.Missing name) is holds = absurd (omega (arith, is))
      other (cause.Name name) is holds = none name holds
      other cause.Signature is holds = absurd (omega (arith, is))
      other (cause.Member pc) is holds = absurd (omega (arith, is))
      other (cause.Interface pc) is holds = absurd (omega (arith, is))
      other (cause.Monitor pc) is holds = absurd (omega (arith, is))
      other (cause.BeforeSuper pc) is holds = absurd (omega (arith, is))
      other (cause.Unborn pc) is holds = absurd (omega (arith, is))
      other (cause.Large count) is holds = absurd (omega (arith, is))

  pub no_signature : (¬ Holds cause.Signature) → IsFirstAmong Holds 5 6 None
  no_signature none = none_at 5 other
    where
      other : (one : Cause) → number_of one ≡ 5 → ¬ Holds one
      other (cause.Float pc) is holds = absurd (omega (arith, is))
      other (cause.Dynamic pc) is holds = absurd (omega (arith, is))
      other (cause.Missing name) is holds = absurd (omega (arith, is))
      other (cause.Name name) is holds = absurd (omega (arith, is))
      other cause.Signature is holds = none holds
      other (cause.Member pc) is holds = absurd (omega (arith, is))
      other (cause.Interface pc) is holds = absurd (omega (arith, is))
      other (cause.Monitor pc) is holds = absurd (omega (arith, is))
      other (cause.BeforeSuper pc) is holds = absurd (omega (arith, is))
      other (cause.Unborn pc) is holds = absurd (omega (arith, is))
      other (cause.Large count) is holds = absurd (omega (arith, is))

  pub no_member : ((pc : ℕ) → ¬ Holds (cause.Member pc)) → IsFirstAmong Holds 6 7 None
  no_member none = none_at 6 other
    where
      other : (one : Cause) → number_of one ≡ 6 → ¬ Holds one
      other (cause.Float pc) is holds = absurd (omega (arith, is))
      other (cause.Dynamic pc) is holds = absurd (omega (arith, is))
      other (cause.Missing name) is holds = absurd (omega (arith, is))
      other (cause.Name name) is holds = absurd (omega (arith, is))
      other cause.Signature is holds = absurd (omega (arith, is))
      other (cause.Member pc) is holds = none pc holds
      other (cause.Interface pc) is holds = absurd (omega (arith, is))
      other (cause.Monitor pc) is holds = absurd (omega (arith, is))
      other (cause.BeforeSuper pc) is holds = absurd (omega (arith, is))
      other (cause.Unborn pc) is holds = absurd (omega (arith, is))
      other (cause.Large count) is holds = absurd (omega (arith, is))

  pub no_interface : ((pc : ℕ) → ¬ Holds (cause.Interface pc)) → IsFirstAmong Holds 7 8 None
  no_interface none = none_at 7 other
    where
      other : (one : Cause) → number_of one ≡ 7 → ¬ Holds one
      other (cause.Float pc) is holds = absurd (omega (arith, is))
      other (cause.Dynamic pc) is holds = absurd (omega (arith, is))
      other (cause.Missing name) is holds = absurd (omega (arith, is))
      other (cause.Name name) is holds = absurd (omega (arith, is))
      other cause.Signature is holds = absurd (omega (arith, is))
      other (cause.Member pc) is holds = absurd (omega (arith, is))
      other (cause.Interface pc) is holds = none pc holds
      other (cause.Monitor pc) is holds = absurd (omega (arith, is))
      other (cause.BeforeSuper pc) is holds = absurd (omega (arith, is))
      other (cause.Unborn pc) is holds = absurd (omega (arith, is))
      other (cause.Large count) is holds = absurd (omega (arith, is))

  pub no_monitor : ((pc : ℕ) → ¬ Holds (cause.Monitor pc)) → IsFirstAmong Holds 8 9 None
  no_monitor none = none_at 8 other
    where
      other : (one : Cause) → number_of one ≡ 8 → ¬ Holds one
      other (cause.Float pc) is holds = absurd (omega (arith, is))
      other (cause.Dynamic pc) is holds = absurd (omega (arith, is))
      other (cause.Missing name) is holds = absurd (omega (arith, is))
      other (cause.Name name) is holds = absurd (omega (arith, is))
      other cause.Signature is holds = absurd (omega (arith, is))
      other (cause.Member pc) is holds = absurd (omega (arith, is))
      other (cause.Interface pc) is holds = absurd (omega (arith, is))
      other (cause.Monitor pc) is holds = none pc holds
      other (cause.BeforeSuper pc) is holds = absurd (omega (arith, is))
      other (cause.Unborn pc) is holds = absurd (omega (arith, is))
      other (cause.Large count) is holds = absurd (omega (arith, is))

  pub no_beforesuper : ((pc : ℕ) → ¬ Holds (cause.BeforeSuper pc)) → IsFirstAmong Holds 9 10 None
  no_beforesuper none = none_at 9 other
    where
      other : (one : Cause) → number_of one ≡ 9 → ¬ Holds one
      other (cause.Float pc) is holds = absurd (omega (arith, is))
      other (cause.Dynamic pc) is holds = absurd (omega (arith, is))
      other (cause.Missing name) is holds = absurd (omega (arith, is))
      other (cause.Name name) is holds = absurd (omega (arith, is))
      other cause.Signature is holds = absurd (omega (arith, is))
      other (cause.Member pc) is holds = absurd (omega (arith, is))
      other (cause.Interface pc) is holds = absurd (omega (arith, is))
      other (cause.Monitor pc) is holds = absurd (omega (arith, is))
      other (cause.BeforeSuper pc) is holds = none pc holds
      other (cause.Unborn pc) is holds = absurd (omega (arith, is))
      other (cause.Large count) is holds = absurd (omega (arith, is))

  pub no_unborn : ((pc : ℕ) → ¬ Holds (cause.Unborn pc)) → IsFirstAmong Holds 10 11 None
  no_unborn none = none_at 10 other
    where
      other : (one : Cause) → number_of one ≡ 10 → ¬ Holds one
      other (cause.Float pc) is holds = absurd (omega (arith, is))
      other (cause.Dynamic pc) is holds = absurd (omega (arith, is))
      other (cause.Missing name) is holds = absurd (omega (arith, is))
      other (cause.Name name) is holds = absurd (omega (arith, is))
      other cause.Signature is holds = absurd (omega (arith, is))
      other (cause.Member pc) is holds = absurd (omega (arith, is))
      other (cause.Interface pc) is holds = absurd (omega (arith, is))
      other (cause.Monitor pc) is holds = absurd (omega (arith, is))
      other (cause.BeforeSuper pc) is holds = absurd (omega (arith, is))
      other (cause.Unborn pc) is holds = none pc holds
      other (cause.Large count) is holds = absurd (omega (arith, is))

  pub no_large : ((count : ℕ) → ¬ Holds (cause.Large count)) → IsFirstAmong Holds 11 12 None
  no_large none = none_at 11 other
    where
      other : (one : Cause) → number_of one ≡ 11 → ¬ Holds one
      other (cause.Float pc) is holds = absurd (omega (arith, is))
      other (cause.Dynamic pc) is holds = absurd (omega (arith, is))
      other (cause.Missing name) is holds = absurd (omega (arith, is))
      other (cause.Name name) is holds = absurd (omega (arith, is))
      other cause.Signature is holds = absurd (omega (arith, is))
      other (cause.Member pc) is holds = absurd (omega (arith, is))
      other (cause.Interface pc) is holds = absurd (omega (arith, is))
      other (cause.Monitor pc) is holds = absurd (omega (arith, is))
      other (cause.BeforeSuper pc) is holds = absurd (omega (arith, is))
      other (cause.Unborn pc) is holds = absurd (omega (arith, is))
      other (cause.Large count) is holds = none count holds
