-- There is one first item, so one method that counts.
use Rattle.std.specs.Prelude.{◌≡◌, ℕ, List}
use Rattle.std.proofs.Common.{inl, inr}
use Rattle.std.proofs.Math.Nat.{le_antisymm}
use Rattle.std.proofs.lemmas.Bool.{cases_lt}
use Rattle.dj_names.specs.declared.members.MethodHead.{MethodHead}
use Rattle.dj_names.specs.Headers.{Name}
use Rattle.dj_names.specs.Types.{JType}
use Rattle.dj_kinds.specs.Own.{IsFirst, IsOverload, IsBridge, Counts}

-- there is one first
pub first_one : {A : Type 0} (H : A → Type 0) (items : List A) (one other : ℕ) → IsFirst H items one → IsFirst H items other → one ≡ other
first_one H items one other a b =
    elim (cases_lt one other) [
      | inl below ↦ absurd (b.first one a.item below a.is a.holds)
      | inr from ↦ elim (cases_lt other one) [
        | inl above ↦ absurd (a.first other b.item above b.is b.holds)
        | inr to ↦ le_antisymm to from
      ]
    ]

pub counts_one : (name : Name) (parameters : List JType) (Seen : MethodHead → Type 0) (methods : List MethodHead) (one other : ℕ) → Counts name parameters Seen methods one → Counts name parameters Seen methods other → one ≡ other
counts_one name parameters Seen methods one other (inl a) (inl b) = first_one (λ (method : MethodHead). IsOverload name parameters method × Seen method × ¬ IsBridge method) methods one other a b
counts_one name parameters Seen methods one other (inl a) (inr b) = absurd (b.0 one a)
counts_one name parameters Seen methods one other (inr a) (inl b) = absurd (a.0 other b)
counts_one name parameters Seen methods one other (inr a) (inr b) = first_one (λ (method : MethodHead). IsOverload name parameters method × Seen method) methods one other a.1 b.1
