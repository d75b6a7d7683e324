-- The rules on a body as data: each stands at a place, is of a kind, and is kept or broken.
use Rattle.std.specs.Prelude.{◌≡◌, ◌≤◌, ◌⊎◌, ℕ, Bool, true, false}
use Rattle.dj_places.specs.declared.kind.TypeKind.{TypeKind}

infixr 15 ◌and◌
-- no rule, one, or those of two parts
pub data Rules : Type 0 where
  NoRule : Rules
  Rule : ℕ → TypeKind → Bool → Rules
  ◌and◌ : Rules → Rules → Rules

-- each rule is kept
abbrev pub Holds : Rules → Type 0
Holds NoRule = Unit {0}
Holds (Rule place kind kept) = kept ≡ true
Holds (first and second) = Holds first × Holds second

-- a rule at this place, of this kind, is broken
abbrev pub Breaks : ℕ → TypeKind → Rules → Type 0
Breaks at of NoRule = ⊥
Breaks at of (Rule place kind kept) = (kept ≡ false) × (at ≡ place) × (of ≡ kind)
Breaks at of (first and second) = Breaks at of first ⊎ Breaks at of second

-- a rule is broken at this place, and none at a lower one
pub record IsFirstBroken (rules : Rules) (place : ℕ) : Type 0 where
  pub kind : TypeKind
  pub broken : Breaks place kind rules
  pub least : (other : ℕ) (of : TypeKind) → Breaks other of rules → place ≤ other
