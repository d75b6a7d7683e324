-- What a writer of a part adds to what is written.
use Rattle.std.specs.Prelude.{◌≡◌, ℕ, List, ◌++◌, OnOk, Result}
use Rattle.dj_layout.specs.Layout.{Layout}
use Rattle.dj_layout.specs.Parts.{number}
use Rattle.dj_pool.specs.declared.fault.BrokenKind.{BrokenKind}
use Rattle.dj_pool.specs.declared.fault.BrokenKind.TheVariants as kind

-- a number in one byte, in four, and in eight
abbrev pub u1 : Layout BrokenKind ℕ
u1 = number 1 kind.Short

-- four bytes
abbrev pub u4 : Layout BrokenKind ℕ
u4 = number 4 kind.Short

-- eight bytes
abbrev pub u8 : Layout BrokenKind ℕ
u8 = number 8 kind.Short

-- where memory lasted, the spelling of the value stands behind what was written before
abbrev pub Appends : {A E : Type 0} → Layout BrokenKind A → A → List ℕ → List ℕ → Result (Unit {0}) E → Type 0
Appends layout value before after result = OnOk result (after ≡ before ++ layout.spell value)
