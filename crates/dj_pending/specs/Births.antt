-- Births that have begun and haven't ended.
use Rattle.std.specs.Prelude.{Bool, true, false, ◌||◌, List, [], ◌∷◌}
use Rattle.dj_rebuilding.specs.Pending.{Pending, Kept, Whole, Born, Again}

-- an entry is an object whose birth has begun, or once more one
abbrev pub is_unborn_entry : Pending → Bool
is_unborn_entry (Kept type atom) = false
is_unborn_entry (Whole type exp) = false
is_unborn_entry (Born class) = true
is_unborn_entry Again = true

-- one of them lies on the stack
abbrev pub has_birth : List Pending → Bool
has_birth [] = false
has_birth (top ∷ below) = is_unborn_entry top || has_birth below

-- an entry begins a birth
abbrev pub is_born_entry : Pending → Bool
is_born_entry (Kept type atom) = false
is_born_entry (Whole type exp) = false
is_born_entry (Born class) = true
is_born_entry Again = false

-- it is an atom
abbrev pub is_kept_entry : Pending → Bool
is_kept_entry (Kept type atom) = true
is_kept_entry (Whole type exp) = false
is_kept_entry (Born class) = false
is_kept_entry Again = false

-- the topmost entry begins a birth
abbrev pub is_born : List Pending → Bool
is_born [] = false
is_born (top ∷ below) = is_born_entry top
