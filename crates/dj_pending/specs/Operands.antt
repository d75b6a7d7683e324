-- The operands that are taken from the stack.
use Rattle.std.specs.Prelude.{ℕ, zero, suc, Bool, true, false, List, [], ◌∷◌, ◌++◌, Option, Some, None}
use Rattle.dj_names.specs.Types as types
use Rattle.dj_names.specs.Types.{StaticType, Boolean, Byte, Char, Short, Int, Long, Float, Double, Class, Array, Of}
use Rattle.dj_rebuilding.specs.Pending.{Pending, Kept, Whole, Born, Again, Typed, exp_of}
use Rattle.dj_pending.specs.declared.entry.Operand as code_operand
use Rattle.dj_pending.specs.Entries.{view_operand}

-- operands of the program, which has the topmost first
abbrev pub operands_of : List code_operand.Operand → List Typed
operands_of [] = []
operands_of (first ∷ rest) = operands_of rest ++ view_operand first ∷ []

-- so many expressions from a stack, the topmost last, in front of others, and what lies below them
abbrev pub taken_from : ℕ → List Typed → List Pending → Option (List Typed × List Pending)
taken_from zero behind stack = Some (behind, stack)
taken_from (suc count) behind [] = None
taken_from (suc count) behind (Kept type atom ∷ below) = taken_from count ((type, exp_of atom) ∷ behind) below
taken_from (suc count) behind (Whole type exp ∷ below) = taken_from count ((type, exp) ∷ behind) below
taken_from (suc count) behind (Born class ∷ below) = None
taken_from (suc count) behind (Again ∷ below) = None

-- what was taken, and what lies below
abbrev pub taken : Option (List Typed) → List Pending → Option (List Typed × List Pending)
taken None below = None
taken (Some operands) below = Some (operands, below)

-- the type of booleans
abbrev pub is_truth : StaticType → Bool
is_truth types.Null = false
is_truth (Of Boolean) = true
is_truth (Of Byte) = false
is_truth (Of Char) = false
is_truth (Of Short) = false
is_truth (Of Int) = false
is_truth (Of Long) = false
is_truth (Of Float) = false
is_truth (Of Double) = false
is_truth (Of (Class name)) = false
is_truth (Of (Array element)) = false
