-- Operands that are taken one by one, tested and cast.
use Rattle.std.specs.Prelude.{ℕ, zero, suc, Bool, false, ◌&&◌, if◌then◌else◌, length, List, [], ◌∷◌, Option, Some, None}
use Rattle.dj_names.specs.declared.header.Header.{Header}
use Rattle.dj_names.specs.Types as types
use Rattle.dj_names.specs.Types.{JType, Class, Array, StaticType, Of}
use Rattle.dj_names.specs.Assignable.{object_name}
use Rattle.dj_syntax.specs.Trees.{Exp, Cast, NewArray}
use Rattle.dj_instructions.specs.declared.kinds.Element as elements
use Rattle.dj_values.specs.Fits.{element_of, innermost}
use Rattle.dj_values.specs.Deciding.{is_type, is_reference}
use Rattle.dj_typing.specs.Casting.{may_be, may_be_of, may_cast}
use Rattle.dj_rebuilding.specs.Pending.{Pending, Typed, and_then}
use Rattle.dj_rebuilt.specs.Nodes.{is_whole, as_int}
use Rattle.dj_members_shown.specs.Casts.{is_object, dressed, stored_as}
use Rattle.dj_member_nodes.specs.Going.{fits_in}
use Rattle.dj_member_nodes.specs.Nodes.{depth_of, element_in, works_on, sizes_of}
use Rattle.dj_pending.specs.Entries.{operand_of}

-- what was found, and what lies below
abbrev pub above : {A : Type 0} → List Pending → Option A → Option (A × List Pending)
above below None = None
above below (Some one) = Some (one, below)

-- what is made of an operand from the top of a stack
abbrev pub taken_by : {A : Type 0} → (Typed → Option A) → List Pending → Option (A × List Pending)
taken_by pick [] = None
taken_by pick (top ∷ below) = above below (and_then (operand_of top) pick)

-- the operand as it is
abbrev pub itself : Typed → Option Typed
itself one = Some one

-- the type of longs
abbrev pub is_long : JType → Bool
is_long type = is_type types.Long type

-- an operand where a type is wanted, if it goes there
abbrev pub fitted : List Header → Bool → JType → Typed → Option Exp
fitted world alone to one = if fits_in world one.0 to then Some (dressed world alone one.0 to one.1) else None

-- an int, if it is one
abbrev pub whole : Typed → Option Exp
whole one = if is_whole one.0 then Some (as_int one.0 one.1) else None

-- the object of a call
abbrev pub receiver : List Header → JType → Typed → Option Exp
receiver world owner one = if is_reference owner then fitted world false owner one else None

-- an operand may be of a type, once it is one of Object
abbrev pub goes_through : List Header → StaticType → JType → JType → Bool
goes_through world from object to = fits_in world from object && may_be world object to

-- an operand of a cast or a test: as it is, or cast to Object first
abbrev pub widened : List Header → Bool → JType → Typed → Option Exp
widened world direct to one =
    if direct then Some one.1 else (if goes_through world one.0 (Class object_name) to then Some (Cast (Class object_name) one.1) else None)

-- both are references
abbrev pub are_references : StaticType → JType → Bool
are_references from to = is_reference to && is_object from

abbrev pub cast_operand : List Header → JType → Typed → Option Exp
cast_operand world to one = if are_references one.0 to then widened world (may_cast world one.0 to) to one else None

abbrev pub test_operand : List Header → JType → Typed → Option Exp
test_operand world to one = if are_references one.0 to then widened world (may_be_of world one.0 to) to one else None

-- an array whose elements an instruction works on, as it is written, with the type of these
abbrev pub array_for : List Header → elements.Element → Typed → Option Typed
array_for world kind one = and_then (element_in kind one.0) (λ type. if works_on kind type then Some (Of type, dressed world false one.0 (Array type) one.1) else None)

-- the type of elements as which an array is written to
abbrev pub written_as : List Header → elements.Element → StaticType → StaticType → Option JType
written_as world kind array new = and_then (element_in kind array) (λ type. if works_on kind type then Some (stored_as world type array new) else None)

-- the type behind so many dimensions
abbrev pub behind_sizes : ℕ → JType → Option JType
behind_sizes zero type = Some type
behind_sizes (suc count) type = and_then (element_of type) (behind_sizes count)

-- a new array with sizes
abbrev pub array_of_sizes : JType → List Typed → Option Exp
array_of_sizes type [] = None
array_of_sizes type (first ∷ rest) =
    and_then (behind_sizes (length (first ∷ rest)) type) (λ left. and_then (sizes_of (first ∷ rest)) (λ sizes. Some (NewArray (innermost type) sizes (depth_of left))))
