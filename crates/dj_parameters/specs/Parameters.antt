-- Parameters in place of their copies (JLS 8.4.1): a variable that holds a parameter as the method begins, and is of that parameter's type, exchanges its name with it.
-- So the text uses the parameter, and the variable occurs no more.
use Rattle.std.specs.Prelude.{ℕ, Bool, false, if◌then◌else◌, List, slice_get, Option, Some, None}
use Rattle.dj_names.specs.Types.{JType, parameters_of}
use Rattle.dj_syntax.specs.declared.variable.VarKind.{VarKind}
use Rattle.dj_syntax.specs.declared.variable.VarKind.TheVariants as kind
use Rattle.dj_syntax.specs.declared.variable.Var.{Var}
use Rattle.dj_syntax.specs.Trees.{Exps, Construct, Stms, And, Body}
use Rattle.dj_values.specs.Deciding.{is_type}
use Rattle.dj_places.specs.Constants.{Surroundings}
use Rattle.dj_renaming.specs.Renaming.{Names, all_renamed}
use Rattle.dj_numbered.specs.Numbering.{numbered}
use Rattle.dj_declaring.specs.declared.entry.Entry.{Entry}
use Rattle.dj_declaring.specs.Entries.{parameter, is_it, place_in}
use Rattle.dj_declaring.specs.Returning.{opening_call, behind_call}
use Rattle.dj_declaring.specs.Declaring.{declared_body}

-- ---- which variables

-- two types, where there are two, are one
abbrev pub is_one : Option JType → Option JType → Bool
is_one None second = false
is_one (Some first) None = false
is_one (Some first) (Some second) = is_type first second

-- a place, where there is one whose parameter is of this type
abbrev pub place_if : List JType → Option JType → Option ℕ → Option ℕ
place_if parameters type None = None
place_if parameters type (Some place) = if is_one type (slice_get parameters place) then Some place else None

-- the parameter that the variable of this number holds as the method begins, where they are of one type
abbrev pub held_parameter : List JType → List JType → Entry → ℕ → Option ℕ
held_parameter parameters kinds entry number =
    if is_it entry.itself number then None else place_if parameters (slice_get kinds number) (place_in entry.parameters 0 number)

-- ---- names

-- the name of a variable that holds a parameter is that parameter's
abbrev pub parameter_or : Var → Option ℕ → Var
parameter_or variable None = variable
parameter_or variable (Some place) = parameter place

-- the variable of this number, where it holds this parameter
abbrev pub holder_or : List JType → List JType → Entry → Var → Option (Option ℕ) → Var
holder_or parameters kinds entry variable None = variable
holder_or parameters kinds entry variable (Some None) = variable
holder_or parameters kinds entry variable (Some (Some number)) =
    if is_it (held_parameter parameters kinds entry number) variable.number then record { kind = kind.Local; number = number } else variable

-- the other name of a variable
abbrev pub with_copy : List JType → List JType → Entry → Var → Var
with_copy parameters kinds entry variable = by_kind variable.kind
  where
    by_kind : VarKind → Var
    by_kind kind.Param = holder_or parameters kinds entry variable (slice_get entry.parameters variable.number)
    by_kind kind.Local = parameter_or variable (held_parameter parameters kinds entry variable.number)
    by_kind kind.Caught = variable
    by_kind kind.State = variable

-- parameters and their copies exchange names
abbrev pub parameter_names : List JType → List JType → Entry → Names
parameter_names parameters kinds entry = record { variable = with_copy parameters kinds entry; label = λ label. label }

-- ---- trees

-- a tree behind the call with which it begins, where it does: that stands before any copy
abbrev pub behind_opening : Names → Stms → Option (Bool × Exps) → Stms
behind_opening names tree None = all_renamed names tree
behind_opening names tree (Some call) = And (Construct call.0 call.1) (all_renamed names (behind_call tree))

-- a tree with parameters in place of their copies
abbrev pub with_parameters : List JType → List JType → Entry → Stms → Stms
with_parameters parameters kinds entry tree = behind_opening (parameter_names parameters kinds entry) tree (opening_call tree)

-- ---- bodies

-- the body of a method as it is printed: parameters stand in place of their copies, and numbers in the order of the text
abbrev pub printed_body : Surroundings → Body → List JType → Entry → ℕ → Stms → Body
printed_body known method kinds entry own tree =
    numbered (declared_body known method kinds entry own (with_parameters (parameters_of method.descriptor) kinds entry tree))
