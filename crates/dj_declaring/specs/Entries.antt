-- What the variables of a graph hold as a method begins, and the first values that say so: `this`, a parameter, or the dummy value of a type.
use Rattle.std.specs.Prelude.{◌≡◌, ℕ, suc, ◌==◌, ◌&&◌, Bool, true, false, if◌then◌else◌, ℤ, pos, List, [], ◌∷◌, map, slice_get, Option, Some, None, option_map}
use Rattle.dj_names.specs.declared.header.Header.{Header}
use Rattle.dj_names.specs.Types as types
use Rattle.dj_names.specs.Types.{JType, Boolean, Byte, Char, Short, Float, Double, Class, Array, Of}
use Rattle.dj_syntax.specs.declared.variable.VarKind.{VarKind}
use Rattle.dj_syntax.specs.declared.variable.VarKind.TheVariants as kind
use Rattle.dj_syntax.specs.declared.variable.Var.{Var}
use Rattle.dj_syntax.specs.Trees.{Exp, This, Variable, Choice, Stm, Declare}
use Rattle.dj_syntax.specs.Trees as trees
use Rattle.dj_values.specs.Values as values
use Rattle.dj_values.specs.Values.{Value}
use Rattle.dj_values.specs.Deciding.{is_reference}
use Rattle.dj_meaning.specs.Calls.{is_assignable}
use Rattle.dj_meaning.specs.Runs.{Store}
use Rattle.dj_declare.specs.Heads.{Head, dummy, dummy_value}
use Rattle.dj_declaring.specs.declared.entry.Entry.{Entry}

-- the parameter of this number
abbrev pub parameter : ℕ → Var
parameter number = record { kind = kind.Param; number = number }

-- ---- what a variable holds

-- a variable, where there is one, is the one of this number
abbrev pub is_it : Option ℕ → ℕ → Bool
is_it None number = false
is_it (Some one) number = one == number

-- the first of these parameters that the variable of this number holds, where they are counted from a place on
abbrev pub place_in : List (Option ℕ) → ℕ → ℕ → Option ℕ
place_in [] place number = None
place_in (first ∷ rest) place number = if is_it first number then Some place else place_in rest (suc place) number

-- ---- first values

-- a parameter of this type as a first value; a boolean is an int there, and Java has no cast between the two
abbrev pub copied : JType → Exp → Exp
copied Boolean operand = Choice operand (trees.Int (pos 1)) (trees.Int (pos 0))
copied Byte operand = operand
copied Char operand = operand
copied Short operand = operand
copied types.Int operand = operand
copied types.Long operand = operand
copied Float operand = operand
copied Double operand = operand
copied (Class name) operand = operand
copied (Array element) operand = operand

-- the parameter at a place, where there is one, for a variable of a type
abbrev pub parameter_copy : JType → ℕ → Option JType → Exp
parameter_copy type place None = dummy type
parameter_copy type place (Some given) = copied given (Variable (parameter place))

-- a parameter that a variable holds, or the dummy value
abbrev pub first_copy : List JType → JType → Option ℕ → Exp
first_copy parameters type None = dummy type
first_copy parameters type (Some place) = parameter_copy type place (slice_get parameters place)

-- the first value of the variable of this number and type, given the types of the parameters
abbrev pub first_value : List JType → Entry → JType → ℕ → Exp
first_value parameters entry type number =
    if is_it entry.itself number then This else first_copy parameters type (place_in entry.parameters 0 number)

-- the type of a variable that has a kind; there is none without
abbrev pub kind_or_int : Option JType → JType
kind_or_int None = types.Int
kind_or_int (Some type) = type

-- the type of a variable at the head
abbrev pub head_type : List JType → Var → JType
head_type kinds variable = by_kind variable.kind
  where
    by_kind : VarKind → JType
    by_kind kind.Param = types.Int
    by_kind kind.Local = kind_or_int (slice_get kinds variable.number)
    by_kind kind.Caught = types.Int
    by_kind kind.State = types.Int

-- its first value, given its type
abbrev pub head_initial : List JType → Entry → JType → Var → Exp
head_initial parameters entry type variable = by_kind variable.kind
  where
    by_kind : VarKind → Exp
    by_kind kind.Param = dummy types.Int
    by_kind kind.Local = first_value parameters entry type variable.number
    by_kind kind.Caught = dummy types.Int
    by_kind kind.State = dummy types.Int

-- the declaration of a variable of a kind
abbrev pub local_declaration : List JType → Entry → Var → JType → Stm
local_declaration parameters entry variable type = Declare variable type (Some (first_value parameters entry type variable.number))

-- a variable at the head
abbrev pub head_of : List JType → List JType → Entry → Var → Head
head_of kinds parameters entry variable =
    record { variable = variable; type = head_type kinds variable; initial = head_initial parameters entry (head_type kinds variable) variable }

-- the head of a body, given the variables that occur in it
abbrev pub heads_of : List JType → List JType → Entry → List Var → List Head
heads_of kinds parameters entry variables = map (head_of kinds parameters entry) variables

-- ---- what they hold

-- what is there, or else a value
abbrev pub or_value : Value → Option Value → Value
or_value otherwise None = otherwise
or_value otherwise (Some value) = value

-- what a parameter holds, or the dummy value
abbrev pub first_argument : List Value → JType → Option ℕ → Value
first_argument arguments type None = dummy_value type
first_argument arguments type (Some place) = or_value (dummy_value type) (slice_get arguments place)

-- what the variable of this number and type holds, given `this` and what the parameters hold
abbrev pub first_held : Option Value → List Value → Entry → JType → ℕ → Value
first_held this arguments entry type number =
    if is_it entry.itself number then or_value (dummy_value type) this else first_argument arguments type (place_in entry.parameters 0 number)

-- what a variable at the head holds
abbrev pub held_by : List JType → Option Value → List Value → Entry → Var → Value
held_by kinds this arguments entry variable = by_kind variable.kind
  where
    by_kind : VarKind → Value
    by_kind kind.Param = values.Int (pos 0)
    by_kind kind.Local = first_held this arguments entry (kind_or_int (slice_get kinds variable.number)) variable.number
    by_kind kind.Caught = values.Int (pos 0)
    by_kind kind.State = values.Int (pos 0)

-- the store as the run of a graph begins: each variable that has a kind holds what it has at first, each that holds a state 0, and a parameter its argument
abbrev pub first_store : List JType → Option Value → List Value → Entry → Store
first_store kinds this arguments entry = record { variables = λ variable. by_kind variable variable.kind; held = [] }
  where
    by_kind : Var → VarKind → Option Value
    by_kind variable kind.Param = slice_get arguments variable.number
    by_kind variable kind.Local = option_map (λ type. first_held this arguments entry type variable.number) (slice_get kinds variable.number)
    by_kind variable kind.Caught = None
    by_kind variable kind.State = Some (values.Int (pos 0))

-- ---- what may be copied

-- the machine keeps values of this type as ints
abbrev pub is_kept_as_int : JType → Bool
is_kept_as_int Boolean = true
is_kept_as_int Byte = true
is_kept_as_int Char = true
is_kept_as_int Short = true
is_kept_as_int types.Int = true
is_kept_as_int types.Long = false
is_kept_as_int Float = false
is_kept_as_int Double = false
is_kept_as_int (Class name) = false
is_kept_as_int (Array element) = false

-- it is long
abbrev pub is_long : JType → Bool
is_long Boolean = false
is_long Byte = false
is_long Char = false
is_long Short = false
is_long types.Int = false
is_long types.Long = true
is_long Float = false
is_long Double = false
is_long (Class name) = false
is_long (Array element) = false

-- what is of the first type may be copied into a variable of the second, which holds the same value then; all that the machine keeps as an int is one there
abbrev pub may_copy : List Header → JType → JType → Bool
may_copy headers from Boolean = false
may_copy headers from Byte = false
may_copy headers from Char = false
may_copy headers from Short = false
may_copy headers from types.Int = is_kept_as_int from
may_copy headers from types.Long = is_long from
may_copy headers from Float = false
may_copy headers from Double = false
may_copy headers from (Class name) = is_reference from && is_assignable headers (Of from) (Class name)
may_copy headers from (Array element) = is_reference from && is_assignable headers (Of from) (Array element)
