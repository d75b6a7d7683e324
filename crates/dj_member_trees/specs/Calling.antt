-- Calls, with their operands tested and cast one by one.
use Rattle.std.specs.Prelude.{ℕ, zero, suc, ◌+◌, Bool, true, false, not, ◌&&◌, ◌||◌, if◌then◌else◌, List, [], ◌∷◌, Option, Some, None}
use Rattle.dj_names.specs.declared.header.Header.{Header}
use Rattle.dj_names.specs.Headers.{Name}
use Rattle.dj_names.specs.MethodNames.{is_constructor}
use Rattle.dj_names.specs.Types.{JType, Class, Of, parameters_of, result_of}
use Rattle.dj_kinds.specs.Search.{header_of, superclass_in}
use Rattle.dj_kinds.specs.Choice.{searched_class}
use Rattle.dj_syntax.specs.Trees.{Exp, Call, StaticCall, SuperCall, New, Exps}
use Rattle.dj_values.specs.Values.{InvokeKind}
use Rattle.dj_values.specs.Fits.{class_of}
use Rattle.dj_values.specs.Deciding.{is_type, is_some_and, is_subclass, is_interface}
use Rattle.dj_instructions.specs.Instructions.{MethodRef}
use Rattle.dj_bytecode.specs.Meanings.{arguments_of}
use Rattle.dj_places.specs.Constants.{Surroundings}
use Rattle.dj_meaning.specs.Targets.{result}
use Rattle.dj_members_shown.specs.Meant.{asked_of}
use Rattle.dj_members_shown.specs.Alone.{is_alone, is_alone_in}
use Rattle.dj_rebuilding.specs.Pending.{Pending, Kept, Whole, Born, Again, Built, Typed, sets, and_then, emit, grown}
use Rattle.dj_rebuilt.specs.Rebuilding.{Plain, dropped, ended_birth}
use Rattle.dj_member_nodes.specs.Nodes.{is_this}
use Rattle.dj_pending.specs.Births.{is_unborn_entry}
use Rattle.dj_pending.specs.Operands.{taken_from}
use Rattle.dj_member_trees.specs.Fitting.{receiver}
use Rattle.dj_member_trees.specs.Given.{given}

-- what a call by an instruction on an object gives
abbrev pub call_result : InvokeKind → MethodRef → Option JType
call_result kind method = result (asked_of kind method.owner method)

-- ---- calls as expressions

-- the arguments of a method that is looked for in a class
abbrev pub arguments_in : Surroundings → Name → MethodRef → List Typed → Option Exps
arguments_in known class method are =
    given known.headers (is_alone known.headers known.members method.name class (parameters_of method.descriptor)) are (parameters_of method.descriptor)

-- in the class in which the methods of its owner are
abbrev pub own_arguments : Surroundings → MethodRef → List Typed → Option Exps
own_arguments known method are =
    given known.headers (is_alone_in known.headers known.members method.name (searched_class method.owner) (parameters_of method.descriptor)) are (parameters_of method.descriptor)

-- a call on an object
abbrev pub object_called : Surroundings → MethodRef → List Typed → Option Exp
object_called known method [] = None
object_called known method (object ∷ arguments) =
    and_then (receiver known.headers method.owner object) (λ on. and_then (own_arguments known method arguments) (λ more. Some (Call on method.name more)))

-- of a static method
abbrev pub class_called : Surroundings → MethodRef → List Typed → Option Exp
class_called known method are = and_then (class_of method.owner) (λ class. and_then (arguments_in known class method are) (λ more. Some (StaticCall class method.name more)))

-- a method behind `super` is looked for from a superclass on
abbrev pub starts_above : List Header → Name → MethodRef → Bool
starts_above headers superclass method =
    (not (is_constructor method.name) && is_some_and (class_of method.owner) (λ upper. is_subclass headers superclass upper)) || is_type method.owner (Class superclass)

-- that superclass, where this is so
abbrev pub class_above : Surroundings → MethodRef → Option Name
class_above known method =
    if is_interface known.headers known.class then None
    else and_then (superclass_in (header_of known.headers known.class)) (λ superclass. if starts_above known.headers superclass method then Some superclass else None)

-- a call behind `super` of a method that is looked for in a class, which is named or not
abbrev pub super_in : Surroundings → Name → Bool → MethodRef → List Typed → Option Exp
super_in known class named method are = and_then (arguments_in known class method are) (λ more. Some (SuperCall (if named then Some class else None) method.name more))

-- in an interface that is named
abbrev pub super_named : Surroundings → MethodRef → List Typed → Option Exp
super_named known method are = and_then (class_of method.owner) (λ class. super_in known class true method are)

-- in the superclass, or there
abbrev pub super_by : Surroundings → MethodRef → List Typed → Option Name → Option Exp
super_by known method are None = super_named known method are
super_by known method are (Some class) = super_in known class false method are

-- a call behind `super`
abbrev pub super_called : Surroundings → MethodRef → List Typed → Option Exp
super_called known method [] = None
super_called known method (object ∷ arguments) = if is_this object.1 then super_by known method arguments (class_above known method) else None

-- of a method of this class, or behind `super`
abbrev pub special_called : Surroundings → MethodRef → List Typed → Option Exp
special_called known method are =
    if is_constructor method.name then None else (if is_type method.owner (Class known.class) then object_called known method are else super_called known method are)

-- a new object
abbrev pub birth_called : Surroundings → MethodRef → Name → List Typed → Option Exp
birth_called known method class are =
    if is_constructor method.name && is_type method.owner (Class class) then and_then (arguments_in known class method are) (λ more. Some (New class more)) else None

-- ---- what calls build

-- a statement, if there is one
abbrev pub effect_put : ℕ → List Pending → Option Plain → Option Built
effect_put n below None = None
effect_put n below (Some effect) = emit (sets effect.1) n below effect.0

-- what a call gives is pushed; one that gives nothing is a statement
abbrev pub result_built : ℕ → List Pending → Option JType → Exp → Option Built
result_built n below None exp = effect_put n below (dropped exp)
result_built n below (Some type) exp = grown n (Whole (Of type) exp ∷ below)

-- a call in the place of so many operands
abbrev pub called_built : ℕ → (List Typed → Option Exp) → Option JType → ℕ → List Pending → Option Built
called_built count called given n stack = and_then (taken_from count [] stack) (λ found. and_then (called found.0) (result_built n found.1 given))

-- an object whose birth has begun lies at a place
abbrev pub is_birth_at : ℕ → List Pending → Bool
is_birth_at place [] = false
is_birth_at zero (top ∷ below) = is_unborn_entry top
is_birth_at (suc place) (top ∷ below) = is_birth_at place below

-- a birth whose object is there twice is ended: the object stays
abbrev pub again_ended : Surroundings → MethodRef → ℕ → List Typed → List Pending → Option Built
again_ended known method n are [] = None
again_ended known method n are (Kept type atom ∷ below) = None
again_ended known method n are (Whole type exp ∷ below) = None
again_ended known method n are (Born class ∷ below) = ended_birth n class below (birth_called known method class are)
again_ended known method n are (Again ∷ below) = None

-- one whose object is there once is ended: a statement
abbrev pub once_ended : Surroundings → MethodRef → Name → ℕ → List Typed → List Pending → Option Built
once_ended known method class n are below = and_then (birth_called known method class are) (result_built n below None)

-- a birth is ended
abbrev pub birth_ended : Surroundings → MethodRef → ℕ → List Typed → List Pending → Option Built
birth_ended known method n are [] = None
birth_ended known method n are (Kept type atom ∷ below) = None
birth_ended known method n are (Whole type exp ∷ below) = None
birth_ended known method n are (Born class ∷ below) = once_ended known method class n are below
birth_ended known method n are (Again ∷ below) = again_ended known method n are below

-- of a constructor
abbrev pub birth_built : Surroundings → MethodRef → ℕ → List Pending → Option Built
birth_built known method n stack = and_then (taken_from (arguments_of method.descriptor) [] stack) (λ found. birth_ended known method n found.0 found.1)

-- of a constructor, a private method, or behind `super`
abbrev pub special_built : Surroundings → MethodRef → ℕ → List Pending → Option Built
special_built known method n stack =
    if is_birth_at (arguments_of method.descriptor) stack then birth_built known method n stack
    else called_built (arguments_of method.descriptor + 1) (special_called known method) (result_of method.descriptor) n stack
