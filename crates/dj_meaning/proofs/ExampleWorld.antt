-- Two classes, an interface and what they stand on, for worked examples.
use Rattle.std.proofs.Common.{ℕ, false, List, [], ◌∷◌, Option, Some, None}
use Rattle.std.specs.Prelude.{pos, codes}
use Rattle.dj_names.specs.declared.header.Header.{Header}
use Rattle.dj_names.specs.declared.members.Constant.TheVariants as constant
use Rattle.dj_names.specs.Headers.{Name}
use Rattle.dj_names.specs.Types as types
use Rattle.dj_names.specs.Types.{JType, Byte, Class, Array}
use Rattle.dj_syntax.specs.declared.variable.Var.{Var}
use Rattle.dj_syntax.specs.declared.variable.VarKind.TheVariants as kind
use Rattle.dj_syntax.specs.Trees.{Exp, Variable, Stm, Stms, Empty, And, NoExps, AndExp, Exps}
use Rattle.dj_syntax.specs.Trees as trees
use Rattle.dj_values.specs.Values.{RefValue, Numbered, Int, Long, Null, Ref, Answer, Show}
use Rattle.dj_values.specs.Outcomes.{State, opening, shown}
use Rattle.dj_meaning.specs.Members.{Field, Method, Members}
use Rattle.dj_meaning.specs.StaticTypes.{Context, Scope}
use Rattle.dj_meaning.specs.Runs.{Store, ◌>>=◌}
use Rattle.dj_meaning.specs.Meaning.{run_all, ended, of_parameter}

abbrev pub object_class : Name
object_class = codes "java/lang/Object"

abbrev pub throwable_class : Name
throwable_class = codes "java/lang/Throwable"

abbrev pub null_pointer : Name
null_pointer = codes "java/lang/NullPointerException"

abbrev pub header : Name → Option Name → List Name → ℕ → Header
header name superclass interfaces flags = record { name = name; superclass = superclass; interfaces = interfaces; flags = flags }

-- `class C extends B implements I`, `class B extends Object`
abbrev pub headers : List Header
headers =
    header (codes "C") (Some (codes "B")) (codes "I" ∷ []) 0x0021
    ∷ header (codes "B") (Some object_class) [] 0x0021
    ∷ header (codes "I") (Some object_class) [] 0x0601
    ∷ header object_class None [] 0x0021
    ∷ header throwable_class (Some object_class) [] 0x0021
    ∷ header null_pointer (Some throwable_class) [] 0x0021
    ∷ []

abbrev pub field : ℕ → Name → JType → Field
field flags name type = record { flags = flags; name = name; type = type; constant = None }

abbrev pub method : ℕ → Name → List JType → Option JType → Method
method flags name parameters result = record { flags = flags; name = name; descriptor = types.Method parameters result }

abbrev pub none : Members
none = record { fields = []; methods = [] }

abbrev pub members : List Members
members =
    record {
      fields =
          field 0x0001 (codes "x") types.Int ∷ field 0x0009 (codes "s") types.Long
          ∷ (record { flags = 0x0019; name = codes "K"; type = types.Int; constant = Some (constant.Int (pos 7)) })
          ∷ field 0x0001 (codes "f") types.Float ∷ [];
      methods =
          method 0x0001 (codes "<init>") (types.Int ∷ []) None
          ∷ method 0x0001 (codes "m") (types.Int ∷ []) (Some types.Int)
          ∷ method 0x0001 (codes "m") (types.Long ∷ []) (Some types.Long)
          ∷ method 0x0002 (codes "own") [] None
          ∷ method 0x0009 (codes "t") (types.Long ∷ []) (Some types.Int)
          ∷ [];
    }
    ∷ (record {
      fields = field 0x0001 (codes "b") Byte ∷ [];
      methods =
          method 0x0001 (codes "<init>") [] None ∷ method 0x0001 (codes "m") (types.Int ∷ []) (Some types.Int)
          ∷ method 0x0001 (codes "hash") [] (Some types.Int) ∷ [];
    })
    ∷ (record { fields = []; methods = method 0x0401 (codes "run") [] None ∷ [] })
    ∷ (record { fields = []; methods = method 0x0001 (codes "<init>") [] None ∷ method 0x0004 (codes "clone") [] (Some (Class object_class)) ∷ [] })
    ∷ none ∷ none ∷ []

-- ---- values

-- a reference to an object of a class
abbrev pub object : ℕ → Name → RefValue
object number class = record { id = Numbered number; class = Class class; length = 0 }

-- `this`
abbrev pub this : RefValue
this = object 1 (codes "C")

-- an array of two ints
abbrev pub ints : RefValue
ints = record { id = Numbered 2; class = Array types.Int; length = 2 }

-- an array of one C, known as one of objects
abbrev pub objects : RefValue
objects = record { id = Numbered 3; class = Array (Class (codes "C")); length = 1 }

-- an exception
abbrev pub exception : RefValue
exception = object 4 null_pointer

-- ---- runs

-- an instance method of C with this result
abbrev pub context : Option JType → Context
context result = record { headers = headers; members = members; class = codes "C"; result = result; this = Some (Ref this); constructs = false }

-- the parameters: an int 5, a long 6, the array of ints, null as a C, the array of objects, the exception, and `this` as an I
abbrev pub scope : Scope
scope =
    of_parameter (types.Int ∷ types.Long ∷ Array types.Int ∷ Class (codes "C") ∷ Array (Class object_class) ∷ Class null_pointer ∷ Class (codes "I") ∷ [])

abbrev pub start : List Answer → State Store
start answers = record {
  store = record {
    variables = of_parameter (Int (pos 5) ∷ Long (pos 6) ∷ Ref ints ∷ Null ∷ Ref objects ∷ Ref exception ∷ Ref this ∷ []);
    held = [];
  };
  world = opening answers;
}

-- what statements show
abbrev pub shows : Option JType → Stms → List Answer → ℕ → Show
shows result list answers bound = shown ((run_all (context result) scope bound list >>= ended result) (start answers))

-- ---- trees

abbrev pub local : ℕ → Var
local number = record { kind = kind.Local; number = number }

abbrev pub parameter_variable : ℕ → Var
parameter_variable number = record { kind = kind.Param; number = number }

abbrev pub parameter : ℕ → Exp
parameter number = Variable (parameter_variable number)

abbrev pub int : ℕ → Exp
int number = trees.Int (pos number)

abbrev pub one : Exp → Exps
one exp = AndExp exp NoExps

abbrev pub only : Stm → Stms
only stm = And stm Empty

-- what an expression shows as the result of a method
abbrev pub gives : JType → Exp → List Answer → Show
gives type exp answers = shows (Some type) (only (trees.Return (Some exp))) answers 0
