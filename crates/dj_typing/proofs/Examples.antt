-- The rules on expressions at worked examples (JLS 15): the first rule that is broken, or none. Java compilers say the same but of two, which say so.
use Rattle.std.proofs.Common.{◌≡◌, ℕ, Bool, true, false, List, [], ◌∷◌, Option, Some, None, refl}
use Rattle.std.specs.Prelude.{pos, codes}
use Rattle.dj_names.specs.declared.header.Header.{Header}
use Rattle.dj_names.specs.Headers.{Name}
use Rattle.dj_names.specs.Types as types
use Rattle.dj_names.specs.Types.{JType, Boolean, Byte, Class, Array}
use Rattle.dj_syntax.specs.declared.variable.Var.{Var}
use Rattle.dj_syntax.specs.declared.variable.VarKind.TheVariants.{Param, Local}
use Rattle.dj_syntax.specs.declared.operator.Op.TheVariants as op
use Rattle.dj_syntax.specs.Trees.{Exp, Text, Truth, Null, This, Variable, ClassOf, Field, Element, Call, StaticCall, SuperCall, New, NewArray, Cast, InstanceOf, Negative, Not, Binary, Choice, Assign, NoExps, AndExp}
use Rattle.dj_syntax.specs.Trees as trees
use Rattle.dj_meaning.specs.Members.{Members}
use Rattle.dj_meaning.specs.StaticTypes.{Scope}
use Rattle.dj_meaning.specs.Meaning.{of_parameter}
use Rattle.dj_faults.specs.TypeKind.TheVariants as kinds
use Rattle.dj_faults.specs.declared.fault.Fault.{Fault}
use Rattle.dj_faults.specs.Faults.{first_fault}
use Rattle.dj_typing.specs.Sites.{Site}
use Rattle.dj_typing.specs.Expressions.{exp_types, effect_types}

-- ---- classes: `C`, the final class `F`, the interface `I`, `D` that implements it, and those of java/lang that they stand on

abbrev object : Name
object = codes "java/lang/Object"

abbrev headers : List Header
headers =
    record { name = codes "C"; superclass = Some object; interfaces = []; flags = 0x0021 }
    ∷ record { name = codes "F"; superclass = Some object; interfaces = []; flags = 0x0031 }
    ∷ record { name = codes "I"; superclass = Some object; interfaces = []; flags = 0x0601 }
    ∷ record { name = object; superclass = None; interfaces = []; flags = 0x0021 }
    ∷ record { name = codes "java/lang/String"; superclass = Some object; interfaces = []; flags = 0x0031 }
    ∷ record { name = codes "D"; superclass = Some object; interfaces = codes "I" ∷ []; flags = 0x0021 }
    ∷ record { name = codes "java/lang/Class"; superclass = Some object; interfaces = []; flags = 0x0031 } ∷ []

abbrev none : Members
none = record { fields = []; methods = [] }

-- `static int m(int)`, the constructor of nothing and `static void n()`, of C; `default int k()`, of I
abbrev members : List Members
members =
    record {
      fields = [];
      methods =
          record { flags = 0x0008; name = codes "m"; descriptor = types.Method (types.Int ∷ []) (Some types.Int) }
          ∷ record { flags = 0x0001; name = codes "<init>"; descriptor = types.Method [] None }
          ∷ record { flags = 0x0008; name = codes "n"; descriptor = types.Method [] None } ∷ [];
    }
    ∷ none ∷ record { fields = []; methods = record { flags = 0x0001; name = codes "k"; descriptor = types.Method [] (Some types.Int) } ∷ [] } ∷ none ∷ none ∷ none ∷ none ∷ []

-- a static body of C
abbrev site : Site
site = record { headers = headers; members = members; class = codes "C"; has_this = false; can_say = λ name. true; can_name = λ name. true }

-- a body of D that isn't static, and whose text can say the name of each class or of none
abbrev site_of_d : Bool → Site
site_of_d said = record { headers = headers; members = members; class = codes "D"; has_this = true; can_say = λ name. said; can_name = λ name. true }

-- int p0, byte p1, boolean p2, C p3, F p4, I p5, int[] p6, String p7
abbrev scope : Scope
scope =
    of_parameter (types.Int ∷ Byte ∷ Boolean ∷ Class (codes "C") ∷ Class (codes "F") ∷ Class (codes "I") ∷ Array types.Int ∷ Class (codes "java/lang/String") ∷ [])

abbrev fault : Exp → Option Fault
fault exp = first_fault (exp_types site scope 0 exp)

abbrev p : ℕ → Exp
p number = Variable (record { kind = Param; number = number })

abbrev parameter : ℕ → Var
parameter number = record { kind = Param; number = number }

-- p0 + p1
sum : fault (Binary op.Add (p 0) (p 1)) ≡ None
sum = refl

-- p0 + p2
no_sum : fault (Binary op.Add (p 0) (p 2)) ≡ Some (record { place = 0; kind = kinds.WrongType })
no_sum = refl

-- v0, which is not in scope; the sum that it is a part of keeps silent
unknown : fault (Binary op.Add (p 0) (Variable (record { kind = Local; number = 0 }))) ≡ Some (record { place = 2; kind = kinds.Name })
unknown = refl

-- p1 = p0
narrowed : fault (Assign (parameter 1) (p 0)) ≡ Some (record { place = 0; kind = kinds.WrongType })
narrowed = refl

-- p1 = (byte) p0
cast_first : fault (Assign (parameter 1) (Cast Byte (p 0))) ≡ None
cast_first = refl

-- p0 = p1
widened : fault (Assign (parameter 0) (p 1)) ≡ None
widened = refl

-- (F) p3: two classes of which none is above the other
apart : fault (Cast (Class (codes "F")) (p 3)) ≡ Some (record { place = 0; kind = kinds.WrongType })
apart = refl

-- (F) p5: a final class that doesn't implement the interface
final_class : fault (Cast (Class (codes "F")) (p 5)) ≡ Some (record { place = 0; kind = kinds.WrongType })
final_class = refl

-- (C) p5: a class below may implement it
open_class : fault (Cast (Class (codes "C")) (p 5)) ≡ None
open_class = refl

-- p3 == p5, p3 == p4, p3 == null, p3 == p0
may_be_same : fault (Binary op.Eq (p 3) (p 5)) ≡ None
may_be_same = refl

never_same : fault (Binary op.Eq (p 3) (p 4)) ≡ Some (record { place = 0; kind = kinds.WrongType })
never_same = refl

same_as_null : fault (Binary op.Eq (p 3) Null) ≡ None
same_as_null = refl

number_and_object : fault (Binary op.Eq (p 3) (p 0)) ≡ Some (record { place = 0; kind = kinds.WrongType })
number_and_object = refl

-- p6[p1], p6[1L], p6.length, p3.length
element : fault (Element (p 6) (p 1)) ≡ None
element = refl

long_index : fault (Element (p 6) (trees.Long (pos 1))) ≡ Some (record { place = 0; kind = kinds.WrongType })
long_index = refl

length_of_array : fault (Field (p 6) (codes "length")) ≡ None
length_of_array = refl

no_field : fault (Field (p 3) (codes "length")) ≡ Some (record { place = 0; kind = kinds.Access })
no_field = refl

-- C.m(p1), C.m(p2)
called : fault (StaticCall (codes "C") (codes "m") (AndExp (p 1) NoExps)) ≡ None
called = refl

not_applicable : fault (StaticCall (codes "C") (codes "m") (AndExp (p 2) NoExps)) ≡ Some (record { place = 0; kind = kinds.Call })
not_applicable = refl

-- new C(), new I()
object_made : fault (New (codes "C") NoExps) ≡ None
object_made = refl

no_object : fault (New (codes "I") NoExps) ≡ Some (record { place = 0; kind = kinds.Call })
no_object = refl

-- `this` in a static body
static_this : fault This ≡ Some (record { place = 0; kind = kinds.Name })
static_this = refl

-- p2 ? p3 : null, p2 ? p0 : p1
or_null : fault (Choice (p 2) (p 3) Null) ≡ None
or_null = refl

-- Java compilers take the second; results of two types are refused here, since a cast is written
two_types : fault (Choice (p 2) (p 0) (p 1)) ≡ Some (record { place = 0; kind = kinds.WrongType })
two_types = refl

-- -p2, !p2, new int[p0]
negative_boolean : fault (Negative (p 2)) ≡ Some (record { place = 0; kind = kinds.WrongType })
negative_boolean = refl

inverted : fault (Not (p 2)) ≡ None
inverted = refl

array_made : fault (NewArray types.Int (AndExp (p 0) NoExps) 0) ≡ None
array_made = refl

-- null instanceof C, p0 instanceof C
null_test : fault (InstanceOf Null (Class (codes "C"))) ≡ None
null_test = refl

number_test : fault (InstanceOf (p 0) (Class (codes "C"))) ≡ Some (record { place = 0; kind = kinds.WrongType })
number_test = refl

-- -C.n(), where n gives nothing; the sign keeps silent
of_nothing : fault (Negative (StaticCall (codes "C") (codes "n") NoExps)) ≡ Some (record { place = 1; kind = kinds.WrongType })
of_nothing = refl

-- C.n(); alone
nothing_alone : first_fault (effect_types site scope 0 (StaticCall (codes "C") (codes "n") NoExps)) ≡ None
nothing_alone = refl

-- C.m(C.n())
nothing_given : fault (StaticCall (codes "C") (codes "m") (AndExp (StaticCall (codes "C") (codes "n") NoExps) NoExps)) ≡ Some (record { place = 1; kind = kinds.WrongType })
nothing_given = refl

-- C.class, int[].class; and int.class, which Java compilers take, and of which no bytecode has a literal
class_literal : fault (ClassOf (Class (codes "C"))) ≡ None
class_literal = refl

array_literal : fault (ClassOf (Array types.Int)) ≡ None
array_literal = refl

number_literal : fault (ClassOf types.Int) ≡ Some (record { place = 0; kind = kinds.Name })
number_literal = refl

-- I.super.k(), where D's text can say the name of I, and where it can't
above_said : first_fault (exp_types (site_of_d true) scope 0 (SuperCall (Some (codes "I")) (codes "k") NoExps)) ≡ None
above_said = refl

above_hidden : first_fault (exp_types (site_of_d false) scope 0 (SuperCall (Some (codes "I")) (codes "k") NoExps)) ≡ Some (record { place = 0; kind = kinds.Name })
above_hidden = refl
