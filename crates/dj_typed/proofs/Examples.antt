-- The rules on statements at worked examples (JLS 14): the first rule that is broken, or none, as Java compilers have it.
use Rattle.std.proofs.Common.{◌≡◌, ℕ, ℤ, true, false, List, [], ◌∷◌, Option, Some, None, refl}
use Rattle.std.specs.Prelude.{pos, codes}
use Rattle.dj_names.specs.declared.header.Header.{Header}
use Rattle.dj_names.specs.declared.members.ClassMembers.{ClassMembers}
use Rattle.dj_names.specs.declared.members.Constant.TheVariants as constants
use Rattle.dj_names.specs.Headers.{Name}
use Rattle.dj_names.specs.Types as types
use Rattle.dj_names.specs.Types.{JType, Boolean, Class, Array, Method}
use Rattle.dj_syntax.specs.declared.variable.Var.{Var}
use Rattle.dj_syntax.specs.declared.variable.VarKind.TheVariants.{Param, Local, Caught}
use Rattle.dj_syntax.specs.Trees.{Exp, Null, Variable, StaticCall, NoExps, Stm, Block, Labelled, Declare, Set, SetField, SetStatic, SetElement, Run, If, While, Switch, Throw, Try, Synchronized, Construct, Do, For, Stms, NoGroups, AndGroup, NoCatches, AndCatch, stms_of}
use Rattle.dj_syntax.specs.Trees as trees
use Rattle.dj_meaning.specs.Members.{Members}
use Rattle.dj_meaning.specs.Meaning.{of_parameter}
use Rattle.dj_places.specs.declared.kind.TypeKind.TheVariants as kinds
use Rattle.dj_faults.specs.declared.fault.Fault.{Fault}
use Rattle.dj_faults.specs.Faults.{first_fault}
use Rattle.dj_typing.specs.Sites.{Site}
use Rattle.dj_typed.specs.Statements.{all_types}
use Rattle.dj_typed.specs.Bodies.{Writing, body_rules}

-- ---- classes: `C`, the exception `E`, `D` with a final field, and those of java/lang that they stand on

abbrev object : Name
object = codes "java/lang/Object"

abbrev throwable : Name
throwable = codes "java/lang/Throwable"

abbrev header : Name → Name → Header
header name superclass = record { name = name; superclass = Some superclass; interfaces = []; flags = 0x0021 }

abbrev headers : List Header
headers =
    header (codes "C") object ∷ header (codes "E") throwable ∷ header (codes "D") object ∷ header throwable object
    ∷ record { name = object; superclass = None; interfaces = []; flags = 0x0021 } ∷ []

abbrev none_of : Members
none_of = record { fields = []; methods = [] }

-- `int f`, `static int s`, `static final int K = 5` and `static void n()`, of C; `final int h`, of D
abbrev members : List Members
members =
    record {
      fields =
          record { flags = 0x0000; name = codes "f"; type = types.Int; constant = None }
          ∷ record { flags = 0x0008; name = codes "s"; type = types.Int; constant = None }
          ∷ record { flags = 0x0018; name = codes "K"; type = types.Int; constant = Some (constants.Int (pos 5)) } ∷ [];
      methods = record { flags = 0x0008; name = codes "n"; descriptor = Method [] None } ∷ [];
    }
    ∷ none_of ∷ record { fields = record { flags = 0x0010; name = codes "h"; type = types.Int; constant = None } ∷ []; methods = [] } ∷ none_of ∷ none_of ∷ []

-- ---- statements of `static .. t(int p0, long p1, boolean p2, C p3, E p4, D p5, int[] p6)`, of C

abbrev site : Site
site = record { headers = headers; members = members; class = codes "C"; has_this = false; can_say = λ name. true; can_name = λ name. true }

abbrev parameter_types : List JType
parameter_types = types.Int ∷ types.Long ∷ Boolean ∷ Class (codes "C") ∷ Class (codes "E") ∷ Class (codes "D") ∷ Array types.Int ∷ []

abbrev fault_with : Option JType → List Stm → Option Fault
fault_with result list = first_fault (all_types (record { site = site; result = result; constructs = false; targets = [] }) (of_parameter parameter_types) (stms_of list))

abbrev fault : List Stm → Option Fault
fault list = fault_with None list

abbrev fault_of_int : List Stm → Option Fault
fault_of_int list = fault_with (Some types.Int) list

abbrev parameter : ℕ → Var
parameter number = record { kind = Param; number = number }

abbrev p : ℕ → Exp
p number = Variable (parameter number)

abbrev v0 : Var
v0 = record { kind = Local; number = 0 }

abbrev e0 : Var
e0 = record { kind = Caught; number = 0 }

abbrev one : Exp
one = trees.Int (pos 1)

abbrev case : ℕ → Option ℤ
case number = Some (pos number)

abbrev none : Stms
none = stms_of []

-- p0 = 1;
known : fault (Set (parameter 0) one ∷ []) ≡ None
known = refl

-- v0 = 1;
unknown : fault (Set v0 one ∷ []) ≡ Some (record { place = 0; kind = kinds.Name })
unknown = refl

-- int v0 = p2;
narrowed : fault (Declare v0 types.Int (Some (p 2)) ∷ []) ≡ Some (record { place = 0; kind = kinds.WrongType })
narrowed = refl

-- int p0;
declared_again : fault (Declare (parameter 0) types.Int None ∷ []) ≡ Some (record { place = 0; kind = kinds.Name })
declared_again = refl

-- { int v0; } v0 = 1;
behind_its_list : fault (Block (stms_of (Declare v0 types.Int None ∷ [])) ∷ Set v0 one ∷ []) ≡ Some (record { place = 2; kind = kinds.Name })
behind_its_list = refl

-- if (p0) { }
no_condition : fault (If (p 0) none none ∷ []) ≡ Some (record { place = 0; kind = kinds.WrongType })
no_condition = refl

-- l0: while (p2) { continue l0; }
turns : fault (Labelled 0 (While (p 2) (stms_of (trees.Continue 0 ∷ []))) ∷ []) ≡ None
turns = refl

-- l0: { continue l0; }
no_turns : fault (Labelled 0 (Block (stms_of (trees.Continue 0 ∷ []))) ∷ []) ≡ Some (record { place = 2; kind = kinds.Label })
no_turns = refl

-- break l0;
no_label : fault (trees.Break 0 ∷ []) ≡ Some (record { place = 0; kind = kinds.Label })
no_label = refl

-- l0: l0: { }
one_label_twice : fault (Labelled 0 (Labelled 0 (Block none)) ∷ []) ≡ Some (record { place = 1; kind = kinds.Label })
one_label_twice = refl

-- switch (p0) { case 1: int v0; case 2: default: v0 = 1; }
cases : fault (Switch (p 0) (AndGroup (case 1 ∷ []) (stms_of (Declare v0 types.Int None ∷ [])) (AndGroup (case 2 ∷ None ∷ []) (stms_of (Set v0 one ∷ [])) NoGroups)) ∷ []) ≡ None
cases = refl

-- switch (p0) { case 1: { } case 1: }
one_case_twice : fault (Switch (p 0) (AndGroup (case 1 ∷ []) (stms_of (Block none ∷ [])) (AndGroup (case 1 ∷ []) none NoGroups)) ∷ []) ≡ Some (record { place = 0; kind = kinds.WrongType })
one_case_twice = refl

-- switch (p1) { case 1: }
switch_on_a_long : fault (Switch (p 1) (AndGroup (case 1 ∷ []) none NoGroups) ∷ []) ≡ Some (record { place = 0; kind = kinds.WrongType })
switch_on_a_long = refl

-- return 1;
no_result : fault (trees.Return (Some one) ∷ []) ≡ Some (record { place = 0; kind = kinds.WrongType })
no_result = refl

-- return p0;, of a method with an int
some_result : fault_of_int (trees.Return (Some (p 0)) ∷ []) ≡ None
some_result = refl

-- return;, of a method with an int
no_value : fault_of_int (trees.Return None ∷ []) ≡ Some (record { place = 0; kind = kinds.WrongType })
no_value = refl

-- return p2;, of a method with an int
another_result : fault_of_int (trees.Return (Some (p 2)) ∷ []) ≡ Some (record { place = 0; kind = kinds.WrongType })
another_result = refl

-- throw p4;
thrown : fault (Throw (p 4) ∷ []) ≡ None
thrown = refl

-- throw p3;
no_exception : fault (Throw (p 3) ∷ []) ≡ Some (record { place = 0; kind = kinds.WrongType })
no_exception = refl

-- try { } catch (java.lang.Throwable e0) { }
caught : fault (Try none (AndCatch throwable e0 none NoCatches) ∷ []) ≡ None
caught = refl

-- try { } catch (C e0) { }
nothing_to_catch : fault (Try none (AndCatch (codes "C") e0 none NoCatches) ∷ []) ≡ Some (record { place = 0; kind = kinds.Catch })
nothing_to_catch = refl

-- synchronized (p3) { }
held : fault (Synchronized (p 3) none ∷ []) ≡ None
held = refl

-- synchronized (null) { }
null_held : fault (Synchronized Null none ∷ []) ≡ Some (record { place = 0; kind = kinds.WrongType })
null_held = refl

-- C.s = 1;
static_set : fault (SetStatic (codes "C") (codes "s") one ∷ []) ≡ None
static_set = refl

-- C.K = 1;
constant_set : fault (SetStatic (codes "C") (codes "K") one ∷ []) ≡ Some (record { place = 0; kind = kinds.Access })
constant_set = refl

-- p3.f = 1;
field_set : fault (SetField (p 3) (codes "f") one ∷ []) ≡ None
field_set = refl

-- p5.h = 1;
final_elsewhere : fault (SetField (p 5) (codes "h") one ∷ []) ≡ Some (record { place = 0; kind = kinds.Access })
final_elsewhere = refl

-- p6.length = 1;
length_set : fault (SetField (p 6) (codes "length") one ∷ []) ≡ Some (record { place = 0; kind = kinds.Access })
length_set = refl

-- p6[p0] = p2;
another_element : fault (SetElement (p 6) (p 0) (p 2) ∷ []) ≡ Some (record { place = 0; kind = kinds.WrongType })
another_element = refl

-- C.n();
nothing_given : fault (Run (StaticCall (codes "C") (codes "n") NoExps) ∷ []) ≡ None
nothing_given = refl

-- int v0 = C.n();
nothing_kept : fault (Declare v0 types.Int (Some (StaticCall (codes "C") (codes "n") NoExps)) ∷ []) ≡ Some (record { place = 1; kind = kinds.WrongType })
nothing_kept = refl

-- p0;
no_statement : fault (Run (p 0) ∷ []) ≡ Some (record { place = 0; kind = kinds.Name })
no_statement = refl

-- super();
constructor_called : fault (Construct false NoExps ∷ []) ≡ Some (record { place = 0; kind = kinds.Call })
constructor_called = refl

-- for (; p2; p0 = 1) { }
stepped : fault (For (p 2) (parameter 0) one none ∷ []) ≡ None
stepped = refl

-- for (; p2; p0 = p2) { }
another_step : fault (For (p 2) (parameter 0) (p 2) none ∷ []) ≡ Some (record { place = 0; kind = kinds.WrongType })
another_step = refl

-- do { } while (p0);
no_test : fault (Do none (p 0) ∷ []) ≡ Some (record { place = 0; kind = kinds.WrongType })
no_test = refl

-- ---- all the rules, on a body of `static int t(int p0)`, of C

abbrev writing : Writing
writing = record { can_say = λ name. true; can_name = λ name. true }

abbrev without_members : List ClassMembers
without_members = none ∷ none ∷ none ∷ none ∷ none ∷ []
  where
    none : ClassMembers
    none = record { fields = []; methods = []; named = [] }

abbrev fault_of_body : List Stm → Option Fault
fault_of_body list =
    first_fault (body_rules writing headers without_members (record {
      class = codes "C";
      flags = 0x0008;
      name = codes "t";
      descriptor = Method (types.Int ∷ []) (Some types.Int);
      thrown = [];
      statements = stms_of list;
    }))

-- int v0; return v0;
unassigned : fault_of_body (Declare v0 types.Int None ∷ trees.Return (Some (Variable v0)) ∷ []) ≡ Some (record { place = 2; kind = kinds.Assigned })
unassigned = refl

-- return p0;
all_kept : fault_of_body (trees.Return (Some (p 0)) ∷ []) ≡ None
all_kept = refl
