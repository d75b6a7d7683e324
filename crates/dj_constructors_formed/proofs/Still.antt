-- What stands for instructions assigns nothing, where their operands don't.
use Rattle.std.proofs.Common.{◌≡◌, ℤ, pos, Bool, true, false, not, ◌&&◌, ◌||◌, List, [], ◌∷◌, Option, Some, None, refl, sym, ap, ◌∙◌, subst, codes}
use Rattle.std.specs.Prelude.{negsuc, if◌then◌else◌, length}
use Rattle.std.specs.Int.{w32, int_bit_and}
use Rattle.std.specs.Ordering.{int_eq}
use Rattle.dj_names.specs.declared.header.Header.{Header}
use Rattle.dj_names.specs.Headers.{Name}
use Rattle.dj_names.specs.MethodNames.{is_constructor}
use Rattle.dj_names.specs.Types as types
use Rattle.dj_names.specs.Types.{JType, Boolean, Byte, Char, Short, Class, Array, StaticType, Of, parameters_of, result_of}
use Rattle.dj_names.specs.Assignable.{object_name}
use Rattle.dj_kinds.specs.Choice.{searched_class}
use Rattle.dj_kinds.specs.Search.{header_of, superclass_in}
use Rattle.dj_syntax.specs.declared.variable.Var.{Var}
use Rattle.dj_syntax.specs.declared.operator.Op.{Op}
use Rattle.dj_syntax.specs.declared.operator.Op.TheVariants as operator
use Rattle.dj_syntax.specs.Trees.{Exp, ClassOf, Field, Static, Element, Call, StaticCall, SuperCall, New, NewArray, Cast, InstanceOf, Negative, Binary, Choice, Exps, NoExps, AndExp}
use Rattle.dj_syntax.specs.Trees as trees
use Rattle.dj_instructions.specs.declared.kinds.Kind.{Kind}
use Rattle.dj_instructions.specs.declared.kinds.Kind.TheVariants as kind
use Rattle.dj_instructions.specs.declared.kinds.Calc.{Calc}
use Rattle.dj_instructions.specs.declared.kinds.Calc.TheVariants as calc
use Rattle.dj_instructions.specs.declared.kinds.Element as elements
use Rattle.dj_instructions.specs.declared.kinds.Element.TheVariants as element
use Rattle.dj_instructions.specs.Instructions.{FieldRef, MethodRef, Instruction}
use Rattle.dj_instructions.specs.Instructions as op
use Rattle.dj_values.specs.Values.{Virtual, Interface}
use Rattle.dj_values.specs.Fits.{class_of, innermost}
use Rattle.dj_values.specs.Deciding.{is_type, is_reference}
use Rattle.dj_meaning.specs.Targets.{result}
use Rattle.dj_places.specs.Constants.{Surroundings}
use Rattle.dj_typing.specs.Casting.{may_be, may_be_of, may_cast}
use Rattle.dj_rebuilding.specs.Pending.{Atom, Typed, assigns, assigns_any, and_then}
use Rattle.dj_rebuilt.specs.Nodes.{is_whole, is_wide, int_of_type, as_int, int_node, long_node, shift_node, convert_node, cut_node, int_negative_node, long_negative_node, comparing, int_nodes, long_nodes, calc_nodes, int_convert_nodes, long_convert_nodes, convert_nodes}
use Rattle.dj_rebuilt.specs.Known.{atom_of, both_atoms, compare_node, compare_nodes, own_nodes}
use Rattle.dj_rebuilt.specs.Rebuilding.{or_else}
use Rattle.dj_rebuilt.proofs.Rebuilt.{made-if, both-are}
use Rattle.dj_members_shown.specs.Casts.{is_object, stays, literal_of, as_boolean, from_boolean, from_other, recast, dressed}
use Rattle.dj_members_shown.specs.Operands.{all_dressed}
use Rattle.dj_members_shown.specs.Meant.{asked_of}
use Rattle.dj_members_shown.specs.Alone.{is_alone_in}
use Rattle.dj_member_nodes.specs.Going.{fits_in, may_be_given, exps_of, froms_of}
use Rattle.dj_member_nodes.specs.Nodes.{works_on, element_in, element_node, length_node, sizes_of, left_behind, array_node, field_node, static_node, cast_node, instance_node, class_node, given_to, object_call, class_call, is_this, is_above, super_call, special_call, call_node, member_node, birth_of, member_birth, node_of}
use Rattle.dj_exits.specs.Numbers.{AssignsNothing, AssignNothing}

both-false : (first second : Bool) → first ≡ false → second ≡ false → (first || second) ≡ false
both-false first second e f = ap (λ (one : Bool). one || second) e ∙ f

-- an expression that is found where a test holds
found-if : (test : Bool) (one found : Typed) → (if test then Some one else None) ≡ Some found → AssignsNothing one.1 → AssignsNothing found.1
found-if true one found e h = let same : one ≡ found = cc in subst (λ (one : Typed). AssignsNothing one.1) same h
found-if false one found e h = absurd (cc)

exp-is : (one exp : Exp) → Some one ≡ Some exp → AssignsNothing one → AssignsNothing exp
exp-is one exp e h = let same : one ≡ exp = cc in subst AssignsNothing same h

-- ---- casts

as-boolean-still : (exp : Exp) → AssignsNothing exp → AssignsNothing (as_boolean exp)
as-boolean-still exp h variable = by (literal_of exp) refl
  where
    by_literal : Option ℤ → Exp
    by_literal None = Binary operator.Ne (Binary operator.And exp (trees.Int (pos 1))) (trees.Int (pos 0))
    by_literal (Some number) = trees.Truth (not (int_eq (int_bit_and w32 number (pos 1)) (pos 0)))

    by : (literal : Option ℤ) → literal_of exp ≡ literal → assigns (as_boolean exp) variable ≡ false
    by None none = subst (λ (one : Exp). assigns one variable ≡ false) (sym (ap by_literal none)) (both-false (assigns exp variable || false) false (both-false (assigns exp variable) false (h variable) refl) refl)
    by (Some number) some = subst (λ (one : Exp). assigns one variable ≡ false) (sym (ap by_literal some)) refl

chosen-still : (exp first second : Exp) → AssignsNothing exp → AssignsNothing first → AssignsNothing second → AssignsNothing (Choice exp first second)
chosen-still exp first second h f s variable = both-false (assigns exp variable) (assigns first variable || assigns second variable) (h variable) (both-false (assigns first variable) (assigns second variable) (f variable) (s variable))

number-still : (number : ℤ) → AssignsNothing (trees.Int number)
number-still number variable = refl

from-boolean-still : (to : JType) (exp : Exp) → AssignsNothing exp → AssignsNothing (from_boolean to exp)
from-boolean-still Boolean exp h = h
from-boolean-still (Class name) exp h = h
from-boolean-still (Array of) exp h = h
from-boolean-still to exp h = chosen-still exp (trees.Int (pos 1)) (trees.Int (pos 0)) h (number-still (pos 1)) (number-still (pos 0))

from-other-still : (to : JType) (exp : Exp) → AssignsNothing exp → AssignsNothing (from_other to exp)
from-other-still Boolean exp h = as-boolean-still exp h
from-other-still to exp h = h

recast-still : (from : StaticType) (to : JType) (exp : Exp) → AssignsNothing exp → AssignsNothing (recast from to exp)
recast-still types.Null to exp h = h
recast-still (Of Boolean) to exp h = from-boolean-still to exp h
recast-still (Of (Class name)) to exp h = h
recast-still (Of (Array of)) to exp h = h
recast-still (Of from) to exp h = from-other-still to exp h

dressed-still : (world : List Header) (alone : Bool) (from : StaticType) (to : JType) (exp : Exp) → AssignsNothing exp → AssignsNothing (dressed world alone from to exp)
dressed-still world alone from to exp h = by (stays world alone from to)
  where
    by : (test : Bool) → AssignsNothing (if test then exp else recast from to exp)
    by true = h
    by false = recast-still from to exp h

all-still : (world : List Header) (alone : Bool) (are : List Typed) (tos : List JType) → AssignNothing are → (variable : Var) → assigns_any (all_dressed world alone (froms_of are) tos (exps_of are)) variable ≡ false
all-still world alone [] tos h variable = refl
all-still world alone (first ∷ rest) [] h variable = refl
all-still world alone (first ∷ rest) (to ∷ tos) h variable =
    both-false (assigns (dressed world alone first.0 to first.1) variable) (assigns_any (all_dressed world alone (froms_of rest) tos (exps_of rest)) variable)
    (dressed-still world alone first.0 to first.1 h.0 variable) (all-still world alone rest tos h.1 variable)

-- the arguments of a call
pub given-still : (known : Surroundings) (method : MethodRef) (name : Name) (searched : Option Name) (are : List Typed) → AssignNothing are → (variable : Var) → assigns_any (given_to known method name searched are) variable ≡ false
given-still known method name searched are h variable =
    all-still known.headers (is_alone_in known.headers known.members name searched (parameters_of method.descriptor)) are (parameters_of method.descriptor) h variable

-- ---- numbers

int-still : (type : JType) (exp : Exp) → AssignsNothing exp → AssignsNothing (int_of_type type exp)
int-still Boolean exp h = chosen-still exp (trees.Int (pos 1)) (trees.Int (pos 0)) h (number-still (pos 1)) (number-still (pos 0))
int-still type exp h = h

as-int-still : (static : StaticType) (exp : Exp) → AssignsNothing exp → AssignsNothing (as_int static exp)
as-int-still types.Null exp h = h
as-int-still (Of type) exp h = int-still type exp h

binary-still : (operation : Op) (first second : Exp) → AssignsNothing first → AssignsNothing second → AssignsNothing (Binary operation first second)
binary-still operation first second f s variable = both-false (assigns first variable) (assigns second variable) (f variable) (s variable)

int-node-still : (operation : Op) (are : List Typed) (found : Typed) → int_node operation are ≡ Some found → AssignNothing are → AssignsNothing found.1
int-node-still operation [] found e h = absurd (cc)
int-node-still operation (first ∷ []) found e h = absurd (cc)
int-node-still operation (first ∷ second ∷ []) found e h =
    found-if (is_whole first.0 && is_whole second.0) (Of types.Int, Binary operation (as_int first.0 first.1) (as_int second.0 second.1)) found e
    (binary-still operation (as_int first.0 first.1) (as_int second.0 second.1) (as-int-still first.0 first.1 h.0) (as-int-still second.0 second.1 h.1.0))
int-node-still operation (first ∷ second ∷ third ∷ rest) found e h = absurd (cc)

long-node-still : (operation : Op) (are : List Typed) (found : Typed) → long_node operation are ≡ Some found → AssignNothing are → AssignsNothing found.1
long-node-still operation [] found e h = absurd (cc)
long-node-still operation (first ∷ []) found e h = absurd (cc)
long-node-still operation (first ∷ second ∷ []) found e h =
    found-if (is_wide first.0 && is_wide second.0) (Of types.Long, Binary operation first.1 second.1) found e (binary-still operation first.1 second.1 h.0 h.1.0)
long-node-still operation (first ∷ second ∷ third ∷ rest) found e h = absurd (cc)

shift-node-still : (operation : Op) (are : List Typed) (found : Typed) → shift_node operation are ≡ Some found → AssignNothing are → AssignsNothing found.1
shift-node-still operation [] found e h = absurd (cc)
shift-node-still operation (first ∷ []) found e h = absurd (cc)
shift-node-still operation (first ∷ second ∷ []) found e h =
    found-if (is_wide first.0 && is_whole second.0) (Of types.Long, Binary operation first.1 (as_int second.0 second.1)) found e
    (binary-still operation first.1 (as_int second.0 second.1) h.0 (as-int-still second.0 second.1 h.1.0))
shift-node-still operation (first ∷ second ∷ third ∷ rest) found e h = absurd (cc)

convert-still : (type : JType) (are : List Typed) (found : Typed) → convert_node type are ≡ Some found → AssignNothing are → AssignsNothing found.1
convert-still type [] found e h = absurd (cc)
convert-still type (first ∷ []) found e h = found-if (is_whole first.0) (Of type, Cast type (as_int first.0 first.1)) found e (as-int-still first.0 first.1 h.0)
convert-still type (first ∷ second ∷ rest) found e h = absurd (cc)

cut-still : (are : List Typed) (found : Typed) → cut_node are ≡ Some found → AssignNothing are → AssignsNothing found.1
cut-still [] found e h = absurd (cc)
cut-still (first ∷ []) found e h = found-if (is_wide first.0) (Of types.Int, Cast types.Int first.1) found e h.0
cut-still (first ∷ second ∷ rest) found e h = absurd (cc)

int-negative-still : (are : List Typed) (found : Typed) → int_negative_node are ≡ Some found → AssignNothing are → AssignsNothing found.1
int-negative-still [] found e h = absurd (cc)
int-negative-still (first ∷ []) found e h = found-if (is_whole first.0) (Of types.Int, Negative (as_int first.0 first.1)) found e (as-int-still first.0 first.1 h.0)
int-negative-still (first ∷ second ∷ rest) found e h = absurd (cc)

long-negative-still : (are : List Typed) (found : Typed) → long_negative_node are ≡ Some found → AssignNothing are → AssignsNothing found.1
long-negative-still [] found e h = absurd (cc)
long-negative-still (first ∷ []) found e h = found-if (is_wide first.0) (Of types.Long, Negative first.1) found e h.0
long-negative-still (first ∷ second ∷ rest) found e h = absurd (cc)

ints-still : (operation : Calc) (are : List Typed) (found : Typed) → int_nodes operation are ≡ Some found → AssignNothing are → AssignsNothing found.1
ints-still calc.Add are found e h = int-node-still operator.Add are found e h
ints-still calc.Sub are found e h = int-node-still operator.Sub are found e h
ints-still calc.Mul are found e h = int-node-still operator.Mul are found e h
ints-still calc.Div are found e h = int-node-still operator.Div are found e h
ints-still calc.Rem are found e h = int-node-still operator.Rem are found e h
ints-still calc.Neg are found e h = int-negative-still are found e h
ints-still calc.Shl are found e h = int-node-still operator.Shl are found e h
ints-still calc.Shr are found e h = int-node-still operator.Shr are found e h
ints-still calc.Ushr are found e h = int-node-still operator.Ushr are found e h
ints-still calc.And are found e h = int-node-still operator.And are found e h
ints-still calc.Or are found e h = int-node-still operator.Or are found e h
ints-still calc.Xor are found e h = int-node-still operator.Xor are found e h

longs-still : (operation : Calc) (are : List Typed) (found : Typed) → long_nodes operation are ≡ Some found → AssignNothing are → AssignsNothing found.1
longs-still calc.Add are found e h = long-node-still operator.Add are found e h
longs-still calc.Sub are found e h = long-node-still operator.Sub are found e h
longs-still calc.Mul are found e h = long-node-still operator.Mul are found e h
longs-still calc.Div are found e h = long-node-still operator.Div are found e h
longs-still calc.Rem are found e h = long-node-still operator.Rem are found e h
longs-still calc.Neg are found e h = long-negative-still are found e h
longs-still calc.Shl are found e h = shift-node-still operator.Shl are found e h
longs-still calc.Shr are found e h = shift-node-still operator.Shr are found e h
longs-still calc.Ushr are found e h = shift-node-still operator.Ushr are found e h
longs-still calc.And are found e h = long-node-still operator.And are found e h
longs-still calc.Or are found e h = long-node-still operator.Or are found e h
longs-still calc.Xor are found e h = long-node-still operator.Xor are found e h

calc-still : (operation : Calc) (of : Kind) (are : List Typed) (found : Typed) → calc_nodes operation of are ≡ Some found → AssignNothing are → AssignsNothing found.1
calc-still operation kind.Int are found e h = ints-still operation are found e h
calc-still operation kind.Long are found e h = longs-still operation are found e h
calc-still operation of are found e h = absurd (cc)

int-converts-still : (type : JType) (are : List Typed) (found : Typed) → int_convert_nodes type are ≡ Some found → AssignNothing are → AssignsNothing found.1
int-converts-still Byte are found e h = convert-still Byte are found e h
int-converts-still Char are found e h = convert-still Char are found e h
int-converts-still Short are found e h = convert-still Short are found e h
int-converts-still types.Long are found e h = convert-still types.Long are found e h
int-converts-still type are found e h = absurd (cc)

long-converts-still : (type : JType) (are : List Typed) (found : Typed) → long_convert_nodes type are ≡ Some found → AssignNothing are → AssignsNothing found.1
long-converts-still types.Int are found e h = cut-still are found e h
long-converts-still type are found e h = absurd (cc)

converts-still : (from : Kind) (type : JType) (are : List Typed) (found : Typed) → convert_nodes from type are ≡ Some found → AssignNothing are → AssignsNothing found.1
converts-still kind.Int type are found e h = int-converts-still type are found e h
converts-still kind.Long type are found e h = long-converts-still type are found e h
converts-still from type are found e h = absurd (cc)

comparing-still : (first second : Exp) → AssignsNothing first → AssignsNothing second → AssignsNothing (comparing first second)
comparing-still first second f s =
    chosen-still (Binary operator.Lt first second) (trees.Int (negsuc 0)) (Choice (Binary operator.Eq first second) (trees.Int (pos 0)) (trees.Int (pos 1))) (binary-still operator.Lt first second f s) (number-still (negsuc 0))
    (chosen-still (Binary operator.Eq first second) (trees.Int (pos 0)) (trees.Int (pos 1)) (binary-still operator.Eq first second f s) (number-still (pos 0)) (number-still (pos 1)))

atoms-still : (first second : Typed) (one other : Option Atom) (found : Typed) → both_atoms first second one other ≡ Some found → AssignsNothing first.1 → AssignsNothing second.1 → AssignsNothing found.1
atoms-still first second None other found e f s = absurd (cc)
atoms-still first second (Some one) None found e f s = absurd (cc)
atoms-still first second (Some one) (Some other) found e f s = found-if (is_wide first.0 && is_wide second.0) (Of types.Int, comparing first.1 second.1) found e (comparing-still first.1 second.1 f s)

compare-still : (are : List Typed) (found : Typed) → compare_node are ≡ Some found → AssignNothing are → AssignsNothing found.1
compare-still [] found e h = absurd (cc)
compare-still (first ∷ []) found e h = absurd (cc)
compare-still (first ∷ second ∷ []) found e h = atoms-still first second (atom_of first.1) (atom_of second.1) found e h.0 h.1.0
compare-still (first ∷ second ∷ third ∷ rest) found e h = absurd (cc)

compares-still : (of : Kind) (are : List Typed) (found : Typed) → compare_nodes of are ≡ Some found → AssignNothing are → AssignsNothing found.1
compares-still kind.Long are found e h = compare-still are found e h
compares-still of are found e h = absurd (cc)

own-still : (instruction : Instruction) (are : List Typed) (found : Typed) → own_nodes instruction are ≡ Some found → AssignNothing are → AssignsNothing found.1
own-still (op.Calc operation of) are found e h = calc-still operation of are found e h
own-still (op.Convert from to) are found e h = converts-still from to are found e h
own-still (op.Compare of greater) are found e h = compares-still of are found e h
own-still instruction are found e h = absurd (cc)

-- ---- arrays, fields and classes

element-still : (world : List Header) (of : elements.Element) (are : List Typed) (found : Typed) → element_node world of are ≡ Some found → AssignNothing are → AssignsNothing found.1
element-still world of [] found e h = absurd (cc)
element-still world of (array ∷ []) found e h = absurd (cc)
element-still world of (array ∷ index ∷ []) found e h =
    let b = both-are (element_in of array.0) (λ type. if works_on of type && is_whole index.0 then Some (Of type, Element (dressed world false array.0 (Array type) array.1) (as_int index.0 index.1)) else None) found e in
    found-if (works_on of b.one && is_whole index.0) (Of b.one, Element (dressed world false array.0 (Array b.one) array.1) (as_int index.0 index.1)) found b.then_is
    (λ variable. both-false (assigns (dressed world false array.0 (Array b.one) array.1) variable) (assigns (as_int index.0 index.1) variable) (dressed-still world false array.0 (Array b.one) array.1 h.0 variable) (as-int-still index.0 index.1 h.1.0 variable))
element-still world of (array ∷ index ∷ third ∷ rest) found e h = absurd (cc)

length-still : (world : List Header) (are : List Typed) (found : Typed) → length_node world are ≡ Some found → AssignNothing are → AssignsNothing found.1
length-still world [] found e h = absurd (cc)
length-still world (array ∷ []) found e h =
    let b = both-are (element_in element.Int array.0) (λ type. Some (Of types.Int, Field (dressed world false array.0 (Array type) array.1) (codes "length"))) found e in
    found-if true (Of types.Int, Field (dressed world false array.0 (Array b.one) array.1) (codes "length")) found b.then_is (dressed-still world false array.0 (Array b.one) array.1 h.0)
length-still world (array ∷ second ∷ rest) found e h = absurd (cc)

sizes-still : (are : List Typed) (exps : Exps) → sizes_of are ≡ Some exps → AssignNothing are → (variable : Var) → assigns_any exps variable ≡ false
sizes-still [] exps e h variable = let same : NoExps ≡ exps = cc in subst (λ (exps : Exps). assigns_any exps variable ≡ false) same refl
sizes-still (first ∷ rest) exps e h variable =
    let made = made-if (is_whole first.0) (and_then (sizes_of rest) (λ more. Some (AndExp (as_int first.0 first.1) more))) exps e in
    let b = both-are (sizes_of rest) (λ more. Some (AndExp (as_int first.0 first.1) more)) exps made.1 in
    let same : AndExp (as_int first.0 first.1) b.one ≡ exps = (let some = b.then_is in cc) in
    subst (λ (exps : Exps). assigns_any exps variable ≡ false) same
    (both-false (assigns (as_int first.0 first.1) variable) (assigns_any b.one variable) (as-int-still first.0 first.1 h.0 variable) (sizes-still rest b.one b.is h.1 variable))

array-still : (type : JType) (are : List Typed) (found : Typed) → array_node type are ≡ Some found → AssignNothing are → AssignsNothing found.1
array-still type [] found e h = absurd (cc)
array-still type (first ∷ rest) found e h =
    let b = both-are (left_behind (length (first ∷ rest)) type) (λ more. and_then (sizes_of (first ∷ rest)) (λ sizes. Some (Of type, NewArray (innermost type) sizes more))) found e in
    let c = both-are (sizes_of (first ∷ rest)) (λ sizes. Some (Of type, NewArray (innermost type) sizes b.one)) found b.then_is in
    found-if true (Of type, NewArray (innermost type) c.one b.one) found c.then_is (sizes-still (first ∷ rest) c.one c.is h)

field-still : (world : List Header) (field : FieldRef) (are : List Typed) (found : Typed) → field_node world field are ≡ Some found → AssignNothing are → AssignsNothing found.1
field-still world field [] found e h = absurd (cc)
field-still world field (object ∷ []) found e h =
    found-if (fits_in world object.0 field.owner) (Of field.kind, Field (dressed world false object.0 field.owner object.1) field.name) found e (dressed-still world false object.0 field.owner object.1 h.0)
field-still world field (object ∷ second ∷ rest) found e h = absurd (cc)

static-still : (field : FieldRef) (are : List Typed) (found : Typed) → static_node field are ≡ Some found → AssignsNothing found.1
static-still field [] found e =
    let b = both-are (class_of field.owner) (λ class. Some (Of field.kind, Static class field.name)) found e in
    found-if true (Of field.kind, Static b.one field.name) found b.then_is (λ variable. refl)
static-still field (first ∷ rest) found e = absurd (cc)

cast-still : (world : List Header) (type : JType) (are : List Typed) (found : Typed) → cast_node world type are ≡ Some found → AssignNothing are → AssignsNothing found.1
cast-still world type [] found e h = absurd (cc)
cast-still world type (one ∷ []) found e h = inner (may_cast world one.0 type) (made-if (is_reference type && is_object one.0) _ found e).1
  where
    inner : (test : Bool) → (if test then Some (Of type, Cast type one.1)
        else (if fits_in world one.0 (Class object_name) && may_be world (Class object_name) type then Some (Of type, Cast type (Cast (Class object_name) one.1)) else None)) ≡ Some found → AssignsNothing found.1
    inner true f = found-if true (Of type, Cast type one.1) found f h.0
    inner false f = found-if (fits_in world one.0 (Class object_name) && may_be world (Class object_name) type) (Of type, Cast type (Cast (Class object_name) one.1)) found f h.0
cast-still world type (one ∷ second ∷ rest) found e h = absurd (cc)

instance-still : (world : List Header) (type : JType) (are : List Typed) (found : Typed) → instance_node world type are ≡ Some found → AssignNothing are → AssignsNothing found.1
instance-still world type [] found e h = absurd (cc)
instance-still world type (one ∷ []) found e h = inner (may_be_of world one.0 type) (made-if (is_reference type && is_object one.0) _ found e).1
  where
    inner : (test : Bool) → (if test then Some (Of Boolean, InstanceOf one.1 type)
        else (if fits_in world one.0 (Class object_name) && may_be world (Class object_name) type then Some (Of Boolean, InstanceOf (Cast (Class object_name) one.1) type) else None)) ≡ Some found → AssignsNothing found.1
    inner true f = found-if true (Of Boolean, InstanceOf one.1 type) found f h.0
    inner false f = found-if (fits_in world one.0 (Class object_name) && may_be world (Class object_name) type) (Of Boolean, InstanceOf (Cast (Class object_name) one.1) type) found f h.0
instance-still world type (one ∷ second ∷ rest) found e h = absurd (cc)

class-still : (type : JType) (are : List Typed) (found : Typed) → class_node type are ≡ Some found → AssignsNothing found.1
class-still type [] found e = found-if (is_reference type) (Of (Class (codes "java/lang/Class")), ClassOf type) found e (λ variable. refl)
class-still type (first ∷ rest) found e = absurd (cc)

-- ---- calls

module _ (known : Surroundings) where
  object-still : (method : MethodRef) (are : List Typed) (exp : Exp) → object_call known method are ≡ Some exp → AssignNothing are → AssignsNothing exp
  object-still method [] exp e h = absurd (cc)
  object-still method (object ∷ are) exp e h =
      let first = dressed known.headers false object.0 method.owner object.1 in
      let rest = given_to known method method.name (searched_class method.owner) are in
      let made = made-if (is_reference method.owner && (fits_in known.headers object.0 method.owner && may_be_given known.headers are (parameters_of method.descriptor))) (Some (Call first method.name rest)) exp e in
      exp-is (Call first method.name rest) exp made.1
      (λ variable. both-false (assigns first variable) (assigns_any rest variable) (dressed-still known.headers false object.0 method.owner object.1 h.0 variable) (given-still known method method.name (searched_class method.owner) are h.1 variable))

  class-call-still : (method : MethodRef) (are : List Typed) (exp : Exp) → class_call known method are ≡ Some exp → AssignNothing are → AssignsNothing exp
  class-call-still method are exp e h =
      let made = made-if (may_be_given known.headers are (parameters_of method.descriptor)) (and_then (class_of method.owner) (λ class. Some (StaticCall class method.name (given_to known method method.name (Some class) are)))) exp e in
      let b = both-are (class_of method.owner) (λ class. Some (StaticCall class method.name (given_to known method method.name (Some class) are))) exp made.1 in
      exp-is (StaticCall b.one method.name (given_to known method method.name (Some b.one) are)) exp b.then_is (given-still known method method.name (Some b.one) are h)

  super-still : (method : MethodRef) (are : List Typed) (exp : Exp) → super_call known method are ≡ Some exp → AssignNothing are → AssignsNothing exp
  super-still method [] exp e h = absurd (cc)
  super-still method (object ∷ are) exp e h = inner (is_above known method) (made-if (is_this object.1 && may_be_given known.headers are (parameters_of method.descriptor)) _ exp e).1
    where
      above : Option Name
      above = superclass_in (header_of known.headers known.class)

      inner : (test : Bool) → (if test then Some (SuperCall None method.name (given_to known method method.name above are))
          else and_then (class_of method.owner) (λ interface. Some (SuperCall (Some interface) method.name (given_to known method method.name (Some interface) are)))) ≡ Some exp → AssignsNothing exp
      inner true f = exp-is (SuperCall None method.name (given_to known method method.name above are)) exp f (given-still known method method.name above are h.1)
      inner false f =
          let b = both-are (class_of method.owner) (λ interface. Some (SuperCall (Some interface) method.name (given_to known method method.name (Some interface) are))) exp f in
          exp-is (SuperCall (Some b.one) method.name (given_to known method method.name (Some b.one) are)) exp b.then_is (given-still known method method.name (Some b.one) are h.1)

  special-still : (method : MethodRef) (are : List Typed) (exp : Exp) → special_call known method are ≡ Some exp → AssignNothing are → AssignsNothing exp
  special-still method are exp e h = by (is_constructor method.name) e
    where
      inner : (test : Bool) → (if test then object_call known method are else super_call known method are) ≡ Some exp → AssignsNothing exp
      inner true f = object-still method are exp f h
      inner false f = super-still method are exp f h

      by : (test : Bool) → (if test then None else (if is_type method.owner (Class known.class) then object_call known method are else super_call known method are)) ≡ Some exp → AssignsNothing exp
      by true f = absurd (cc)
      by false f = inner (is_type method.owner (Class known.class)) f

  call-still : (given : Option JType) (called : Option Exp) (found : Typed) → ((exp : Exp) → called ≡ Some exp → AssignsNothing exp) → call_node given called ≡ Some found → AssignsNothing found.1
  call-still given called found still e =
      let b = both-are called (λ exp. and_then given (λ type. Some (Of type, exp))) found e in
      let c = both-are given (λ type. Some (Of type, b.one)) found b.then_is in
      found-if true (Of c.one, b.one) found c.then_is (still b.one b.is)

  member-still : (instruction : Instruction) (are : List Typed) (found : Typed) → member_node known instruction are ≡ Some found → AssignNothing are → AssignsNothing found.1
  member-still (op.PushClass type) are found e h = class-still type are found e
  member-still (op.ArrayLoad of) are found e h = element-still known.headers of are found e h
  member-still (op.GetStatic field) are found e h = static-still field are found e
  member-still (op.GetField field) are found e h = field-still known.headers field are found e h
  member-still (op.InvokeVirtual method) are found e h = call-still (result (asked_of Virtual method.owner method)) (object_call known method are) found (λ exp is. object-still method are exp is h) e
  member-still (op.InvokeSpecial method) are found e h = call-still (result_of method.descriptor) (special_call known method are) found (λ exp is. special-still method are exp is h) e
  member-still (op.InvokeStatic method) are found e h = call-still (result_of method.descriptor) (class_call known method are) found (λ exp is. class-call-still method are exp is h) e
  member-still (op.InvokeInterface method) are found e h = call-still (result (asked_of Interface method.owner method)) (object_call known method are) found (λ exp is. object-still method are exp is h) e
  member-still (op.NewArray type) are found e h = array-still (Array type) are found e h
  member-still (op.MultiNewArray type sizes) are found e h = array-still type are found e h
  member-still op.ArrayLength are found e h = length-still known.headers are found e h
  member-still (op.CheckCast type) are found e h = cast-still known.headers type are found e h
  member-still (op.InstanceOf type) are found e h = instance-still known.headers type are found e h
  member-still instruction are found e h = absurd (cc)

  -- the expression that stands for an instruction
  pub node-still : (instruction : Instruction) (are : List Typed) (found : Typed) → node_of known instruction are ≡ Some found → AssignNothing are → AssignsNothing found.1
  node-still instruction are found e h = by (own_nodes instruction are) refl e
    where
      by : (own : Option Typed) → own_nodes instruction are ≡ own → or_else own (member_node known instruction are) ≡ Some found → AssignsNothing found.1
      by None is f = member-still instruction are found f h
      by (Some one) is f = own-still instruction are found (is ∙ f) h

  birth-of-still : (method : MethodRef) (class : Name) (are : List Typed) (exp : Exp) → birth_of known method class are ≡ Some exp → AssignNothing are → AssignsNothing exp
  birth-of-still method class are exp e h =
      let arguments = given_to known method (codes "<init>") (Some class) are in
      let made = made-if (is_constructor method.name && (is_type method.owner (Class class) && may_be_given known.headers are (parameters_of method.descriptor))) (Some (New class arguments)) exp e in
      exp-is (New class arguments) exp made.1 (given-still known method (codes "<init>") (Some class) are h)

  -- and the birth that one ends
  pub birth-still : (instruction : Instruction) (class : Name) (are : List Typed) (exp : Exp) → member_birth known instruction class are ≡ Some exp → AssignNothing are → AssignsNothing exp
  birth-still (op.InvokeSpecial method) class are exp e h = birth-of-still method class are exp e h
  birth-still instruction class are exp e h = absurd (cc)
