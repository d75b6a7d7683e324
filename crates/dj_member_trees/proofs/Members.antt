-- What instructions on fields, arrays and classes build, by operands that are taken together.
use Rattle.std.proofs.Common.{◌≡◌, ℕ, zero, suc, Bool, true, false, List, [], ◌∷◌, Option, Some, None, refl, sym, ap, ◌∙◌}
use Rattle.std.specs.Prelude.{if◌then◌else◌, ◌&&◌, codes, length}
use Rattle.dj_names.specs.declared.header.Header.{Header}
use Rattle.dj_names.specs.Headers.{Name}
use Rattle.dj_names.specs.Types as types
use Rattle.dj_names.specs.Types.{JType, Of}
use Rattle.dj_names.specs.Assignable.{object_name}
use Rattle.dj_syntax.specs.Trees.{Exp, Exps, NewArray, Field, Static, Element, Cast, InstanceOf, ClassOf, SetField, SetStatic, SetElement}
use Rattle.dj_instructions.specs.declared.kinds.Element as elements
use Rattle.dj_instructions.specs.declared.kinds.Element.TheVariants as element
use Rattle.dj_instructions.specs.Instructions.{FieldRef}
use Rattle.dj_values.specs.Fits.{class_of, innermost}
use Rattle.dj_values.specs.Deciding.{is_reference}
use Rattle.dj_members_shown.specs.Casts.{dressed, is_object, stored_as}
use Rattle.dj_typing.specs.Casting.{may_be, may_be_of, may_cast}
use Rattle.dj_rebuilding.specs.Pending.{Pending, Whole, Built, Typed, and_then, grown, set_field, set_static, set_element}
use Rattle.dj_rebuilt.specs.Nodes.{is_whole, as_int}
use Rattle.dj_rebuilt.specs.Rebuilding.{Plain}
use Rattle.dj_member_nodes.specs.Going.{fits_in}
use Rattle.dj_member_nodes.specs.Nodes.{depth_of, left_behind, sizes_of, element_in, works_on, field_node, static_node, field_effect, static_effect, class_node, cast_node, instance_node, element_node, element_effect, length_node, array_node}
use Rattle.dj_pending.specs.Strict.{put_built}
use Rattle.dj_member_trees.specs.Fitting.{taken_by, itself, fitted, whole, cast_operand, test_operand, array_for, written_as, behind_sizes, array_of_sizes}
use Rattle.dj_member_trees.specs.Calling.{effect_put}
use Rattle.dj_member_trees.specs.Stepping.{field_read, static_read, field_written, static_written, class_pushed, object_cast, object_tested, element_read, length_built, element_written, array_built}
use Rattle.dj_member_trees.proofs.Taking.{Make, together, one-by, two-by, first-of, none-behind, made-alike}

-- ---- what is pushed, and statements

abbrev pub node_make : ℕ → (List Typed → Option Typed) → Make
node_make n node are below = put_built n below (node are)

abbrev pub effect_make : ℕ → (List Typed → Option Plain) → Make
effect_make n effect are below = effect_put n below (effect are)

-- ---- fields

pub field-read : (world : List Header) (field : FieldRef) (n : ℕ) (stack : List Pending) → field_read world field n stack ≡ together 1 [] stack (node_make n (field_node world field))
field-read world field n stack = one-by (fitted world false field.owner) (λ object below. grown n (Whole (Of field.kind) (Field object field.name) ∷ below)) (node_make n (field_node world field)) by-one stack
  where
    by-test : (fits : Bool) (object : Exp) (below : List Pending)
        → and_then (if fits then Some object else None) (λ found. grown n (Whole (Of field.kind) (Field found field.name) ∷ below)) ≡ put_built n below (if fits then Some (Of field.kind, Field object field.name) else None)
    by-test true object below = refl
    by-test false object below = refl

    by-one : (one : Typed) (below : List Pending) → and_then (fitted world false field.owner one) (λ object. grown n (Whole (Of field.kind) (Field object field.name) ∷ below)) ≡ node_make n (field_node world field) (one ∷ []) below
    by-one one below = by-test (fits_in world one.0 field.owner) (dressed world false one.0 field.owner one.1) below

pub static-read : (field : FieldRef) (n : ℕ) (stack : List Pending) → static_read field n stack ≡ together 0 [] stack (node_make n (static_node field))
static-read field n stack = by-class (class_of field.owner)
  where
    by-class : (found : Option Name) → and_then found (λ class. grown n (Whole (Of field.kind) (Static class field.name) ∷ stack)) ≡ put_built n stack (and_then found (λ class. Some (Of field.kind, Static class field.name)))
    by-class None = refl
    by-class (Some class) = refl

pub field-written : (world : List Header) (field : FieldRef) (n : ℕ) (stack : List Pending) → field_written world field n stack ≡ together 2 [] stack (effect_make n (field_effect world field))
field-written world field n stack =
    two-by (fitted world false field.owner) (fitted world true field.kind) put [] (effect_make n (field_effect world field)) by-both stack
  where
    put : Exp → Exp → List Pending → Option Built
    put object new below = effect_put n below (Some (SetField object field.name new, set_field))

    by-tests : (first second : Bool) (object new : Exp) (below : List Pending)
        → and_then (if second then Some new else None) (λ right. and_then (if first then Some object else None) (λ left. put left right below)) ≡ effect_put n below (if first && second then Some (SetField object field.name new, set_field) else None)
    by-tests true true object new below = refl
    by-tests true false object new below = refl
    by-tests false true object new below = refl
    by-tests false false object new below = refl

    by-both : (one last : Typed) (below : List Pending)
        → and_then (fitted world true field.kind last) (λ right. and_then (fitted world false field.owner one) (λ left. put left right below)) ≡ effect_make n (field_effect world field) (one ∷ last ∷ []) below
    by-both one last below = by-tests (fits_in world one.0 field.owner) (fits_in world last.0 field.kind) (dressed world false one.0 field.owner one.1) (dressed world true last.0 field.kind last.1) below

pub static-written : (world : List Header) (field : FieldRef) (n : ℕ) (stack : List Pending) → static_written world field n stack ≡ together 1 [] stack (effect_make n (static_effect world field))
static-written world field n stack =
    by-class (class_of field.owner) (taken_by (fitted world true field.kind) stack)
    ∙ one-by (fitted world true field.kind) put (effect_make n (static_effect world field)) by-one stack
  where
    put : Exp → List Pending → Option Built
    put new below = and_then (class_of field.owner) (λ class. effect_put n below (Some (SetStatic class field.name new, set_static)))

    by-class : (class : Option Name) (found : Option (Exp × List Pending))
        → and_then class (λ one. and_then found (λ new. effect_put n new.1 (Some (SetStatic one field.name new.0, set_static)))) ≡ and_then found (λ new. and_then class (λ one. effect_put n new.1 (Some (SetStatic one field.name new.0, set_static))))
    by-class None found = sym (none-behind found)
    by-class (Some class) found = refl

    by-test : (fits : Bool) (class : Option Name) (new : Exp) (below : List Pending)
        → and_then (if fits then Some new else None) (λ one. and_then class (λ name. effect_put n below (Some (SetStatic name field.name one, set_static)))) ≡ effect_put n below (if fits then and_then class (λ name. Some (SetStatic name field.name new, set_static)) else None)
    by-test true None new below = refl
    by-test true (Some class) new below = refl
    by-test false class new below = refl

    by-one : (one : Typed) (below : List Pending) → and_then (fitted world true field.kind one) (λ new. put new below) ≡ effect_make n (static_effect world field) (one ∷ []) below
    by-one one below = by-test (fits_in world one.0 field.kind) (class_of field.owner) (dressed world true one.0 field.kind one.1) below

-- ---- classes

pub class-pushed : (type : JType) (n : ℕ) (stack : List Pending) → class_pushed type n stack ≡ together 0 [] stack (node_make n (class_node type))
class-pushed type n stack = by-test (is_reference type)
  where
    by-test : (test : Bool) → (if test then grown n (Whole (Of (types.Class (codes "java/lang/Class"))) (ClassOf type) ∷ stack) else None) ≡ put_built n stack (if test then Some (Of (types.Class (codes "java/lang/Class")), ClassOf type) else None)
    by-test true = refl
    by-test false = refl

pub object-cast : (world : List Header) (type : JType) (n : ℕ) (stack : List Pending) → object_cast world type n stack ≡ together 1 [] stack (node_make n (cast_node world type))
object-cast world type n stack = one-by (cast_operand world type) (λ object below. grown n (Whole (Of type) (Cast type object) ∷ below)) (node_make n (cast_node world type)) by-one stack
  where
    by-tests : (references direct through : Bool) (exp widened : Exp) (below : List Pending)
        → and_then (if references then (if direct then Some exp else (if through then Some widened else None)) else None) (λ object. grown n (Whole (Of type) (Cast type object) ∷ below))
        ≡ put_built n below (if references then (if direct then Some (Of type, Cast type exp) else (if through then Some (Of type, Cast type widened) else None)) else None)
    by-tests true true through exp widened below = refl
    by-tests true false true exp widened below = refl
    by-tests true false false exp widened below = refl
    by-tests false direct through exp widened below = refl

    by-one : (one : Typed) (below : List Pending) → and_then (cast_operand world type one) (λ object. grown n (Whole (Of type) (Cast type object) ∷ below)) ≡ node_make n (cast_node world type) (one ∷ []) below
    by-one one below =
        by-tests (is_reference type && is_object one.0) (may_cast world one.0 type) (fits_in world one.0 (types.Class object_name) && may_be world (types.Class object_name) type) one.1 (Cast (types.Class object_name) one.1) below

pub object-tested : (world : List Header) (type : JType) (n : ℕ) (stack : List Pending) → object_tested world type n stack ≡ together 1 [] stack (node_make n (instance_node world type))
object-tested world type n stack = one-by (test_operand world type) (λ object below. grown n (Whole (Of types.Boolean) (InstanceOf object type) ∷ below)) (node_make n (instance_node world type)) by-one stack
  where
    by-tests : (references direct through : Bool) (exp widened : Exp) (below : List Pending)
        → and_then (if references then (if direct then Some exp else (if through then Some widened else None)) else None) (λ object. grown n (Whole (Of types.Boolean) (InstanceOf object type) ∷ below))
        ≡ put_built n below (if references then (if direct then Some (Of types.Boolean, InstanceOf exp type) else (if through then Some (Of types.Boolean, InstanceOf widened type) else None)) else None)
    by-tests true true through exp widened below = refl
    by-tests true false true exp widened below = refl
    by-tests true false false exp widened below = refl
    by-tests false direct through exp widened below = refl

    by-one : (one : Typed) (below : List Pending) → and_then (test_operand world type one) (λ object. grown n (Whole (Of types.Boolean) (InstanceOf object type) ∷ below)) ≡ node_make n (instance_node world type) (one ∷ []) below
    by-one one below =
        by-tests (is_reference type && is_object one.0) (may_be_of world one.0 type) (fits_in world one.0 (types.Class object_name) && may_be world (types.Class object_name) type) one.1 (Cast (types.Class object_name) one.1) below

-- ---- arrays

pub element-read : (world : List Header) (kind : elements.Element) (n : ℕ) (stack : List Pending) → element_read world kind n stack ≡ together 2 [] stack (node_make n (element_node world kind))
element-read world kind n stack = two-by (array_for world kind) whole put [] (node_make n (element_node world kind)) by-both stack
  where
    put : Typed → Exp → List Pending → Option Built
    put array index below = grown n (Whole array.0 (Element array.1 index) ∷ below)

    by-element : (array index : Typed) (found : Option JType) (below : List Pending)
        → and_then (whole index) (λ right. and_then (and_then found (λ type. if works_on kind type then Some (Of type, dressed world false array.0 (types.Array type) array.1) else None)) (λ left. put left right below))
        ≡ put_built n below (and_then found (λ type. if works_on kind type && is_whole index.0 then Some (Of type, Element (dressed world false array.0 (types.Array type) array.1) (as_int index.0 index.1)) else None))
    by-element array index None below = none-behind (whole index)
    by-element array index (Some type) below = by-two (works_on kind type) (is_whole index.0)
      where
        by-two : (works int : Bool)
            → and_then (if int then Some (as_int index.0 index.1) else None) (λ right. and_then (if works then Some (Of type, dressed world false array.0 (types.Array type) array.1) else None) (λ left. put left right below))
            ≡ put_built n below (if works && int then Some (Of type, Element (dressed world false array.0 (types.Array type) array.1) (as_int index.0 index.1)) else None)
        by-two true true = refl
        by-two true false = refl
        by-two false true = refl
        by-two false false = refl

    by-both : (one last : Typed) (below : List Pending) → and_then (whole last) (λ right. and_then (array_for world kind one) (λ left. put left right below)) ≡ node_make n (element_node world kind) (one ∷ last ∷ []) below
    by-both one last below = by-element one last (element_in kind one.0) below

pub length-built : (world : List Header) (n : ℕ) (stack : List Pending) → length_built world n stack ≡ together 1 [] stack (node_make n (length_node world))
length-built world n stack = first-of 0 put [] (node_make n (length_node world)) by-one stack
  where
    put : Typed → List Pending → Option Built
    put array below =
        and_then (element_in element.Int array.0) (λ type. grown n (Whole (Of types.Int) (Field (dressed world false array.0 (types.Array type) array.1) (codes "length")) ∷ below))

    by-element : (array : Typed) (found : Option JType) (below : List Pending)
        → and_then found (λ type. grown n (Whole (Of types.Int) (Field (dressed world false array.0 (types.Array type) array.1) (codes "length")) ∷ below))
        ≡ put_built n below (and_then found (λ type. Some (Of types.Int, Field (dressed world false array.0 (types.Array type) array.1) (codes "length"))))
    by-element array None below = refl
    by-element array (Some type) below = refl

    by-one : (one : Typed) (below : List Pending) → put one below ≡ together 0 (one ∷ []) below (node_make n (length_node world))
    by-one one below = by-element one (element_in element.Int one.0) below

pub element-written : (world : List Header) (kind : elements.Element) (n : ℕ) (stack : List Pending) → element_written world kind n stack ≡ together 3 [] stack (effect_make n (element_effect world kind))
element-written world kind n stack = first-of 2 put [] (effect_make n (element_effect world kind)) by-new stack
  where
    into : Typed → Typed → Exp → List Pending → JType → Option Built
    into new array index below stored =
        and_then (fitted world true stored new) (λ given. and_then (fitted world false (types.Array stored) array) (λ on. effect_put n below (Some (SetElement on index given, set_element))))

    tail : Typed → Typed → Exp → List Pending → Option Built
    tail new array index below = and_then (written_as world kind array.0 new.0) (into new array index below)

    put : Typed → List Pending → Option Built
    put new below = and_then (taken_by whole below) (λ index. and_then (taken_by itself index.1) (λ array. tail new array.0 index.0 array.1))

    by-tests : (works int on fits : Bool) (array index new : Exp) (below : List Pending)
        → and_then (if int then Some index else None) (λ at. and_then (if works then Some tt else None) (λ (one : Unit {0}).
        and_then (if fits then Some new else None) (λ given. and_then (if on then Some array else None) (λ held. effect_put n below (Some (SetElement held at given, set_element))))))
        ≡ effect_put n below (if works && (int && (on && fits)) then Some (SetElement array index new, set_element) else None)
    by-tests true true true true array index new below = refl
    by-tests true true true false array index new below = refl
    by-tests true true false true array index new below = refl
    by-tests true true false false array index new below = refl
    by-tests true false on fits array index new below = refl
    by-tests false true on fits array index new below = refl
    by-tests false false on fits array index new below = refl

    works-apart : (works int : Bool) (index : Exp) (stored : JType) (next : Exp → JType → Option Built)
        → and_then (if int then Some index else None) (λ at. and_then (if works then Some stored else None) (next at)) ≡ and_then (if int then Some index else None) (λ at. and_then (if works then Some tt else None) (λ (one : Unit {0}). next at stored))
    works-apart true true index stored next = refl
    works-apart true false index stored next = refl
    works-apart false true index stored next = refl
    works-apart false false index stored next = refl

    by-type : (array index new : Typed) (type : JType) (below : List Pending)
        → and_then (whole index) (λ at. and_then (if works_on kind type then Some (stored_as world type array.0 new.0) else None) (into new array at below))
        ≡ effect_put n below (if works_on kind type && (is_whole index.0 && (fits_in world array.0 (types.Array (stored_as world type array.0 new.0)) && fits_in world new.0 (stored_as world type array.0 new.0)))
        then Some (SetElement (dressed world false array.0 (types.Array (stored_as world type array.0 new.0)) array.1) (as_int index.0 index.1) (dressed world true new.0 (stored_as world type array.0 new.0) new.1), set_element) else None)
    by-type array index new type below =
        let stored : JType = stored_as world type array.0 new.0 in
        works-apart (works_on kind type) (is_whole index.0) (as_int index.0 index.1) stored (λ at. into new array at below)
        ∙ by-tests (works_on kind type) (is_whole index.0) (fits_in world array.0 (types.Array stored)) (fits_in world new.0 stored) (dressed world false array.0 (types.Array stored) array.1) (as_int index.0 index.1) (dressed world true new.0 stored new.1) below

    by-element : (array index new : Typed) (found : Option JType) (below : List Pending) → element_in kind array.0 ≡ found
        → and_then (whole index) (λ at. tail new array at below) ≡ effect_put n below (element_effect world kind (array ∷ index ∷ new ∷ []))
    by-element array index new None below is = rw is (none-behind (whole index))
    by-element array index new (Some type) below is = rw is (by-type array index new type below)

    by-three : (new one last : Typed) (below : List Pending) → and_then (whole last) (λ right. and_then (itself one) (λ left. tail new left right below)) ≡ effect_make n (element_effect world kind) (one ∷ last ∷ new ∷ []) below
    by-three new one last below = by-element one last new (element_in kind one.0) below refl

    by-new : (new : Typed) (below : List Pending) → put new below ≡ together 2 (new ∷ []) below (effect_make n (element_effect world kind))
    by-new new below = two-by itself whole (λ array index. tail new array index) (new ∷ []) (effect_make n (element_effect world kind)) (by-three new) below

left-is : (count : ℕ) (type : JType) → left_behind count type ≡ and_then (behind_sizes count type) (λ left. Some (depth_of left))
left-is zero type = refl
left-is (suc count) types.Boolean = refl
left-is (suc count) types.Byte = refl
left-is (suc count) types.Char = refl
left-is (suc count) types.Short = refl
left-is (suc count) types.Int = refl
left-is (suc count) types.Long = refl
left-is (suc count) types.Float = refl
left-is (suc count) types.Double = refl
left-is (suc count) (types.Class name) = refl
left-is (suc count) (types.Array inner) = left-is count inner

pub array-built : (type : JType) (count n : ℕ) (stack : List Pending) → array_built type count n stack ≡ together count [] stack (node_make n (array_node type))
array-built type count n stack = made-alike count [] stack (λ are below. and_then (array_of_sizes type are) (λ exp. grown n (Whole (Of type) exp ∷ below))) (node_make n (array_node type)) by-sizes
  where
    by-found : (found : Option JType) (sizes : Option Exps) (below : List Pending)
        → and_then (and_then found (λ left. and_then sizes (λ one. Some (NewArray (innermost type) one (depth_of left))))) (λ exp. grown n (Whole (Of type) exp ∷ below))
        ≡ put_built n below (and_then (and_then found (λ left. Some (depth_of left))) (λ more. and_then sizes (λ one. Some (Of type, NewArray (innermost type) one more))))
    by-found None sizes below = refl
    by-found (Some left) None below = refl
    by-found (Some left) (Some one) below = refl

    by-sizes : (are : List Typed) (below : List Pending) → and_then (array_of_sizes type are) (λ exp. grown n (Whole (Of type) exp ∷ below)) ≡ put_built n below (array_node type are)
    by-sizes [] below = refl
    by-sizes (first ∷ rest) below =
        by-found (behind_sizes (length (first ∷ rest)) type) (sizes_of (first ∷ rest)) below
        ∙ ap (λ (found : Option ℕ). put_built n below (and_then found (λ more. and_then (sizes_of (first ∷ rest)) (λ one. Some (Of type, NewArray (innermost type) one more))))) (sym (left-is (length (first ∷ rest)) type))
