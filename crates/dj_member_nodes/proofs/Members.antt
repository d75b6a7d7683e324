-- The expressions and statements that stand for instructions on fields, arrays and classes keep the rules.
use Rattle.std.proofs.Common.{ℕ, zero, suc, ◌+◌, ◌≡◌, Bool, true, false, not, ◌&&◌, ◌||◌, length, List, [], ◌∷◌, Option, Some, None, option_and_then, option_map, is_some, refl, sym, ap, ◌∙◌, subst, arith, codes}
use Rattle.std.specs.Prelude.{if◌then◌else◌}
use Rattle.std.proofs.lemmas.Bool.{and_parts, and_from}
use Rattle.dj_names.specs.declared.header.Header.{Header}
use Rattle.dj_names.specs.Headers.{Name}
use Rattle.dj_names.specs.Types as types
use Rattle.dj_names.specs.Types.{JType, Boolean, Byte, Char, Short, Float, Double, Class, Array, StaticType, Of}
use Rattle.dj_names.specs.Assignable.{object_name}
use Rattle.dj_syntax.specs.declared.variable.Var.{Var}
use Rattle.dj_syntax.specs.Trees.{Exp, Exps, NoExps, AndExp, Field, Static, Element, ClassOf, NewArray, Cast, InstanceOf, SetField, SetStatic, SetElement}
use Rattle.dj_syntax.specs.Weight.{weight_of_exp}
use Rattle.dj_syntax.specs.WellFormedTrees.{has_no_exp}
use Rattle.dj_instructions.specs.declared.kinds.Element as elements
use Rattle.dj_instructions.specs.declared.kinds.Element.TheVariants as element
use Rattle.dj_instructions.specs.Instructions.{FieldRef}
use Rattle.dj_values.specs.Fits.{class_of, element_of, innermost}
use Rattle.dj_values.specs.Deciding.{is_array, is_reference, is_some_and}
use Rattle.dj_meaning.specs.Calls.{is_assignable}
use Rattle.dj_meaning.specs.Fields.{KnownField, Selection, Length, Member, selected, field_of, named_field}
use Rattle.dj_meaning.specs.StaticTypes.{Scope, plain, typed, selection_type, array_of, count, type_of}
use Rattle.dj_meaning.specs.Statements.{Elsewhere}
use Rattle.dj_meaning.specs.Variables.{EachInExp, EachInExps, EachInStm}
use Rattle.dj_places.specs.Rules.{Holds}
use Rattle.dj_typing.specs.Sites.{Site, context_of, may_name, may_name_type}
use Rattle.dj_typing.specs.Casting.{may_be, may_be_of, may_cast}
use Rattle.dj_typing.specs.Operands.{is_of, if_typed}
use Rattle.dj_typing.specs.Expressions.{goes, selects, is_index, are_indexes, is_whole_static, exp_types, exps_types}
use Rattle.dj_blocks_formed.specs.Stores.{may_assign, may_set, may_set_of, may_set_static, set_type, set_static_type}
use Rattle.dj_blocks_formed.specs.Statements.{Around, stm_types}
use Rattle.dj_members_shown.specs.Casts.{is_object, dressed, dressed_type, stored_as}
use Rattle.dj_members_shown.specs.Meant.{IsField}
use Rattle.dj_rebuilding.specs.Pending.{Typed, and_then, set_field, set_static, set_element}
use Rattle.dj_rebuilding.specs.Agreeing.{IsBelow}
use Rattle.dj_rebuilt.specs.Nodes.{is_whole, as_int}
use Rattle.dj_rebuilt.specs.Rebuilding.{Plain}
use Rattle.dj_rebuilt.proofs.Arithmetic.{int-small}
use Rattle.dj_blocks_formed.specs.Ruled.{IsRuled, AreRuledOperands}
use Rattle.dj_blocks_formed.proofs.Stored.{Keeps}
use Rattle.dj_blocks_formed.proofs.Spilled.{named-whole, declared-goes}
use Rattle.dj_blocks_formed.proofs.Blocks.{made-if, both-are}
use Rattle.dj_member_nodes.specs.Going.{fits_in}
use Rattle.dj_member_nodes.specs.Nodes.{depth_of, own_element, works_on, element_in, element_node, element_effect, length_node, sizes_of, left_behind, array_node, field_node, static_node, field_effect, static_effect, cast_node, instance_node, class_node}
use Rattle.dj_member_nodes.specs.Named.{FieldIsNamed, RootsAreNamed}
use Rattle.dj_member_nodes.proofs.Fitting.{true-reference, fits-cast}
use Rattle.dj_member_nodes.proofs.Dressed.{IsDressed, dressed-ruled, pinned-ruled}
use Rattle.dj_member_nodes.proofs.Numbers.{IsNumber, whole-number, number-indexes}

module _ (site : Site) (n : ℕ) (scope : Scope) where
  abbrev Ruled : StaticType → Exp → Type 0
  Ruled type exp = IsRuled site n scope type exp

  -- the class in a type that can be named is whole
  pub whole-holds : (exp : Exp) (type : JType) → type_of (context_of site) scope exp ≡ Some (Of type) → may_name_type site type ≡ true → if_typed (type_of (context_of site) scope exp) (is_whole_static site.headers) ≡ true
  whole-holds exp type is named = ap (λ found. if_typed found (is_whole_static site.headers)) is ∙ named-whole site type named

  pub as-found : (one found : Typed) → one ≡ found → Ruled one.0 one.1 → Ruled found.0 found.1
  as-found one found e h = subst (λ (other : Typed). Ruled other.0 other.1) e h

  -- ---- fields

  pub selected-is : (field : FieldRef) (is : IsField site.headers site.members site.class false field) → selected site.headers site.members site.class field.name field.owner ≡ Some (Member (Class is.class) is.known)
  selected-is field is = ap (selected site.headers site.members site.class field.name) is.owner ∙ ap (option_and_then (λ known. Some (Member (Class is.class) known))) is.meant

  field-exp : (field : FieldRef) → IsField site.headers site.members site.class false field → FieldIsNamed site field → (exp : Exp) → IsDressed site n scope field.owner (Of field.owner) exp → Ruled (Of field.kind) (Field exp field.name)
  field-exp field is named exp one =
      let type : type_of (context_of site) scope (Field exp field.name) ≡ Some (Of field.kind) =
      ap (λ found. typed (option_map selection_type (option_and_then (selected site.headers site.members site.class field.name) (plain found)))) one.typed
      ∙ ap (λ found. typed (option_map selection_type found)) (selected-is field is) ∙ ap (λ kind. Some (Of kind)) is.type in
      record {
        entry = record { small = one.small; typed = type };
        keeps = λ place. (named.name, (ap (λ found. if_typed found (selects site field.name)) one.typed ∙ ap is_some (selected-is field is), (whole-holds (Field exp field.name) field.kind type named.kind, one.keeps (place + 1))));
        named = named.kind;
      }

  pub field-ruled : (field : FieldRef) → IsField site.headers site.members site.class false field → FieldIsNamed site field → (are : List Typed) (found : Typed) → field_node site.headers field are ≡ Some found → AreRuledOperands site n scope are → Ruled found.0 found.1
  field-ruled field is named [] found e h = absurd (cc)
  field-ruled field is named (object ∷ []) found e h =
      let m = made-if (fits_in site.headers object.0 field.owner) (Some (Of field.kind, Field (dressed site.headers false object.0 field.owner object.1) field.name)) found e in
      let same : (Of field.kind, Field (dressed site.headers false object.0 field.owner object.1) field.name) ≡ found = (let some = m.1 in cc) in
      as-found (Of field.kind, Field (dressed site.headers false object.0 field.owner object.1) field.name) found same
      (field-exp field is named (dressed site.headers false object.0 field.owner object.1) (pinned-ruled site n scope object.0 field.owner object.1 h.0 m.0 named.owner))
  field-ruled field is named (object ∷ second ∷ rest) found e h = absurd (cc)

  pub named-is : (field : FieldRef) (is : IsField site.headers site.members site.class true field) → named_field site.headers site.members site.class is.class field.name ≡ Some is.known
  named-is field is =
      ap (option_and_then (λ (known : KnownField). if known.of_class then Some known else None)) is.meant ∙ ap (λ test. if test then Some is.known else None) is.static_alike

  pub class-named : (field : FieldRef) (is : IsField site.headers site.members site.class true field) → FieldIsNamed site field → may_name site is.class ≡ true
  class-named field is named = sym (ap (may_name_type site) is.owner) ∙ named.owner

  -- the class that is named is the field's
  pub static-class : (field : FieldRef) (is : IsField site.headers site.members site.class true field) (class : Name) → class_of field.owner ≡ Some class → is.class ≡ class
  static-class field is class e = let some : Some is.class ≡ Some class = sym (ap class_of is.owner) ∙ e in cc

  static-exp : (field : FieldRef) (is : IsField site.headers site.members site.class true field) → FieldIsNamed site field → Ruled (Of field.kind) (Static is.class field.name)
  static-exp field is named =
      let type : type_of (context_of site) scope (Static is.class field.name) ≡ Some (Of field.kind) =
      ap (λ found. typed (option_map (λ (known : KnownField). known.type) found)) (named-is field is) ∙ ap (λ kind. Some (Of kind)) is.type in
      record {
        entry = record { small = tt; typed = type };
        keeps = λ place. (and_from (may_name site is.class) (site.can_name field.name) (class-named field is named) named.name, (ap is_some (named-is field is), whole-holds (Static is.class field.name) field.kind type named.kind));
        named = named.kind;
      }

  pub static-ruled : (field : FieldRef) → IsField site.headers site.members site.class true field → FieldIsNamed site field → (are : List Typed) (found : Typed) → static_node field are ≡ Some found → Ruled found.0 found.1
  static-ruled field is named [] found e =
      let b = both-are (class_of field.owner) (λ class. Some (Of field.kind, Static class field.name)) found e in
      let same : (Of field.kind, Static b.one field.name) ≡ found = (let some = b.then_is in cc) in
      as-found (Of field.kind, Static b.one field.name) found same
      (subst (λ class. Ruled (Of field.kind) (Static class field.name)) (static-class field is b.one b.is) (static-exp field is named))
  static-ruled field is named (first ∷ rest) found e = absurd (cc)

  -- ---- arrays

  -- what is known of an array by its type
  pub record IsArrayOf (from : StaticType) (type : JType) : Type 0 where
    pub fits : fits_in site.headers from (Array type) ≡ true
    pub named : may_name_type site type ≡ true

  pub own-named : RootsAreNamed site → (kind : elements.Element) → may_name_type site (own_element kind) ≡ true
  own-named roots element.Int = refl
  own-named roots element.Long = refl
  own-named roots element.Float = refl
  own-named roots element.Double = refl
  own-named roots element.Ref = roots.object
  own-named roots element.Byte = refl
  own-named roots element.Char = refl
  own-named roots element.Short = refl

  pub array-known : RootsAreNamed site → (kind : elements.Element) (from : StaticType) (exp : Exp) (type : JType) → element_in kind from ≡ Some type → Ruled from exp → IsArrayOf from type
  array-known roots kind types.Null exp type e h =
      let same : own_element kind ≡ type = cc in
      record { fits = refl; named = subst (λ other. may_name_type site other ≡ true) same (own-named roots kind) }
  array-known roots kind (Of Boolean) exp type e h = absurd (cc)
  array-known roots kind (Of Byte) exp type e h = absurd (cc)
  array-known roots kind (Of Char) exp type e h = absurd (cc)
  array-known roots kind (Of Short) exp type e h = absurd (cc)
  array-known roots kind (Of types.Int) exp type e h = absurd (cc)
  array-known roots kind (Of types.Long) exp type e h = absurd (cc)
  array-known roots kind (Of Float) exp type e h = absurd (cc)
  array-known roots kind (Of Double) exp type e h = absurd (cc)
  array-known roots kind (Of (Class name)) exp type e h = absurd (cc)
  array-known roots kind (Of (Array own)) exp type e h =
      let same : own ≡ type = cc in
      subst (IsArrayOf (Of (Array own))) same (record { fits = declared-goes site.headers (Of (Array own)); named = h.named })

  pub index-number : (index : Typed) → is_whole index.0 ≡ true → Ruled index.0 index.1 → IsNumber site scope types.Int (as_int index.0 index.1)
  index-number index e h = whole-number site scope index.0 index.1 e h.entry.typed h.keeps

  pub element-ruled : RootsAreNamed site → (kind : elements.Element) (are : List Typed) (found : Typed) → element_node site.headers kind are ≡ Some found → AreRuledOperands site n scope are → Ruled found.0 found.1
  element-ruled roots kind [] found e h = absurd (cc)
  element-ruled roots kind (array ∷ []) found e h = absurd (cc)
  element-ruled roots kind (array ∷ index ∷ []) found e h =
      let b = both-are (element_in kind array.0) (λ type. if works_on kind type && is_whole index.0 then Some (Of type, Element (dressed site.headers false array.0 (Array type) array.1) (as_int index.0 index.1)) else None) found e in
      let type = b.one in
      let exp = dressed site.headers false array.0 (Array type) array.1 in
      let m = made-if (works_on kind type && is_whole index.0) (Some (Of type, Element exp (as_int index.0 index.1))) found b.then_is in
      let same : (Of type, Element exp (as_int index.0 index.1)) ≡ found = (let some = m.1 in cc) in
      let known = array-known roots kind array.0 array.1 type b.is h.0 in
      let one = pinned-ruled site n scope array.0 (Array type) array.1 h.0 known.fits known.named in
      let number = index-number index (and_parts (works_on kind type) (is_whole index.0) m.0).1 h.1.0 in
      let is : type_of (context_of site) scope (Element exp (as_int index.0 index.1)) ≡ Some (Of type) = ap (λ found. typed (option_and_then element_of (plain found))) one.typed in
      as-found (Of type, Element exp (as_int index.0 index.1)) found same (record {
        entry = record { small = (one.small, int-small index.0 index.1 n h.1.0.entry.small); typed = is };
        keeps = λ place. (ap (λ found. if_typed found (is_of is_array)) one.typed, (number-indexes site scope (as_int index.0 index.1) number, (whole-holds (Element exp (as_int index.0 index.1)) type is known.named, (one.keeps (place + 1), number.keeps (place + 1 + weight_of_exp exp)))));
        named = known.named;
      })
  element-ruled roots kind (array ∷ index ∷ third ∷ rest) found e h = absurd (cc)

  pub length-ruled : RootsAreNamed site → (are : List Typed) (found : Typed) → length_node site.headers are ≡ Some found → AreRuledOperands site n scope are → Ruled found.0 found.1
  length-ruled roots [] found e h = absurd (cc)
  length-ruled roots (array ∷ []) found e h =
      let b = both-are (element_in element.Int array.0) (λ type. Some (Of types.Int, Field (dressed site.headers false array.0 (Array type) array.1) (codes "length"))) found e in
      let type = b.one in
      let exp = dressed site.headers false array.0 (Array type) array.1 in
      let same : (Of types.Int, Field exp (codes "length")) ≡ found = (let some = b.then_is in cc) in
      let known = array-known roots element.Int array.0 array.1 type b.is h.0 in
      let one = pinned-ruled site n scope array.0 (Array type) array.1 h.0 known.fits known.named in
      let is : type_of (context_of site) scope (Field exp (codes "length")) ≡ Some (Of types.Int) = ap (λ found. typed (option_map selection_type (option_and_then (selected site.headers site.members site.class (codes "length")) (plain found)))) one.typed in
      as-found (Of types.Int, Field exp (codes "length")) found same (record {
        entry = record { small = one.small; typed = is };
        keeps = λ place. (roots.length, (ap (λ found. if_typed found (selects site (codes "length"))) one.typed, (whole-holds (Field exp (codes "length")) types.Int is refl, one.keeps (place + 1))));
        named = refl;
      })
  length-ruled roots (array ∷ second ∷ rest) found e h = absurd (cc)

  -- ---- new arrays

  inner-named : (type : JType) → may_name_type site type ≡ true → may_name_type site (innermost type) ≡ true
  inner-named Boolean e = e
  inner-named Byte e = e
  inner-named Char e = e
  inner-named Short e = e
  inner-named types.Int e = e
  inner-named types.Long e = e
  inner-named Float e = e
  inner-named Double e = e
  inner-named (Class name) e = e
  inner-named (Array element) e = inner-named element e

  inner-plain : (type : JType) → not (is_array (innermost type)) ≡ true
  inner-plain Boolean = refl
  inner-plain Byte = refl
  inner-plain Char = refl
  inner-plain Short = refl
  inner-plain types.Int = refl
  inner-plain types.Long = refl
  inner-plain Float = refl
  inner-plain Double = refl
  inner-plain (Class name) = refl
  inner-plain (Array element) = inner-plain element

  whole-array : (type : JType) → array_of (depth_of type) (innermost type) ≡ type
  whole-array Boolean = refl
  whole-array Byte = refl
  whole-array Char = refl
  whole-array Short = refl
  whole-array types.Int = refl
  whole-array types.Long = refl
  whole-array Float = refl
  whole-array Double = refl
  whole-array (Class name) = refl
  whole-array (Array element) = ap Array (whole-array element)

  zero-more : (more : ℕ) → 0 + more ≡ more
  zero-more more = omega arith

  one-more : (many more : ℕ) → suc many + more ≡ suc (many + more)
  one-more many more = omega arith

  pub array-again : (many : ℕ) (type : JType) (more : ℕ) → left_behind many type ≡ Some more → array_of (many + more) (innermost type) ≡ type
  array-again zero type more e = let same : depth_of type ≡ more = cc in ap (λ depth. array_of depth (innermost type)) (zero-more more ∙ sym same) ∙ whole-array type
  array-again (suc many) Boolean more e = absurd (cc)
  array-again (suc many) Byte more e = absurd (cc)
  array-again (suc many) Char more e = absurd (cc)
  array-again (suc many) Short more e = absurd (cc)
  array-again (suc many) types.Int more e = absurd (cc)
  array-again (suc many) types.Long more e = absurd (cc)
  array-again (suc many) Float more e = absurd (cc)
  array-again (suc many) Double more e = absurd (cc)
  array-again (suc many) (Class name) more e = absurd (cc)
  array-again (suc many) (Array element) more e = ap (λ depth. array_of depth (innermost element)) (one-more many more) ∙ ap Array (array-again many element more e)

  -- sizes that are ints
  pub record AreSizes (are : List Typed) (sizes : Exps) : Type 0 where
    pub many : count sizes ≡ length are
    pub small : EachInExps (IsBelow n) sizes
    pub indexes : are_indexes site scope sizes ≡ true
    pub keeps : (place : ℕ) → Holds (exps_types site scope place sizes)

  pub sizes-ruled : (are : List Typed) (sizes : Exps) → sizes_of are ≡ Some sizes → AreRuledOperands site n scope are → AreSizes are sizes
  sizes-ruled [] sizes e h = let same : NoExps ≡ sizes = cc in subst (AreSizes []) same (record { many = refl; small = tt; indexes = refl; keeps = λ place. tt })
  sizes-ruled (first ∷ rest) sizes e h =
      let m = made-if (is_whole first.0) (and_then (sizes_of rest) (λ more. Some (AndExp (as_int first.0 first.1) more))) sizes e in
      let b = both-are (sizes_of rest) (λ more. Some (AndExp (as_int first.0 first.1) more)) sizes m.1 in
      let same : AndExp (as_int first.0 first.1) b.one ≡ sizes = (let some = b.then_is in cc) in
      let others = sizes-ruled rest b.one b.is h.1 in
      let number = index-number first m.0 h.0 in
      subst (AreSizes (first ∷ rest)) same (record {
        many = ap suc others.many;
        small = (int-small first.0 first.1 n h.0.entry.small, others.small);
        indexes = and_from (is_index (type_of (context_of site) scope (as_int first.0 first.1))) (are_indexes site scope b.one) (number-indexes site scope (as_int first.0 first.1) number) others.indexes;
        keeps = λ place. (number.keeps place, others.keeps (place + weight_of_exp (as_int first.0 first.1)));
      })

  some-sizes : (first : Typed) (rest : List Typed) (sizes : Exps) → sizes_of (first ∷ rest) ≡ Some sizes → not (has_no_exp sizes) ≡ true
  some-sizes first rest sizes e =
      let m = made-if (is_whole first.0) (and_then (sizes_of rest) (λ more. Some (AndExp (as_int first.0 first.1) more))) sizes e in
      let b = both-are (sizes_of rest) (λ more. Some (AndExp (as_int first.0 first.1) more)) sizes m.1 in
      let same : AndExp (as_int first.0 first.1) b.one ≡ sizes = (let some = b.then_is in cc) in
      subst (λ exps. not (has_no_exp exps) ≡ true) same refl

  pub array-ruled : (type : JType) → may_name_type site type ≡ true → (are : List Typed) (found : Typed) → array_node type are ≡ Some found → AreRuledOperands site n scope are → Ruled found.0 found.1
  array-ruled type named [] found e h = absurd (cc)
  array-ruled type named (first ∷ rest) found e h =
      let b = both-are (left_behind (length (first ∷ rest)) type) (λ more. and_then (sizes_of (first ∷ rest)) (λ sizes. Some (Of type, NewArray (innermost type) sizes more))) found e in
      let c = both-are (sizes_of (first ∷ rest)) (λ sizes. Some (Of type, NewArray (innermost type) sizes b.one)) found b.then_is in
      let same : (Of type, NewArray (innermost type) c.one b.one) ≡ found = (let some = c.then_is in cc) in
      let sizes = sizes-ruled (first ∷ rest) c.one c.is h in
      as-found (Of type, NewArray (innermost type) c.one b.one) found same (record {
        entry = record { small = sizes.small; typed = ap (λ many. Some (Of (array_of (many + b.one) (innermost type)))) sizes.many ∙ ap (λ one. Some (Of one)) (array-again (length (first ∷ rest)) type b.one b.is) };
        keeps = λ place. (and_from (may_name_type site (innermost type) && not (is_array (innermost type))) (not (has_no_exp c.one)) (and_from (may_name_type site (innermost type)) (not (is_array (innermost type))) (inner-named type named) (inner-plain type)) (some-sizes first rest c.one c.is), (sizes.indexes, sizes.keeps (place + 1)));
        named = named;
      })

  -- ---- classes

  cast-exp : (from : StaticType) (to : JType) (exp : Exp) → type_of (context_of site) scope exp ≡ Some from → EachInExp (IsBelow n) exp → Keeps site scope exp → may_cast site.headers from to ≡ true → may_name_type site to ≡ true → Ruled (Of to) (Cast to exp)
  cast-exp from to exp type small keeps may named = record {
    entry = record { small = small; typed = refl };
    keeps = λ place. (named, (ap (λ found. if_typed found (λ one. may_cast site.headers one to)) type ∙ may, keeps (place + 1)));
    named = named;
  }

  object-cast : RootsAreNamed site → (one : Typed) → Ruled one.0 one.1 → may_cast site.headers one.0 (Class object_name) ≡ true → Ruled (Of (Class object_name)) (Cast (Class object_name) one.1)
  object-cast roots one h may = cast-exp one.0 (Class object_name) one.1 h.entry.typed h.entry.small h.keeps may roots.object

  pub cast-ruled : RootsAreNamed site → (type : JType) → may_name_type site type ≡ true → (are : List Typed) (found : Typed) → cast_node site.headers type are ≡ Some found → AreRuledOperands site n scope are → Ruled found.0 found.1
  cast-ruled roots type named [] found e h = absurd (cc)
  cast-ruled roots type named (one ∷ []) found e h =
      let m = made-if (is_reference type && is_object one.0) _ found e in
      by (and_parts (is_reference type) (is_object one.0) m.0).1 (may_cast site.headers one.0 type) refl m.1
    where
      by : is_object one.0 ≡ true → (test : Bool) → may_cast site.headers one.0 type ≡ test
          → (if test then Some (Of type, Cast type one.1) else (if fits_in site.headers one.0 (Class object_name) && may_be site.headers (Class object_name) type then Some (Of type, Cast type (Cast (Class object_name) one.1)) else None)) ≡ Some found → Ruled found.0 found.1
      by object true may f =
          let same : (Of type, Cast type one.1) ≡ found = cc in
          as-found (Of type, Cast type one.1) found same (cast-exp one.0 type one.1 h.0.entry.typed h.0.entry.small h.0.keeps may named)
      by object false may f =
          let m = made-if (fits_in site.headers one.0 (Class object_name) && may_be site.headers (Class object_name) type) (Some (Of type, Cast type (Cast (Class object_name) one.1))) found f in
          let parts = and_parts (fits_in site.headers one.0 (Class object_name)) (may_be site.headers (Class object_name) type) m.0 in
          let same : (Of type, Cast type (Cast (Class object_name) one.1)) ≡ found = (let some = m.1 in cc) in
          let inner = object-cast roots one h.0 (fits-cast site.headers one.0 object parts.0) in
          as-found (Of type, Cast type (Cast (Class object_name) one.1)) found same (cast-exp (Of (Class object_name)) type (Cast (Class object_name) one.1) refl inner.entry.small inner.keeps parts.1 named)
  cast-ruled roots type named (one ∷ second ∷ rest) found e h = absurd (cc)

  instance-exp : (from : StaticType) (to : JType) (exp : Exp) → is_reference to ≡ true → type_of (context_of site) scope exp ≡ Some from → EachInExp (IsBelow n) exp → Keeps site scope exp → may_be_of site.headers from to ≡ true → may_name_type site to ≡ true → Ruled (Of Boolean) (InstanceOf exp to)
  instance-exp from to exp reference type small keeps may named = record {
    entry = record { small = small; typed = refl };
    keeps = λ place. (named, (and_from (is_reference to) (if_typed (type_of (context_of site) scope exp) (λ one. may_be_of site.headers one to)) reference (ap (λ found. if_typed found (λ one. may_be_of site.headers one to)) type ∙ may), keeps (place + 1)));
    named = refl;
  }

  pub instance-ruled : RootsAreNamed site → (type : JType) → may_name_type site type ≡ true → (are : List Typed) (found : Typed) → instance_node site.headers type are ≡ Some found → AreRuledOperands site n scope are → Ruled found.0 found.1
  instance-ruled roots type named [] found e h = absurd (cc)
  instance-ruled roots type named (one ∷ []) found e h =
      let m = made-if (is_reference type && is_object one.0) (if may_be_of site.headers one.0 type then Some (Of Boolean, InstanceOf one.1 type)
      else (if fits_in site.headers one.0 (Class object_name) && may_be site.headers (Class object_name) type then Some (Of Boolean, InstanceOf (Cast (Class object_name) one.1) type) else None)) found e in
      by (and_parts (is_reference type) (is_object one.0) m.0).0 (and_parts (is_reference type) (is_object one.0) m.0).1 (may_be_of site.headers one.0 type) refl m.1
    where
      by : is_reference type ≡ true → is_object one.0 ≡ true → (test : Bool) → may_be_of site.headers one.0 type ≡ test
          → (if test then Some (Of Boolean, InstanceOf one.1 type) else (if fits_in site.headers one.0 (Class object_name) && may_be site.headers (Class object_name) type then Some (Of Boolean, InstanceOf (Cast (Class object_name) one.1) type) else None)) ≡ Some found → Ruled found.0 found.1
      by reference object true may f =
          let same : (Of Boolean, InstanceOf one.1 type) ≡ found = cc in
          as-found (Of Boolean, InstanceOf one.1 type) found same (instance-exp one.0 type one.1 reference h.0.entry.typed h.0.entry.small h.0.keeps may named)
      by reference object false may f =
          let m = made-if (fits_in site.headers one.0 (Class object_name) && may_be site.headers (Class object_name) type) (Some (Of Boolean, InstanceOf (Cast (Class object_name) one.1) type)) found f in
          let parts = and_parts (fits_in site.headers one.0 (Class object_name)) (may_be site.headers (Class object_name) type) m.0 in
          let same : (Of Boolean, InstanceOf (Cast (Class object_name) one.1) type) ≡ found = (let some = m.1 in cc) in
          let inner = object-cast roots one h.0 (fits-cast site.headers one.0 object parts.0) in
          as-found (Of Boolean, InstanceOf (Cast (Class object_name) one.1) type) found same (instance-exp (Of (Class object_name)) type (Cast (Class object_name) one.1) reference refl inner.entry.small inner.keeps parts.1 named)
  instance-ruled roots type named (one ∷ second ∷ rest) found e h = absurd (cc)

  pub class-ruled : RootsAreNamed site → (type : JType) → may_name_type site type ≡ true → (are : List Typed) (found : Typed) → class_node type are ≡ Some found → Ruled found.0 found.1
  class-ruled roots type named [] found e =
      let m = made-if (is_reference type) (Some (Of (Class (codes "java/lang/Class")), ClassOf type)) found e in
      let same : (Of (Class (codes "java/lang/Class")), ClassOf type) ≡ found = (let some = m.1 in cc) in
      as-found (Of (Class (codes "java/lang/Class")), ClassOf type) found same
      (record { entry = record { small = tt; typed = refl }; keeps = λ place. (and_from (is_reference type) (may_name_type site type) m.0 named, named-whole site (Class (codes "java/lang/Class")) roots.class); named = roots.class })
  class-ruled roots type named (first ∷ rest) found e = absurd (cc)
