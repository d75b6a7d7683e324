-- The statements that write fields and elements keep the rules.
use Rattle.std.proofs.Common.{ℕ, ◌+◌, ◌≡◌, Bool, true, false, not, ◌&&◌, List, [], ◌∷◌, Option, Some, None, option_and_then, option_map, is_some, refl, sym, ap, ◌∙◌, subst}
use Rattle.std.specs.Prelude.{if◌then◌else◌}
use Rattle.std.proofs.lemmas.Bool.{and_parts, and_from}
use Rattle.dj_names.specs.declared.header.Header.{Header}
use Rattle.dj_names.specs.Headers.{Name}
use Rattle.dj_names.specs.Types as types
use Rattle.dj_names.specs.Types.{JType, Boolean, Byte, Char, Short, Float, Double, Class, Array, StaticType, Of}
use Rattle.dj_names.specs.Assignable.{object_name}
use Rattle.dj_syntax.specs.Trees.{Exp, SetField, SetStatic, SetElement}
use Rattle.dj_syntax.specs.Weight.{weight_of_exp}
use Rattle.dj_instructions.specs.declared.kinds.Element as elements
use Rattle.dj_instructions.specs.Instructions.{FieldRef}
use Rattle.dj_values.specs.Fits.{class_of, element_of}
use Rattle.dj_values.specs.Deciding.{is_array, is_reference}
use Rattle.dj_meaning.specs.Calls.{is_assignable}
use Rattle.dj_meaning.specs.Fields.{KnownField, Selection, Length, Member, selected, named_field}
use Rattle.dj_meaning.specs.StaticTypes.{Scope, plain, typed, selection_type, type_of}
use Rattle.dj_meaning.specs.Statements.{Elsewhere}
use Rattle.dj_places.specs.Rules.{Holds}
use Rattle.dj_typing.specs.Sites.{Site, context_of, may_name, may_name_type}
use Rattle.dj_typing.specs.Operands.{is_of, if_typed}
use Rattle.dj_typing.specs.Expressions.{goes, is_index}
use Rattle.dj_blocks_formed.specs.Stores.{may_assign, may_set, may_set_of, may_set_static, set_type, set_static_type}
use Rattle.dj_blocks_formed.specs.Statements.{Around, exp_goes, stm_types}
use Rattle.dj_members_shown.specs.Casts.{dressed, dressed_type, stored_as}
use Rattle.dj_members_shown.specs.Meant.{IsField}
use Rattle.dj_rebuilding.specs.Pending.{Typed, and_then, set_field, set_static, set_element}
use Rattle.dj_rebuilt.specs.Nodes.{is_whole, as_int}
use Rattle.dj_rebuilt.specs.Rebuilding.{Plain}
use Rattle.dj_blocks_formed.specs.Ruled.{IsRuled, AreRuledOperands}
use Rattle.dj_blocks_formed.proofs.Blocks.{made-if, both-are}
use Rattle.dj_member_nodes.specs.Going.{fits_in}
use Rattle.dj_member_nodes.specs.Nodes.{own_element, works_on, element_in, element_effect, field_effect, static_effect}
use Rattle.dj_member_nodes.specs.Named.{FieldIsNamed, RootsAreNamed}
use Rattle.dj_member_nodes.proofs.Dressed.{IsDressed, dressed-ruled, pinned-ruled}
use Rattle.dj_member_nodes.proofs.Numbers.{IsNumber, number-indexes}
use Rattle.dj_member_nodes.proofs.Members.{selected-is, named-is, class-named, static-class, IsArrayOf, own-named, array-known, index-number}

module _ (around : Around) (n : ℕ) (scope : Scope) where
  abbrev site : Site
  site = around.site

  abbrev TypesHold : Plain → Type 0
  TypesHold statement = (place : ℕ) → Holds (stm_types around Elsewhere scope place statement.0)

  as-done : (one found : Plain) → one ≡ found → TypesHold one → TypesHold found
  as-done one found e h = subst (λ (other : Plain). TypesHold other) e h

  -- ---- fields

  field-set : (field : FieldRef) (is : IsField site.headers site.members site.class false field) → FieldIsNamed site field → may_assign site is.class field.name ≡ true → (object new : Exp) (given : StaticType) → IsDressed site n scope field.owner (Of field.owner) object
      → IsDressed site n scope field.kind given new → TypesHold (SetField object field.name new, set_field)
  field-set field is named may object new given one value place =
      let access : may_set_of site field.name (Of field.owner) ≡ true =
      ap (may_set site field.name) is.owner ∙ and_from (is_some (selected site.headers site.members site.class field.name (Class is.class))) (may_assign site is.class field.name)
      (ap is_some (sym (ap (selected site.headers site.members site.class field.name) is.owner) ∙ selected-is site n scope field is)) may in
      let wanted : set_type site field.name (type_of (context_of site) scope object) ≡ Some field.kind =
      ap (set_type site field.name) one.typed ∙ ap (option_map selection_type) (selected-is site n scope field is) ∙ ap Some is.type in (
        named.name,
        (
          ap (λ found. if_typed found (may_set_of site field.name)) one.typed ∙ access,
          (ap (goes site.headers (type_of (context_of site) scope new)) wanted ∙ ap (λ found. goes site.headers found (Some field.kind)) value.typed ∙ value.goes, (one.keeps (place + 1), value.keeps (place + 1 + weight_of_exp object))),
        ),
      )

  pub field-done : (field : FieldRef) (is : IsField site.headers site.members site.class false field) → FieldIsNamed site field → may_assign site is.class field.name ≡ true → (are : List Typed) (found : Plain) → field_effect site.headers field are ≡ Some found → AreRuledOperands site n scope are → TypesHold found
  field-done field is named may [] found e h = absurd (cc)
  field-done field is named may (object ∷ []) found e h = absurd (cc)
  field-done field is named may (object ∷ new ∷ []) found e h =
      let first = dressed site.headers false object.0 field.owner object.1 in
      let second = dressed site.headers true new.0 field.kind new.1 in
      let m = made-if (fits_in site.headers object.0 field.owner && fits_in site.headers new.0 field.kind) (Some (SetField first field.name second, set_field)) found e in
      let parts = and_parts (fits_in site.headers object.0 field.owner) (fits_in site.headers new.0 field.kind) m.0 in
      let same : (SetField first field.name second, set_field) ≡ found = (let some = m.1 in cc) in
      as-done (SetField first field.name second, set_field) found same
      (field-set field is named may first second (dressed_type site.headers true new.0 field.kind) (pinned-ruled site n scope object.0 field.owner object.1 h.0 parts.0 named.owner) (dressed-ruled site n scope true new.0 field.kind new.1 h.1.0 parts.1 named.kind))
  field-done field is named may (object ∷ new ∷ third ∷ rest) found e h = absurd (cc)

  static-set : (field : FieldRef) (is : IsField site.headers site.members site.class true field) → FieldIsNamed site field → may_assign site is.class field.name ≡ true → (new : Exp) (given : StaticType) → IsDressed site n scope field.kind given new
      → TypesHold (SetStatic is.class field.name new, set_static)
  static-set field is named may new given value place =
      let wanted : set_static_type site is.class field.name ≡ Some field.kind = ap (option_map (λ (known : KnownField). known.type)) (named-is site n scope field is) ∙ ap Some is.type in (
        and_from (may_name site is.class) (site.can_name field.name) (class-named site n scope field is named) named.name,
        (
          and_from (is_some (named_field site.headers site.members site.class is.class field.name)) (may_assign site is.class field.name) (ap is_some (named-is site n scope field is)) may,
          (ap (goes site.headers (type_of (context_of site) scope new)) wanted ∙ ap (λ found. goes site.headers found (Some field.kind)) value.typed ∙ value.goes, value.keeps (place + 1)),
        ),
      )

  pub static-done : (field : FieldRef) (is : IsField site.headers site.members site.class true field) → FieldIsNamed site field → may_assign site is.class field.name ≡ true → (are : List Typed) (found : Plain) → static_effect site.headers field are ≡ Some found → AreRuledOperands site n scope are → TypesHold found
  static-done field is named may [] found e h = absurd (cc)
  static-done field is named may (new ∷ []) found e h =
      let second = dressed site.headers true new.0 field.kind new.1 in
      let m = made-if (fits_in site.headers new.0 field.kind) (and_then (class_of field.owner) (λ class. Some (SetStatic class field.name second, set_static))) found e in
      let b = both-are (class_of field.owner) (λ class. Some (SetStatic class field.name second, set_static)) found m.1 in
      let same : (SetStatic b.one field.name second, set_static) ≡ found = (let some = b.then_is in cc) in
      as-done (SetStatic b.one field.name second, set_static) found same
      (subst (λ class. TypesHold (SetStatic class field.name second, set_static)) (static-class site n scope field is b.one b.is)
      (static-set field is named may second (dressed_type site.headers true new.0 field.kind) (dressed-ruled site n scope true new.0 field.kind new.1 h.0 m.0 named.kind)))
  static-done field is named may (new ∷ second ∷ rest) found e h = absurd (cc)

  -- ---- elements

  stored-named : RootsAreNamed site → (type : JType) (from given : StaticType) (exp : Exp) → may_name_type site type ≡ true → IsRuled site n scope from exp → may_name_type site (stored_as site.headers type from given) ≡ true
  stored-named roots type types.Null given exp named h = named
  stored-named roots type (Of Boolean) given exp named h = named
  stored-named roots type (Of Byte) given exp named h = named
  stored-named roots type (Of Char) given exp named h = named
  stored-named roots type (Of Short) given exp named h = named
  stored-named roots type (Of types.Int) given exp named h = named
  stored-named roots type (Of types.Long) given exp named h = named
  stored-named roots type (Of Float) given exp named h = named
  stored-named roots type (Of Double) given exp named h = named
  stored-named roots type (Of (Class name)) given exp named h = named
  stored-named roots type (Of (Array own)) given exp named h = by (is_reference own && not (is_assignable site.headers given own))
    where
      by : (test : Bool) → may_name_type site (if test then Class object_name else own) ≡ true
      by true = roots.object
      by false = h.named

  element-set : (stored : JType) (array index new : Exp) (given : StaticType) → IsDressed site n scope (Array stored) (Of (Array stored)) array → IsNumber site scope types.Int index → IsDressed site n scope stored given new
      → TypesHold (SetElement array index new, set_element)
  element-set stored array index new given one number value place =
      let wanted : option_and_then element_of (plain (type_of (context_of site) scope array)) ≡ Some stored = ap (λ found. option_and_then element_of (plain found)) one.typed in (
        and_from (if_typed (type_of (context_of site) scope array) (is_of is_array) && is_index (type_of (context_of site) scope index)) (exp_goes site scope new (option_and_then element_of (plain (type_of (context_of site) scope array))))
            (and_from (if_typed (type_of (context_of site) scope array) (is_of is_array)) (is_index (type_of (context_of site) scope index)) (ap (λ found. if_typed found (is_of is_array)) one.typed) (number-indexes site scope index number))
            (ap (goes site.headers (type_of (context_of site) scope new)) wanted ∙ ap (λ found. goes site.headers found (Some stored)) value.typed ∙ value.goes),
        (one.keeps (place + 1), (number.keeps (place + 1 + weight_of_exp array), value.keeps (place + 1 + weight_of_exp array + weight_of_exp index))),
      )

  pub element-done : RootsAreNamed site → (kind : elements.Element) (are : List Typed) (found : Plain) → element_effect site.headers kind are ≡ Some found → AreRuledOperands site n scope are → TypesHold found
  element-done roots kind [] found e h = absurd (cc)
  element-done roots kind (array ∷ []) found e h = absurd (cc)
  element-done roots kind (array ∷ index ∷ []) found e h = absurd (cc)
  element-done roots kind (array ∷ index ∷ new ∷ []) found e h = by (both-are (element_in kind array.0) (λ type. by_element type (stored_as site.headers type array.0 new.0)) found e).one (both-are (element_in kind array.0) (λ type. by_element type (stored_as site.headers type array.0 new.0)) found e).is
      (both-are (element_in kind array.0) (λ type. by_element type (stored_as site.headers type array.0 new.0)) found e).then_is
    where
      by_element : JType → JType → Option Plain
      by_element type stored =
          if works_on kind type && (is_whole index.0 && (fits_in site.headers array.0 (Array stored) && fits_in site.headers new.0 stored))
          then Some (SetElement (dressed site.headers false array.0 (Array stored) array.1) (as_int index.0 index.1) (dressed site.headers true new.0 stored new.1), set_element)
          else None

      by : (type : JType) → element_in kind array.0 ≡ Some type → by_element type (stored_as site.headers type array.0 new.0) ≡ Some found → TypesHold found
      by type in_array f =
          let stored = stored_as site.headers type array.0 new.0 in
          let first = dressed site.headers false array.0 (Array stored) array.1 in
          let third = dressed site.headers true new.0 stored new.1 in
          let fits = fits_in site.headers array.0 (Array stored) && fits_in site.headers new.0 stored in
          let m = made-if (works_on kind type && (is_whole index.0 && fits)) (Some (SetElement first (as_int index.0 index.1) third, set_element)) found f in
          let a = and_parts (works_on kind type) (is_whole index.0 && fits) m.0 in
          let b = and_parts (is_whole index.0) fits a.1 in
          let c = and_parts (fits_in site.headers array.0 (Array stored)) (fits_in site.headers new.0 stored) b.1 in
          let same : (SetElement first (as_int index.0 index.1) third, set_element) ≡ found = (let some = m.1 in cc) in
          let named = stored-named roots type array.0 new.0 array.1 (array-known site n scope roots kind array.0 array.1 type in_array h.0).named h.0 in
          as-done (SetElement first (as_int index.0 index.1) third, set_element) found same
          (element-set stored first (as_int index.0 index.1) third (dressed_type site.headers true new.0 stored) (pinned-ruled site n scope array.0 (Array stored) array.1 h.0 c.0 named) (index-number site n scope index b.0 h.1.0) (dressed-ruled site n scope true new.0 stored new.1 h.1.1.0 c.1 named))
  element-done roots kind (array ∷ index ∷ new ∷ fourth ∷ rest) found e h = absurd (cc)
