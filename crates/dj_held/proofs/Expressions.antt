-- An expression that keeps the rules gives a value of its type, with what is then assigned, or throws, or is cut (JLS 15, 16.1).
use Rattle.std.proofs.Common.{◌≡◌, ℕ, zero, suc, ◌+◌, Bool, true, false, replicate, List, [], ◌∷◌, Option, Some, None, option_map, option_and_then, refl, sym, ap, subst, ◌∙◌, inl, inr}
use Rattle.std.proofs.lemmas.Bool.{false≢true, and_parts, and_from}
use Rattle.dj_names.specs.declared.header.Header.{Header}
use Rattle.dj_names.specs.Headers.{Name}
use Rattle.dj_names.specs.Types as types
use Rattle.dj_names.specs.Types.{JType, Boolean, Byte, Char, Short, Float, Double, Class, Array, StaticType, Of, parameters_of}
use Rattle.dj_syntax.specs.declared.operator.Op.{Op}
use Rattle.dj_syntax.specs.Trees.{Exp, Text, Truth, Null, This, Variable, ClassOf, Field, Static, Element, Call, StaticCall, SuperCall, New, NewArray, Cast, InstanceOf, Negative, Not, Binary, Choice, Assign, Exps, NoExps, AndExp}
use Rattle.dj_syntax.specs.Trees as trees
use Rattle.dj_syntax.specs.Weight.{weight_of_exp}
use Rattle.dj_values.specs.Values as values
use Rattle.dj_values.specs.Values.{Value}
use Rattle.dj_values.specs.Fits.{element_of}
use Rattle.dj_values.specs.Deciding.{is_reference}
use Rattle.dj_values.specs.Outcomes.{Reply, State}
use Rattle.dj_meaning.specs.Calls.{all_pairs, is_assignable}
use Rattle.dj_meaning.specs.Fields.{KnownField, Selection, selected}
use Rattle.dj_meaning.specs.Objects.{text, static_read, element_read}
use Rattle.dj_meaning.specs.UnaryOperators.{negated}
use Rattle.dj_meaning.specs.Operators.{Strict, operator_of, truth, by_form}
use Rattle.dj_meaning.specs.Promotions.{promoted, typing_of, result_type, becomes_floating}
use Rattle.dj_meaning.specs.Targets.{Target, result, of_object, of_class, of_super, of_new}
use Rattle.dj_meaning.specs.StaticTypes.{Scope, plain, typed, array_of, count, selection_type, and_type, choice_type, type_of, types_of, object_target, class_target, super_target}
use Rattle.dj_meaning.specs.Runs.{Store}
use Rattle.dj_meaning.specs.Expressions.{selected_read, this_value, call_on, call_static, floating, value, values as values_of, test}
use Rattle.dj_places.specs.Rules.{Holds}
use Rattle.dj_places.specs.Constants.{constant, constant_truth}
use Rattle.dj_typing.specs.Sites.{context_of, is_whole}
use Rattle.dj_typing.specs.Casting.{is_number, may_be_of, may_cast}
use Rattle.dj_typing.specs.Operands.{is_of, is_boolean, is_int, if_typed, if_both, operands_of, takes, agree, Truths}
use Rattle.dj_typing.specs.Expressions.{goes, is_condition, is_index, are_indexes, exp_types, exps_types}
use Rattle.dj_variables.specs.Sets.{Set}
use Rattle.dj_conditions.specs.Conditions.{when, after_both, after_each, after_exp, either_way, behind_operator, wanted_before}
use Rattle.dj_conditions.specs.Reads.{reads, reads_each, before_right}
use Rattle.dj_widened.proofs.Asked.{then_from, asked_takes, class_asked, super_asked, new_asked}
use Rattle.dj_held.specs.Values.{IsHeld, IsOf, IsOfSome}
use Rattle.dj_held.specs.Replies.{Replied, Ends}
use Rattle.dj_held.specs.Running.{Running, context, surroundings, IsInOrder}
use Rattle.dj_held.specs.Reaching.{Reaches, Leaves, side, Values, Decides}
use Rattle.dj_held.proofs.Ending.{ends, then_ends, weaker, either_ends}
use Rattle.dj_held.proofs.Converting.{casts, may_be_references}
use Rattle.dj_held.proofs.Operating.{Makes, operates, negates, boolean_int, index_int, IsInt, IsReferenceValue, held_reference, object_value, truth_held}
use Rattle.dj_held.proofs.Typed.{some_one, Same, Alike, exp_alike, exps_alike, found_field, found_static, found_element, found_object, found_class, found_super, found_new, named_whole, result_same, super_rules, super_meant, new_meant}
use Rattle.dj_held.proofs.Objects.{IsSelected, the_length, a_member, selected_is, static_declared, declared_fits, text_held, static_replies, field_replies, length_replies, array_value, element_replies, array_replies, class_replies, is_of_replies, AreInts}
use Rattle.dj_held.proofs.Knowing.{agreed, either_value, after_value, truth_value, less_value}
use Rattle.dj_held.proofs.Forms.{HasForm, strict, after, form_of}
use Rattle.dj_held.proofs.Constants.{IsConstant, constant_holds}
use Rattle.dj_held.proofs.Parts.{value_ends, looks, fitted_ends, assigned_ends, condition_ends, decided_side, decides}
use Rattle.dj_held.proofs.Calling.{IsObjectCall, object_call, class_clone, call_on_ends, call_static_ends, made_ends, given_ends, this_ends}
use Rattle.dj_held.proofs.Choosing.{not_ends, strict_ends, after_ends}

-- ---- types of parts

pub plain_of : (found : Option StaticType) (type : JType) → plain found ≡ Some type → found ≡ Some (Of type)
plain_of None type is = absurd cc
plain_of (Some types.Null) type is = absurd cc
plain_of (Some (Of other)) type is = ap (λ type. Some (Of type)) (let e : other ≡ type = cc in e)

element_array : (type element : JType) → element_of type ≡ Some element → type ≡ Array element
element_array (Array other) element is = ap Array (let e : other ≡ element = cc in e)
element_array (Class name) element is = absurd cc
element_array Boolean element is = absurd cc
element_array Byte element is = absurd cc
element_array Char element is = absurd cc
element_array Short element is = absurd cc
element_array types.Int element is = absurd cc
element_array types.Long element is = absurd cc
element_array Float element is = absurd cc
element_array Double element is = absurd cc

index_goes : (world : List Header) (type : StaticType) → is_of is_int type ≡ true → is_assignable world type types.Int ≡ true
index_goes world types.Null is = absurd (false≢true is)
index_goes world (Of Byte) is = refl
index_goes world (Of Char) is = refl
index_goes world (Of Short) is = refl
index_goes world (Of types.Int) is = refl
index_goes world (Of type) is = absurd (false≢true is)

-- values of these types, one each
abbrev pub AreHeld : List Header → List JType → List Value → Type 0
AreHeld headers [] [] = Unit {0}
AreHeld headers [] (first ∷ rest) = ⊥
AreHeld headers (type ∷ types) [] = ⊥
AreHeld headers (type ∷ types) (first ∷ rest) = IsHeld headers type first × AreHeld headers types rest

ints_held : (headers : List Header) (n : ℕ) (found : List Value) → AreHeld headers (replicate n types.Int) found → AreInts headers found
ints_held headers zero [] are = tt
ints_held headers zero (first ∷ rest) are = absurd are
ints_held headers (suc n) [] are = absurd are
ints_held headers (suc n) (first ∷ rest) are = (index_int headers (Of types.Int) first refl are.0, ints_held headers n rest are.1)

test_reference : (world headers : List Header) (type : StaticType) (kind : JType) (found : Value) → may_be_of world type kind ≡ true → IsOf headers type found → IsReferenceValue found
test_reference world headers types.Null kind found is held = object_value headers types.Null found refl held
test_reference world headers (Of type) kind found is held = held_reference headers type found (may_be_references world type kind is).0 held

module _ (body : Running) (order : IsInOrder body) where
  -- a part's value is of the part's type
  pub value_of : (found : Value) {first second : Option StaticType} → (alike : Alike body.site.headers first second) → IsOfSome body.headers first found → IsOf body.headers alike.type found
  value_of found alike held = subst (λ type. IsOfSome body.headers type found) alike.found held

  select_replies : (name : Name) (type : JType) (one : Selection) (object : Value) → IsSelected body.site.headers body.site.members body.site.class type one → IsHeld body.headers type object
      → Replied Value body.headers (IsHeld body.headers (selection_type one)) (selected_read name one object)
  select_replies name (Array element) _ object the_length held = length_replies body.headers object (held_reference body.headers (Array element) object tt held)
  select_replies name (Class class) _ object (a_member {found = field} declared) held =
      field_replies body.headers (Class class) name field object (declared_fits order.members declared) (held_reference body.headers (Class class) object tt held)
  select_replies name Boolean one object is held = elim is [ ]
  select_replies name Byte one object is held = elim is [ ]
  select_replies name Char one object is held = elim is [ ]
  select_replies name Short one object is held = elim is [ ]
  select_replies name types.Int one object is held = elim is [ ]
  select_replies name types.Long one object is held = elim is [ ]
  select_replies name Float one object is held = elim is [ ]
  select_replies name Double one object is held = elim is [ ]

  -- what a name selects of an object's value
  field_value : (name : Name) (found : Option StaticType) (one : Selection) (object : Value) → option_and_then (selected body.site.headers body.site.members body.site.class name) (plain found) ≡ Some one → IsOfSome body.headers found object
      → Replied Value body.headers (IsOfSome body.headers (typed (option_map selection_type (option_and_then (selected body.site.headers body.site.members body.site.class name) (plain found))))) (selected_read name one object)
  field_value name found one object is held =
      let type = then_from (selected body.site.headers body.site.members body.site.class name) (plain found) one is in
      subst (λ one_found. Replied Value body.headers (IsOfSome body.headers (typed (option_map selection_type one_found))) (selected_read name one object)) (sym is)
      (select_replies name type.0 one object (selected_is body.site.headers body.site.members body.site.class name type.0 one type.2) (subst (λ found. IsOfSome body.headers found object) (plain_of found type.0 type.1) held))

  pub element_value : (found : Option StaticType) (element : JType) (array : Value) → option_and_then element_of (plain found) ≡ Some element → IsOfSome body.headers found array → IsHeld body.headers (Array element) array
  element_value found element array is held =
      let type = then_from element_of (plain found) element is in
      subst (λ type. IsHeld body.headers type array) (element_array type.0 element type.2) (subst (λ found. IsOfSome body.headers found array) (plain_of found type.0 type.1) held)

  same_types : (one other : List StaticType) → Some one ≡ Some other → one ≡ other
  same_types one other same = cc

  indexes_go : (scope : Scope) (place : ℕ) (exps : Exps) (given : List StaticType) → Holds (exps_types body.site scope place exps) → types_of (context_of body.site) scope exps ≡ Some given → are_indexes body.site scope exps ≡ true
      → all_pairs (is_assignable body.site.headers) given (replicate (count exps) types.Int) ≡ true
  indexes_go scope place NoExps given t is indexes = subst (λ given. all_pairs (is_assignable body.site.headers) given [] ≡ true) (same_types [] given is) refl
  indexes_go scope place (AndExp first rest) given t is indexes =
      let one = exp_alike body order scope place first t.0 in
      let more = exps_alike body order scope (place + weight_of_exp first) rest t.1 in
      let both = and_parts (is_index (type_of (context_of body.site) scope first)) (are_indexes body.site scope rest) indexes in
      subst (λ given. all_pairs (is_assignable body.site.headers) given (types.Int ∷ replicate (count rest) types.Int) ≡ true)
      (same_types (one.type ∷ more.types) given ((λ i. and_type (sym one.found i) (sym more.found i)) ∙ is))
      (and_from (is_assignable body.site.headers one.type types.Int) (all_pairs (is_assignable body.site.headers) more.types (replicate (count rest) types.Int))
      (index_goes body.site.headers one.type (subst (λ type. is_index type ≡ true) one.found both.0)) (indexes_go scope (place + weight_of_exp first) rest more.types t.1 more.found both.1))

  strict_made : (operator : Op) (operation : Value → Value → Reply Value) (first second : Option StaticType) {other another : Option StaticType} (one : Alike body.site.headers first other) (more : Alike body.site.headers second another) → operator_of operator ≡ Strict operation
      → if_both first second (takes body.site.headers (operands_of operator)) ≡ true → (x y : Value) → IsOfSome body.headers first x → IsOfSome body.headers second y
      → Replied Value body.headers (IsOfSome body.headers (typed (result_type (typing_of operator) (plain first) (plain second)))) (operation x y)
  strict_made operator operation first second one more form takes_so x y held also =
      let takes_both = subst (λ second. if_both (Some one.type) second (takes body.site.headers (operands_of operator)) ≡ true) more.found (subst (λ first. if_both first second (takes body.site.headers (operands_of operator)) ≡ true) one.found takes_so) in
      subst (λ type. Replied Value body.headers (IsOfSome body.headers type) (operation x y)) (λ i. typed (result_type (typing_of operator) (plain (sym one.found i)) (plain (sym more.found i))))
      (subst (Makes body.headers one.type more.type x y (typing_of operator)) form (operates body.headers body.site.headers operator one.type more.type x y takes_both (value_of x one held) (value_of y more also)))

  truths_taken : (operator : Op) (first second : Option StaticType) {other another : Option StaticType} (one : Alike body.site.headers first other) (more : Alike body.site.headers second another) → operands_of operator ≡ Truths
      → if_both first second (takes body.site.headers (operands_of operator)) ≡ true → (is_of is_boolean one.type ≡ true) × (is_of is_boolean more.type ≡ true)
  truths_taken operator first second one more is takes_so =
      and_parts (is_of is_boolean one.type) (is_of is_boolean more.type)
      (subst (λ operands. takes body.site.headers operands one.type more.type ≡ true) is
      (subst (λ second. if_both (Some one.type) second (takes body.site.headers (operands_of operator)) ≡ true) more.found (subst (λ first. if_both first second (takes body.site.headers (operands_of operator)) ≡ true) one.found takes_so)))

  -- the parts of a call on an object
  pub record IsObjectAsked (first : Option StaticType) (arguments : Option (List StaticType)) (asked : Target) : Type 0 where
    pub types : List StaticType
    pub given : arguments ≡ Some types
    pub type : JType
    pub object : first ≡ Some (Of type)
    pub call : IsObjectCall body order types type asked

  pub object_parts : (name : Name) (first : Option StaticType) (arguments : Option (List StaticType)) (asked : Target) → object_target (context_of body.site) name (plain first) arguments ≡ Some asked → IsObjectAsked first arguments asked
  object_parts name first arguments asked is =
      let given = then_from (λ types. option_and_then (of_object body.site.headers body.site.members body.site.class name types) (plain first)) arguments asked is in
      let object = then_from (of_object body.site.headers body.site.members body.site.class name given.0) (plain first) asked given.2 in
      record { types = given.0; given = given.1; type = object.0; object = plain_of first object.0 object.1; call = object_call body order given.0 name object.0 asked object.2 }

  pub reference_value : {first : Option StaticType} {arguments : Option (List StaticType)} {asked : Target} (found : Value) → IsObjectAsked first arguments asked → IsOfSome body.headers first found → IsReferenceValue found
  reference_value found is held = held_reference body.headers is.type found is.call.reference (subst (λ type. IsOfSome body.headers type found) is.object held)

  -- the result of a call that gives a value
  result_is : {first second : Option Target} (found : Same Target first second) (gives : Same JType (option_and_then result first) (option_and_then result second)) → result found.one ≡ Some gives.one
  result_is found gives = sym (ap (option_and_then result) found.found) ∙ gives.found

  binary_holds : (scope : Scope) (set : Set) (place : ℕ) (start state : State Store) (operator : Op) (left right : Exp) {other another : Option StaticType}
      → Alike body.site.headers (type_of (context_of body.site) scope left) other → Alike body.site.headers (type_of (context_of body.site) scope right) another
      → if_both (type_of (context_of body.site) scope left) (type_of (context_of body.site) scope right) (takes body.site.headers (operands_of operator)) ≡ true
      → ((found : Value) → constant (surroundings body.site) (Binary operator left right) ≡ Some found → IsConstant body order scope (Binary operator left right) found)
      → Ends Value (Values body.headers (type_of (context_of body.site) scope left) scope (when (surroundings body.site) left set) start) (Leaves body.headers scope start) (value (context body) scope left state)
      → ((middle : Set) → Holds (reads (surroundings body.site) middle place right) → (behind : State Store) → Reaches body.headers scope middle start behind
      → Ends Value (Values body.headers (type_of (context_of body.site) scope right) scope (when (surroundings body.site) right middle) start) (Leaves body.headers scope start) (value (context body) scope right behind))
      → Holds (reads (surroundings body.site) (before_right (wanted_before operator) (when (surroundings body.site) left set)) place right) → HasForm operator
      → Ends Value (Values body.headers (type_of (context_of body.site) scope (Binary operator left right)) scope (when (surroundings body.site) (Binary operator left right) set) start) (Leaves body.headers scope start)
      (value (context body) scope (Binary operator left right) state)
  binary_holds scope set place start state operator left right one more takes_so constants first second d (strict operation form before) =
      subst (λ before. Ends Value (Values body.headers (type_of (context_of body.site) scope (Binary operator left right)) scope
      (behind_operator before (constant_truth (surroundings body.site) (Binary operator left right)) (when (surroundings body.site) left set) (when (surroundings body.site) right)) start) (Leaves body.headers scope start)
      (value (context body) scope (Binary operator left right) state)) (sym before)
      (decides body order (Binary operator left right) state constants
      (subst (λ form. Ends Value (Values body.headers (type_of (context_of body.site) scope (Binary operator left right)) scope (either_way (after_both (when (surroundings body.site) right (after_both (when (surroundings body.site) left set))))) start)
      (Leaves body.headers scope start) (by_form body.headers form
      (floating (becomes_floating (typing_of operator) (plain (type_of (context body) scope left)) (plain (type_of (context body) scope right))) (value (context body) scope left)) (value (context body) scope right) state)) (sym form)
      (strict_ends (when (surroundings body.site) right) operation (value (context body) scope left) (value (context body) scope right)
      (becomes_floating (typing_of operator) (plain (type_of (context body) scope left)) (plain (type_of (context body) scope right))) first
      (second (after_both (when (surroundings body.site) left set)) (subst (λ before. Holds (reads (surroundings body.site) (before_right before (when (surroundings body.site) left set)) place right)) before d))
      (strict_made operator operation (type_of (context_of body.site) scope left) (type_of (context_of body.site) scope right) one more form takes_so))))
  binary_holds scope set place start state operator left right one more takes_so constants first second d (after wanted form before typing operands) =
      let both = truths_taken operator (type_of (context_of body.site) scope left) (type_of (context_of body.site) scope right) one more operands takes_so in
      let middle = side wanted (when (surroundings body.site) left set) in
      subst (λ before. Ends Value (Values body.headers (type_of (context_of body.site) scope (Binary operator left right)) scope
      (behind_operator before (constant_truth (surroundings body.site) (Binary operator left right)) (when (surroundings body.site) left set) (when (surroundings body.site) right)) start) (Leaves body.headers scope start)
      (value (context body) scope (Binary operator left right) state)) (sym before)
      (subst (λ form. Ends Value (Values body.headers (type_of (context_of body.site) scope (Binary operator left right)) scope
      (behind_operator (Some wanted) (constant_truth (surroundings body.site) (Binary operator left right)) (when (surroundings body.site) left set) (when (surroundings body.site) right)) start)
      (Leaves body.headers scope start) (by_form body.headers form
      (floating (becomes_floating (typing_of operator) (plain (type_of (context body) scope left)) (plain (type_of (context body) scope right))) (value (context body) scope left)) (value (context body) scope right) state)) (sym form)
      (after_ends (when (surroundings body.site) right) wanted (constant_truth (surroundings body.site) (Binary operator left right))
      (floating (becomes_floating (typing_of operator) (plain (type_of (context body) scope left)) (plain (type_of (context body) scope right))) (value (context body) scope left)) (value (context body) scope right)
      (ap (λ typing. typed (result_type typing (plain (type_of (context_of body.site) scope left)) (plain (type_of (context_of body.site) scope right)))) typing)
      (subst (λ typing. Ends Value (λ found after. IsInt found × Values body.headers (type_of (context_of body.site) scope left) scope (when (surroundings body.site) left set) start found after) (Leaves body.headers scope start)
      (floating (becomes_floating typing (plain (type_of (context body) scope left)) (plain (type_of (context body) scope right))) (value (context body) scope left) state)) (sym typing)
      (weaker first (λ found after run v. (boolean_int body.headers one.type found both.0 (value_of found one v.of_type), v)) (λ reference after l. l)))
      (λ behind r. weaker (second middle (right_reads wanted (subst (λ before. Holds (reads (surroundings body.site) (before_right before (when (surroundings body.site) left set)) place right)) before d)) behind r)
      (λ found after run v. (boolean_int body.headers more.type found both.1 (value_of found more v.of_type), v)) (λ reference after l. l))))
    where
      right_reads : (wanted : Bool) → Holds (reads (surroundings body.site) (before_right (Some wanted) (when (surroundings body.site) left set)) place right) → Holds (reads (surroundings body.site) (side wanted (when (surroundings body.site) left set)) place right)
      right_reads true d = d
      right_reads false d = d

  mutual
    pub value_holds : (scope : Scope) (set : Set) (p q : ℕ) (start state : State Store) (exp : Exp) → Holds (exp_types body.site scope p exp) → Holds (reads (surroundings body.site) set q exp) → Reaches body.headers scope set start state
        → Ends Value (Values body.headers (type_of (context_of body.site) scope exp) scope (when (surroundings body.site) exp set) start) (Leaves body.headers scope start) (value (context body) scope exp state)
    value_holds scope set p q start state (trees.Int number) t d r = ends (values.Int number) state (either_value (values.Int number) refl r)
    value_holds scope set p q start state (trees.Long number) t d r = ends (values.Long number) state (either_value (values.Long number) refl r)
    value_holds scope set p q start state (Text units) t d r = ends (text units) state (either_value (text units) (text_held body.headers units) r)
    value_holds scope set p q start state (Truth known) t d r = ends (truth known) state (truth_value known (truth_held body.headers known) (decided_side body order known set state r))
    value_holds scope set p q start state Null t d r = ends values.Null state (either_value values.Null tt r)
    value_holds scope set p q start state This t d r = weaker (this_ends body order body.this (order.this t.0) r) (λ found after run q. either_value found q.0 q.1) (λ reference after l. l)
    value_holds scope set p q start state (Variable variable) t d r = looks (scope variable) (state.store.variables variable) t.0 (r.types variable) (r.values variable d t.0) r
    value_holds scope set p q start state (ClassOf kind) t d r = value_ends (class_replies body.headers kind) r
    value_holds scope set p q start state (Field object name) t d r =
        let found = found_field body order name (exp_alike body order scope (p + 1) object t.1.1.1) t.1.0 in
        rw found.also (then_ends (value_holds scope set (p + 1) (q + 1) start state object t.1.1.1 d r) (λ one after v.
        value_ends (field_value name (type_of (context_of body.site) scope object) found.one one found.found v.of_type) (after_value v)))
    value_holds scope set p q start state (Static class name) t d r =
        let found = found_static body order class name (named_whole body order class name t.0) t.1.0 in
        let fits = declared_fits order.members (static_declared body.site.headers body.site.members body.site.class class name found.one found.found) in
        decides body order (Static class name) state (λ one. constant_holds body order scope p (Static class name) one t)
        (rw found.also (value_ends (subst (λ one. Replied Value body.headers (IsOfSome body.headers (typed (option_map (λ (field : KnownField). field.type) one))) (static_read (Class class) name found.one)) (sym found.found)
        (static_replies body.headers (Class class) name found.one fits)) r))
    value_holds scope set p q start state (Element array index) t d r =
        let found = found_element body order (exp_alike body order scope (p + 1) array t.1.1.1.0) t.0 in
        let places = exp_alike body order scope (p + 1 + weight_of_exp array) index t.1.1.1.1 in
        rw found.also (then_ends (value_holds scope set (p + 1) (q + 1) start state array t.1.1.1.0 d.0 r) (λ one after v.
        then_ends (value_holds scope (after_exp (surroundings body.site) array set) (p + 1 + weight_of_exp array) (q + 1 + weight_of_exp array) start after index t.1.1.1.1 d.1 (after_value v)) (λ place behind w.
        value_ends (subst (λ type. Replied Value body.headers (IsOfSome body.headers (typed type)) (element_read one place)) (sym found.found)
        (element_replies body.headers found.one one place (array_value body.headers found.one one (element_value (type_of (context_of body.site) scope array) found.one one found.found v.of_type))
        (index_int body.headers places.type place (subst (λ type. is_index type ≡ true) places.found t.1.0) (value_of place places w.of_type)))) (after_value w))))
    value_holds scope set p q start state (Call object name arguments) t d r =
        let found = found_object body order name (exp_alike body order scope (p + 1) object t.1.1.0) (exps_alike body order scope (p + 1 + weight_of_exp object) arguments t.1.1.1) t.1.0.1.0 in
        let gives = result_same body order found t.0 in
        let parts = object_parts name (type_of (context_of body.site) scope object) (types_of (context_of body.site) scope arguments) found.one found.found in
        given_ends body order gives.one (call_on (context body) (object_target (context body) name (plain (type_of (context body) scope object)) (types_of (context body) scope arguments)) (value (context body) scope object) (values_of (context body) scope arguments)) gives.found (result_is found gives) parts.call.clone
        (call_on_ends body order found (value (context body) scope object) (values_of (context body) scope arguments)
        (weaker (value_holds scope set (p + 1) (q + 1) start state object t.1.1.0 d.0 r) (λ one after run v. (reference_value one parts v.of_type, after_value v)) (λ reference after l. l))
        (λ after m. weaker (values_hold scope (after_exp (surroundings body.site) object set) (p + 1 + weight_of_exp object) (q + 1 + weight_of_exp object) start after arguments parts.types (parameters_of found.one.descriptor) t.1.1.1 d.1 parts.given (asked_takes parts.call.made) m)
        (λ all behind run held. held.1) (λ reference after l. l)))
    value_holds scope set p q start state (StaticCall class name arguments) t d r =
        let found = found_class body order class name (named_whole body order class name t.1.0.0) (exps_alike body order scope (p + 1) arguments t.1.1) t.1.0.1.0 in
        let gives = result_same body order found t.0 in
        let given = then_from (of_class body.site.headers body.site.members body.site.class class name) (types_of (context_of body.site) scope arguments) found.one found.found in
        let asked = class_asked body.site.headers body.site.members body.site.class given.0 class name found.one given.2 in
        given_ends body order gives.one (call_static (context body) (class_target (context body) class name (types_of (context body) scope arguments)) (values_of (context body) scope arguments)) gives.found (result_is found gives) (class_clone asked.0)
        (call_static_ends body order found (values_of (context body) scope arguments) asked.1
        (weaker (values_hold scope set (p + 1) (q + 1) start state arguments given.0 (parameters_of found.one.descriptor) t.1.1 d given.1 (asked_takes asked.0) r) (λ all behind run held. held.1) (λ reference after l. l)))
    value_holds scope set p q start state (SuperCall above name arguments) t d r =
        let rules = super_rules body order above name t.1.0.0 in
        let found = found_super body order above name rules.1 (exps_alike body order scope (p + 1) arguments t.1.1) (super_meant body order scope above name arguments t.1.0.1.0) in
        let gives = result_same body order found t.0 in
        let given = then_from (of_super body.site.headers body.site.members body.site.class above name) (types_of (context_of body.site) scope arguments) found.one found.found in
        let asked = super_asked body.site.headers body.site.members body.site.class given.0 above name found.one given.2 in
        given_ends body order gives.one (call_on (context body) (super_target (context body) above name (types_of (context body) scope arguments)) (this_value (context body)) (values_of (context body) scope arguments)) gives.found (result_is found gives) (class_clone asked.1)
        (call_on_ends body order found (this_value (context body)) (values_of (context body) scope arguments)
        (weaker (this_ends body order body.this (order.this rules.0) r) (λ one after run q. (held_reference body.headers (Class body.site.class) one tt q.0, q.1)) (λ reference after l. l))
        (λ after m. weaker (values_hold scope set (p + 1) (q + 1) start after arguments given.0 (parameters_of found.one.descriptor) t.1.1 d given.1 (asked_takes asked.1) m) (λ all behind run held. held.1) (λ reference after l. l)))
    value_holds scope set p q start state (New class arguments) t d r =
        let found = found_new body order class (and_parts (body.site.can_say class) (is_whole body.site.headers class) t.0).1 (exps_alike body order scope (p + 1) arguments t.1.1) (new_meant body order scope class arguments t.1.0) in
        let given = then_from (of_new body.site.headers body.site.members body.site.class class) (types_of (context_of body.site) scope arguments) found.one found.found in
        let asked = new_asked body.site.headers body.site.members body.site.class given.0 class found.one given.2 in
        made_ends body order class found (values_of (context body) scope arguments) r
        (λ after m. weaker (values_hold scope set (p + 1) (q + 1) start after arguments given.0 (parameters_of found.one.descriptor) t.1.1 d given.1 (asked_takes asked) m) (λ all behind run held. held.1) (λ reference after l. l))
    value_holds scope set p q start state (NewArray kind sizes more) t d r =
        let given = exps_alike body order scope (p + 1) sizes t.1.1 in
        then_ends (values_hold scope set (p + 1) (q + 1) start state sizes given.types (replicate (count sizes) types.Int) t.1.1 d given.found (indexes_go scope (p + 1) sizes given.types t.1.1 given.found t.1.0) r) (λ numbers after held.
        value_ends (array_replies body.headers (array_of (count sizes + more) kind) numbers (ints_held body.headers (count sizes) numbers held.0)) held.1)
    value_holds scope set p q start state (Cast kind operand) t d r =
        let alike = exp_alike body order scope (p + 1) operand t.1.1 in
        decides body order (Cast kind operand) state (λ one. constant_holds body order scope p (Cast kind operand) one t)
        (then_ends (value_holds scope set (p + 1) (q + 1) start state operand t.1.1 d r) (λ one after v.
        value_ends (casts body.site.headers body.headers order.widens alike.type kind one (subst (λ type. if_typed type (λ type. may_cast body.site.headers type kind) ≡ true) alike.found t.1.0) (value_of one alike v.of_type)) (after_value v)))
    value_holds scope set p q start state (InstanceOf operand kind) t d r =
        let alike = exp_alike body order scope (p + 1) operand t.1.1 in
        let may = (and_parts (is_reference kind) (if_typed (type_of (context_of body.site) scope operand) (λ type. may_be_of body.site.headers type kind)) t.1.0).1 in
        then_ends (value_holds scope set (p + 1) (q + 1) start state operand t.1.1 d r) (λ one after v.
        value_ends (is_of_replies body.headers kind one
        (test_reference body.site.headers body.headers alike.type kind one (subst (λ type. if_typed type (λ type. may_be_of body.site.headers type kind) ≡ true) alike.found may) (value_of one alike v.of_type))) (after_value v))
    value_holds scope set p q start state (Negative operand) t d r =
        let alike = exp_alike body order scope (p + 1) operand t.1 in
        then_ends (value_holds scope set (p + 1) (q + 1) start state operand t.1 d r) (λ one after v.
        value_ends (subst (λ type. Replied Value body.headers (IsOfSome body.headers (typed (option_and_then promoted (plain type)))) (negated one)) (sym alike.found)
        (negates body.headers alike.type one (subst (λ type. if_typed type (is_of is_number) ≡ true) alike.found t.0) (value_of one alike v.of_type))) (after_value v))
    value_holds scope set p q start state (Not operand) t d r =
        let alike = exp_alike body order scope (p + 1) operand t.1 in
        then_ends (value_holds scope set (p + 1) (q + 1) start state operand t.1 d r) (λ one after v.
        not_ends one (boolean_int body.headers alike.type one (subst (λ type. is_condition type ≡ true) alike.found t.0) (value_of one alike v.of_type)) v)
    value_holds scope set p q start state (Binary operator left right) t d r =
        binary_holds scope set (q + 1 + weight_of_exp left) start state operator left right (exp_alike body order scope (p + 1) left t.1.0) (exp_alike body order scope (p + 1 + weight_of_exp left) right t.1.1) t.0
        (λ one. constant_holds body order scope p (Binary operator left right) one t)
        (value_holds scope set (p + 1) (q + 1) start state left t.1.0 d.0 r)
        (λ middle e behind q_reaches. value_holds scope middle (p + 1 + weight_of_exp left) (q + 1 + weight_of_exp left) start behind right t.1.1 e q_reaches) d.1 (form_of operator)
    value_holds scope set p q start state (Choice condition first second) t d r =
        let one = exp_alike body order scope (p + 1 + weight_of_exp condition) first t.1.1.1.0 in
        let more = exp_alike body order scope (p + 1 + weight_of_exp condition + weight_of_exp first) second t.1.1.1.1 in
        let agrees = subst (λ type. if_both (Some one.type) type agree ≡ true) more.found (subst (λ type. if_both type (type_of (context_of body.site) scope second) agree ≡ true) one.found t.1.0) in
        let choice : choice_type (Some one.type) (Some more.type) ≡ choice_type (type_of (context_of body.site) scope first) (type_of (context_of body.site) scope second) = λ i. choice_type (sym one.found i) (sym more.found i) in
        then_ends (condition_ends body order condition state (exp_alike body order scope (p + 1) condition t.1.1.0) t.0 (λ found. constant_holds body order scope (p + 1) condition found t.1.1.0)
        (value_holds scope set (p + 1) (q + 1) start state condition t.1.1.0 d.0 r)) (λ answer after m.
        either_ends (value (context body) scope first) (value (context body) scope second) after answer
        (λ is. weaker (value_holds scope (when (surroundings body.site) condition set).true (p + 1 + weight_of_exp condition) (q + 1 + weight_of_exp condition) start after first t.1.1.1.0 d.1.0
        (subst (λ answer. Reaches body.headers scope (side answer (when (surroundings body.site) condition set)) start after) is m.reaches))
        (λ found later run v. less_value _ _ (subst (λ type. IsOfSome body.headers type found) choice (agreed body.headers one.type more.type found agrees (inl (value_of found one v.of_type))))
        (record { true = λ variable h. (and_parts _ _ h).0; false = λ variable h. (and_parts _ _ h).0 }) v) (λ reference after l. l))
        (λ is. weaker (value_holds scope (when (surroundings body.site) condition set).false (p + 1 + weight_of_exp condition + weight_of_exp first) (q + 1 + weight_of_exp condition + weight_of_exp first) start after second t.1.1.1.1 d.1.1
        (subst (λ answer. Reaches body.headers scope (side answer (when (surroundings body.site) condition set)) start after) is m.reaches))
        (λ found later run v. less_value _ _ (subst (λ type. IsOfSome body.headers type found) choice (agreed body.headers one.type more.type found agrees (inr (value_of found more v.of_type))))
        (record { true = λ variable h. (and_parts _ _ h).1; false = λ variable h. (and_parts _ _ h).1 }) v) (λ reference after l. l)))
    value_holds scope set p q start state (Assign variable new) t d r =
        let type = some_one (scope variable) t.0 in
        weaker (assigned_ends body order variable type.0 (value (context body) scope new) type.1 (exp_alike body order scope (p + 1) new t.1.1.1)
        (subst (λ wanted. goes body.site.headers (type_of (context_of body.site) scope new) wanted ≡ true) type.1 t.1.0) (value_holds scope set (p + 1) (q + 1) start state new t.1.1.1 d r))
        (λ kept after run q. either_value kept (subst (λ type. IsOfSome body.headers (typed type) kept) (sym type.1) q.0) q.1) (λ reference after l. l)

    pub values_hold : (scope : Scope) (set : Set) (p q : ℕ) (start state : State Store) (exps : Exps) (given : List StaticType) (wanted : List JType) → Holds (exps_types body.site scope p exps) → Holds (reads_each (surroundings body.site) set q exps)
        → types_of (context_of body.site) scope exps ≡ Some given → all_pairs (is_assignable body.site.headers) given wanted ≡ true → Reaches body.headers scope set start state
        → Ends (List Value) (λ found after. AreHeld body.headers wanted found × Reaches body.headers scope (after_each (surroundings body.site) exps set) start after) (Leaves body.headers scope start) (values_of (context body) scope exps wanted state)
    values_hold scope set p q start state NoExps given [] t d is pairs r = ends [] state (tt, r)
    values_hold scope set p q start state NoExps given (type ∷ wanted) t d is pairs r =
        absurd (false≢true (subst (λ given. all_pairs (is_assignable body.site.headers) given (type ∷ wanted) ≡ true) (same_types given [] (sym is)) pairs))
    values_hold scope set p q start state (AndExp first rest) given [] t d is pairs r =
        let one = exp_alike body order scope p first t.0 in
        let more = exps_alike body order scope (p + weight_of_exp first) rest t.1 in
        absurd (false≢true (subst (λ given. all_pairs (is_assignable body.site.headers) given [] ≡ true) (same_types given (one.type ∷ more.types) (sym is ∙ λ i. and_type (one.found i) (more.found i))) pairs))
    values_hold scope set p q start state (AndExp first rest) given (type ∷ wanted) t d is pairs r =
        let one = exp_alike body order scope p first t.0 in
        let more = exps_alike body order scope (p + weight_of_exp first) rest t.1 in
        let both = and_parts (is_assignable body.site.headers one.type type) (all_pairs (is_assignable body.site.headers) more.types wanted)
        (subst (λ given. all_pairs (is_assignable body.site.headers) given (type ∷ wanted) ≡ true) (same_types given (one.type ∷ more.types) (sym is ∙ λ i. and_type (one.found i) (more.found i))) pairs) in
        then_ends (then_ends (value_holds scope set p q start state first t.0 d.0 r) (λ found after v. fitted_ends body order one.type type found both.0 (value_of found one v.of_type) (after_value v))) (λ kept after k.
        then_ends (values_hold scope (after_exp (surroundings body.site) first set) (p + weight_of_exp first) (q + weight_of_exp first) start after rest more.types wanted t.1 d.1 more.found both.1 k.1) (λ others later m.
        ends (kept ∷ others) later ((k.0, m.0), m.1)))

  -- a condition that keeps the rules has an answer
  pub test_holds : (scope : Scope) (set : Set) (p q : ℕ) (start state : State Store) (exp : Exp) → is_condition (type_of (context_of body.site) scope exp) ≡ true → Holds (exp_types body.site scope p exp) → Holds (reads (surroundings body.site) set q exp)
      → Reaches body.headers scope set start state
      → Ends Bool (Decides body.headers (constant_truth (surroundings body.site) exp) scope (when (surroundings body.site) exp set) start) (Leaves body.headers scope start) (test (context body) scope exp state)
  test_holds scope set p q start state exp is t d r =
      condition_ends body order exp state (exp_alike body order scope p exp t) is (λ found. constant_holds body order scope p exp found t) (value_holds scope set p q start state exp t d r)
