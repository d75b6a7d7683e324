-- An expression that keeps the rules has a type, of classes that the world has whole, and has it where other classes run too.
use Rattle.std.proofs.Common.{◌≡◌, ℕ, zero, suc, ◌+◌, ◌≤◌, Bool, true, not, ◌&&◌, is_some, length, List, [], ◌∷◌, codes, Option, Some, None, option_map, option_and_then, refl, ap, subst, ◌∙◌, le_of_eq}
use Rattle.std.proofs.lemmas.Bool.{false≢true, and_parts}
use Rattle.std.specs.List.{list_any}
use Rattle.std.proofs.lemmas.List.Folds.{Any-from_list_any}
use Rattle.dj_names.specs.declared.header.Header.{Header}
use Rattle.dj_names.specs.Headers.{Name}
use Rattle.dj_names.specs.Types as types
use Rattle.dj_names.specs.Types.{JType, Boolean, Class, StaticType, Of}
use Rattle.dj_syntax.specs.Trees.{Exp, Text, Truth, Null, This, Variable, ClassOf, Field, Static, Element, Call, StaticCall, SuperCall, New, NewArray, Cast, InstanceOf, Negative, Not, Binary, Choice, Assign, Exps, NoExps, AndExp}
use Rattle.dj_syntax.specs.Trees as trees
use Rattle.dj_syntax.specs.Weight.{weight_of_exp}
use Rattle.dj_syntax.specs.WellFormedTrees.{has_no_exp}
use Rattle.dj_kinds.specs.Search.{interfaces_of}
use Rattle.dj_values.specs.Fits.{element_of}
use Rattle.dj_values.specs.Deciding.{is_name, is_array}
use Rattle.dj_values.proofs.Deciding.{Decides-name}
use Rattle.dj_meaning.specs.Fields.{KnownField, Selection, selected, named_field}
use Rattle.dj_meaning.specs.Targets.{Target, result, of_object, of_class, of_super, of_new, of_construct}
use Rattle.dj_meaning.specs.Promotions.{promoted, typing_of, result_type}
use Rattle.dj_meaning.specs.StaticTypes.{Scope, plain, typed, array_of, count, selection_type, choice_type, and_type, type_of, types_of, object_target, class_target, super_target, new_target, construct_target}
use Rattle.dj_places.specs.Rules.{Holds}
use Rattle.dj_typing.specs.Casting.{is_number}
use Rattle.dj_typing.specs.Sites.{Site, context_of, is_whole, is_whole_type, may_name, may_name_type}
use Rattle.dj_typing.specs.Operands.{is_of, if_typed, if_both, operands_of, takes}
use Rattle.dj_typing.specs.Expressions.{is_whole_static, selects, gives_value, is_meant, has_super, means_abstract, is_abstract, exp_types, exps_types}
use Rattle.dj_widened.specs.Meant.{AreAllWhole}
use Rattle.dj_widened.proofs.Paths.{IsWhole, whole_from_test, whole_above, above_itself, above_parent, some_in}
use Rattle.dj_widened.proofs.Orders.{interface_step}
use Rattle.dj_widened.proofs.Members.{selected_same, named_field_same}
use Rattle.dj_widened.proofs.Targets.{object_kept, class_kept, super_kept, new_kept, construct_kept}
use Rattle.dj_held.specs.Running.{Running, context, IsInOrder}
use Rattle.dj_held.proofs.Results.{operator_gives, minus_gives}

-- ---- what is found in the world and where other classes run

-- both find the same
pub record Same (A : Type 0) (first second : Option A) : Type 0 where
  pub one : A
  pub found : first ≡ Some one
  pub also : second ≡ Some one

-- a type, of classes that are whole
pub record Alike (world : List Header) (first second : Option StaticType) : Type 0 where
  pub type : StaticType
  pub found : first ≡ Some type
  pub also : second ≡ Some type
  pub whole : is_whole_static world type ≡ true

-- the same of several
pub record AllAlike (world : List Header) (first second : Option (List StaticType)) : Type 0 where
  pub types : List StaticType
  pub found : first ≡ Some types
  pub also : second ≡ Some types
  pub whole : AreAllWhole world types

pub some_one : {A : Type 0} (found : Option A) → is_some found ≡ true → (one : A) × (found ≡ Some one)
some_one None is = absurd (false≢true is)
some_one (Some one) is = (one, refl)

module _ (world : List Header) where
  known : (type : StaticType) → is_whole_static world type ≡ true → Alike world (Some type) (Some type)
  known type whole = record { type = type; found = refl; also = refl; whole = whole }

  typed_alike : {first second : Option JType} → Same JType first second → if_typed (typed first) (is_whole_static world) ≡ true → Alike world (typed first) (typed second)
  typed_alike same whole = record { type = Of same.one; found = ap typed same.found; also = ap typed same.also; whole = subst (λ type. if_typed (typed type) (is_whole_static world) ≡ true) same.found whole }

  choice_alike : {first second other another : Option StaticType} → Alike world first other → Alike world second another → Alike world (choice_type first second) (choice_type other another)
  choice_alike {first} {second} {other} {another} one more = by one.type one.found one.also one.whole
    where
      by : (type : StaticType) → first ≡ Some type → other ≡ Some type → is_whole_static world type ≡ true → Alike world (choice_type first second) (choice_type other another)
      by types.Null found also whole = record { type = more.type; found = ap (λ type. choice_type type second) found ∙ more.found; also = ap (λ type. choice_type type another) also ∙ more.also; whole = more.whole }
      by (Of type) found also whole = record { type = Of type; found = ap (λ type. choice_type type second) found; also = ap (λ type. choice_type type another) also; whole = whole }

  and_alike : {first other : Option StaticType} {rest others : Option (List StaticType)} → Alike world first other → AllAlike world rest others → AllAlike world (and_type first rest) (and_type other others)
  and_alike one more = record { types = one.type ∷ more.types; found = λ i. and_type (one.found i) (more.found i); also = λ i. and_type (one.also i) (more.also i); whole = (one.whole, more.whole) }

  may_name_whole : (site : Site) (type : JType) → may_name_type site type ≡ true → is_whole_type site.headers type ≡ true
  may_name_whole site Boolean may = refl
  may_name_whole site types.Byte may = refl
  may_name_whole site types.Char may = refl
  may_name_whole site types.Short may = refl
  may_name_whole site types.Int may = refl
  may_name_whole site types.Long may = refl
  may_name_whole site types.Float may = refl
  may_name_whole site types.Double may = refl
  may_name_whole site (Class name) may = (and_parts (site.can_say name) (is_whole site.headers name) may).1
  may_name_whole site (types.Array element) may = may_name_whole site element may

  array_whole : (n : ℕ) (type : JType) → is_whole_type world type ≡ true → is_whole_type world (array_of n type) ≡ true
  array_whole zero type whole = whole
  array_whole (suc n) type whole = array_whole n type whole

module _ (body : Running) (order : IsInOrder body) where
  abbrev world : List Header
  world = body.site.headers

  from : IsWhole world body.site.class
  from = whole_from_test world body.site.class order.whole

  paired : length body.site.members ≤ length world
  paired = le_of_eq order.members.paired

  -- ---- members

  pub found_field : (name : Name) {first second : Option StaticType} → Alike world first second → if_typed first (selects body.site name) ≡ true
      → Same Selection (option_and_then (selected world body.site.members body.site.class name) (plain first)) (option_and_then (selected body.headers body.site.members body.site.class name) (plain second))
  found_field name {first} {second} alike selects_so = by alike.type alike.found alike.also alike.whole
    where
      by : (type : StaticType) → first ≡ Some type → second ≡ Some type → is_whole_static world type ≡ true
          → Same Selection (option_and_then (selected world body.site.members body.site.class name) (plain first)) (option_and_then (selected body.headers body.site.members body.site.class name) (plain second))
      by types.Null found also whole = absurd (false≢true (subst (λ type. if_typed type (selects body.site name) ≡ true) found selects_so))
      by (Of type) found also whole =
          let one = some_one (selected world body.site.members body.site.class name type) (subst (λ type. if_typed type (selects body.site name) ≡ true) found selects_so) in
          record {
            one = one.0;
            found = ap (λ type. option_and_then (selected world body.site.members body.site.class name) (plain type)) found ∙ one.1;
            also = ap (λ type. option_and_then (selected body.headers body.site.members body.site.class name) (plain type)) also
                ∙ selected_same world body.headers order.widens body.site.members paired body.site.class name type from whole ∙ one.1;
          }

  pub found_static : (class name : Name) → is_whole world class ≡ true → is_some (named_field world body.site.members body.site.class class name) ≡ true
      → Same KnownField (named_field world body.site.members body.site.class class name) (named_field body.headers body.site.members body.site.class class name)
  found_static class name whole is =
      let one = some_one (named_field world body.site.members body.site.class class name) is in
      record { one = one.0; found = one.1; also = named_field_same world body.headers order.widens body.site.members paired body.site.class class name from (whole_from_test world class whole) ∙ one.1 }

  pub found_element : {first second : Option StaticType} → Alike world first second → if_typed first (is_of is_array) ≡ true → Same JType (option_and_then element_of (plain first)) (option_and_then element_of (plain second))
  found_element {first} {second} alike is = by alike.type alike.found alike.also
    where
      by : (type : StaticType) → first ≡ Some type → second ≡ Some type → Same JType (option_and_then element_of (plain first)) (option_and_then element_of (plain second))
      by types.Null found also = absurd (false≢true (subst (λ type. if_typed type (is_of is_array) ≡ true) found is))
      by (Of type) found also =
          let one = some_one (element_of type) (subst (λ type. if_typed type (is_of is_array) ≡ true) found is) in
          record { one = one.0; found = ap (λ type. option_and_then element_of (plain type)) found ∙ one.1; also = ap (λ type. option_and_then element_of (plain type)) also ∙ one.1 }

  -- ---- calls

  pub found_object : (name : Name) {first second : Option StaticType} {arguments others : Option (List StaticType)} → Alike world first second → AllAlike world arguments others
      → if_typed first (λ type. is_meant arguments (object_target (context_of body.site) name (plain (Some type)) arguments)) ≡ true
      → Same Target (object_target (context_of body.site) name (plain first) arguments) (object_target (context body) name (plain second) others)
  found_object name {first} {second} {arguments} {others} alike all meant = by alike.type alike.found alike.also alike.whole
    where
      by : (type : StaticType) → first ≡ Some type → second ≡ Some type → is_whole_static world type ≡ true
          → Same Target (object_target (context_of body.site) name (plain first) arguments) (object_target (context body) name (plain second) others)
      by type found also whole = by_type type found also whole (subst (λ given. is_meant given (object_target (context_of body.site) name (plain (Some type)) given) ≡ true) all.found
          (subst (λ first. if_typed first (λ type. is_meant arguments (object_target (context_of body.site) name (plain (Some type)) arguments)) ≡ true) found meant))
        where
          by_type : (type : StaticType) → first ≡ Some type → second ≡ Some type → is_whole_static world type ≡ true → is_some (object_target (context_of body.site) name (plain (Some type)) (Some all.types)) ≡ true
              → Same Target (object_target (context_of body.site) name (plain first) arguments) (object_target (context body) name (plain second) others)
          by_type types.Null found also whole is = absurd (false≢true is)
          by_type (Of type) found also whole is =
              let one = some_one (of_object world body.site.members body.site.class name all.types type) is in
              record {
                one = one.0;
                found = (λ i. object_target (context_of body.site) name (plain (found i)) (all.found i)) ∙ one.1;
                also = (λ i. object_target (context body) name (plain (also i)) (all.also i))
                    ∙ object_kept world body.headers order.widens body.site.members paired body.site.class all.types from all.whole name type one.0 whole one.1;
              }

  pub found_class : (class name : Name) {arguments others : Option (List StaticType)} → is_whole world class ≡ true → AllAlike world arguments others → is_meant arguments (class_target (context_of body.site) class name arguments) ≡ true
      → Same Target (class_target (context_of body.site) class name arguments) (class_target (context body) class name others)
  found_class class name whole all meant =
      let one = some_one (of_class world body.site.members body.site.class class name all.types) (subst (λ given. is_meant given (class_target (context_of body.site) class name given) ≡ true) all.found meant) in
      record {
        one = one.0;
        found = ap (class_target (context_of body.site) class name) all.found ∙ one.1;
        also = ap (class_target (context body) class name) all.also
            ∙ class_kept world body.headers order.widens body.site.members paired body.site.class all.types from all.whole class name one.0 (whole_from_test world class whole) one.1;
      }

  pub found_super : (named : Option Name) (name : Name) {arguments others : Option (List StaticType)} → has_super body.site named ≡ true → AllAlike world arguments others
      → is_meant arguments (super_target (context_of body.site) named name arguments) ≡ true → Same Target (super_target (context_of body.site) named name arguments) (super_target (context body) named name others)
  found_super named name has all meant =
      let one = some_one (of_super world body.site.members body.site.class named name all.types) (subst (λ given. is_meant given (super_target (context_of body.site) named name given) ≡ true) all.found meant) in
      record {
        one = one.0;
        found = ap (super_target (context_of body.site) named name) all.found ∙ one.1;
        also = ap (super_target (context body) named name) all.also
            ∙ super_kept world body.headers order.widens body.site.members paired body.site.class all.types from all.whole named name one.0 (listed named has) one.1;
      }
    where
      listed : (named : Option Name) → has_super body.site named ≡ true → (interface : Name) → named ≡ Some interface → IsWhole world interface
      listed None has interface is = absurd cc
      listed (Some other) has interface is =
          let there = some_in (λ one. is_name one other ≡ true) (interfaces_of world body.site.class) (Any-from_list_any (λ one. is_name one other) (interfaces_of world body.site.class) (and_parts (list_any (λ one. is_name one other) (interfaces_of world body.site.class)) (body.site.can_say other) has).0) in
          let same : there.0 ≡ interface = (Decides-name there.0 other).0 there.2 ∙ (let e : other ≡ interface = cc in e) in
          subst (IsWhole world) same (whole_above from (above_parent (interface_step world body.site.class there.0 (from body.site.class (above_itself world body.site.class)) there.1)))

  pub found_new : (class : Name) {arguments others : Option (List StaticType)} → is_whole world class ≡ true → AllAlike world arguments others → is_meant arguments (new_target (context_of body.site) class arguments) ≡ true
      → Same Target (new_target (context_of body.site) class arguments) (new_target (context body) class others)
  found_new class whole all meant =
      let one = some_one (of_new world body.site.members body.site.class class all.types) (subst (λ given. is_meant given (new_target (context_of body.site) class given) ≡ true) all.found meant) in
      record {
        one = one.0;
        found = ap (new_target (context_of body.site) class) all.found ∙ one.1;
        also = ap (new_target (context body) class) all.also ∙ new_kept world body.headers order.widens body.site.members paired body.site.class all.types from all.whole class one.0 whole one.1;
      }

  pub found_construct : (own : Bool) {arguments others : Option (List StaticType)} → AllAlike world arguments others → is_meant arguments (construct_target (context_of body.site) own arguments) ≡ true
      → Same Target (construct_target (context_of body.site) own arguments) (construct_target (context body) own others)
  found_construct own all meant =
      let one = some_one (of_construct world body.site.members body.site.class own all.types) (subst (λ given. is_meant given (construct_target (context_of body.site) own given) ≡ true) all.found meant) in
      record {
        one = one.0;
        found = ap (construct_target (context_of body.site) own) all.found ∙ one.1;
        also = ap (construct_target (context body) own) all.also ∙ construct_kept world body.headers order.widens body.site.members paired body.site.class all.types from all.whole own one.0 one.1;
      }

  pub result_same : {first second : Option Target} → Same Target first second → gives_value first ≡ true → Same JType (option_and_then result first) (option_and_then result second)
  result_same same gives =
      let one = some_one (result same.one) (subst (λ asked. gives_value asked ≡ true) same.found gives) in
      record { one = one.0; found = ap (option_and_then result) same.found ∙ one.1; also = ap (option_and_then result) same.also ∙ one.1 }

  -- ---- expressions

  operands_alike : {first other second another : Option StaticType} (operator : _) → Alike world first other → Alike world second another → if_both first second (takes world (operands_of operator)) ≡ true
      → Alike world (typed (result_type (typing_of operator) (plain first) (plain second))) (typed (result_type (typing_of operator) (plain other) (plain another)))
  operands_alike {first} {other} {second} {another} operator one more takes_so =
      let gives = operator_gives world operator one.type more.type (subst (λ second. if_both (Some one.type) second (takes world (operands_of operator)) ≡ true) more.found
      (subst (λ first. if_both first second (takes world (operands_of operator)) ≡ true) one.found takes_so)) in
      record {
        type = Of gives.0;
        found = (λ i. typed (result_type (typing_of operator) (plain (one.found i)) (plain (more.found i)))) ∙ ap typed gives.1;
        also = (λ i. typed (result_type (typing_of operator) (plain (one.also i)) (plain (more.also i)))) ∙ ap typed gives.1;
        whole = gives.2;
      }

  minus_alike : {first other : Option StaticType} → Alike world first other → if_typed first (is_of is_number) ≡ true → Alike world (typed (option_and_then promoted (plain first))) (typed (option_and_then promoted (plain other)))
  minus_alike {first} {other} one is =
      let gives = minus_gives world one.type (subst (λ first. if_typed first (is_of is_number) ≡ true) one.found is) in
      record {
        type = Of gives.0;
        found = ap (λ type. typed (option_and_then promoted (plain type))) one.found ∙ ap typed gives.1;
        also = ap (λ type. typed (option_and_then promoted (plain type))) one.also ∙ ap typed gives.1;
        whole = gives.2;
      }

  pub super_rules : (above : Option Name) (name : Name) → (body.site.has_this && has_super body.site above && body.site.can_name name) ≡ true → (body.site.has_this ≡ true) × (has_super body.site above ≡ true)
  super_rules above name is = and_parts body.site.has_this (has_super body.site above) (and_parts (body.site.has_this && has_super body.site above) (body.site.can_name name) is).0

  pub super_meant : (scope : Scope) (above : Option Name) (name : Name) (arguments : Exps)
      → (is_meant (types_of (context_of body.site) scope arguments) (super_target (context_of body.site) above name (types_of (context_of body.site) scope arguments))
      && not (means_abstract body.site above name (types_of (context_of body.site) scope arguments))) ≡ true
      → is_meant (types_of (context_of body.site) scope arguments) (super_target (context_of body.site) above name (types_of (context_of body.site) scope arguments)) ≡ true
  super_meant scope above name arguments is =
      (and_parts (is_meant (types_of (context_of body.site) scope arguments) (super_target (context_of body.site) above name (types_of (context_of body.site) scope arguments)))
      (not (means_abstract body.site above name (types_of (context_of body.site) scope arguments))) is).0

  pub new_meant : (scope : Scope) (class : Name) (arguments : Exps) → (not (is_abstract world class) && is_meant (types_of (context_of body.site) scope arguments) (new_target (context_of body.site) class (types_of (context_of body.site) scope arguments))) ≡ true
      → is_meant (types_of (context_of body.site) scope arguments) (new_target (context_of body.site) class (types_of (context_of body.site) scope arguments)) ≡ true
  new_meant scope class arguments is =
      (and_parts (not (is_abstract world class)) (is_meant (types_of (context_of body.site) scope arguments) (new_target (context_of body.site) class (types_of (context_of body.site) scope arguments))) is).1

  -- a class that may be named before a member is whole
  pub named_whole : (class name : Name) → (may_name body.site class && body.site.can_name name) ≡ true → is_whole world class ≡ true
  named_whole class name is = (and_parts (body.site.can_say class) (is_whole world class) (and_parts (may_name body.site class) (body.site.can_name name) is).0).1

  pub array_rules : (kind : JType) (sizes : Exps) → (may_name_type body.site kind && not (is_array kind) && not (has_no_exp sizes)) ≡ true → may_name_type body.site kind ≡ true
  array_rules kind sizes is = (and_parts (may_name_type body.site kind) (not (is_array kind)) (and_parts (may_name_type body.site kind && not (is_array kind)) (not (has_no_exp sizes)) is).0).0

  mutual
    pub exp_alike : (scope : Scope) (place : ℕ) (exp : Exp) → Holds (exp_types body.site scope place exp) → Alike world (type_of (context_of body.site) scope exp) (type_of (context body) scope exp)
    exp_alike scope place (trees.Int number) t = known world (Of types.Int) refl
    exp_alike scope place (trees.Long number) t = known world (Of types.Long) refl
    exp_alike scope place (Text units) t = known world (Of (Class (codes "java/lang/String"))) t
    exp_alike scope place (Truth truth) t = known world (Of Boolean) refl
    exp_alike scope place Null t = known world types.Null refl
    exp_alike scope place This t = known world (Of (Class body.site.class)) t.1
    exp_alike scope place (Variable variable) t = let one = some_one (scope variable) t.0 in typed_alike world (record { one = one.0; found = one.1; also = one.1 }) t.1
    exp_alike scope place (ClassOf kind) t = known world (Of (Class (codes "java/lang/Class"))) t.1
    exp_alike scope place (Field object name) t =
        let found = found_field name (exp_alike scope (place + 1) object t.1.1.1) t.1.0 in
        typed_alike world (record { one = selection_type found.one; found = ap (option_map selection_type) found.found; also = ap (option_map selection_type) found.also }) t.1.1.0
    exp_alike scope place (Static class name) t =
        let found = found_static class name (named_whole class name t.0) t.1.0 in
        typed_alike world (record { one = found.one.type; found = ap (option_map (λ (field : KnownField). field.type)) found.found; also = ap (option_map (λ (field : KnownField). field.type)) found.also }) t.1.1
    exp_alike scope place (Element array index) t = typed_alike world (found_element (exp_alike scope (place + 1) array t.1.1.1.0) t.0) t.1.1.0
    exp_alike scope place (Call object name arguments) t =
        let found = found_object name (exp_alike scope (place + 1) object t.1.1.0) (exps_alike scope (place + 1 + weight_of_exp object) arguments t.1.1.1) t.1.0.1.0 in
        typed_alike world (result_same found t.0) t.1.0.1.1
    exp_alike scope place (StaticCall class name arguments) t =
        let found = found_class class name (named_whole class name t.1.0.0) (exps_alike scope (place + 1) arguments t.1.1) t.1.0.1.0 in
        typed_alike world (result_same found t.0) t.1.0.1.1
    exp_alike scope place (SuperCall above name arguments) t =
        let found = found_super above name (super_rules above name t.1.0.0).1 (exps_alike scope (place + 1) arguments t.1.1) (super_meant scope above name arguments t.1.0.1.0) in
        typed_alike world (result_same found t.0) t.1.0.1.1
    exp_alike scope place (New class arguments) t = known world (Of (Class class)) (and_parts (body.site.can_say class) (is_whole world class) t.0).1
    exp_alike scope place (NewArray kind sizes more) t = known world (Of (array_of (count sizes + more) kind)) (array_whole world (count sizes + more) kind (may_name_whole world body.site kind (array_rules kind sizes t.0)))
    exp_alike scope place (Cast kind operand) t = known world (Of kind) (may_name_whole world body.site kind t.0)
    exp_alike scope place (InstanceOf operand kind) t = known world (Of Boolean) refl
    exp_alike scope place (Negative operand) t = minus_alike (exp_alike scope (place + 1) operand t.1) t.0
    exp_alike scope place (Not operand) t = known world (Of Boolean) refl
    exp_alike scope place (Binary operator left right) t = operands_alike operator (exp_alike scope (place + 1) left t.1.0) (exp_alike scope (place + 1 + weight_of_exp left) right t.1.1) t.0
    exp_alike scope place (Choice test first second) t =
        choice_alike world (exp_alike scope (place + 1 + weight_of_exp test) first t.1.1.1.0) (exp_alike scope (place + 1 + weight_of_exp test + weight_of_exp first) second t.1.1.1.1)
    exp_alike scope place (Assign variable new) t = let one = some_one (scope variable) t.0 in typed_alike world (record { one = one.0; found = one.1; also = one.1 }) t.1.1.0

    pub exps_alike : (scope : Scope) (place : ℕ) (exps : Exps) → Holds (exps_types body.site scope place exps) → AllAlike world (types_of (context_of body.site) scope exps) (types_of (context body) scope exps)
    exps_alike scope place NoExps t = record { types = []; found = refl; also = refl; whole = tt }
    exps_alike scope place (AndExp first rest) t = and_alike world (exp_alike scope place first t.0) (exps_alike scope (place + weight_of_exp first) rest t.1)
