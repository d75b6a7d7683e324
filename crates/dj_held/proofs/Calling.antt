-- Calls end well, given that their objects and arguments do (JLS 15.9.4, 15.12.4).
use Rattle.std.proofs.Common.{◌≡◌, true, IsSome, IsSomeAnd, List, [], Option, Some, None, sym, subst, ◌∙◌, inl, inr}
use Rattle.std.proofs.lemmas.Bool.{false≢true}
use Rattle.dj_names.specs.declared.header.Header.{Header}
use Rattle.dj_names.specs.Headers.{Name}
use Rattle.dj_names.specs.Types as types
use Rattle.dj_names.specs.Types.{JType, Boolean, Byte, Char, Short, Float, Double, Class, Array, StaticType, Of, parameters_of, result_of}
use Rattle.dj_names.specs.Assignable.{IsReference}
use Rattle.dj_kinds.specs.Choice.{searched_class}
use Rattle.dj_values.specs.Values.{Value, Null, Static}
use Rattle.dj_values.specs.Deciding.{is_array_clone}
use Rattle.dj_values.specs.Outcomes.{State}
use Rattle.dj_meaning.specs.Targets.{Target, result, of_object}
use Rattle.dj_meaning.specs.StaticTypes.{Scope, typed}
use Rattle.dj_meaning.specs.Runs.{Store, Meaning, present, given}
use Rattle.dj_meaning.specs.Expressions.{call_on, call_static, made}
use Rattle.dj_variables.specs.Sets.{Set}
use Rattle.dj_conditions.specs.Conditions.{either_way}
use Rattle.dj_widened.proofs.Paths.{contains_in}
use Rattle.dj_widened.proofs.Asked.{IsAsked, IsAskedOf, object_asked, array_asked}
use Rattle.dj_held.specs.Values.{IsHeld, IsOfSome}
use Rattle.dj_held.specs.Replies.{Ends}
use Rattle.dj_held.specs.Running.{Running, context, IsInOrder}
use Rattle.dj_held.specs.Reaching.{Reaches, Leaves, Values}
use Rattle.dj_held.proofs.Ending.{ends, then_ends}
use Rattle.dj_held.proofs.Knowing.{either_value}
use Rattle.dj_held.proofs.Operating.{IsReferenceValue, held_reference}
use Rattle.dj_held.proofs.Typed.{Same}
use Rattle.dj_held.proofs.Objects.{CallGives, called_replies, call_held, clone_is, new_replies}
use Rattle.dj_held.proofs.Parts.{reply_ends}

searched_reference : (type : JType) (class : Name) → searched_class type ≡ Some class → IsReference type
searched_reference (Class name) class is = tt
searched_reference (Array element) class is = tt
searched_reference Boolean class is = absurd cc
searched_reference Byte class is = absurd cc
searched_reference Char class is = absurd cc
searched_reference Short class is = absurd cc
searched_reference types.Int class is = absurd cc
searched_reference types.Long class is = absurd cc
searched_reference Float class is = absurd cc
searched_reference Double class is = absurd cc

-- where a call asks for `clone` of an array, its method has a result
abbrev pub GivesClone : Target → Type 0
GivesClone asked = is_array_clone asked.owner asked.name (parameters_of asked.descriptor) ≡ true → IsSome (result_of asked.descriptor)

-- a call of a class's method is none of an array's
pub class_clone : {world : List Header} {members : List _} {class : Name} {arguments : List StaticType} {asked : Target} → IsAsked world members (Class class) arguments asked → GivesClone asked
class_clone {asked = asked} is clone = absurd (false≢true (subst (λ owner. is_array_clone owner asked.name (parameters_of asked.descriptor) ≡ true) is.owner_is clone))

-- what a call came to, and where
pub record Called (headers : List Header) (asked : Target) (scope : Scope) (set : Set) (start : State Store) (found : Option Value) (state : State Store) : Type 0 where
  pub gives : CallGives headers asked.owner asked.name asked.descriptor found
  pub reaches : Reaches headers scope set start state

module _ (body : Running) (order : IsInOrder body) where
  object_clone : (arguments : List StaticType) (name : Name) (type : JType) (asked : Target) → IsAskedOf body.site.headers body.site.members body.site.class arguments name type asked → GivesClone asked
  object_clone arguments name (Array element) asked is clone =
      let own = array_asked body.site.headers body.headers order.widens body.site.members body.site.class arguments name element asked is in
      let named = clone_is body.headers asked.owner asked.name (parameters_of asked.descriptor) clone in
      subst (λ descriptor. IsSome (result_of descriptor)) (sym own.descriptor)
      (order.members.clones own.method (contains_in _ own.method own.there) (sym own.name ∙ named.clone) (subst (λ descriptor. parameters_of descriptor ≡ []) own.descriptor named.alone))
  object_clone arguments name (Class class) asked is clone = class_clone is.made clone
  object_clone arguments name Boolean asked is clone = absurd (searched_reference Boolean is.class is.searched)
  object_clone arguments name Byte asked is clone = absurd (searched_reference Byte is.class is.searched)
  object_clone arguments name Char asked is clone = absurd (searched_reference Char is.class is.searched)
  object_clone arguments name Short asked is clone = absurd (searched_reference Short is.class is.searched)
  object_clone arguments name types.Int asked is clone = absurd (searched_reference types.Int is.class is.searched)
  object_clone arguments name types.Long asked is clone = absurd (searched_reference types.Long is.class is.searched)
  object_clone arguments name Float asked is clone = absurd (searched_reference Float is.class is.searched)
  object_clone arguments name Double asked is clone = absurd (searched_reference Double is.class is.searched)

  -- what is asked of an object, and that its type is a reference's
  pub record IsObjectCall (arguments : List StaticType) (type : JType) (asked : Target) : Type 0 where
    pub made : IsAsked body.site.headers body.site.members type arguments asked
    pub reference : IsReference type
    pub clone : GivesClone asked

  pub object_call : (arguments : List StaticType) (name : Name) (type : JType) (asked : Target) → of_object body.site.headers body.site.members body.site.class name arguments type ≡ Some asked → IsObjectCall arguments type asked
  object_call arguments name type asked is =
      let found = object_asked body.site.headers body.site.members body.site.class arguments name type asked is in
      record { made = found.made; reference = searched_reference type found.class found.searched; clone = object_clone arguments name type asked found }

  module _ {scope : Scope} {start : State Store} where
    -- a call on an object
    pub call_on_ends : {first second : Option Target} {middle last : Set} {state : State Store} (found : Same Target first second) (object : Meaning Value) (arguments : List JType → Meaning (List Value))
        → Ends Value (λ value after. IsReferenceValue value × Reaches body.headers scope middle start after) (Leaves body.headers scope start) (object state)
        → ((after : State Store) → Reaches body.headers scope middle start after
        → Ends (List Value) (λ values behind. Reaches body.headers scope last start behind) (Leaves body.headers scope start) (arguments (parameters_of found.one.descriptor) after))
        → Ends (Option Value) (Called body.headers found.one scope last start) (Leaves body.headers scope start) (call_on (context body) second object arguments state)
    call_on_ends found object arguments first follows =
        rw found.also (then_ends first (λ value after is.
        then_ends (follows after is.1) (λ values behind r. reply_ends _ (called_replies body.headers found.one value values (inr is.0)) r (λ result later gives q. record { gives = gives; reaches = q }))))

    -- a call of a static method
    pub call_static_ends : {first second : Option Target} {last : Set} {state : State Store} (found : Same Target first second) (arguments : List JType → Meaning (List Value)) → found.one.kind ≡ Static
        → Ends (List Value) (λ values behind. Reaches body.headers scope last start behind) (Leaves body.headers scope start) (arguments (parameters_of found.one.descriptor) state)
        → Ends (Option Value) (Called body.headers found.one scope last start) (Leaves body.headers scope start) (call_static (context body) second arguments state)
    call_static_ends found arguments is follows =
        rw found.also (then_ends follows (λ values behind r. reply_ends _ (called_replies body.headers found.one Null values (inl is)) r (λ result later gives q. record { gives = gives; reaches = q })))

    -- a new object
    pub made_ends : {first second : Option Target} {middle last : Set} {state : State Store} (class : Name) (found : Same Target first second) (arguments : List JType → Meaning (List Value)) → Reaches body.headers scope middle start state
        → ((after : State Store) → Reaches body.headers scope middle start after
        → Ends (List Value) (λ values behind. Reaches body.headers scope last start behind) (Leaves body.headers scope start) (arguments (parameters_of found.one.descriptor) after))
        → Ends Value (Values body.headers (Some (Of (Class class))) scope (either_way last) start) (Leaves body.headers scope start) (made (context body) class second arguments state)
    made_ends {middle = middle} {last = last} class found arguments r follows =
        rw found.also (then_ends {So = λ value after. IsHeld body.headers (Class class) value × Reaches body.headers scope middle start after} (reply_ends _ (new_replies body.headers class) r (λ value after held q. (held, q))) (λ value after is.
        then_ends (follows after is.1) (λ values behind q.
        then_ends {So = λ nothing later. Reaches body.headers scope last start later} (reply_ends _ (called_replies body.headers found.one value values (inr (held_reference body.headers (Class class) value tt is.0))) q (λ result later gives p. p)) (λ nothing later p.
        ends value later (either_value value is.0 p)))))

    present_ends : {type : Option StaticType} {last : Set} {state : State Store} (found : Option Value) (value : Value) → found ≡ Some value → IsOfSome body.headers type value → Reaches body.headers scope last start state
        → Ends Value (Values body.headers type scope (either_way last) start) (Leaves body.headers scope start) (present found state)
    present_ends {type = type} {last = last} {state = state} found value is held r =
        subst (λ found. Ends Value (Values body.headers type scope (either_way last) start) (Leaves body.headers scope start) (present found state)) (sym is) (ends value state (either_value value held r))

    -- a call that gives a value
    pub given_ends : {asked : Target} {first : Option JType} {last : Set} {state : State Store} (type : JType) (call : Meaning (Option Value)) → first ≡ Some type → result asked ≡ Some type → GivesClone asked
        → Ends (Option Value) (Called body.headers asked scope last start) (Leaves body.headers scope start) (call state) → Ends Value (Values body.headers (typed first) scope (either_way last) start) (Leaves body.headers scope start) (given call state)
    given_ends {asked = asked} type call is gives clone holds =
        then_ends holds (λ found after called.
        let one = call_held body.headers asked type found gives clone called.gives in
        present_ends found one.0 one.1 (subst (λ type. IsOfSome body.headers (typed type) one.0) (sym is) one.2) called.reaches)

    -- `this`
    pub this_ends : {set : Set} {state : State Store} (found : Option Value) → IsSomeAnd found (IsHeld body.headers (Class body.site.class)) → Reaches body.headers scope set start state
        → Ends Value (λ value after. IsHeld body.headers (Class body.site.class) value × Reaches body.headers scope set start after) (Leaves body.headers scope start) (present found state)
    this_ends None none r = absurd none
    this_ends {state = state} (Some value) held r = ends value state (held, r)
