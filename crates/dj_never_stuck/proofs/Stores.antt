-- Statements that stand on expressions alone: declarations, stores, calls, returns and throws.
use Rattle.std.proofs.Common.{ℕ, Bool, true, false, ◌&&◌, List, Option, Some, None, IsSome, ◌≡◌, refl, sym, ap, ◌∙◌, subst}
use Rattle.std.specs.Prelude.{is_some, option_map, option_and_then, if◌then◌else◌}
use Rattle.std.proofs.lemmas.Bool.{and_parts, and_from, false≢true, eq-eqb}
use Rattle.dj_names.specs.Headers.{Name}
use Rattle.dj_names.specs.Types.{JType, Class, StaticType}
use Rattle.dj_syntax.specs.declared.variable.Var.{Var}
use Rattle.dj_syntax.specs.NameText.{letter}
use Rattle.dj_syntax.specs.Trees.{Exp}
use Rattle.dj_values.specs.Values.{Value, PutStatic}
use Rattle.dj_values.specs.Fits.{element_of}
use Rattle.dj_values.specs.Deciding.{is_array}
use Rattle.dj_values.specs.Outcomes.{Reply, State, Outcome, Is, ask}
use Rattle.dj_meaning.specs.Fields.{KnownField, Selection, Member, selected, named_field}
use Rattle.dj_meaning.specs.StaticTypes.{Scope, with_type, plain, selection_type, type_of, typed}
use Rattle.dj_meaning.specs.Runs.{Store, pure, ◌>>=◌, with, looked_up, look, put, fitted, assigned, with_value, with_store}
use Rattle.dj_meaning.specs.Expressions.{value}
use Rattle.dj_meaning.specs.Completions.{Completion, Normal, Return, thrown, returns_nothing, returns_value}
use Rattle.dj_meaning.specs.Declarations.{initialised}
use Rattle.dj_meaning.specs.Statements.{does, field_set, element_set}
use Rattle.dj_places.specs.Rules.{Holds}
use Rattle.dj_reach.specs.declared.jump.Jump.{Jump}
use Rattle.dj_variables.specs.Sets as sets
use Rattle.dj_variables.specs.Sets.{everything, without, meet}
use Rattle.dj_conditions.specs.Conditions.{after_exp}
use Rattle.dj_conditions.specs.Reads.{reads, option_reads}
use Rattle.dj_assigned.specs.Assigned.{after_first}
use Rattle.dj_typing.specs.Sites.{context_of, may_name}
use Rattle.dj_typing.specs.Operands.{is_of, if_typed}
use Rattle.dj_typing.specs.Expressions.{goes, is_index, exp_types}
use Rattle.dj_typed.specs.Stores.{may_assign, may_set_of, may_set_static, set_type, set_static_type}
use Rattle.dj_typed.specs.Statements.{exp_goes, option_goes, option_types, returns, sets_element, throwable}
use Rattle.dj_typing.specs.Sites.{is_whole}
use Rattle.dj_held.specs.Values.{IsHeld, IsOfSome}
use Rattle.dj_held.specs.Replies.{Replied, Ends}
use Rattle.dj_held.specs.Running.{Running, context, surroundings, IsInOrder}
use Rattle.dj_held.specs.Reaching.{Matches, Reaches, Leaves}
use Rattle.dj_held.proofs.Ending.{ends, then_ends as bind}
use Rattle.dj_held.proofs.Invariant.{none_known, puts}
use Rattle.dj_held.proofs.Converting.{converts}
use Rattle.dj_held.proofs.Operating.{held_reference}
use Rattle.dj_held.proofs.Objects.{array_value, written_replies, put_static_replies, element_written_replies}
use Rattle.dj_held.proofs.Knowing.{after_value}
use Rattle.dj_held.proofs.Expressions.{value_holds}
use Rattle.dj_held.proofs.Typed.{found_field, found_static, found_element, exp_alike}
use Rattle.dj_never_stuck.specs.Ways.{Flow, IsResult, Completes}
use Rattle.dj_never_stuck.proofs.Runs.{weaken, asks}
use Rattle.dj_never_stuck.proofs.Values.{index_value, throws, FieldOf, field_there, field_selects, ArrayOf, array_there}

-- a statement that completes normally alone
abbrev pub plain_flow : sets.Set → Flow
plain_flow set = record { completes = true; leaves = λ jump. false; after = set; before = λ jump. everything }

-- one that doesn't complete normally, nor by a jump
abbrev pub last_flow : Flow
last_flow = record { completes = false; leaves = λ jump. false; after = everything; before = λ jump. everything }

module _ (running : Running) (order : IsInOrder running) where
  abbrev pub Done : List Jump → Scope → Flow → State Store → Outcome Store Completion → Type 0
  Done targets scope flow z = Ends Completion (Completes running.headers running.result targets scope flow z) (Leaves running.headers scope z)

  -- control comes normally behind
  pub normal : {targets : List Jump} {scope : Scope} {set : sets.Set} {z : State Store} (t : State Store) → Reaches running.headers scope set z t → Done targets scope (plain_flow set) z (Is Normal t)
  normal t r = ends Normal t (record { possible = refl; lands = tt; reaches = r })

  -- a value that goes where a type is wanted is converted to it
  pub fits : {scope : Scope} {set : sets.Set} {z : State Store} (type : Option StaticType) (wanted : JType) (v : Value) (s : State Store) → goes running.site.headers type (Some wanted) ≡ true → IsOfSome running.headers type v → Reaches running.headers scope set z s
      → Ends Value (λ kept t. IsHeld running.headers wanted kept × Reaches running.headers scope set z t) (Leaves running.headers scope z) (fitted running.headers wanted v s)
  fits None wanted v s e is r = absurd is
  fits (Some type) wanted v s e is r = asks s (converts running.site.headers running.headers order.widens type wanted v e is) r

  has_type : (scope : Scope) (p : ℕ) (exp : Exp) → Holds (exp_types running.site scope p exp) → IsSome (type_of (context_of running.site) scope exp)
  has_type scope p exp t = ap is_some (exp_alike running order scope p exp t).found

  -- what an expression gives, converted
  pub fits_exp : (scope : Scope) (set : sets.Set) (p q : ℕ) (z s : State Store) (exp : Exp) (wanted : JType) → exp_goes running.site scope exp (Some wanted) ≡ true → Holds (exp_types running.site scope p exp) → Holds (reads (surroundings running.site) set q exp) → Reaches running.headers scope set z s
      → Ends Value (λ kept t. IsHeld running.headers wanted kept × Reaches running.headers scope (after_exp (surroundings running.site) exp set) z t) (Leaves running.headers scope z) ((value (context running) scope exp >>= fitted running.headers wanted) s)
  fits_exp scope set p q z s exp wanted e t d r =
      bind (value_holds running order scope set p q z s exp t d r) (λ v u m. fits (type_of (context_of running.site) scope exp) wanted v u e m.of_type (after_value m))

  -- ---- assignments

  assigns_to : (scope : Scope) (set : sets.Set) (p q : ℕ) (z s : State Store) (x : Var) (exp : Exp) (found : Option JType) → scope x ≡ found → IsSome found → exp_goes running.site scope exp found ≡ true → Holds (exp_types running.site scope p exp) → Holds (reads (surroundings running.site) set q exp)
      → Reaches running.headers scope set z s
      → Ends Value (λ kept. Reaches running.headers scope (sets.with x (after_exp (surroundings running.site) exp set)) z) (Leaves running.headers scope z)
      (with found (λ type. value (context running) scope exp >>= fitted running.headers type >>= λ kept. put x (Some kept) >>= λ done. pure kept) s)
  assigns_to scope set p q z s x exp None is some e t d r = absurd (false≢true some)
  assigns_to scope set p q z s x exp (Some type) is some e t d r =
      bind (fits_exp scope set p q z s exp type e t d r) (λ kept u m.
      ends kept (with_store (with_value x (Some kept)) u) (puts x kept m.1 (subst (λ o. Matches running.headers o (Some kept)) (sym is) m.0)))

  -- a variable is assigned what an expression gives
  pub assigns : (scope : Scope) (set : sets.Set) (p q : ℕ) (z s : State Store) (x : Var) (exp : Exp) → IsSome (scope x) → exp_goes running.site scope exp (scope x) ≡ true → Holds (exp_types running.site scope p exp) → Holds (reads (surroundings running.site) set q exp)
      → Reaches running.headers scope set z s
      → Ends Value (λ kept. Reaches running.headers scope (sets.with x (after_exp (surroundings running.site) exp set)) z) (Leaves running.headers scope z) (assigned running.headers scope x (value (context running) scope exp) s)
  assigns scope set p q z s x exp = assigns_to scope set p q z s x exp (scope x) refl

  pub own_type : (scope : Scope) (x : Var) (type : JType) → with_type x type scope x ≡ Some type
  own_type scope x type = ap (λ (b : Bool). if b then Some type else scope x) (and_from _ _ (eq-eqb (letter x.kind) (letter x.kind) refl) (eq-eqb x.number x.number refl))

  -- a variable that is declared gets its first value
  pub initialises : (targets : List Jump) (scope : Scope) (set : sets.Set) (p q : ℕ) (z s : State Store) (x : Var) (type : JType) (initial : Option Exp) → option_goes running.site (with_type x type scope) initial (Some type) ≡ true
      → Holds (option_types running.site (with_type x type scope) p initial) → Holds (option_reads (surroundings running.site) (without x set) q initial) → Reaches running.headers (with_type x type scope) (without x set) z s
      → Done targets (with_type x type scope) (plain_flow (after_first (surroundings running.site) x initial set)) z (initialised (context running) (with_type x type scope) x initial s)
  initialises targets scope set p q z s x type None e t d r = normal s r
  initialises targets scope set p q z s x type (Some exp) e t d r =
      let own : with_type x type scope x ≡ Some type = own_type scope x type in
      bind (assigns (with_type x type scope) (without x set) p q z s x exp (ap is_some own) (subst (λ o. exp_goes running.site (with_type x type scope) exp o ≡ true) (sym own) e) t d r) (λ kept u m. normal u m)

  -- ---- stores

  does_reply : {targets : List Jump} {scope : Scope} {set : sets.Set} {z : State Store} {reply : Reply (Option Value)} (s : State Store) → Replied (Option Value) running.headers (λ told. Unit {0}) reply → Reaches running.headers scope set z s
      → Done targets scope (plain_flow set) z (does (context running) reply s)
  does_reply s h r = bind (asks s h r) (λ told u m. normal u m.1)

  stores_field : (targets : List Jump) (scope : Scope) (set : sets.Set) (p q p' q' : ℕ) (z s : State Store) (object new : Exp) (name : Name) (found : FieldOf running.site name (type_of (context_of running.site) scope object))
      (asked : Option Selection) → asked ≡ Some (Member (Class found.class) found.field)
      → exp_goes running.site scope new (Some found.field.type) ≡ true
      → Holds (exp_types running.site scope p object) → Holds (exp_types running.site scope p' new)
      → Holds (reads (surroundings running.site) set q object) → Holds (reads (surroundings running.site) (after_exp (surroundings running.site) object set) q' new) → Reaches running.headers scope set z s
      → Done targets scope (plain_flow (after_exp (surroundings running.site) new (after_exp (surroundings running.site) object set))) z (with asked (field_set (context running) name (value (context running) scope object) (value (context running) scope new)) s)
  stores_field targets scope set p q p' q' z s object new name found asked is e t t' d d' r =
      subst (λ one. Done targets scope (plain_flow (after_exp (surroundings running.site) new (after_exp (surroundings running.site) object set))) z (with one (field_set (context running) name (value (context running) scope object) (value (context running) scope new)) s)) (sym is)
      (bind (value_holds running order scope set p q z s object t d r) (λ v u m.
      bind (fits_exp scope (after_exp (surroundings running.site) object set) p' q' z u new found.field.type e t' d' (after_value m)) (λ kept w n.
      does_reply w (written_replies running.headers (Class found.class) name found.field v kept (held_reference running.headers (Class found.class) v tt (subst (λ type. IsOfSome running.headers type v) found.typed m.of_type))) n.1)))

  -- a field of an object is assigned
  pub sets_field : (targets : List Jump) (scope : Scope) (set : sets.Set) (p q p' q' : ℕ) (z s : State Store) (object new : Exp) (name : Name) → if_typed (type_of (context_of running.site) scope object) (may_set_of running.site name) ≡ true
      → exp_goes running.site scope new (set_type running.site name (type_of (context_of running.site) scope object)) ≡ true
      → Holds (exp_types running.site scope p object) → Holds (exp_types running.site scope p' new)
      → Holds (reads (surroundings running.site) set q object) → Holds (reads (surroundings running.site) (after_exp (surroundings running.site) object set) q' new) → Reaches running.headers scope set z s
      → Done targets scope (plain_flow (after_exp (surroundings running.site) new (after_exp (surroundings running.site) object set))) z
      (with (option_and_then (selected running.headers running.site.members running.site.class name) (plain (type_of (context running) scope object))) (field_set (context running) name (value (context running) scope object) (value (context running) scope new)) s)
  sets_field targets scope set p q p' q' z s object new name may e t t' d d' r =
      let found : FieldOf running.site name (type_of (context_of running.site) scope object) = field_there running.site name (type_of (context_of running.site) scope object) (has_type scope p object t) may in
      let alike = exp_alike running order scope p object t in
      let same = found_field running order name alike (field_selects running.site name (type_of (context_of running.site) scope object) found) in
      stores_field targets scope set p q p' q' z s object new name found
      (option_and_then (selected running.headers running.site.members running.site.class name) (plain (type_of (context running) scope object)))
      (same.also ∙ sym same.found ∙ found.selects)
      (subst (λ o. exp_goes running.site scope new o ≡ true) (ap (option_map selection_type) found.selects) e)
      t t' d d' r

  stores_static : (targets : List Jump) (scope : Scope) (set : sets.Set) (p q : ℕ) (z s : State Store) (class name : Name) (new : Exp) (field : KnownField)
      (asked : Option KnownField) → asked ≡ Some field
      → exp_goes running.site scope new (Some field.type) ≡ true → Holds (exp_types running.site scope p new) → Holds (reads (surroundings running.site) set q new) → Reaches running.headers scope set z s
      → Done targets scope (plain_flow (after_exp (surroundings running.site) new set)) z
      (with asked (λ field. value (context running) scope new >>= fitted running.headers field.type >>= λ kept. does (context running) (ask (PutStatic (Class class) name field.type kept))) s)
  stores_static targets scope set p q z s class name new field asked is e t d r =
      subst (λ one. Done targets scope (plain_flow (after_exp (surroundings running.site) new set)) z
      (with one (λ field. value (context running) scope new >>= fitted running.headers field.type >>= λ kept. does (context running) (ask (PutStatic (Class class) name field.type kept))) s)) (sym is)
      (bind (fits_exp scope set p q z s new field.type e t d r) (λ kept u m. does_reply u (put_static_replies running.headers (Class class) name field.type kept) m.1))

  -- a static field is
  pub sets_static : (targets : List Jump) (scope : Scope) (set : sets.Set) (p q : ℕ) (z s : State Store) (class name : Name) (new : Exp) → may_name running.site class ≡ true → may_set_static running.site class name ≡ true
      → exp_goes running.site scope new (set_static_type running.site class name) ≡ true → Holds (exp_types running.site scope p new) → Holds (reads (surroundings running.site) set q new) → Reaches running.headers scope set z s
      → Done targets scope (plain_flow (after_exp (surroundings running.site) new set)) z
      (with (named_field running.headers running.site.members running.site.class class name) (λ field. value (context running) scope new >>= fitted running.headers field.type >>= λ kept. does (context running) (ask (PutStatic (Class class) name field.type kept))) s)
  sets_static targets scope set p q z s class name new named may e t d r =
      let found = found_static running order class name (and_parts (running.site.can_say class) (is_whole running.site.headers class) named).1
      (and_parts (is_some (named_field running.site.headers running.site.members running.site.class class name)) (may_assign running.site class name) may).0 in
      stores_static targets scope set p q z s class name new found.one (named_field running.headers running.site.members running.site.class class name) found.also
      (subst (λ o. exp_goes running.site scope new o ≡ true) (ap (option_map (λ (field : KnownField). field.type)) found.found) e)
      t d r

  stores_element : (targets : List Jump) (scope : Scope) (set : sets.Set) (p q p' q' p'' q'' : ℕ) (z s : State Store) (array index new : Exp) (found : ArrayOf (type_of (context_of running.site) scope array)) (asked : Option JType) → asked ≡ Some found.element
      → is_index (type_of (context_of running.site) scope index) ≡ true → exp_goes running.site scope new (Some found.element) ≡ true
      → Holds (exp_types running.site scope p array) → Holds (exp_types running.site scope p' index) → Holds (exp_types running.site scope p'' new)
      → Holds (reads (surroundings running.site) set q array) → Holds (reads (surroundings running.site) (after_exp (surroundings running.site) array set) q' index) → Holds (reads (surroundings running.site) (after_exp (surroundings running.site) index (after_exp (surroundings running.site) array set)) q'' new)
      → Reaches running.headers scope set z s
      → Done targets scope (plain_flow (after_exp (surroundings running.site) new (after_exp (surroundings running.site) index (after_exp (surroundings running.site) array set)))) z
      (with asked (element_set (context running) (value (context running) scope array) (value (context running) scope index) (value (context running) scope new)) s)
  stores_element targets scope set p q p' q' p'' q'' z s array index new found asked is at e t t' t'' d d' d'' r =
      subst (λ one. Done targets scope (plain_flow (after_exp (surroundings running.site) new (after_exp (surroundings running.site) index (after_exp (surroundings running.site) array set)))) z
      (with one (element_set (context running) (value (context running) scope array) (value (context running) scope index) (value (context running) scope new)) s)) (sym is)
      (bind (value_holds running order scope set p q z s array t d r) (λ v u m.
      bind (value_holds running order scope (after_exp (surroundings running.site) array set) p' q' z u index t' d' (after_value m)) (λ i w n.
      bind (fits_exp scope (after_exp (surroundings running.site) index (after_exp (surroundings running.site) array set)) p'' q'' z w new found.element e t'' d'' (after_value n)) (λ kept y o.
      does_reply y
      (element_written_replies running.headers found.element v i kept (array_value running.headers found.element v (subst (λ type. IsOfSome running.headers type v) found.typed m.of_type)) (index_value running.headers (type_of (context_of running.site) scope index) i at n.of_type)) o.1))))

  -- an element of an array is
  pub sets_an_element : (targets : List Jump) (scope : Scope) (set : sets.Set) (p q p' q' p'' q'' : ℕ) (z s : State Store) (array index new : Exp) → sets_element running.site scope array index new ≡ true
      → Holds (exp_types running.site scope p array) → Holds (exp_types running.site scope p' index) → Holds (exp_types running.site scope p'' new)
      → Holds (reads (surroundings running.site) set q array) → Holds (reads (surroundings running.site) (after_exp (surroundings running.site) array set) q' index) → Holds (reads (surroundings running.site) (after_exp (surroundings running.site) index (after_exp (surroundings running.site) array set)) q'' new)
      → Reaches running.headers scope set z s
      → Done targets scope (plain_flow (after_exp (surroundings running.site) new (after_exp (surroundings running.site) index (after_exp (surroundings running.site) array set)))) z
      (with (option_and_then element_of (plain (type_of (context running) scope array))) (element_set (context running) (value (context running) scope array) (value (context running) scope index) (value (context running) scope new)) s)
  sets_an_element targets scope set p q p' q' p'' q'' z s array index new may t t' t'' d d' d'' r =
      let wanted : Option JType = option_and_then element_of (plain (type_of (context_of running.site) scope array)) in
      let parts = and_parts (if_typed (type_of (context_of running.site) scope array) (is_of is_array) && is_index (type_of (context_of running.site) scope index)) (exp_goes running.site scope new wanted) may in
      let more = and_parts (if_typed (type_of (context_of running.site) scope array) (is_of is_array)) (is_index (type_of (context_of running.site) scope index)) parts.0 in
      let found : ArrayOf (type_of (context_of running.site) scope array) = array_there (type_of (context_of running.site) scope array) (has_type scope p array t) more.0 in
      let same = found_element running order (exp_alike running order scope p array t) more.0 in
      stores_element targets scope set p q p' q' p'' q'' z s array index new found (option_and_then element_of (plain (type_of (context running) scope array)))
      (same.also ∙ sym same.found ∙ ap (λ type. option_and_then element_of (plain type)) found.typed) more.1
      (subst (λ o. exp_goes running.site scope new o ≡ true) (ap (λ type. option_and_then element_of (plain type)) found.typed) parts.1)
      t t' t'' d d' d'' r

  -- ---- returns and throws

  pub returns_nothing_well : (targets : List Jump) (scope : Scope) (set : sets.Set) (z s : State Store) (result : Option JType) → running.result ≡ result → returns running.site scope result None ≡ true → Reaches running.headers scope set z s
      → Done targets scope last_flow z (returns_nothing result s)
  returns_nothing_well targets scope set z s None is e r = ends (Return None) s (record { possible = tt; lands = subst (λ o. IsResult running.headers o None) (sym is) tt; reaches = none_known r })
  returns_nothing_well targets scope set z s (Some type) is e r = absurd (false≢true e)

  pub returns_value_well : (targets : List Jump) (scope : Scope) (set : sets.Set) (p q : ℕ) (z s : State Store) (exp : Exp) (result : Option JType) → running.result ≡ result → returns running.site scope result (Some exp) ≡ true
      → Holds (exp_types running.site scope p exp) → Holds (reads (surroundings running.site) set q exp) → Reaches running.headers scope set z s
      → Done targets scope last_flow z ((value (context running) scope exp >>= returns_value (context running) result) s)
  returns_value_well targets scope set p q z s exp None is e t d r = absurd (false≢true e)
  returns_value_well targets scope set p q z s exp (Some type) is e t d r =
      bind (value_holds running order scope set p q z s exp t d r) (λ v u m.
      bind (fits (type_of (context_of running.site) scope exp) type v u e m.of_type (after_value m)) (λ kept w n.
      ends (Return (Some kept)) w (record { possible = tt; lands = subst (λ o. IsResult running.headers o (Some kept)) (sym is) n.0; reaches = none_known n.1 })))

  -- a value that goes to Throwable is thrown
  pub throws_value : {scope : Scope} {set : sets.Set} {z : State Store} (targets : List Jump) (type : Option StaticType) (v : Value) (s : State Store) → goes running.site.headers type throwable ≡ true → IsOfSome running.headers type v → Reaches running.headers scope set z s
      → Done targets scope last_flow z (thrown (context running) v s)
  throws_value targets type v s e is r =
      weaken (asks s (throws running.site.headers running.headers order.widens (λ (d : Completion). ⊥) type v e is) r) (λ d t m. absurd m.0) (λ e t m. m)

  look_there : (scope : Scope) (set : sets.Set) (z s : State Store) (type : Option JType) (found : Option Value) → IsSome type → IsSome found → Matches running.headers type found → Reaches running.headers scope set z s
      → Ends Value (λ v t. IsOfSome running.headers (typed type) v × Reaches running.headers scope set z t) (Leaves running.headers scope z) (looked_up type found s)
  look_there scope set z s None found some full is r = absurd (false≢true some)
  look_there scope set z s (Some type) None some full is r = absurd (false≢true full)
  look_there scope set z s (Some type) (Some v) some full is r = ends v s (is, r)

  -- a variable that is assigned has a value of its type
  pub looks : (scope : Scope) (set : sets.Set) (z s : State Store) (x : Var) → IsSome (scope x) → set x ≡ true → Reaches running.headers scope set z s
      → Ends Value (λ v t. IsOfSome running.headers (typed (scope x)) v × Reaches running.headers scope set z t) (Leaves running.headers scope z) (look scope x s)
  looks scope set z s x some is r = look_there scope set z s (scope x) (s.store.variables x) some (r.values x is some) (r.types x) r
