-- A call that stands alone and keeps the rules ends well, whatever it gives (JLS 14.8).
use Rattle.std.proofs.Common.{◌≡◌, ℕ, ◌+◌, true, Option, None}
use Rattle.std.proofs.lemmas.Bool.{false≢true}
use Rattle.dj_names.specs.Types.{Class, parameters_of}
use Rattle.dj_syntax.specs.Trees.{Exp, Call, StaticCall, SuperCall, New}
use Rattle.dj_syntax.specs.Weight.{weight_of_exp}
use Rattle.dj_syntax.specs.WellFormedTrees.{is_call}
use Rattle.dj_values.specs.Values.{Value}
use Rattle.dj_values.specs.Outcomes.{State}
use Rattle.dj_meaning.specs.Targets.{Target, of_class, of_super}
use Rattle.dj_meaning.specs.StaticTypes.{Scope, type_of, types_of}
use Rattle.dj_meaning.specs.Runs.{Store}
use Rattle.dj_meaning.specs.Expressions.{this_value, value, values as values_of, effect}
use Rattle.dj_places.specs.Rules.{Holds}
use Rattle.dj_typing.specs.Sites.{context_of}
use Rattle.dj_typing.specs.Expressions.{effect_types}
use Rattle.dj_variables.specs.Sets.{Set}
use Rattle.dj_conditions.specs.Conditions.{after_each, after_exp, either_way, after_both}
use Rattle.dj_conditions.specs.Reads.{reads}
use Rattle.dj_widened.proofs.Asked.{then_from, asked_takes, class_asked, super_asked}
use Rattle.dj_held.specs.Replies.{Ends}
use Rattle.dj_held.specs.Running.{Running, context, surroundings, IsInOrder}
use Rattle.dj_held.specs.Reaching.{Reaches, Leaves}
use Rattle.dj_held.proofs.Ending.{ends, then_ends, weaker}
use Rattle.dj_held.proofs.Invariant.{fewer}
use Rattle.dj_held.proofs.Operating.{held_reference}
use Rattle.dj_held.proofs.Typed.{exp_alike, exps_alike, found_object, found_class, found_super, named_whole, super_rules, super_meant}
use Rattle.dj_held.proofs.Knowing.{both_either, after_value}
use Rattle.dj_held.proofs.Calling.{Called, call_on_ends, call_static_ends, this_ends}
use Rattle.dj_held.proofs.Expressions.{object_parts, reference_value, value_holds, values_hold}

module _ (body : Running) (order : IsInOrder body) where
  -- what a call gives is dropped
  dropped : {scope : Scope} {start after : State Store} {asked : Target} {found : Option Value} (set : Set) → Called body.headers asked scope set start found after → Reaches body.headers scope (after_both (either_way set)) start after
  dropped set called = fewer (after_both (either_way set)) called.reaches (both_either set)

  pub effect_holds : (scope : Scope) (set : Set) (p q : ℕ) (start state : State Store) (exp : Exp) → is_call exp ≡ true → Holds (effect_types body.site scope p exp) → Holds (reads (surroundings body.site) set q exp) → Reaches body.headers scope set start state
      → Ends (Option Value) (λ found after. Reaches body.headers scope (after_exp (surroundings body.site) exp set) start after) (Leaves body.headers scope start) (effect (context body) scope exp state)
  effect_holds scope set p q start state (Call object name arguments) is t d r =
      let found = found_object body order name (exp_alike body order scope (p + 1) object t.1.0) (exps_alike body order scope (p + 1 + weight_of_exp object) arguments t.1.1) t.0.1.0 in
      let parts = object_parts body order name (type_of (context_of body.site) scope object) (types_of (context_of body.site) scope arguments) found.one found.found in
      weaker
      (call_on_ends body order found (value (context body) scope object) (values_of (context body) scope arguments)
      (weaker (value_holds body order scope set (p + 1) (q + 1) start state object t.1.0 d.0 r) (λ one after run v. (reference_value body order one parts v.of_type, after_value v)) (λ reference after l. l))
      (λ after m. weaker (values_hold body order scope (after_exp (surroundings body.site) object set) (p + 1 + weight_of_exp object) (q + 1 + weight_of_exp object) start after arguments parts.types (parameters_of found.one.descriptor) t.1.1 d.1 parts.given (asked_takes parts.call.made) m)
      (λ all behind run held. held.1) (λ reference after l. l)))
      (λ result after run called. dropped (after_each (surroundings body.site) arguments (after_exp (surroundings body.site) object set)) called) (λ reference after l. l)
  effect_holds scope set p q start state (StaticCall class name arguments) is t d r =
      let found = found_class body order class name (named_whole body order class name t.0.0) (exps_alike body order scope (p + 1) arguments t.1) t.0.1.0 in
      let given = then_from (of_class body.site.headers body.site.members body.site.class class name) (types_of (context_of body.site) scope arguments) found.one found.found in
      let asked = class_asked body.site.headers body.site.members body.site.class given.0 class name found.one given.2 in
      weaker
      (call_static_ends body order found (values_of (context body) scope arguments) asked.1
      (weaker (values_hold body order scope set (p + 1) (q + 1) start state arguments given.0 (parameters_of found.one.descriptor) t.1 d given.1 (asked_takes asked.0) r) (λ all behind run held. held.1) (λ reference after l. l)))
      (λ result after run called. dropped (after_each (surroundings body.site) arguments set) called) (λ reference after l. l)
  effect_holds scope set p q start state (SuperCall above name arguments) is t d r =
      let rules = super_rules body order above name t.0.0 in
      let found = found_super body order above name rules.1 (exps_alike body order scope (p + 1) arguments t.1) (super_meant body order scope above name arguments t.0.1.0) in
      let given = then_from (of_super body.site.headers body.site.members body.site.class above name) (types_of (context_of body.site) scope arguments) found.one found.found in
      let asked = super_asked body.site.headers body.site.members body.site.class given.0 above name found.one given.2 in
      weaker
      (call_on_ends body order found (this_value (context body)) (values_of (context body) scope arguments)
      (weaker (this_ends body order body.this (order.this rules.0) r) (λ one after run q. (held_reference body.headers (Class body.site.class) one tt q.0, q.1)) (λ reference after l. l))
      (λ after m. weaker (values_hold body order scope set (p + 1) (q + 1) start after arguments given.0 (parameters_of found.one.descriptor) t.1 d given.1 (asked_takes asked.1) m) (λ all behind run held. held.1) (λ reference after l. l)))
      (λ result after run called. dropped (after_each (surroundings body.site) arguments set) called) (λ reference after l. l)
  effect_holds scope set p q start state (New class arguments) is t d r =
      then_ends (value_holds body order scope set p q start state (New class arguments) t d r) (λ object after v. ends None after (after_value v))
  effect_holds scope set p q start state exp is t d r = absurd (false≢true is)
