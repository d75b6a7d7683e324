-- Calls of other constructors.
use Rattle.std.proofs.Common.{ℕ, Bool, true, Option, ◌≡◌}
use Rattle.dj_names.specs.Types.{Class, parameters_of}
use Rattle.dj_syntax.specs.Trees.{Exps}
use Rattle.dj_values.specs.Values.{Value}
use Rattle.dj_values.specs.Outcomes.{State, Outcome}
use Rattle.dj_meaning.specs.Targets.{of_construct}
use Rattle.dj_meaning.specs.StaticTypes.{Scope, types_of, construct_target}
use Rattle.dj_meaning.specs.Runs.{Store}
use Rattle.dj_meaning.specs.Expressions.{this_value, call_on, values}
use Rattle.dj_places.specs.Rules.{Holds}
use Rattle.dj_variables.specs.Sets.{Set}
use Rattle.dj_conditions.specs.Conditions.{after_each}
use Rattle.dj_conditions.specs.Reads.{reads_each}
use Rattle.dj_typing.specs.Sites.{context_of}
use Rattle.dj_typing.specs.Expressions.{is_meant, exps_types}
use Rattle.dj_widened.proofs.Asked.{asked_takes, then_from, construct_asked}
use Rattle.dj_held.specs.Replies.{Ends}
use Rattle.dj_held.specs.Running.{Running, context, surroundings, HasThis, IsInOrder}
use Rattle.dj_held.specs.Reaching.{Reaches, Leaves}
use Rattle.dj_held.proofs.Operating.{held_reference}
use Rattle.dj_held.proofs.Typed.{found_construct, exps_alike}
use Rattle.dj_held.proofs.Calling.{call_on_ends, this_ends}
use Rattle.dj_held.proofs.Expressions.{values_hold}
use Rattle.dj_never_stuck.proofs.Runs.{weaken}

module _ (running : Running) (order : IsInOrder running) where
  -- a statement that ends with this assigned
  abbrev Affects : Scope → Set → State Store → Outcome Store (Option Value) → Type 0
  Affects scope set start = Ends (Option Value) (λ result. Reaches running.headers scope set start) (Leaves running.headers scope start)

  -- another constructor is called on `this`, which is there
  pub constructs : (scope : Scope) (set : Set) (p q : ℕ) (start state : State Store) (own : Bool) (arguments : Exps) → HasThis running
      → is_meant (types_of (context_of running.site) scope arguments) (construct_target (context_of running.site) own (types_of (context_of running.site) scope arguments)) ≡ true
      → Holds (exps_types running.site scope p arguments) → Holds (reads_each (surroundings running.site) set q arguments) → Reaches running.headers scope set start state
      → Affects scope (after_each (surroundings running.site) arguments set) start
      (call_on (context running) (construct_target (context running) own (types_of (context running) scope arguments)) (this_value (context running)) (values (context running) scope arguments) state)
  constructs scope set p q start state own arguments this meant t d r =
      let found = found_construct running order own (exps_alike running order scope p arguments t) meant in
      let given = then_from (of_construct running.site.headers running.site.members running.site.class own) (types_of (context_of running.site) scope arguments) found.one found.found in
      let asked = construct_asked running.site.headers running.site.members running.site.class given.0 own found.one given.2 in
      weaken (call_on_ends running order found (this_value (context running)) (values (context running) scope arguments)
      (weaken (this_ends running order running.this this r) (λ one after m. (held_reference running.headers (Class running.site.class) one tt m.0, m.1)) (λ e after l. l))
      (λ after m. weaken (values_hold running order scope set p q start after arguments given.0 (parameters_of found.one.descriptor) t d given.1 (asked_takes asked.1) m) (λ results after held. held.1) (λ e after l. l)))
      (λ told after m. m.reaches) (λ e after l. l)
