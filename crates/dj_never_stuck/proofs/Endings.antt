-- Exceptions, monitors and scopes: what stands around a part takes how it ends.
use Rattle.std.proofs.Common.{false, ◌&&◌, ◌||◌, List, [], ◌∷◌, Option, Some, None, ◌≡◌, refl, sym, ◌∙◌}
use Rattle.std.specs.Prelude.{is_some, if◌then◌else◌}
use Rattle.std.proofs.lemmas.Bool.{and_from, or_left, or_right, false≢true}
use Rattle.dj_names.specs.declared.header.Header.{Header}
use Rattle.dj_names.specs.Types.{JType}
use Rattle.dj_syntax.specs.declared.variable.Var.{Var}
use Rattle.dj_values.specs.Values.{RefValue, Value, Exit, Enter}
use Rattle.dj_values.specs.Outcomes.{Throws, More, Stuck, Halts, Gives, State, Outcome, Is, Stops, ask, outside}
use Rattle.dj_values.specs.Outcomes as outcomes
use Rattle.dj_meaning.specs.StaticTypes.{Scope, with_type}
use Rattle.dj_meaning.specs.Runs.{Store, Meaning, pure, stop, stuck, ◌>>=◌, with_store, with_value, put}
use Rattle.dj_meaning.specs.Objects.{with_object}
use Rattle.dj_meaning.specs.Declarations.{within, locally, opened}
use Rattle.dj_meaning.specs.Completions.{Completion, Normal, Break, Continue, Return, Misfit, sequence, handled, finished, with_held, left_by, released, holding}
use Rattle.dj_reach.specs.declared.jump.Jump.{Jump}
use Rattle.dj_reach.specs.declared.jump.Jump.TheVariants as jumps
use Rattle.dj_variables.specs.Sets.{Set, everything, without, meet, join}
use Rattle.dj_held.specs.Replies.{EndsSo, Ends}
use Rattle.dj_held.specs.Reaching.{Reaches, Leaves}
use Rattle.dj_held.proofs.Ending.{ends, then_ends as bind, either_ends as by_test, ask_replies, gives}
use Rattle.dj_held.proofs.Invariant.{in_left, in_right, fewer, later, kept, again, same_variables, declares, leaves_scope}
use Rattle.dj_held.proofs.Operating.{IsReferenceValue}
use Rattle.dj_held.proofs.Objects.{object_replies}
use Rattle.dj_never_stuck.specs.Ways.{Flow, Completes}
use Rattle.dj_never_stuck.proofs.Runs.{mapped, IsNew, thrown_on, asks}
use Rattle.dj_never_stuck.proofs.Flows.{if_so}

-- ---- try

handles_so : {P Q : Completion → State Store → Type 0} {T U : RefValue → State Store → Type 0} (o : Outcome Store Completion) (h : RefValue → Meaning Completion) → EndsSo P T o
    → ((d : Completion) (t : State Store) → P d t → Q d t) → ((r : RefValue) (t : State Store) → T r t → Ends Completion Q U (h r t)) → EndsSo Q U (handled h o)
handles_so (Is d t) h p f k = f d t p
handles_so (Stops (Throws r) t) h p f k = (k r t p).so
handles_so (Stops More t) h p f k = tt
handles_so (Stops Stuck t) h p f k = absurd p

pub handles : {P Q : Completion → State Store → Type 0} {T U : RefValue → State Store → Type 0} {o : Outcome Store Completion} {h : RefValue → Meaning Completion} → Ends Completion P T o
    → ((d : Completion) (t : State Store) → P d t → Q d t) → ((r : RefValue) (t : State Store) → T r t → Ends Completion Q U (h r t)) → Ends Completion Q U (handled h o)
handles {o = o} {h = h} p f k = record { so = handles_so o h p.so f k }

finishes_so : {P Q : Completion → State Store → Type 0} {T U : RefValue → State Store → Type 0} (o : Outcome Store Completion) (last : Meaning Completion) → EndsSo P T o
    → ((d : Completion) (t : State Store) → P d t → Ends Completion Q U (outcomes.bind (last t) (sequence (pure d))))
    → ((r : RefValue) (t : State Store) → T r t → Ends Completion Q U (outcomes.bind (last t) (sequence (stop (Throws r)))))
    → EndsSo Q U (finished last o)
finishes_so (Is d t) last p f h = (f d t p).so
finishes_so (Stops (Throws r) t) last p f h = (h r t p).so
finishes_so (Stops More t) last p f h = tt
finishes_so (Stops Stuck t) last p f h = absurd p

pub finishes : {P Q : Completion → State Store → Type 0} {T U : RefValue → State Store → Type 0} {o : Outcome Store Completion} (last : Meaning Completion) → Ends Completion P T o
    → ((d : Completion) (t : State Store) → P d t → Ends Completion Q U (outcomes.bind (last t) (sequence (pure d))))
    → ((r : RefValue) (t : State Store) → T r t → Ends Completion Q U (outcomes.bind (last t) (sequence (stop (Throws r)))))
    → Ends Completion Q U (finished last o)
finishes {o = o} last p f h = record { so = finishes_so o last p.so f h }

-- the flow of a `finally`, of those of its two parts
abbrev pub finally_flow : Flow → Flow → Flow
finally_flow f l = record {
  completes = f.completes && l.completes;
  leaves = λ jump. (f.leaves jump && l.completes) || l.leaves jump;
  after = join f.after l.after;
  before = λ jump. meet (if l.completes then join (f.before jump) l.after else everything) (l.before jump);
}

module _ (headers : List Header) (result : Option JType) (targets : List Jump) (scope : Scope) (f l : Flow) (a : Set) (z u : State Store) where
  -- what comes last hides how the first part completed, where it doesn't complete normally
  pub last_hides : (rest : Meaning Completion) → Reaches headers scope a z u
      → ((v : State Store) → Completes headers result targets scope l u Normal v → Ends Completion (Completes headers result targets scope (finally_flow f l) z) (Leaves headers scope z) (rest v))
      → (w : Completion) (v : State Store) → Completes headers result targets scope l u w v → Ends Completion (Completes headers result targets scope (finally_flow f l) z) (Leaves headers scope z) (sequence rest w v)
  last_hides rest r k Normal v h = k v h
  last_hides rest r k (Break label) v h =
      ends (Break label) v (record {
        possible = or_right _ _ h.possible;
        lands = h.lands;
        reaches = fewer ((finally_flow f l).before (jumps.Break label)) (later r h.reaches) (in_right (if l.completes then join (f.before (jumps.Break label)) l.after else everything) (l.before (jumps.Break label)));
      })
  last_hides rest r k (Continue label) v h =
      ends (Continue label) v (record {
        possible = or_right _ _ h.possible;
        lands = h.lands;
        reaches = fewer ((finally_flow f l).before (jumps.Continue label)) (later r h.reaches) (in_right (if l.completes then join (f.before (jumps.Continue label)) l.after else everything) (l.before (jumps.Continue label)));
      })
  last_hides rest r k (Return value) v h = ends (Return value) v (record { possible = tt; lands = h.lands; reaches = later r h.reaches })
  last_hides rest r k Misfit v h = absurd h.possible

  -- and else the first part's way goes on
  pub last_normal : (s : State Store) (d : Completion) (v : State Store) → Reaches headers scope a z s → Completes headers result targets scope f s d u → Completes headers result targets scope l u Normal v
      → Completes headers result targets scope (finally_flow f l) z d v
  last_normal s Normal v r m h = record { possible = and_from _ _ m.possible h.possible; lands = tt; reaches = again (later r m.reaches) h.reaches }
  last_normal s (Break label) v r m h = record {
    possible = or_left _ _ (and_from _ _ m.possible h.possible);
    lands = m.lands;
    reaches = fewer ((finally_flow f l).before (jumps.Break label)) (again (later r m.reaches) h.reaches)
        (λ x i. if_so l.completes (join (f.before (jumps.Break label)) l.after) x h.possible (in_left (if l.completes then join (f.before (jumps.Break label)) l.after else everything) (l.before (jumps.Break label)) x i));
  }
  last_normal s (Continue label) v r m h = record {
    possible = or_left _ _ (and_from _ _ m.possible h.possible);
    lands = m.lands;
    reaches = fewer ((finally_flow f l).before (jumps.Continue label)) (again (later r m.reaches) h.reaches)
        (λ x i. if_so l.completes (join (f.before (jumps.Continue label)) l.after) x h.possible (in_left (if l.completes then join (f.before (jumps.Continue label)) l.after else everything) (l.before (jumps.Continue label)) x i));
  }
  last_normal s (Return value) v r m h = record { possible = tt; lands = m.lands; reaches = kept (later r m.reaches) h.reaches }
  last_normal s Misfit v r m h = absurd m.possible

-- ---- monitors

module _ (headers : List Header) (result : Option JType) (targets : List Jump) (scope : Scope) (f : Flow) (z : State Store) where
  abbrev Done : Outcome Store Completion → Type 0
  Done = Ends Completion (Completes headers result targets scope f z) (Leaves headers scope z)

  leaves_monitor : {a : Set} (next : Meaning Completion) (t : State Store) → Reaches headers scope a z t → ((u : State Store) → Reaches headers scope a z u → Done (next u)) → (monitors : List RefValue) → Done (left_by headers next monitors t)
  leaves_monitor next t r k [] = k t r
  leaves_monitor next t r k (monitor ∷ rest) =
      bind (asks (with_store (with_held rest) t) (ask_replies headers (Exit monitor) (λ reference fits. absurd fits)) (same_variables (with_store (with_held rest) t) r refl)) (λ told u m. k u m.1)

  releases_so : (o : Outcome Store Completion) → EndsSo (Completes headers result targets scope f z) (Leaves headers scope z) o → Done (released headers o)
  releases_so (Is d t) p = leaves_monitor (pure d) t p.reaches (λ u r. ends d u (record { possible = p.possible; lands = p.lands; reaches = r })) t.store.held
  releases_so (Stops (Throws reference) t) p = leaves_monitor (stop (Throws reference)) t p.reaches (λ u r. thrown_on reference u p.throwable r) t.store.held
  releases_so (Stops More t) p = record { so = tt }
  releases_so (Stops Stuck t) p = absurd p

  -- a part that holds a monitor ends as it does
  pub synchronizes : {a : Set} (body : Meaning Completion) (value : Value) (s : State Store) → IsReferenceValue value → Reaches headers scope a z s → ((u : State Store) → Reaches headers scope a z u → Done (body u))
      → Done ((outside headers (with_object value (λ reference. Gives reference)) >>= λ reference. holding headers reference body) s)
  synchronizes {a = a} body value s is r k =
      bind (asks s (object_replies headers {So = λ (reference : RefValue). Unit {0}} value is (λ reference. gives headers reference tt)) r) (λ reference u m.
      bind (bind {Next = λ done. Reaches headers scope a z} (asks u (ask_replies headers (Enter reference) (λ other fits. absurd fits)) m.1)
      (λ told v n. ends tt (with_store (with_held (reference ∷ v.store.held)) v) (same_variables (with_store (with_held (reference ∷ v.store.held)) v) n.1 refl)))
      (λ done v n. releases_so (body v) (k v n).so))

-- ---- scopes

-- what is declared is of a part alone
pub ends_locally : {headers : List Header} {result : Option JType} {targets : List Jump} {scope : Scope} {f : Flow} {a : Set} {z : State Store} (d : Option (Var × JType)) (part : Meaning Completion) (s : State Store) → Reaches headers scope a z s → IsNew scope d
    → Ends Completion (Completes headers result targets (within d scope) f z) (Leaves headers (within d scope) z) (part s)
    → Ends Completion (Completes headers result targets scope f z) (Leaves headers scope z) (locally d part s)
ends_locally None part s r new p = p
ends_locally {headers = headers} {result = result} {targets = targets} {scope = scope} {f = f} {z = z} (Some one) part s r new p =
    mapped (Completes headers result targets scope f z) (Leaves headers scope z) (with_store (with_value one.0 (s.store.variables one.0))) p
    (λ d t m. record { possible = m.possible; lands = m.lands; reaches = leaves_scope one.0 one.1 r new m.reaches })
    (λ reference t m. record { throwable = m.throwable; reaches = leaves_scope one.0 one.1 r new m.reaches })

-- a variable that isn't in scope is declared
pub opens : {headers : List Header} {scope : Scope} {a : Set} {z : State Store} (x : Var) (k : JType) (s : State Store) → Reaches headers scope a z s → is_some (scope x) ≡ false
    → Ends (Unit {0}) (λ done. Reaches headers (with_type x k scope) (without x a) z) (Leaves headers (with_type x k scope) z) (opened scope x s)
opens {scope = scope} x k s r new =
    by_test stuck (put x None) s (is_some (scope x)) (λ e. absurd (false≢true (sym new ∙ e))) (λ e. ends tt (with_store (with_value x None) s) (declares x k r new))
