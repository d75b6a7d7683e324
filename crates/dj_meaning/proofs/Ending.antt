-- A tree completes only in the ways of its form.
use Rattle.std.proofs.Common.{ℕ, zero, suc, ◌≡◌, ◌==◌, Bool, true, false, List, [], ◌∷◌, Option, Some, None, inl, inr, refl, sym, subst}
use Rattle.std.specs.Prelude.{◌&&◌, ◌||◌}
use Rattle.std.proofs.lemmas.Bool.{cases_Bool, eqb-true}
use Rattle.dj_names.specs.declared.header.Header.{Header}
use Rattle.dj_syntax.specs.declared.variable.Var.{Var}
use Rattle.dj_values.specs.Values.{RefValue, Exit}
use Rattle.dj_values.specs.Outcomes.{Stop, Throws, More, Stuck, ask, State, Outcome, Is, Stops, bind, outside}
use Rattle.dj_meaning.specs.Runs.{Store, Meaning, pure, stop, ◌>>=◌, with, with_value, with_store, map_state, local}
use Rattle.dj_meaning.specs.Expressions.{either}
use Rattle.dj_meaning.specs.Completions.{Completion, Normal, Break, Continue, Return, Misfit, sequence, taken, is_own, next_turn, turns, do_turns, handled, finished, with_held, left_by, released, entered_on, holding}
use Rattle.dj_meaning.specs.Ways.{Ways, one_of, both_of, labelled, repeated, comes_round, May, EndsSo}

-- a part completes in these ways alone
pub record EndsIn (ways : Ways) (part : Meaning Completion) : Type 0 where
  pub ends : (state : State Store) → EndsSo ways (part state)

pub ends-pure : (ways : Ways) (completion : Completion) → May ways completion → EndsIn ways (pure completion)
ends-pure ways completion m = record { ends = λ state. m }

pub ends-stop : (ways : Ways) (why : Stop) → EndsIn ways (stop why)
ends-stop ways why = record { ends = λ state. tt }

-- ---- one behind the other

after-run : {A : Type 0} (ways : Ways) (run : Outcome Store A) (next : A → Meaning Completion) → ((result : A) → EndsIn ways (next result)) → EndsSo ways (bind run next)
after-run ways (Is result state) next h = (h result).ends state
after-run ways (Stops why state) next h = tt

pub ends-after : {A : Type 0} (ways : Ways) (part : Meaning A) {next : A → Meaning Completion} → ((result : A) → EndsIn ways (next result)) → EndsIn ways (part >>= next)
ends-after ways part {next = next} h = record { ends = λ state. after-run ways (part state) next h }

then-run : (first ways : Ways) (run : Outcome Store Completion) (next : Completion → Meaning Completion) → EndsSo first run → ((completion : Completion) → May first completion → EndsIn ways (next completion)) → EndsSo ways (bind run next)
then-run first ways (Is completion state) next e h = (h completion e).ends state
then-run first ways (Stops why state) next e h = tt

pub ends-then : (first ways : Ways) {part : Meaning Completion} {next : Completion → Meaning Completion} → EndsIn first part → ((completion : Completion) → May first completion → EndsIn ways (next completion)) → EndsIn ways (part >>= next)
ends-then first ways {part = part} {next = next} h k = record { ends = λ state. then-run first ways (part state) next (h.ends state) k }

wider-run : (first ways : Ways) (run : Outcome Store Completion) → ((completion : Completion) → May first completion → May ways completion) → EndsSo first run → EndsSo ways run
wider-run first ways (Is completion state) f e = f completion e
wider-run first ways (Stops why state) f e = tt

pub ends-wider : (first ways : Ways) {part : Meaning Completion} → ((completion : Completion) → May first completion → May ways completion) → EndsIn first part → EndsIn ways part
ends-wider first ways {part = part} f h = record { ends = λ state. wider-run first ways (part state) f (h.ends state) }

pub ends-either : (ways : Ways) {one other : Meaning Completion} (answer : Bool) → EndsIn ways one → EndsIn ways other → EndsIn ways (either answer one other)
ends-either ways true h k = h
ends-either ways false h k = k

pub ends-with : {A : Type 0} (ways : Ways) {next : A → Meaning Completion} (found : Option A) → ((one : A) → EndsIn ways (next one)) → EndsIn ways (with found next)
ends-with ways None h = ends-stop ways Stuck
ends-with ways (Some one) h = h one

mapped-run : (ways : Ways) (change : State Store → State Store) (run : Outcome Store Completion) → EndsSo ways run → EndsSo ways (map_state change run)
mapped-run ways change (Is completion state) e = e
mapped-run ways change (Stops why state) e = tt

pub ends-local : (ways : Ways) (variable : Var) {part : Meaning Completion} → EndsIn ways part → EndsIn ways (local variable part)
ends-local ways variable {part = part} h = record {
  ends = λ state. mapped-run ways (with_store (with_value variable (state.store.variables variable))) (part state) (h.ends state);
}

-- ---- ways

or_right : (first second : Bool) → second ≡ true → (first || second) ≡ true
or_right true second e = refl
or_right false second e = e

pub first-way : (first second : Ways) (completion : Completion) → May first completion → May (one_of first second) completion
first-way first second Normal e = rw e refl
first-way first second (Break label) e = rw e refl
first-way first second (Continue label) e = rw e refl
first-way first second (Return result) e = tt
first-way first second Misfit e = tt

pub second-way : (first second : Ways) (completion : Completion) → May second completion → May (one_of first second) completion
second-way first second Normal e = or_right first.falls second.falls e
second-way first second (Break label) e = or_right (first.jumps label) (second.jumps label) e
second-way first second (Continue label) e = or_right (first.goes_on label) (second.goes_on label) e
second-way first second (Return result) e = tt
second-way first second Misfit e = tt

behind-way : (first second : Ways) → first.falls ≡ true → (completion : Completion) → May second completion → May (both_of first second) completion
behind-way first second f Normal e = rw (f, e) refl
behind-way first second f (Break label) e = rw f (or_right (first.jumps label) (second.jumps label) e)
behind-way first second f (Continue label) e = rw f (or_right (first.goes_on label) (second.goes_on label) e)
behind-way first second f (Return result) e = tt
behind-way first second f Misfit e = tt

pub ends-sequence : (first second : Ways) {next : Meaning Completion} → EndsIn second next → (completion : Completion) → May first completion → EndsIn (both_of first second) (sequence next completion)
ends-sequence first second h Normal e = ends-wider second (both_of first second) (behind-way first second e) h
ends-sequence first second h (Break label) e = ends-pure (both_of first second) (Break label) (rw e refl)
ends-sequence first second h (Continue label) e = ends-pure (both_of first second) (Continue label) (rw e refl)
ends-sequence first second h (Return result) e = ends-pure (both_of first second) (Return result) tt
ends-sequence first second h Misfit e = ends-pure (both_of first second) Misfit tt

pub ends-taken : (own : ℕ) (inner : Ways) (completion : Completion) → May inner completion → EndsIn (labelled own inner) (taken own completion)
ends-taken own inner Normal e = ends-pure (labelled own inner) Normal (rw e refl)
ends-taken own inner (Break label) e = elim (cases_Bool (label == own)) [
  | inl same ↦ (rw same (ends-pure (labelled own inner) Normal (or_right inner.falls (inner.jumps own) (subst (λ one. inner.jumps one ≡ true) (eqb-true label own same) e))))
  | inr differ ↦ (rw differ (ends-pure (labelled own inner) (Break label) (rw differ e)))
]
ends-taken own inner (Continue label) e = elim (cases_Bool (label == own)) [
  | inl same ↦ (rw same (ends-stop (labelled own inner) Stuck))
  | inr differ ↦ (rw differ (ends-pure (labelled own inner) (Continue label) (rw differ e)))
]
ends-taken own inner (Return result) e = ends-pure (labelled own inner) (Return result) tt
ends-taken own inner Misfit e = ends-pure (labelled own inner) Misfit tt

-- ---- loops

-- a body that goes on by a continue of the loop's label comes round
own-round : (own : Option ℕ) (body : Ways) (label : ℕ) → is_own own label ≡ true → body.goes_on label ≡ true → comes_round own body ≡ true
own-round None body label same e = absurd (cc)
own-round (Some own) body label same e = or_right body.falls (body.goes_on own) (subst (λ one. body.goes_on one ≡ true) (eqb-true label own same) e)

falls-round : (own : Option ℕ) (body : Ways) → body.falls ≡ true → comes_round own body ≡ true
falls-round None body e = e
falls-round (Some own) body e = rw e refl

module _ (own : Option ℕ) (falls : Bool) (body_ways : Ways) where
  abbrev looped : Ways
  looped = repeated own falls body_ways

  ends-next : {again : Meaning Completion} → (comes_round own body_ways ≡ true → EndsIn looped again) → (completion : Completion) → May body_ways completion → EndsIn looped (next_turn own again completion)
  ends-next h Normal e = h (falls-round own body_ways e)
  ends-next h (Break label) e = ends-pure looped (Break label) e
  ends-next h (Continue label) e = elim (cases_Bool (is_own own label)) [
    | inl same ↦ (rw same (h (own-round own body_ways label same e)))
    | inr differ ↦ (rw differ (ends-pure looped (Continue label) (rw differ e)))
  ]
  ends-next h (Return result) e = ends-pure looped (Return result) tt
  ends-next h Misfit e = ends-pure looped Misfit tt

  -- a test after which a loop ends, where it may
  abbrev pub Leaves : Meaning Bool → Type 0
  Leaves test = (next : Meaning Completion) → EndsIn looped next → EndsIn looped (test >>= λ answer. either answer next (pure Normal))

  pub ends-turns : (bound : ℕ) (test : Meaning Bool) (step : Meaning (Unit {0})) {body : Meaning Completion} → Leaves test → EndsIn body_ways body → EndsIn looped (turns bound own test step body)
  ends-turns zero test step h k = h (stop More) (ends-stop looped More)
  ends-turns (suc bound) test step {body = body} h k =
      h (body >>= next_turn own (step >>= λ done. turns bound own test step body)) (ends-then body_ways looped k (ends-next (λ round. ends-after looped step (λ done. ends-turns bound test step h k))))

  pub ends-do_turns : (bound : ℕ) (test : Meaning Bool) {body : Meaning Completion} → (comes_round own body_ways ≡ true → Leaves test) → EndsIn body_ways body → EndsIn looped (do_turns bound own test body)
  ends-do_turns zero test h k = ends-stop looped More
  ends-do_turns (suc bound) test {body = body} h k =
      ends-then body_ways looped k (ends-next (λ round. h round (do_turns bound own test body) (ends-do_turns bound test h k)))

-- a test behind a body that comes round
pub round-leaves : (own : Option ℕ) (body : Ways) (leaves : Bool) (test : Meaning Bool) → Leaves own leaves body test → comes_round own body ≡ true → Leaves own (comes_round own body && leaves) body test
round-leaves own body leaves test h round = subst (λ so. Leaves own (so && leaves) body test) (sym round) h

-- ---- exceptions and monitors

handled-run : (first second : Ways) (handler : RefValue → Meaning Completion) (run : Outcome Store Completion) → EndsSo first run → ((reference : RefValue) → EndsIn second (handler reference)) → EndsSo (one_of first second) (handled handler run)
handled-run first second handler (Is completion state) e h = first-way first second completion e
handled-run first second handler (Stops (Throws reference) state) e h = (ends-wider second (one_of first second) (second-way first second) (h reference)).ends state
handled-run first second handler (Stops More state) e h = tt
handled-run first second handler (Stops Stuck state) e h = tt

pub ends-handled : (first second : Ways) {handler : RefValue → Meaning Completion} {body : Meaning Completion} → ((reference : RefValue) → EndsIn second (handler reference)) → EndsIn first body → EndsIn (one_of first second) (λ state. handled handler (body state))
ends-handled first second {handler = handler} {body = body} h k = record { ends = λ state. handled-run first second handler (body state) (k.ends state) h }

-- the last part, and what the first came to where the last completes normally
finished-run : (first second : Ways) (last : Meaning Completion) (run : Outcome Store Completion) → EndsSo first run → EndsIn second last → EndsSo (both_of second first) (finished last run)
finished-run first second last (Is completion state) e h = (ends-then second (both_of second first) h (ends-sequence second first (ends-pure first completion e))).ends state
finished-run first second last (Stops (Throws reference) state) e h = (ends-then second (both_of second first) h (ends-sequence second first (ends-stop first (Throws reference)))).ends state
finished-run first second last (Stops More state) e h = tt
finished-run first second last (Stops Stuck state) e h = tt

pub ends-finished : (first second : Ways) {last body : Meaning Completion} → EndsIn second last → EndsIn first body → EndsIn (both_of second first) (λ state. finished last (body state))
ends-finished first second {last = last} {body = body} h k = record { ends = λ state. finished-run first second last (body state) (k.ends state) h }

left-run : (ways : Ways) (headers : List Header) (next : Meaning Completion) (held : List RefValue) (state : State Store) → EndsIn ways next → EndsSo ways (left_by headers next held state)
left-run ways headers next [] state h = h.ends state
left-run ways headers next (monitor ∷ rest) state h = after-run ways (outside headers (ask (Exit monitor)) (with_store (with_held rest) state)) (λ done. next) (λ done. h)

released-run : (ways : Ways) (headers : List Header) (run : Outcome Store Completion) → EndsSo ways run → EndsSo ways (released headers run)
released-run ways headers (Is completion state) e = left-run ways headers (pure completion) state.store.held state (ends-pure ways completion e)
released-run ways headers (Stops (Throws reference) state) e = left-run ways headers (stop (Throws reference)) state.store.held state (ends-stop ways (Throws reference))
released-run ways headers (Stops More state) e = tt
released-run ways headers (Stops Stuck state) e = tt

pub ends-holding : (ways : Ways) (headers : List Header) (monitor : RefValue) {body : Meaning Completion} → EndsIn ways body → EndsIn ways (holding headers monitor body)
ends-holding ways headers monitor {body = body} h = ends-after ways (entered_on headers monitor) (λ done. record { ends = λ state. released-run ways headers (body state) (h.ends state) })
