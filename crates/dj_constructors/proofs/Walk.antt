-- Up to the call of another constructor the code emits nothing, and shows with the call behind it what it shows.
use Rattle.std.proofs.Common.{arith, ℕ, suc, ◌==◌, ◌≡◌, Bool, true, false, List, [], ◌∷◌, drop, Contains, Option, Some, None, refl, sym, ap, ◌∙◌, subst}
use Rattle.std.specs.Prelude.{◌&&◌, not, if◌then◌else◌}
use Rattle.std.proofs.lemmas.Bool.{and_parts, eqb-true, not-true, false≢true}
use Rattle.dj_names.specs.declared.header.Header.{Header}
use Rattle.dj_syntax.specs.Trees.{Stms, Empty, And}
use Rattle.dj_instructions.specs.Instructions.{Instruction, Instructions}
use Rattle.dj_values.specs.Values.{Value}
use Rattle.dj_values.specs.Outcomes.{State, Outcome}
use Rattle.dj_code.specs.MethodCode.{Code}
use Rattle.dj_bytecode.specs.Meanings.{meaning_of}
use Rattle.dj_bytecode.specs.Machine.{Slots, Place, pc_of}
use Rattle.dj_blocks.specs.Blocks.{block}
use Rattle.dj_meaning.specs.StaticTypes.{Context, Scope}
use Rattle.dj_meaning.specs.Runs.{Store, Meaning}
use Rattle.dj_meaning.specs.Completions.{Completion}
use Rattle.dj_meaning.specs.Declarations.{behind}
use Rattle.dj_meaning.specs.Meaning.{run_then}
use Rattle.dj_rebuilding.specs.Pending.{Pending, and_then}
use Rattle.dj_rebuilding.specs.Rest.{ShowsRest}
use Rattle.dj_rebuilding.proofs.Spills.{Settled}
use Rattle.dj_rebuilt.specs.Sorts.{sort_of}
use Rattle.dj_rebuilt.specs.Located.{IsReady, past}
use Rattle.dj_rebuilt.specs.Rebuilding.{Names, Ways, Step, advance_one, continues}
use Rattle.dj_rebuilt.proofs.Jumps.{goes-shows}
use Rattle.dj_rebuilt.proofs.Rebuilt.{made-if, both-are, WaysShow, advances-one}
use Rattle.dj_constructors.specs.Opening.{is_still, is_empty, own_call, Opened, quiet_step, before_call, called_at, opened}

-- ---- plain facts

empty-is : (list : Stms) → is_empty list ≡ true → list ≡ Empty
empty-is Empty e = refl
empty-is (And first rest) e = absurd (false≢true e)

-- a step that is quiet
record IsQuiet (n : ℕ) (found : Option Step) (step : Step) : Type 0 where
  is : found ≡ Some step
  empty : step.0.emitted ≡ Empty
  next : step.0.next ≡ n

quiet-is : (n : ℕ) (found : Option Step) (step : Step) → quiet_step n found ≡ Some step → IsQuiet n found step
quiet-is n None step e = absurd (cc)
quiet-is n (Some one) step e =
    let made = made-if (is_empty one.0.emitted && one.0.next == n) (Some one) step e in
    let both = and_parts (is_empty one.0.emitted) (one.0.next == n) made.0 in
    let same : one ≡ step = (let some = made.1 in cc) in
    record { is = made.1; empty = subst (λ (step : Step). step.0.emitted ≡ Empty) same (empty-is one.0.emitted both.0); next = subst (λ (step : Step). step.0.next ≡ n) same (eqb-true one.0.next n both.1) }

record IsCalled (starts : ℕ → Bool) (first : ℕ × Instruction) (rest : Instructions) (stack : List Pending) (found : Opened) : Type 0 where
  on : starts (pc_of rest) ≡ false
  call : own_call first.1 stack ≡ Some (found.0, found.1)
  behind : rest ≡ found.2

called-is : (starts : ℕ → Bool) (first : ℕ × Instruction) (rest : Instructions) (stack : List Pending) (found : Opened) → (if starts (pc_of rest) then None else and_then (own_call first.1 stack) (λ call. Some (call.0, call.1, rest))) ≡ Some found
    → IsCalled starts first rest stack found
called-is starts first rest stack found e = by (starts (pc_of rest)) refl e
  where
    by : (test : Bool) → starts (pc_of rest) ≡ test → (if test then None else and_then (own_call first.1 stack) (λ call. Some (call.0, call.1, rest))) ≡ Some found → IsCalled starts first rest stack found
    by true on e = absurd (cc)
    by false on e =
        let b = both-are (own_call first.1 stack) (λ call. Some (call.0, call.1, rest)) found e in
        let same : (b.one.0, b.one.1, rest) ≡ found = (let some = b.then_is in cc) in
        record {
          on = on;
          call = b.is ∙ ap (λ (one : Opened). Some (one.0, one.1)) same;
          behind = ap (λ (one : Opened). one.2) same;
        }

-- ---- the walk

-- an instruction that is one of the others and writes no local, and behind which the block goes on
abbrev pub StandsStill : List Header → Code → (ℕ → Bool) → Instructions → ℕ → Instruction → Instructions → Type 0
StandsStill headers code starts others pc instruction rest =
    Contains others (pc, instruction) × (is_still (sort_of instruction) ≡ true) × (continues (sort_of instruction) (meaning_of headers code.class instruction) ≡ true) × (starts (pc_of rest) ≡ false)

module _ (context : Context) (bound n : ℕ) {S : Type 0} {E : S → Store → Type 0} {Q : Place → S → Completion → Store → Type 0} (settled : Settled n E Q) (slots : Slots S) (code : Code) (none : code.handlers ≡ []) (starts : ℕ → Bool)
    (ways : Ways) (scope : Scope) (Related : Names → S → Store → Type 0) (Lawful : Names → Type 0) (others : Instructions) (own : ℕ) where
  abbrev Stands : ℕ → Instruction → Instructions → Type 0
  Stands = StandsStill context.headers code starts others

  abbrev from : Instructions → List Value → State S → Outcome S Place
  from rest = block context.headers slots code starts rest

  module _ (show : WaysShow context bound n settled slots code none starts ways scope Related Lawful Stands) where
    -- where the call is reached
    pub record AtCall (names : Names) (stack : List Pending) (list : Instructions) (found : Opened) : Type 0 where
      pub after : ℕ
      pub instruction : Instruction
      pub here : drop after list ≡ (own, instruction) ∷ found.2
      pub on : starts (pc_of found.2) ≡ false
      pub held : Names
      pub lawful : Lawful held
      pub pending : List Pending
      pub ready : IsReady context n scope n scope pending
      pub call : own_call instruction pending ≡ Some (found.0, found.1)
      pub law : (k : Meaning Completion) → ShowsRest context E Q (Related held) scope pending (from ((own, instruction) ∷ found.2)) k → ShowsRest context E Q (Related names) scope stack (from list) k

    -- the call itself
    here-called : (first : ℕ × Instruction) (rest : Instructions) (names : Names) → Lawful names → (stack : List Pending) → IsReady context n scope n scope stack → (found : Opened) → first.0 ≡ own → IsCalled starts first rest stack found → AtCall names stack (first ∷ rest) found
    here-called first rest names lawful stack ready found at is =
        let same : first ∷ rest ≡ (own, first.1) ∷ found.2 = ap (λ (pc : ℕ). (pc, first.1) ∷ rest) at ∙ ap (λ (list : Instructions). (own, first.1) ∷ list) is.behind in
        record {
          after = 0;
          instruction = first.1;
          here = same;
          on = subst (λ (list : Instructions). starts (pc_of list) ≡ false) is.behind is.on;
          held = names;
          lawful = lawful;
          pending = stack;
          ready = ready;
          call = is.call;
          law = λ k further. subst (λ (list : Instructions). ShowsRest context E Q (Related names) scope stack (from list) k) (sym same) further;
        }

    -- one instruction before it
    before-called : (first : ℕ × Instruction) (rest : Instructions) (names : Names) → Lawful names → (stack : List Pending) → IsReady context n scope n scope stack → (found : Opened) → Contains others first
        → (step : Step) → before_call context.headers code.class ways starts own n names first rest stack ≡ Some step
        → (Lawful step.1 → IsReady context n scope n scope step.0.stack → AtCall step.1 step.0.stack rest found) → AtCall names stack (first ∷ rest) found
    before-called first rest names lawful stack ready found member step e further =
        let made = made-if (continues (sort_of first.1) (meaning_of context.headers code.class first.1) && (is_still (sort_of first.1) && not (starts (pc_of rest)))) (quiet_step n (advance_one context.headers code.class ways names first.0 first.1 n stack)) step e in
        let tests = and_parts (continues (sort_of first.1) (meaning_of context.headers code.class first.1)) (is_still (sort_of first.1) && not (starts (pc_of rest))) made.0 in
        let both = and_parts (is_still (sort_of first.1)) (not (starts (pc_of rest))) tests.1 in
        let on : starts (pc_of rest) ≡ false = not-true (starts (pc_of rest)) both.1 in
        let quiet = quiet-is n (advance_one context.headers code.class ways names first.0 first.1 n stack) step made.1 in
        let a = advances-one context bound n settled slots code none starts ways scope Related Lawful Stands show names lawful n scope stack ready first.0 first.1 rest (member, both.0, tests.0, on) step quiet.is in
        let nothing : behind step.0.emitted scope ≡ scope = ap (λ (list : Stms). behind list scope) quiet.empty in
        let settled_now : IsReady context n scope n scope step.0.stack = subst (λ (later : Scope). IsReady context n scope n later step.0.stack) nothing (subst (λ (next : ℕ). IsReady context n scope next (behind step.0.emitted scope) step.0.stack) quiet.next a.ready) in
        let h = further a.lawful settled_now in
        record {
          after = suc h.after;
          instruction = h.instruction;
          here = h.here;
          on = h.on;
          held = h.held;
          lawful = h.lawful;
          pending = h.pending;
          ready = h.ready;
          call = h.call;
          law = λ k later.
              subst (λ (list : Stms). ShowsRest context E Q (Related names) scope stack (from (first ∷ rest)) (run_then context scope bound list k)) quiet.empty
              (a.law k (subst (λ (inner : Scope). ShowsRest context E Q (Related step.1) inner step.0.stack (past context.headers slots code starts rest) k) (sym nothing)
              (goes-shows context bound n settled slots code none starts rest on scope step.0.stack k (h.law k later))));
        }

    pub walks : (list : Instructions) → ((one : ℕ × Instruction) → Contains list one → (one.0 == own) ≡ false → Contains others one) → (names : Names) → Lawful names → (stack : List Pending) → IsReady context n scope n scope stack
        → (found : Opened) → opened context.headers code.class ways starts own n names stack list ≡ Some found → AtCall names stack list found
    walks [] member names lawful stack ready found e = absurd (cc)
    walks (first ∷ rest) member names lawful stack ready found e =
        by (first.0 == own) refl e (λ names lawful stack ready e. walks rest (λ one has apart. member one (suc has.0, omega (arith, has.1), has.2) apart) names lawful stack ready found e)
      where
        by : (test : Bool) → (first.0 == own) ≡ test
            → (if test then called_at context.headers code.class ways starts own n first rest stack
            else and_then (before_call context.headers code.class ways starts own n names first rest stack) (λ step. opened context.headers code.class ways starts own n step.1 step.0.stack rest)) ≡ Some found
            → ((names : Names) → Lawful names → (stack : List Pending) → IsReady context n scope n scope stack → opened context.headers code.class ways starts own n names stack rest ≡ Some found → AtCall names stack rest found)
            → AtCall names stack (first ∷ rest) found
        by true at e further = here-called first rest names lawful stack ready found (eqb-true first.0 own at) (called-is starts first rest stack found e)
        by false apart e further =
            let b = both-are (before_call context.headers code.class ways starts own n names first rest stack) (λ step. opened context.headers code.class ways starts own n step.1 step.0.stack rest) found e in
            before-called first rest names lawful stack ready found (member first (0, omega arith, refl) apart) b.one b.is (λ lawful ready. further b.one.1 lawful b.one.0.stack ready b.then_is)
