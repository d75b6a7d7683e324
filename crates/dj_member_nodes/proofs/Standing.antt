-- An expression or a statement stands for an instruction where a law says what it means by its operands as they are: operands are tested by their static types, and what is given passes the test of its own.
use Rattle.std.proofs.Common.{◌≡◌, ℕ, Bool, true, false, inl, inr, List, [], ◌∷◌, Option, Some, None, refl, sym, ap, subst, ◌∙◌}
use Rattle.std.specs.Prelude.{if◌then◌else◌}
use Rattle.dj_names.specs.declared.header.Header.{Header}
use Rattle.dj_names.specs.Types.{JType, StaticType}
use Rattle.dj_syntax.specs.Trees.{Exp, Stm}
use Rattle.dj_values.specs.Values.{Value, Action, Answer}
use Rattle.dj_values.specs.Answers.{FitsAction}
use Rattle.dj_values.specs.Deciding.{is_answer}
use Rattle.dj_values.proofs.Deciding.{Decides-answer}
use Rattle.dj_values.specs.Outcomes.{More, Reply, Gives, Halts, Asks, then_on, there, State, Outcome, Is, Stops, bind, acted, answered, outside}
use Rattle.dj_meaning.specs.StaticTypes.{Context, Scope}
use Rattle.dj_meaning.specs.Runs.{Store, pure, stuck}
use Rattle.dj_meaning.specs.Completions.{Normal}
use Rattle.dj_meaning.specs.Expressions.{value}
use Rattle.dj_meaning.specs.Statements.{Elsewhere}
use Rattle.dj_meaning.specs.Meaning.{run}
use Rattle.dj_loaded.specs.Loaded.{MayRun}
use Rattle.dj_rebuilding.specs.Shows.{Refines, lost}
use Rattle.dj_rebuilding.specs.Pending.{Typed, is_kept, checked, entry, operands}
use Rattle.dj_rebuilding.proofs.Outcomes.{refines-is}
use Rattle.dj_rebuilt.specs.Standing.{IsNode, IsEffect}
use Rattle.dj_members_shown.specs.Sorts as raw
use Rattle.dj_members_shown.specs.Sorts.{OnIs}
use Rattle.dj_members_shown.specs.Operands.{AreOperands}
use Rattle.dj_members_shown.specs.Pushing.{GivesNothing}
use Rattle.dj_members_shown.specs.Testing.{IsStuck}
use Rattle.dj_members_shown.proofs.Binding.{bind-bind, bind-on, on-bind}
use Rattle.dj_strict_entries.specs.Entries.{AllGo, exps_of, types_of, EntriesAreOperands}
use Rattle.dj_strict_entries.specs.Replies.{GivesKept}
use Rattle.dj_strict_entries.proofs.Replying.{entries-are, passes}

-- a run that is stuck refines each
pub stuck-refines : {A B : Type 0} (first : Outcome Store A) (next : A → State Store → Outcome Store B) (other : Outcome Store B) → IsStuck first → Refines (bind first next) other
stuck-refines (Is result state) next other is = absurd is
stuck-refines (Stops why state) next other is = subst (λ stop. Refines (Stops stop state) other) (sym is) lost

module _ (context : Context) (scope : Scope) where
  -- ---- values that passed their tests

  abbrev pub AreKept : List Typed → List Value → Type 0
  AreKept [] [] = Unit {0}
  AreKept [] (one ∷ more) = ⊥
  AreKept (first ∷ rest) [] = ⊥
  AreKept (first ∷ rest) (one ∷ more) = (is_kept context.headers first.0 one ≡ true) × AreKept rest more

  kept-entry : (type : StaticType) (exp : Exp) (state : State Store) → OnIs (λ one after. is_kept context.headers type one ≡ true) (entry context scope type exp state)
  kept-entry type exp state = by (value context scope exp state)
    where
      tested : (one : Value) (after : State Store) (test : Bool) → is_kept context.headers type one ≡ test → OnIs (λ one after. is_kept context.headers type one ≡ true) ((if test then pure one else stuck) after)
      tested one after true e = e
      tested one after false e = tt

      by : (found : Outcome Store Value) → OnIs (λ one after. is_kept context.headers type one ≡ true) (bind found (checked context.headers type))
      by (Is one after) = tested one after (is_kept context.headers type one) refl
      by (Stops why after) = tt

  pub kept-operands : (are : List Typed) (state : State Store) → OnIs (λ all after. AreKept are all) (operands context scope are state)
  kept-operands [] state = tt
  kept-operands (first ∷ rest) state =
      on-bind (λ one after. is_kept context.headers first.0 one ≡ true) (λ all after. AreKept (first ∷ rest) all) (entry context scope first.0 first.1 state) (λ one after. bind (operands context scope rest after) (λ more. Is (one ∷ more)))
      (kept-entry first.0 first.1 state)
      (λ one after kept. on-bind (λ all behind. AreKept rest all) (λ all behind. AreKept (first ∷ rest) all) (operands context scope rest after) (λ more. Is (one ∷ more)) (kept-operands rest after) (λ more behind others. (kept, others)))

  -- ---- what is given

  answered-again : {A B : Type 0} (action : Action) (first : Answer → State Store → Outcome Store A) (second : Answer → State Store → Outcome Store B) (next : A → State Store → Outcome Store B)
      → ((answer : Answer) → FitsAction context.headers action answer → (after : State Store) → bind (first answer after) next ≡ second answer after)
      → (answers : List Answer) (state : State Store) → bind (answered context.headers action first answers state) next ≡ answered context.headers action second answers state
  answered-again action first second next same [] state = refl
  answered-again {A} {B} action first second next same (answer ∷ rest) state = by (is_answer context.headers action answer) refl
    where
      behind : State Store
      behind = record { store = state.store; world = record { answers = rest; actions = state.world.actions } }

      by : (test : Bool) → is_answer context.headers action answer ≡ test → bind (if test then first answer behind else Stops More state) next ≡ (if test then second answer behind else Stops More state)
      by true fits = same answer ((Decides-answer context.headers action answer).0 fits) behind
      by false fits = refl

  -- a value that is given is given
  given-again : (type : StaticType) (reply : Reply (Option Value)) → GivesKept context.headers type reply → (state : State Store) → bind (outside context.headers (then_on reply there) state) (λ one. pure (Some one)) ≡ outside context.headers reply state
  given-again type (Gives None) kept state = absurd kept
  given-again type (Gives (Some one)) kept state = refl
  given-again type (Halts stop) kept state = refl
  given-again type (Asks action next) kept state =
      answered-again action (λ answer. outside context.headers (then_on (next answer) there)) (λ answer. outside context.headers (next answer)) (λ one. pure (Some one))
      (λ answer fits after. given-again type (next answer) (kept answer fits) after) state.world.answers (acted action state)

  -- what gives nothing gives nothing
  pub nothing-again : (reply : Reply (Option Value)) → GivesNothing context.headers reply → (state : State Store) → outside context.headers reply state ≡ bind (outside context.headers reply state) (λ given. pure None)
  nothing-again (Gives None) gives state = refl
  nothing-again (Gives (Some one)) gives state = absurd gives
  nothing-again (Halts stop) gives state = refl
  nothing-again (Asks action next) gives state =
      sym (answered-again action (λ answer. outside context.headers (next answer)) (λ answer. outside context.headers (next answer)) (λ given. pure None)
      (λ answer fits after. sym (nothing-again (next answer) (gives answer ((Decides-answer context.headers action answer).1 fits)) after)) state.world.answers (acted action state))

  -- ---- expressions and statements

  module _ (world : List Header) (may : MayRun world context.headers) where
    pub node-by : (are : List Typed) (tos : List JType) → AllGo world are tos → (operation : List Value → Reply (Option Value)) (type : StaticType) (exp : Exp)
        → ((state : State Store) → AreOperands context scope (exps_of are) (types_of are) tos state → value context scope exp state ≡ bind (raw.operands context scope (exps_of are) state) (λ all. outside context.headers (then_on (operation all) there)))
        → ((all : List Value) → AreKept are all → GivesKept context.headers type (operation all)) → IsNode context scope operation are type exp
    node-by are tos go operation type exp law kept = record { means = λ state. by state (entries-are world context scope may are tos go state) }
      where
        given : List Value → State Store → Outcome Store Value
        given all = outside context.headers (then_on (operation all) there)

        some : Value → State Store → Outcome Store (Option Value)
        some one = pure (Some one)

        test : Value → State Store → Outcome Store Value
        test = checked context.headers type

        by : (state : State Store) → EntriesAreOperands context scope are tos state → Refines (bind (operands context scope are state) (λ all. outside context.headers (operation all))) (bind (entry context scope type exp state) (λ one. pure (Some one)))
        by state (inl is) = stuck-refines (operands context scope are state) (λ all. outside context.headers (operation all)) (bind (entry context scope type exp state) (λ one. pure (Some one))) is
        by state (inr found) =
            refines-is (sym (
            ap (λ run. bind (bind run test) some) (law state found.0 ∙ ap (λ run. bind run given) (sym found.1))
            ∙ ap (λ run. bind run some) (bind-bind (operands context scope are state) given test)
            ∙ bind-bind (operands context scope are state) (λ all after. bind (given all after) test) some
            ∙ bind-on (λ all after. AreKept are all) (operands context scope are state) (λ all after. bind (bind (given all after) test) some) (λ all. outside context.headers (operation all)) (kept-operands are state)
            (λ all after passed. ap (λ run. bind run some) (passes context.headers type (operation all) (kept all passed) after) ∙ given-again type (operation all) (kept all passed) after)))

    pub effect-by : (bound : ℕ) (are : List Typed) (tos : List JType) → AllGo world are tos → (operation : List Value → Reply (Option Value)) (statement : Stm)
        → ((all : List Value) (state : State Store) → outside context.headers (operation all) state ≡ bind (outside context.headers (operation all) state) (λ given. pure None))
        → ((state : State Store) → AreOperands context scope (exps_of are) (types_of are) tos state
        → run context scope bound Elsewhere statement state ≡ bind (raw.operands context scope (exps_of are) state) (λ all after. bind (outside context.headers (operation all) after) (λ dropped. Is Normal)))
        → IsEffect context bound scope operation are statement
    effect-by bound are tos go operation statement nothing law = record { nothing = nothing; means = λ state. by state (entries-are world context scope may are tos go state) }
      where
        by : (state : State Store) → EntriesAreOperands context scope are tos state → Refines (bind (bind (operands context scope are state) (λ all. outside context.headers (operation all))) (λ given. pure Normal)) (run context scope bound Elsewhere statement state)
        by state (inl is) =
            subst (λ first. Refines first (run context scope bound Elsewhere statement state)) (sym (bind-bind (operands context scope are state) (λ all. outside context.headers (operation all)) (λ given. pure Normal)))
            (stuck-refines (operands context scope are state) (λ all after. bind (outside context.headers (operation all) after) (λ given. pure Normal)) (run context scope bound Elsewhere statement state) is)
        by state (inr found) =
            refines-is (bind-bind (operands context scope are state) (λ all. outside context.headers (operation all)) (λ given. pure Normal)
            ∙ ap (λ first. bind first (λ all after. bind (outside context.headers (operation all) after) (λ dropped. Is Normal))) found.1 ∙ sym (law state found.0))
