-- Declarations at the head: they keep each rule that the list behind them keeps, and give their variables the first values.
use Rattle.std.proofs.Common.{arith, ℕ, ◌+◌, Bool, true, false, not, List, [], ◌∷◌, Option, Some, None, ◌≡◌, refl, sym, ap, ◌∙◌, subst, ◌&&◌, ◌||◌, ◌==◌}
use Rattle.std.specs.Prelude.{is_some, if◌then◌else◌}
use Rattle.std.proofs.lemmas.Bool.{and_parts, and_from, false≢true, eq-eqb}
use Rattle.dj_names.specs.Types.{JType}
use Rattle.dj_syntax.specs.declared.variable.Var.{Var}
use Rattle.dj_syntax.specs.NameText.{letter}
use Rattle.dj_syntax.specs.Trees.{Exp, Stm, Block, Labelled, Declare, Set, SetField, SetStatic, SetElement, Run, If, While, Switch, Return, Throw, Rethrow, Try, Synchronized, Construct, Do, For, Finally, Stms, Empty, And}
use Rattle.dj_syntax.specs.Trees as trees
use Rattle.dj_syntax.specs.Weight.{weight_of, weight_of_exp}
use Rattle.dj_values.specs.Values.{Value}
use Rattle.dj_values.specs.Outcomes.{State, Outcome, Is, Stops, bind, outside}
use Rattle.dj_meaning.specs.StaticTypes.{Context, Scope, is_same_variable, with_type}
use Rattle.dj_meaning.specs.Runs.{Store, Meaning, pure, stuck, ◌>>=◌, with, fitted, with_value, with_store, map_state, put, local, assigned}
use Rattle.dj_meaning.specs.Expressions.{value}
use Rattle.dj_meaning.specs.Completions.{Completion, Normal, Break, Continue, Return, Misfit, sequence}
use Rattle.dj_meaning.specs.Declarations.{declared, within, locally, opened, initialised}
use Rattle.dj_meaning.specs.Statements.{Place, First, Elsewhere}
use Rattle.dj_meaning.specs.Meaning.{run, run_then, run_all, run_statements}
use Rattle.dj_places.specs.Constants.{Surroundings}
use Rattle.dj_places.specs.Rules.{Holds}
use Rattle.dj_reach.specs.Reach as reaching
use Rattle.dj_reach.specs.Reach.{list_completes, list_reach}
use Rattle.dj_variables.specs.Sets as sets
use Rattle.dj_variables.specs.Sets.{everything, without}
use Rattle.dj_conditions.specs.Conditions.{after_exp}
use Rattle.dj_assigned.specs.Assigned.{list_reads}
use Rattle.dj_typed.specs.Statements.{Around, stm_types, list_types, all_types}
use Rattle.dj_held.specs.Running.{Running, context}
use Rattle.dj_formed.specs.Formed.{constants_of}
use Rattle.dj_declare.specs.Heads.{Head, headed, behind_heads, MayBegin, CanStand, begun, started, Begins, Start, without_variables, seen}
use Rattle.dj_held.proofs.AssignedSets.{Inside, without_more, reads_more, exp_grown}
use Rattle.dj_formed.proofs.Moved.{moved}

-- ---- rules

pub heads_reach : (site : reaching.Site) (p : ℕ) (heads : List Head) (list : Stms) → ((q : ℕ) → Holds (list_reach site true q list)) → Holds (list_reach site true p (headed heads list))
heads_reach site p [] list h = h p
heads_reach site p (first ∷ rest) list h = (refl, (tt, heads_reach site (p + weight_of (Declare first.variable first.type (Some first.initial))) rest list h))

pub heads_complete : (known : Surroundings) (heads : List Head) (list : Stms) → list_completes known (headed heads list) ≡ list_completes known list
heads_complete known [] list = refl
heads_complete known (first ∷ rest) list = heads_complete known rest list

pub heads_types : (around : Around) (scope : Scope) (p : ℕ) (heads : List Head) (list : Stms) → CanStand around.site scope heads → ((q : ℕ) → Holds (list_types around (behind_heads heads scope) q list)) → Holds (list_types around scope p (headed heads list))
heads_types around scope p [] list can h = h p
heads_types around scope p (first ∷ rest) list can h = (
  (can.0.is_new, (can.0.goes, moved around.site (with_type first.variable first.type scope) 0 (p + 1) first.initial can.0.types)),
  heads_types around (with_type first.variable first.type scope) (p + weight_of (Declare first.variable first.type (Some first.initial))) rest list can.1 h,
)

-- behind a declaration with a value nothing is less assigned
stays : (known : Surroundings) (variable : Var) (initial : Exp) (a : sets.Set) → Inside everything a → Inside everything (sets.with variable (after_exp known initial (without variable a)))
stays known variable initial a h = record { at = λ x e. go x (is_same_variable x variable) refl }
  where
    go : (x : Var) (same : Bool) → is_same_variable x variable ≡ same → (is_same_variable x variable || after_exp known initial (without variable a) x) ≡ true
    go x true e = ap (λ b. b || after_exp known initial (without variable a) x) e
    go x false e = ap (λ b. b || after_exp known initial (without variable a) x) e ∙ (exp_grown known (without variable a) initial).at x (and_from (not (is_same_variable x variable)) (a x) (ap not e) (h.at x refl))

pub heads_reads : (site : _) (scope : Scope) (p : ℕ) (heads : List Head) (list : Stms) (a : sets.Set) → CanStand site scope heads → Inside everything a → ((b : sets.Set) (q : ℕ) → Inside everything b → Holds (list_reads (constants_of site) b q list))
    → Holds (list_reads (constants_of site) a p (headed heads list))
heads_reads site scope p [] list a can i h = h a p i
heads_reads site scope p (first ∷ rest) list a can i h = (
  reads_more (constants_of site) 0 (p + 1) first.initial (without_more first.variable i) can.0.reads,
  heads_reads site (with_type first.variable first.type scope) (p + weight_of (Declare first.variable first.type (Some first.initial))) rest list (sets.with first.variable (after_exp (constants_of site) first.initial (without first.variable a))) can.1
      (stays (constants_of site) first.variable first.initial a i) h,
)

-- ---- the first statement of a body

-- what keeps the rules elsewhere keeps them at the beginning
first_types : (around : Around) (scope : Scope) (p : ℕ) (statement : Stm) → Holds (stm_types around Elsewhere scope p statement) → Holds (stm_types around First scope p statement)
first_types around scope p (Block list) t = t
first_types around scope p (Labelled label statement) t = t
first_types around scope p (Declare variable kind initial) t = t
first_types around scope p (Set variable new) t = t
first_types around scope p (SetField object name new) t = t
first_types around scope p (SetStatic class name new) t = t
first_types around scope p (SetElement array index new) t = t
first_types around scope p (Run call) t = t
first_types around scope p (If test first second) t = t
first_types around scope p (While test body) t = t
first_types around scope p (Switch on groups) t = t
first_types around scope p (trees.Break label) t = t
first_types around scope p (trees.Continue label) t = t
first_types around scope p (Return value) t = t
first_types around scope p (Throw exception) t = t
first_types around scope p (Rethrow variable) t = t
first_types around scope p (Try body clauses) t = t
first_types around scope p (Synchronized monitor body) t = t
first_types around scope p (Construct own arguments) t = absurd (false≢true t.0)
first_types around scope p (Do body test) t = t
first_types around scope p (For test variable step body) t = t
first_types around scope p (Finally body last) t = t

pub all_from_list : (around : Around) (scope : Scope) (list : Stms) → Holds (list_types around scope 0 list) → Holds (all_types around scope list)
all_from_list around scope Empty t = tt
all_from_list around scope (And first rest) t =
    let same : 0 + weight_of first ≡ weight_of first = omega arith in
    (first_types around scope 0 first t.0, subst (λ place. Holds (list_types around (within (declared first) scope) place rest)) same t.1)

-- what keeps the rules elsewhere runs at the beginning as it does there
first_run : (around : Around) (now : Context) (scope inner : Scope) (bound p : ℕ) (statement : Stm) → Holds (stm_types around Elsewhere scope p statement) → run now inner bound First statement ≡ run now inner bound Elsewhere statement
first_run around now scope inner bound p (Block list) t = refl
first_run around now scope inner bound p (Labelled label statement) t = refl
first_run around now scope inner bound p (Declare variable kind initial) t = refl
first_run around now scope inner bound p (Set variable new) t = refl
first_run around now scope inner bound p (SetField object name new) t = refl
first_run around now scope inner bound p (SetStatic class name new) t = refl
first_run around now scope inner bound p (SetElement array index new) t = refl
first_run around now scope inner bound p (Run call) t = refl
first_run around now scope inner bound p (If test first second) t = refl
first_run around now scope inner bound p (While test body) t = refl
first_run around now scope inner bound p (Switch on groups) t = refl
first_run around now scope inner bound p (trees.Break label) t = refl
first_run around now scope inner bound p (trees.Continue label) t = refl
first_run around now scope inner bound p (Return None) t = refl
first_run around now scope inner bound p (Return (Some value)) t = refl
first_run around now scope inner bound p (Throw exception) t = refl
first_run around now scope inner bound p (Rethrow variable) t = refl
first_run around now scope inner bound p (Try body clauses) t = refl
first_run around now scope inner bound p (Synchronized monitor body) t = refl
first_run around now scope inner bound p (Construct own arguments) t = absurd (false≢true t.0)
first_run around now scope inner bound p (Do body test) t = refl
first_run around now scope inner bound p (For test variable step body) t = refl
first_run around now scope inner bound p (Finally body last) t = refl

pub statements_as_list : (around : Around) (now : Context) (scope inner : Scope) (bound p : ℕ) (list : Stms) → Holds (list_types around scope p list) → run_statements now inner bound list ≡ run_all now inner bound list
statements_as_list around now scope inner bound p Empty t = refl
statements_as_list around now scope inner bound p (And first rest) t =
    ap (λ part. locally (declared first) (part >>= sequence (run_all now (within (declared first) inner) bound rest))) (first_run around now scope inner bound p first t.0)

-- ---- what is shown

seen_mapped : {A : Type 0} (variable : Var) (found : Option Value) (run : Outcome Store A) → seen (map_state (with_store (with_value variable found)) run) ≡ seen run
seen_mapped variable found (Is result state) = refl
seen_mapped variable found (Stops why state) = refl

pub same_variable : (variable : Var) → is_same_variable variable variable ≡ true
same_variable variable = and_from _ _ (eq-eqb (letter variable.kind) (letter variable.kind) refl) (eq-eqb variable.number variable.number refl)

pub own_type : (scope : Scope) (variable : Var) (type : JType) → with_type variable type scope variable ≡ Some type
own_type scope variable type = ap (λ (same : Bool). if same then Some type else scope variable) (same_variable variable)

module _ (now : Context) (bound : ℕ) where
  head_runs : (scope : Scope) (head : Head) (one : Value) (state : State Store) → Begins now scope head one state
      → run now scope bound Elsewhere (Declare head.variable head.type (Some head.initial)) state ≡ Is Normal (begun head.variable one state)
  head_runs scope head one state b =
      ap (λ (there : Bool). bind ((if there then stuck else put head.variable None) state) (λ done. initialised now (with_type head.variable head.type scope) head.variable (Some head.initial))) b.is_new
      ∙ ap (λ found. bind (with found (λ type. value now (with_type head.variable head.type scope) head.initial >>= fitted now.headers type >>= λ kept. put head.variable (Some kept) >>= λ done. pure kept) (with_store (with_value head.variable None) state)) (λ kept. pure Normal))
      (own_type scope head.variable head.type)
      ∙ ap (λ outcome. bind (bind (bind outcome (fitted now.headers head.type)) (λ kept. put head.variable (Some kept) >>= λ done. pure kept)) (λ kept. pure Normal)) b.evaluates
      ∙ ap (λ reply. bind (bind (outside now.headers reply (with_store (with_value head.variable None) state)) (λ kept. put head.variable (Some kept) >>= λ done. pure kept)) (λ kept. pure Normal)) b.converts

  pub heads_run : (scope : Scope) (heads : List Head) (given : List Value) (list : Stms) (state : State Store) → Start now scope heads given state
      → seen (run_all now scope bound (headed heads list) state) ≡ seen (run_all now (behind_heads heads scope) bound list (started heads given state))
  heads_run scope [] given list state s = refl
  heads_run scope (first ∷ rest) [] list state s = absurd s
  heads_run scope (first ∷ rest) (one ∷ given) list state s =
      seen_mapped first.variable (state.store.variables first.variable)
      ((run now scope bound Elsewhere (Declare first.variable first.type (Some first.initial)) >>= sequence (run_all now (with_type first.variable first.type scope) bound (headed rest list))) state)
      ∙ ap (λ outcome. seen (bind outcome (sequence (run_all now (with_type first.variable first.type scope) bound (headed rest list))))) (head_runs scope first one state s.0)
      ∙ heads_run (with_type first.variable first.type scope) rest given list (begun first.variable one state) s.1
