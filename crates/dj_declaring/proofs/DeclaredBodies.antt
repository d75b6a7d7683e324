-- The body that is made of a tree is typed, and shows what the tree shows.
use Rattle.std.proofs.Common.{ℕ, ◌≤◌, Bool, true, false, not, List, [], Option, Some, None, ◌≡◌, refl, sym, ap, ◌∙◌, subst, ◌&&◌}
use Rattle.std.specs.Prelude.{if◌then◌else◌, length, is_some, slice_get}
use Rattle.std.proofs.lemmas.Bool.{and_parts, false≢true}
use Rattle.std.proofs.lemmas.List.{take_all}
use Rattle.dj_names.specs.declared.header.Header.{Header}
use Rattle.dj_names.specs.declared.members.ClassMembers.{ClassMembers}
use Rattle.dj_names.specs.MethodNames.{is_constructor}
use Rattle.dj_names.specs.Types.{JType, parameters_of, result_of}
use Rattle.dj_syntax.specs.declared.variable.VarKind.{VarKind}
use Rattle.dj_syntax.specs.declared.variable.VarKind.TheVariants as kind
use Rattle.dj_syntax.specs.declared.variable.Var.{Var}
use Rattle.dj_syntax.specs.Trees.{Exps, Stm, Block, Labelled, Declare, Set, SetField, SetStatic, SetElement, Run, If, While, Switch, Return, Throw, Rethrow, Try, Synchronized, Construct, Do, For, Finally, Stms, Empty, And, Body}
use Rattle.dj_syntax.specs.Trees as trees
use Rattle.dj_syntax.specs.UnitText.{is_initialiser}
use Rattle.dj_values.specs.Values.{Value, Answer, Show}
use Rattle.dj_values.specs.Fits.{is_static, behind_this}
use Rattle.dj_values.specs.Outcomes.{State, Outcome, Is, bind, shown}
use Rattle.dj_meaning.specs.StaticTypes.{Context, Scope}
use Rattle.dj_meaning.specs.Runs.{Store, Meaning, pure, ◌>>=◌}
use Rattle.dj_meaning.specs.Completions.{Completion, Normal, sequence}
use Rattle.dj_meaning.specs.Statements.{First}
use Rattle.dj_meaning.specs.Variables.{EachInExps, EachInStms}
use Rattle.dj_meaning.specs.Meaning.{run, run_all, run_statements, of_parameter, ended, context_of, entered, source_show}
use Rattle.dj_places.specs.Constants.{Surroundings}
use Rattle.dj_places.specs.Surroundings.{around_body}
use Rattle.dj_places.specs.Rules.{Holds}
use Rattle.dj_reach.specs.Reach as reaching
use Rattle.dj_reach.specs.Bodies.{site_of}
use Rattle.dj_declare.specs.ThrownBodies.{scope_in, body_thrown}
use Rattle.dj_variables.specs.Sets.{everything}
use Rattle.dj_declare.specs.Assigned.{list_reads}
use Rattle.dj_typing.specs.Expressions.{exps_types}
use Rattle.dj_declare.specs.Bodies.{Writing, site_in, around_in, IsTyped}
use Rattle.dj_declare.specs.Statements.{Around, without_this, list_types}
use Rattle.dj_declare.specs.Running.{IsInOrder}
use Rattle.dj_declare.specs.Formed.{IsFormed, CallIsFormed, constants_of}
use Rattle.dj_declare.proofs.Alike.{unnamed_variables_dont_count}
use Rattle.dj_declare.proofs.RunsAlike.{run_alike, unnamed_variables_dont_act}
use Rattle.dj_declare.proofs.StatesAlike.{unnamed_values_dont_show}
use Rattle.dj_declare.specs.Laws.{AreOrdered, running_in}
use Rattle.dj_declare.specs.Breaking.{list_lacks}
use Rattle.dj_declare.specs.Escapes.{HaveNoTry}
use Rattle.dj_declare.specs.Heads.{Head, headed, behind_heads, CanStand, started, Start}
use Rattle.dj_declare.specs.Starts.{Occur}
use Rattle.dj_declare.specs.Lawful.{all_lawful}
use Rattle.dj_declare.specs.Declared.{left_out, without_last, made_body, tree_show}
use Rattle.dj_declare.specs.Constructors.{made_constructor, StartBehind}
use Rattle.dj_declare.specs.Initialisers.{under_label, wrapped, made_initialiser}
use Rattle.dj_declare.proofs.Heads.{statements_as_list}
use Rattle.dj_declare.proofs.Ends.{left_types, left_reads, left_runs}
use Rattle.dj_declare.proofs.Named.{exps_named}
use Rattle.dj_declare.proofs.Initialisers.{initialiser_typed, initialiser_shows, under_label_does}
use Rattle.dj_declare.proofs.Starts.{typed_from_graph, shows_from_graph, constructor_typed_from_graph, constructor_shows_from_graph}
use Rattle.dj_declaring.specs.declared.entry.Entry.{Entry}
use Rattle.dj_declaring.specs.Entries.{parameter}
use Rattle.dj_declaring.specs.Occurring.{covers}
use Rattle.dj_declaring.specs.Starting.{tree_scope, found_in, heads_for, held_for, first_state, IsGiven}
use Rattle.dj_declaring.proofs.Heading.{heads_may_stand, heads_give_types, heads_begin, heads_give_values}
use Rattle.dj_declaring.specs.Returning.{call_in, opening_call, behind_call, list_has_return, not_returning}
use Rattle.dj_declaring.specs.Declaring.{body_with, declared_body, IsFormedBehind, IsReady, DeclareIsTyped, DeclareShows}
use Rattle.dj_declaring.proofs.Calling.{call_stays}
use Rattle.dj_declaring.proofs.Ordering.{list_ordered, last_quiet, behind_quiet, each_behind}

-- ---- static initialisers

-- a list that keeps the rules and has no return, and does what a tree does
pub record DoesAsWell (around : Around) (scope : Scope) (tree list : Stms) : Type 0 where
  pub types : Holds (list_types around scope 0 list)
  pub reads : Holds (list_reads (constants_of around.site) everything 0 list)
  pub ordered : AreOrdered (record { around = constants_of around.site; may_return = false }) list
  pub runs : (now : Context) (inner : Scope) (bound : ℕ) → now.result ≡ None → (run_all now inner bound list >>= ended now.result) ≡ (run_all now inner bound tree >>= ended now.result)

not_returning_does : (around : Around) (scope : Scope) (own : ℕ) (tree : Stms) → around.result ≡ None → around.targets ≡ [] → list_lacks own tree ≡ true → HaveNoTry tree → IsFormed around scope tree
    → DoesAsWell around scope tree (not_returning own tree)
not_returning_does around scope own tree none targets lacks quiet formed = go (list_has_return (without_last tree)) refl
  where
    go : (returns : Bool) → list_has_return (without_last tree) ≡ returns → DoesAsWell around scope tree (if returns then under_label own (without_last tree) else without_last tree)
    go true e =
        let does = under_label_does around scope own tree none targets lacks formed (list_ordered (record { around = constants_of around.site; may_return = true }) tree quiet (λ r. refl)) in
        record { types = does.0; reads = does.1; ordered = does.2; runs = does.3 }
    go false e = record {
      types = left_types around scope 0 None tree formed.types;
      reads = left_reads (constants_of around.site) everything 0 None tree formed.reads;
      ordered = list_ordered (record { around = constants_of around.site; may_return = false }) (without_last tree) (last_quiet tree quiet) (λ r. absurd (false≢true (sym e ∙ r)));
      runs = λ now inner bound no_result. left_runs now inner bound None tree no_result;
    }

-- ---- calls

-- a variable in scope as a body begins is a parameter, of the same type in the graph's scope
same_in_graph : (parameters kinds : List JType) (variable : Var) → is_some (of_parameter parameters variable) ≡ true → tree_scope parameters kinds variable ≡ of_parameter parameters variable
same_in_graph parameters kinds variable = go variable.kind variable.number
  where
    go : (one : VarKind) (number : ℕ) → is_some (of_parameter parameters (record { kind = one; number = number })) ≡ true
        → tree_scope parameters kinds (record { kind = one; number = number }) ≡ of_parameter parameters (record { kind = one; number = number })
    go kind.Param number there = refl
    go kind.Local number there = absurd (false≢true there)
    go kind.Caught number there = absurd (false≢true there)
    go kind.State number there = absurd (false≢true there)

-- a tree that begins with a call is that and what is behind
pub with_call : (tree : Stms) (own : Bool) (arguments : Exps) → opening_call tree ≡ Some (own, arguments) → tree ≡ And (Construct own arguments) (behind_call tree)
with_call Empty own arguments e = absurd cc
with_call (And first rest) own arguments e = ap (λ one. And one rest) (is_call first e)
  where
    is_call : (statement : Stm) → call_in statement ≡ Some (own, arguments) → statement ≡ Construct own arguments
    is_call (Block list) e = absurd cc
    is_call (Labelled label statement) e = absurd cc
    is_call (Declare variable kind initial) e = absurd cc
    is_call (Set variable new) e = absurd cc
    is_call (SetField object name new) e = absurd cc
    is_call (SetStatic class name new) e = absurd cc
    is_call (SetElement array index new) e = absurd cc
    is_call (Run call) e = absurd cc
    is_call (If test first second) e = absurd cc
    is_call (While test body) e = absurd cc
    is_call (Switch on groups) e = absurd cc
    is_call (trees.Break label) e = absurd cc
    is_call (trees.Continue label) e = absurd cc
    is_call (Return value) e = absurd cc
    is_call (Throw exception) e = absurd cc
    is_call (Rethrow variable) e = absurd cc
    is_call (Try body clauses) e = absurd cc
    is_call (Synchronized monitor body) e = absurd cc
    is_call (Construct this given) e = ap (λ (call : Option (Bool × Exps)). from call) e
      where
        from : Option (Bool × Exps) → Stm
        from None = Construct own arguments
        from (Some call) = Construct call.0 call.1
    is_call (Do body test) e = absurd cc
    is_call (For test variable step body) e = absurd cc
    is_call (Finally body last) e = absurd cc

-- ---- the laws

module _ (headers : List Header) (members : List ClassMembers) (writing : Writing) (method : Body) (kinds : List JType) (entry : Entry) (own : ℕ) (tree : Stms)
    (ready : IsReady headers members writing method kinds entry own tree) where
  abbrev known : Surroundings
  known = around_body headers members method

  abbrev parameters : List JType
  parameters = parameters_of method.descriptor

  abbrev graph : Scope
  graph = tree_scope parameters kinds

  abbrev heads : List Head
  heads = heads_for kinds parameters entry tree

  abbrev around : Around
  around = around_in writing headers members method

  same : scope_in method ≡ of_parameter parameters
  same = ap of_parameter (take_all 4294967295 parameters ready.few)

  can : CanStand (site_in writing headers members method) (scope_in method) heads
  can = subst (λ scope. CanStand (site_in writing headers members method) scope heads) (sym same) (heads_may_stand (site_in writing headers members method) parameters kinds entry tree ready.enters)

  occur : Occur graph (scope_in method) heads tree
  occur = subst (λ scope. Occur graph scope heads tree) (sym same) (heads_give_types parameters kinds entry tree)

  -- a tree that is formed in the graph's scope is so behind the heads
  behind_them : IsFormed around graph tree → IsFormed around (behind_heads heads (scope_in method)) tree
  behind_them formed = record {
    types = subst Holds (unnamed_variables_dont_count around graph (behind_heads heads (scope_in method)) 0 tree occur) formed.types;
    reads = formed.reads;
    ends = formed.ends;
  }

  -- what is made of a static initialiser's tree
  does : is_initialiser method.name ≡ true → IsFormed around graph tree → DoesAsWell around (behind_heads heads (scope_in method)) tree (not_returning own tree)
  does initialiser formed = not_returning_does around (behind_heads heads (scope_in method)) own tree (ready.initialises initialiser) refl ready.lacks ready.quiet (behind_them formed)

  initialiser_is_typed : is_initialiser method.name ≡ true → is_constructor method.name ≡ false → IsFormed around graph tree → Holds (body_thrown headers members (made_initialiser known method heads (not_returning own tree)))
      → IsTyped headers members (made_initialiser known method heads (not_returning own tree))
  initialiser_is_typed initialiser constructor formed thrown =
      let well = does initialiser formed in
      initialiser_typed headers members method writing heads (not_returning own tree) ready.right ready.named constructor (ready.initialises initialiser) can well.types well.reads
      (subst (λ (initialises : Bool). AreOrdered (record { around = known; may_return = not initialises }) (not_returning own tree)) (sym initialiser) well.ordered) thrown

  method_is_typed : is_initialiser method.name ≡ false → is_constructor method.name ≡ false → IsFormed around graph tree → Holds (body_thrown headers members (made_body known method heads tree)) → IsTyped headers members (made_body known method heads tree)
  method_is_typed initialiser constructor formed thrown =
      typed_from_graph headers members method writing graph heads tree ready.right ready.named constructor initialiser can formed occur
      (list_ordered (site_of headers members method) tree ready.quiet (λ r. ap not initialiser)) thrown

  -- the statements behind the head, given whether they are those of a static initialiser
  abbrev list_so : Bool → Stms
  list_so initialises = if initialises then wrapped known (all_lawful known (not_returning own tree)) else left_out (result_of method.descriptor) (all_lawful known tree)

  is_typed : (call : Option (Bool × Exps)) → IsFormedBehind headers members writing method kinds tree call → Holds (body_thrown headers members (body_with known method heads own tree call)) → IsTyped headers members (body_with known method heads own tree call)
  is_typed None formed thrown = by_name (is_initialiser method.name) refl thrown
    where
      by_name : (initialises : Bool) → is_initialiser method.name ≡ initialises
          → Holds (body_thrown headers members (record method { statements = headed heads (list_so initialises) }))
          → IsTyped headers members (record method { statements = headed heads (list_so initialises) })
      by_name true e thrown = initialiser_is_typed e formed.0 formed.1 thrown
      by_name false e thrown = method_is_typed e formed.0 formed.1 thrown
  is_typed (Some call) formed thrown =
      constructor_typed_from_graph headers members method writing graph call.0 call.1 heads (behind_call tree) ready.right ready.named (ready.constructs (and_parts (is_constructor method.name) _ formed.0.0).0) formed.1 formed.0 can formed.2
      (each_behind _ tree occur) (list_ordered (site_of headers members method) (behind_call tree) (behind_quiet tree ready.quiet) (λ r. ap not formed.1)) thrown

  -- ---- what is shown

  module _ (wider : List Header) (arguments : List Value) (answers : List Answer) (bound : ℕ)
      (order : IsInOrder (running_in wider (context_of wider members method arguments).this (around_in writing headers members method)))
      (given : IsGiven wider method.class (parameters_of method.descriptor) entry (context_of wider members method arguments).this (behind_this (is_static method.flags) arguments)) where
    abbrev now : Context
    now = context_of wider members method arguments

    abbrev values : List Value
    values = behind_this (is_static method.flags) arguments

    abbrev held : List Value
    held = held_for kinds now.this values entry tree

    abbrev begun : State Store
    begun = entered values answers

    abbrev first : State Store
    first = first_state kinds now.this values entry answers

    begins : (state : State Store) → ((place : ℕ) → state.store.variables (parameter place) ≡ slice_get values place) → Start now (of_parameter parameters) heads held state
    begins state holds = heads_begin (site_in writing headers members method) now parameters kinds entry values tree state ready.enters given holds

    abbrev named : Var → Bool
    named = covers (found_in kinds tree)

    -- what the tree shows in the graph's scope
    abbrev shows_so : Body → Type 0
    shows_so body = source_show wider members body arguments answers bound ≡ shown ((run_statements now graph bound tree >>= ended (result_of method.descriptor)) first)

    as_list : IsFormed around graph tree → tree_show now graph bound tree first ≡ shown ((run_statements now graph bound tree >>= ended (result_of method.descriptor)) first)
    as_list formed = ap (λ part. shown (bind (part first) (ended (result_of method.descriptor)))) (sym (statements_as_list around now graph graph bound 0 tree formed.types))

    method_shows : IsFormed around graph tree → shows_so (made_body known method heads tree)
    method_shows formed =
        let values_given = heads_give_values parameters kinds entry now.this values answers tree in
        shows_from_graph headers wider members method writing graph heads held tree arguments answers bound order ready.few can formed occur (begins begun (λ place. refl)) named first values_given.0 values_given.1
        ∙ as_list formed

    initialiser_shows_so : is_initialiser method.name ≡ true → IsFormed around graph tree → shows_so (made_initialiser known method heads (not_returning own tree))
    initialiser_shows_so initialiser formed =
        let well = does initialiser formed in
        let values_given = heads_give_values parameters kinds entry now.this values answers tree in
        let behind : Scope = behind_heads heads (of_parameter parameters) in
        initialiser_shows headers wider members method writing heads held (not_returning own tree) arguments answers bound order ready.few can well.types (begins begun (λ place. refl))
        ∙ ap (λ (part : Meaning (Option Value)). shown (part (started heads held begun))) (well.runs now behind bound (ready.initialises initialiser))
        ∙ ap (λ part. shown (bind (part (started heads held begun)) (ended (result_of method.descriptor)))) (sym (unnamed_variables_dont_act now graph behind bound tree (pure Normal) (heads_give_types parameters kinds entry tree)))
        ∙ unnamed_values_dont_show named now graph bound tree values_given.0 (started heads held begun) first values_given.1
        ∙ as_list formed

    -- the call runs alike in the scope of the graph
    call_alike : (one : Bool) (given : Exps) → CallIsFormed around (scope_in method) (Some (one, given)) → run now graph bound First (Construct one given) ≡ run now (of_parameter parameters) bound First (Construct one given)
    call_alike one given formed =
        run_alike now bound graph (of_parameter parameters) First (Construct one given)
        (exps_named (λ variable. graph variable ≡ of_parameter parameters variable) (without_this (site_in writing headers members method)) (of_parameter parameters) (same_in_graph parameters kinds) 0 given
        (subst (λ scope. Holds (exps_types (without_this (site_in writing headers members method)) scope 0 given)) same formed.1.0))

    constructor_shows_so : (call : Bool × Exps) → opening_call tree ≡ Some call → IsFormedBehind headers members writing method kinds tree (Some call) → shows_so (made_constructor known method call.0 call.1 heads (behind_call tree))
    constructor_shows_so call e formed =
        let values_given = heads_give_values parameters kinds entry now.this values answers tree in
        let opened : tree ≡ And (Construct call.0 call.1) (behind_call tree) = with_call tree call.0 call.1 e in
        let naming : EachInExps (λ variable. named variable ≡ true) call.1 × EachInStms (λ variable. named variable ≡ true) (behind_call tree) = subst (EachInStms (λ variable. named variable ≡ true)) opened values_given.0 in
        let behind : StartBehind now (of_parameter parameters) bound call.0 call.1 heads held begun = record {
          first = begins begun (λ place. refl);
          later = λ after ends. begins after (λ place. ap (λ variables. variables (parameter place)) (call_stays now (of_parameter parameters) bound call.0 call.1 formed.3 begun after ends));
        } in
        constructor_shows_from_graph headers wider members method writing graph call.0 call.1 heads held (behind_call tree) arguments answers bound order ready.few
        (ready.constructs (and_parts (is_constructor method.name) _ formed.0.0).0) formed.0 can formed.2 (each_behind _ tree occur) behind named first naming.0 naming.1 values_given.1
        ∙ ap (λ part. shown (bind (bind (part first) (sequence (run_all now graph bound (behind_call tree)))) (ended (result_of method.descriptor)))) (sym (call_alike call.0 call.1 formed.0))
        ∙ ap (λ list. shown ((run_statements now graph bound list >>= ended (result_of method.descriptor)) first)) (sym opened)

    is_shown : (call : Option (Bool × Exps)) → opening_call tree ≡ call → IsFormedBehind headers members writing method kinds tree call → shows_so (body_with known method heads own tree call)
    is_shown None e formed = by_name (is_initialiser method.name) refl
      where
        by_name : (initialises : Bool) → is_initialiser method.name ≡ initialises → shows_so (record method { statements = headed heads (list_so initialises) })
        by_name true t = initialiser_shows_so t formed.1
        by_name false t = method_shows formed.1
    is_shown (Some call) e formed = constructor_shows_so call e formed

pub declare_typed : DeclareIsTyped
declare_typed headers members writing method kinds entry own tree ready thrown = is_typed headers members writing method kinds entry own tree ready (opening_call tree) ready.formed thrown

pub declare_shows : DeclareShows
declare_shows headers wider members writing method kinds entry own tree arguments answers bound ready order given =
    is_shown headers members writing method kinds entry own tree ready wider arguments answers bound order given (opening_call tree) refl ready.formed
