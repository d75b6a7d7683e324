-- A body that comes from code by a graph shows what the code shows.
use Rattle.std.proofs.Common.{◌≡◌, ◌≢◌, inl, ℕ, zero, suc, ◌*◌, Bool, true, false, List, [], ◌∷◌, length, Option, Some, None, refl, sym, ap, ◌∙◌, subst, arith}
use Rattle.std.specs.Prelude.{if◌then◌else◌, slice_get, slice_index_or}
use Rattle.dj_graph.specs.declared.graph.Catcher.{Catcher}
use Rattle.dj_names.specs.declared.header.Header.{Header}
use Rattle.dj_names.specs.declared.members.ClassMembers.{ClassMembers}
use Rattle.dj_names.specs.Headers.{Name}
use Rattle.dj_names.specs.Types.{JType, parameters_of}
use Rattle.dj_syntax.specs.Trees.{Body, Stms}
use Rattle.dj_values.specs.Values.{RefValue, Value, Int, Long, Null, Ref, Answer, Show, IsBelow}
use Rattle.dj_values.specs.Fits.{AreArguments, is_static, this_of}
use Rattle.dj_values.specs.Outcomes.{Throws, More, Stuck, State, Outcome, Is, Stops, bind, opening, shown, IsFront, actions_of}
use Rattle.dj_values.proofs.Growth.{rises-bind}
use Rattle.dj_code.specs.MethodCode.{Code}
use Rattle.dj_meaning.specs.StaticTypes.{Context, Scope}
use Rattle.dj_meaning.specs.Runs.{Store, Meaning, pure, put, ◌>>=◌}
use Rattle.dj_meaning.specs.Completions.{Completion, Normal, Break, Continue, Return, Misfit, handled}
use Rattle.dj_meaning.specs.Monitors.{HoldsStill}
use Rattle.dj_meaning.specs.Ways.{all_ways, EndsSo}
use Rattle.dj_meaning.specs.Statements.{First}
use Rattle.dj_meaning.specs.Meaning.{ended, context_of, source_show}
use Rattle.dj_meaning.proofs.Steady.{steady-all, steady-statements}
use Rattle.dj_meaning.proofs.EndingTrees.{ends-statements}
use Rattle.dj_graph.specs.Flows as flows
use Rattle.dj_graph.specs.Flows.{Flow, less_one, if_left, go}
use Rattle.dj_graph.specs.Graphs.{Node, Graph, node_at}
use Rattle.dj_graph.specs.GraphRuns.{local_variable, takes, run_tree, place_of, left, sent_on, sent_by, closed, around, gate, node_run, flow, Limits, graph_run, graph_show}
use Rattle.dj_graph.specs.Keeping.{seldom}
use Rattle.dj_graph.proofs.Gates.{gate-idle}
use Rattle.dj_graph.proofs.Rising.{at-first, at-elsewhere, rises-tree, rises-flow}
use Rattle.dj_bytecode.specs.Machine.{Locals, local_slots, code_from, steps, first_locals, bytecode_show}
use Rattle.dj_bytecode.specs.SameShows.{MayRun, AreArgumentsOf}
use Rattle.dj_typed_states.specs.Facts.{classes}
use Rattle.dj_sound.specs.States.{table_of, Stands, IsStrict, RunsStrictly}
use Rattle.dj_sound.proofs.Runs.{begins_strictly, stands_shaped}
use Rattle.dj_blocks.specs.Blocks.{block}
use Rattle.dj_blocks.proofs.Blocks.{entered_seldom}
use Rattle.dj_vars.specs.Slots.{slot_value}
use Rattle.dj_vars.specs.Agreeing.{IsKept}
use Rattle.dj_vars.proofs.Holding.{named-holds}
use Rattle.dj_blocks_shown.specs.Leaving.{Parts, is_start, Meets, Leaves}
use Rattle.dj_blocks_shown.specs.Keeping.{KeepsTurns}
use Rattle.dj_blocks_shown.specs.Composing.{ShowsBlocks, Seldom, IsTree, Begins, runs_of, IsMadeOf, FewTurns, BodyShowsCode, TidiedShow, TidiedFew}
use Rattle.dj_blocks_shown.proofs.Catching.{catchers_show}
use Rattle.dj_blocks_shown.proofs.Composing.{cut-below, is-below-trans, rises-ended, composes-forth, composes-back}

-- ---- nodes that stand alone

tree-steady : (context : Context) (scope : Scope) (turns number : ℕ) (list : Stms) (state : State Store) → HoldsStill state.store.held (run_tree context scope turns (place_of number) list state)
tree-steady context scope turns zero list state = subst (λ (part : Meaning Completion). HoldsStill state.store.held (part state)) (sym (at-first context scope turns list)) ((steady-statements context scope turns list).steady state)
tree-steady context scope turns (suc number) list state = subst (λ (part : Meaning Completion). HoldsStill state.store.held (part state)) (sym (at-elsewhere context scope turns list)) ((steady-all context scope turns list).steady state)

-- where no monitor is held, none is left behind a node
left-idle : (context : Context) (run : Outcome Store Completion) → HoldsStill [] run → left context.headers run ≡ run
left-idle context (Is Normal state) held = refl
left-idle context (Is (Break label) state) held = refl
left-idle context (Is (Continue label) state) held = refl
left-idle context (Is (Return result) state) held = rw held refl
left-idle context (Is Misfit state) held = refl
left-idle context (Stops (Throws reference) state) held = rw held refl
left-idle context (Stops More state) held = refl
left-idle context (Stops Stuck state) held = refl

tree-held : (context : Context) (scope : Scope) (turns number : ℕ) (list : Stms) (state : State Store) → state.store.held ≡ [] → HoldsStill [] (run_tree context scope turns (place_of number) list state)
tree-held context scope turns number list state free = subst (λ held. HoldsStill held (run_tree context scope turns (place_of number) list state)) free (tree-steady context scope turns number list state)

sent-holds : (headers : List Header) (catchers : List Catcher) (numbers : List ℕ) (reference : RefValue) (state : State Store) → state.store.held ≡ [] → HoldsStill [] (sent_by headers catchers numbers reference state)
sent-holds headers catchers [] reference state held = held
sent-holds headers catchers (number ∷ rest) reference state held = by (sent-holds headers catchers rest reference state held) (slice_get catchers number)
  where
    on : HoldsStill [] (sent_by headers catchers rest reference state) → (catcher : Catcher) (test : Bool)
        → HoldsStill [] ((if test then (put (local_variable catcher.variable) (Some (Ref reference)) >>= λ done. pure (Break catcher.target)) else sent_by headers catchers rest reference) state)
    on later catcher true = held
    on later catcher false = later

    by : HoldsStill [] (sent_by headers catchers rest reference state) → (found : Option Catcher) → HoldsStill [] (sent_on headers found (sent_by headers catchers rest) reference state)
    by later None = later
    by later (Some catcher) = on later catcher (takes headers catcher.class reference)

handled-holds : (headers : List Header) (catchers : List Catcher) (numbers : List ℕ) (run : Outcome Store Completion) → HoldsStill [] run → HoldsStill [] (handled (sent_by headers catchers numbers) run)
handled-holds headers catchers numbers (Is completion state) held = held
handled-holds headers catchers numbers (Stops (Throws reference) state) held = sent-holds headers catchers numbers reference state held
handled-holds headers catchers numbers (Stops More state) held = tt
handled-holds headers catchers numbers (Stops Stuck state) held = tt

-- a node without monitors runs its tree, and its catchers behind that
node-runs : (context : Context) (scope : Scope) (graph : Graph) (turns number : ℕ) (node : Node) → node_at graph number ≡ Some node → node.monitors ≡ [] → (state : State Store) → state.store.held ≡ []
    → flow context scope graph turns number state ≡ handled (sent_by context.headers graph.catchers node.handlers) (run_tree context scope turns (place_of number) node.tree state)
node-runs context scope graph turns number node there free state held =
    let tree = run_tree context scope turns (place_of number) node.tree in
    ap (λ found. node_run context scope graph.catchers turns (place_of number) found state) there
    ∙ ap (λ monitors. around (gate context.headers monitors) (closed context.headers graph.catchers node.handlers) tree state) free
    ∙ ap (λ run. bind run (λ done here. closed context.headers graph.catchers node.handlers (tree here))) (gate-idle context.headers [] state (ap length held))
    ∙ left-idle context (handled (sent_by context.headers graph.catchers node.handlers) (tree state))
    (handled-holds context.headers graph.catchers node.handlers (tree state) (tree-held context scope turns number node.tree state held))

-- ---- a graph of one tree

stays : (list : Stms) (run : Outcome Store Completion) (next : ℕ → Meaning Completion) → ((label : ℕ) → (all_ways list).jumps label ≡ false) → EndsSo (all_ways list) run → bind run (flows.onward next) ≡ run
stays list (Is Normal state) next closed ends = refl
stays list (Is (Break label) state) next closed ends = absurd (no (sym ends ∙ closed label))
  where
    no : true ≡ false → ⊥
    no e = cc
stays list (Is (Continue label) state) next closed ends = refl
stays list (Is (Return result) state) next closed ends = refl
stays list (Is Misfit state) next closed ends = refl
stays list (Stops why state) next closed ends = refl

tree-ends : (context : Context) (scope : Scope) (turns : ℕ) (list : Stms) (state : State Store) → EndsSo (all_ways list) (run_tree context scope turns First list state)
tree-ends context scope turns list state = subst (λ (part : Meaning Completion). EndsSo (all_ways list) (part state)) (sym (at-first context scope turns list)) ((ends-statements context scope turns list).ends state)

module _ (context : Context) (scope : Scope) (graph : Graph) (node : Node) (is : IsTree graph node) where
  abbrev tree : ℕ → Meaning Completion
  tree turns = run_tree context scope turns First node.tree

  unhandled : (run : Outcome Store Completion) → handled (sent_by context.headers graph.catchers []) run ≡ run
  unhandled (Is completion state) = refl
  unhandled (Stops (Throws reference) state) = refl
  unhandled (Stops More state) = refl
  unhandled (Stops Stuck state) = refl

  tree-node : (turns : ℕ) (next : ℕ → Meaning Completion) (state : State Store) → state.store.held ≡ [] → bind (flow context scope graph turns 0 state) (flows.onward next) ≡ tree turns state
  tree-node turns next state held =
      ap (λ run. bind run (flows.onward next)) (node-runs context scope graph turns 0 node is.alone is.free state held
      ∙ ap (λ handlers. handled (sent_by context.headers graph.catchers handlers) (tree turns state)) is.uncaught ∙ unhandled (tree turns state))
      ∙ stays node.tree (tree turns state) next is.closed (tree-ends context scope turns node.tree state)

  -- an entrance suffices
  pub tree-run : (turns each entrances : ℕ) (state : State Store) → state.store.held ≡ [] → graph_run context scope graph (record { turns = turns; each = suc each; entrances = suc entrances }) state ≡ tree turns state
  tree-run turns each entrances state held = tree-node turns (go (flow context scope graph turns) (less_one 0 (λ number. suc each)) entrances) state held

  rises-shown : (turns : ℕ) (state : State Store) → IsFront state.world.actions (actions_of ((tree turns >>= ended context.result) state))
  rises-shown turns state = (rises-bind (tree turns) (ended context.result) (rises-tree context scope turns 0 node.tree) (rises-ended context.result)).rises state

  -- with few or none the run is cut
  pub tree-below : (turns each entrances : ℕ) (state : State Store) → state.store.held ≡ []
      → IsBelow (graph_show context scope graph (record { turns = turns; each = each; entrances = entrances }) state) (shown ((tree turns >>= ended context.result) state))
  tree-below turns each zero state held = cut-below state ((tree turns >>= ended context.result) state) (rises-shown turns state)
  tree-below turns zero (suc entrances) state held = cut-below state ((tree turns >>= ended context.result) state) (rises-shown turns state)
  tree-below turns (suc each) (suc entrances) state held = inl (ap (λ run. shown (bind run (ended context.result))) (tree-run turns each entrances state held))

-- ---- starts

pub first-this : (headers : List Header) (class : Name) (parameters : List JType) (arguments : List Value) (most : ℕ) → AreArguments headers class false parameters arguments → this_of false arguments ≡ slice_index_or (first_locals most arguments) 0 None
first-this headers class parameters [] most fit = absurd fit
first-this headers class parameters (Int number ∷ rest) most fit = absurd fit.0
first-this headers class parameters (Long number ∷ rest) most fit = absurd fit.0
first-this headers class parameters (Null ∷ rest) most fit = absurd fit.0
first-this headers class parameters (Ref reference ∷ rest) most fit = refl

module _ (world : List Header) (members : List ClassMembers) (parts : Parts) (body : Body) (some : parts.typed.code.instructions ≢ []) (strict : IsStrict world parts.typed) (made : IsMadeOf world members parts body)
    (headers : List Header) (may : MayRun world headers) (arguments : List Value) (fit : AreArgumentsOf headers parts.typed.code arguments) where
  abbrev code : Code
  code = parts.typed.code

  abbrev context : Context
  context = context_of headers members body arguments

  abbrev locals : Locals
  locals = first_locals code.max_locals arguments

  -- a node of a block, with its catchers, shows the block
  shows : (turns : ℕ) → ShowsBlocks headers parts context.this (flow context made.scope made.before turns)
  shows turns = record {
    leaves = λ number stack state store meets held.
        let node = (made.rebuilt headers may arguments fit).nodes number meets.start meets.listed in
        subst (λ run. Leaves parts context.this number (block headers local_slots code (is_start parts.starts) (code_from meets.start code.instructions) stack state) run)
        (sym (node-runs context made.scope made.before turns number node.node node.there node.free (record { store = store; world = state.world }) held))
        (catchers_show headers parts made.parted.vars made.parted.says context.this number meets.start meets.listed node.even made.parted.handlers made.before.catchers node.node.handlers node.catchers
        (run_tree context made.scope turns (place_of number) node.node.tree) (node.shows.shows turns) stack state store meets);
    holds = λ number start listed state held.
        let node = (made.rebuilt headers may arguments fit).nodes number start listed in
        subst (HoldsStill []) (sym (node-runs context made.scope made.before turns number node.node node.there node.free state held))
        (handled-holds headers made.before.catchers node.node.handlers (run_tree context made.scope turns (place_of number) node.node.tree state) (tree-held context made.scope turns number node.node.tree state held));
    rises = λ number. (rises-flow context made.scope made.before turns number).rises;
  }

  begins : Begins parts arguments (made.start arguments)
  begins = made.begins headers may arguments fit

  runs : RunsStrictly world headers parts.typed
  runs = record { strict = strict; may = may }

  stands : Stands (classes headers code) code (table_of parts.typed) (code_from 0 code.instructions) [] locals
  stands = subst (λ list. Stands (classes headers code) code (table_of parts.typed) list [] locals) (sym made.parted.begins) (begins_strictly world headers parts.typed runs some arguments fit)

  is-this : is_static code.flags ≡ false → context.this ≡ slice_index_or locals 0 None
  is-this instance =
      ap (λ flags. this_of (is_static flags) arguments) made.of_code.flags ∙ ap (λ static. this_of static arguments) instance
      ∙ first-this headers code.class (parameters_of code.descriptor) arguments code.max_locals
      (subst (λ static. AreArguments headers code.class static (parameters_of code.descriptor) arguments) instance fit)

  kept : (slot variable : ℕ) → parts.vars.of 0 slot ≡ Some variable → IsKept parts.vars.kinds (made.start arguments) variable (slot_value code [] locals slot)
  kept slot variable named = record {
    holds = named-holds parts.typed parts.starts parts.vars made.parted.vars made.parted.says 0 0 made.parted.first (λ empty. some (sym made.parted.begins ∙ empty)) [] locals (stands_shaped world headers parts.typed runs stands) slot variable named;
    has = begins.slots slot variable named;
  }

  meets : Meets headers parts context.this 0 [] locals (made.start arguments)
  meets = record {
    start = 0;
    listed = made.parted.first;
    stands = stands;
    agrees = record { slots = λ slot variable named other. kept slot variable named; itself = λ keeps. is-this keeps.instance; unborn = λ instance unborn. is-this instance; parameters = λ instance unborn. begins.parameters };
  }

  module _ (answers : List Answer) where
    abbrev machine : State Locals
    machine = record { store = locals; world = opening answers }

    abbrev source : State Store
    source = record { store = made.start arguments; world = opening answers }

    -- steps that come to no block too often show no more than the graph
    graph-shows : (bound times : ℕ) → Seldom headers parts bound code.instructions [] machine (λ number. times) → IsBelow (bytecode_show headers code arguments answers bound) (graph_show context made.scope made.before (seldom times bound) source)
    unfolding meets
    graph-shows bound times seldom_there =
        subst (λ list. Seldom headers parts bound list [] machine (λ number. times) → IsBelow (shown (steps headers local_slots code bound list [] machine)) (graph_show context made.scope made.before (seldom times bound) source)) made.parted.begins
        (λ there. composes-forth world headers parts runs context.this (flow context made.scope made.before times) (shows times) context.result bound bound 0 (λ number. times) [] machine (made.start arguments) meets begins.free there (omega arith))
        seldom_there

    -- and no more than the body, where the graph afterwards shows as much at some limits
    body-shows : (limits : Limits) (show : Show) → IsBelow show (graph_show context made.scope made.after limits source) → IsBelow show (source_show headers members body arguments answers limits.turns)
    body-shows limits show below =
        subst (IsBelow show) (sym (made.declared headers may arguments fit answers limits.turns))
        (is-below-trans show (graph_show context made.scope made.after limits source) (shown ((run_tree context made.scope limits.turns First made.node.tree >>= ended context.result) source)) below
        (tree-below context made.scope made.after made.node made.tree limits.turns limits.each limits.entrances source begins.free))

    few : KeepsTurns (runs_of world members parts body made.scope made.start) made.before made.after → (bound times : ℕ) → Seldom headers parts bound code.instructions [] machine (λ number. times) → IsBelow (bytecode_show headers code arguments answers bound) (source_show headers members body arguments answers times)
    few sharp bound times seldom_there =
        body-shows (seldom times bound) (bytecode_show headers code arguments answers bound)
        (is-below-trans (bytecode_show headers code arguments answers bound) (graph_show context made.scope made.before (seldom times bound) source) (graph_show context made.scope made.after (seldom times bound) source)
        (graph-shows bound times seldom_there) (sharp.forth times bound headers may arguments fit answers))

    forth : (bound : ℕ) → (turns : ℕ) × IsBelow (bytecode_show headers code arguments answers bound) (source_show headers members body arguments answers turns)
    forth bound =
        let kept = made.keeps.forth (seldom (suc bound) bound) in (
          kept.0.turns,
          body-shows kept.0 (bytecode_show headers code arguments answers bound)
              (is-below-trans (bytecode_show headers code arguments answers bound) (graph_show context made.scope made.before (seldom (suc bound) bound) source) (graph_show context made.scope made.after kept.0 source)
              (graph-shows bound (suc bound) (λ number start listed. entered_seldom headers local_slots code start bound code.instructions [] machine))
              (kept.1 headers may arguments fit answers)),
        )

    back : (turns : ℕ) → (enough : ℕ) × IsBelow (source_show headers members body arguments answers turns) (bytecode_show headers code arguments answers enough)
    unfolding meets
    back turns =
        let limits : Limits = record { turns = turns; each = 1; entrances = 1 } in
        let more = (made.keeps.back limits).0 in
        let enough = more.entrances * suc (length code.instructions) in (
          enough,
          subst (λ show. IsBelow show (bytecode_show headers code arguments answers enough))
              (ap (λ run. shown (bind run (ended context.result))) (tree-run context made.scope made.after made.node made.tree turns 0 0 source begins.free) ∙ sym (made.declared headers may arguments fit answers turns))
              (is-below-trans (graph_show context made.scope made.after limits source) (graph_show context made.scope made.before more source) (bytecode_show headers code arguments answers enough)
              ((made.keeps.back limits).1 headers may arguments fit answers)
              (subst (λ list. IsBelow (graph_show context made.scope made.before more source) (shown (steps headers local_slots code enough list [] machine))) made.parted.begins
              (composes-back world headers parts runs context.this (flow context made.scope made.before more.turns) (shows more.turns) context.result more.entrances 0 (λ number. more.each) [] machine (made.start arguments) meets begins.free))),
        )

pub few_turns : FewTurns
few_turns world members parts body some strict made sharp headers may arguments fit answers bound times seldom_there = few world members parts body some strict made headers may arguments fit answers sharp bound times seldom_there

pub body_shows : BodyShowsCode
body_shows world members parts body some strict made = record {
  forth = λ headers may arguments fit answers bound. forth world members parts body some strict made headers may arguments fit answers bound;
  back = λ headers may arguments fit answers turns. back world members parts body some strict made headers may arguments fit answers turns;
}

pub tidied_show : TidiedShow
tidied_show world members parts body tidied some strict made tidy = record {
  forth = λ headers may arguments fit answers bound.
      let made_of = forth world members parts body some strict made headers may arguments fit answers bound in (
        made_of.0,
        is-below-trans (bytecode_show headers parts.typed.code arguments answers bound) (source_show headers members body arguments answers made_of.0) (source_show headers members tidied arguments answers made_of.0)
            made_of.1 (tidy.forth headers may arguments fit answers made_of.0),
      );
  back = λ headers may arguments fit answers turns.
      let untidied = tidy.back headers may arguments fit answers turns in
      let enough = back world members parts body some strict made headers may arguments fit answers untidied.0 in
      (enough.0, is-below-trans (source_show headers members tidied arguments answers turns) (source_show headers members body arguments answers untidied.0) (bytecode_show headers parts.typed.code arguments answers enough.0) untidied.1 enough.1);
}

pub tidied_few : TidiedFew
tidied_few world members parts body tidied some strict made sharp tidy headers may arguments fit answers bound times seldom_there =
    is-below-trans (bytecode_show headers parts.typed.code arguments answers bound) (source_show headers members body arguments answers times) (source_show headers members tidied arguments answers times)
    (few world members parts body some strict made headers may arguments fit answers sharp bound times seldom_there) (tidy.forth headers may arguments fit answers times)
