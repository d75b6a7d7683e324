-- The body of a static initialiser is typed, and shows what its tree shows.
use Rattle.std.proofs.Common.{ℕ, ◌+◌, ◌==◌, ◌≤◌, Bool, true, false, not, List, [], ◌∷◌, ◌++◌, Option, Some, None, ◌≡◌, refl, sym, ap, ◌∙◌, subst, ◌&&◌, ◌||◌}
use Rattle.std.specs.Prelude.{is_some, length, if◌then◌else◌}
use Rattle.std.proofs.lemmas.Bool.{and_parts, and_from, false≢true, eq-eqb, eqb-true}
use Rattle.std.proofs.lemmas.List.{take_all}
use Rattle.dj_names.specs.MethodNames.{is_constructor}
use Rattle.dj_names.specs.Types.{JType, parameters_of, result_of}
use Rattle.dj_syntax.specs.Trees.{Truth, Stm, Block, Labelled, If, Stms, Empty, And, Body}
use Rattle.dj_syntax.specs.Weight.{weight_of}
use Rattle.dj_syntax.specs.UnitText.{is_initialiser}
use Rattle.dj_values.specs.Values.{Value, Answer}
use Rattle.dj_values.specs.Fits.{is_static, behind_this}
use Rattle.dj_values.specs.Outcomes.{Stuck, State, Outcome, Is, Stops, bind, shown}
use Rattle.dj_meaning.specs.StaticTypes.{Context, Scope}
use Rattle.dj_meaning.specs.Runs.{Store, Meaning, pure, stuck, ◌>>=◌}
use Rattle.dj_meaning.specs.Completions.{Completion, Normal, Break, Continue, Return, Misfit, sequence, taken}
use Rattle.dj_meaning.specs.Declarations.{declared, within}
use Rattle.dj_meaning.specs.Statements.{Elsewhere, Behind}
use Rattle.dj_meaning.specs.Ways.{Ways, all_ways, EndsSo}
use Rattle.dj_meaning.proofs.Ending.{EndsIn}
use Rattle.dj_meaning.proofs.EndingTrees.{ends-all}
use Rattle.dj_meaning.specs.Meaning.{run, run_all, run_then, run_statements, of_parameter, ended, context_of, entered}
use Rattle.dj_places.specs.Constants.{Surroundings}
use Rattle.dj_places.specs.Surroundings.{around_body}
use Rattle.dj_places.specs.Rules.{Holds}
use Rattle.dj_reach.specs.declared.jump.Jump.{Jump}
use Rattle.dj_reach.specs.declared.jump.Jump.TheVariants as jumps
use Rattle.dj_reach.specs.Jumps.{is_one_of}
use Rattle.dj_reach.specs.Reach as reaching
use Rattle.dj_reach.specs.Reach.{list_completes, list_reach}
use Rattle.dj_reach.specs.Bodies.{site_of}
use Rattle.dj_thrown.specs.Bodies.{scope_in}
use Rattle.dj_variables.specs.Sets as sets
use Rattle.dj_variables.specs.Sets.{everything}
use Rattle.dj_assigned.specs.Assigned.{list_reads}
use Rattle.dj_typed.specs.Bodies.{site_in, around_in, begins_with_construct}
use Rattle.dj_typed.specs.Statements.{Around, list_types}
use Rattle.dj_formed.specs.Formed.{IsFormed, constants_of}
use Rattle.dj_declare.specs.Lawful.{all_lawful}
use Rattle.dj_declare.specs.Laws.{AreOrdered, running_in}
use Rattle.dj_declare.specs.Heads.{Head, headed, behind_heads, started, seen}
use Rattle.dj_declare.specs.Declared.{is_plain_return, unless_plain, but_last, without_last, left_out}
use Rattle.dj_declare.specs.Breaking.{all_breaking, lacks, list_lacks, turned}
use Rattle.dj_declare.specs.Initialisers.{wrapped, under_label, made_initialiser, InitialiserIsTyped, InitialiserShows, UnderLabelDoesAsWell}
use Rattle.dj_held.proofs.AssignedSets.{inside_same}
use Rattle.dj_declare.proofs.Reaching.{list_reach_on}
use Rattle.dj_declare.proofs.Typing.{list_types_on}
use Rattle.dj_declare.proofs.Reading.{list_reads_on}
use Rattle.dj_declare.proofs.Running.{list_runs_on}
use Rattle.dj_declare.proofs.Heads.{heads_reach, heads_complete, heads_types, heads_reads, all_from_list, statements_as_list, heads_run}
use Rattle.dj_declare.proofs.Ends.{left_types, left_reads, left_runs, shown_seen}
use Rattle.dj_declare.proofs.Turning.{list_turn_on}
use Rattle.dj_declare.proofs.Jumping.{all_taken}
use Rattle.dj_declare.proofs.Breaking as breaking

-- ---- `if (true) { }`

wrapped_types : (around : Around) (scope : Scope) (known : Surroundings) (list : Stms) → ((q : ℕ) → Holds (list_types around scope q list)) → (q : ℕ) → Holds (list_types around scope q (wrapped known list))
wrapped_types around scope known list h q = go (list_completes known list)
  where
    go : (b : Bool) → Holds (list_types around scope q (if b then list else And (If (Truth true) list Empty) Empty))
    go true = h q
    go false = ((refl, (tt, (h (q + 1 + 1), tt))), tt)

wrapped_reach : (site : reaching.Site) (known : Surroundings) (list : Stms) → ((q : ℕ) → Holds (list_reach site true q list)) → (q : ℕ) → Holds (list_reach site true q (wrapped known list))
wrapped_reach site known list h q = go (list_completes known list)
  where
    go : (b : Bool) → Holds (list_reach site true q (if b then list else And (If (Truth true) list Empty) Empty))
    go true = h q
    go false = (refl, ((h (q + 1 + 1), tt), tt))

wrapped_reads : (inner known : Surroundings) (set : sets.Set) (list : Stms) → ((q : ℕ) → Holds (list_reads inner set q list)) → (q : ℕ) → Holds (list_reads inner set q (wrapped known list))
wrapped_reads inner known set list h q = go (list_completes known list)
  where
    go : (b : Bool) → Holds (list_reads inner set q (if b then list else And (If (Truth true) list Empty) Empty))
    go true = h q
    go false = ((tt, (h (q + 1 + 1), tt)), tt)

wrapped_completes : (known : Surroundings) (list : Stms) → list_completes known (wrapped known list) ≡ true
wrapped_completes known list = go (list_completes known list) refl
  where
    or_so : (b : Bool) → ((b || true) && true) ≡ true
    or_so true = refl
    or_so false = refl

    go : (b : Bool) → list_completes known list ≡ b → list_completes known (if b then list else And (If (Truth true) list Empty) Empty) ≡ true
    go true e = e
    go false e = or_so (list_completes known list)

then_nothing : (run : Outcome Store Completion) → bind run (sequence (pure Normal)) ≡ run
then_nothing (Is Normal state) = refl
then_nothing (Is (Break label) state) = refl
then_nothing (Is (Continue label) state) = refl
then_nothing (Is (Return result) state) = refl
then_nothing (Is Misfit state) = refl
then_nothing (Stops why state) = refl

wrapped_runs : (now : Context) (scope : Scope) (bound : ℕ) (known : Surroundings) (list : Stms) → run_all now scope bound (wrapped known list) ≡ run_all now scope bound list
wrapped_runs now scope bound known list = go (list_completes known list)
  where
    go : (b : Bool) → run_all now scope bound (if b then list else And (If (Truth true) list Empty) Empty) ≡ run_all now scope bound list
    go true = refl
    go false = λ i state. then_nothing (run_all now scope bound list state) i

or_other : (a b : Bool) → b ≡ true → (a || b) ≡ true
or_other true b e = refl
or_other false b e = e

pub initialiser_typed : InitialiserIsTyped
initialiser_typed headers members method writing heads tree right may constructor none can types reads ordered thrown =
    let known : Surroundings = around_body headers members method in
    let scope : Scope = behind_heads heads (scope_in method) in
    let list : Stms = wrapped known (all_lawful known tree) in
    let body : Body = made_initialiser known method heads tree in
    record {
      writing = writing;
      right = right;
      holds = (
        (
          may,
          (
            ap (λ b. not b || begins_with_construct body.statements) constructor,
            all_from_list (around_in writing headers members method) (scope_in method) (headed heads list)
                (heads_types (around_in writing headers members method) (scope_in method) 0 heads list can
                (wrapped_types (around_in writing headers members method) scope known (all_lawful known tree) (λ q. list_types_on known (around_in writing headers members method) scope 0 q tree types))),
          ),
        ),
        (
          (
            and_from (not (is_some (result_of method.descriptor)) || not (list_completes known (headed heads list))) (not (is_initialiser method.name) || list_completes known (headed heads list))
                (ap (λ result. not (is_some result) || not (list_completes known (headed heads list))) none)
                (or_other (not (is_initialiser method.name)) (list_completes known (headed heads list)) (heads_complete known heads list ∙ wrapped_completes known (all_lawful known tree))),
            heads_reach (site_of headers members method) 0 heads list (wrapped_reach (site_of headers members method) known (all_lawful known tree) (λ q. list_reach_on (site_of headers members method) q tree ordered)),
          ),
          (
            heads_reads (site_in writing headers members method) (scope_in method) 0 heads list everything can (inside_same everything) (λ b q i.
                wrapped_reads known known b (all_lawful known tree)
                (λ q. list_reads_on (site_in writing headers members method) (result_of method.descriptor) (is_constructor method.name) (not (is_initialiser method.name)) [] scope 0 0 q tree types ordered i reads) q),
            thrown,
          ),
        ),
      );
    }

pub initialiser_shows : InitialiserShows
initialiser_shows headers wider members method writing heads given tree arguments answers bound order few can formed start =
    let known : Surroundings = around_body headers members method in
    let result : Option JType = result_of method.descriptor in
    let parameters : Scope = of_parameter (parameters_of method.descriptor) in
    let now : Context = context_of wider members method arguments in
    let begun : State Store = entered (behind_this (is_static method.flags) arguments) answers in
    let list : Stms = wrapped known (all_lawful known tree) in
    let same : scope_in method ≡ parameters = ap of_parameter (take_all 4294967295 (parameters_of method.descriptor) few) in
    let types : Holds (list_types (around_in writing headers members method) (behind_heads heads parameters) 0 tree) =
    subst (λ scope. Holds (list_types (around_in writing headers members method) (behind_heads heads scope) 0 tree)) same formed in
    let whole : Holds (list_types (around_in writing headers members method) (scope_in method) 0 (headed heads list)) =
    heads_types (around_in writing headers members method) (scope_in method) 0 heads list can
    (wrapped_types (around_in writing headers members method) (behind_heads heads (scope_in method)) known (all_lawful known tree) (λ q. list_types_on known (around_in writing headers members method) (behind_heads heads (scope_in method)) 0 q tree formed)) in
    ap (λ part. shown (bind (part begun) (ended result))) (statements_as_list (around_in writing headers members method) now (scope_in method) parameters bound 0 (headed heads list) whole)
    ∙ sym (shown_seen result (run_all now parameters bound (headed heads list) begun))
    ∙ ap (λ outcome. shown (bind outcome (ended result))) (heads_run now bound parameters heads given list begun start)
    ∙ shown_seen result (run_all now (behind_heads heads parameters) bound list (started heads given begun))
    ∙ ap (λ part. shown (bind (part (started heads given begun)) (ended result))) (wrapped_runs now (behind_heads heads parameters) bound known (all_lawful known tree))
    ∙ ap (λ part. shown (bind (part (started heads given begun)) (ended result)))
    (list_runs_on (running_in wider now.this (around_in writing headers members method)) order bound (behind_heads heads parameters) [] 0 tree (pure Normal) types)

-- ---- the label

but_lacks : (own : ℕ) (first : Stm) (rest : Stms) → list_lacks own (And first rest) ≡ true → list_lacks own (but_last first rest) ≡ true
but_lacks own first Empty e = go (is_plain_return first)
  where
    go : (b : Bool) → list_lacks own (if b then Empty else And first Empty) ≡ true
    go true = refl
    go false = e
but_lacks own first (And second rest) e =
    let parts = and_parts (lacks own first) (list_lacks own (And second rest)) e in
    and_from (lacks own first) (list_lacks own (but_last second rest)) parts.0 (but_lacks own second rest parts.1)

pub last_lacks : (own : ℕ) (list : Stms) → list_lacks own list ≡ true → list_lacks own (without_last list) ≡ true
last_lacks own Empty e = e
last_lacks own (And first rest) e = but_lacks own first rest e

but_ordered : (site : reaching.Site) (first : Stm) (rest : Stms) → AreOrdered site (And first rest) → AreOrdered site (but_last first rest)
but_ordered site first Empty o = go (is_plain_return first)
  where
    go : (b : Bool) → AreOrdered site (if b then Empty else And first Empty)
    go true = tt
    go false = o
but_ordered site first (And second rest) o = (o.0, but_ordered site second rest o.1)

last_ordered : (site : reaching.Site) (list : Stms) → AreOrdered site list → AreOrdered site (without_last list)
last_ordered site Empty o = o
last_ordered site (And first rest) o = but_ordered site first rest o

-- a break of the label ends the body as a return without a value does
taken_end : (own : ℕ) (run : Outcome Store Completion) → ((label : ℕ) (state : State Store) → run ≡ Is (Break label) state → (label == own) ≡ false)
    → bind (bind (bind (bind run (turned own)) (taken own)) (sequence (pure Normal))) (ended None) ≡ bind run (ended None)
taken_end own (Is Normal state) others = refl
taken_end own (Is (Break label) state) others = ap (λ (same : Bool). bind (bind ((if same then pure Normal else pure (Break label)) state) (sequence (pure Normal))) (ended None)) (others label state refl)
taken_end own (Is (Continue label) state) others = go (label == own)
  where
    go : (same : Bool) → bind (bind ((if same then stuck else pure (Continue label)) state) (sequence (pure Normal))) (ended None) ≡ Stops Stuck state
    go true = refl
    go false = refl
taken_end own (Is (Return None) state) others = ap (λ (same : Bool). bind (bind ((if same then pure Normal else pure (Break own)) state) (sequence (pure Normal))) (ended None)) (eq-eqb own own refl)
taken_end own (Is (Return (Some value)) state) others = refl
taken_end own (Is Misfit state) others = refl
taken_end own (Stops why state) others = refl

-- what breaks, breaks to a label around
breaks_so : (ways : Ways) (own : ℕ) (run : Outcome Store Completion) → ways.jumps own ≡ false → EndsSo ways run → (label : ℕ) (state : State Store) → run ≡ Is (Break label) state → (label == own) ≡ false
breaks_so ways own run none so label state is = go (label == own) refl
  where
    may : ways.jumps label ≡ true
    may = subst (EndsSo ways) is so

    go : (same : Bool) → (label == own) ≡ same → same ≡ false
    go true e = absurd (false≢true (sym none ∙ subst (λ other. ways.jumps other ≡ true) (eqb-true label own e) may))
    go false e = refl

-- the jumps around begin with nothing
no_other : (targets : List Jump) (around : Around) (scope : Scope) (own q : ℕ) (list : Stms) → targets ≡ [] → Holds (list_types (record around { targets = jumps.Break own ∷ targets }) scope q list)
    → (not (is_one_of (jumps.Break own) targets) ≡ true) × Holds (list_types (record around { targets = targets ++ jumps.Break own ∷ [] }) scope q list)
no_other [] around scope own q list e h = (refl, h)
no_other (one ∷ targets) around scope own q list e h = absurd cc

not_taken : (targets : List Jump) (label : ℕ) (b : Bool) → targets ≡ [] → (b ≡ true → is_one_of (jumps.Break label) targets ≡ true) → b ≡ false
not_taken [] label true e f = absurd (false≢true (f refl))
not_taken (one ∷ targets) label true e f = absurd cc
not_taken targets label false e f = refl

pub under_label_does : UnderLabelDoesAsWell
under_label_does around scope own tree none targets free formed ordered =
    let list : Stms = without_last tree in
    let lacking : list_lacks own list ≡ true = last_lacks own tree free in
    let types : Holds (list_types around scope 0 list) = left_types around scope 0 None tree formed.types in
    let inner = no_other around.targets around scope own (0 + 1 + 1) (all_breaking own list) targets (breaking.list_types_on own around scope 0 (0 + 1 + 1) list none lacking types) in (
      (((refl, (inner.0, inner.1))), tt),
      (breaking.list_reads_on own (constants_of around.site) everything 0 (0 + 1 + 1) list lacking (left_reads (constants_of around.site) everything 0 None tree formed.reads), tt),
      (breaking.list_ordered_on own around none around.targets scope 0 list types (last_ordered (record { around = constants_of around.site; may_return = true }) tree ordered), tt),
      (λ now inner bound no_result.
          ap (λ part. ((part >>= taken own) >>= sequence (pure Normal)) >>= ended now.result) (list_turn_on own now no_result bound inner list (pure Normal) (pure Normal) lacking refl)
          ∙ ap (λ result. (((run_all now inner bound list >>= turned own) >>= taken own) >>= sequence (pure Normal)) >>= ended result) no_result
          ∙ (λ i state. taken_end own (run_all now inner bound list state)
          (breaks_so (all_ways list) own (run_all now inner bound list state) (not_taken around.targets own ((all_ways list).jumps own) targets (all_taken around scope 0 own list types)) ((ends-all now inner bound list).ends state)) i)
          ∙ ap (λ result. run_all now inner bound list >>= ended result) (sym no_result)
          ∙ left_runs now inner bound None tree no_result),
    )
