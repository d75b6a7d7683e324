-- The body that is made of a formed tree is typed, and shows what the tree shows.
use Rattle.std.proofs.Common.{ℕ, ◌≤◌, Bool, true, false, not, List, [], Option, Some, None, ◌≡◌, refl, sym, ap, ◌∙◌, subst, ◌&&◌, ◌||◌}
use Rattle.std.specs.Prelude.{is_some, length}
use Rattle.std.proofs.lemmas.Bool.{and_from, false≢true}
use Rattle.std.proofs.lemmas.List.{take_all}
use Rattle.dj_names.specs.declared.header.Header.{Header}
use Rattle.dj_names.specs.declared.members.ClassMembers.{ClassMembers}
use Rattle.dj_names.specs.MethodNames.{is_constructor}
use Rattle.dj_names.specs.Types.{JType, parameters_of, result_of}
use Rattle.dj_syntax.specs.Trees.{Stms, Body}
use Rattle.dj_syntax.specs.UnitText.{is_initialiser}
use Rattle.dj_values.specs.Values.{Value, Answer}
use Rattle.dj_values.specs.Fits.{is_static, behind_this}
use Rattle.dj_values.specs.Outcomes.{State, bind, shown}
use Rattle.dj_meaning.specs.StaticTypes.{Context, Scope}
use Rattle.dj_meaning.specs.Runs.{Store, Meaning, pure}
use Rattle.dj_meaning.specs.Completions.{Normal}
use Rattle.dj_meaning.specs.Meaning.{run_all, run_statements, of_parameter, ended, context_of, entered}
use Rattle.dj_places.specs.Constants.{Surroundings}
use Rattle.dj_places.specs.Surroundings.{around_body}
use Rattle.dj_places.specs.Rules.{Holds}
use Rattle.dj_reach.specs.Reach.{list_completes}
use Rattle.dj_reach.specs.Bodies.{ends_well, site_of}
use Rattle.dj_thrown.specs.Bodies.{scope_in}
use Rattle.dj_variables.specs.Sets.{everything}
use Rattle.dj_typed.specs.Bodies.{site_in, around_in, begins_with_construct}
use Rattle.dj_typed.specs.Statements.{list_types}
use Rattle.dj_declare.specs.Lawful.{all_lawful}
use Rattle.dj_declare.specs.Laws.{running_in}
use Rattle.dj_declare.specs.Heads.{Head, headed, behind_heads, started, seen}
use Rattle.dj_declare.specs.Declared.{left_out, made_body, MadeIsTyped, tree_show, MadeShows}
use Rattle.dj_held.proofs.AssignedSets.{inside_same}
use Rattle.dj_declare.proofs.Reaching.{list_reach_on, list_completes_on}
use Rattle.dj_declare.proofs.Typing.{list_types_on}
use Rattle.dj_declare.proofs.Reading.{list_reads_on}
use Rattle.dj_declare.proofs.Running.{list_runs_on}
use Rattle.dj_declare.proofs.Heads.{heads_reach, heads_complete, heads_types, heads_reads, all_from_list, statements_as_list, heads_run}
use Rattle.dj_declare.proofs.Ends.{left_types, left_reach, left_reads, left_runs, shown_seen}

-- what is not so can't be
not_so : (b c : Bool) → (b ≡ true → c ≡ true) → c ≡ false → not b ≡ true
not_so true c f e = absurd (false≢true (sym e ∙ f refl))
not_so false c f e = refl

-- a method with a result doesn't complete normally, as its tree doesn't
ends_so : (known : Surroundings) (heads : List Head) (result : Option JType) (tree : Stms) → list_completes known tree ≡ false → (not (is_some result) || not (list_completes known (headed heads (left_out result (all_lawful known tree))))) ≡ true
ends_so known heads None tree ends = refl
ends_so known heads (Some type) tree ends =
    not_so (list_completes known (headed heads (all_lawful known tree))) (list_completes known tree) (λ e. list_completes_on known tree (sym (heads_complete known heads (all_lawful known tree)) ∙ e)) ends

pub made_typed : MadeIsTyped
made_typed headers members method writing heads tree right may constructor initialiser can formed ordered thrown =
    let known : Surroundings = around_body headers members method in
    let result : Option JType = result_of method.descriptor in
    let scope : Scope = behind_heads heads (scope_in method) in
    let list : Stms = left_out result (all_lawful known tree) in
    let body : Body = made_body known method heads tree in
    record {
      writing = writing;
      right = right;
      holds = (
        (
          may,
          (
            ap (λ b. not b || begins_with_construct body.statements) constructor,
            all_from_list (around_in writing headers members method) (scope_in method) (headed heads list)
                (heads_types (around_in writing headers members method) (scope_in method) 0 heads list can (λ q.
                left_types (around_in writing headers members method) scope q result (all_lawful known tree) (list_types_on known (around_in writing headers members method) scope 0 q tree formed.types))),
          ),
        ),
        (
          (
            and_from (not (is_some result) || not (list_completes known (headed heads list))) (not (is_initialiser method.name) || list_completes known (headed heads list))
                (ends_so known heads result tree formed.ends) (ap (λ b. not b || list_completes known (headed heads list)) initialiser),
            heads_reach (site_of headers members method) 0 heads list (λ q. left_reach (site_of headers members method) q result (all_lawful known tree) (list_reach_on (site_of headers members method) q tree ordered)),
          ),
          (
            heads_reads (site_in writing headers members method) (scope_in method) 0 heads list everything can (inside_same everything) (λ b q i.
                left_reads known b q result (all_lawful known tree)
                (list_reads_on (site_in writing headers members method) result (is_constructor method.name) (not (is_initialiser method.name)) [] scope 0 0 q tree formed.types ordered i formed.reads)),
            thrown,
          ),
        ),
      );
    }

pub made_shows : MadeShows
made_shows headers wider members method writing heads given tree arguments answers bound order few can formed start =
    let known : Surroundings = around_body headers members method in
    let result : Option JType = result_of method.descriptor in
    let parameters : Scope = of_parameter (parameters_of method.descriptor) in
    let now : Context = context_of wider members method arguments in
    let begun : State Store = entered (behind_this (is_static method.flags) arguments) answers in
    let list : Stms = left_out result (all_lawful known tree) in
    let same : scope_in method ≡ parameters = ap of_parameter (take_all 4294967295 (parameters_of method.descriptor) few) in
    let types : Holds (list_types (around_in writing headers members method) (behind_heads heads parameters) 0 tree) =
    subst (λ scope. Holds (list_types (around_in writing headers members method) (behind_heads heads scope) 0 tree)) same formed.types in
    let whole : Holds (list_types (around_in writing headers members method) (scope_in method) 0 (headed heads list)) =
    heads_types (around_in writing headers members method) (scope_in method) 0 heads list can (λ q.
    left_types (around_in writing headers members method) (behind_heads heads (scope_in method)) q result (all_lawful known tree) (list_types_on known (around_in writing headers members method) (behind_heads heads (scope_in method)) 0 q tree formed.types)) in
    ap (λ part. shown (bind (part begun) (ended result))) (statements_as_list (around_in writing headers members method) now (scope_in method) parameters bound 0 (headed heads list) whole)
    ∙ sym (shown_seen result (run_all now parameters bound (headed heads list) begun))
    ∙ ap (λ outcome. shown (bind outcome (ended result))) (heads_run now bound parameters heads given list begun start)
    ∙ shown_seen result (run_all now (behind_heads heads parameters) bound list (started heads given begun))
    ∙ ap (λ (part : Meaning (Option Value)). shown (part (started heads given begun))) (left_runs now (behind_heads heads parameters) bound result (all_lawful known tree) refl)
    ∙ ap (λ part. shown (bind (part (started heads given begun)) (ended result)))
    (list_runs_on (running_in wider now.this (around_in writing headers members method)) order bound (behind_heads heads parameters) [] 0 tree (pure Normal) types)
