-- The statements by which control leaves a block: assignments and a jump, a test or a switch between such, a return, a throw.
use Rattle.std.proofs.Common.{ℕ, ℤ, ◌+◌, ◌≡◌, Bool, true, false, not, ◌&&◌, ◌||◌, List, [], ◌∷◌, Option, Some, None, refl, sym, ap, ◌∙◌, subst, is_some}
use Rattle.std.specs.Prelude.{if◌then◌else◌}
use Rattle.std.proofs.lemmas.Bool.{and_from}
use Rattle.dj_names.specs.Types as types
use Rattle.dj_names.specs.Types.{JType, Class, StaticType, Of}
use Rattle.dj_syntax.specs.declared.variable.Var.{Var}
use Rattle.dj_syntax.specs.Trees.{Exp, Stm, Set, If, Switch, Throw, Stms, Empty, And, Groups, NoGroups, AndGroup}
use Rattle.dj_syntax.specs.Trees as trees
use Rattle.dj_syntax.specs.StmText.{is_empty}
use Rattle.dj_syntax.specs.Weight.{weight_of, weight_of_exp, weight_of_stms}
use Rattle.dj_syntax.specs.WellFormedTrees.{has_no_group}
use Rattle.dj_values.specs.Deciding.{is_type}
use Rattle.dj_values.specs.Fits.{throwable_name}
use Rattle.dj_meaning.specs.Calls.{is_assignable}
use Rattle.dj_meaning.specs.StaticTypes.{Scope, typed, type_of}
use Rattle.dj_meaning.specs.Declarations.{declared, within, behind}
use Rattle.dj_meaning.specs.Statements.{Elsewhere, is_labelled}
use Rattle.dj_places.specs.Constants.{Surroundings}
use Rattle.dj_places.specs.Rules.{Holds}
use Rattle.dj_reach.specs.declared.jump.Jump.TheVariants.{Break}
use Rattle.dj_reach.specs.Jumps.{is_one_of}
use Rattle.dj_reach.specs.Reach.{list_completes, groups_complete}
use Rattle.dj_variables.specs.Sets as sets
use Rattle.dj_variables.specs.Sets.{everything, meet}
use Rattle.dj_conditions.specs.Conditions.{when, after_exp}
use Rattle.dj_assigned.specs.Assigned.{after, after_list, list_passed_over, list_reads, groups_reads}
use Rattle.dj_typing.specs.Sites.{Site, context_of, may_name_type}
use Rattle.dj_typing.specs.Operands.{is_of, if_typed}
use Rattle.dj_typing.specs.Expressions.{goes, is_condition, is_whole_static, exp_types}
use Rattle.dj_typed.specs.Statements.{Around, returns, throwable, list_types, groups_types}
use Rattle.dj_typed.specs.Switches.{are_formed, labels_of, are_distinct, has_some}
use Rattle.dj_formed.specs.Formed.{constants_of}
use Rattle.dj_rebuilding.specs.Pending.{single}
use Rattle.dj_blocks_formed.specs.Ruled.{IsFull, IsEnded}
use Rattle.dj_blocks_formed.specs.Exits.{IsJump, GoesInto, IsTruth, AreCases}
use Rattle.dj_blocks_formed.proofs.Reading.{full-reads, full-true, full-false, full-behind, set-full}
use Rattle.dj_blocks_formed.proofs.Spilled.{named-whole}

-- both of two full sets
full-meet : (first second : sets.Set) → IsFull first → IsFull second → IsFull (meet first second)
full-meet first second h k variable = and_from (first variable) (second variable) (h variable) (k variable)

module _ (around : Around) (scope : Scope) where
  abbrev known : Surroundings
  known = constants_of around.site

  -- ---- jumps

  pub jump-ended : (list : Stms) → IsJump around scope list → IsEnded around scope list
  jump-ended list h = record { types = h.types; reads = h.reads; ends = h.ends }

  -- a break that a node takes
  pub break-jumps : (label : ℕ) → is_one_of (Break label) around.targets ≡ true → IsJump around scope (And (trees.Break label) Empty)
  break-jumps label taken = record {
    some = refl;
    types = λ place. (taken, tt);
    reads = λ set full place. (tt, tt);
    ends = refl;
    full = λ set full variable. refl;
    over = λ set. refl;
  }

  -- a copy before it
  pub set-jumps : (target : Var) (type : JType) (new : Exp) (rest : Stms) → scope target ≡ Some type → may_name_type around.site type ≡ true → GoesInto around.site scope type new → IsJump around scope rest → IsJump around scope (And (Set target new) rest)
  set-jumps target type new rest is named into h = record {
    some = refl;
    types = λ place. (
      (
        and_from (is_some (scope target)) (if_typed (typed (scope target)) (is_whole_static around.site.headers)) (ap is_some is) (ap (λ found. if_typed (typed found) (is_whole_static around.site.headers)) is ∙ named-whole around.site type named),
        (ap (λ found. goes around.site.headers found (scope target)) into.typed ∙ ap (goes around.site.headers (Some into.static)) is ∙ into.goes, into.keeps (place + 1)),
      ),
      h.types (place + weight_of (Set target new)),
    );
    reads = λ set full place. (full-reads set full known (place + 1) new, h.reads (after known None (Set target new) set) (set-full known target new set full) (place + weight_of (Set target new)));
    ends = h.ends;
    full = λ set full. h.full (after known None (Set target new) set) (set-full known target new set full);
    over = h.over;
  }

  -- ---- tests

  pub if-ended : (test : Exp) (first second : Stms) → IsTruth around.site scope test → IsJump around scope first → IsJump around scope second → IsEnded around scope (And (If test first second) Empty)
  if-ended test first second is h k = record {
    types = λ place. ((is.condition, (is.keeps (place + 1), (h.types (place + 1 + weight_of_exp test), k.types (place + 1 + weight_of_exp test + weight_of_stms first)))), tt);
    reads = λ set full place. (
      (
        full-reads set full known (place + 1) test,
        (
          h.reads (when known test set).true (full-true set full known test) (place + 1 + weight_of_exp test),
          k.reads (when known test set).false (full-false set full known test) (place + 1 + weight_of_exp test + weight_of_stms first),
        ),
      ),
      tt,
    );
    ends = ap (λ found. (found || list_completes known second) && true) h.ends ∙ ap (λ found. found && true) k.ends;
  }

  -- ---- switches

  cases-types : (groups : Groups) → AreCases around scope groups → (place : ℕ) → Holds (groups_types around scope place groups)
  cases-types NoGroups h place = tt
  cases-types (AndGroup labels body rest) h place = (h.0.types place, subst (λ inner. Holds (groups_types around inner (place + weight_of_stms body) rest)) (sym (h.1 scope)) (cases-types rest h.2 (place + weight_of_stms body)))

  cases-reads : (groups : Groups) → AreCases around scope groups → (before set : sets.Set) → IsFull before → IsFull set → (place : ℕ) → Holds (groups_reads known before set place groups)
  cases-reads NoGroups h before set full all place = tt
  cases-reads (AndGroup labels body rest) h before set full all place =
      let both = full-meet before set full all in (
        h.0.reads (meet before set) both place,
        cases-reads rest h.2 (after_list known body (meet before set)) (list_passed_over body set) (h.0.full (meet before set) both) (λ variable. ap (λ (found : sets.Set). found variable) (h.0.over set) ∙ all variable) (place + weight_of_stms body),
      )

  cases-end : (groups : Groups) → AreCases around scope groups → not (has_no_group groups) ≡ true → (before : Bool) → groups_complete known before groups ≡ false
  cases-end NoGroups h some before = absurd (cc)
  cases-end (AndGroup labels body NoGroups) h some before = h.0.ends
  cases-end (AndGroup labels body (AndGroup more next rest)) h some before = cases-end (AndGroup more next rest) h.2 refl (list_completes known body)

  pub switch-ended : (on : Exp) (groups : Groups) → type_of (context_of around.site) scope on ≡ Some (Of types.Int) → ((place : ℕ) → Holds (exp_types around.site scope place on)) → not (has_no_group groups) ≡ true → are_formed groups ≡ true → are_distinct (labels_of groups) ≡ true → is_labelled None groups ≡ true
      → AreCases around scope groups → IsEnded around scope (And (Switch on groups) Empty)
  switch-ended on groups type keeps some formed distinct default cases = record {
    types = λ place. (
      (
        and_from (not (has_no_group groups)) (are_formed groups) some formed,
        (
          and_from (if_typed (type_of (context_of around.site) scope on) (is_of (is_type types.Int))) (are_distinct (labels_of groups)) (ap (λ found. if_typed found (is_of (is_type types.Int))) type) distinct,
          (keeps (place + 1), cases-types groups cases (place + 1 + weight_of_exp on)),
        ),
      ),
      tt,
    );
    reads = λ set full place. ((full-reads set full known (place + 1) on, cases-reads groups cases everything (after_exp known on set) (λ variable. refl) (full-behind set full known on) (place + 1 + weight_of_exp on)), tt);
    ends = ap (λ found. (not found || groups_complete known true groups) && true) default ∙ ap (λ found. found && true) (cases-end groups cases some true);
  }

  -- ---- returns and throws

  pub nothing-ended : around.result ≡ None → IsEnded around scope (And (trees.Return None) Empty)
  nothing-ended none = record {
    types = λ place. ((ap (λ result. returns around.site scope result None) none, tt), tt);
    reads = λ set full place. (tt, tt);
    ends = refl;
  }

  pub return-ended : (result : JType) (value : Exp) → around.result ≡ Some result → GoesInto around.site scope result value → IsEnded around scope (And (trees.Return (Some value)) Empty)
  return-ended result value is into = record {
    types = λ place. ((ap (λ found. returns around.site scope found (Some value)) is ∙ ap (λ found. goes around.site.headers found (Some result)) into.typed ∙ into.goes, into.keeps (place + 1)), tt);
    reads = λ set full place. (full-reads set full known (place + 1) value, tt);
    ends = refl;
  }

  pub throw-ended : (exception : Exp) → GoesInto around.site scope (Class throwable_name) exception → IsEnded around scope (And (Throw exception) Empty)
  throw-ended exception into = record {
    types = λ place. ((ap (λ found. goes around.site.headers found throwable) into.typed ∙ into.goes, into.keeps (place + 1)), tt);
    reads = λ set full place. (full-reads set full known (place + 1) exception, tt);
    ends = refl;
  }
