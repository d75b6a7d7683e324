-- A tree that breaks in place of returning keeps the rules.
use Rattle.std.proofs.Common.{ℕ, ℤ, ◌+◌, ◌==◌, Bool, true, false, not, ◌&&◌, ◌||◌, List, [], ◌∷◌, ◌++◌, Option, Some, None, ◌≡◌, refl, sym, ap, ◌∙◌, subst}
use Rattle.std.specs.Prelude.{is_some, if◌then◌else◌}
use Rattle.std.proofs.lemmas.Bool.{and_parts, and_from, false≢true, not-true, eq-eqb}
use Rattle.dj_names.specs.declared.header.Header.{Header}
use Rattle.dj_names.specs.Headers.{Name}
use Rattle.dj_names.specs.Types as types
use Rattle.dj_names.specs.Types.{JType, Class, Of}
use Rattle.dj_syntax.specs.declared.variable.Var.{Var}
use Rattle.dj_syntax.specs.Trees.{Exp, Stm, Block, Labelled, Declare, Set, SetField, SetStatic, SetElement, Run, If, While, Switch, Throw, Rethrow, Try, Synchronized, Construct, Do, For, Finally, Stms, Empty, And, Groups, NoGroups, AndGroup, Catches, NoCatches, AndCatch}
use Rattle.dj_syntax.specs.Trees as trees
use Rattle.dj_syntax.specs.StmText.{is_empty}
use Rattle.dj_syntax.specs.Weight.{weight_of, weight_of_exp, weight_of_stms}
use Rattle.dj_syntax.specs.WellFormedTrees.{is_declaration, has_no_group, has_no_catch}
use Rattle.dj_values.specs.Deciding.{is_type, is_subclass}
use Rattle.dj_values.specs.Fits.{throwable_name}
use Rattle.dj_meaning.specs.Calls.{is_assignable}
use Rattle.dj_meaning.specs.StaticTypes.{Scope, with_type, type_of}
use Rattle.dj_meaning.specs.Declarations.{declared, within, behind}
use Rattle.dj_meaning.specs.Statements.{Place, First, Behind, Elsewhere, label_at, is_labelled}
use Rattle.dj_places.specs.Constants.{Surroundings, constant_truth, is_always}
use Rattle.dj_places.specs.Rules.{Holds}
use Rattle.dj_reach.specs.declared.jump.Jump.{Jump}
use Rattle.dj_reach.specs.declared.jump.Jump.TheVariants as jumps
use Rattle.dj_reach.specs.Jumps.{is_same_jump, is_jump_to, is_one_of}
use Rattle.dj_reach.specs.Reach as reaching
use Rattle.dj_reach.specs.Reach.{of_own, completes, list_completes, catches_complete, groups_complete, leaves, list_leaves, catches_leave, groups_leave, takes_below, are_in_order}
use Rattle.dj_variables.specs.Sets as sets
use Rattle.dj_variables.specs.Sets.{everything, with, meet, join}
use Rattle.dj_conditions.specs.Conditions.{when, after_exp}
use Rattle.dj_assigned.specs.Assigned.{passed_over, list_passed_over, groups_passed_over, meet_own, after, after_list, after_catches, after_groups, before_jump, before_list_jump, before_catches_jump, before_groups_jump, after_turn, stm_reads, list_reads, catches_reads, groups_reads}
use Rattle.dj_typing.specs.Sites.{Site, context_of, may_name}
use Rattle.dj_typing.specs.Operands.{is_of, if_typed}
use Rattle.dj_typed.specs.Switches.{has_some, are_formed, labels_of, are_distinct}
use Rattle.dj_typed.specs.Statements.{Around, with_targets, turns_of, in_loop, returns, is_on_int, without_this, are_new_catches, are_exceptions, stm_types, list_types, catches_types, groups_types}
use Rattle.dj_formed.specs.Formed.{constants_of}
use Rattle.dj_declare.specs.Laws.{IsOrdered, AreOrdered, AreClausesOrdered, AreGroupsOrdered}
use Rattle.dj_declare.specs.Breaking.{broken, breaking, all_breaking, clauses_breaking, groups_breaking, lacks, list_lacks, clauses_lack, groups_lack, BreakingTypes, BreakingFlows}
use Rattle.dj_held.proofs.AssignedSets.{Inside, inside_same, reads_more, all_reads_more, option_reads_more}
use Rattle.dj_formed.proofs.Moved.{moved, all_moved, effect_moved, option_moved}
use Rattle.dj_declare.proofs.Turning.{same_declared, same_behind, same_labelled}

or_so : (a b : Bool) → b ≡ true → (a || b) ≡ true
or_so true b e = refl
or_so false b e = e

-- ---- what stays as it was

module _ (own : ℕ) where
  same_declaration : (statement : Stm) → is_declaration (breaking own statement) ≡ is_declaration statement
  same_declaration (Block list) = refl
  same_declaration (Labelled label statement) = refl
  same_declaration (Declare variable kind initial) = refl
  same_declaration (Set variable new) = refl
  same_declaration (SetField object name new) = refl
  same_declaration (SetStatic class name new) = refl
  same_declaration (SetElement array index new) = refl
  same_declaration (Run call) = refl
  same_declaration (If test first second) = refl
  same_declaration (While test body) = refl
  same_declaration (Switch on groups) = refl
  same_declaration (trees.Break label) = refl
  same_declaration (trees.Continue label) = refl
  same_declaration (trees.Return None) = refl
  same_declaration (trees.Return (Some value)) = refl
  same_declaration (Throw exception) = refl
  same_declaration (Rethrow variable) = refl
  same_declaration (Try body clauses) = refl
  same_declaration (Synchronized monitor body) = refl
  same_declaration (Construct this arguments) = refl
  same_declaration (Do body test) = refl
  same_declaration (For test variable step body) = refl
  same_declaration (Finally body last) = refl

  same_empty : (list : Stms) → is_empty (all_breaking own list) ≡ is_empty list
  same_empty Empty = refl
  same_empty (And first rest) = refl

  same_end : (groups : Groups) → has_no_group (groups_breaking own groups) ≡ has_no_group groups
  same_end NoGroups = refl
  same_end (AndGroup labels body rest) = refl

  same_formed : (groups : Groups) → are_formed (groups_breaking own groups) ≡ are_formed groups
  same_formed NoGroups = refl
  same_formed (AndGroup labels body rest) = λ i. has_some labels && (not (same_empty body i) || same_end rest i) && same_formed rest i

  same_labels : (groups : Groups) → labels_of (groups_breaking own groups) ≡ labels_of groups
  same_labels NoGroups = refl
  same_labels (AndGroup labels body rest) = ap (λ later. labels ++ later) (same_labels rest)

  same_clauses : (clauses : Catches) → has_no_catch (clauses_breaking own clauses) ≡ has_no_catch clauses
  same_clauses NoCatches = refl
  same_clauses (AndCatch class variable body rest) = refl

  same_new : (site : Site) (scope : Scope) (clauses : Catches) → are_new_catches site scope (clauses_breaking own clauses) ≡ are_new_catches site scope clauses
  same_new site scope NoCatches = refl
  same_new site scope (AndCatch class variable body rest) = ap (λ later. may_name site class && not (is_some (scope variable)) && later) (same_new site scope rest)

  same_exceptions : (headers : List Header) (clauses : Catches) → are_exceptions headers (clauses_breaking own clauses) ≡ are_exceptions headers clauses
  same_exceptions headers NoCatches = refl
  same_exceptions headers (AndCatch class variable body rest) = ap (λ later. is_assignable headers (Of (Class class)) (Class throwable_name) && later) (same_exceptions headers rest)

  same_below : (headers : List Header) (class : Name) (clauses : Catches) → takes_below headers class (clauses_breaking own clauses) ≡ takes_below headers class clauses
  same_below headers class NoCatches = refl
  same_below headers class (AndCatch other variable body rest) = ap (λ later. is_subclass headers other class || later) (same_below headers class rest)

  same_order : (headers : List Header) (clauses : Catches) → are_in_order headers (clauses_breaking own clauses) ≡ are_in_order headers clauses
  same_order headers NoCatches = refl
  same_order headers (AndCatch class variable body rest) = λ i. not (same_below headers class rest i) && same_order headers rest i

  -- ---- types

  mutual
    pub types_on : (around : Around) (at : Place) (scope : Scope) (p q : ℕ) (statement : Stm) → around.result ≡ None → lacks own statement ≡ true → Holds (stm_types around at scope p statement)
        → Holds (stm_types (record around { targets = jumps.Break own ∷ around.targets }) at scope q (breaking own statement))
    types_on around at scope p q (Block list) none a t = list_types_on around scope (p + 1) (q + 1) list none a t
    types_on around at scope p q (Labelled label statement) none a t =
        let parts = and_parts (not (own == label)) (lacks own statement) a in (
          ap not (same_declaration statement) ∙ t.0,
          (
            ap (λ same. not (same || is_one_of (jumps.Break label) around.targets)) (not-true (own == label) parts.0) ∙ t.1.0,
            types_on (with_targets (jumps.Break label ∷ []) around) (Behind label) scope (p + 1) (q + 1) statement none parts.1 t.1.1,
          ),
        )
    types_on around at scope p q (Declare variable kind initial) none a t = (t.0, (t.1.0, option_moved around.site (with_type variable kind scope) (p + 1) (q + 1) initial t.1.1))
    types_on around at scope p q (Set variable new) none a t = (t.0, (t.1.0, moved around.site scope (p + 1) (q + 1) new t.1.1))
    types_on around at scope p q (SetField object name new) none a t =
        (t.0, (t.1.0, (t.1.1.0, (moved around.site scope (p + 1) (q + 1) object t.1.1.1.0, moved around.site scope (p + 1 + weight_of_exp object) (q + 1 + weight_of_exp object) new t.1.1.1.1))))
    types_on around at scope p q (SetStatic class name new) none a t = (t.0, (t.1.0, (t.1.1.0, moved around.site scope (p + 1) (q + 1) new t.1.1.1)))
    types_on around at scope p q (SetElement array index new) none a t = (
      t.0,
      (
        moved around.site scope (p + 1) (q + 1) array t.1.0,
        (
          moved around.site scope (p + 1 + weight_of_exp array) (q + 1 + weight_of_exp array) index t.1.1.0,
          moved around.site scope (p + 1 + weight_of_exp array + weight_of_exp index) (q + 1 + weight_of_exp array + weight_of_exp index) new t.1.1.1,
        ),
      ),
    )
    types_on around at scope p q (Run call) none a t = (t.0, effect_moved around.site scope (p + 1) (q + 1) call t.1)
    types_on around at scope p q (If test first second) none a t =
        let parts = and_parts (list_lacks own first) (list_lacks own second) a in (
          t.0,
          (
            moved around.site scope (p + 1) (q + 1) test t.1.0,
            (
              list_types_on around scope (p + 1 + weight_of_exp test) (q + 1 + weight_of_exp test) first none parts.0 t.1.1.0,
              list_types_on around scope (p + 1 + weight_of_exp test + weight_of_stms first) (q + 1 + weight_of_exp test + weight_of_stms (all_breaking own first)) second none parts.1 t.1.1.1,
            ),
          ),
        )
    types_on around at scope p q (While test body) none a t =
        (t.0, (moved around.site scope (p + 1) (q + 1) test t.1.0, list_types_on (in_loop at around) scope (p + 1 + weight_of_exp test) (q + 1 + weight_of_exp test) body none a t.1.1))
    types_on around at scope p q (Switch on groups) none a t = (
      ap (λ no. not no && are_formed (groups_breaking own groups)) (same_end groups) ∙ ap (λ formed. not (has_no_group groups) && formed) (same_formed groups) ∙ t.0,
      (
        subst (λ labels. (if_typed (type_of (context_of around.site) scope on) (is_of (is_type types.Int)) && are_distinct labels) ≡ true) (sym (same_labels groups)) t.1.0,
        (moved around.site scope (p + 1) (q + 1) on t.1.1.0, groups_types_on around scope (p + 1 + weight_of_exp on) (q + 1 + weight_of_exp on) groups none a t.1.1.1),
      ),
    )
    types_on around at scope p q (trees.Break label) none a t = or_so (is_same_jump (jumps.Break own) (jumps.Break label)) (is_one_of (jumps.Break label) around.targets) t
    types_on around at scope p q (trees.Continue label) none a t = or_so (is_same_jump (jumps.Break own) (jumps.Continue label)) (is_one_of (jumps.Continue label) around.targets) t
    types_on around at scope p q (trees.Return None) none a t = ap (λ same. same || is_one_of (jumps.Break own) around.targets) (eq-eqb own own refl)
    types_on around at scope p q (trees.Return (Some value)) none a t = absurd (false≢true (subst (λ result. returns around.site scope result (Some value) ≡ true) none t.0))
    types_on around at scope p q (Throw exception) none a t = (t.0, moved around.site scope (p + 1) (q + 1) exception t.1)
    types_on around at scope p q (Rethrow variable) none a t = t
    types_on around at scope p q (Try body clauses) none a t =
        let parts = and_parts (list_lacks own body) (clauses_lack own clauses) a in (
          ap (λ no. not no && are_new_catches around.site scope (clauses_breaking own clauses)) (same_clauses clauses) ∙ ap (λ new. not (has_no_catch clauses) && new) (same_new around.site scope clauses) ∙ t.0,
          (
            same_exceptions around.site.headers clauses ∙ t.1.0,
            (list_types_on around scope (p + 1) (q + 1) body none parts.0 t.1.1.0, clauses_types_on around scope (p + 1 + weight_of_stms body) (q + 1 + weight_of_stms (all_breaking own body)) clauses none parts.1 t.1.1.1),
          ),
        )
    types_on around at scope p q (Synchronized monitor body) none a t =
        (t.0, (moved around.site scope (p + 1) (q + 1) monitor t.1.0, list_types_on around scope (p + 1 + weight_of_exp monitor) (q + 1 + weight_of_exp monitor) body none a t.1.1))
    types_on around at scope p q (Construct this arguments) none a t = (t.0, all_moved (without_this around.site) scope (p + 1) (q + 1) arguments t.1)
    types_on around at scope p q (Do body test) none a t =
        (t.0, (list_types_on (in_loop at around) scope (p + 1) (q + 1) body none a t.1.0, moved around.site scope (p + 1 + weight_of_stms body) (q + 1 + weight_of_stms (all_breaking own body)) test t.1.1))
    types_on around at scope p q (For test variable step body) none a t = (
      t.0,
      (
        t.1.0,
        (
          moved around.site scope (p + 1) (q + 1) test t.1.1.0,
          (
            moved around.site scope (p + 1 + weight_of_exp test) (q + 1 + weight_of_exp test) step t.1.1.1.0,
            list_types_on (in_loop at around) scope (p + 1 + weight_of_exp test + weight_of_exp step) (q + 1 + weight_of_exp test + weight_of_exp step) body none a t.1.1.1.1,
          ),
        ),
      ),
    )
    types_on around at scope p q (Finally body last) none a t =
        let parts = and_parts (list_lacks own body) (list_lacks own last) a in
        (list_types_on around scope (p + 1) (q + 1) body none parts.0 t.0, list_types_on around scope (p + 1 + weight_of_stms body) (q + 1 + weight_of_stms (all_breaking own body)) last none parts.1 t.1)

    pub list_types_on : (around : Around) (scope : Scope) (p q : ℕ) (list : Stms) → around.result ≡ None → list_lacks own list ≡ true → Holds (list_types around scope p list)
        → Holds (list_types (record around { targets = jumps.Break own ∷ around.targets }) scope q (all_breaking own list))
    list_types_on around scope p q Empty none a t = tt
    list_types_on around scope p q (And first rest) none a t =
        let parts = and_parts (lacks own first) (list_lacks own rest) a in (
          types_on around Elsewhere scope p q first none parts.0 t.0,
          subst (λ one. Holds (list_types (record around { targets = jumps.Break own ∷ around.targets }) (within one scope) (q + weight_of (breaking own first)) (all_breaking own rest))) (sym (same_declared own first))
              (list_types_on around (within (declared first) scope) (p + weight_of first) (q + weight_of (breaking own first)) rest none parts.1 t.1),
        )

    clauses_types_on : (around : Around) (scope : Scope) (p q : ℕ) (clauses : Catches) → around.result ≡ None → clauses_lack own clauses ≡ true → Holds (catches_types around scope p clauses)
        → Holds (catches_types (record around { targets = jumps.Break own ∷ around.targets }) scope q (clauses_breaking own clauses))
    clauses_types_on around scope p q NoCatches none a t = tt
    clauses_types_on around scope p q (AndCatch class variable body rest) none a t =
        let parts = and_parts (list_lacks own body) (clauses_lack own rest) a in
        (list_types_on around (with_type variable (Class class) scope) p q body none parts.0 t.0, clauses_types_on around scope (p + weight_of_stms body) (q + weight_of_stms (all_breaking own body)) rest none parts.1 t.1)

    groups_types_on : (around : Around) (scope : Scope) (p q : ℕ) (groups : Groups) → around.result ≡ None → groups_lack own groups ≡ true → Holds (groups_types around scope p groups)
        → Holds (groups_types (record around { targets = jumps.Break own ∷ around.targets }) scope q (groups_breaking own groups))
    groups_types_on around scope p q NoGroups none a t = tt
    groups_types_on around scope p q (AndGroup labels body rest) none a t =
        let parts = and_parts (list_lacks own body) (groups_lack own rest) a in (
          list_types_on around scope p q body none parts.0 t.0,
          subst (λ inner. Holds (groups_types (record around { targets = jumps.Break own ∷ around.targets }) inner (q + weight_of_stms (all_breaking own body)) (groups_breaking own rest))) (sym (same_behind own body scope))
              (groups_types_on around (behind body scope) (p + weight_of_stms body) (q + weight_of_stms (all_breaking own body)) rest none parts.1 t.1),
        )

pub breaking_types : BreakingTypes
breaking_types around scope own place other list none a t = list_types_on own around scope place other list none a t

-- ---- order and ways

equal_in : {a b : sets.Set} → a ≡ b → Inside a b
equal_in {a = a} e = subst (λ c. Inside a c) e (inside_same a)

-- the jump isn't a break of the label
abbrev IsOther : ℕ → Jump → Type 0
IsOther own jump = is_same_jump (jumps.Break own) jump ≡ false

other_label : (own label : ℕ) → not (own == label) ≡ true → IsOther own (jumps.Break label)
other_label own label e = not-true (own == label) e

module _ (own : ℕ) (around : Around) (none : around.result ≡ None) where
  abbrev before_site : reaching.Site
  before_site = record { around = constants_of around.site; may_return = true }

  abbrev after_site : reaching.Site
  after_site = record { around = constants_of around.site; may_return = false }

  mutual
    pub ordered_on : (at : Place) (targets : List Jump) (scope : Scope) (p : ℕ) (statement : Stm) → Holds (stm_types (record around { targets = targets }) at scope p statement) → IsOrdered before_site statement → IsOrdered after_site (breaking own statement)
    ordered_on at targets scope p (Block list) t o = list_ordered_on targets scope (p + 1) list t o
    ordered_on at targets scope p (Labelled label statement) t o = ordered_on (Behind label) (targets ++ jumps.Break label ∷ []) scope (p + 1) statement t.1.1 o
    ordered_on at targets scope p (Declare variable kind initial) t o = tt
    ordered_on at targets scope p (Set variable new) t o = tt
    ordered_on at targets scope p (SetField object name new) t o = tt
    ordered_on at targets scope p (SetStatic class name new) t o = tt
    ordered_on at targets scope p (SetElement array index new) t o = tt
    ordered_on at targets scope p (Run call) t o = tt
    ordered_on at targets scope p (If test first second) t o =
        (list_ordered_on targets scope (p + 1 + weight_of_exp test) first t.1.1.0 o.0, list_ordered_on targets scope (p + 1 + weight_of_exp test + weight_of_stms first) second t.1.1.1 o.1)
    ordered_on at targets scope p (While test body) t o = list_ordered_on (targets ++ turns_of (label_at at)) scope (p + 1 + weight_of_exp test) body t.1.1 o
    ordered_on at targets scope p (Switch on groups) t o = groups_ordered_on targets scope (p + 1 + weight_of_exp on) groups t.1.1.1 o
    ordered_on at targets scope p (trees.Break label) t o = tt
    ordered_on at targets scope p (trees.Continue label) t o = tt
    ordered_on at targets scope p (trees.Return None) t o = tt
    ordered_on at targets scope p (trees.Return (Some value)) t o = absurd (false≢true (subst (λ result. returns around.site scope result (Some value) ≡ true) none t.0))
    ordered_on at targets scope p (Throw exception) t o = tt
    ordered_on at targets scope p (Rethrow variable) t o = tt
    ordered_on at targets scope p (Try body clauses) t o =
        (same_order own around.site.headers clauses ∙ o.0, list_ordered_on targets scope (p + 1) body t.1.1.0 o.1, clauses_ordered_on targets scope (p + 1 + weight_of_stms body) clauses t.1.1.1 o.2)
    ordered_on at targets scope p (Synchronized monitor body) t o = list_ordered_on targets scope (p + 1 + weight_of_exp monitor) body t.1.1 o
    ordered_on at targets scope p (Construct this arguments) t o = tt
    ordered_on at targets scope p (Do body test) t o = list_ordered_on (targets ++ turns_of (label_at at)) scope (p + 1) body t.1.0 o
    ordered_on at targets scope p (For test variable step body) t o = list_ordered_on (targets ++ turns_of (label_at at)) scope (p + 1 + weight_of_exp test + weight_of_exp step) body t.1.1.1.1 o
    ordered_on at targets scope p (Finally body last) t o = (list_ordered_on targets scope (p + 1) body t.0 o.0, list_ordered_on targets scope (p + 1 + weight_of_stms body) last t.1 o.1)

    pub list_ordered_on : (targets : List Jump) (scope : Scope) (p : ℕ) (list : Stms) → Holds (list_types (record around { targets = targets }) scope p list) → AreOrdered before_site list → AreOrdered after_site (all_breaking own list)
    list_ordered_on targets scope p Empty t o = tt
    list_ordered_on targets scope p (And first rest) t o = (ordered_on Elsewhere targets scope p first t.0 o.0, list_ordered_on targets (within (declared first) scope) (p + weight_of first) rest t.1 o.1)

    clauses_ordered_on : (targets : List Jump) (scope : Scope) (p : ℕ) (clauses : Catches) → Holds (catches_types (record around { targets = targets }) scope p clauses) → AreClausesOrdered before_site clauses → AreClausesOrdered after_site (clauses_breaking own clauses)
    clauses_ordered_on targets scope p NoCatches t o = tt
    clauses_ordered_on targets scope p (AndCatch class variable body rest) t o =
        (list_ordered_on targets (with_type variable (Class class) scope) p body t.0 o.0, clauses_ordered_on targets scope (p + weight_of_stms body) rest t.1 o.1)

    groups_ordered_on : (targets : List Jump) (scope : Scope) (p : ℕ) (groups : Groups) → Holds (groups_types (record around { targets = targets }) scope p groups) → AreGroupsOrdered before_site groups → AreGroupsOrdered after_site (groups_breaking own groups)
    groups_ordered_on targets scope p NoGroups t o = tt
    groups_ordered_on targets scope p (AndGroup labels body rest) t o =
        (list_ordered_on targets scope p body t.0 o.0, groups_ordered_on targets (behind body scope) (p + weight_of_stms body) rest t.1 o.1)

module _ (own : ℕ) (known : Surroundings) where
  mutual
    pub same_completes : (label : Option ℕ) (statement : Stm) → lacks own statement ≡ true → completes known label (breaking own statement) ≡ completes known label statement
    same_completes label (Block list) a = list_same_completes list a
    same_completes before (Labelled label statement) a =
        let parts = and_parts (not (own == label)) (lacks own statement) a in
        λ i. same_completes (Some label) statement parts.1 i || same_leaves (jumps.Break label) statement (other_label own label parts.0) parts.1 i
    same_completes label (Declare variable kind initial) a = refl
    same_completes label (Set variable new) a = refl
    same_completes label (SetField object name new) a = refl
    same_completes label (SetStatic class name new) a = refl
    same_completes label (SetElement array index new) a = refl
    same_completes label (Run call) a = refl
    same_completes label (If test first second) a =
        let parts = and_parts (list_lacks own first) (list_lacks own second) a in
        λ i. list_same_completes first parts.0 i || list_same_completes second parts.1 i
    same_completes label (While test body) a = refl
    same_completes label (Switch on groups) a = λ i. not (same_labelled own None groups i) || groups_same_complete true groups a i
    same_completes label (trees.Break other) a = refl
    same_completes label (trees.Continue other) a = refl
    same_completes label (trees.Return None) a = refl
    same_completes label (trees.Return (Some value)) a = refl
    same_completes label (Throw exception) a = refl
    same_completes label (Rethrow variable) a = refl
    same_completes label (Try body clauses) a =
        let parts = and_parts (list_lacks own body) (clauses_lack own clauses) a in
        λ i. list_same_completes body parts.0 i || clauses_same_complete clauses parts.1 i
    same_completes label (Synchronized monitor body) a = list_same_completes body a
    same_completes label (Construct this arguments) a = refl
    same_completes None (Do body test) a = λ i. (list_same_completes body a i || false) && not (is_always true (constant_truth known test))
    same_completes (Some label) (Do body test) a = λ i. (list_same_completes body a i || list_same_leaves (jumps.Continue label) body refl a i) && not (is_always true (constant_truth known test))
    same_completes label (For test variable step body) a = refl
    same_completes label (Finally body last) a =
        let parts = and_parts (list_lacks own body) (list_lacks own last) a in
        λ i. list_same_completes body parts.0 i && list_same_completes last parts.1 i

    pub list_same_completes : (list : Stms) → list_lacks own list ≡ true → list_completes known (all_breaking own list) ≡ list_completes known list
    list_same_completes Empty a = refl
    list_same_completes (And first rest) a =
        let parts = and_parts (lacks own first) (list_lacks own rest) a in
        λ i. same_completes None first parts.0 i && list_same_completes rest parts.1 i

    clauses_same_complete : (clauses : Catches) → clauses_lack own clauses ≡ true → catches_complete known (clauses_breaking own clauses) ≡ catches_complete known clauses
    clauses_same_complete NoCatches a = refl
    clauses_same_complete (AndCatch class variable body rest) a =
        let parts = and_parts (list_lacks own body) (clauses_lack own rest) a in
        λ i. list_same_completes body parts.0 i || clauses_same_complete rest parts.1 i

    groups_same_complete : (before : Bool) (groups : Groups) → groups_lack own groups ≡ true → groups_complete known before (groups_breaking own groups) ≡ groups_complete known before groups
    groups_same_complete before NoGroups a = refl
    groups_same_complete before (AndGroup labels body rest) a =
        let parts = and_parts (list_lacks own body) (groups_lack own rest) a in
        ap (λ falls. groups_complete known falls (groups_breaking own rest)) (list_same_completes body parts.0) ∙ groups_same_complete (list_completes known body) rest parts.1

    pub same_leaves : (jump : Jump) (statement : Stm) → IsOther own jump → lacks own statement ≡ true → leaves known jump (breaking own statement) ≡ leaves known jump statement
    same_leaves jump (Block list) o a = list_same_leaves jump list o a
    same_leaves jump (Labelled label statement) o a =
        let parts = and_parts (not (own == label)) (lacks own statement) a in
        ap (λ left. not (is_jump_to label jump) && left) (same_leaves jump statement o parts.1)
    same_leaves jump (Declare variable kind initial) o a = refl
    same_leaves jump (Set variable new) o a = refl
    same_leaves jump (SetField object name new) o a = refl
    same_leaves jump (SetStatic class name new) o a = refl
    same_leaves jump (SetElement array index new) o a = refl
    same_leaves jump (Run call) o a = refl
    same_leaves jump (If test first second) o a =
        let parts = and_parts (list_lacks own first) (list_lacks own second) a in
        λ i. list_same_leaves jump first o parts.0 i || list_same_leaves jump second o parts.1 i
    same_leaves jump (While test body) o a = list_same_leaves jump body o a
    same_leaves jump (Switch on groups) o a = groups_same_leave jump groups o a
    same_leaves jump (trees.Break label) o a = refl
    same_leaves jump (trees.Continue label) o a = refl
    same_leaves jump (trees.Return None) o a = o
    same_leaves jump (trees.Return (Some value)) o a = refl
    same_leaves jump (Throw exception) o a = refl
    same_leaves jump (Rethrow variable) o a = refl
    same_leaves jump (Try body clauses) o a =
        let parts = and_parts (list_lacks own body) (clauses_lack own clauses) a in
        λ i. list_same_leaves jump body o parts.0 i || clauses_same_leave jump clauses o parts.1 i
    same_leaves jump (Synchronized monitor body) o a = list_same_leaves jump body o a
    same_leaves jump (Construct this arguments) o a = refl
    same_leaves jump (Do body test) o a = list_same_leaves jump body o a
    same_leaves jump (For test variable step body) o a = list_same_leaves jump body o a
    same_leaves jump (Finally body last) o a =
        let parts = and_parts (list_lacks own body) (list_lacks own last) a in
        λ i. (list_same_leaves jump body o parts.0 i && list_same_completes last parts.1 i) || list_same_leaves jump last o parts.1 i

    list_same_leaves : (jump : Jump) (list : Stms) → IsOther own jump → list_lacks own list ≡ true → list_leaves known jump (all_breaking own list) ≡ list_leaves known jump list
    list_same_leaves jump Empty o a = refl
    list_same_leaves jump (And first rest) o a =
        let parts = and_parts (lacks own first) (list_lacks own rest) a in
        λ i. same_leaves jump first o parts.0 i || (same_completes None first parts.0 i && list_same_leaves jump rest o parts.1 i)

    clauses_same_leave : (jump : Jump) (clauses : Catches) → IsOther own jump → clauses_lack own clauses ≡ true → catches_leave known jump (clauses_breaking own clauses) ≡ catches_leave known jump clauses
    clauses_same_leave jump NoCatches o a = refl
    clauses_same_leave jump (AndCatch class variable body rest) o a =
        let parts = and_parts (list_lacks own body) (clauses_lack own rest) a in
        λ i. list_same_leaves jump body o parts.0 i || clauses_same_leave jump rest o parts.1 i

    groups_same_leave : (jump : Jump) (groups : Groups) → IsOther own jump → groups_lack own groups ≡ true → groups_leave known jump (groups_breaking own groups) ≡ groups_leave known jump groups
    groups_same_leave jump NoGroups o a = refl
    groups_same_leave jump (AndGroup labels body rest) o a =
        let parts = and_parts (list_lacks own body) (groups_lack own rest) a in
        λ i. list_same_leaves jump body o parts.0 i || groups_same_leave jump rest o parts.1 i

  -- ---- what is assigned

  same_passed : (statement : Stm) (set : sets.Set) → passed_over (breaking own statement) set ≡ passed_over statement set
  same_passed (Block list) set = refl
  same_passed (Labelled label statement) set = refl
  same_passed (Declare variable kind initial) set = refl
  same_passed (Set variable new) set = refl
  same_passed (SetField object name new) set = refl
  same_passed (SetStatic class name new) set = refl
  same_passed (SetElement array index new) set = refl
  same_passed (Run call) set = refl
  same_passed (If test first second) set = refl
  same_passed (While test body) set = refl
  same_passed (Switch on groups) set = refl
  same_passed (trees.Break label) set = refl
  same_passed (trees.Continue label) set = refl
  same_passed (trees.Return None) set = refl
  same_passed (trees.Return (Some value)) set = refl
  same_passed (Throw exception) set = refl
  same_passed (Rethrow variable) set = refl
  same_passed (Try body clauses) set = refl
  same_passed (Synchronized monitor body) set = refl
  same_passed (Construct this arguments) set = refl
  same_passed (Do body test) set = refl
  same_passed (For test variable step body) set = refl
  same_passed (Finally body last) set = refl

  list_same_passed : (list : Stms) (set : sets.Set) → list_passed_over (all_breaking own list) set ≡ list_passed_over list set
  list_same_passed Empty set = refl
  list_same_passed (And first rest) set = ap (list_passed_over (all_breaking own rest)) (same_passed first set) ∙ list_same_passed rest (passed_over first set)

  groups_same_passed : (groups : Groups) (set : sets.Set) → groups_passed_over (groups_breaking own groups) set ≡ groups_passed_over groups set
  groups_same_passed NoGroups set = refl
  groups_same_passed (AndGroup labels body rest) set = ap (groups_passed_over (groups_breaking own rest)) (list_same_passed body set) ∙ groups_same_passed rest (list_passed_over body set)

  mutual
    pub same_after : (label : Option ℕ) (statement : Stm) (set : sets.Set) → lacks own statement ≡ true → after known label (breaking own statement) set ≡ after known label statement set
    same_after label (Block list) set a = list_same_after list set a
    same_after before (Labelled label statement) set a =
        let parts = and_parts (not (own == label)) (lacks own statement) a in
        λ i. meet (same_after (Some label) statement set parts.1 i) (same_before (jumps.Break label) statement set (other_label own label parts.0) parts.1 i)
    same_after label (Declare variable kind initial) set a = refl
    same_after label (Set variable new) set a = refl
    same_after label (SetField object name new) set a = refl
    same_after label (SetStatic class name new) set a = refl
    same_after label (SetElement array index new) set a = refl
    same_after label (Run call) set a = refl
    same_after label (If test first second) set a =
        let parts = and_parts (list_lacks own first) (list_lacks own second) a in
        λ i. meet (list_same_after first (when known test set).true parts.0 i) (list_same_after second (when known test set).false parts.1 i)
    same_after label (While test body) set a = refl
    same_after label (Switch on groups) set a =
        λ i. meet (groups_same_after groups everything (after_exp known on set) a i) (if same_labelled own None groups i then everything else groups_same_passed groups (after_exp known on set) i)
    same_after label (trees.Break other) set a = refl
    same_after label (trees.Continue other) set a = refl
    same_after label (trees.Return None) set a = refl
    same_after label (trees.Return (Some value)) set a = refl
    same_after label (Throw exception) set a = refl
    same_after label (Rethrow variable) set a = refl
    same_after label (Try body clauses) set a =
        let parts = and_parts (list_lacks own body) (clauses_lack own clauses) a in
        λ i. meet (list_same_after body set parts.0 i) (clauses_same_after clauses set parts.1 i)
    same_after label (Synchronized monitor body) set a = list_same_after body (after_exp known monitor set) a
    same_after label (Construct this arguments) set a = refl
    same_after None (Do body test) set a = ap (λ inner. (when known test inner).false) (list_same_after body set a)
    same_after (Some label) (Do body test) set a = λ i. (when known test (meet (list_same_after body set a i) (list_same_before (jumps.Continue label) body set refl a i))).false
    same_after label (For test variable step body) set a = refl
    same_after label (Finally body last) set a =
        let parts = and_parts (list_lacks own body) (list_lacks own last) a in
        λ i. join (list_same_after body set parts.0 i) (list_same_after last set parts.1 i)

    pub list_same_after : (list : Stms) (set : sets.Set) → list_lacks own list ≡ true → after_list known (all_breaking own list) set ≡ after_list known list set
    list_same_after Empty set a = refl
    list_same_after (And first rest) set a =
        let parts = and_parts (lacks own first) (list_lacks own rest) a in
        ap (after_list known (all_breaking own rest)) (same_after None first set parts.0) ∙ list_same_after rest (after known None first set) parts.1

    clauses_same_after : (clauses : Catches) (set : sets.Set) → clauses_lack own clauses ≡ true → after_catches known (clauses_breaking own clauses) set ≡ after_catches known clauses set
    clauses_same_after NoCatches set a = refl
    clauses_same_after (AndCatch class variable body rest) set a =
        let parts = and_parts (list_lacks own body) (clauses_lack own rest) a in
        λ i. meet (list_same_after body (with variable set) parts.0 i) (clauses_same_after rest set parts.1 i)

    groups_same_after : (groups : Groups) (before set : sets.Set) → groups_lack own groups ≡ true → after_groups known (groups_breaking own groups) before set ≡ after_groups known groups before set
    groups_same_after NoGroups before set a = refl
    groups_same_after (AndGroup labels body rest) before set a =
        let parts = and_parts (list_lacks own body) (groups_lack own rest) a in
        (λ i. after_groups known (groups_breaking own rest) (list_same_after body (meet before set) parts.0 i) (list_same_passed body set i))
        ∙ groups_same_after rest (after_list known body (meet before set)) (list_passed_over body set) parts.1

    pub same_before : (jump : Jump) (statement : Stm) (set : sets.Set) → IsOther own jump → lacks own statement ≡ true → before_jump known jump (breaking own statement) set ≡ before_jump known jump statement set
    same_before jump (Block list) set o a = list_same_before jump list set o a
    same_before jump (Labelled label statement) set o a =
        let parts = and_parts (not (own == label)) (lacks own statement) a in
        ap (λ inner. if is_jump_to label jump then everything else inner) (same_before jump statement set o parts.1)
    same_before jump (Declare variable kind initial) set o a = refl
    same_before jump (Set variable new) set o a = refl
    same_before jump (SetField object name new) set o a = refl
    same_before jump (SetStatic class name new) set o a = refl
    same_before jump (SetElement array index new) set o a = refl
    same_before jump (Run call) set o a = refl
    same_before jump (If test first second) set o a =
        let parts = and_parts (list_lacks own first) (list_lacks own second) a in
        λ i. meet (list_same_before jump first (when known test set).true o parts.0 i) (list_same_before jump second (when known test set).false o parts.1 i)
    same_before jump (While test body) set o a = list_same_before jump body (when known test set).true o a
    same_before jump (Switch on groups) set o a = groups_same_before jump groups everything (after_exp known on set) o a
    same_before jump (trees.Break label) set o a = refl
    same_before jump (trees.Continue label) set o a = refl
    same_before jump (trees.Return None) set o a = ap (λ (same : Bool). if same then set else everything) o
    same_before jump (trees.Return (Some value)) set o a = refl
    same_before jump (Throw exception) set o a = refl
    same_before jump (Rethrow variable) set o a = refl
    same_before jump (Try body clauses) set o a =
        let parts = and_parts (list_lacks own body) (clauses_lack own clauses) a in
        λ i. meet (list_same_before jump body set o parts.0 i) (clauses_same_before jump clauses set o parts.1 i)
    same_before jump (Synchronized monitor body) set o a = list_same_before jump body (after_exp known monitor set) o a
    same_before jump (Construct this arguments) set o a = refl
    same_before jump (Do body test) set o a = list_same_before jump body set o a
    same_before jump (For test variable step body) set o a = list_same_before jump body (when known test set).true o a
    same_before jump (Finally body last) set o a =
        let parts = and_parts (list_lacks own body) (list_lacks own last) a in
        λ i. meet (if list_same_completes last parts.1 i then join (list_same_before jump body set o parts.0 i) (list_same_after last set parts.1 i) else everything) (list_same_before jump last set o parts.1 i)

    list_same_before : (jump : Jump) (list : Stms) (set : sets.Set) → IsOther own jump → list_lacks own list ≡ true → before_list_jump known jump (all_breaking own list) set ≡ before_list_jump known jump list set
    list_same_before jump Empty set o a = refl
    list_same_before jump (And first rest) set o a =
        let parts = and_parts (lacks own first) (list_lacks own rest) a in
        λ i. meet (same_before jump first set o parts.0 i) ((ap (before_list_jump known jump (all_breaking own rest)) (same_after None first set parts.0) ∙ list_same_before jump rest (after known None first set) o parts.1) i)

    clauses_same_before : (jump : Jump) (clauses : Catches) (set : sets.Set) → IsOther own jump → clauses_lack own clauses ≡ true → before_catches_jump known jump (clauses_breaking own clauses) set ≡ before_catches_jump known jump clauses set
    clauses_same_before jump NoCatches set o a = refl
    clauses_same_before jump (AndCatch class variable body rest) set o a =
        let parts = and_parts (list_lacks own body) (clauses_lack own rest) a in
        λ i. meet (list_same_before jump body (with variable set) o parts.0 i) (clauses_same_before jump rest set o parts.1 i)

    groups_same_before : (jump : Jump) (groups : Groups) (before set : sets.Set) → IsOther own jump → groups_lack own groups ≡ true → before_groups_jump known jump (groups_breaking own groups) before set ≡ before_groups_jump known jump groups before set
    groups_same_before jump NoGroups before set o a = refl
    groups_same_before jump (AndGroup labels body rest) before set o a =
        let parts = and_parts (list_lacks own body) (groups_lack own rest) a in
        λ i. meet (list_same_before jump body (meet before set) o parts.0 i)
        (((λ j. before_groups_jump known jump (groups_breaking own rest) (list_same_after body (meet before set) parts.0 j) (list_same_passed body set j))
        ∙ groups_same_before jump rest (after_list known body (meet before set)) (list_passed_over body set) o parts.1) i)

  -- ---- what is read

  turn_same : (label : Option ℕ) (body : Stms) (set : sets.Set) → list_lacks own body ≡ true → after_turn known label (all_breaking own body) set ≡ after_turn known label body set
  turn_same None body set a = list_same_after body set a
  turn_same (Some label) body set a = λ i. meet (list_same_after body set a i) (list_same_before (jumps.Continue label) body set refl a i)

  mutual
    pub reads_on : (label : Option ℕ) (set : sets.Set) (p q : ℕ) (statement : Stm) → lacks own statement ≡ true → Holds (stm_reads known label set p statement) → Holds (stm_reads known label set q (breaking own statement))
    reads_on label set p q (Block list) a d = list_reads_on set (p + 1) (q + 1) list a d
    reads_on before set p q (Labelled label statement) a d = reads_on (Some label) set (p + 1) (q + 1) statement (and_parts (not (own == label)) (lacks own statement) a).1 d
    reads_on label set p q (Declare variable kind initial) a d = option_reads_more known (p + 1) (q + 1) initial (inside_same (sets.without variable set)) d
    reads_on label set p q (Set variable new) a d = reads_more known (p + 1) (q + 1) new (inside_same set) d
    reads_on label set p q (SetField object name new) a d =
        (reads_more known (p + 1) (q + 1) object (inside_same set) d.0, reads_more known (p + 1 + weight_of_exp object) (q + 1 + weight_of_exp object) new (inside_same (after_exp known object set)) d.1)
    reads_on label set p q (SetStatic class name new) a d = reads_more known (p + 1) (q + 1) new (inside_same set) d
    reads_on label set p q (SetElement array index new) a d = (
      reads_more known (p + 1) (q + 1) array (inside_same set) d.0,
      (
        reads_more known (p + 1 + weight_of_exp array) (q + 1 + weight_of_exp array) index (inside_same (after_exp known array set)) d.1.0,
        reads_more known (p + 1 + weight_of_exp array + weight_of_exp index) (q + 1 + weight_of_exp array + weight_of_exp index) new (inside_same (after_exp known index (after_exp known array set))) d.1.1,
      ),
    )
    reads_on label set p q (Run call) a d = reads_more known (p + 1) (q + 1) call (inside_same set) d
    reads_on label set p q (If test first second) a d =
        let parts = and_parts (list_lacks own first) (list_lacks own second) a in (
          reads_more known (p + 1) (q + 1) test (inside_same set) d.0,
          (
            list_reads_on (when known test set).true (p + 1 + weight_of_exp test) (q + 1 + weight_of_exp test) first parts.0 d.1.0,
            list_reads_on (when known test set).false (p + 1 + weight_of_exp test + weight_of_stms first) (q + 1 + weight_of_exp test + weight_of_stms (all_breaking own first)) second parts.1 d.1.1,
          ),
        )
    reads_on label set p q (While test body) a d =
        (reads_more known (p + 1) (q + 1) test (inside_same set) d.0, list_reads_on (when known test set).true (p + 1 + weight_of_exp test) (q + 1 + weight_of_exp test) body a d.1)
    reads_on label set p q (Switch on groups) a d =
        (reads_more known (p + 1) (q + 1) on (inside_same set) d.0, groups_reads_on everything (after_exp known on set) (p + 1 + weight_of_exp on) (q + 1 + weight_of_exp on) groups a d.1)
    reads_on label set p q (trees.Break other) a d = tt
    reads_on label set p q (trees.Continue other) a d = tt
    reads_on label set p q (trees.Return None) a d = tt
    reads_on label set p q (trees.Return (Some value)) a d = reads_more known (p + 1) (q + 1) value (inside_same set) d
    reads_on label set p q (Throw exception) a d = reads_more known (p + 1) (q + 1) exception (inside_same set) d
    reads_on label set p q (Rethrow variable) a d = d
    reads_on label set p q (Try body clauses) a d =
        let parts = and_parts (list_lacks own body) (clauses_lack own clauses) a in
        (list_reads_on set (p + 1) (q + 1) body parts.0 d.0, clauses_reads_on set (p + 1 + weight_of_stms body) (q + 1 + weight_of_stms (all_breaking own body)) clauses parts.1 d.1)
    reads_on label set p q (Synchronized monitor body) a d =
        (reads_more known (p + 1) (q + 1) monitor (inside_same set) d.0, list_reads_on (after_exp known monitor set) (p + 1 + weight_of_exp monitor) (q + 1 + weight_of_exp monitor) body a d.1)
    reads_on label set p q (Construct this arguments) a d = all_reads_more known (p + 1) (q + 1) arguments (inside_same set) d
    reads_on label set p q (Do body test) a d = (
      list_reads_on set (p + 1) (q + 1) body a d.0,
      reads_more known (p + 1 + weight_of_stms body) (q + 1 + weight_of_stms (all_breaking own body)) test (equal_in (sym (turn_same label body set a))) d.1,
    )
    reads_on label set p q (For test variable step body) a d = (
      reads_more known (p + 1) (q + 1) test (inside_same set) d.0,
      (
        reads_more known (p + 1 + weight_of_exp test) (q + 1 + weight_of_exp test) step (equal_in (sym (turn_same label body (when known test set).true a))) d.1.0,
        list_reads_on (when known test set).true (p + 1 + weight_of_exp test + weight_of_exp step) (q + 1 + weight_of_exp test + weight_of_exp step) body a d.1.1,
      ),
    )
    reads_on label set p q (Finally body last) a d =
        let parts = and_parts (list_lacks own body) (list_lacks own last) a in
        (list_reads_on set (p + 1) (q + 1) body parts.0 d.0, list_reads_on set (p + 1 + weight_of_stms body) (q + 1 + weight_of_stms (all_breaking own body)) last parts.1 d.1)

    pub list_reads_on : (set : sets.Set) (p q : ℕ) (list : Stms) → list_lacks own list ≡ true → Holds (list_reads known set p list) → Holds (list_reads known set q (all_breaking own list))
    list_reads_on set p q Empty a d = tt
    list_reads_on set p q (And first rest) a d =
        let parts = and_parts (lacks own first) (list_lacks own rest) a in (
          reads_on None set p q first parts.0 d.0,
          subst (λ inner. Holds (list_reads known inner (q + weight_of (breaking own first)) (all_breaking own rest))) (sym (same_after None first set parts.0))
              (list_reads_on (after known None first set) (p + weight_of first) (q + weight_of (breaking own first)) rest parts.1 d.1),
        )

    clauses_reads_on : (set : sets.Set) (p q : ℕ) (clauses : Catches) → clauses_lack own clauses ≡ true → Holds (catches_reads known set p clauses) → Holds (catches_reads known set q (clauses_breaking own clauses))
    clauses_reads_on set p q NoCatches a d = tt
    clauses_reads_on set p q (AndCatch class variable body rest) a d =
        let parts = and_parts (list_lacks own body) (clauses_lack own rest) a in
        (list_reads_on (with variable set) p q body parts.0 d.0, clauses_reads_on set (p + weight_of_stms body) (q + weight_of_stms (all_breaking own body)) rest parts.1 d.1)

    groups_reads_on : (before set : sets.Set) (p q : ℕ) (groups : Groups) → groups_lack own groups ≡ true → Holds (groups_reads known before set p groups) → Holds (groups_reads known before set q (groups_breaking own groups))
    groups_reads_on before set p q NoGroups a d = tt
    groups_reads_on before set p q (AndGroup labels body rest) a d =
        let parts = and_parts (list_lacks own body) (groups_lack own rest) a in (
          list_reads_on (meet before set) p q body parts.0 d.0,
          subst (λ inner. Holds (groups_reads known inner (list_passed_over (all_breaking own body) set) (q + weight_of_stms (all_breaking own body)) (groups_breaking own rest))) (sym (list_same_after body (meet before set) parts.0))
              (subst (λ inner. Holds (groups_reads known (after_list known body (meet before set)) inner (q + weight_of_stms (all_breaking own body)) (groups_breaking own rest))) (sym (list_same_passed body set))
              (groups_reads_on (after_list known body (meet before set)) (list_passed_over body set) (p + weight_of_stms body) (q + weight_of_stms (all_breaking own body)) rest parts.1 d.1)),
        )

pub breaking_flows : BreakingFlows
breaking_flows around scope own place other at set list none a t o d =
    (list_ordered_on own around none around.targets scope place list t o, list_reads_on own (constants_of around.site) set other at list a d, list_same_completes own (constants_of around.site) list a)
