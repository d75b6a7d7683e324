-- A tree with parameters in place of their copies is ready where the tree is.
use Rattle.std.proofs.Common.{ℕ, Bool, true, not, List, Option, Some, None, ◌≡◌, refl, sym, ◌∙◌, subst, ◌&&◌, ◌==◌}
use Rattle.std.proofs.lemmas.Bool.{and_parts}
use Rattle.dj_names.specs.declared.header.Header.{Header}
use Rattle.dj_names.specs.declared.members.ClassMembers.{ClassMembers}
use Rattle.dj_names.specs.Types.{JType, parameters_of}
use Rattle.dj_syntax.specs.Trees.{Exps, Stm, Block, Labelled, Declare, Set, SetField, SetStatic, SetElement, Run, If, While, Switch, Return, Throw, Rethrow, Try, Synchronized, Construct, Do, For, Finally, Stms, Empty, And, Groups, NoGroups, AndGroup, Catches, NoCatches, AndCatch, Body}
use Rattle.dj_syntax.specs.Trees as trees
use Rattle.dj_meaning.specs.StaticTypes.{Scope}
use Rattle.dj_places.specs.Rules.{Holds}
use Rattle.dj_variables.specs.Sets.{everything}
use Rattle.dj_typed.specs.Statements.{Around}
use Rattle.dj_typed.specs.Bodies.{Writing, around_in}
use Rattle.dj_formed.specs.Formed.{IsFormed, constants_of}
use Rattle.dj_renaming.specs.Renaming.{Names, AreApart, renamed, all_renamed, groups_renamed, catches_renamed, AreScopesAlike}
use Rattle.dj_renaming.proofs.Types.{renamed_types}
use Rattle.dj_renaming.proofs.Reach.{list_completes_alike}
use Rattle.dj_numbered.proofs.Assigning.{renamed_reads}
use Rattle.dj_declare.specs.Breaking.{lacks, list_lacks, clauses_lack, groups_lack}
use Rattle.dj_declare.specs.Escapes.{HasNoTry, HaveNoTry, GroupsHaveNoTry}
use Rattle.dj_declaring.specs.declared.entry.Entry.{Entry}
use Rattle.dj_declaring.specs.Starting.{tree_scope}
use Rattle.dj_declaring.specs.Returning.{call_in, opening_call, behind_call}
use Rattle.dj_declaring.specs.Declaring.{IsFormedBehind}
use Rattle.dj_declaring.proofs.Ordering.{behind_quiet}
use Rattle.dj_parameters.specs.Parameters.{parameter_names, behind_opening, with_parameters}
use Rattle.dj_parameters.specs.Laws.{ReadyWithParameters}
use Rattle.dj_parameters.proofs.Exchanging.{names_apart, same_types}

-- ---- formed

module _ (names : Names) (apart : AreApart names) where
  pub formed_by_names : (writing : Writing) (headers : List Header) (members : List ClassMembers) (method : Body) (scope : Scope) → AreScopesAlike names scope scope → (tree : Stms)
      → IsFormed (around_in writing headers members method) scope tree → IsFormed (around_in writing headers members method) scope (all_renamed names tree)
  formed_by_names writing headers members method scope agree tree formed =
      let around : Around = around_in writing headers members method in
      record {
        types = subst Holds (renamed_types names apart around scope scope agree 0 tree) formed.types;
        reads = subst Holds (renamed_reads names apart (constants_of around.site) everything everything (record { same = λ variable. refl }) 0 tree) formed.reads;
        ends = sym (list_completes_alike names apart (constants_of around.site) tree) ∙ formed.ends;
      }

  -- ---- the call with which a tree begins

  no_call : (statement : Stm) → call_in statement ≡ None → call_in (renamed names statement) ≡ None
  no_call (Block list) e = refl
  no_call (Labelled label statement) e = refl
  no_call (Declare variable type initial) e = refl
  no_call (Set variable new) e = refl
  no_call (SetField object name new) e = refl
  no_call (SetStatic class name new) e = refl
  no_call (SetElement array index new) e = refl
  no_call (Run call) e = refl
  no_call (If test first second) e = refl
  no_call (While test body) e = refl
  no_call (Switch on arms) e = refl
  no_call (trees.Break label) e = refl
  no_call (trees.Continue label) e = refl
  no_call (Return value) e = refl
  no_call (Throw exception) e = refl
  no_call (Rethrow variable) e = refl
  no_call (Try body clauses) e = refl
  no_call (Synchronized monitor body) e = refl
  no_call (Construct own arguments) e = absurd cc
  no_call (Do body test) e = refl
  no_call (For test variable step body) e = refl
  no_call (Finally body last) e = refl

  no_opening : (tree : Stms) → opening_call tree ≡ None → opening_call (all_renamed names tree) ≡ None
  no_opening Empty e = refl
  no_opening (And first rest) e = no_call first e

  pub same_opening : (tree : Stms) (call : Option (Bool × Exps)) → opening_call tree ≡ call → opening_call (behind_opening names tree call) ≡ call
  same_opening tree None e = no_opening tree e
  same_opening tree (Some call) e = refl

  -- ---- without `try`

  mutual
    quiet_by_names : (statement : Stm) → HasNoTry statement → HasNoTry (renamed names statement)
    quiet_by_names (Block list) quiet = all_quiet list quiet
    quiet_by_names (Labelled label statement) quiet = quiet_by_names statement quiet
    quiet_by_names (Declare variable type initial) quiet = tt
    quiet_by_names (Set variable new) quiet = tt
    quiet_by_names (SetField object name new) quiet = tt
    quiet_by_names (SetStatic class name new) quiet = tt
    quiet_by_names (SetElement array index new) quiet = tt
    quiet_by_names (Run call) quiet = tt
    quiet_by_names (If test first second) quiet = (all_quiet first quiet.0, all_quiet second quiet.1)
    quiet_by_names (While test body) quiet = all_quiet body quiet
    quiet_by_names (Switch on groups) quiet = groups_quiet groups quiet
    quiet_by_names (trees.Break label) quiet = tt
    quiet_by_names (trees.Continue label) quiet = tt
    quiet_by_names (Return value) quiet = tt
    quiet_by_names (Throw exception) quiet = tt
    quiet_by_names (Rethrow variable) quiet = tt
    quiet_by_names (Try body clauses) quiet = absurd quiet
    quiet_by_names (Synchronized monitor body) quiet = all_quiet body quiet
    quiet_by_names (Construct own arguments) quiet = tt
    quiet_by_names (Do body test) quiet = all_quiet body quiet
    quiet_by_names (For test variable step body) quiet = all_quiet body quiet
    quiet_by_names (Finally body last) quiet = (all_quiet body quiet.0, all_quiet last quiet.1)

    all_quiet : (list : Stms) → HaveNoTry list → HaveNoTry (all_renamed names list)
    all_quiet Empty quiet = tt
    all_quiet (And first rest) quiet = (quiet_by_names first quiet.0, all_quiet rest quiet.1)

    groups_quiet : (groups : Groups) → GroupsHaveNoTry groups → GroupsHaveNoTry (groups_renamed names groups)
    groups_quiet NoGroups quiet = tt
    groups_quiet (AndGroup labels body rest) quiet = (all_quiet body quiet.0, groups_quiet rest quiet.1)

  quiet_opening : (tree : Stms) (call : Option (Bool × Exps)) → HaveNoTry tree → HaveNoTry (behind_opening names tree call)
  quiet_opening tree None quiet = all_quiet tree quiet
  quiet_opening tree (Some call) quiet = (tt, all_quiet (behind_call tree) (behind_quiet tree quiet))

-- ---- labels that a tree lacks

module _ (names : Names) (labels : (label : ℕ) → label ≡ names.label label) (own : ℕ) where
  mutual
    same_lacks : (statement : Stm) → lacks own statement ≡ lacks own (renamed names statement)
    same_lacks (Block list) = λ i. all_lack list i
    same_lacks (Labelled label statement) = λ i. not (own == labels label i) && same_lacks statement i
    same_lacks (Declare variable type initial) = refl
    same_lacks (Set variable new) = refl
    same_lacks (SetField object name new) = refl
    same_lacks (SetStatic class name new) = refl
    same_lacks (SetElement array index new) = refl
    same_lacks (Run call) = refl
    same_lacks (If test first second) = λ i. all_lack first i && all_lack second i
    same_lacks (While test body) = λ i. all_lack body i
    same_lacks (Switch on groups) = λ i. groups_lack_so groups i
    same_lacks (trees.Break label) = refl
    same_lacks (trees.Continue label) = refl
    same_lacks (Return value) = refl
    same_lacks (Throw exception) = refl
    same_lacks (Rethrow variable) = refl
    same_lacks (Try body clauses) = λ i. all_lack body i && clauses_lack_so clauses i
    same_lacks (Synchronized monitor body) = λ i. all_lack body i
    same_lacks (Construct this arguments) = refl
    same_lacks (Do body test) = λ i. all_lack body i
    same_lacks (For test variable step body) = λ i. all_lack body i
    same_lacks (Finally body last) = λ i. all_lack body i && all_lack last i

    pub all_lack : (list : Stms) → list_lacks own list ≡ list_lacks own (all_renamed names list)
    all_lack Empty = refl
    all_lack (And first rest) = λ i. same_lacks first i && all_lack rest i

    clauses_lack_so : (clauses : Catches) → clauses_lack own clauses ≡ clauses_lack own (catches_renamed names clauses)
    clauses_lack_so NoCatches = refl
    clauses_lack_so (AndCatch class variable body rest) = λ i. all_lack body i && clauses_lack_so rest i

    groups_lack_so : (groups : Groups) → groups_lack own groups ≡ groups_lack own (groups_renamed names groups)
    groups_lack_so NoGroups = refl
    groups_lack_so (AndGroup labels body rest) = λ i. all_lack body i && groups_lack_so rest i

  behind_lacks : (tree : Stms) → list_lacks own tree ≡ true → list_lacks own (behind_call tree) ≡ true
  behind_lacks Empty e = e
  behind_lacks (And first rest) e = (and_parts (lacks own first) (list_lacks own rest) e).1

  lacks_opening : (tree : Stms) (call : Option (Bool × Exps)) → list_lacks own tree ≡ true → list_lacks own (behind_opening names tree call) ≡ true
  lacks_opening tree None e = sym (all_lack tree) ∙ e
  lacks_opening tree (Some call) e = sym (all_lack (behind_call tree)) ∙ behind_lacks tree e

-- ---- the law

module _ (headers : List Header) (members : List ClassMembers) (writing : Writing) (method : Body) (kinds : List JType) (entry : Entry) where
  abbrev names : Names
  names = parameter_names (parameters_of method.descriptor) kinds entry

  apart : AreApart names
  apart = names_apart (parameters_of method.descriptor) kinds entry

  formed_by : (tree : Stms) → IsFormed (around_in writing headers members method) (tree_scope (parameters_of method.descriptor) kinds) tree
      → IsFormed (around_in writing headers members method) (tree_scope (parameters_of method.descriptor) kinds) (all_renamed names tree)
  formed_by tree formed =
      formed_by_names names apart writing headers members method (tree_scope (parameters_of method.descriptor) kinds) (same_types (parameters_of method.descriptor) kinds entry) tree formed

  formed_behind : (tree : Stms) (call : Option (Bool × Exps)) → IsFormedBehind headers members writing method kinds tree call → IsFormedBehind headers members writing method kinds (behind_opening names tree call) call
  formed_behind tree None formed = (formed.0, formed_by tree formed.1)
  formed_behind tree (Some call) formed = (formed.0, formed.1, formed_by (behind_call tree) formed.2, formed.3)

pub ready_with_parameters : ReadyWithParameters
ready_with_parameters headers members writing method kinds entry own tree ready = record {
  right = ready.right;
  named = ready.named;
  few = ready.few;
  initialises = ready.initialises;
  constructs = ready.constructs;
  enters = ready.enters;
  formed = subst (IsFormedBehind headers members writing method kinds (with_parameters (parameters_of method.descriptor) kinds entry tree))
      (sym (same_opening (names headers members writing method kinds entry) (apart headers members writing method kinds entry) tree (opening_call tree) refl))
      (formed_behind headers members writing method kinds entry tree (opening_call tree) ready.formed);
  quiet = quiet_opening (names headers members writing method kinds entry) (apart headers members writing method kinds entry) tree (opening_call tree) ready.quiet;
  lacks = lacks_opening (names headers members writing method kinds entry) (λ label. refl) own tree (opening_call tree) ready.lacks;
}
