-- What keeps the rules of types breaks to no label that isn't around it.
use Rattle.std.proofs.Common.{ℕ, ℤ, ◌+◌, ◌==◌, Bool, true, false, not, ◌&&◌, ◌||◌, List, [], ◌∷◌, ◌++◌, Option, Some, None, ◌≡◌, refl, sym, ap, ◌∙◌, subst, inl, inr}
use Rattle.std.proofs.lemmas.Bool.{and_parts, or_cases, false≢true, not-true, eqb-true}
use Rattle.dj_names.specs.Types.{Class}
use Rattle.dj_syntax.specs.Trees.{Exp, Stm, Block, Labelled, Declare, Set, SetField, SetStatic, SetElement, Run, If, While, Switch, Return, Throw, Rethrow, Try, Synchronized, Construct, Do, For, Finally, Stms, Empty, And, Groups, NoGroups, AndGroup, Catches, NoCatches, AndCatch}
use Rattle.dj_syntax.specs.Trees as trees
use Rattle.dj_syntax.specs.Weight.{weight_of, weight_of_exp, weight_of_stms}
use Rattle.dj_meaning.specs.StaticTypes.{Scope, with_type}
use Rattle.dj_meaning.specs.Declarations.{declared, within, behind}
use Rattle.dj_meaning.specs.Statements.{Place, First, Behind, Elsewhere, label_at, is_labelled}
use Rattle.dj_meaning.specs.Ways.{Ways, ways, all_ways, group_ways, entered_ways, clause_ways}
use Rattle.dj_places.specs.Rules.{Holds}
use Rattle.dj_reach.specs.declared.jump.Jump.{Jump}
use Rattle.dj_reach.specs.declared.jump.Jump.TheVariants as jumps
use Rattle.dj_reach.specs.Jumps.{is_same_jump, is_one_of}
use Rattle.dj_typed.specs.Statements.{Around, with_targets, turns_of, in_loop, stm_types, list_types, catches_types, groups_types}
use Rattle.dj_never_stuck.proofs.Flows.{one_of_cases, only_one, outside_one, flipped}

-- one of two, or none
among : (a b : Bool) {A : Type 0} → (a || b) ≡ true → (a ≡ true → A) → (b ≡ true → A) → A
among a b e f g = elim (or_cases a b e) [ inl is ↦ f is | inr is ↦ g is ]

and_second : (a b : Bool) → (a && b) ≡ true → b ≡ true
and_second a b e = (and_parts a b e).1

-- a loop takes no break
around_loop : (own : Option ℕ) (label : ℕ) (targets : List Jump) → is_one_of (jumps.Break label) (targets ++ turns_of own) ≡ true → is_one_of (jumps.Break label) targets ≡ true
around_loop own label targets e = elim (one_of_cases (jumps.Break label) targets (turns_of own) e) [
  | inl is ↦ is
  | inr is ↦ absurd (go own is)
]
  where
    go : (own : Option ℕ) → is_one_of (jumps.Break label) (turns_of own) ≡ true → ⊥
    go None e = false≢true e
    go (Some other) e = false≢true (only_one (jumps.Break label) (jumps.Continue other) e)

mutual
  pub way_taken : (around : Around) (at : Place) (scope : Scope) (p label : ℕ) (statement : Stm) → Holds (stm_types around at scope p statement) → (ways (label_at at) statement).jumps label ≡ true → is_one_of (jumps.Break label) around.targets ≡ true
  way_taken around at scope p label (Block list) t e = all_taken around scope (p + 1) label list t e
  way_taken around at scope p label (Labelled own statement) t e =
      let parts = and_parts (not (label == own)) ((ways (Some own) statement).jumps label) e in
      outside_one (jumps.Break label) (jumps.Break own) around.targets (flipped label own (not-true (label == own) parts.0))
      (way_taken (with_targets (jumps.Break own ∷ []) around) (Behind own) scope (p + 1) label statement t.1.1 parts.1)
  way_taken around at scope p label (Declare variable kind initial) t e = absurd (false≢true e)
  way_taken around at scope p label (Set variable new) t e = absurd (false≢true e)
  way_taken around at scope p label (SetField object name new) t e = absurd (false≢true e)
  way_taken around at scope p label (SetStatic class name new) t e = absurd (false≢true e)
  way_taken around at scope p label (SetElement array index new) t e = absurd (false≢true e)
  way_taken around at scope p label (Run call) t e = absurd (false≢true e)
  way_taken around at scope p label (If test first second) t e =
      among ((all_ways first).jumps label) ((all_ways second).jumps label) e (all_taken around scope (p + 1 + weight_of_exp test) label first t.1.1.0)
      (all_taken around scope (p + 1 + weight_of_exp test + weight_of_stms first) label second t.1.1.1)
  way_taken around at scope p label (While test body) t e = around_loop (label_at at) label around.targets (all_taken (in_loop at around) scope (p + 1 + weight_of_exp test) label body t.1.1 e)
  way_taken around at scope p label (Switch on groups) t e =
      among ((entered_ways groups).jumps label) false e (entered_taken around scope (p + 1 + weight_of_exp on) label groups t.1.1.1) (λ no. absurd (false≢true no))
  way_taken around at scope p label (trees.Break own) t e = subst (λ other. is_one_of (jumps.Break other) around.targets ≡ true) (sym (eqb-true label own e)) t
  way_taken around at scope p label (trees.Continue own) t e = absurd (false≢true e)
  way_taken around at scope p label (Return value) t e = absurd (false≢true e)
  way_taken around at scope p label (Throw exception) t e = absurd (false≢true e)
  way_taken around at scope p label (Rethrow variable) t e = absurd (false≢true e)
  way_taken around at scope p label (Try body clauses) t e =
      among ((all_ways body).jumps label) ((clause_ways clauses).jumps label) e (all_taken around scope (p + 1) label body t.1.1.0) (clauses_taken around scope (p + 1 + weight_of_stms body) label clauses t.1.1.1)
  way_taken around at scope p label (Synchronized monitor body) t e = all_taken around scope (p + 1 + weight_of_exp monitor) label body t.1.1 e
  way_taken around at scope p label (Construct this arguments) t e = absurd (false≢true e)
  way_taken around at scope p label (Do body test) t e = around_loop (label_at at) label around.targets (all_taken (in_loop at around) scope (p + 1) label body t.1.0 e)
  way_taken around at scope p label (For test variable step body) t e =
      around_loop (label_at at) label around.targets (all_taken (in_loop at around) scope (p + 1 + weight_of_exp test + weight_of_exp step) label body t.1.1.1.1 e)
  way_taken around at scope p label (Finally body last) t e =
      among ((all_ways last).jumps label) ((all_ways last).falls && (all_ways body).jumps label) e (all_taken around scope (p + 1 + weight_of_stms body) label last t.1)
      (λ both. all_taken around scope (p + 1) label body t.0 (and_second (all_ways last).falls ((all_ways body).jumps label) both))

  pub all_taken : (around : Around) (scope : Scope) (p label : ℕ) (list : Stms) → Holds (list_types around scope p list) → (all_ways list).jumps label ≡ true → is_one_of (jumps.Break label) around.targets ≡ true
  all_taken around scope p label Empty t e = absurd (false≢true e)
  all_taken around scope p label (And first rest) t e =
      among ((ways None first).jumps label) ((ways None first).falls && (all_ways rest).jumps label) e (way_taken around Elsewhere scope p label first t.0)
      (λ both. all_taken around (within (declared first) scope) (p + weight_of first) label rest t.1 (and_second (ways None first).falls ((all_ways rest).jumps label) both))

  clauses_taken : (around : Around) (scope : Scope) (p label : ℕ) (clauses : Catches) → Holds (catches_types around scope p clauses) → (clause_ways clauses).jumps label ≡ true → is_one_of (jumps.Break label) around.targets ≡ true
  clauses_taken around scope p label NoCatches t e = absurd (false≢true e)
  clauses_taken around scope p label (AndCatch class variable body rest) t e =
      among ((all_ways body).jumps label) ((clause_ways rest).jumps label) e (all_taken around (with_type variable (Class class) scope) p label body t.0) (clauses_taken around scope (p + weight_of_stms body) label rest t.1)

  groups_taken : (around : Around) (scope : Scope) (p label : ℕ) (groups : Groups) → Holds (groups_types around scope p groups) → (group_ways groups).jumps label ≡ true → is_one_of (jumps.Break label) around.targets ≡ true
  groups_taken around scope p label NoGroups t e = absurd (false≢true e)
  groups_taken around scope p label (AndGroup labels body rest) t e =
      among ((all_ways body).jumps label) ((all_ways body).falls && (group_ways rest).jumps label) e (all_taken around scope p label body t.0)
      (λ both. groups_taken around (behind body scope) (p + weight_of_stms body) label rest t.1 (and_second (all_ways body).falls ((group_ways rest).jumps label) both))

  entered_taken : (around : Around) (scope : Scope) (p label : ℕ) (groups : Groups) → Holds (groups_types around scope p groups) → (entered_ways groups).jumps label ≡ true → is_one_of (jumps.Break label) around.targets ≡ true
  entered_taken around scope p label NoGroups t e = absurd (false≢true e)
  entered_taken around scope p label (AndGroup labels body rest) t e =
      among ((all_ways body).jumps label || ((all_ways body).falls && (group_ways rest).jumps label)) ((entered_ways rest).jumps label) e
      (λ one. among ((all_ways body).jumps label) ((all_ways body).falls && (group_ways rest).jumps label) one (all_taken around scope p label body t.0)
      (λ both. groups_taken around (behind body scope) (p + weight_of_stms body) label rest t.1 (and_second (all_ways body).falls ((group_ways rest).jumps label) both)))
      (entered_taken around (behind body scope) (p + weight_of_stms body) label rest t.1)
