-- A tree without open jumps keeps the rules of types where no jumps are taken around it.
use Rattle.std.proofs.Common.{ℕ, ℤ, ◌+◌, ◌==◌, Bool, true, false, not, ◌&&◌, ◌||◌, List, [], ◌∷◌, ◌++◌, Option, Some, None, ◌≡◌, refl, sym, ap, ◌∙◌, subst, inl, inr}
use Rattle.std.proofs.lemmas.Bool.{and_from, or_left, or_right, false≢true, not-true, eqb-true, eq-eqb}
use Rattle.dj_names.specs.Types.{Class}
use Rattle.dj_syntax.specs.Trees.{Stm, Block, Labelled, Declare, Set, SetField, SetStatic, SetElement, Run, If, While, Switch, Return, Throw, Rethrow, Try, Synchronized, Construct, Do, For, Finally, Stms, Empty, And, Groups, NoGroups, AndGroup, Catches, NoCatches, AndCatch}
use Rattle.dj_syntax.specs.Trees as trees
use Rattle.dj_syntax.specs.Weight.{weight_of, weight_of_exp, weight_of_stms}
use Rattle.dj_meaning.specs.StaticTypes.{Scope, with_type}
use Rattle.dj_meaning.specs.Declarations.{declared, within, behind}
use Rattle.dj_meaning.specs.Statements.{Place, First, Behind, Elsewhere, label_at}
use Rattle.dj_places.specs.Rules.{Holds}
use Rattle.dj_reach.specs.declared.jump.Jump.{Jump}
use Rattle.dj_reach.specs.declared.jump.Jump.TheVariants as jumps
use Rattle.dj_reach.specs.Jumps.{is_same_jump, is_jump_to, is_one_of}
use Rattle.dj_typed.specs.Statements.{Around, turns_of, stm_types, list_types, catches_types, groups_types}
use Rattle.dj_never_stuck.specs.Flows.{AreTaken}
use Rattle.dj_never_stuck.proofs.Flows.{own_jump, one_of_cases, one_of_front, one_of_back, taken_in_label, taken_in_loop, taken_elsewhere}
use Rattle.dj_formed.specs.Formed.{IsFormed}
use Rattle.dj_declare.specs.OpenJumps.{is_open, is_open_in, is_open_in_clauses, is_open_in_groups, FormedWithoutOpenJumps}

-- fewer jumps are taken around, but those that are open
pub record Fewer (first second : List Jump) (open_in : Jump → Bool) : Type 0 where
  pub part : (jump : Jump) → is_one_of jump second ≡ true → is_one_of jump first ≡ true
  pub enough : (jump : Jump) → open_in jump ≡ true → is_one_of jump first ≡ true → is_one_of jump second ≡ true

-- of a part
narrower : {first second : List Jump} {whole inner : Jump → Bool} → Fewer first second whole → ((jump : Jump) → inner jump ≡ true → whole jump ≡ true) → Fewer first second inner
narrower f g = record { part = f.part; enough = λ jump is. f.enough jump (g jump is) }

-- with the same jumps besides
besides : {first second : List Jump} {open_in : Jump → Bool} (more : List Jump) → Fewer first second open_in → Fewer (first ++ more) (second ++ more) open_in
besides {first = first} {second = second} more f = record {
  part = λ jump e. elim (one_of_cases jump second more e) [
    | inl is ↦ one_of_front jump first more (f.part jump is)
    | inr is ↦ one_of_back jump first more is
  ];
  enough = λ jump so e. elim (one_of_cases jump first more e) [
    | inl is ↦ one_of_front jump second more (f.enough jump so is)
    | inr is ↦ one_of_back jump second more is
  ];
}

-- a jump to a label that isn't taken yet is none of those around
not_around : (label : ℕ) (targets : List Jump) (own : Option ℕ) (jump : Jump) → AreTaken targets own → is_one_of (jumps.Break label) targets ≡ false → is_jump_to label jump ≡ true → is_one_of jump targets ≡ true → ⊥
not_around label targets own (jumps.Break other) t free names is = false≢true (sym free ∙ subst (λ l. is_one_of (jumps.Break l) targets ≡ true) (eqb-true other label names) is)
not_around label targets own (jumps.Continue other) t free names is = false≢true (sym free ∙ subst (λ l. is_one_of (jumps.Break l) targets ≡ true) (eqb-true other label names) (t.breaks other is))

under_label : {first second : List Jump} {inner : Jump → Bool} (label : ℕ) (own : Option ℕ) → AreTaken first own → is_one_of (jumps.Break label) first ≡ false → Fewer first second (λ jump. not (is_jump_to label jump) && inner jump)
    → Fewer (first ++ jumps.Break label ∷ []) (second ++ jumps.Break label ∷ []) inner
under_label {first = first} {second = second} {inner = inner} label own t free f = record {
  part = λ jump e. elim (one_of_cases jump second (jumps.Break label ∷ []) e) [
    | inl is ↦ one_of_front jump first (jumps.Break label ∷ []) (f.part jump is)
    | inr is ↦ one_of_back jump first (jumps.Break label ∷ []) is
  ];
  enough = λ jump so e. elim (one_of_cases jump first (jumps.Break label ∷ []) e) [
    | inl is ↦ one_of_front jump second (jumps.Break label ∷ []) (f.enough jump (and_from (not (is_jump_to label jump)) (inner jump) (other jump is (is_jump_to label jump) refl) so) is)
    | inr is ↦ one_of_back jump second (jumps.Break label ∷ []) is
  ];
}
  where
    other : (jump : Jump) → is_one_of jump first ≡ true → (names : Bool) → is_jump_to label jump ≡ names → not (is_jump_to label jump) ≡ true
    other jump is true e = absurd (not_around label first own jump t free e is)
    other jump is false e = ap not e

not_one : (a b : Bool) → (b ≡ true → a ≡ true) → not a ≡ true → not b ≡ true
not_one true b f e = absurd (false≢true e)
not_one false true f e = absurd (false≢true (f refl))
not_one false false f e = refl

module _ (around : Around) where
  mutual
    pub fewer_types : (at : Place) (scope : Scope) (p : ℕ) (first second : List Jump) (statement : Stm) → AreTaken first (label_at at) → Fewer first second (λ jump. is_open jump statement) → Holds (stm_types (record around { targets = first }) at scope p statement)
        → Holds (stm_types (record around { targets = second }) at scope p statement)
    fewer_types at scope p first second (Block list) a f t = list_fewer_types scope (p + 1) first second list (taken_elsewhere first (label_at at) a) f t
    fewer_types at scope p first second (Labelled label statement) a f t = (
      t.0,
      (
        not_one (is_one_of (jumps.Break label) first) (is_one_of (jumps.Break label) second) (f.part (jumps.Break label)) t.1.0,
        fewer_types (Behind label) scope (p + 1) (first ++ jumps.Break label ∷ []) (second ++ jumps.Break label ∷ []) statement (taken_in_label label first (label_at at) a)
            (under_label label (label_at at) a (not-true (is_one_of (jumps.Break label) first) t.1.0) f) t.1.1,
      ),
    )
    fewer_types at scope p first second (Declare variable kind initial) a f t = t
    fewer_types at scope p first second (Set variable new) a f t = t
    fewer_types at scope p first second (SetField object name new) a f t = t
    fewer_types at scope p first second (SetStatic class name new) a f t = t
    fewer_types at scope p first second (SetElement array index new) a f t = t
    fewer_types at scope p first second (Run call) a f t = t
    fewer_types at scope p first second (If test one other) a f t = (
      t.0,
      (
        t.1.0,
        (
          list_fewer_types scope (p + 1 + weight_of_exp test) first second one (taken_elsewhere first (label_at at) a) (narrower f (λ jump. or_left (is_open_in jump one) (is_open_in jump other))) t.1.1.0,
          list_fewer_types scope (p + 1 + weight_of_exp test + weight_of_stms one) first second other (taken_elsewhere first (label_at at) a) (narrower f (λ jump. or_right (is_open_in jump one) (is_open_in jump other))) t.1.1.1,
        ),
      ),
    )
    fewer_types at scope p first second (While test body) a f t =
        (t.0, (t.1.0, list_fewer_types scope (p + 1 + weight_of_exp test) (first ++ turns_of (label_at at)) (second ++ turns_of (label_at at)) body (taken_in_loop first (label_at at) a) (besides (turns_of (label_at at)) f) t.1.1))
    fewer_types at scope p first second (Switch on groups) a f t = (t.0, (t.1.0, (t.1.1.0, groups_fewer_types scope (p + 1 + weight_of_exp on) first second groups (taken_elsewhere first (label_at at) a) f t.1.1.1)))
    fewer_types at scope p first second (trees.Break label) a f t = f.enough (jumps.Break label) (own_jump (jumps.Break label)) t
    fewer_types at scope p first second (trees.Continue label) a f t = f.enough (jumps.Continue label) (own_jump (jumps.Continue label)) t
    fewer_types at scope p first second (Return value) a f t = t
    fewer_types at scope p first second (Throw exception) a f t = t
    fewer_types at scope p first second (Rethrow variable) a f t = t
    fewer_types at scope p first second (Try body clauses) a f t = (
      t.0,
      (
        t.1.0,
        (
          list_fewer_types scope (p + 1) first second body (taken_elsewhere first (label_at at) a) (narrower f (λ jump. or_left (is_open_in jump body) (is_open_in_clauses jump clauses))) t.1.1.0,
          clauses_fewer_types scope (p + 1 + weight_of_stms body) first second clauses (taken_elsewhere first (label_at at) a) (narrower f (λ jump. or_right (is_open_in jump body) (is_open_in_clauses jump clauses))) t.1.1.1,
        ),
      ),
    )
    fewer_types at scope p first second (Synchronized monitor body) a f t = (t.0, (t.1.0, list_fewer_types scope (p + 1 + weight_of_exp monitor) first second body (taken_elsewhere first (label_at at) a) f t.1.1))
    fewer_types at scope p first second (Construct own arguments) a f t = t
    fewer_types at scope p first second (Do body test) a f t =
        (t.0, (list_fewer_types scope (p + 1) (first ++ turns_of (label_at at)) (second ++ turns_of (label_at at)) body (taken_in_loop first (label_at at) a) (besides (turns_of (label_at at)) f) t.1.0, t.1.1))
    fewer_types at scope p first second (For test variable step body) a f t =
        (t.0, (t.1.0, (t.1.1.0, (t.1.1.1.0, list_fewer_types scope (p + 1 + weight_of_exp test + weight_of_exp step) (first ++ turns_of (label_at at)) (second ++ turns_of (label_at at)) body (taken_in_loop first (label_at at) a) (besides (turns_of (label_at at)) f) t.1.1.1.1))))
    fewer_types at scope p first second (Finally body last) a f t = (
      list_fewer_types scope (p + 1) first second body (taken_elsewhere first (label_at at) a) (narrower f (λ jump. or_left (is_open_in jump body) (is_open_in jump last))) t.0,
      list_fewer_types scope (p + 1 + weight_of_stms body) first second last (taken_elsewhere first (label_at at) a) (narrower f (λ jump. or_right (is_open_in jump body) (is_open_in jump last))) t.1,
    )

    pub list_fewer_types : (scope : Scope) (p : ℕ) (first second : List Jump) (list : Stms) → AreTaken first None → Fewer first second (λ jump. is_open_in jump list) → Holds (list_types (record around { targets = first }) scope p list)
        → Holds (list_types (record around { targets = second }) scope p list)
    list_fewer_types scope p first second Empty a f t = tt
    list_fewer_types scope p first second (And head rest) a f t = (
      fewer_types Elsewhere scope p first second head a (narrower f (λ jump. or_left (is_open jump head) (is_open_in jump rest))) t.0,
      list_fewer_types (within (declared head) scope) (p + weight_of head) first second rest a (narrower f (λ jump. or_right (is_open jump head) (is_open_in jump rest))) t.1,
    )

    clauses_fewer_types : (scope : Scope) (p : ℕ) (first second : List Jump) (clauses : Catches) → AreTaken first None → Fewer first second (λ jump. is_open_in_clauses jump clauses) → Holds (catches_types (record around { targets = first }) scope p clauses)
        → Holds (catches_types (record around { targets = second }) scope p clauses)
    clauses_fewer_types scope p first second NoCatches a f t = tt
    clauses_fewer_types scope p first second (AndCatch class variable body rest) a f t = (
      list_fewer_types (with_type variable (Class class) scope) p first second body a (narrower f (λ jump. or_left (is_open_in jump body) (is_open_in_clauses jump rest))) t.0,
      clauses_fewer_types scope (p + weight_of_stms body) first second rest a (narrower f (λ jump. or_right (is_open_in jump body) (is_open_in_clauses jump rest))) t.1,
    )

    groups_fewer_types : (scope : Scope) (p : ℕ) (first second : List Jump) (groups : Groups) → AreTaken first None → Fewer first second (λ jump. is_open_in_groups jump groups) → Holds (groups_types (record around { targets = first }) scope p groups)
        → Holds (groups_types (record around { targets = second }) scope p groups)
    groups_fewer_types scope p first second NoGroups a f t = tt
    groups_fewer_types scope p first second (AndGroup labels body rest) a f t = (
      list_fewer_types scope p first second body a (narrower f (λ jump. or_left (is_open_in jump body) (is_open_in_groups jump rest))) t.0,
      groups_fewer_types (behind body scope) (p + weight_of_stms body) first second rest a (narrower f (λ jump. or_right (is_open_in jump body) (is_open_in_groups jump rest))) t.1,
    )

pub formed_without_open_jumps : FormedWithoutOpenJumps
formed_without_open_jumps around scope tree breaks_alone none_open formed = record {
  types = list_fewer_types around scope 0 around.targets [] tree
      (record { breaks = λ label is. absurd (false≢true (sym (breaks_alone label) ∙ is)); its_own = λ label is. absurd cc })
      (record { part = λ jump is. absurd (false≢true is); enough = λ jump is there. absurd (false≢true (sym (none_open jump there) ∙ is)) }) formed.types;
  reads = formed.reads;
  ends = formed.ends;
}
