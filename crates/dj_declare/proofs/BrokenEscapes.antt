-- A tree without `try` throws nothing more when it breaks in place of returning.
use Rattle.std.proofs.Common.{ℕ, ◌+◌, Bool, true, false, not, List, [], ◌∷◌, ◌++◌, Option, Some, None, ◌≡◌, refl, sym, ◌∙◌, subst, ◌&&◌, ◌==◌}
use Rattle.std.proofs.lemmas.Bool.{and_parts}
use Rattle.dj_names.specs.Headers.{Name}
use Rattle.dj_syntax.specs.Trees.{Exp, Stm, Block, Labelled, Declare, Set, SetField, SetStatic, SetElement, Run, If, While, Switch, Break, Continue, Return, Throw, Rethrow, Try, Synchronized, Construct, Do, For, Finally, Stms, Empty, And, Groups, NoGroups, AndGroup}
use Rattle.dj_syntax.specs.Weight.{weight_of, weight_of_exp, weight_of_stms}
use Rattle.dj_meaning.specs.StaticTypes.{Scope, with_type, types_of}
use Rattle.dj_meaning.specs.Declarations.{declared, within, behind}
use Rattle.dj_reach.specs.Reach.{list_completes}
use Rattle.dj_thrown.specs.declared.throwing.Throwing.{Throwing}
use Rattle.dj_thrown.specs.declared.throwing.Held.{Held}
use Rattle.dj_thrown.specs.Settings.{Setting, context_of, around}
use Rattle.dj_thrown.specs.Listed.{construct_listed}
use Rattle.dj_thrown.specs.Throws.{thrown_at, throw_throws, exp_throws, exps_throw, option_throws, through, throws, list_throws, groups_throw}
use Rattle.dj_declare.specs.Declared.{without_last}
use Rattle.dj_declare.specs.Breaking.{breaking, all_breaking, groups_breaking, lacks, list_lacks, groups_lack}
use Rattle.dj_declare.specs.Escapes.{HasNoTry, HaveNoTry, GroupsHaveNoTry, UnderLabelThrows}
use Rattle.dj_declare.proofs.Turning.{same_declared, same_behind}
use Rattle.dj_declare.proofs.Breaking.{list_same_completes}
use Rattle.dj_declare.proofs.Initialisers.{last_lacks}
use Rattle.dj_declare.proofs.Escapes.{left_none, May, both, joined, both_at, classes_at, exp_may, exps_may, option_may, through_may, left_may}

module _ (own : ℕ) where
  mutual
    broken_none : (statement : Stm) → HasNoTry statement → HasNoTry (breaking own statement)
    broken_none (Block list) n = all_broken_none list n
    broken_none (Labelled label statement) n = broken_none statement n
    broken_none (Declare variable kind initial) n = tt
    broken_none (Set variable new) n = tt
    broken_none (SetField object name new) n = tt
    broken_none (SetStatic class name new) n = tt
    broken_none (SetElement array index new) n = tt
    broken_none (Run call) n = tt
    broken_none (If test first second) n = (all_broken_none first n.0, all_broken_none second n.1)
    broken_none (While test body) n = all_broken_none body n
    broken_none (Switch on groups) n = groups_broken_none groups n
    broken_none (Break label) n = tt
    broken_none (Continue label) n = tt
    broken_none (Return None) n = tt
    broken_none (Return (Some value)) n = tt
    broken_none (Throw exception) n = tt
    broken_none (Rethrow variable) n = tt
    broken_none (Try body clauses) n = absurd n
    broken_none (Synchronized monitor body) n = all_broken_none body n
    broken_none (Construct this arguments) n = tt
    broken_none (Do body test) n = all_broken_none body n
    broken_none (For test variable step body) n = all_broken_none body n
    broken_none (Finally body last) n = (all_broken_none body n.0, all_broken_none last n.1)

    all_broken_none : (list : Stms) → HaveNoTry list → HaveNoTry (all_breaking own list)
    all_broken_none Empty n = tt
    all_broken_none (And first rest) n = (broken_none first n.0, all_broken_none rest n.1)

    groups_broken_none : (groups : Groups) → GroupsHaveNoTry groups → GroupsHaveNoTry (groups_breaking own groups)
    groups_broken_none NoGroups n = tt
    groups_broken_none (AndGroup labels body rest) n = (all_broken_none body n.0, groups_broken_none rest n.1)

module _ (setting : Setting) (allowed : List Name) (held : List Held) (own : ℕ) where
  -- two lists in order, each of which throws nothing more
  in_order : (first second : Stms) (scope inner : Scope) (p q r s : ℕ) → (May setting allowed (list_throws setting held scope p first) → May setting allowed (list_throws setting held scope q (all_breaking own first)))
      → (May setting allowed (list_throws setting held inner r second) → May setting allowed (list_throws setting held inner s (all_breaking own second)))
      → May setting allowed (list_throws setting held scope p first ++ list_throws setting held inner r second) → May setting allowed (list_throws setting held scope q (all_breaking own first) ++ list_throws setting held inner s (all_breaking own second))
  in_order first second scope inner p q r s f g m =
      joined setting allowed (list_throws setting held scope p first) (list_throws setting held scope q (all_breaking own first)) (list_throws setting held inner r second) (list_throws setting held inner s (all_breaking own second)) f g m

  -- an expression, and something behind it
  behind_exp : (scope : Scope) (exp : Exp) (p q : ℕ) (second other : List Throwing) → (May setting allowed second → May setting allowed other) → May setting allowed (exp_throws setting scope p exp ++ second) → May setting allowed (exp_throws setting scope q exp ++ other)
  behind_exp scope exp p q second other f m = joined setting allowed (exp_throws setting scope p exp) (exp_throws setting scope q exp) second other (exp_may setting allowed scope exp p q) f m

  mutual
    broken_may : (scope : Scope) (p q : ℕ) (statement : Stm) → lacks own statement ≡ true → HasNoTry statement → May setting allowed (throws setting held scope p statement) → May setting allowed (throws setting held scope q (breaking own statement))
    broken_may scope p q (Block list) a n m = all_broken_may scope (p + 1) (q + 1) list a n m
    broken_may scope p q (Labelled label statement) a n m = broken_may scope (p + 1) (q + 1) statement (and_parts (not (own == label)) (lacks own statement) a).1 n m
    broken_may scope p q (Declare variable kind initial) a n m = option_may setting allowed (with_type variable kind scope) initial (p + 1) (q + 1) m
    broken_may scope p q (Set variable new) a n m = exp_may setting allowed scope new (p + 1) (q + 1) m
    broken_may scope p q (SetField object name new) a n m =
        behind_exp scope object (p + 1) (q + 1) (exp_throws setting scope (p + 1 + weight_of_exp object) new) (exp_throws setting scope (q + 1 + weight_of_exp object) new)
        (exp_may setting allowed scope new (p + 1 + weight_of_exp object) (q + 1 + weight_of_exp object)) m
    broken_may scope p q (SetStatic class name new) a n m = exp_may setting allowed scope new (p + 1) (q + 1) m
    broken_may scope p q (SetElement array index new) a n m =
        behind_exp scope array (p + 1) (q + 1) (exp_throws setting scope (p + 1 + weight_of_exp array) index ++ exp_throws setting scope (p + 1 + weight_of_exp array + weight_of_exp index) new)
        (exp_throws setting scope (q + 1 + weight_of_exp array) index ++ exp_throws setting scope (q + 1 + weight_of_exp array + weight_of_exp index) new)
        (behind_exp scope index (p + 1 + weight_of_exp array) (q + 1 + weight_of_exp array) (exp_throws setting scope (p + 1 + weight_of_exp array + weight_of_exp index) new) (exp_throws setting scope (q + 1 + weight_of_exp array + weight_of_exp index) new)
        (exp_may setting allowed scope new (p + 1 + weight_of_exp array + weight_of_exp index) (q + 1 + weight_of_exp array + weight_of_exp index))) m
    broken_may scope p q (Run call) a n m = exp_may setting allowed scope call (p + 1) (q + 1) m
    broken_may scope p q (If test first second) a n m =
        let parts = and_parts (list_lacks own first) (list_lacks own second) a in
        let from = p + 1 + weight_of_exp test in
        let to = q + 1 + weight_of_exp test in
        behind_exp scope test (p + 1) (q + 1) (list_throws setting held scope from first ++ list_throws setting held scope (from + weight_of_stms first) second)
        (list_throws setting held scope to (all_breaking own first) ++ list_throws setting held scope (to + weight_of_stms (all_breaking own first)) (all_breaking own second))
        (in_order first second scope scope from to (from + weight_of_stms first) (to + weight_of_stms (all_breaking own first)) (all_broken_may scope from to first parts.0 n.0)
        (all_broken_may scope (from + weight_of_stms first) (to + weight_of_stms (all_breaking own first)) second parts.1 n.1)) m
    broken_may scope p q (While test body) a n m =
        let from = p + 1 + weight_of_exp test in
        let to = q + 1 + weight_of_exp test in
        behind_exp scope test (p + 1) (q + 1) (list_throws setting held scope from body) (list_throws setting held scope to (all_breaking own body)) (all_broken_may scope from to body a n) m
    broken_may scope p q (Switch on groups) a n m =
        let from = p + 1 + weight_of_exp on in
        let to = q + 1 + weight_of_exp on in
        behind_exp scope on (p + 1) (q + 1) (groups_throw setting held scope from groups) (groups_throw setting held scope to (groups_breaking own groups)) (groups_broken_may scope from to groups a n) m
    broken_may scope p q (Break label) a n m = tt
    broken_may scope p q (Continue label) a n m = tt
    broken_may scope p q (Return None) a n m = tt
    broken_may scope p q (Return (Some value)) a n m = exp_may setting allowed scope value (p + 1) (q + 1) m
    broken_may scope p q (Throw exception) a n m =
        both_at setting allowed (λ n. thrown_at n (throw_throws setting held scope exception)) (λ n. exp_throws setting scope (n + 1) exception) p q
        (classes_at setting allowed (throw_throws setting held scope exception) p q) (exp_may setting allowed scope exception (p + 1) (q + 1)) m
    broken_may scope p q (Rethrow variable) a n m = tt
    broken_may scope p q (Try body clauses) a n m = absurd n
    broken_may scope p q (Synchronized monitor body) a n m =
        let from = p + 1 + weight_of_exp monitor in
        let to = q + 1 + weight_of_exp monitor in
        behind_exp scope monitor (p + 1) (q + 1) (list_throws setting held scope from body) (list_throws setting held scope to (all_breaking own body)) (all_broken_may scope from to body a n) m
    broken_may scope p q (Construct this arguments) a n m =
        let classes = construct_listed setting this (types_of (context_of setting) scope arguments) in
        both_at setting allowed (λ n. thrown_at n classes) (λ n. exps_throw setting scope (n + 1) arguments) p q (classes_at setting allowed classes p q) (exps_may setting allowed scope arguments (p + 1) (q + 1)) m
    broken_may scope p q (Do body test) a n m =
        let from = p + 1 + weight_of_stms body in
        let to = q + 1 + weight_of_stms (all_breaking own body) in
        joined setting allowed (list_throws setting held scope (p + 1) body) (list_throws setting held scope (q + 1) (all_breaking own body)) (exp_throws setting scope from test) (exp_throws setting scope to test)
        (all_broken_may scope (p + 1) (q + 1) body a n) (exp_may setting allowed scope test from to) m
    broken_may scope p q (For test variable step body) a n m =
        let from = p + 1 + weight_of_exp test in
        let to = q + 1 + weight_of_exp test in
        behind_exp scope test (p + 1) (q + 1) (exp_throws setting scope from step ++ list_throws setting held scope (from + weight_of_exp step) body)
        (exp_throws setting scope to step ++ list_throws setting held scope (to + weight_of_exp step) (all_breaking own body))
        (behind_exp scope step from to (list_throws setting held scope (from + weight_of_exp step) body) (list_throws setting held scope (to + weight_of_exp step) (all_breaking own body))
        (all_broken_may scope (from + weight_of_exp step) (to + weight_of_exp step) body a n)) m
    broken_may scope p q (Finally body last) a n m =
        let parts = and_parts (list_lacks own body) (list_lacks own last) a in
        let from = p + 1 + weight_of_stms body in
        let to = q + 1 + weight_of_stms (all_breaking own body) in
        let one = list_throws setting held scope (p + 1) body in
        let other = list_throws setting held scope (q + 1) (all_breaking own body) in
        joined setting allowed (through (list_completes (around setting) last) one) (through (list_completes (around setting) (all_breaking own last)) other)
        (list_throws setting held scope from last) (list_throws setting held scope to (all_breaking own last))
        (through_may setting allowed held (list_completes (around setting) last) (list_completes (around setting) (all_breaking own last)) one other
        (λ e. sym (list_same_completes own (around setting) last parts.1) ∙ e) (all_broken_may scope (p + 1) (q + 1) body parts.0 n.0))
        (all_broken_may scope from to last parts.1 n.1) m

    all_broken_may : (scope : Scope) (p q : ℕ) (list : Stms) → list_lacks own list ≡ true → HaveNoTry list → May setting allowed (list_throws setting held scope p list) → May setting allowed (list_throws setting held scope q (all_breaking own list))
    all_broken_may scope p q Empty a n m = tt
    all_broken_may scope p q (And first rest) a n m =
        let parts = and_parts (lacks own first) (list_lacks own rest) a in
        let made = breaking own first in
        let inner = within (declared first) scope in
        joined setting allowed (throws setting held scope p first) (throws setting held scope q made) (list_throws setting held inner (p + weight_of first) rest)
        (list_throws setting held (within (declared made) scope) (q + weight_of made) (all_breaking own rest)) (broken_may scope p q first parts.0 n.0)
        (λ r. subst (λ one. May setting allowed (list_throws setting held (within one scope) (q + weight_of made) (all_breaking own rest))) (sym (same_declared own first))
        (all_broken_may inner (p + weight_of first) (q + weight_of made) rest parts.1 n.1 r)) m

    groups_broken_may : (scope : Scope) (p q : ℕ) (groups : Groups) → groups_lack own groups ≡ true → GroupsHaveNoTry groups → May setting allowed (groups_throw setting held scope p groups)
        → May setting allowed (groups_throw setting held scope q (groups_breaking own groups))
    groups_broken_may scope p q NoGroups a n m = tt
    groups_broken_may scope p q (AndGroup labels body rest) a n m =
        let parts = and_parts (list_lacks own body) (groups_lack own rest) a in
        let made = all_breaking own body in
        joined setting allowed (list_throws setting held scope p body) (list_throws setting held scope q made) (groups_throw setting held (behind body scope) (p + weight_of_stms body) rest)
        (groups_throw setting held (behind made scope) (q + weight_of_stms made) (groups_breaking own rest)) (all_broken_may scope p q body parts.0 n.0)
        (λ r. subst (λ inner. May setting allowed (groups_throw setting held inner (q + weight_of_stms made) (groups_breaking own rest))) (sym (same_behind own body scope))
        (groups_broken_may (behind body scope) (p + weight_of_stms body) (q + weight_of_stms made) rest parts.1 n.1 r)) m

pub under_label_throws : UnderLabelThrows
under_label_throws setting allowed scope own tree free none m =
    let list = without_last tree in
    let fewer = left_none None tree none in
    let inner = list_throws setting [] scope (0 + 1 + 1) (all_breaking own list) in (
      (all_broken_none own list fewer, tt),
      both setting allowed inner [] (all_broken_may setting allowed [] own scope 0 (0 + 1 + 1) list (last_lacks own tree free) fewer (left_may setting allowed [] scope 0 None tree m)) tt,
    )
