-- Statements that can be reached, and that can complete normally (JLS 14.21). How a statement completes is told on the condition that it can
-- be reached; `own` is the label right before it.
use Rattle.std.specs.Prelude.{ℕ, ◌+◌, Bool, true, false, not, ◌&&◌, ◌||◌, List, Option, Some, None}
use Rattle.dj_names.specs.declared.header.Header.{Header}
use Rattle.dj_names.specs.Headers.{Name}
use Rattle.dj_syntax.specs.Trees.{Exp, Stm, Block, Labelled, Declare, Set, SetField, SetStatic, SetElement, Run, If, While, Switch, Return, Throw, Rethrow, Try, Synchronized, Construct, Do, For, Finally, Stms, Empty, And, Groups, NoGroups, AndGroup, Catches, NoCatches, AndCatch}
use Rattle.dj_syntax.specs.Trees as trees
use Rattle.dj_syntax.specs.Weight.{weight_of, weight_of_exp, weight_of_stms}
use Rattle.dj_values.specs.Deciding.{is_subclass}
use Rattle.dj_meaning.specs.Statements.{is_labelled}
use Rattle.dj_places.specs.Constants.{Surroundings, constant_truth, is_always}
use Rattle.dj_places.specs.Rules.{Rules, NoRule, Rule, ◌and◌}
use Rattle.dj_places.specs.declared.kind.TypeKind.TheVariants.{Reach}
use Rattle.dj_reach.specs.declared.jump.Jump.{Jump}
use Rattle.dj_reach.specs.declared.jump.Jump.TheVariants.{Break, Continue}
use Rattle.dj_reach.specs.Jumps.{is_same_jump, is_jump_to}

-- ---- how statements complete

-- a test on the label right before a statement, where there is one
abbrev pub of_own : Option ℕ → (ℕ → Bool) → Bool
of_own None test = false
of_own (Some label) test = test label

abbrev mutual
  -- it can complete normally
  pub completes : Surroundings → Option ℕ → Stm → Bool
  completes around own (Block list) = list_completes around list
  completes around own (Labelled label statement) = completes around (Some label) statement || leaves around (Break label) statement
  completes around own (Declare variable kind value) = true
  completes around own (Set variable value) = true
  completes around own (SetField object name value) = true
  completes around own (SetStatic class name value) = true
  completes around own (SetElement array index value) = true
  completes around own (Run call) = true
  completes around own (If test first second) = list_completes around first || list_completes around second
  completes around own (While test body) = not (is_always true (constant_truth around test))
  completes around own (Switch value groups) = not (is_labelled None groups) || groups_complete around true groups
  completes around own (trees.Break label) = false
  completes around own (trees.Continue label) = false
  completes around own (Return value) = false
  completes around own (Throw value) = false
  completes around own (Rethrow variable) = false
  completes around own (Try body catches) = list_completes around body || catches_complete around catches
  completes around own (Synchronized monitor body) = list_completes around body
  completes around own (Construct this arguments) = true
  completes around own (Do body test) =
      (list_completes around body || of_own own (λ label. list_leaves around (Continue label) body)) && not (is_always true (constant_truth around test))
  completes around own (For test variable step body) = not (is_always true (constant_truth around test))
  completes around own (Finally body last) = list_completes around body && list_completes around last

  -- each statement can complete normally, up to the last
  pub list_completes : Surroundings → Stms → Bool
  list_completes around Empty = true
  list_completes around (And first rest) = completes around None first && list_completes around rest

  -- some catch clause can complete normally
  pub catches_complete : Surroundings → Catches → Bool
  catches_complete around NoCatches = false
  catches_complete around (AndCatch class variable body rest) = list_completes around body || catches_complete around rest

  -- the last group can complete normally, or, without any, what comes before; each group is reached by its labels
  pub groups_complete : Surroundings → Bool → Groups → Bool
  groups_complete around before NoGroups = before
  groups_complete around before (AndGroup labels body rest) = groups_complete around (list_completes around body) rest

  -- a jump like this one, which can be reached, leaves the statement; a `finally` that can't complete normally stops it
  pub leaves : Surroundings → Jump → Stm → Bool
  leaves around jump (Block list) = list_leaves around jump list
  leaves around jump (Labelled label statement) = not (is_jump_to label jump) && leaves around jump statement
  leaves around jump (Declare variable kind value) = false
  leaves around jump (Set variable value) = false
  leaves around jump (SetField object name value) = false
  leaves around jump (SetStatic class name value) = false
  leaves around jump (SetElement array index value) = false
  leaves around jump (Run call) = false
  leaves around jump (If test first second) = list_leaves around jump first || list_leaves around jump second
  leaves around jump (While test body) = list_leaves around jump body
  leaves around jump (Switch value groups) = groups_leave around jump groups
  leaves around jump (trees.Break label) = is_same_jump (Break label) jump
  leaves around jump (trees.Continue label) = is_same_jump (Continue label) jump
  leaves around jump (Return value) = false
  leaves around jump (Throw value) = false
  leaves around jump (Rethrow variable) = false
  leaves around jump (Try body catches) = list_leaves around jump body || catches_leave around jump catches
  leaves around jump (Synchronized monitor body) = list_leaves around jump body
  leaves around jump (Construct this arguments) = false
  leaves around jump (Do body test) = list_leaves around jump body
  leaves around jump (For test variable step body) = list_leaves around jump body
  leaves around jump (Finally body last) = (list_leaves around jump body && list_completes around last) || list_leaves around jump last

  pub list_leaves : Surroundings → Jump → Stms → Bool
  list_leaves around jump Empty = false
  list_leaves around jump (And first rest) = leaves around jump first || (completes around None first && list_leaves around jump rest)

  pub catches_leave : Surroundings → Jump → Catches → Bool
  catches_leave around jump NoCatches = false
  catches_leave around jump (AndCatch class variable body rest) = list_leaves around jump body || catches_leave around jump rest

  pub groups_leave : Surroundings → Jump → Groups → Bool
  groups_leave around jump NoGroups = false
  groups_leave around jump (AndGroup labels body rest) = list_leaves around jump body || groups_leave around jump rest

-- ---- catch clauses

-- one of these clauses takes this class or one below it
abbrev pub takes_below : List Header → Name → Catches → Bool
takes_below headers class NoCatches = false
takes_below headers class (AndCatch other variable body rest) = is_subclass headers other class || takes_below headers class rest

-- no clause takes a class that an earlier one takes already
abbrev pub are_in_order : List Header → Catches → Bool
are_in_order headers NoCatches = true
are_in_order headers (AndCatch class variable body rest) = not (takes_below headers class rest) && are_in_order headers rest

-- ---- rules

-- where a statement stands: what is around it, and whether it may return, as it may but in a static initialiser (8.7)
pub record Site : Type 0 where
  pub around : Surroundings
  pub may_return : Bool

abbrev mutual
  -- the rules on a statement at a place, given whether it can be reached
  pub stm_reach : Site → Bool → ℕ → Stm → Rules
  stm_reach site reached place (Block list) = list_reach site reached (place + 1) list
  stm_reach site reached place (Labelled label statement) = stm_reach site reached (place + 1) statement
  stm_reach site reached place (Declare variable kind value) = NoRule
  stm_reach site reached place (Set variable value) = NoRule
  stm_reach site reached place (SetField object name value) = NoRule
  stm_reach site reached place (SetStatic class name value) = NoRule
  stm_reach site reached place (SetElement array index value) = NoRule
  stm_reach site reached place (Run call) = NoRule
  stm_reach site reached place (If test first second) =
      list_reach site reached (place + 1 + weight_of_exp test) first and list_reach site reached (place + 1 + weight_of_exp test + weight_of_stms first) second
  stm_reach site reached place (While test body) =
      Rule place Reach (not (is_always false (constant_truth site.around test))) and list_reach site reached (place + 1 + weight_of_exp test) body
  stm_reach site reached place (Switch value groups) = groups_reach site reached (place + 1 + weight_of_exp value) groups
  stm_reach site reached place (trees.Break label) = NoRule
  stm_reach site reached place (trees.Continue label) = NoRule
  stm_reach site reached place (Return value) = Rule place Reach site.may_return
  stm_reach site reached place (Throw value) = NoRule
  stm_reach site reached place (Rethrow variable) = NoRule
  stm_reach site reached place (Try body catches) =
      Rule place Reach (are_in_order site.around.headers catches) and list_reach site reached (place + 1) body
      and catches_reach site reached (place + 1 + weight_of_stms body) catches
  stm_reach site reached place (Synchronized monitor body) = list_reach site reached (place + 1 + weight_of_exp monitor) body
  stm_reach site reached place (Construct this arguments) = NoRule
  stm_reach site reached place (Do body test) = list_reach site reached (place + 1) body
  stm_reach site reached place (For test variable step body) =
      Rule place Reach (not (is_always false (constant_truth site.around test)))
      and list_reach site reached (place + 1 + weight_of_exp test + weight_of_exp step) body
  stm_reach site reached place (Finally body last) = list_reach site reached (place + 1) body and list_reach site reached (place + 1 + weight_of_stms body) last

  -- statements in order: each can be reached
  pub list_reach : Site → Bool → ℕ → Stms → Rules
  list_reach site reached place Empty = NoRule
  list_reach site reached place (And first rest) =
      Rule place Reach reached and stm_reach site reached place first
      and list_reach site (reached && completes site.around None first) (place + weight_of first) rest

  pub catches_reach : Site → Bool → ℕ → Catches → Rules
  catches_reach site reached place NoCatches = NoRule
  catches_reach site reached place (AndCatch class variable body rest) =
      list_reach site reached place body and catches_reach site reached (place + weight_of_stms body) rest

  pub groups_reach : Site → Bool → ℕ → Groups → Rules
  groups_reach site reached place NoGroups = NoRule
  groups_reach site reached place (AndGroup labels body rest) =
      list_reach site reached place body and groups_reach site reached (place + weight_of_stms body) rest
