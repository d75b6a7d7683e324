-- What is assigned behind statements and before jumps, and that each variable is assigned where it is read (JLS 16.2).
use Rattle.std.specs.Prelude.{ℕ, ◌+◌, Option, Some, None, if◌then◌else◌}
use Rattle.dj_syntax.specs.declared.variable.Var.{Var}
use Rattle.dj_syntax.specs.Trees.{Exp, Stm, Block, Labelled, Declare, Set, SetField, SetStatic, SetElement, Run, If, While, Switch, Return, Throw, Rethrow, Try, Synchronized, Construct, Do, For, Finally, Stms, Empty, And, Groups, NoGroups, AndGroup, Catches, NoCatches, AndCatch}
use Rattle.dj_syntax.specs.Trees as trees
use Rattle.dj_syntax.specs.Weight.{weight_of, weight_of_exp, weight_of_stms}
use Rattle.dj_meaning.specs.Statements.{is_labelled}
use Rattle.dj_places.specs.Constants.{Surroundings}
use Rattle.dj_places.specs.Rules.{Rules, NoRule, Rule, ◌and◌}
use Rattle.dj_places.specs.declared.kind.TypeKind.TheVariants.{Assigned}
use Rattle.dj_reach.specs.declared.jump.Jump.{Jump}
use Rattle.dj_reach.specs.declared.jump.Jump.TheVariants.{Break, Continue}
use Rattle.dj_reach.specs.Jumps.{is_same_jump, is_jump_to}
use Rattle.dj_reach.specs.Reach.{list_completes}
use Rattle.dj_variables.specs.Sets as sets
use Rattle.dj_variables.specs.Sets.{everything, with, without, meet, join}
use Rattle.dj_conditions.specs.Conditions.{when, after_each, after_exp}
use Rattle.dj_conditions.specs.Reads.{reads, reads_each, option_reads}

-- ---- what is assigned behind a statement

-- behind a declaration: its variable, where it has a first value
abbrev pub after_first : Surroundings → Var → Option Exp → sets.Set → sets.Set
after_first around variable None set = without variable set
after_first around variable (Some value) set = with variable (after_exp around value (without variable set))

-- what a switch that jumps over a statement leaves: a variable that it declares is declared, and not assigned
abbrev pub passed_over : Stm → sets.Set → sets.Set
passed_over (Block list) set = set
passed_over (Labelled label statement) set = set
passed_over (Declare variable kind value) set = without variable set
passed_over (Set variable value) set = set
passed_over (SetField object name value) set = set
passed_over (SetStatic class name value) set = set
passed_over (SetElement array index value) set = set
passed_over (Run call) set = set
passed_over (If test first second) set = set
passed_over (While test body) set = set
passed_over (Switch value cases) set = set
passed_over (trees.Break label) set = set
passed_over (trees.Continue label) set = set
passed_over (Return value) set = set
passed_over (Throw value) set = set
passed_over (Rethrow variable) set = set
passed_over (Try body clauses) set = set
passed_over (Synchronized monitor body) set = set
passed_over (Construct this arguments) set = set
passed_over (Do body test) set = set
passed_over (For test variable step body) set = set
passed_over (Finally body last) set = set

-- the same of a list of statements
abbrev pub list_passed_over : Stms → sets.Set → sets.Set
list_passed_over Empty set = set
list_passed_over (And first rest) set = list_passed_over rest (passed_over first set)

-- the same of the groups of a `switch`
abbrev pub groups_passed_over : Groups → sets.Set → sets.Set
groups_passed_over NoGroups set = set
groups_passed_over (AndGroup labels body rest) set = groups_passed_over rest (list_passed_over body set)

-- with what is assigned before each continue of the label right before a loop, where there is one
abbrev pub meet_own : Option ℕ → sets.Set → (ℕ → sets.Set) → sets.Set
meet_own None set before = set
meet_own (Some label) set before = meet set (before label)

abbrev mutual
  -- assigned where the statement completes normally, given what is assigned before it and the label right before it
  pub after : Surroundings → Option ℕ → Stm → sets.Set → sets.Set
  after around own (Block list) set = after_list around list set
  after around own (Labelled label statement) set = meet (after around (Some label) statement set) (before_jump around (Break label) statement set)
  after around own (Declare variable kind value) set = after_first around variable value set
  after around own (Set variable value) set = with variable (after_exp around value set)
  after around own (SetField object name value) set = after_exp around value (after_exp around object set)
  after around own (SetStatic class name value) set = after_exp around value set
  after around own (SetElement array index value) set = after_exp around value (after_exp around index (after_exp around array set))
  after around own (Run call) set = after_exp around call set
  after around own (If test first second) set = meet (after_list around first (when around test set).true) (after_list around second (when around test set).false)
  after around own (While test body) set = (when around test set).false
  after around own (Switch value groups) set =
      meet (after_groups around groups everything (after_exp around value set)) (if is_labelled None groups then everything else groups_passed_over groups (after_exp around value set))
  after around own (trees.Break label) set = everything
  after around own (trees.Continue label) set = everything
  after around own (Return value) set = everything
  after around own (Throw value) set = everything
  after around own (Rethrow variable) set = everything
  after around own (Try body catches) set = meet (after_list around body set) (after_catches around catches set)
  after around own (Synchronized monitor body) set = after_list around body (after_exp around monitor set)
  after around own (Construct this arguments) set = after_each around arguments set
  after around own (Do body test) set = (when around test (meet_own own (after_list around body set) (λ label. before_list_jump around (Continue label) body set))).false
  after around own (For test variable step body) set = (when around test set).false
  after around own (Finally body last) set = join (after_list around body set) (after_list around last set)

  pub after_list : Surroundings → Stms → sets.Set → sets.Set
  after_list around Empty set = set
  after_list around (And first rest) set = after_list around rest (after around None first set)

  -- behind each catch clause, whose variable is assigned
  pub after_catches : Surroundings → Catches → sets.Set → sets.Set
  after_catches around NoCatches set = everything
  after_catches around (AndCatch class variable body rest) set = meet (after_list around body (with variable set)) (after_catches around rest set)

  -- behind the last group, given what is assigned behind the group before, and where the switch jumps to a group (16.2.9)
  pub after_groups : Surroundings → Groups → sets.Set → sets.Set → sets.Set
  after_groups around NoGroups before set = before
  after_groups around (AndGroup labels body rest) before set = after_groups around rest (after_list around body (meet before set)) (list_passed_over body set)

  -- assigned before each such jump that leaves the statement; through a `finally` it goes behind its list, where that can complete normally
  pub before_jump : Surroundings → Jump → Stm → sets.Set → sets.Set
  before_jump around jump (Block list) set = before_list_jump around jump list set
  before_jump around jump (Labelled label statement) set = if is_jump_to label jump then everything else before_jump around jump statement set
  before_jump around jump (Declare variable kind value) set = everything
  before_jump around jump (Set variable value) set = everything
  before_jump around jump (SetField object name value) set = everything
  before_jump around jump (SetStatic class name value) set = everything
  before_jump around jump (SetElement array index value) set = everything
  before_jump around jump (Run call) set = everything
  before_jump around jump (If test first second) set =
      meet (before_list_jump around jump first (when around test set).true) (before_list_jump around jump second (when around test set).false)
  before_jump around jump (While test body) set = before_list_jump around jump body (when around test set).true
  before_jump around jump (Switch value groups) set = before_groups_jump around jump groups everything (after_exp around value set)
  before_jump around jump (trees.Break label) set = if is_same_jump (Break label) jump then set else everything
  before_jump around jump (trees.Continue label) set = if is_same_jump (Continue label) jump then set else everything
  before_jump around jump (Return value) set = everything
  before_jump around jump (Throw value) set = everything
  before_jump around jump (Rethrow variable) set = everything
  before_jump around jump (Try body catches) set = meet (before_list_jump around jump body set) (before_catches_jump around jump catches set)
  before_jump around jump (Synchronized monitor body) set = before_list_jump around jump body (after_exp around monitor set)
  before_jump around jump (Construct this arguments) set = everything
  before_jump around jump (Do body test) set = before_list_jump around jump body set
  before_jump around jump (For test variable step body) set = before_list_jump around jump body (when around test set).true
  before_jump around jump (Finally body last) set =
      meet (if list_completes around last then join (before_list_jump around jump body set) (after_list around last set) else everything) (before_list_jump around jump last set)

  pub before_list_jump : Surroundings → Jump → Stms → sets.Set → sets.Set
  before_list_jump around jump Empty set = everything
  before_list_jump around jump (And first rest) set = meet (before_jump around jump first set) (before_list_jump around jump rest (after around None first set))

  pub before_catches_jump : Surroundings → Jump → Catches → sets.Set → sets.Set
  before_catches_jump around jump NoCatches set = everything
  before_catches_jump around jump (AndCatch class variable body rest) set = meet (before_list_jump around jump body (with variable set)) (before_catches_jump around jump rest set)

  pub before_groups_jump : Surroundings → Jump → Groups → sets.Set → sets.Set → sets.Set
  before_groups_jump around jump NoGroups before set = everything
  before_groups_jump around jump (AndGroup labels body rest) before set =
      meet (before_list_jump around jump body (meet before set))
      (before_groups_jump around jump rest (after_list around body (meet before set)) (list_passed_over body set))

-- where a turn of a loop ends: behind its body, and at each continue of the label right before it
abbrev pub after_turn : Surroundings → Option ℕ → Stms → sets.Set → sets.Set
after_turn around own body set = meet_own own (after_list around body set) (λ label. before_list_jump around (Continue label) body set)

-- ---- rules

abbrev mutual
  -- likewise in a statement, given the label right before it
  pub stm_reads : Surroundings → Option ℕ → sets.Set → ℕ → Stm → Rules
  stm_reads around own set place (Block list) = list_reads around set (place + 1) list
  stm_reads around own set place (Labelled label statement) = stm_reads around (Some label) set (place + 1) statement
  stm_reads around own set place (Declare variable kind value) = option_reads around (without variable set) (place + 1) value
  stm_reads around own set place (Set variable value) = reads around set (place + 1) value
  stm_reads around own set place (SetField object name value) =
      reads around set (place + 1) object and reads around (after_exp around object set) (place + 1 + weight_of_exp object) value
  stm_reads around own set place (SetStatic class name value) = reads around set (place + 1) value
  stm_reads around own set place (SetElement array index value) =
      reads around set (place + 1) array and reads around (after_exp around array set) (place + 1 + weight_of_exp array) index
      and reads around (after_exp around index (after_exp around array set)) (place + 1 + weight_of_exp array + weight_of_exp index) value
  stm_reads around own set place (Run call) = reads around set (place + 1) call
  stm_reads around own set place (If test first second) =
      reads around set (place + 1) test and list_reads around (when around test set).true (place + 1 + weight_of_exp test) first
      and list_reads around (when around test set).false (place + 1 + weight_of_exp test + weight_of_stms first) second
  stm_reads around own set place (While test body) =
      reads around set (place + 1) test and list_reads around (when around test set).true (place + 1 + weight_of_exp test) body
  stm_reads around own set place (Switch value groups) =
      reads around set (place + 1) value and groups_reads around everything (after_exp around value set) (place + 1 + weight_of_exp value) groups
  stm_reads around own set place (trees.Break label) = NoRule
  stm_reads around own set place (trees.Continue label) = NoRule
  stm_reads around own set place (Return value) = option_reads around set (place + 1) value
  stm_reads around own set place (Throw value) = reads around set (place + 1) value
  stm_reads around own set place (Rethrow variable) = Rule place Assigned (set variable)
  stm_reads around own set place (Try body catches) =
      list_reads around set (place + 1) body and catches_reads around set (place + 1 + weight_of_stms body) catches
  stm_reads around own set place (Synchronized monitor body) =
      reads around set (place + 1) monitor and list_reads around (after_exp around monitor set) (place + 1 + weight_of_exp monitor) body
  stm_reads around own set place (Construct this arguments) = reads_each around set (place + 1) arguments
  stm_reads around own set place (Do body test) =
      list_reads around set (place + 1) body and reads around (after_turn around own body set) (place + 1 + weight_of_stms body) test
  stm_reads around own set place (For test variable step body) =
      reads around set (place + 1) test
      and reads around (after_turn around own body (when around test set).true) (place + 1 + weight_of_exp test) step
      and list_reads around (when around test set).true (place + 1 + weight_of_exp test + weight_of_exp step) body
  stm_reads around own set place (Finally body last) =
      list_reads around set (place + 1) body and list_reads around set (place + 1 + weight_of_stms body) last

  pub list_reads : Surroundings → sets.Set → ℕ → Stms → Rules
  list_reads around set place Empty = NoRule
  list_reads around set place (And first rest) =
      stm_reads around None set place first and list_reads around (after around None first set) (place + weight_of first) rest

  pub catches_reads : Surroundings → sets.Set → ℕ → Catches → Rules
  catches_reads around set place NoCatches = NoRule
  catches_reads around set place (AndCatch class variable body rest) =
      list_reads around (with variable set) place body and catches_reads around set (place + weight_of_stms body) rest

  pub groups_reads : Surroundings → sets.Set → sets.Set → ℕ → Groups → Rules
  groups_reads around before set place NoGroups = NoRule
  groups_reads around before set place (AndGroup labels body rest) =
      list_reads around (meet before set) place body
      and groups_reads around (after_list around body (meet before set)) (list_passed_over body set) (place + weight_of_stms body) rest
