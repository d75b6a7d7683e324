-- The walk over a body in the order of its text, as the program makes it: besides what a walk over expressions has, the jumps so far, each with
-- the variables that aren't assigned there. The law in `proofs/` says that it finds what the rules say.
use Rattle.std.specs.Prelude.{ℕ, Bool, if◌then◌else◌, List, [], ◌∷◌, ◌++◌, Option, Some, None}
use Rattle.dj_syntax.specs.declared.variable.Var.{Var}
use Rattle.dj_syntax.specs.Trees.{Exp, Stm, Block, Labelled, Declare, Set, SetField, SetStatic, SetElement, Run, If, While, Switch, Return, Throw, Rethrow, Try, Synchronized, Construct, Do, For, Finally, Stms, Empty, And, Groups, NoGroups, AndGroup, Catches, NoCatches, AndCatch}
use Rattle.dj_syntax.specs.Trees as trees
use Rattle.dj_syntax.specs.Weight.{weight_of_exp}
use Rattle.dj_meaning.specs.Statements.{is_labelled}
use Rattle.dj_places.specs.Constants.{Surroundings}
use Rattle.dj_reach.specs.declared.jump.Jump.{Jump}
use Rattle.dj_reach.specs.declared.jump.Jump.TheVariants.{Break, Continue}
use Rattle.dj_reach.specs.Jumps.{is_same_jump, is_jump_to}
use Rattle.dj_reach.specs.Reach.{list_completes}
use Rattle.dj_variables.specs.Lists.{removed, union, common}
use Rattle.dj_conditions.specs.declared.walk.Walk.{Walk}
use Rattle.dj_conditions.specs.Walks as walks
use Rattle.dj_conditions.specs.Walks.{at_place, skip, step, read, from, write, forget, meet_with, Sides, look, look_each, test, look_option, first_value}
use Rattle.dj_assigned.specs.declared.course.Course.{Course}
use Rattle.dj_assigned.specs.declared.course.Pending.{Pending}

-- the same course, its walk having come so far
abbrev pub along : Walk → Course → Course
along walk course = record { walk = walk; jumps = course.jumps }

-- the same, with other variables that aren't assigned
abbrev pub course_from : List Var → Course → Course
course_from unassigned course = along (from unassigned course.walk) course

-- ---- jumps

-- behind a step, the jumps before it being kept apart
abbrev pub apart : Walk → Course
apart walk = record { walk = walk; jumps = [] }

-- behind a jump
abbrev pub leave_by : Jump → Course → Course
leave_by jump course = record { walk = from [] (step course.walk); jumps = course.jumps ++ record { jump = jump; unassigned = course.walk.unassigned } ∷ [] }

-- what isn't assigned on one way and at each such jump
abbrev pub gathered : Jump → List Pending → List Var → List Var
gathered jump [] list = list
gathered jump (first ∷ rest) list = gathered jump rest (if is_same_jump first.jump jump then union list first.unassigned else list)

-- the jumps that don't name this label
abbrev pub others : ℕ → List Pending → List Pending
others label [] = []
others label (first ∷ rest) = if is_jump_to label first.jump then others label rest else first ∷ others label rest

-- the jumps, each behind a list that assigns all but these
abbrev pub behind_last : List Var → List Pending → List Pending
behind_last unassigned [] = []
behind_last unassigned (first ∷ rest) = record { jump = first.jump; unassigned = common first.unassigned unassigned } ∷ behind_last unassigned rest

-- behind a labelled statement
abbrev pub end_label : ℕ → List Pending → Course → Course
end_label label before course =
    record { walk = from (gathered (Break label) course.jumps course.walk.unassigned) course.walk; jumps = before ++ others label course.jumps }

-- what isn't assigned where a turn of a loop ends
abbrev pub end_turn : Option ℕ → Course → List Var
end_turn None course = course.walk.unassigned
end_turn (Some label) course = gathered (Continue label) course.jumps course.walk.unassigned

-- the jumps of a loop's body behind those before it, and what isn't assigned where a turn ends
abbrev pub turn_ended : Option ℕ → List Pending → Course → Course
turn_ended own before course = record { walk = from (end_turn own course) course.walk; jumps = before ++ course.jumps }

-- behind a loop, given the walk behind its step, the place behind its body, and what isn't assigned where its test is false
abbrev pub end_for : ℕ → List Var → Walk → Walk
end_for place otherwise walk = at_place place (from otherwise walk)

-- the list of a `finally`, given what isn't assigned and the jumps before
abbrev pub begin_last : List Var → List Pending → Course → Course
begin_last unassigned before course = record { walk = from unassigned course.walk; jumps = before }

-- behind a `finally`, given whether its list completes, and how the walk was behind the first part
abbrev pub end_last : Bool → List Var → List Pending → Course → Course
end_last completes unassigned stopped course = record {
  walk = from (common unassigned course.walk.unassigned) course.walk;
  jumps = if completes then course.jumps ++ behind_last course.walk.unassigned stopped else course.jumps;
}

-- ---- switches

-- what isn't assigned where a switch jumps over a statement
abbrev pub jumped_over : Stm → List Var → List Var
jumped_over (Block list) unassigned = unassigned
jumped_over (Labelled label statement) unassigned = unassigned
jumped_over (Declare variable kind value) unassigned = union unassigned (variable ∷ [])
jumped_over (Set variable value) unassigned = unassigned
jumped_over (SetField object name value) unassigned = unassigned
jumped_over (SetStatic class name value) unassigned = unassigned
jumped_over (SetElement array index value) unassigned = unassigned
jumped_over (Run call) unassigned = unassigned
jumped_over (If condition first second) unassigned = unassigned
jumped_over (While condition body) unassigned = unassigned
jumped_over (Switch value cases) unassigned = unassigned
jumped_over (trees.Break label) unassigned = unassigned
jumped_over (trees.Continue label) unassigned = unassigned
jumped_over (Return value) unassigned = unassigned
jumped_over (Throw value) unassigned = unassigned
jumped_over (Rethrow variable) unassigned = unassigned
jumped_over (Try body clauses) unassigned = unassigned
jumped_over (Synchronized monitor body) unassigned = unassigned
jumped_over (Construct this arguments) unassigned = unassigned
jumped_over (Do body condition) unassigned = unassigned
jumped_over (For condition variable next body) unassigned = unassigned
jumped_over (Finally body last) unassigned = unassigned

-- the same of a list of statements
abbrev pub list_jumped_over : Stms → List Var → List Var
list_jumped_over Empty unassigned = unassigned
list_jumped_over (And first rest) unassigned = list_jumped_over rest (jumped_over first unassigned)

-- the same of the groups of a `switch`
abbrev pub groups_jumped_over : Groups → List Var → List Var
groups_jumped_over NoGroups unassigned = unassigned
groups_jumped_over (AndGroup labels body rest) unassigned = groups_jumped_over rest (list_jumped_over body unassigned)

-- behind a switch: without `default` it may jump over all groups
abbrev pub end_switch : Bool → List Var → Course → Course
end_switch has_default jumped course = if has_default then course else along (meet_with jumped course.walk) course

-- ---- statements

abbrev mutual
  pub pass : Surroundings → Option ℕ → Stm → Course → Course
  pass around own (Block list) course = pass_list around list (along (step course.walk) course)
  pass around own (Labelled label statement) course = end_label label course.jumps (pass around (Some label) statement (apart (step course.walk)))
  pass around own (Declare variable kind value) course = along (first_value around variable value (forget variable (step course.walk))) course
  pass around own (Set variable value) course = along (write variable (look around value (step course.walk))) course
  pass around own (SetField object name value) course = along (look around value (look around object (step course.walk))) course
  pass around own (SetStatic class name value) course = along (look around value (step course.walk)) course
  pass around own (SetElement array index value) course = along (look around value (look around index (look around array (step course.walk)))) course
  pass around own (Run call) course = along (look around call (step course.walk)) course
  pass around own (If condition first second) course =
      let one = test around condition (step course.walk) in
      let between = pass_list around first (along one.walk course) in
      let behind = pass_list around second (course_from one.otherwise between) in
      along (meet_with between.walk.unassigned behind.walk) behind
  pass around own (While condition body) course =
      let one = test around condition (step course.walk) in
      course_from one.otherwise (pass_list around body (along one.walk course))
  pass around own (Switch value groups) course =
      let start = look around value (step course.walk) in
      end_switch (is_labelled None groups) (groups_jumped_over groups start.unassigned) (pass_groups around groups start.unassigned (along (from [] start) course))
  pass around own (trees.Break label) course = leave_by (Break label) course
  pass around own (trees.Continue label) course = leave_by (Continue label) course
  pass around own (Return value) course = along (from [] (look_option around value (step course.walk))) course
  pass around own (Throw value) course = along (from [] (look around value (step course.walk))) course
  pass around own (Rethrow variable) course = along (from [] (step (read variable course.walk))) course
  pass around own (Try body catches) course = pass_catches around catches course.walk.unassigned (pass_list around body (along (step course.walk) course))
  pass around own (Synchronized monitor body) course = pass_list around body (along (look around monitor (step course.walk)) course)
  pass around own (Construct this arguments) course = along (look_each around arguments (step course.walk)) course
  pass around own (Do body condition) course =
      let ended = turn_ended own course.jumps (pass_list around body (apart (step course.walk))) in
      let one = test around condition ended.walk in
      along (from one.otherwise one.walk) ended
  pass around own (For condition variable next body) course =
      let one = test around condition (step course.walk) in
      let behind = pass_list around body (apart (skip (weight_of_exp next) one.walk)) in
      let ended = turn_ended own course.jumps behind in
      along (end_for behind.walk.place one.otherwise (look around next (at_place one.walk.place ended.walk))) ended
  pass around own (Finally body last) course =
      let behind = pass_list around body (apart (step course.walk)) in
      end_last (list_completes around last) behind.walk.unassigned behind.jumps (pass_list around last (begin_last course.walk.unassigned course.jumps behind))

  pub pass_list : Surroundings → Stms → Course → Course
  pass_list around Empty course = course
  pass_list around (And first rest) course = pass_list around rest (pass around None first course)

  -- each group, given what isn't assigned where the switch jumps to it
  pub pass_groups : Surroundings → Groups → List Var → Course → Course
  pass_groups around NoGroups jumped course = course
  pass_groups around (AndGroup labels body rest) jumped course =
      pass_groups around rest (list_jumped_over body jumped) (pass_list around body (along (meet_with jumped course.walk) course))

  -- each clause, given what isn't assigned before the try
  pub pass_catches : Surroundings → Catches → List Var → Course → Course
  pass_catches around NoCatches before course = course
  pass_catches around (AndCatch class variable body rest) before course =
      let behind = pass_list around body (course_from (removed variable before) course) in
      pass_catches around rest before (along (meet_with course.walk.unassigned behind.walk) behind)

-- as a walk begins
abbrev pub opening : Course
opening = apart walks.opening
