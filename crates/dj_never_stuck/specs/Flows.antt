-- What the rules say of how statements complete (JLS 14.21, 16.2).
use Rattle.std.specs.Prelude.{◌≡◌, ℕ, Bool, true, not, ◌&&◌, ◌||◌, if◌then◌else◌, List, Option, Some}
use Rattle.dj_syntax.specs.Trees.{Stm, Stms, Groups, Catches}
use Rattle.dj_places.specs.Constants.{Surroundings}
use Rattle.dj_reach.specs.declared.jump.Jump.{Jump}
use Rattle.dj_reach.specs.declared.jump.Jump.TheVariants as jumps
use Rattle.dj_reach.specs.Jumps.{is_jump_to, is_one_of}
use Rattle.dj_reach.specs.Reach.{completes, list_completes, catches_complete, groups_complete, leaves, list_leaves, catches_leave, groups_leave}
use Rattle.dj_variables.specs.Sets.{Set, everything, meet}
use Rattle.dj_assigned.specs.Assigned.{after, after_list, after_catches, after_groups, before_jump, before_list_jump, before_catches_jump, before_groups_jump}
use Rattle.dj_never_stuck.specs.Ways.{Flow}

-- of a statement, given the label right before it and what is assigned before it
abbrev pub flow : Surroundings → Option ℕ → Stm → Set → Flow
flow around own statement set = record {
  completes = completes around own statement;
  leaves = λ jump. leaves around jump statement;
  after = after around own statement set;
  before = λ jump. before_jump around jump statement set;
}

-- of statements
abbrev pub list_flow : Surroundings → Stms → Set → Flow
list_flow around list set = record {
  completes = list_completes around list;
  leaves = λ jump. list_leaves around jump list;
  after = after_list around list set;
  before = λ jump. before_list_jump around jump list set;
}

-- of statements with what stands behind them
abbrev pub then_flow : Surroundings → Stms → Set → Flow → Flow
then_flow around list set next = record {
  completes = list_completes around list && next.completes;
  leaves = λ jump. list_leaves around jump list || (list_completes around list && next.leaves jump);
  after = next.after;
  before = λ jump. meet (before_list_jump around jump list set) (next.before jump);
}

-- of catch clauses
abbrev pub catches_flow : Surroundings → Catches → Set → Flow
catches_flow around catches set = record {
  completes = catches_complete around catches;
  leaves = λ jump. catches_leave around jump catches;
  after = after_catches around catches set;
  before = λ jump. before_catches_jump around jump catches set;
}

-- of groups, given whether what is before them completes, and what is assigned behind that and where the switch jumps
abbrev pub groups_flow : Surroundings → Bool → Groups → Set → Set → Flow
groups_flow around falls groups before set = record {
  completes = groups_complete around falls groups;
  leaves = λ jump. groups_leave around jump groups;
  after = after_groups around groups before set;
  before = λ jump. before_groups_jump around jump groups before set;
}

-- of a statement under a label, which takes the jumps to it
abbrev pub labelled_flow : ℕ → Flow → Flow
labelled_flow label within = record {
  completes = within.completes || within.leaves (jumps.Break label);
  leaves = λ jump. not (is_jump_to label jump) && within.leaves jump;
  after = meet within.after (within.before (jumps.Break label));
  before = λ jump. if is_jump_to label jump then everything else within.before jump;
}

-- the jumps that are taken around a statement, given the label right before it: that label is taken, and with each continue the break
pub record AreTaken (targets : List Jump) (own : Option ℕ) : Type 0 where
  pub breaks : (label : ℕ) → is_one_of (jumps.Continue label) targets ≡ true → is_one_of (jumps.Break label) targets ≡ true
  pub its_own : (label : ℕ) → own ≡ Some label → is_one_of (jumps.Break label) targets ≡ true
