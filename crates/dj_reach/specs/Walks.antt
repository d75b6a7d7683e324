-- The walk over the statements of a body in the order of its text, as the program makes it: to which place it has come, whether control can
-- come there, the lowest place at which a rule was broken, and the jumps so far that leave what is walked over. The laws in `proofs/` say
-- that it finds what the rules say.
use Rattle.std.specs.Prelude.{ℕ, ◌+◌, Bool, true, false, not, ◌&&◌, ◌||◌, if◌then◌else◌, List, [], ◌∷◌, ◌++◌, Option, Some, None}
use Rattle.dj_syntax.specs.Trees.{Exp, Exps, Stm, Block, Labelled, Declare, Set, SetField, SetStatic, SetElement, Run, If, While, Switch, Return, Throw, Rethrow, Try, Synchronized, Construct, Do, For, Finally, Stms, Empty, And, Groups, NoGroups, AndGroup, Catches, NoCatches, AndCatch}
use Rattle.dj_syntax.specs.Trees as trees
use Rattle.dj_syntax.specs.Weight.{weight_of_exp, weight_of_exps, weight_of_value}
use Rattle.dj_meaning.specs.Statements.{is_labelled}
use Rattle.dj_places.specs.Constants.{constant_truth, is_always}
use Rattle.dj_places.specs.Places.{told, lower}
use Rattle.dj_places.specs.Surroundings.{surroundings_of}
use Rattle.dj_reach.specs.declared.jump.Jump.{Jump}
use Rattle.dj_reach.specs.declared.jump.Jump.TheVariants.{Break, Continue}
use Rattle.dj_reach.specs.declared.walk.Walk.{Walk}
use Rattle.dj_reach.specs.declared.walk.Site as code_site
use Rattle.dj_reach.specs.Jumps.{is_jump_to, is_one_of}
use Rattle.dj_reach.specs.Reach.{Site, of_own, are_in_order}

-- where the program's statements stand
abbrev pub view_site : code_site.Site → Site
view_site site = record { around = surroundings_of site.classes; may_return = site.may_return }

-- ---- places

-- past so many places
abbrev pub skip : ℕ → Walk → Walk
skip places walk = record { place = told (walk.place + places); alive = walk.alive; fault = walk.fault; jumps = walk.jumps }

-- past one place
abbrev pub step : Walk → Walk
step walk = skip 1 walk

-- past an expression
abbrev pub skip_exp : Exp → Walk → Walk
skip_exp exp walk = skip (weight_of_exp exp) walk

-- past expressions
abbrev pub skip_exps : Exps → Walk → Walk
skip_exps exps walk = skip (weight_of_exps exps) walk

-- past an expression, if there is one
abbrev pub skip_option : Option Exp → Walk → Walk
skip_option exp walk = skip (weight_of_value exp) walk

-- a rule at the place, kept or broken
abbrev pub note : Bool → Walk → Walk
note kept walk = record { place = walk.place; alive = walk.alive; fault = lower walk.fault (if kept then None else Some walk.place); jumps = walk.jumps }

-- ---- ways

-- with this told of whether the place is reached
abbrev pub with_alive : Bool → Walk → Walk
with_alive alive walk = record { place = walk.place; alive = alive; fault = walk.fault; jumps = walk.jumps }

-- with these jumps told
abbrev pub with_jumps : List Jump → Walk → Walk
with_jumps jumps walk = record { place = walk.place; alive = walk.alive; fault = walk.fault; jumps = jumps }

-- behind one of two parts
abbrev pub either : Bool → Walk → Walk
either alive walk = with_alive (alive || walk.alive) walk

-- the jumps that don't name this label
abbrev pub others : ℕ → List Jump → List Jump
others label [] = []
others label (first ∷ rest) = if is_jump_to label first then others label rest else first ∷ others label rest

-- behind a labelled statement, which takes the jumps to its label
abbrev pub end_label : ℕ → List Jump → Walk → Walk
end_label label before walk =
    record { place = walk.place; alive = walk.alive || is_one_of (Break label) walk.jumps; fault = walk.fault; jumps = before ++ others label walk.jumps }

-- a loop's test, whose rule is told at the loop
abbrev pub begin_loop : Option Bool → Exp → Walk → Walk
begin_loop known test walk = skip_exp test (step (note (not (is_always false known)) walk))

-- behind a loop
abbrev pub end_loop : Bool → Option Bool → Walk → Walk
end_loop alive known walk = with_alive (alive && not (is_always true known)) walk

-- behind a `do`, whose body had its jumps counted apart
abbrev pub end_do : Option ℕ → Option Bool → List Jump → Exp → Walk → Walk
end_do own known before test walk =
    skip_exp test (record {
      place = walk.place;
      alive = (walk.alive || of_own own (λ label. is_one_of (Continue label) walk.jumps)) && not (is_always true known);
      fault = walk.fault;
      jumps = before ++ walk.jumps;
    })

-- behind a jump
abbrev pub leave_by : Jump → Walk → Walk
leave_by jump walk = record { place = told (walk.place + 1); alive = false; fault = walk.fault; jumps = if walk.alive then walk.jumps ++ jump ∷ [] else walk.jumps }

-- the list of a `finally`, reached or not, behind the jumps before
abbrev pub begin_last : Bool → List Jump → Walk → Walk
begin_last reached before walk = record { place = walk.place; alive = reached; fault = walk.fault; jumps = before }

-- behind a `finally`: where its list can't complete normally, the jumps of the first part are stopped
abbrev pub end_last : Bool → List Jump → Walk → Walk
end_last completes stopped walk =
    record {
      place = walk.place;
      alive = completes && walk.alive;
      fault = walk.fault;
      jumps = if walk.alive then walk.jumps ++ stopped else walk.jumps;
    }

-- ---- the walk

abbrev mutual
  pub pass : Site → Option ℕ → Stm → Walk → Walk
  pass site own (Block list) walk = pass_list site list (step walk)
  pass site own (Labelled label statement) walk = end_label label walk.jumps (pass site (Some label) statement (with_jumps [] (step walk)))
  pass site own (Declare variable kind value) walk = skip_option value (step walk)
  pass site own (Set variable value) walk = skip_exp value (step walk)
  pass site own (SetField object name value) walk = skip_exp value (skip_exp object (step walk))
  pass site own (SetStatic class name value) walk = skip_exp value (step walk)
  pass site own (SetElement array index value) walk = skip_exp value (skip_exp index (skip_exp array (step walk)))
  pass site own (Run call) walk = skip_exp call (step walk)
  pass site own (If test first second) walk =
      let behind = pass_list site first (skip_exp test (step walk)) in
      either behind.alive (pass_list site second (with_alive walk.alive behind))
  pass site own (While test body) walk =
      let known = constant_truth site.around test in
      end_loop walk.alive known (pass_list site body (begin_loop known test walk))
  pass site own (Switch value groups) walk =
      either (walk.alive && not (is_labelled None groups)) (pass_groups site walk.alive groups (skip_exp value (step walk)))
  pass site own (trees.Break label) walk = leave_by (Break label) walk
  pass site own (trees.Continue label) walk = leave_by (Continue label) walk
  pass site own (Return value) walk = with_alive false (skip_option value (step (note site.may_return walk)))
  pass site own (Throw value) walk = with_alive false (skip_exp value (step walk))
  pass site own (Rethrow variable) walk = with_alive false (step walk)
  pass site own (Try body catches) walk =
      pass_catches site walk.alive catches (pass_list site body (step (note (are_in_order site.around.headers catches) walk)))
  pass site own (Synchronized monitor body) walk = pass_list site body (skip_exp monitor (step walk))
  pass site own (Construct this arguments) walk = skip_exps arguments (step walk)
  pass site own (Do body test) walk =
      end_do own (constant_truth site.around test) walk.jumps test (pass_list site body (with_jumps [] (step walk)))
  pass site own (For test variable next body) walk =
      let known = constant_truth site.around test in
      end_loop walk.alive known (pass_list site body (skip_exp next (begin_loop known test walk)))
  pass site own (Finally body last) walk =
      let behind = pass_list site body (with_jumps [] (step walk)) in
      end_last behind.alive behind.jumps (pass_list site last (begin_last walk.alive walk.jumps behind))

  pub pass_list : Site → Stms → Walk → Walk
  pass_list site Empty walk = walk
  pass_list site (And first rest) walk = pass_list site rest (pass site None first (note walk.alive walk))

  -- each group is reached where the switch is
  pub pass_groups : Site → Bool → Groups → Walk → Walk
  pass_groups site reached NoGroups walk = walk
  pass_groups site reached (AndGroup labels body rest) walk = pass_groups site reached rest (pass_list site body (with_alive reached walk))

  -- each clause is reached where the try is
  pub pass_catches : Site → Bool → Catches → Walk → Walk
  pass_catches site reached NoCatches walk = walk
  pass_catches site reached (AndCatch class variable body rest) walk =
      pass_catches site reached rest (either walk.alive (pass_list site body (with_alive reached walk)))

-- as a walk begins
abbrev pub opening : Walk
opening = record { place = 0; alive = true; fault = None; jumps = [] }
