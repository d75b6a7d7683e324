-- The walk over the statements of a body in the order of its text, as the program makes it: to which place it has come, the first fault so far,
-- and what was thrown so far. The laws in `proofs/` say that it finds what the definitions say.
use Rattle.std.specs.Prelude.{ℕ, ◌+◌, Bool, List, [], ◌∷◌, ◌++◌, Option, Some, None}
use Rattle.dj_names.specs.declared.header.Header.{Header}
use Rattle.dj_names.specs.Headers.{Name}
use Rattle.dj_names.specs.Types.{Class}
use Rattle.dj_syntax.specs.Trees.{Exp, Text, Truth, Null, This, Variable, ClassOf, Field, Static, Element, Call, StaticCall, SuperCall, New, NewArray, Cast, InstanceOf, Negative, Not, Binary, Choice, Assign, Exps, NoExps, AndExp, Stm, Block, Labelled, Declare, Set, SetField, SetStatic, SetElement, Run, If, While, Switch, Break, Continue, Return, Throw, Rethrow, Try, Synchronized, Construct, Do, For, Finally, Stms, Empty, And, Groups, NoGroups, AndGroup, Catches, NoCatches, AndCatch}
use Rattle.dj_syntax.specs.Trees as trees
use Rattle.dj_meaning.specs.StaticTypes.{Scope, with_type, plain, type_of, types_of}
use Rattle.dj_meaning.specs.Declarations.{declared, within, behind}
use Rattle.dj_places.specs.Places.{told}
use Rattle.dj_places.specs.declared.kind.TypeKind.TheVariants.{Catch, Thrown}
use Rattle.dj_faults.specs.declared.fault.Fault.{Fault}
use Rattle.dj_faults.specs.Faults.{lower, fault_at}
use Rattle.dj_reach.specs.Reach.{list_completes}
use Rattle.dj_thrown.specs.declared.throwing.Throwing.{Throwing}
use Rattle.dj_thrown.specs.declared.throwing.Held.{Held}
use Rattle.dj_thrown.specs.declared.walk.Walk.{Walk}
use Rattle.dj_thrown.specs.Settings.{Setting, context_of, around}
use Rattle.dj_thrown.specs.Listed.{object_listed, class_listed, super_listed, new_listed, construct_listed}
use Rattle.dj_thrown.specs.Throws.{thrown_at, left, holding, throw_throws, through}
use Rattle.dj_thrown.specs.Catching.{may_all_catch, may_escape}

-- ---- steps

-- past one place
abbrev pub step : Walk → Walk
step walk = record { place = told (walk.place + 1); fault = walk.fault; thrown = walk.thrown }

-- classes that are thrown at the place
abbrev pub throw_all : List Name → Walk → Walk
throw_all classes walk = record { place = walk.place; fault = walk.fault; thrown = walk.thrown ++ thrown_at walk.place classes }

-- with this told of what is thrown
abbrev pub with_thrown : List Throwing → Walk → Walk
with_thrown thrown walk = record { place = walk.place; fault = walk.fault; thrown = thrown }

-- a rule on catch clauses at an earlier place, kept or broken
abbrev pub note : ℕ → Bool → Walk → Walk
note place kept walk = record { place = walk.place; fault = lower walk.fault (fault_at place Catch kept); thrown = walk.thrown }

-- ---- expressions

abbrev mutual
  pub pass_exp : Setting → Scope → Exp → Walk → Walk
  pass_exp setting scope (trees.Int number) walk = step walk
  pass_exp setting scope (trees.Long number) walk = step walk
  pass_exp setting scope (Text units) walk = step walk
  pass_exp setting scope (Truth known) walk = step walk
  pass_exp setting scope Null walk = step walk
  pass_exp setting scope This walk = step walk
  pass_exp setting scope (Variable variable) walk = step walk
  pass_exp setting scope (ClassOf kind) walk = step walk
  pass_exp setting scope (Field object name) walk = pass_exp setting scope object (step walk)
  pass_exp setting scope (Static class name) walk = step walk
  pass_exp setting scope (Element array index) walk = pass_exp setting scope index (pass_exp setting scope array (step walk))
  pass_exp setting scope (Call object name arguments) walk =
      pass_exps setting scope arguments (pass_exp setting scope object (step
      (throw_all (object_listed setting name (plain (type_of (context_of setting) scope object)) (types_of (context_of setting) scope arguments)) walk)))
  pass_exp setting scope (StaticCall class name arguments) walk =
      pass_exps setting scope arguments (step (throw_all (class_listed setting class name (types_of (context_of setting) scope arguments)) walk))
  pass_exp setting scope (SuperCall above name arguments) walk =
      pass_exps setting scope arguments (step (throw_all (super_listed setting above name (types_of (context_of setting) scope arguments)) walk))
  pass_exp setting scope (New class arguments) walk =
      pass_exps setting scope arguments (step (throw_all (new_listed setting class (types_of (context_of setting) scope arguments)) walk))
  pass_exp setting scope (NewArray kind sizes more) walk = pass_exps setting scope sizes (step walk)
  pass_exp setting scope (Cast kind operand) walk = pass_exp setting scope operand (step walk)
  pass_exp setting scope (InstanceOf operand kind) walk = pass_exp setting scope operand (step walk)
  pass_exp setting scope (Negative operand) walk = pass_exp setting scope operand (step walk)
  pass_exp setting scope (Not operand) walk = pass_exp setting scope operand (step walk)
  pass_exp setting scope (Binary operator left right) walk = pass_exp setting scope right (pass_exp setting scope left (step walk))
  pass_exp setting scope (Choice test first second) walk =
      pass_exp setting scope second (pass_exp setting scope first (pass_exp setting scope test (step walk)))
  pass_exp setting scope (Assign variable new) walk = pass_exp setting scope new (step walk)

  pub pass_exps : Setting → Scope → Exps → Walk → Walk
  pass_exps setting scope NoExps walk = walk
  pass_exps setting scope (AndExp first rest) walk = pass_exps setting scope rest (pass_exp setting scope first walk)

-- past an expression, if there is one
abbrev pub pass_option : Setting → Scope → Option Exp → Walk → Walk
pass_option setting scope None walk = walk
pass_option setting scope (Some exp) walk = pass_exp setting scope exp walk

-- ---- statements

abbrev mutual
  pub pass : Setting → List Held → Scope → Stm → Walk → Walk
  pass setting held scope (Block list) walk = pass_list setting held scope list (step walk)
  pass setting held scope (Labelled label statement) walk = pass setting held scope statement (step walk)
  pass setting held scope (Declare variable kind initial) walk = pass_option setting (with_type variable kind scope) initial (step walk)
  pass setting held scope (Set variable new) walk = pass_exp setting scope new (step walk)
  pass setting held scope (SetField object name new) walk = pass_exp setting scope new (pass_exp setting scope object (step walk))
  pass setting held scope (SetStatic class name new) walk = pass_exp setting scope new (step walk)
  pass setting held scope (SetElement array index new) walk =
      pass_exp setting scope new (pass_exp setting scope index (pass_exp setting scope array (step walk)))
  pass setting held scope (Run call) walk = pass_exp setting scope call (step walk)
  pass setting held scope (If test first second) walk =
      pass_list setting held scope second (pass_list setting held scope first (pass_exp setting scope test (step walk)))
  pass setting held scope (While test body) walk = pass_list setting held scope body (pass_exp setting scope test (step walk))
  pass setting held scope (Switch on groups) walk = pass_groups setting held scope groups (pass_exp setting scope on (step walk))
  pass setting held scope (Break label) walk = step walk
  pass setting held scope (Continue label) walk = step walk
  pass setting held scope (Return result) walk = pass_option setting scope result (step walk)
  pass setting held scope (Throw exception) walk = pass_exp setting scope exception (step (throw_all (throw_throws setting held scope exception) walk))
  pass setting held scope (Rethrow variable) walk = step walk
  pass setting held scope (Try body catches) walk =
      let behind = pass_list setting held scope body (with_thrown [] (step walk)) in
      pass_catches setting held scope behind.thrown catches (note walk.place (may_all_catch setting.headers behind.thrown catches) (with_thrown walk.thrown behind))
  pass setting held scope (Synchronized monitor body) walk = pass_list setting held scope body (pass_exp setting scope monitor (step walk))
  pass setting held scope (Construct own arguments) walk =
      pass_exps setting scope arguments (step (throw_all (construct_listed setting own (types_of (context_of setting) scope arguments)) walk))
  pass setting held scope (Do body test) walk = pass_exp setting scope test (pass_list setting held scope body (step walk))
  pass setting held scope (For test variable next body) walk =
      pass_list setting held scope body (pass_exp setting scope next (pass_exp setting scope test (step walk)))
  pass setting held scope (Finally body last) walk =
      let behind = pass_list setting held scope body (with_thrown [] (step walk)) in
      pass_list setting held scope last (with_thrown (walk.thrown ++ through (list_completes (around setting) last) behind.thrown) behind)

  pub pass_list : Setting → List Held → Scope → Stms → Walk → Walk
  pass_list setting held scope Empty walk = walk
  pass_list setting held scope (And first rest) walk = pass_list setting held (within (declared first) scope) rest (pass setting held scope first walk)

  pub pass_catches : Setting → List Held → Scope → List Throwing → Catches → Walk → Walk
  pass_catches setting held scope thrown NoCatches walk = with_thrown (walk.thrown ++ thrown) walk
  pass_catches setting held scope thrown (AndCatch class variable body rest) walk =
      pass_catches setting held scope (left setting.headers class thrown) rest
      (pass_list setting (held ++ holding setting.headers class variable body thrown ∷ []) (with_type variable (Class class) scope) body walk)

  pub pass_groups : Setting → List Held → Scope → Groups → Walk → Walk
  pass_groups setting held scope NoGroups walk = walk
  pass_groups setting held scope (AndGroup labels body rest) walk = pass_groups setting held (behind body scope) rest (pass_list setting held scope body walk)

-- statements behind a place, what they throw being gathered apart
abbrev pub pass_apart : Setting → List Held → Scope → Stms → Walk → Walk
pass_apart setting held scope list walk = pass_list setting held scope list (with_thrown [] (step walk))

-- as a walk begins
abbrev pub opening : Walk
opening = record { place = 0; fault = None; thrown = [] }

-- the first of what is thrown that may not escape, its place being one that is told already
abbrev pub first_escaping : List Header → List Name → List Throwing → Option Fault
first_escaping headers declared [] = None
first_escaping headers declared (one ∷ rest) = lower (fault_at one.place Thrown (may_escape headers declared one.class)) (first_escaping headers declared rest)
