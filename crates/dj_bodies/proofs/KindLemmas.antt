-- The rules of reachability are all of one kind, and so are those of definite assignment.
use Rattle.std.proofs.Common.{◌+◌, ℕ, Bool, true, ◌&&◌, List, Option, Some, None, refl}
use Rattle.dj_names.specs.declared.header.Header.{Header}
use Rattle.dj_names.specs.declared.members.ClassMembers.{ClassMembers}
use Rattle.dj_syntax.specs.Trees.{Exp, Text, Truth, Null, This, Variable, ClassOf, Field, Static, Element, Call, StaticCall, SuperCall, New, NewArray, Cast, InstanceOf, Negative, Not, Binary, Choice, Assign, Exps, NoExps, AndExp, Stm, Block, Labelled, Declare, Set, SetField, SetStatic, SetElement, Run, If, While, Switch, Return, Throw, Rethrow, Try, Synchronized, Construct, Do, For, Finally, Stms, Empty, And, Groups, NoGroups, AndGroup, Catches, NoCatches, AndCatch, Body}
use Rattle.dj_syntax.specs.Trees as trees
use Rattle.dj_syntax.specs.Weight.{weight_of, weight_of_exp, weight_of_stms}
use Rattle.dj_places.specs.Constants.{Surroundings}
use Rattle.dj_places.specs.Surroundings.{around_body}
use Rattle.dj_places.specs.declared.kind.TypeKind.TheVariants as kinds
use Rattle.dj_faults.specs.FirstFault.{AreOf}
use Rattle.dj_reach.specs.Reach.{Site, stm_reach, list_reach, catches_reach, groups_reach, completes}
use Rattle.dj_reach.specs.Bodies.{body_reach, site_of}
use Rattle.dj_variables.specs.Sets as sets
use Rattle.dj_variables.specs.Sets.{everything, with, without, meet}
use Rattle.dj_conditions.specs.Conditions.{when, after_exp, wanted_before}
use Rattle.dj_conditions.specs.Reads.{before_right, reads, reads_each, option_reads}
use Rattle.dj_assigned.specs.Assigned.{after, after_list, after_turn, list_passed_over, stm_reads, list_reads, catches_reads, groups_reads}
use Rattle.dj_assigned.specs.Bodies.{body_reads}

-- ---- reachability

mutual
  of_stm : (site : Site) (reached : Bool) (place : ℕ) (statement : Stm) → AreOf kinds.Reach (stm_reach site reached place statement)
  of_stm site reached place (Block list) = of_list site reached (place + 1) list
  of_stm site reached place (Labelled label statement) = of_stm site reached (place + 1) statement
  of_stm site reached place (Declare variable kind value) = tt
  of_stm site reached place (Set variable value) = tt
  of_stm site reached place (SetField object name value) = tt
  of_stm site reached place (SetStatic class name value) = tt
  of_stm site reached place (SetElement array index value) = tt
  of_stm site reached place (Run call) = tt
  of_stm site reached place (If test first second) =
      (of_list site reached (place + 1 + weight_of_exp test) first, of_list site reached (place + 1 + weight_of_exp test + weight_of_stms first) second)
  of_stm site reached place (While test body) = (refl, of_list site reached (place + 1 + weight_of_exp test) body)
  of_stm site reached place (Switch value groups) = of_groups site reached (place + 1 + weight_of_exp value) groups
  of_stm site reached place (trees.Break label) = tt
  of_stm site reached place (trees.Continue label) = tt
  of_stm site reached place (Return value) = refl
  of_stm site reached place (Throw value) = tt
  of_stm site reached place (Rethrow variable) = tt
  of_stm site reached place (Try body catches) =
      (refl, (of_list site reached (place + 1) body, of_catches site reached (place + 1 + weight_of_stms body) catches))
  of_stm site reached place (Synchronized monitor body) = of_list site reached (place + 1 + weight_of_exp monitor) body
  of_stm site reached place (Construct this arguments) = tt
  of_stm site reached place (Do body test) = of_list site reached (place + 1) body
  of_stm site reached place (For test variable step body) = (refl, of_list site reached (place + 1 + weight_of_exp test + weight_of_exp step) body)
  of_stm site reached place (Finally body last) = (of_list site reached (place + 1) body, of_list site reached (place + 1 + weight_of_stms body) last)

  of_list : (site : Site) (reached : Bool) (place : ℕ) (list : Stms) → AreOf kinds.Reach (list_reach site reached place list)
  of_list site reached place Empty = tt
  of_list site reached place (And first rest) =
      (refl, (of_stm site reached place first, of_list site (reached && completes site.around None first) (place + weight_of first) rest))

  of_catches : (site : Site) (reached : Bool) (place : ℕ) (catches : Catches) → AreOf kinds.Reach (catches_reach site reached place catches)
  of_catches site reached place NoCatches = tt
  of_catches site reached place (AndCatch class variable body rest) =
      (of_list site reached place body, of_catches site reached (place + weight_of_stms body) rest)

  of_groups : (site : Site) (reached : Bool) (place : ℕ) (groups : Groups) → AreOf kinds.Reach (groups_reach site reached place groups)
  of_groups site reached place NoGroups = tt
  of_groups site reached place (AndGroup labels body rest) =
      (of_list site reached place body, of_groups site reached (place + weight_of_stms body) rest)

-- all the rules of reachability on a body
pub of_reach : (headers : List Header) (members : List ClassMembers) (body : Body) → AreOf kinds.Reach (body_reach headers members body)
of_reach headers members body = (refl, of_list (site_of headers members body) true 0 body.statements)

-- ---- definite assignment

mutual
  reads_of : (around : Surroundings) (set : sets.Set) (place : ℕ) (exp : Exp) → AreOf kinds.Assigned (reads around set place exp)
  reads_of around set place (trees.Int number) = tt
  reads_of around set place (trees.Long number) = tt
  reads_of around set place (Text units) = tt
  reads_of around set place (Truth known) = tt
  reads_of around set place Null = tt
  reads_of around set place This = tt
  reads_of around set place (Variable variable) = refl
  reads_of around set place (ClassOf kind) = tt
  reads_of around set place (Field object name) = reads_of around set (place + 1) object
  reads_of around set place (Static class name) = tt
  reads_of around set place (Element array index) =
      (reads_of around set (place + 1) array, reads_of around (after_exp around array set) (place + 1 + weight_of_exp array) index)
  reads_of around set place (Call object name arguments) =
      (reads_of around set (place + 1) object, each_of around (after_exp around object set) (place + 1 + weight_of_exp object) arguments)
  reads_of around set place (StaticCall class name arguments) = each_of around set (place + 1) arguments
  reads_of around set place (SuperCall above name arguments) = each_of around set (place + 1) arguments
  reads_of around set place (New class arguments) = each_of around set (place + 1) arguments
  reads_of around set place (NewArray kind sizes more) = each_of around set (place + 1) sizes
  reads_of around set place (Cast kind operand) = reads_of around set (place + 1) operand
  reads_of around set place (InstanceOf operand kind) = reads_of around set (place + 1) operand
  reads_of around set place (Negative operand) = reads_of around set (place + 1) operand
  reads_of around set place (Not operand) = reads_of around set (place + 1) operand
  reads_of around set place (Binary operator left right) =
      (reads_of around set (place + 1) left, reads_of around (before_right (wanted_before operator) (when around left set)) (place + 1 + weight_of_exp left) right)
  reads_of around set place (Choice test first second) =
      (reads_of around set (place + 1) test, (reads_of around (when around test set).true (place + 1 + weight_of_exp test) first, reads_of around (when around test set).false (place + 1 + weight_of_exp test + weight_of_exp first) second))
  reads_of around set place (Assign variable value) = reads_of around set (place + 1) value

  each_of : (around : Surroundings) (set : sets.Set) (place : ℕ) (exps : Exps) → AreOf kinds.Assigned (reads_each around set place exps)
  each_of around set place NoExps = tt
  each_of around set place (AndExp first rest) =
      (reads_of around set place first, each_of around (after_exp around first set) (place + weight_of_exp first) rest)

option_of : (around : Surroundings) (set : sets.Set) (place : ℕ) (exp : Option Exp) → AreOf kinds.Assigned (option_reads around set place exp)
option_of around set place None = tt
option_of around set place (Some exp) = reads_of around set place exp

mutual
  stm_of : (around : Surroundings) (own : Option ℕ) (set : sets.Set) (place : ℕ) (statement : Stm) → AreOf kinds.Assigned (stm_reads around own set place statement)
  stm_of around own set place (Block list) = list_of around set (place + 1) list
  stm_of around own set place (Labelled label statement) = stm_of around (Some label) set (place + 1) statement
  stm_of around own set place (Declare variable kind value) = option_of around (without variable set) (place + 1) value
  stm_of around own set place (Set variable value) = reads_of around set (place + 1) value
  stm_of around own set place (SetField object name value) =
      (reads_of around set (place + 1) object, reads_of around (after_exp around object set) (place + 1 + weight_of_exp object) value)
  stm_of around own set place (SetStatic class name value) = reads_of around set (place + 1) value
  stm_of around own set place (SetElement array index value) =
      (reads_of around set (place + 1) array, (reads_of around (after_exp around array set) (place + 1 + weight_of_exp array) index, reads_of around (after_exp around index (after_exp around array set)) (place + 1 + weight_of_exp array + weight_of_exp index) value))
  stm_of around own set place (Run call) = reads_of around set (place + 1) call
  stm_of around own set place (If test first second) =
      (reads_of around set (place + 1) test, (list_of around (when around test set).true (place + 1 + weight_of_exp test) first, list_of around (when around test set).false (place + 1 + weight_of_exp test + weight_of_stms first) second))
  stm_of around own set place (While test body) =
      (reads_of around set (place + 1) test, list_of around (when around test set).true (place + 1 + weight_of_exp test) body)
  stm_of around own set place (Switch value groups) =
      (reads_of around set (place + 1) value, groups_of around everything (after_exp around value set) (place + 1 + weight_of_exp value) groups)
  stm_of around own set place (trees.Break label) = tt
  stm_of around own set place (trees.Continue label) = tt
  stm_of around own set place (Return value) = option_of around set (place + 1) value
  stm_of around own set place (Throw value) = reads_of around set (place + 1) value
  stm_of around own set place (Rethrow variable) = refl
  stm_of around own set place (Try body catches) =
      (list_of around set (place + 1) body, catches_of around set (place + 1 + weight_of_stms body) catches)
  stm_of around own set place (Synchronized monitor body) =
      (reads_of around set (place + 1) monitor, list_of around (after_exp around monitor set) (place + 1 + weight_of_exp monitor) body)
  stm_of around own set place (Construct this arguments) = each_of around set (place + 1) arguments
  stm_of around own set place (Do body test) =
      (list_of around set (place + 1) body, reads_of around (after_turn around own body set) (place + 1 + weight_of_stms body) test)
  stm_of around own set place (For test variable step body) =
      (reads_of around set (place + 1) test, (reads_of around (after_turn around own body (when around test set).true) (place + 1 + weight_of_exp test) step, list_of around (when around test set).true (place + 1 + weight_of_exp test + weight_of_exp step) body))
  stm_of around own set place (Finally body last) =
      (list_of around set (place + 1) body, list_of around set (place + 1 + weight_of_stms body) last)

  list_of : (around : Surroundings) (set : sets.Set) (place : ℕ) (list : Stms) → AreOf kinds.Assigned (list_reads around set place list)
  list_of around set place Empty = tt
  list_of around set place (And first rest) =
      (stm_of around None set place first, list_of around (after around None first set) (place + weight_of first) rest)

  catches_of : (around : Surroundings) (set : sets.Set) (place : ℕ) (catches : Catches) → AreOf kinds.Assigned (catches_reads around set place catches)
  catches_of around set place NoCatches = tt
  catches_of around set place (AndCatch class variable body rest) =
      (list_of around (with variable set) place body, catches_of around set (place + weight_of_stms body) rest)

  groups_of : (around : Surroundings) (before set : sets.Set) (place : ℕ) (groups : Groups) → AreOf kinds.Assigned (groups_reads around before set place groups)
  groups_of around before set place NoGroups = tt
  groups_of around before set place (AndGroup labels body rest) = (
    list_of around (meet before set) place body,
    groups_of around (after_list around body (meet before set)) (list_passed_over body set) (place + weight_of_stms body) rest,
  )

-- all the rules of definite assignment on a body
pub of_reads : (headers : List Header) (members : List ClassMembers) (body : Body) → AreOf kinds.Assigned (body_reads headers members body)
of_reads headers members body = list_of (around_body headers members body) everything 0 body.statements
