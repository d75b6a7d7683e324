-- Each variable that a tree names is found in it, or isn't looked for.
use Rattle.std.proofs.Common.{ℕ, zero, suc, Bool, true, false, List, [], ◌∷◌, ◌++◌, Option, Some, None, ◌≡◌, refl, sym, ap, ◌∙◌, subst, ◌||◌, ◌==◌}
use Rattle.std.specs.Prelude.{slice_get, slice_set, if◌then◌else◌}
use Rattle.std.proofs.lemmas.Bool.{eq-eqb, false≢true}
use Rattle.dj_syntax.specs.declared.variable.VarKind.{VarKind}
use Rattle.dj_syntax.specs.declared.variable.VarKind.TheVariants as kind
use Rattle.dj_syntax.specs.declared.variable.Var.{Var}
use Rattle.dj_syntax.specs.Trees.{Exp, Text, Truth, This, Variable, ClassOf, Field, Static, Element, Call, StaticCall, SuperCall, New, NewArray, Cast, InstanceOf, Negative, Not, Binary, Choice, Assign, Exps, NoExps, AndExp, Stm, Block, Labelled, Declare, Set, SetField, SetStatic, SetElement, Run, If, While, Switch, Break, Continue, Return, Throw, Rethrow, Try, Synchronized, Construct, Do, For, Finally, Stms, Empty, And, Groups, NoGroups, AndGroup, Catches, NoCatches, AndCatch}
use Rattle.dj_syntax.specs.Trees as trees
use Rattle.dj_meaning.specs.StaticTypes.{is_same_variable}
use Rattle.dj_meaning.specs.Variables.{EachInExp, EachInExps, EachInOption, EachInStm, EachInStms, EachInGroups, EachInCatches}
use Rattle.dj_declare.proofs.FormedNamed.{map_exp, map_exps, map_option, map_stm, map_stms, map_groups, map_catches}
use Rattle.dj_declare.proofs.Heads.{same_variable}
use Rattle.dj_declaring.specs.declared.found.Found.{Found}
use Rattle.dj_declaring.specs.Occurring.{is_among, noted_local, noted_state, noted, exp_found, exps_found, option_found, stm_found, stms_found, groups_found, catches_found, is_marked, covers, OccurringAreFound}

-- ---- marks

marks_stay : (list : List Bool) (marked other : ℕ) → is_marked (slice_get list other) ≡ true → is_marked (slice_get (slice_set list marked true) other) ≡ true
marks_stay [] marked other c = c
marks_stay (first ∷ rest) zero zero c = refl
marks_stay (first ∷ rest) zero (suc other) c = c
marks_stay (first ∷ rest) (suc marked) zero c = c
marks_stay (first ∷ rest) (suc marked) (suc other) c = marks_stay rest marked other c

is_set : (list : List Bool) (marked : ℕ) → is_marked (slice_get (slice_set list marked true) marked) ≡ true
is_set [] marked = refl
is_set (first ∷ rest) zero = refl
is_set (first ∷ rest) (suc marked) = is_set rest marked

pub among_more : (variable : Var) (list more : List Var) → is_among variable list ≡ true → is_among variable (list ++ more) ≡ true
among_more variable [] more c = absurd (false≢true c)
among_more variable (first ∷ rest) more c = go (is_same_variable first variable) c (λ later. among_more variable rest more later)
  where
    go : (same : Bool) → (same || is_among variable rest) ≡ true → (is_among variable rest ≡ true → is_among variable (rest ++ more) ≡ true) → (same || is_among variable (rest ++ more)) ≡ true
    go true c later = refl
    go false c later = later c

pub among_last : (variable : Var) (list : List Var) → is_among variable (list ++ variable ∷ []) ≡ true
among_last variable [] = ap (λ same. same || false) (same_variable variable)
among_last variable (first ∷ rest) = go (is_same_variable first variable) (among_last variable rest)
  where
    go : (same : Bool) → is_among variable (rest ++ variable ∷ []) ≡ true → (same || is_among variable (rest ++ variable ∷ [])) ≡ true
    go true e = refl
    go false e = e

-- ---- one variable

local_states : (variable : Var) (mark : Option Bool) (found : Found) → (noted_local variable mark found).states ≡ found.states
local_states variable None found = refl
local_states variable (Some true) found = refl
local_states variable (Some false) found = refl

local_seen : (variable : Var) (mark : Option Bool) (found : Found) (other : ℕ) → is_marked (slice_get found.seen other) ≡ true → is_marked (slice_get (noted_local variable mark found).seen other) ≡ true
local_seen variable None found other c = c
local_seen variable (Some true) found other c = c
local_seen variable (Some false) found other c = marks_stay found.seen variable.number other c

state_seen : (variable : Var) (found : Found) → (noted_state variable found).seen ≡ found.seen
state_seen variable found = go (is_among variable found.states)
  where
    go : (among : Bool) → (if among then found else record { seen = found.seen; locals = found.locals; states = found.states ++ variable ∷ [] }).seen ≡ found.seen
    go true = refl
    go false = refl

state_states : (variable other : Var) (found : Found) → is_among other found.states ≡ true → is_among other (noted_state variable found).states ≡ true
state_states variable other found c = go (is_among variable found.states)
  where
    go : (among : Bool) → is_among other (if among then found else record { seen = found.seen; locals = found.locals; states = found.states ++ variable ∷ [] }).states ≡ true
    go true = c
    go false = among_more other found.states (variable ∷ []) c

abbrev pub a_variable : VarKind → ℕ → Var
a_variable of_kind number = record { kind = of_kind; number = number }

pub var_grown : (variable : Var) (found : Found) (other : Var) → covers found other ≡ true → covers (noted variable found) other ≡ true
var_grown variable found other = go variable.kind variable.number other.kind other.number
  where
    go : (one : VarKind) (number : ℕ) (another : VarKind) (place : ℕ) → covers found (a_variable another place) ≡ true → covers (noted (a_variable one number) found) (a_variable another place) ≡ true
    go kind.Param number another place c = c
    go kind.Local number kind.Param place c = refl
    go kind.Local number kind.Local place c = local_seen (a_variable kind.Local number) (slice_get found.seen number) found place c
    go kind.Local number kind.Caught place c = refl
    go kind.Local number kind.State place c = ap (is_among (a_variable kind.State place)) (local_states (a_variable kind.Local number) (slice_get found.seen number) found) ∙ c
    go kind.Caught number another place c = c
    go kind.State number kind.Param place c = refl
    go kind.State number kind.Local place c = ap (λ seen. is_marked (slice_get seen place)) (state_seen (a_variable kind.State number) found) ∙ c
    go kind.State number kind.Caught place c = refl
    go kind.State number kind.State place c = state_states (a_variable kind.State number) (a_variable kind.State place) found c

pub var_covered : (variable : Var) (found : Found) → covers (noted variable found) variable ≡ true
var_covered variable found = go variable.kind variable.number
  where
    marked : (number : ℕ) (mark : Option Bool) → slice_get found.seen number ≡ mark → is_marked (slice_get (noted_local (a_variable kind.Local number) mark found).seen number) ≡ true
    marked number None e = ap is_marked e
    marked number (Some true) e = ap is_marked e
    marked number (Some false) e = is_set found.seen number

    among : (number : ℕ) (there : Bool) → is_among (a_variable kind.State number) found.states ≡ there
        → is_among (a_variable kind.State number) (if there then found else record { seen = found.seen; locals = found.locals; states = found.states ++ a_variable kind.State number ∷ [] }).states ≡ true
    among number true e = e
    among number false e = among_last (a_variable kind.State number) found.states

    go : (one : VarKind) (number : ℕ) → covers (noted (a_variable one number) found) (a_variable one number) ≡ true
    go kind.Param number = refl
    go kind.Local number = marked number (slice_get found.seen number) refl
    go kind.Caught number = refl
    go kind.State number = among number (is_among (a_variable kind.State number) found.states) refl

-- ---- trees

mutual
  pub exp_grown : (exp : Exp) (found : Found) (other : Var) → covers found other ≡ true → covers (exp_found exp found) other ≡ true
  exp_grown (trees.Int number) found other c = c
  exp_grown (trees.Long number) found other c = c
  exp_grown (Text units) found other c = c
  exp_grown (Truth known) found other c = c
  exp_grown trees.Null found other c = c
  exp_grown This found other c = c
  exp_grown (Variable variable) found other c = var_grown variable found other c
  exp_grown (ClassOf type) found other c = c
  exp_grown (Field object name) found other c = exp_grown object found other c
  exp_grown (Static class name) found other c = c
  exp_grown (Element array index) found other c = exp_grown index (exp_found array found) other (exp_grown array found other c)
  exp_grown (Call object name arguments) found other c = exps_grown arguments (exp_found object found) other (exp_grown object found other c)
  exp_grown (StaticCall class name arguments) found other c = exps_grown arguments found other c
  exp_grown (SuperCall above name arguments) found other c = exps_grown arguments found other c
  exp_grown (New class arguments) found other c = exps_grown arguments found other c
  exp_grown (NewArray type sizes more) found other c = exps_grown sizes found other c
  exp_grown (Cast type operand) found other c = exp_grown operand found other c
  exp_grown (InstanceOf operand type) found other c = exp_grown operand found other c
  exp_grown (Negative operand) found other c = exp_grown operand found other c
  exp_grown (Not operand) found other c = exp_grown operand found other c
  exp_grown (Binary operator left right) found other c = exp_grown right (exp_found left found) other (exp_grown left found other c)
  exp_grown (Choice test first second) found other c = exp_grown second (exp_found first (exp_found test found)) other (exp_grown first (exp_found test found) other (exp_grown test found other c))
  exp_grown (Assign variable new) found other c = exp_grown new (noted variable found) other (var_grown variable found other c)

  pub exps_grown : (exps : Exps) (found : Found) (other : Var) → covers found other ≡ true → covers (exps_found exps found) other ≡ true
  exps_grown NoExps found other c = c
  exps_grown (AndExp first rest) found other c = exps_grown rest (exp_found first found) other (exp_grown first found other c)

pub option_grown : (option : Option Exp) (found : Found) (other : Var) → covers found other ≡ true → covers (option_found option found) other ≡ true
option_grown None found other c = c
option_grown (Some exp) found other c = exp_grown exp found other c

mutual
  pub stm_grown : (stm : Stm) (found : Found) (other : Var) → covers found other ≡ true → covers (stm_found stm found) other ≡ true
  stm_grown (Block list) found other c = stms_grown list found other c
  stm_grown (Labelled label statement) found other c = stm_grown statement found other c
  stm_grown (Declare variable type initial) found other c = option_grown initial (noted variable found) other (var_grown variable found other c)
  stm_grown (Set variable new) found other c = exp_grown new (noted variable found) other (var_grown variable found other c)
  stm_grown (SetField object name new) found other c = exp_grown new (exp_found object found) other (exp_grown object found other c)
  stm_grown (SetStatic class name new) found other c = exp_grown new found other c
  stm_grown (SetElement array index new) found other c = exp_grown new (exp_found index (exp_found array found)) other (exp_grown index (exp_found array found) other (exp_grown array found other c))
  stm_grown (Run call) found other c = exp_grown call found other c
  stm_grown (If test first second) found other c = stms_grown second (stms_found first (exp_found test found)) other (stms_grown first (exp_found test found) other (exp_grown test found other c))
  stm_grown (While test body) found other c = stms_grown body (exp_found test found) other (exp_grown test found other c)
  stm_grown (Switch on groups) found other c = groups_grown groups (exp_found on found) other (exp_grown on found other c)
  stm_grown (Break label) found other c = c
  stm_grown (Continue label) found other c = c
  stm_grown (Return result) found other c = option_grown result found other c
  stm_grown (Throw exception) found other c = exp_grown exception found other c
  stm_grown (Rethrow variable) found other c = var_grown variable found other c
  stm_grown (Try body clauses) found other c = catches_grown clauses (stms_found body found) other (stms_grown body found other c)
  stm_grown (Synchronized monitor body) found other c = stms_grown body (exp_found monitor found) other (exp_grown monitor found other c)
  stm_grown (Construct own arguments) found other c = exps_grown arguments found other c
  stm_grown (Do body test) found other c = exp_grown test (stms_found body found) other (stms_grown body found other c)
  stm_grown (For test variable step body) found other c = stms_grown body (exp_found step (noted variable (exp_found test found))) other (exp_grown step (noted variable (exp_found test found)) other (var_grown variable (exp_found test found) other (exp_grown test found other c)))
  stm_grown (Finally body last) found other c = stms_grown last (stms_found body found) other (stms_grown body found other c)

  pub stms_grown : (stms : Stms) (found : Found) (other : Var) → covers found other ≡ true → covers (stms_found stms found) other ≡ true
  stms_grown Empty found other c = c
  stms_grown (And first rest) found other c = stms_grown rest (stm_found first found) other (stm_grown first found other c)

  pub groups_grown : (groups : Groups) (found : Found) (other : Var) → covers found other ≡ true → covers (groups_found groups found) other ≡ true
  groups_grown NoGroups found other c = c
  groups_grown (AndGroup labels body rest) found other c = groups_grown rest (stms_found body found) other (stms_grown body found other c)

  pub catches_grown : (catches : Catches) (found : Found) (other : Var) → covers found other ≡ true → covers (catches_found catches found) other ≡ true
  catches_grown NoCatches found other c = c
  catches_grown (AndCatch class variable body rest) found other c = catches_grown rest (stms_found body (noted variable found)) other (stms_grown body (noted variable found) other (var_grown variable found other c))

mutual
  pub exp_covered : (exp : Exp) (found : Found) → EachInExp (λ variable. covers (exp_found exp found) variable ≡ true) exp
  exp_covered (trees.Int number) found = tt
  exp_covered (trees.Long number) found = tt
  exp_covered (Text units) found = tt
  exp_covered (Truth known) found = tt
  exp_covered trees.Null found = tt
  exp_covered This found = tt
  exp_covered (Variable variable) found = var_covered variable found
  exp_covered (ClassOf type) found = tt
  exp_covered (Field object name) found = exp_covered object found
  exp_covered (Static class name) found = tt
  exp_covered (Element array index) found = (map_exp (λ other c. exp_grown index (exp_found array found) other c) array (exp_covered array found), exp_covered index (exp_found array found))
  exp_covered (Call object name arguments) found = (map_exp (λ other c. exps_grown arguments (exp_found object found) other c) object (exp_covered object found), exps_covered arguments (exp_found object found))
  exp_covered (StaticCall class name arguments) found = exps_covered arguments found
  exp_covered (SuperCall above name arguments) found = exps_covered arguments found
  exp_covered (New class arguments) found = exps_covered arguments found
  exp_covered (NewArray type sizes more) found = exps_covered sizes found
  exp_covered (Cast type operand) found = exp_covered operand found
  exp_covered (InstanceOf operand type) found = exp_covered operand found
  exp_covered (Negative operand) found = exp_covered operand found
  exp_covered (Not operand) found = exp_covered operand found
  exp_covered (Binary operator left right) found = (map_exp (λ other c. exp_grown right (exp_found left found) other c) left (exp_covered left found), exp_covered right (exp_found left found))
  exp_covered (Choice test first second) found = (map_exp (λ other c. exp_grown second (exp_found first (exp_found test found)) other (exp_grown first (exp_found test found) other c)) test (exp_covered test found), map_exp (λ other c. exp_grown second (exp_found first (exp_found test found)) other c) first (exp_covered first (exp_found test found)), exp_covered second (exp_found first (exp_found test found)))
  exp_covered (Assign variable new) found = (exp_grown new (noted variable found) variable (var_covered variable found), exp_covered new (noted variable found))

  pub exps_covered : (exps : Exps) (found : Found) → EachInExps (λ variable. covers (exps_found exps found) variable ≡ true) exps
  exps_covered NoExps found = tt
  exps_covered (AndExp first rest) found = (map_exp (λ other c. exps_grown rest (exp_found first found) other c) first (exp_covered first found), exps_covered rest (exp_found first found))

pub option_covered : (option : Option Exp) (found : Found) → EachInOption (λ variable. covers (option_found option found) variable ≡ true) option
option_covered None found = tt
option_covered (Some exp) found = exp_covered exp found

mutual
  pub stm_covered : (stm : Stm) (found : Found) → EachInStm (λ variable. covers (stm_found stm found) variable ≡ true) stm
  stm_covered (Block list) found = stms_covered list found
  stm_covered (Labelled label statement) found = stm_covered statement found
  stm_covered (Declare variable type initial) found = (option_grown initial (noted variable found) variable (var_covered variable found), option_covered initial (noted variable found))
  stm_covered (Set variable new) found = (exp_grown new (noted variable found) variable (var_covered variable found), exp_covered new (noted variable found))
  stm_covered (SetField object name new) found = (map_exp (λ other c. exp_grown new (exp_found object found) other c) object (exp_covered object found), exp_covered new (exp_found object found))
  stm_covered (SetStatic class name new) found = exp_covered new found
  stm_covered (SetElement array index new) found = (map_exp (λ other c. exp_grown new (exp_found index (exp_found array found)) other (exp_grown index (exp_found array found) other c)) array (exp_covered array found), map_exp (λ other c. exp_grown new (exp_found index (exp_found array found)) other c) index (exp_covered index (exp_found array found)), exp_covered new (exp_found index (exp_found array found)))
  stm_covered (Run call) found = exp_covered call found
  stm_covered (If test first second) found = (map_exp (λ other c. stms_grown second (stms_found first (exp_found test found)) other (stms_grown first (exp_found test found) other c)) test (exp_covered test found), map_stms (λ other c. stms_grown second (stms_found first (exp_found test found)) other c) first (stms_covered first (exp_found test found)), stms_covered second (stms_found first (exp_found test found)))
  stm_covered (While test body) found = (map_exp (λ other c. stms_grown body (exp_found test found) other c) test (exp_covered test found), stms_covered body (exp_found test found))
  stm_covered (Switch on groups) found = (map_exp (λ other c. groups_grown groups (exp_found on found) other c) on (exp_covered on found), groups_covered groups (exp_found on found))
  stm_covered (Break label) found = tt
  stm_covered (Continue label) found = tt
  stm_covered (Return result) found = option_covered result found
  stm_covered (Throw exception) found = exp_covered exception found
  stm_covered (Rethrow variable) found = var_covered variable found
  stm_covered (Try body clauses) found = (map_stms (λ other c. catches_grown clauses (stms_found body found) other c) body (stms_covered body found), catches_covered clauses (stms_found body found))
  stm_covered (Synchronized monitor body) found = (map_exp (λ other c. stms_grown body (exp_found monitor found) other c) monitor (exp_covered monitor found), stms_covered body (exp_found monitor found))
  stm_covered (Construct own arguments) found = exps_covered arguments found
  stm_covered (Do body test) found = (map_stms (λ other c. exp_grown test (stms_found body found) other c) body (stms_covered body found), exp_covered test (stms_found body found))
  stm_covered (For test variable step body) found = (map_exp (λ other c. stms_grown body (exp_found step (noted variable (exp_found test found))) other (exp_grown step (noted variable (exp_found test found)) other (var_grown variable (exp_found test found) other c))) test (exp_covered test found), stms_grown body (exp_found step (noted variable (exp_found test found))) variable (exp_grown step (noted variable (exp_found test found)) variable (var_covered variable (exp_found test found))), map_exp (λ other c. stms_grown body (exp_found step (noted variable (exp_found test found))) other c) step (exp_covered step (noted variable (exp_found test found))), stms_covered body (exp_found step (noted variable (exp_found test found))))
  stm_covered (Finally body last) found = (map_stms (λ other c. stms_grown last (stms_found body found) other c) body (stms_covered body found), stms_covered last (stms_found body found))

  pub stms_covered : (stms : Stms) (found : Found) → EachInStms (λ variable. covers (stms_found stms found) variable ≡ true) stms
  stms_covered Empty found = tt
  stms_covered (And first rest) found = (map_stm (λ other c. stms_grown rest (stm_found first found) other c) first (stm_covered first found), stms_covered rest (stm_found first found))

  pub groups_covered : (groups : Groups) (found : Found) → EachInGroups (λ variable. covers (groups_found groups found) variable ≡ true) groups
  groups_covered NoGroups found = tt
  groups_covered (AndGroup labels body rest) found = (map_stms (λ other c. groups_grown rest (stms_found body found) other c) body (stms_covered body found), groups_covered rest (stms_found body found))

  pub catches_covered : (catches : Catches) (found : Found) → EachInCatches (λ variable. covers (catches_found catches found) variable ≡ true) catches
  catches_covered NoCatches found = tt
  catches_covered (AndCatch class variable body rest) found = (catches_grown rest (stms_found body (noted variable found)) variable (stms_grown body (noted variable found) variable (var_covered variable found)), map_stms (λ other c. catches_grown rest (stms_found body (noted variable found)) other c) body (stms_covered body (noted variable found)), catches_covered rest (stms_found body (noted variable found)))

pub occurring_are_found : OccurringAreFound
occurring_are_found list found = stms_covered list found
