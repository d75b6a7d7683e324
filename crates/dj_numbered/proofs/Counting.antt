-- In the numbered text the numbers count up: each list of what it uses is 0, 1 and so on.
use Rattle.std.proofs.Common.{ℕ, suc, Bool, true, false, List, [], ◌∷◌, ◌++◌, map, Option, Some, None, ◌≡◌, refl, sym, ap, ◌∙◌, subst, ◌==◌, ◌||◌}
use Rattle.std.specs.Prelude.{if◌then◌else◌}
use Rattle.std.proofs.lemmas.Bool.{eq-eqb, eqb-true, false≢true}
use Rattle.dj_syntax.specs.declared.variable.VarKind.{VarKind}
use Rattle.dj_syntax.specs.declared.variable.VarKind.TheVariants as kind
use Rattle.dj_syntax.specs.declared.variable.Var.{Var}
use Rattle.dj_syntax.specs.Trees.{Exp, Text, Truth, This, Variable, ClassOf, Field, Static, Element, Call, StaticCall, SuperCall, New, NewArray, Cast, InstanceOf, Negative, Not, Binary, Choice, Assign, Exps, NoExps, AndExp, Stm, Block, Labelled, Declare, Set, SetField, SetStatic, SetElement, Run, If, While, Switch, Break, Continue, Return, Throw, Rethrow, Try, Synchronized, Construct, Do, For, Finally, Stms, Empty, And, Groups, NoGroups, AndGroup, Catches, NoCatches, AndCatch}
use Rattle.dj_syntax.specs.Trees as trees
use Rattle.dj_renaming.specs.Renaming.{exp_renamed, exps_renamed, option_renamed, renamed, all_renamed, groups_renamed, catches_renamed}
use Rattle.dj_numbered.specs.Numbering.{Used, nothing_used, is_listed, listed, variable_used, label_used, exp_used, exps_used, option_used, stm_used, stms_used, groups_used, catches_used, place_of, variable_named, names_for, CountUp, NumbersCountUp}
use Rattle.dj_numbered.proofs.Numbering.{places_apart}

-- ---- lists without a number twice

abbrev IsApart : List ℕ → Type 0
IsApart [] = Unit {0}
IsApart (first ∷ rest) = (is_listed first rest ≡ false) × IsApart rest

turned : (a b : ℕ) → (a == b) ≡ false → (b == a) ≡ false
turned a b e = go (b == a) refl
  where
    go : (same : Bool) → (b == a) ≡ same → same ≡ false
    go false f = refl
    go true f = absurd (false≢true (sym e ∙ eq-eqb a b (sym (eqb-true b a f))))

not_first : (a b : Bool) → (a || b) ≡ false → a ≡ false
not_first true b e = e
not_first false b e = refl

not_second : (a b : Bool) → (a || b) ≡ false → b ≡ false
not_second true b e = absurd (false≢true (sym e))
not_second false b e = e

neither : (a b : Bool) → a ≡ false → b ≡ false → (a || b) ≡ false
neither true b e f = e
neither false b e f = f

not_last : (number last : ℕ) (list : List ℕ) → is_listed number list ≡ false → (number == last) ≡ false → is_listed number (list ++ last ∷ []) ≡ false
not_last number last [] none e = neither (number == last) false e refl
not_last number last (first ∷ rest) none e =
    neither (number == first) (is_listed number (rest ++ last ∷ [])) (not_first (number == first) (is_listed number rest) none)
    (not_last number last rest (not_second (number == first) (is_listed number rest) none) e)

apart_last : (last : ℕ) (list : List ℕ) → IsApart list → is_listed last list ≡ false → IsApart (list ++ last ∷ [])
apart_last last [] apart none = (refl, tt)
apart_last last (first ∷ rest) apart none =
    (not_last first last rest apart.0 (turned last first (not_first (last == first) (is_listed last rest) none)), apart_last last rest apart.1 (not_second (last == first) (is_listed last rest) none))

apart_listed : (number : ℕ) (list : List ℕ) → IsApart list → IsApart (listed number list)
apart_listed number list apart = go (is_listed number list) refl
  where
    go : (there : Bool) → is_listed number list ≡ there → IsApart (if there then list else list ++ number ∷ [])
    go true e = apart
    go false e = apart_last number list apart e

-- ---- their places count up

counted_on : (place : ℕ) (list : List ℕ) → CountUp place list → CountUp (suc place) (map suc list)
counted_on place [] counts = tt
counted_on place (first ∷ rest) counts = (ap suc counts.0, counted_on (suc place) rest counts.1)

behind_first : (first : ℕ) (rest list : List ℕ) → is_listed first list ≡ false → map (place_of (first ∷ rest)) list ≡ map suc (map (place_of rest) list)
behind_first first rest [] none = refl
behind_first first rest (one ∷ more) none =
    λ i. (ap (λ (same : Bool). if same then 0 else suc (place_of rest one)) (turned first one (not_first (first == one) (is_listed first more) none)) i)
    ∷ behind_first first rest more (not_second (first == one) (is_listed first more) none) i

at_first : (first : ℕ) (rest : List ℕ) → place_of (first ∷ rest) first ≡ 0
at_first first rest = ap (λ (same : Bool). if same then 0 else suc (place_of rest first)) (eq-eqb first first refl)

places_count : (list : List ℕ) → IsApart list → CountUp 0 (map (place_of list) list)
places_count [] apart = tt
places_count (first ∷ rest) apart =
    (at_first first rest, subst (CountUp 1) (sym (behind_first first rest rest apart.0)) (counted_on 0 (map (place_of rest) rest) (places_count rest apart.1)))

-- ---- lists by new numbers

module _ (all : List ℕ) where
  is_listed_named : (number : ℕ) (list : List ℕ) → is_listed (place_of all number) (map (place_of all) list) ≡ is_listed number list
  is_listed_named number [] = refl
  is_listed_named number (first ∷ rest) = λ i. places_apart all number first i || is_listed_named number rest i

  last_named : (number : ℕ) (list : List ℕ) → map (place_of all) list ++ place_of all number ∷ [] ≡ map (place_of all) (list ++ number ∷ [])
  last_named number [] = refl
  last_named number (first ∷ rest) = ap (λ more. place_of all first ∷ more) (last_named number rest)

  listed_named : (number : ℕ) (list : List ℕ) → listed (place_of all number) (map (place_of all) list) ≡ map (place_of all) (listed number list)
  listed_named number list =
      ap (λ (there : Bool). if there then map (place_of all) list else map (place_of all) list ++ place_of all number ∷ []) (is_listed_named number list) ∙ go (is_listed number list)
    where
      go : (there : Bool) → (if there then map (place_of all) list else map (place_of all) list ++ place_of all number ∷ []) ≡ map (place_of all) (if there then list else list ++ number ∷ [])
      go true = refl
      go false = last_named number list

-- ---- what a text uses

abbrev AreAllApart : Used → Type 0
AreAllApart used = IsApart used.locals × IsApart used.caught × IsApart used.states × IsApart used.labels

abbrev a_variable : VarKind → ℕ → Var
a_variable of_kind number = record { kind = of_kind; number = number }

var_apart : (variable : Var) (used : Used) → AreAllApart used → AreAllApart (variable_used variable used)
var_apart variable used = go variable.kind variable.number
  where
    go : (one : VarKind) (number : ℕ) → AreAllApart used → AreAllApart (variable_used (a_variable one number) used)
    go kind.Param number a = a
    go kind.Local number a = (apart_listed number used.locals a.0, a.1, a.2, a.3)
    go kind.Caught number a = (a.0, apart_listed number used.caught a.1, a.2, a.3)
    go kind.State number a = (a.0, a.1, apart_listed number used.states a.2, a.3)

label_apart : (label : ℕ) (used : Used) → AreAllApart used → AreAllApart (label_used label used)
label_apart label used a = (a.0, a.1, a.2, apart_listed label used.labels a.3)

mutual
  exp_apart : (exp : Exp) (used : Used) → AreAllApart used → AreAllApart (exp_used exp used)
  exp_apart (trees.Int number) used a = a
  exp_apart (trees.Long number) used a = a
  exp_apart (Text units) used a = a
  exp_apart (Truth known) used a = a
  exp_apart trees.Null used a = a
  exp_apart This used a = a
  exp_apart (Variable variable) used a = var_apart variable used a
  exp_apart (ClassOf type) used a = a
  exp_apart (Field object name) used a = exp_apart object used a
  exp_apart (Static class name) used a = a
  exp_apart (Element array index) used a = exp_apart index (exp_used array used) (exp_apart array used a)
  exp_apart (Call object name arguments) used a = exps_apart arguments (exp_used object used) (exp_apart object used a)
  exp_apart (StaticCall class name arguments) used a = exps_apart arguments used a
  exp_apart (SuperCall above name arguments) used a = exps_apart arguments used a
  exp_apart (New class arguments) used a = exps_apart arguments used a
  exp_apart (NewArray type sizes more) used a = exps_apart sizes used a
  exp_apart (Cast type operand) used a = exp_apart operand used a
  exp_apart (InstanceOf operand type) used a = exp_apart operand used a
  exp_apart (Negative operand) used a = exp_apart operand used a
  exp_apart (Not operand) used a = exp_apart operand used a
  exp_apart (Binary operator left right) used a = exp_apart right (exp_used left used) (exp_apart left used a)
  exp_apart (Choice test first second) used a = exp_apart second (exp_used first (exp_used test used)) (exp_apart first (exp_used test used) (exp_apart test used a))
  exp_apart (Assign variable new) used a = exp_apart new (variable_used variable used) (var_apart variable used a)

  exps_apart : (exps : Exps) (used : Used) → AreAllApart used → AreAllApart (exps_used exps used)
  exps_apart NoExps used a = a
  exps_apart (AndExp first rest) used a = exps_apart rest (exp_used first used) (exp_apart first used a)

option_apart : (option : Option Exp) (used : Used) → AreAllApart used → AreAllApart (option_used option used)
option_apart None used a = a
option_apart (Some exp) used a = exp_apart exp used a

mutual
  stm_apart : (stm : Stm) (used : Used) → AreAllApart used → AreAllApart (stm_used stm used)
  stm_apart (Block list) used a = stms_apart list used a
  stm_apart (Labelled label statement) used a = stm_apart statement (label_used label used) (label_apart label used a)
  stm_apart (Declare variable type initial) used a = option_apart initial (variable_used variable used) (var_apart variable used a)
  stm_apart (Set variable new) used a = exp_apart new (variable_used variable used) (var_apart variable used a)
  stm_apart (SetField object name new) used a = exp_apart new (exp_used object used) (exp_apart object used a)
  stm_apart (SetStatic class name new) used a = exp_apart new used a
  stm_apart (SetElement array index new) used a = exp_apart new (exp_used index (exp_used array used)) (exp_apart index (exp_used array used) (exp_apart array used a))
  stm_apart (Run call) used a = exp_apart call used a
  stm_apart (If test first second) used a = stms_apart second (stms_used first (exp_used test used)) (stms_apart first (exp_used test used) (exp_apart test used a))
  stm_apart (While test body) used a = stms_apart body (exp_used test used) (exp_apart test used a)
  stm_apart (Switch on arms) used a = groups_apart arms (exp_used on used) (exp_apart on used a)
  stm_apart (Break label) used a = label_apart label used a
  stm_apart (Continue label) used a = label_apart label used a
  stm_apart (Return result) used a = option_apart result used a
  stm_apart (Throw exception) used a = exp_apart exception used a
  stm_apart (Rethrow variable) used a = var_apart variable used a
  stm_apart (Try body clauses) used a = catches_apart clauses (stms_used body used) (stms_apart body used a)
  stm_apart (Synchronized monitor body) used a = stms_apart body (exp_used monitor used) (exp_apart monitor used a)
  stm_apart (Construct own arguments) used a = exps_apart arguments used a
  stm_apart (Do body test) used a = exp_apart test (stms_used body used) (stms_apart body used a)
  stm_apart (For test variable step body) used a = stms_apart body (exp_used step (variable_used variable (exp_used test used))) (exp_apart step (variable_used variable (exp_used test used)) (var_apart variable (exp_used test used) (exp_apart test used a)))
  stm_apart (Finally body last) used a = stms_apart last (stms_used body used) (stms_apart body used a)

  stms_apart : (stms : Stms) (used : Used) → AreAllApart used → AreAllApart (stms_used stms used)
  stms_apart Empty used a = a
  stms_apart (And first rest) used a = stms_apart rest (stm_used first used) (stm_apart first used a)

  groups_apart : (groups : Groups) (used : Used) → AreAllApart used → AreAllApart (groups_used groups used)
  groups_apart NoGroups used a = a
  groups_apart (AndGroup labels body rest) used a = groups_apart rest (stms_used body used) (stms_apart body used a)

  catches_apart : (catches : Catches) (used : Used) → AreAllApart used → AreAllApart (catches_used catches used)
  catches_apart NoCatches used a = a
  catches_apart (AndCatch class variable body rest) used a = catches_apart rest (stms_used body (variable_used variable used)) (stms_apart body (variable_used variable used) (var_apart variable used a))

-- ---- what the numbered text uses

module _ (all : Used) where
  abbrev named : Used → Used
  named used = record { locals = map (place_of all.locals) used.locals; caught = map (place_of all.caught) used.caught; states = map (place_of all.states) used.states; labels = map (place_of all.labels) used.labels }

  var_named : (variable : Var) (used : Used) → variable_used (variable_named all variable) (named used) ≡ named (variable_used variable used)
  var_named variable used = go variable.kind variable.number
    where
      go : (one : VarKind) (number : ℕ) → variable_used (variable_named all (a_variable one number)) (named used) ≡ named (variable_used (a_variable one number) used)
      go kind.Param number = refl
      go kind.Local number = ap (λ list. record (named used) { locals = list }) (listed_named all.locals number used.locals)
      go kind.Caught number = ap (λ list. record (named used) { caught = list }) (listed_named all.caught number used.caught)
      go kind.State number = ap (λ list. record (named used) { states = list }) (listed_named all.states number used.states)

  label_named : (label : ℕ) (used : Used) → label_used (place_of all.labels label) (named used) ≡ named (label_used label used)
  label_named label used = ap (λ list. record (named used) { labels = list }) (listed_named all.labels label used.labels)

  mutual
    exp_named : (exp : Exp) (used : Used) → exp_used (exp_renamed (names_for all) exp) (named used) ≡ named (exp_used exp used)
    exp_named (trees.Int number) used = refl
    exp_named (trees.Long number) used = refl
    exp_named (Text units) used = refl
    exp_named (Truth known) used = refl
    exp_named trees.Null used = refl
    exp_named This used = refl
    exp_named (Variable variable) used = var_named variable used
    exp_named (ClassOf type) used = refl
    exp_named (Field object name) used = exp_named object used
    exp_named (Static class name) used = refl
    exp_named (Element array index) used = ap (exp_used (exp_renamed (names_for all) index)) (exp_named array used) ∙ exp_named index (exp_used array used)
    exp_named (Call object name arguments) used = ap (exps_used (exps_renamed (names_for all) arguments)) (exp_named object used) ∙ exps_named arguments (exp_used object used)
    exp_named (StaticCall class name arguments) used = exps_named arguments used
    exp_named (SuperCall above name arguments) used = exps_named arguments used
    exp_named (New class arguments) used = exps_named arguments used
    exp_named (NewArray type sizes more) used = exps_named sizes used
    exp_named (Cast type operand) used = exp_named operand used
    exp_named (InstanceOf operand type) used = exp_named operand used
    exp_named (Negative operand) used = exp_named operand used
    exp_named (Not operand) used = exp_named operand used
    exp_named (Binary operator left right) used = ap (exp_used (exp_renamed (names_for all) right)) (exp_named left used) ∙ exp_named right (exp_used left used)
    exp_named (Choice test first second) used = ap (exp_used (exp_renamed (names_for all) second)) (ap (exp_used (exp_renamed (names_for all) first)) (exp_named test used) ∙ exp_named first (exp_used test used)) ∙ exp_named second (exp_used first (exp_used test used))
    exp_named (Assign variable new) used = ap (exp_used (exp_renamed (names_for all) new)) (var_named variable used) ∙ exp_named new (variable_used variable used)

    exps_named : (exps : Exps) (used : Used) → exps_used (exps_renamed (names_for all) exps) (named used) ≡ named (exps_used exps used)
    exps_named NoExps used = refl
    exps_named (AndExp first rest) used = ap (exps_used (exps_renamed (names_for all) rest)) (exp_named first used) ∙ exps_named rest (exp_used first used)

  option_named : (option : Option Exp) (used : Used) → option_used (option_renamed (names_for all) option) (named used) ≡ named (option_used option used)
  option_named None used = refl
  option_named (Some exp) used = exp_named exp used

  mutual
    stm_named : (stm : Stm) (used : Used) → stm_used (renamed (names_for all) stm) (named used) ≡ named (stm_used stm used)
    stm_named (Block list) used = stms_named list used
    stm_named (Labelled label statement) used = ap (stm_used (renamed (names_for all) statement)) (label_named label used) ∙ stm_named statement (label_used label used)
    stm_named (Declare variable type initial) used = ap (option_used (option_renamed (names_for all) initial)) (var_named variable used) ∙ option_named initial (variable_used variable used)
    stm_named (Set variable new) used = ap (exp_used (exp_renamed (names_for all) new)) (var_named variable used) ∙ exp_named new (variable_used variable used)
    stm_named (SetField object name new) used = ap (exp_used (exp_renamed (names_for all) new)) (exp_named object used) ∙ exp_named new (exp_used object used)
    stm_named (SetStatic class name new) used = exp_named new used
    stm_named (SetElement array index new) used = ap (exp_used (exp_renamed (names_for all) new)) (ap (exp_used (exp_renamed (names_for all) index)) (exp_named array used) ∙ exp_named index (exp_used array used)) ∙ exp_named new (exp_used index (exp_used array used))
    stm_named (Run call) used = exp_named call used
    stm_named (If test first second) used = ap (stms_used (all_renamed (names_for all) second)) (ap (stms_used (all_renamed (names_for all) first)) (exp_named test used) ∙ stms_named first (exp_used test used)) ∙ stms_named second (stms_used first (exp_used test used))
    stm_named (While test body) used = ap (stms_used (all_renamed (names_for all) body)) (exp_named test used) ∙ stms_named body (exp_used test used)
    stm_named (Switch on arms) used = ap (groups_used (groups_renamed (names_for all) arms)) (exp_named on used) ∙ groups_named arms (exp_used on used)
    stm_named (Break label) used = label_named label used
    stm_named (Continue label) used = label_named label used
    stm_named (Return result) used = option_named result used
    stm_named (Throw exception) used = exp_named exception used
    stm_named (Rethrow variable) used = var_named variable used
    stm_named (Try body clauses) used = ap (catches_used (catches_renamed (names_for all) clauses)) (stms_named body used) ∙ catches_named clauses (stms_used body used)
    stm_named (Synchronized monitor body) used = ap (stms_used (all_renamed (names_for all) body)) (exp_named monitor used) ∙ stms_named body (exp_used monitor used)
    stm_named (Construct own arguments) used = exps_named arguments used
    stm_named (Do body test) used = ap (exp_used (exp_renamed (names_for all) test)) (stms_named body used) ∙ exp_named test (stms_used body used)
    stm_named (For test variable step body) used = ap (stms_used (all_renamed (names_for all) body)) (ap (exp_used (exp_renamed (names_for all) step)) (ap (variable_used (variable_named all variable)) (exp_named test used) ∙ var_named variable (exp_used test used)) ∙ exp_named step (variable_used variable (exp_used test used))) ∙ stms_named body (exp_used step (variable_used variable (exp_used test used)))
    stm_named (Finally body last) used = ap (stms_used (all_renamed (names_for all) last)) (stms_named body used) ∙ stms_named last (stms_used body used)

    stms_named : (stms : Stms) (used : Used) → stms_used (all_renamed (names_for all) stms) (named used) ≡ named (stms_used stms used)
    stms_named Empty used = refl
    stms_named (And first rest) used = ap (stms_used (all_renamed (names_for all) rest)) (stm_named first used) ∙ stms_named rest (stm_used first used)

    groups_named : (groups : Groups) (used : Used) → groups_used (groups_renamed (names_for all) groups) (named used) ≡ named (groups_used groups used)
    groups_named NoGroups used = refl
    groups_named (AndGroup labels body rest) used = ap (groups_used (groups_renamed (names_for all) rest)) (stms_named body used) ∙ groups_named rest (stms_used body used)

    catches_named : (catches : Catches) (used : Used) → catches_used (catches_renamed (names_for all) catches) (named used) ≡ named (catches_used catches used)
    catches_named NoCatches used = refl
    catches_named (AndCatch class variable body rest) used = ap (catches_used (catches_renamed (names_for all) rest)) (ap (stms_used (all_renamed (names_for all) body)) (var_named variable used) ∙ stms_named body (variable_used variable used)) ∙ catches_named rest (stms_used body (variable_used variable used))

pub numbers_count_up : NumbersCountUp
numbers_count_up body =
    let all : Used = stms_used body.statements nothing_used in
    let apart : AreAllApart all = stms_apart body.statements nothing_used (tt, tt, tt, tt) in
    subst (λ (used : Used). CountUp 0 used.locals × CountUp 0 used.caught × CountUp 0 used.states × CountUp 0 used.labels) (sym (stms_named all body.statements nothing_used))
    (places_count all.locals apart.0, places_count all.caught apart.1, places_count all.states apart.2, places_count all.labels apart.3)
