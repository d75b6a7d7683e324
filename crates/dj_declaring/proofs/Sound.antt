-- The variables that are found in a tree: each once, those that have kinds and those that hold states.
use Rattle.std.proofs.Common.{ℕ, zero, suc, Bool, true, false, List, [], ◌∷◌, ◌++◌, map, Option, Some, None, ◌≡◌, refl, sym, ap, ◌∙◌, subst, ◌&&◌, ◌||◌, ◌==◌}
use Rattle.std.specs.Prelude.{slice_get, slice_set, is_some, if◌then◌else◌}
use Rattle.std.proofs.lemmas.Bool.{eq-eqb, eqb-true, false≢true, and_parts}
use Rattle.dj_names.specs.Types.{JType}
use Rattle.dj_syntax.specs.declared.variable.VarKind.{VarKind}
use Rattle.dj_syntax.specs.declared.variable.VarKind.TheVariants as kind
use Rattle.dj_syntax.specs.declared.variable.Var.{Var}
use Rattle.dj_syntax.specs.NameText.{letter}
use Rattle.dj_syntax.specs.Trees.{Exp, Text, Truth, This, Variable, ClassOf, Field, Static, Element, Call, StaticCall, SuperCall, New, NewArray, Cast, InstanceOf, Negative, Not, Binary, Choice, Assign, Exps, NoExps, AndExp, Stm, Block, Labelled, Declare, Set, SetField, SetStatic, SetElement, Run, If, While, Switch, Break, Continue, Return, Throw, Rethrow, Try, Synchronized, Construct, Do, For, Finally, Stms, Empty, And, Groups, NoGroups, AndGroup, Catches, NoCatches, AndCatch}
use Rattle.dj_syntax.specs.Trees as trees
use Rattle.dj_meaning.specs.StaticTypes.{is_same_variable}
use Rattle.dj_declare.proofs.Heads.{same_variable}
use Rattle.dj_declare.proofs.Named.{same_is}
use Rattle.dj_declaring.specs.declared.found.Found.{Found}
use Rattle.dj_declaring.specs.Occurring.{nothing_found, is_among, noted_local, noted_state, noted, exp_found, exps_found, option_found, stm_found, stms_found, groups_found, catches_found}
use Rattle.dj_declaring.proofs.Occurring.{a_variable, among_more, among_last}

-- ---- a walk keeps what each variable keeps

module _ (Sound : Found → Type 0) (keeps_one : (variable : Var) (found : Found) → Sound found → Sound (noted variable found)) where
  mutual
    pub exp_keeps : (exp : Exp) (found : Found) → Sound found → Sound (exp_found exp found)
    exp_keeps (trees.Int number) found s = s
    exp_keeps (trees.Long number) found s = s
    exp_keeps (Text units) found s = s
    exp_keeps (Truth known) found s = s
    exp_keeps trees.Null found s = s
    exp_keeps This found s = s
    exp_keeps (Variable variable) found s = keeps_one variable found s
    exp_keeps (ClassOf type) found s = s
    exp_keeps (Field object name) found s = exp_keeps object found s
    exp_keeps (Static class name) found s = s
    exp_keeps (Element array index) found s = exp_keeps index (exp_found array found) (exp_keeps array found s)
    exp_keeps (Call object name arguments) found s = exps_keeps arguments (exp_found object found) (exp_keeps object found s)
    exp_keeps (StaticCall class name arguments) found s = exps_keeps arguments found s
    exp_keeps (SuperCall above name arguments) found s = exps_keeps arguments found s
    exp_keeps (New class arguments) found s = exps_keeps arguments found s
    exp_keeps (NewArray type sizes more) found s = exps_keeps sizes found s
    exp_keeps (Cast type operand) found s = exp_keeps operand found s
    exp_keeps (InstanceOf operand type) found s = exp_keeps operand found s
    exp_keeps (Negative operand) found s = exp_keeps operand found s
    exp_keeps (Not operand) found s = exp_keeps operand found s
    exp_keeps (Binary operator left right) found s = exp_keeps right (exp_found left found) (exp_keeps left found s)
    exp_keeps (Choice test first second) found s = exp_keeps second (exp_found first (exp_found test found)) (exp_keeps first (exp_found test found) (exp_keeps test found s))
    exp_keeps (Assign variable new) found s = exp_keeps new (noted variable found) (keeps_one variable found s)

    pub exps_keeps : (exps : Exps) (found : Found) → Sound found → Sound (exps_found exps found)
    exps_keeps NoExps found s = s
    exps_keeps (AndExp first rest) found s = exps_keeps rest (exp_found first found) (exp_keeps first found s)

  pub option_keeps : (option : Option Exp) (found : Found) → Sound found → Sound (option_found option found)
  option_keeps None found s = s
  option_keeps (Some exp) found s = exp_keeps exp found s

  mutual
    pub stm_keeps : (stm : Stm) (found : Found) → Sound found → Sound (stm_found stm found)
    stm_keeps (Block list) found s = stms_keeps list found s
    stm_keeps (Labelled label statement) found s = stm_keeps statement found s
    stm_keeps (Declare variable type initial) found s = option_keeps initial (noted variable found) (keeps_one variable found s)
    stm_keeps (Set variable new) found s = exp_keeps new (noted variable found) (keeps_one variable found s)
    stm_keeps (SetField object name new) found s = exp_keeps new (exp_found object found) (exp_keeps object found s)
    stm_keeps (SetStatic class name new) found s = exp_keeps new found s
    stm_keeps (SetElement array index new) found s = exp_keeps new (exp_found index (exp_found array found)) (exp_keeps index (exp_found array found) (exp_keeps array found s))
    stm_keeps (Run call) found s = exp_keeps call found s
    stm_keeps (If test first second) found s = stms_keeps second (stms_found first (exp_found test found)) (stms_keeps first (exp_found test found) (exp_keeps test found s))
    stm_keeps (While test body) found s = stms_keeps body (exp_found test found) (exp_keeps test found s)
    stm_keeps (Switch on groups) found s = groups_keeps groups (exp_found on found) (exp_keeps on found s)
    stm_keeps (Break label) found s = s
    stm_keeps (Continue label) found s = s
    stm_keeps (Return result) found s = option_keeps result found s
    stm_keeps (Throw exception) found s = exp_keeps exception found s
    stm_keeps (Rethrow variable) found s = keeps_one variable found s
    stm_keeps (Try body clauses) found s = catches_keeps clauses (stms_found body found) (stms_keeps body found s)
    stm_keeps (Synchronized monitor body) found s = stms_keeps body (exp_found monitor found) (exp_keeps monitor found s)
    stm_keeps (Construct own arguments) found s = exps_keeps arguments found s
    stm_keeps (Do body test) found s = exp_keeps test (stms_found body found) (stms_keeps body found s)
    stm_keeps (For test variable step body) found s = stms_keeps body (exp_found step (noted variable (exp_found test found))) (exp_keeps step (noted variable (exp_found test found)) (keeps_one variable (exp_found test found) (exp_keeps test found s)))
    stm_keeps (Finally body last) found s = stms_keeps last (stms_found body found) (stms_keeps body found s)

    pub stms_keeps : (stms : Stms) (found : Found) → Sound found → Sound (stms_found stms found)
    stms_keeps Empty found s = s
    stms_keeps (And first rest) found s = stms_keeps rest (stm_found first found) (stm_keeps first found s)

    pub groups_keeps : (groups : Groups) (found : Found) → Sound found → Sound (groups_found groups found)
    groups_keeps NoGroups found s = s
    groups_keeps (AndGroup labels body rest) found s = groups_keeps rest (stms_found body found) (stms_keeps body found s)

    pub catches_keeps : (catches : Catches) (found : Found) → Sound found → Sound (catches_found catches found)
    catches_keeps NoCatches found s = s
    catches_keeps (AndCatch class variable body rest) found s = catches_keeps rest (stms_found body (noted variable found)) (stms_keeps body (noted variable found) (keeps_one variable found s))

-- ---- lists of variables

-- no variable stands twice
abbrev pub Distinct : List Var → Type 0
Distinct [] = Unit {0}
Distinct (first ∷ rest) = (is_among first rest ≡ false) × Distinct rest

-- each has a property
abbrev pub Each : (Var → Type 0) → List Var → Type 0
Each Has [] = Unit {0}
Each Has (first ∷ rest) = Has first × Each Has rest

pub each_more : (Has : Var → Type 0) (list more : List Var) → Each Has list → Each Has more → Each Has (list ++ more)
each_more Has [] more have others = others
each_more Has (first ∷ rest) more have others = (have.0, each_more Has rest more have.1 others)

pub not_both : (first second : Bool) → (first || second) ≡ false → (first ≡ false) × (second ≡ false)
not_both true second e = absurd (false≢true (sym e))
not_both false second e = (refl, e)

pub neither : (first second : Bool) → first ≡ false → second ≡ false → (first || second) ≡ false
neither first second one other = ap (λ b. b || second) one ∙ other

-- being spelled alike goes both ways
pub other_way : (first second : Var) → is_same_variable first second ≡ false → is_same_variable second first ≡ false
other_way first second e = go (is_same_variable second first) refl
  where
    go : (same : Bool) → is_same_variable second first ≡ same → is_same_variable second first ≡ false
    go true t = absurd (false≢true (sym e ∙ ap (λ one. is_same_variable first one) (same_is second first t) ∙ same_variable first))
    go false t = t

not_among_more : (variable last : Var) (list : List Var) → is_among variable list ≡ false → is_same_variable last variable ≡ false → is_among variable (list ++ last ∷ []) ≡ false
not_among_more variable last [] none e = neither (is_same_variable last variable) false e refl
not_among_more variable last (first ∷ rest) none e =
    let parts = not_both (is_same_variable first variable) (is_among variable rest) none in
    neither (is_same_variable first variable) (is_among variable (rest ++ last ∷ [])) parts.0 (not_among_more variable last rest parts.1 e)

distinct_more : (last : Var) (list : List Var) → Distinct list → is_among last list ≡ false → Distinct (list ++ last ∷ [])
distinct_more last [] distinct none = (refl, tt)
distinct_more last (first ∷ rest) distinct none =
    let parts = not_both (is_same_variable first last) (is_among last rest) none in
    (not_among_more first last rest distinct.0 (other_way first last parts.0), distinct_more last rest distinct.1 parts.1)

-- ---- marks

set_other : (list : List Bool) (marked other : ℕ) → (other ≡ marked → ⊥) → slice_get (slice_set list marked true) other ≡ slice_get list other
set_other [] marked other apart = refl
set_other (first ∷ rest) zero zero apart = absurd (apart refl)
set_other (first ∷ rest) zero (suc other) apart = refl
set_other (first ∷ rest) (suc marked) zero apart = refl
set_other (first ∷ rest) (suc marked) (suc other) apart = set_other rest marked other (λ e. apart (ap suc e))

set_same : (list : List Bool) (marked : ℕ) (mark : Bool) → slice_get list marked ≡ Some mark → slice_get (slice_set list marked true) marked ≡ Some true
set_same [] marked mark e = absurd (no e)
  where
    no : None ≡ Some mark → ⊥
    no e = cc
set_same (first ∷ rest) zero mark e = refl
set_same (first ∷ rest) (suc marked) mark e = set_same rest marked mark e

set_there : (list : List Bool) (marked other : ℕ) → is_some (slice_get (slice_set list marked true) other) ≡ is_some (slice_get list other)
set_there [] marked other = refl
set_there (first ∷ rest) zero zero = refl
set_there (first ∷ rest) zero (suc other) = refl
set_there (first ∷ rest) (suc marked) zero = refl
set_there (first ∷ rest) (suc marked) (suc other) = set_there rest marked other

none_yet : (kinds : List JType) (number : ℕ) → slice_get (map (λ (type : JType). false) kinds) number ≡ Some true → ⊥
none_yet [] number e = cc
none_yet (first ∷ rest) zero e = cc
none_yet (first ∷ rest) (suc number) e = none_yet rest number e

there_yet : (kinds : List JType) (number : ℕ) → is_some (slice_get (map (λ (type : JType). false) kinds) number) ≡ is_some (slice_get kinds number)
there_yet [] number = refl
there_yet (first ∷ rest) zero = refl
there_yet (first ∷ rest) (suc number) = there_yet rest number

-- ---- what is found

-- a variable that has a kind
abbrev pub HasKind : List JType → VarKind → ℕ → Type 0
HasKind kinds kind.Param number = ⊥
HasKind kinds kind.Local number = is_some (slice_get kinds number) ≡ true
HasKind kinds kind.Caught number = ⊥
HasKind kinds kind.State number = ⊥

-- one that holds a state
abbrev pub HoldsState : VarKind → Type 0
HoldsState kind.Param = ⊥
HoldsState kind.Local = ⊥
HoldsState kind.Caught = ⊥
HoldsState kind.State = Unit {0}

-- the variables that are found are those that are marked, each once
pub record IsSound (kinds : List JType) (found : Found) : Type 0 where
  pub there : (number : ℕ) → is_some (slice_get found.seen number) ≡ is_some (slice_get kinds number)
  pub marked : (number : ℕ) → slice_get found.seen number ≡ Some true → is_among (a_variable kind.Local number) found.locals ≡ true
  pub unmarked : (number : ℕ) → slice_get found.seen number ≡ Some false → is_among (a_variable kind.Local number) found.locals ≡ false
  pub locals : Each (λ variable. HasKind kinds variable.kind variable.number) found.locals
  pub distinct : Distinct found.locals
  pub states : Each (λ variable. HoldsState variable.kind) found.states
  pub apart : Distinct found.states

nothing_sound : (kinds : List JType) → IsSound kinds (nothing_found kinds)
nothing_sound kinds = record {
  there = there_yet kinds;
  marked = λ number e. absurd (none_yet kinds number e);
  unmarked = λ number e. refl;
  locals = tt;
  distinct = tt;
  states = tt;
  apart = tt;
}

module _ (kinds : List JType) where
  local_sound : (number : ℕ) (mark : Option Bool) (found : Found) → slice_get found.seen number ≡ mark → IsSound kinds found → IsSound kinds (noted_local (a_variable kind.Local number) mark found)
  local_sound number None found e sound = sound
  local_sound number (Some true) found e sound = sound
  local_sound number (Some false) found e sound = record {
    there = λ other. set_there found.seen number other ∙ sound.there other;
    marked = λ other m. marked_so other (other == number) refl m;
    unmarked = λ other m. unmarked_so other (other == number) refl m;
    locals = each_more _ found.locals (a_variable kind.Local number ∷ []) sound.locals (sym (sound.there number) ∙ ap is_some e, tt);
    distinct = distinct_more (a_variable kind.Local number) found.locals sound.distinct (sound.unmarked number e);
    states = sound.states;
    apart = sound.apart;
  }
    where
      apart_so : (other : ℕ) → (other == number) ≡ false → other ≡ number → ⊥
      apart_so other e same = false≢true (sym e ∙ eq-eqb other number same)

      marked_so : (other : ℕ) (same : Bool) → (other == number) ≡ same → slice_get (slice_set found.seen number true) other ≡ Some true
          → is_among (a_variable kind.Local other) (found.locals ++ a_variable kind.Local number ∷ []) ≡ true
      marked_so other true same m =
          subst (λ number. is_among (a_variable kind.Local other) (found.locals ++ a_variable kind.Local number ∷ []) ≡ true) (eqb-true other number same) (among_last (a_variable kind.Local other) found.locals)
      marked_so other false same m =
          among_more (a_variable kind.Local other) found.locals (a_variable kind.Local number ∷ []) (sound.marked other (sym (set_other found.seen number other (apart_so other same)) ∙ m))

      two : Some true ≡ Some false → ⊥
      two e = cc

      not_same : (other : ℕ) (same : Bool) → (number == other) ≡ same → (other == number) ≡ false → is_same_variable (a_variable kind.Local number) (a_variable kind.Local other) ≡ false
      not_same other true t e = absurd (apart_so other e (sym (eqb-true number other t)))
      not_same other false t e = t

      unmarked_so : (other : ℕ) (same : Bool) → (other == number) ≡ same → slice_get (slice_set found.seen number true) other ≡ Some false
          → is_among (a_variable kind.Local other) (found.locals ++ a_variable kind.Local number ∷ []) ≡ false
      unmarked_so other true same m =
          absurd (two (sym (set_same found.seen number false e) ∙ ap (slice_get (slice_set found.seen number true)) (sym (eqb-true other number same)) ∙ m))
      unmarked_so other false same m =
          not_among_more (a_variable kind.Local other) (a_variable kind.Local number) found.locals (sound.unmarked other (sym (set_other found.seen number other (apart_so other same)) ∙ m)) (not_same other (number == other) refl same)

  state_sound : (number : ℕ) (there : Bool) (found : Found) → is_among (a_variable kind.State number) found.states ≡ there → IsSound kinds found
      → IsSound kinds (if there then found else record { seen = found.seen; locals = found.locals; states = found.states ++ a_variable kind.State number ∷ [] })
  state_sound number true found e sound = sound
  state_sound number false found e sound = record {
    there = sound.there;
    marked = sound.marked;
    unmarked = sound.unmarked;
    locals = sound.locals;
    distinct = sound.distinct;
    states = each_more _ found.states (a_variable kind.State number ∷ []) sound.states (tt, tt);
    apart = distinct_more (a_variable kind.State number) found.states sound.apart e;
  }

  noted_sound : (variable : Var) (found : Found) → IsSound kinds found → IsSound kinds (noted variable found)
  noted_sound variable found = go variable.kind variable.number
    where
      go : (one : VarKind) (number : ℕ) → IsSound kinds found → IsSound kinds (noted (a_variable one number) found)
      go kind.Param number sound = sound
      go kind.Local number sound = local_sound number (slice_get found.seen number) found refl sound
      go kind.Caught number sound = sound
      go kind.State number sound = state_sound number (is_among (a_variable kind.State number) found.states) found refl sound

  pub found_sound : (list : Stms) → IsSound kinds (stms_found list (nothing_found kinds))
  found_sound list = stms_keeps (IsSound kinds) noted_sound list (nothing_found kinds) (nothing_sound kinds)
