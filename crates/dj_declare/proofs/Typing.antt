-- A tree made lawful keeps the rules of types.
use Rattle.std.proofs.Common.{ℕ, ◌+◌, Bool, true, false, not, List, [], ◌∷◌, ◌++◌, Option, Some, None, ◌≡◌, refl, sym, ap, ◌∙◌, subst, ◌&&◌, ◌||◌}
use Rattle.std.specs.Prelude.{is_some, if◌then◌else◌}
use Rattle.std.proofs.lemmas.Bool.{and_parts, and_from, false≢true}
use Rattle.dj_names.specs.Types as types
use Rattle.dj_names.specs.Types.{Class, Of}
use Rattle.dj_names.specs.declared.header.Header.{Header}
use Rattle.dj_syntax.specs.Trees.{Exp, Stm, Block, Labelled, Declare, Set, SetField, SetStatic, SetElement, Run, If, While, Switch, Return, Throw, Rethrow, Try, Synchronized, Construct, Do, For, Finally, Stms, Empty, And, Groups, NoGroups, AndGroup, Catches, NoCatches, AndCatch}
use Rattle.dj_syntax.specs.Trees as trees
use Rattle.dj_syntax.specs.StmText.{is_empty}
use Rattle.dj_syntax.specs.Weight.{weight_of, weight_of_exp, weight_of_stms}
use Rattle.dj_syntax.specs.WellFormedTrees.{is_declaration, has_no_group, has_no_catch}
use Rattle.dj_values.specs.Deciding.{is_type}
use Rattle.dj_values.specs.Fits.{throwable_name}
use Rattle.dj_meaning.specs.Calls.{is_assignable}
use Rattle.dj_meaning.specs.StaticTypes.{Scope, with_type, type_of}
use Rattle.dj_meaning.specs.Declarations.{declared, within, behind}
use Rattle.dj_meaning.specs.Statements.{Place, Behind, Elsewhere}
use Rattle.dj_places.specs.Constants.{Surroundings, constant_truth, is_always}
use Rattle.dj_places.specs.Rules.{Holds}
use Rattle.dj_reach.specs.declared.jump.Jump.TheVariants as jumps
use Rattle.dj_reach.specs.Reach.{completes}
use Rattle.dj_typing.specs.Sites.{Site, context_of, may_name}
use Rattle.dj_typing.specs.Operands.{is_of, if_typed}
use Rattle.dj_typed.specs.Switches.{has_some, are_formed, labels_of, are_distinct}
use Rattle.dj_typed.specs.Statements.{Around, with_targets, in_loop, is_new, is_on_int, without_this, are_new_catches, are_exceptions, stm_types, list_types, catches_types, groups_types}
use Rattle.dj_formed.specs.Formed.{constants_of}
use Rattle.dj_declare.specs.Lawful.{Declared, declared_then, and_more, all_declared, lawful, all_lawful, lawful_clauses, lawful_groups, lost}
use Rattle.dj_declare.specs.Laws.{LawfulTypes}
use Rattle.dj_formed.proofs.Moved.{moved, all_moved, effect_moved, option_moved}

-- ---- what is declared

-- a statement declares what it did
pub same_declared : (known : Surroundings) (statement : Stm) → declared (lawful known statement) ≡ declared statement
same_declared known (Block list) = refl
same_declared known (Labelled label statement) = refl
same_declared known (Declare variable kind initial) = refl
same_declared known (Set variable new) = refl
same_declared known (SetField object name new) = refl
same_declared known (SetStatic class name new) = refl
same_declared known (SetElement array index new) = refl
same_declared known (Run call) = refl
same_declared known (If test first second) = refl
same_declared known (While test body) = go (is_always false (constant_truth known test))
  where
    go : (idle : Bool) → declared (if idle then Block Empty else While test (all_lawful known body)) ≡ None
    go true = refl
    go false = refl
same_declared known (Switch on groups) = refl
same_declared known (trees.Break label) = refl
same_declared known (trees.Continue label) = refl
same_declared known (Return value) = refl
same_declared known (Throw exception) = refl
same_declared known (Rethrow variable) = refl
same_declared known (Try body clauses) = refl
same_declared known (Synchronized monitor body) = refl
same_declared known (Construct own arguments) = refl
same_declared known (Do body test) = refl
same_declared known (For test variable step body) = go (is_always false (constant_truth known test))
  where
    go : (idle : Bool) → declared (if idle then Block Empty else For test variable step (all_lawful known body)) ≡ None
    go true = refl
    go false = refl
same_declared known (Finally body last) = refl

-- and is a declaration where it was one
pub same_declaration : (known : Surroundings) (statement : Stm) → is_declaration (lawful known statement) ≡ is_declaration statement
same_declaration known (Block list) = refl
same_declaration known (Labelled label statement) = refl
same_declaration known (Declare variable kind initial) = refl
same_declaration known (Set variable new) = refl
same_declaration known (SetField object name new) = refl
same_declaration known (SetStatic class name new) = refl
same_declaration known (SetElement array index new) = refl
same_declaration known (Run call) = refl
same_declaration known (If test first second) = refl
same_declaration known (While test body) = go (is_always false (constant_truth known test))
  where
    go : (idle : Bool) → is_declaration (if idle then Block Empty else While test (all_lawful known body)) ≡ false
    go true = refl
    go false = refl
same_declaration known (Switch on groups) = refl
same_declaration known (trees.Break label) = refl
same_declaration known (trees.Continue label) = refl
same_declaration known (Return value) = refl
same_declaration known (Throw exception) = refl
same_declaration known (Rethrow variable) = refl
same_declaration known (Try body clauses) = refl
same_declaration known (Synchronized monitor body) = refl
same_declaration known (Construct own arguments) = refl
same_declaration known (Do body test) = refl
same_declaration known (For test variable step body) = go (is_always false (constant_truth known test))
  where
    go : (idle : Bool) → is_declaration (if idle then Block Empty else For test variable step (all_lawful known body)) ≡ false
    go true = refl
    go false = refl
same_declaration known (Finally body last) = refl

-- ---- scopes

-- the scope behind declarations
abbrev pub behind_all : List Declared → Scope → Scope
behind_all [] scope = scope
behind_all (one ∷ more) scope = behind_all more (with_type one.0 one.1 scope)

-- each of them is new
abbrev pub AreNew : Site → Scope → List Declared → Type 0
AreNew site scope [] = Unit {0}
AreNew site scope (one ∷ more) = (is_new site scope one.0 one.1 ≡ true) × AreNew site (with_type one.0 one.1 scope) more

more_behind : (one : Option Declared) (more : List Declared) (scope : Scope) → behind_all (and_more one more) scope ≡ behind_all more (within one scope)
more_behind None more scope = refl
more_behind (Some one) more scope = refl

pub all_behind : (list : Stms) (scope : Scope) → behind_all (all_declared list) scope ≡ behind list scope
all_behind Empty scope = refl
all_behind (And first rest) scope = more_behind (declared first) (all_declared rest) scope ∙ all_behind rest (within (declared first) scope)

-- a statement's declaration is new, by the rules
statement_new : (around : Around) (at : Place) (scope : Scope) (p : ℕ) (statement : Stm) (more : List Declared) → Holds (stm_types around at scope p statement)
    → AreNew around.site (within (declared statement) scope) more → AreNew around.site scope (and_more (declared statement) more)
statement_new around at scope p (Block list) more t n = n
statement_new around at scope p (Labelled label statement) more t n = n
statement_new around at scope p (Declare variable kind initial) more t n = (t.0, n)
statement_new around at scope p (Set variable new) more t n = n
statement_new around at scope p (SetField object name new) more t n = n
statement_new around at scope p (SetStatic class name new) more t n = n
statement_new around at scope p (SetElement array index new) more t n = n
statement_new around at scope p (Run call) more t n = n
statement_new around at scope p (If test first second) more t n = n
statement_new around at scope p (While test body) more t n = n
statement_new around at scope p (Switch on groups) more t n = n
statement_new around at scope p (trees.Break label) more t n = n
statement_new around at scope p (trees.Continue label) more t n = n
statement_new around at scope p (Return value) more t n = n
statement_new around at scope p (Throw exception) more t n = n
statement_new around at scope p (Rethrow variable) more t n = n
statement_new around at scope p (Try body clauses) more t n = n
statement_new around at scope p (Synchronized monitor body) more t n = n
statement_new around at scope p (Construct own arguments) more t n = n
statement_new around at scope p (Do body test) more t n = n
statement_new around at scope p (For test variable step body) more t n = n
statement_new around at scope p (Finally body last) more t n = n

all_new : (around : Around) (scope : Scope) (p : ℕ) (list : Stms) → Holds (list_types around scope p list) → AreNew around.site scope (all_declared list)
all_new around scope p Empty t = tt
all_new around scope p (And first rest) t =
    statement_new around Elsewhere scope p first (all_declared rest) t.0 (all_new around (within (declared first) scope) (p + weight_of first) rest t.1)

module _ (known : Surroundings) where
  -- what is kept and what is lost are together what was there
  pub lost_behind : (list : Stms) (scope : Scope) → behind_all (lost known list) (behind (all_lawful known list) scope) ≡ behind list scope
  lost_behind Empty scope = refl
  lost_behind (And first rest) scope =
      subst (λ one. behind_all (lost known (And first rest)) (behind (if completes known None (lawful known first) then all_lawful known rest else Empty) (within one scope)) ≡ behind rest (within (declared first) scope)) (sym (same_declared known first))
      (go (completes known None (lawful known first)) (within (declared first) scope) (lost_behind rest (within (declared first) scope)))
    where
      go : (b : Bool) (inner : Scope) → behind_all (lost known rest) (behind (all_lawful known rest) inner) ≡ behind rest inner
          → behind_all (if b then lost known rest else all_declared rest) (behind (if b then all_lawful known rest else Empty) inner) ≡ behind rest inner
      go true inner e = e
      go false inner e = all_behind rest inner

  lost_new : (around : Around) (scope : Scope) (p : ℕ) (list : Stms) → Holds (list_types around scope p list) → AreNew around.site (behind (all_lawful known list) scope) (lost known list)
  lost_new around scope p Empty t = tt
  lost_new around scope p (And first rest) t =
      subst (λ one. AreNew around.site (behind (if completes known None (lawful known first) then all_lawful known rest else Empty) (within one scope)) (lost known (And first rest))) (sym (same_declared known first))
      (go (completes known None (lawful known first)) (within (declared first) scope) (lost_new around (within (declared first) scope) (p + weight_of first) rest t.1) (all_new around (within (declared first) scope) (p + weight_of first) rest t.1))
    where
      go : (b : Bool) (inner : Scope) → AreNew around.site (behind (all_lawful known rest) inner) (lost known rest) → AreNew around.site inner (all_declared rest)
          → AreNew around.site (behind (if b then all_lawful known rest else Empty) inner) (if b then lost known rest else all_declared rest)
      go true inner n m = n
      go false inner n m = m

-- ---- small steps

cut_types : (around : Around) (scope : Scope) (q : ℕ) (list : Stms) (b : Bool) → Holds (list_types around scope q list) → Holds (list_types around scope q (if b then list else Empty))
cut_types around scope q list true h = h
cut_types around scope q list false h = tt

kept_types : (around : Around) (at : Place) (scope : Scope) (q : ℕ) (statement : Stm) (idle : Bool) → Holds (stm_types around at scope q statement) → Holds (stm_types around at scope q (if idle then Block Empty else statement))
kept_types around at scope q statement true h = tt
kept_types around at scope q statement false h = h

declared_types : (around : Around) (scope : Scope) (q : ℕ) (more : List Declared) (list : Stms) → AreNew around.site scope more → ((other : ℕ) → Holds (list_types around (behind_all more scope) other list))
    → Holds (list_types around scope q (declared_then more list))
declared_types around scope q [] list n h = h q
declared_types around scope q (one ∷ more) list n h = ((n.0, (refl, tt)), declared_types around (with_type one.0 one.1 scope) (q + 1) more list n.1 h)

pub declared_scope : (more : List Declared) (list : Stms) (scope : Scope) → behind (declared_then more list) scope ≡ behind list (behind_all more scope)
declared_scope [] list scope = refl
declared_scope (one ∷ more) list scope = declared_scope more list (with_type one.0 one.1 scope)

same_labels : (known : Surroundings) (more : List Declared) (groups : Groups) → labels_of (lawful_groups known more groups) ≡ labels_of groups
same_labels known more NoGroups = refl
same_labels known more (AndGroup labels body rest) = ap (λ later. labels ++ later) (same_labels known (lost known body) rest)

same_end : (known : Surroundings) (more : List Declared) (groups : Groups) → has_no_group (lawful_groups known more groups) ≡ has_no_group groups
same_end known more NoGroups = refl
same_end known more (AndGroup labels body rest) = refl

-- a list that has a statement has one still
filled : (known : Surroundings) (more : List Declared) (list : Stms) → not (is_empty list) ≡ true → not (is_empty (declared_then more (all_lawful known list))) ≡ true
filled known [] Empty e = e
filled known [] (And first rest) e = refl
filled known (one ∷ more) list e = refl

filled_or : (a b c d : Bool) → (a ≡ true → c ≡ true) → b ≡ d → (a || b) ≡ true → (c || d) ≡ true
filled_or true b true d f e h = refl
filled_or true b false d f e h = absurd (false≢true (f refl))
filled_or false b true d f e h = refl
filled_or false b false d f e h = sym e ∙ h

still_formed : (known : Surroundings) (more : List Declared) (groups : Groups) → are_formed groups ≡ true → are_formed (lawful_groups known more groups) ≡ true
still_formed known more NoGroups e = refl
still_formed known more (AndGroup labels body rest) e =
    let first = and_parts (has_some labels && (not (is_empty body) || has_no_group rest)) (are_formed rest) e in
    let second = and_parts (has_some labels) (not (is_empty body) || has_no_group rest) first.0 in
    and_from (has_some labels && (not (is_empty (declared_then more (all_lawful known body))) || has_no_group (lawful_groups known (lost known body) rest))) (are_formed (lawful_groups known (lost known body) rest))
    (and_from (has_some labels) (not (is_empty (declared_then more (all_lawful known body))) || has_no_group (lawful_groups known (lost known body) rest)) second.0
    (filled_or (not (is_empty body)) (has_no_group rest) (not (is_empty (declared_then more (all_lawful known body)))) (has_no_group (lawful_groups known (lost known body) rest)) (filled known more body) (sym (same_end known (lost known body) rest)) second.1))
    (still_formed known (lost known body) rest first.1)

has_groups : (known : Surroundings) (more : List Declared) (groups : Groups) → (not (has_no_group groups) && are_formed groups) ≡ true → (not (has_no_group (lawful_groups known more groups)) && are_formed (lawful_groups known more groups)) ≡ true
has_groups known more groups e =
    let both = and_parts (not (has_no_group groups)) (are_formed groups) e in
    and_from (not (has_no_group (lawful_groups known more groups))) (are_formed (lawful_groups known more groups)) (ap not (same_end known more groups) ∙ both.0) (still_formed known more groups both.1)

on_int : (site : Site) (scope : Scope) (on : Exp) (known : Surroundings) (groups : Groups) → is_on_int site scope on groups ≡ true → is_on_int site scope on (lawful_groups known [] groups) ≡ true
on_int site scope on known groups e = subst (λ labels. (if_typed (type_of (context_of site) scope on) (is_of (is_type types.Int)) && are_distinct labels) ≡ true) (sym (same_labels known [] groups)) e

has_clauses : (known : Surroundings) (clauses : Catches) → has_no_catch (lawful_clauses known clauses) ≡ has_no_catch clauses
has_clauses known NoCatches = refl
has_clauses known (AndCatch class variable body rest) = refl

same_new : (site : Site) (scope : Scope) (known : Surroundings) (clauses : Catches) → are_new_catches site scope (lawful_clauses known clauses) ≡ are_new_catches site scope clauses
same_new site scope known NoCatches = refl
same_new site scope known (AndCatch class variable body rest) = ap (λ later. may_name site class && not (is_some (scope variable)) && later) (same_new site scope known rest)

same_exceptions : (headers : List Header) (known : Surroundings) (clauses : Catches) → are_exceptions headers (lawful_clauses known clauses) ≡ are_exceptions headers clauses
same_exceptions headers known NoCatches = refl
same_exceptions headers known (AndCatch class variable body rest) = ap (λ later. is_assignable headers (Of (Class class)) (Class throwable_name) && later) (same_exceptions headers known rest)

-- ---- statements

module _ (known : Surroundings) where
  mutual
    pub types_on : (around : Around) (at : Place) (scope : Scope) (p q : ℕ) (statement : Stm) → Holds (stm_types around at scope p statement) → Holds (stm_types around at scope q (lawful known statement))
    types_on around at scope p q (Block list) t = list_types_on around scope (p + 1) (q + 1) list t
    types_on around at scope p q (Labelled label statement) t =
        (ap not (same_declaration known statement) ∙ t.0, (t.1.0, types_on (with_targets (jumps.Break label ∷ []) around) (Behind label) scope (p + 1) (q + 1) statement t.1.1))
    types_on around at scope p q (Declare variable kind initial) t = (t.0, (t.1.0, option_moved around.site (with_type variable kind scope) (p + 1) (q + 1) initial t.1.1))
    types_on around at scope p q (Set variable new) t = (t.0, (t.1.0, moved around.site scope (p + 1) (q + 1) new t.1.1))
    types_on around at scope p q (SetField object name new) t =
        (t.0, (t.1.0, (t.1.1.0, (moved around.site scope (p + 1) (q + 1) object t.1.1.1.0, moved around.site scope (p + 1 + weight_of_exp object) (q + 1 + weight_of_exp object) new t.1.1.1.1))))
    types_on around at scope p q (SetStatic class name new) t = (t.0, (t.1.0, (t.1.1.0, moved around.site scope (p + 1) (q + 1) new t.1.1.1)))
    types_on around at scope p q (SetElement array index new) t = (
      t.0,
      (
        moved around.site scope (p + 1) (q + 1) array t.1.0,
        (
          moved around.site scope (p + 1 + weight_of_exp array) (q + 1 + weight_of_exp array) index t.1.1.0,
          moved around.site scope (p + 1 + weight_of_exp array + weight_of_exp index) (q + 1 + weight_of_exp array + weight_of_exp index) new t.1.1.1,
        ),
      ),
    )
    types_on around at scope p q (Run call) t = (t.0, effect_moved around.site scope (p + 1) (q + 1) call t.1)
    types_on around at scope p q (If test first second) t = (
      t.0,
      (
        moved around.site scope (p + 1) (q + 1) test t.1.0,
        (
          list_types_on around scope (p + 1 + weight_of_exp test) (q + 1 + weight_of_exp test) first t.1.1.0,
          list_types_on around scope (p + 1 + weight_of_exp test + weight_of_stms first) (q + 1 + weight_of_exp test + weight_of_stms (all_lawful known first)) second t.1.1.1,
        ),
      ),
    )
    types_on around at scope p q (While test body) t =
        kept_types around at scope q (While test (all_lawful known body)) (is_always false (constant_truth known test))
        (t.0, (moved around.site scope (p + 1) (q + 1) test t.1.0, list_types_on (in_loop at around) scope (p + 1 + weight_of_exp test) (q + 1 + weight_of_exp test) body t.1.1))
    types_on around at scope p q (Switch on groups) t = (
      has_groups known [] groups t.0,
      (
        on_int around.site scope on known groups t.1.0,
        (
          moved around.site scope (p + 1) (q + 1) on t.1.1.0,
          groups_types_on around scope [] (p + 1 + weight_of_exp on) (q + 1 + weight_of_exp on) groups tt t.1.1.1,
        ),
      ),
    )
    types_on around at scope p q (trees.Break label) t = t
    types_on around at scope p q (trees.Continue label) t = t
    types_on around at scope p q (Return value) t = (t.0, option_moved around.site scope (p + 1) (q + 1) value t.1)
    types_on around at scope p q (Throw exception) t = (t.0, moved around.site scope (p + 1) (q + 1) exception t.1)
    types_on around at scope p q (Rethrow variable) t = t
    types_on around at scope p q (Try body clauses) t = (
      ap (λ none. not none && are_new_catches around.site scope (lawful_clauses known clauses)) (has_clauses known clauses) ∙ ap (λ new. not (has_no_catch clauses) && new) (same_new around.site scope known clauses) ∙ t.0,
      (
        same_exceptions around.site.headers known clauses ∙ t.1.0,
        (list_types_on around scope (p + 1) (q + 1) body t.1.1.0, clauses_types_on around scope (p + 1 + weight_of_stms body) (q + 1 + weight_of_stms (all_lawful known body)) clauses t.1.1.1),
      ),
    )
    types_on around at scope p q (Synchronized monitor body) t =
        (t.0, (moved around.site scope (p + 1) (q + 1) monitor t.1.0, list_types_on around scope (p + 1 + weight_of_exp monitor) (q + 1 + weight_of_exp monitor) body t.1.1))
    types_on around at scope p q (Construct own arguments) t = (t.0, all_moved (without_this around.site) scope (p + 1) (q + 1) arguments t.1)
    types_on around at scope p q (Do body test) t =
        (t.0, (list_types_on (in_loop at around) scope (p + 1) (q + 1) body t.1.0, moved around.site scope (p + 1 + weight_of_stms body) (q + 1 + weight_of_stms (all_lawful known body)) test t.1.1))
    types_on around at scope p q (For test variable step body) t =
        kept_types around at scope q (For test variable step (all_lawful known body)) (is_always false (constant_truth known test)) (
          t.0,
          (
            t.1.0,
            (
              moved around.site scope (p + 1) (q + 1) test t.1.1.0,
              (
                moved around.site scope (p + 1 + weight_of_exp test) (q + 1 + weight_of_exp test) step t.1.1.1.0,
                list_types_on (in_loop at around) scope (p + 1 + weight_of_exp test + weight_of_exp step) (q + 1 + weight_of_exp test + weight_of_exp step) body t.1.1.1.1,
              ),
            ),
          ),
        )
    types_on around at scope p q (Finally body last) t =
        (list_types_on around scope (p + 1) (q + 1) body t.0, list_types_on around scope (p + 1 + weight_of_stms body) (q + 1 + weight_of_stms (all_lawful known body)) last t.1)

    pub list_types_on : (around : Around) (scope : Scope) (p q : ℕ) (list : Stms) → Holds (list_types around scope p list) → Holds (list_types around scope q (all_lawful known list))
    list_types_on around scope p q Empty t = tt
    list_types_on around scope p q (And first rest) t = (
      types_on around Elsewhere scope p q first t.0,
      subst (λ one. Holds (list_types around (within one scope) (q + weight_of (lawful known first)) (if completes known None (lawful known first) then all_lawful known rest else Empty))) (sym (same_declared known first))
          (cut_types around (within (declared first) scope) (q + weight_of (lawful known first)) (all_lawful known rest) (completes known None (lawful known first))
          (list_types_on around (within (declared first) scope) (p + weight_of first) (q + weight_of (lawful known first)) rest t.1)),
    )

    clauses_types_on : (around : Around) (scope : Scope) (p q : ℕ) (clauses : Catches) → Holds (catches_types around scope p clauses) → Holds (catches_types around scope q (lawful_clauses known clauses))
    clauses_types_on around scope p q NoCatches t = tt
    clauses_types_on around scope p q (AndCatch class variable body rest) t =
        (list_types_on around (with_type variable (Class class) scope) p q body t.0, clauses_types_on around scope (p + weight_of_stms body) (q + weight_of_stms (all_lawful known body)) rest t.1)

    groups_types_on : (around : Around) (scope : Scope) (more : List Declared) (p q : ℕ) (groups : Groups) → AreNew around.site scope more → Holds (groups_types around (behind_all more scope) p groups)
        → Holds (groups_types around scope q (lawful_groups known more groups))
    groups_types_on around scope more p q NoGroups n t = tt
    groups_types_on around scope more p q (AndGroup labels body rest) n t = (
      declared_types around scope q more (all_lawful known body) n (λ other. list_types_on around (behind_all more scope) p other body t.0),
      subst (λ inner. Holds (groups_types around inner (q + weight_of_stms (declared_then more (all_lawful known body))) (lawful_groups known (lost known body) rest))) (sym (declared_scope more (all_lawful known body) scope))
          (groups_types_on around (behind (all_lawful known body) (behind_all more scope)) (lost known body) (p + weight_of_stms body) (q + weight_of_stms (declared_then more (all_lawful known body))) rest
          (lost_new known around (behind_all more scope) p body t.0)
          (subst (λ inner. Holds (groups_types around inner (p + weight_of_stms body) rest)) (sym (lost_behind known body (behind_all more scope))) t.1)),
    )

pub lawful_types : LawfulTypes
lawful_types around scope place other list t = list_types_on (constants_of around.site) around scope place other list t
