-- The pass makes a tree lawful.
use Rattle.std.proofs.Common.{ℕ, ℤ, Bool, true, false, not, ◌&&◌, ◌||◌, List, [], ◌∷◌, ◌++◌, map, Option, Some, None, ◌≡◌, refl, sym, ap, ◌∙◌, subst}
use Rattle.std.specs.Prelude.{if◌then◌else◌}
use Rattle.std.proofs.lemmas.Bool.{false≢true, eqb-true}
use Rattle.dj_syntax.specs.declared.variable.Var.{Var}
use Rattle.dj_syntax.specs.Trees.{Stm, Block, Labelled, Declare, Set, SetField, SetStatic, SetElement, Run, If, While, Switch, Return, Throw, Rethrow, Try, Synchronized, Construct, Do, For, Finally, Stms, Empty, And, Groups, NoGroups, AndGroup, Catches, NoCatches, AndCatch, Group, Catch, stms_of, groups_of, catches_of}
use Rattle.dj_syntax.specs.Trees as trees
use Rattle.dj_meaning.specs.Declarations.{declared}
use Rattle.dj_meaning.specs.Statements.{is_labelled}
use Rattle.dj_places.specs.Constants.{Surroundings, constant_truth, is_always}
use Rattle.dj_reach.specs.declared.jump.Jump.{Jump}
use Rattle.dj_reach.specs.declared.jump.Jump.TheVariants as jumps
use Rattle.dj_reach.specs.Jumps.{is_same_jump, is_jump_to, is_one_of}
use Rattle.dj_reach.specs.Reach.{of_own, completes, list_completes, catches_complete, groups_complete, leaves, list_leaves, catches_leave, groups_leave}
use Rattle.dj_declare.specs.Lawful.{Declared, declared_then, and_more, all_declared, lawful, all_lawful, lawful_clauses, lawful_groups, lost}
use Rattle.dj_declaring.specs.Passes.{Made, MadeList, MadeGroups, MadeClauses, goes_on, beginning, with_one, listed, without_one, others, under, looped, with_group, with_clause, no_groups, no_clauses, pass, pass_list, pass_groups, pass_clauses, MakesLawful, PassMakesLawful}
use Rattle.dj_declare.proofs.Reaching.{labels_kept, declared_completes, declared_leaves}

-- ---- lists

-- statements as a list
abbrev pub list_of : Stms → List Stm
list_of Empty = []
list_of (And first rest) = first ∷ list_of rest

abbrev pub list_of_groups : Groups → List Group
list_of_groups NoGroups = []
list_of_groups (AndGroup labels body rest) = (labels, body) ∷ list_of_groups rest

abbrev pub list_of_clauses : Catches → List Catch
list_of_clauses NoCatches = []
list_of_clauses (AndCatch class variable body rest) = (class, variable, body) ∷ list_of_clauses rest

stms_back : (list : Stms) → stms_of (list_of list) ≡ list
stms_back Empty = refl
stms_back (And first rest) = ap (And first) (stms_back rest)

groups_back : (groups : Groups) → groups_of (list_of_groups groups) ≡ groups
groups_back NoGroups = refl
groups_back (AndGroup labels body rest) = ap (AndGroup labels body) (groups_back rest)

clauses_back : (clauses : Catches) → catches_of (list_of_clauses clauses) ≡ clauses
clauses_back NoCatches = refl
clauses_back (AndCatch class variable body rest) = ap (AndCatch class variable body) (clauses_back rest)

nothing_behind : {A : Type 0} (list : List A) → list ++ [] ≡ list
nothing_behind [] = refl
nothing_behind (first ∷ rest) = ap (λ more. first ∷ more) (nothing_behind rest)

in_turn : {A : Type 0} (first second third : List A) → (first ++ second) ++ third ≡ first ++ (second ++ third)
in_turn [] second third = refl
in_turn (one ∷ first) second third = ap (λ more. one ∷ more) (in_turn first second third)

then_declared : (more : List Declared) (list : Stms) → list_of (declared_then more list) ≡ map (λ (one : Declared). Declare one.0 one.1 None) more ++ list_of list
then_declared [] list = refl
then_declared (one ∷ more) list = ap (λ rest. Declare one.0 one.1 None ∷ rest) (then_declared more list)

more_listed : (one : Option Declared) (more : List Declared) → listed one ++ more ≡ and_more one more
more_listed None more = refl
more_listed (Some one) more = refl

-- ---- booleans

or_turn : (a b c : Bool) → ((a || b) || c) ≡ (a || (b || c))
or_turn true b c = refl
or_turn false b c = refl

or_false : (a : Bool) → (a || false) ≡ a
or_false true = refl
or_false false = refl

one_of_both : (jump : Jump) (first second : List Jump) → is_one_of jump (first ++ second) ≡ (is_one_of jump first || is_one_of jump second)
one_of_both jump [] second = refl
one_of_both jump (one ∷ first) second = ap (λ later. is_same_jump one jump || later) (one_of_both jump first second) ∙ sym (or_turn (is_same_jump one jump) (is_one_of jump first) (is_one_of jump second))

-- a jump to the label is none of the others
same_to : (label : ℕ) (one jump : Jump) → is_same_jump one jump ≡ true → is_jump_to label one ≡ is_jump_to label jump
same_to label one jump e = ap (is_jump_to label) (same_jump one jump e)
  where
    same_jump : (one jump : Jump) → is_same_jump one jump ≡ true → one ≡ jump
    same_jump (jumps.Break l) (jumps.Break k) e = ap jumps.Break (eqb-true l k e)
    same_jump (jumps.Break l) (jumps.Continue k) e = absurd (false≢true e)
    same_jump (jumps.Continue l) (jumps.Break k) e = absurd (false≢true e)
    same_jump (jumps.Continue l) (jumps.Continue k) e = ap jumps.Continue (eqb-true l k e)

one_of_others : (label : ℕ) (jump : Jump) (list : List Jump) → is_one_of jump (others label list) ≡ (not (is_jump_to label jump) && is_one_of jump list)
one_of_others label jump [] = none (not (is_jump_to label jump))
  where
    none : (b : Bool) → false ≡ (b && false)
    none true = refl
    none false = refl
one_of_others label jump (first ∷ rest) = go (is_jump_to label first) (is_same_jump first jump) refl refl (one_of_others label jump rest)
  where
    go : (to same : Bool) → is_jump_to label first ≡ to → is_same_jump first jump ≡ same → is_one_of jump (others label rest) ≡ (not (is_jump_to label jump) && is_one_of jump rest)
        → is_one_of jump (if to then others label rest else first ∷ others label rest) ≡ (not (is_jump_to label jump) && (is_same_jump first jump || is_one_of jump rest))
    go true true t s e =
        let this : is_jump_to label jump ≡ true = sym (same_to label first jump s) ∙ t in
        e ∙ ap (λ b. not b && is_one_of jump rest) this ∙ sym (ap (λ b. not b && (is_same_jump first jump || is_one_of jump rest)) this)
    go true false t s e = e ∙ ap (λ same. not (is_jump_to label jump) && (same || is_one_of jump rest)) (sym s)
    go false true t s e =
        let this : is_jump_to label jump ≡ false = sym (same_to label first jump s) ∙ t in
        ap (λ same. same || is_one_of jump (others label rest)) s ∙ sym (ap (λ b. not b && (is_same_jump first jump || is_one_of jump rest)) this ∙ ap (λ same. same || is_one_of jump rest) s)
    go false false t s e = ap (λ same. same || is_one_of jump (others label rest)) s ∙ e ∙ ap (λ same. not (is_jump_to label jump) && (same || is_one_of jump rest)) (sym s)

-- ---- the law

module _ (around : Surroundings) where
  -- what the pass over a list adds, where its beginning can be reached
  pub record Adds (given : Stms) (before after : MadeList) : Type 0 where
    pub listed : after.list ≡ before.list ++ list_of (all_lawful around given)
    pub falls : after.falls ≡ list_completes around (all_lawful around given)
    pub jumps : (jump : Jump) → is_one_of jump after.jumps ≡ (is_one_of jump before.jumps || list_leaves around jump (all_lawful around given))
    pub lost : after.lost ≡ before.lost ++ lost around given

  -- and where it can't
  pub record Stays (given : Stms) (before after : MadeList) : Type 0 where
    pub listed : after.list ≡ before.list
    pub falls : after.falls ≡ false
    pub jumps : after.jumps ≡ before.jumps
    pub lost : after.lost ≡ before.lost ++ all_declared given

  stays_on : (given : Stms) (made : MadeList) → made.falls ≡ false → Stays given made (pass_list around None given made)
  stays_on Empty made e = record { listed = refl; falls = e; jumps = refl; lost = sym (nothing_behind made.lost) }
  stays_on (And first rest) made e =
      subst (λ (falls : Bool). Stays (And first rest) made (pass_list around None rest (if falls then with_one (pass around None None first) made else without_one (declared first) made))) (sym e)
      (let later = stays_on rest (without_one (declared first) made) e in
      record {
        listed = later.listed;
        falls = later.falls;
        jumps = later.jumps;
        lost = later.lost ∙ in_turn made.lost (listed (declared first)) (all_declared rest) ∙ ap (λ more. made.lost ++ more) (more_listed (declared first) (all_declared rest));
      })

  -- behind one statement, which was reached
  adds_one : (first : Stm) (rest : Stms) (made after : MadeList) (one : Made) → MakesLawful around None first one
      → (one.falls ≡ true → Adds rest (with_one one made) after) → (one.falls ≡ false → Stays rest (with_one one made) after) → Adds (And first rest) made after
  adds_one first rest made after one m f g = go one.falls refl
    where
      go : (falls : Bool) → one.falls ≡ falls → Adds (And first rest) made after
      go true e =
          let later = f e in
          let completing : completes around None (lawful around first) ≡ true = sym m.falls ∙ e in
          record {
            listed = later.listed ∙ in_turn made.list (one.statement ∷ []) (list_of (all_lawful around rest))
                ∙ ap (λ statement. made.list ++ statement ∷ list_of (all_lawful around rest)) m.statement
                ∙ ap (λ (b : Bool). made.list ++ lawful around first ∷ list_of (if b then all_lawful around rest else Empty)) (sym completing);
            falls = later.falls ∙ sym (ap (λ (b : Bool). b && list_completes around (if b then all_lawful around rest else Empty)) completing);
            jumps = λ jump.
                later.jumps jump ∙ ap (λ b. b || list_leaves around jump (all_lawful around rest)) (one_of_both jump made.jumps one.jumps ∙ ap (λ b. is_one_of jump made.jumps || b) (m.jumps jump))
                ∙ or_turn (is_one_of jump made.jumps) (leaves around jump (lawful around first)) (list_leaves around jump (all_lawful around rest))
                ∙ sym (ap (λ (b : Bool). is_one_of jump made.jumps || (leaves around jump (lawful around first) || (b && list_leaves around jump (if b then all_lawful around rest else Empty)))) completing);
            lost = later.lost ∙ ap (λ (b : Bool). made.lost ++ (if b then lost around rest else all_declared rest)) (sym completing);
          }
      go false e =
          let later = g e in
          let stopping : completes around None (lawful around first) ≡ false = sym m.falls ∙ e in
          record {
            listed = later.listed ∙ ap (λ statement. made.list ++ statement ∷ []) m.statement
                ∙ ap (λ (b : Bool). made.list ++ lawful around first ∷ list_of (if b then all_lawful around rest else Empty)) (sym stopping);
            falls = later.falls ∙ sym (ap (λ (b : Bool). b && list_completes around (if b then all_lawful around rest else Empty)) stopping);
            jumps = λ jump.
                ap (is_one_of jump) later.jumps ∙ one_of_both jump made.jumps one.jumps ∙ ap (λ b. is_one_of jump made.jumps || b) (m.jumps jump ∙ sym (or_false (leaves around jump (lawful around first))))
                ∙ sym (ap (λ (b : Bool). is_one_of jump made.jumps || (leaves around jump (lawful around first) || (b && list_leaves around jump (if b then all_lawful around rest else Empty)))) stopping);
            lost = later.lost ∙ ap (λ (b : Bool). made.lost ++ (if b then lost around rest else all_declared rest)) (sym stopping);
          }

  -- a list by itself
  pub back : (given : Stms) (after : MadeList) → Adds given (beginning []) after → stms_of after.list ≡ all_lawful around given
  back given after a = ap stms_of a.listed ∙ stms_back (all_lawful around given)

  -- what the pass over groups adds
  pub record AddsGroups (given : Groups) (before after : MadeGroups) : Type 0 where
    pub listed : after.groups ≡ before.groups ++ list_of_groups (lawful_groups around before.lost given)
    pub falls : after.falls ≡ groups_complete around before.falls (lawful_groups around before.lost given)
    pub jumps : (jump : Jump) → is_one_of jump after.jumps ≡ (is_one_of jump before.jumps || groups_leave around jump (lawful_groups around before.lost given))

  group_back : (more : List Declared) (body : Stms) (after : MadeList) → Adds body (beginning more) after → stms_of after.list ≡ declared_then more (all_lawful around body)
  group_back more body after a = ap stms_of (a.listed ∙ sym (then_declared more (all_lawful around body))) ∙ stms_back (declared_then more (all_lawful around body))

  adds_group : (labels : List (Option ℤ)) (body : Stms) (rest : Groups) (made after : MadeGroups) (inner : MadeList) → Adds body (beginning made.lost) inner → AddsGroups rest (with_group labels inner made) after → AddsGroups (AndGroup labels body rest) made after
  adds_group labels body rest made after inner a later =
      let losing : inner.lost ≡ lost around body = a.lost in
      let body_is : stms_of inner.list ≡ declared_then made.lost (all_lawful around body) = group_back made.lost body inner a in
      record {
        listed = later.listed ∙ in_turn made.groups ((labels, stms_of inner.list) ∷ []) (list_of_groups (lawful_groups around inner.lost rest))
            ∙ (λ i. made.groups ++ (labels, body_is i) ∷ list_of_groups (lawful_groups around (losing i) rest));
        falls = later.falls ∙ (λ i. groups_complete around ((a.falls ∙ sym (declared_completes around made.lost (all_lawful around body))) i) (lawful_groups around (losing i) rest));
        jumps = λ jump.
            later.jumps jump ∙ ap (λ b. b || groups_leave around jump (lawful_groups around inner.lost rest)) (one_of_both jump made.jumps inner.jumps)
            ∙ or_turn (is_one_of jump made.jumps) (is_one_of jump inner.jumps) (groups_leave around jump (lawful_groups around inner.lost rest))
            ∙ (λ i. is_one_of jump made.jumps || ((a.jumps jump ∙ sym (declared_leaves around jump made.lost (all_lawful around body))) i || groups_leave around jump (lawful_groups around (losing i) rest)));
      }

  -- what the pass over catch clauses adds
  pub record AddsClauses (given : Catches) (before after : MadeClauses) : Type 0 where
    pub listed : after.clauses ≡ before.clauses ++ list_of_clauses (lawful_clauses around given)
    pub falls : after.falls ≡ (before.falls || catches_complete around (lawful_clauses around given))
    pub jumps : (jump : Jump) → is_one_of jump after.jumps ≡ (is_one_of jump before.jumps || catches_leave around jump (lawful_clauses around given))

  adds_clause : (class : List ℕ) (variable : Var) (body : Stms) (rest : Catches) (made after : MadeClauses) (inner : MadeList) → Adds body (beginning []) inner → AddsClauses rest (with_clause class variable inner made) after → AddsClauses (AndCatch class variable body rest) made after
  adds_clause class variable body rest made after inner a later = record {
    listed = later.listed ∙ in_turn made.clauses ((class, variable, stms_of inner.list) ∷ []) (list_of_clauses (lawful_clauses around rest))
        ∙ ap (λ list. made.clauses ++ (class, variable, list) ∷ list_of_clauses (lawful_clauses around rest)) (back body inner a);
    falls = later.falls ∙ or_turn made.falls inner.falls (catches_complete around (lawful_clauses around rest)) ∙ ap (λ b. made.falls || (b || catches_complete around (lawful_clauses around rest))) a.falls;
    jumps = λ jump.
        later.jumps jump ∙ ap (λ b. b || catches_leave around jump (lawful_clauses around rest)) (one_of_both jump made.jumps inner.jumps)
        ∙ or_turn (is_one_of jump made.jumps) (is_one_of jump inner.jumps) (catches_leave around jump (lawful_clauses around rest))
        ∙ ap (λ b. is_one_of jump made.jumps || (b || catches_leave around jump (lawful_clauses around rest))) (a.jumps jump);
  }

  own_same : (own : Option ℕ) (inner : List Jump) {falls more : Bool} {left : Jump → Bool} → falls ≡ more → ((jump : Jump) → is_one_of jump inner ≡ left jump)
      → (falls || of_own own (λ label. is_one_of (jumps.Continue label) inner)) ≡ (more || of_own own (λ label. left (jumps.Continue label)))
  own_same None inner e f = ap (λ b. b || false) e
  own_same (Some label) inner e f = λ i. e i || f (jumps.Continue label) i

  last_jumps : (jump : Jump) (first last : List Jump) (falls : Bool) → is_one_of jump (if falls then first ++ last else last) ≡ ((is_one_of jump first && falls) || is_one_of jump last)
  last_jumps jump first last true = one_of_both jump first last ∙ ap (λ b. b || is_one_of jump last) (and_true (is_one_of jump first))
    where
      and_true : (b : Bool) → b ≡ (b && true)
      and_true true = refl
      and_true false = refl
  last_jumps jump first last false = ap (λ b. b || is_one_of jump last) (and_false (is_one_of jump first))
    where
      and_false : (b : Bool) → false ≡ (b && false)
      and_false true = refl
      and_false false = refl

  -- ---- statements

  goes : (own : Option ℕ) (statement : Stm) → lawful around statement ≡ statement → completes around own statement ≡ true → ((jump : Jump) → leaves around jump statement ≡ false) → MakesLawful around own statement (goes_on statement)
  goes own statement same falls none = record {
    statement = sym same;
    falls = sym (ap (completes around own) same ∙ falls);
    jumps = λ jump. sym (ap (leaves around jump) same ∙ none jump);
  }

  loops : (own : Option ℕ) (given made : Stm) (known : Option Bool) (inner : MadeList) (kept : Stm) → lawful around given ≡ (if is_always false known then Block Empty else kept) → made ≡ kept
      → completes around own kept ≡ not (is_always true known) → ((jump : Jump) → is_one_of jump inner.jumps ≡ leaves around jump kept) → MakesLawful around own given (looped known made inner.jumps)
  loops own given made known inner kept same is falls left = go (is_always false known) refl
    where
      go : (idle : Bool) → is_always false known ≡ idle → MakesLawful around own given (if idle then goes_on (Block Empty) else record { statement = made; falls = not (is_always true known); jumps = inner.jumps })
      go true e =
          let this : lawful around given ≡ Block Empty = same ∙ ap (λ (b : Bool). if b then Block Empty else kept) e in
          record { statement = sym this; falls = sym (ap (completes around own) this); jumps = λ jump. sym (ap (leaves around jump) this) }
      go false e =
          let this : lawful around given ≡ kept = same ∙ ap (λ (b : Bool). if b then Block Empty else kept) e in
          record { statement = is ∙ sym this; falls = sym (ap (completes around own) this ∙ falls); jumps = λ jump. left jump ∙ sym (ap (leaves around jump) this) }

  mutual
    pub pass_on : (own : Option ℕ) (statement : Stm) → MakesLawful around own statement (pass around None own statement)
    pass_on own (Block list) =
        let a = list_on list (beginning []) refl in
        record { statement = ap Block (back list (pass_list around None list (beginning [])) a); falls = a.falls; jumps = a.jumps }
    pass_on own (Labelled label statement) =
        let m = pass_on (Some label) statement in
        record {
          statement = ap (Labelled label) m.statement;
          falls = λ i. m.falls i || m.jumps (jumps.Break label) i;
          jumps = λ jump. one_of_others label jump (pass around None (Some label) statement).jumps ∙ ap (λ b. not (is_jump_to label jump) && b) (m.jumps jump);
        }
    pass_on own (Declare variable kind initial) = goes own (Declare variable kind initial) refl refl (λ jump. refl)
    pass_on own (Set variable new) = goes own (Set variable new) refl refl (λ jump. refl)
    pass_on own (SetField object name new) = goes own (SetField object name new) refl refl (λ jump. refl)
    pass_on own (SetStatic class name new) = goes own (SetStatic class name new) refl refl (λ jump. refl)
    pass_on own (SetElement array index new) = goes own (SetElement array index new) refl refl (λ jump. refl)
    pass_on own (Run call) = goes own (Run call) refl refl (λ jump. refl)
    pass_on own (If test first second) =
        let a = list_on first (beginning []) refl in
        let b = list_on second (beginning []) refl in
        record {
          statement = λ i. If test (back first (pass_list around None first (beginning [])) a i) (back second (pass_list around None second (beginning [])) b i);
          falls = λ i. a.falls i || b.falls i;
          jumps = λ jump. one_of_both jump (pass_list around None first (beginning [])).jumps (pass_list around None second (beginning [])).jumps ∙ (λ i. a.jumps jump i || b.jumps jump i);
        }
    pass_on own (While test body) =
        let a = list_on body (beginning []) refl in
        loops own (While test body) (While test (stms_of (pass_list around None body (beginning [])).list)) (constant_truth around test) (pass_list around None body (beginning [])) (While test (all_lawful around body)) refl
        (ap (While test) (back body (pass_list around None body (beginning [])) a)) refl a.jumps
    pass_on own (Switch on groups) =
        let a = groups_on groups no_groups in
        record {
          statement = ap (Switch on) (ap groups_of a.listed ∙ groups_back (lawful_groups around [] groups));
          falls = ap (λ b. not b || (pass_groups around None groups no_groups).falls) (sym (labels_kept around None [] groups)) ∙ ap (λ b. not (is_labelled None (lawful_groups around [] groups)) || b) a.falls;
          jumps = a.jumps;
        }
    pass_on own (trees.Break label) = record { statement = refl; falls = refl; jumps = λ jump. or_false (is_same_jump (jumps.Break label) jump) }
    pass_on own (trees.Continue label) = record { statement = refl; falls = refl; jumps = λ jump. or_false (is_same_jump (jumps.Continue label) jump) }
    pass_on own (Return None) = record { statement = refl; falls = refl; jumps = λ jump. refl }
    pass_on own (Return (Some value)) = record { statement = refl; falls = refl; jumps = λ jump. refl }
    pass_on own (Throw exception) = record { statement = refl; falls = refl; jumps = λ jump. refl }
    pass_on own (Rethrow variable) = record { statement = refl; falls = refl; jumps = λ jump. refl }
    pass_on own (Try body clauses) =
        let a = list_on body (beginning []) refl in
        let inner = pass_list around None body (beginning []) in
        let c = clauses_on clauses no_clauses in
        record {
          statement = λ i. Try (back body inner a i) ((ap catches_of c.listed ∙ clauses_back (lawful_clauses around clauses)) i);
          falls = λ i. a.falls i || c.falls i;
          jumps = λ jump. one_of_both jump inner.jumps (pass_clauses around None clauses no_clauses).jumps ∙ (λ i. a.jumps jump i || c.jumps jump i);
        }
    pass_on own (Synchronized monitor body) =
        let a = list_on body (beginning []) refl in
        record { statement = ap (Synchronized monitor) (back body (pass_list around None body (beginning [])) a); falls = a.falls; jumps = a.jumps }
    pass_on own (Construct this arguments) = goes own (Construct this arguments) refl refl (λ jump. refl)
    pass_on own (Do body test) =
        let a = list_on body (beginning []) refl in
        record {
          statement = ap (λ list. Do list test) (back body (pass_list around None body (beginning [])) a);
          falls = ap (λ b. b && not (is_always true (constant_truth around test))) (own_same own (pass_list around None body (beginning [])).jumps a.falls a.jumps);
          jumps = a.jumps;
        }
    pass_on own (For test variable step body) =
        let a = list_on body (beginning []) refl in
        loops own (For test variable step body) (For test variable step (stms_of (pass_list around None body (beginning [])).list)) (constant_truth around test) (pass_list around None body (beginning [])) (For test variable step (all_lawful around body)) refl
        (ap (For test variable step) (back body (pass_list around None body (beginning [])) a)) refl a.jumps
    pass_on own (Finally body last) =
        let a = list_on body (beginning []) refl in
        let b = list_on last (beginning []) refl in
        record {
          statement = λ i. Finally (back body (pass_list around None body (beginning [])) a i) (back last (pass_list around None last (beginning [])) b i);
          falls = λ i. a.falls i && b.falls i;
          jumps = λ jump. last_jumps jump (pass_list around None body (beginning [])).jumps (pass_list around None last (beginning [])).jumps (pass_list around None last (beginning [])).falls ∙ (λ i. (a.jumps jump i && b.falls i) || b.jumps jump i);
        }

    pub list_on : (given : Stms) (made : MadeList) → made.falls ≡ true → Adds given made (pass_list around None given made)
    list_on Empty made e = record { listed = sym (nothing_behind made.list); falls = e; jumps = λ jump. sym (or_false (is_one_of jump made.jumps)); lost = sym (nothing_behind made.lost) }
    list_on (And first rest) made e =
        subst (λ (falls : Bool). Adds (And first rest) made (pass_list around None rest (if falls then with_one (pass around None None first) made else without_one (declared first) made))) (sym e)
        (adds_one first rest made (pass_list around None rest (with_one (pass around None None first) made)) (pass around None None first) (pass_on None first)
        (λ falls. list_on rest (with_one (pass around None None first) made) falls) (λ stops. stays_on rest (with_one (pass around None None first) made) stops))

    groups_on : (given : Groups) (made : MadeGroups) → AddsGroups given made (pass_groups around None given made)
    groups_on NoGroups made = record { listed = sym (nothing_behind made.groups); falls = refl; jumps = λ jump. sym (or_false (is_one_of jump made.jumps)) }
    groups_on (AndGroup labels body rest) made =
        adds_group labels body rest made (pass_groups around None rest (with_group labels (pass_list around None body (beginning made.lost)) made)) (pass_list around None body (beginning made.lost))
        (list_on body (beginning made.lost) refl) (groups_on rest (with_group labels (pass_list around None body (beginning made.lost)) made))

    clauses_on : (given : Catches) (made : MadeClauses) → AddsClauses given made (pass_clauses around None given made)
    clauses_on NoCatches made = record { listed = sym (nothing_behind made.clauses); falls = sym (or_false made.falls); jumps = λ jump. sym (or_false (is_one_of jump made.jumps)) }
    clauses_on (AndCatch class variable body rest) made =
        adds_clause class variable body rest made (pass_clauses around None rest (with_clause class variable (pass_list around None body (beginning [])) made)) (pass_list around None body (beginning []))
        (list_on body (beginning []) refl) (clauses_on rest (with_clause class variable (pass_list around None body (beginning [])) made))

pub pass_makes_lawful : PassMakesLawful
pass_makes_lawful around own statement = pass_on around own statement
