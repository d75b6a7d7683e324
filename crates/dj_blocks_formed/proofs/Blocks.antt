-- The statements of a block, as they are rebuilt, are formed.
use Rattle.std.proofs.Common.{ℕ, zero, suc, ◌+◌, ◌<◌, ◌≤◌, ◌≡◌, Bool, true, false, List, [], ◌∷◌, ◌++◌, map, drop, length, Option, Some, None, refl, sym, ap, ◌∙◌, subst, arith}
use Rattle.std.specs.Prelude.{ℤ, pos, negsuc, ◌==◌, ◌&&◌, is_some, if◌then◌else◌, slice_index_or}
use borrow.Author.Tests.{eqb-true}
use Rattle.dj_names.specs.declared.header.Header.{Header}
use Rattle.dj_names.specs.Headers.{Name}
use Rattle.dj_names.specs.Types as types
use Rattle.dj_names.specs.Types.{JType, Boolean, Byte, Char, Short, Float, Double, Class, Array, StaticType, Of}
use Rattle.dj_syntax.specs.declared.variable.Var.{Var}
use Rattle.dj_syntax.specs.Trees.{Exp, Text, Truth, This, Variable, ClassOf, Field, Static, Element, Call, StaticCall, SuperCall, New, NewArray, Cast, InstanceOf, Negative, Not, Binary, Choice, Assign, Stm, Set, Run, Stms, Empty, And}
use Rattle.dj_syntax.specs.Trees as trees
use Rattle.dj_syntax.specs.declared.operator.Op.TheVariants as op
use Rattle.dj_instructions.specs.declared.kinds.Kind.{Kind}
use Rattle.dj_instructions.specs.declared.kinds.Kind.TheVariants as kind
use Rattle.dj_instructions.specs.Instructions.{Instruction, Instructions}
use Rattle.dj_meaning.specs.Calls.{is_assignable}
use Rattle.dj_meaning.specs.StaticTypes.{Scope, typed, type_of}
use Rattle.dj_meaning.specs.Declarations.{declared, within, behind, joined}
use Rattle.dj_meaning.specs.Statements.{Elsewhere}
use Rattle.dj_places.specs.Rules.{Holds}
use Rattle.dj_typing.specs.Sites.{Site, context_of, may_name_type}
use Rattle.dj_typing.specs.Operands.{if_typed}
use Rattle.dj_typing.specs.Expressions.{goes, is_whole_static}
use Rattle.dj_typed.specs.Statements.{Around, is_named, stm_types}
use Rattle.dj_formed.specs.Formed.{constants_of}
use Rattle.dj_bytecode.specs.Shuffles.{Form, dup_forms}
use Rattle.dj_bytecode.specs.Meanings.{Family, Strict, Moves, Loads, Stores, Counts, Leads, Returns, NotRun, meaning_of}
use Rattle.dj_bytecode.specs.Machine.{pc_of}
use Rattle.dj_rebuilding.specs.Pending.{Atom, Number, Wide, Units, Nothing, Own, Named, exp_of, Pending, Kept, Whole, Born, Again, Built, Typed, declared_type, call, static_call, super_call, birth, none as no_variable, sets, single, and_then, spill, emit, grown, with_operands}
use Rattle.dj_rebuilding.specs.Agreeing.{SameTypes, IsClear}
use Rattle.dj_rebuilding.proofs.Names.{declares-nothing, both-true}
use Rattle.dj_rebuilt.specs.Located.{WritesTo, by_store, by_count}
use Rattle.dj_rebuilt.specs.Nodes.{is_whole, as_int}
use Rattle.dj_rebuilt.specs.Locals.{as_kind, counted, setting}
use Rattle.dj_rebuilt.specs.Moving.{type_words, have_words, moved_entries, shuffled_entries}
use Rattle.dj_rebuilt.specs.Sorts.{Sort, Loading, Storing, Counting, Moving, Doubling, Dropping, Making, Calling, Throwing, Idle, Other, sort_of, drop_forms}
use Rattle.dj_rebuilt.specs.Rebuilding.{Names, renamed, Plain, Ways, takes_ints, takes_kind, goes_as, Step, under, atom_type, static_of, load, set, is_ref, nothing_there, set_null, set_kept, store, counts_on, count, move, double, dropped, drop_words, drop_whole, drop_top, ended_birth, born_built, or_else, strictly_built, strict_step, advance, first_spilled, then_spilled, behind_spilled, advance_one, continues, rebuilt}
use Rattle.dj_blocks_formed.specs.Ruled.{IsRuled, AreRuled, AreRuledOperands, IsFull, IsRuledStm, AreRuledStms, IsEnded}
use Rattle.dj_blocks_formed.specs.Ways.{AreRuledNames, IsRuledAt, IsRuledTarget, WaysRule, AllStand}
use Rattle.dj_blocks_formed.proofs.Reading.{full-reads, plain-reads, plain-full, set-full}
use Rattle.dj_blocks_formed.proofs.Joined.{behind-joined, none-ruled, one-ruled, joined-ruled, joined-ended}
use Rattle.dj_blocks_formed.proofs.Later.{ruled-later}
use Rattle.dj_blocks_formed.proofs.Spilled.{declared-goes, named-whole, variable-ruled, AreSpilled, spilled-ruled}
use Rattle.dj_blocks_formed.proofs.Stored.{GoesInto, kind-goes, counted-goes, dropped-types}

-- ---- options

-- what is made where a test holds
pub made-if : {A : Type 0} (test : Bool) (one : Option A) (found : A) → (if test then one else None) ≡ Some found → (test ≡ true) × (one ≡ Some found)
made-if true one found e = (refl, e)
made-if false one found e = absurd (cc)

-- what is made of what was built
record Under (names : Names) (found : Option Built) (step : Step) : Type 0 where
  built : Built
  is : found ≡ Some built
  step_is : (built, names) ≡ step

under-is : (names : Names) (found : Option Built) (step : Step) → under names found ≡ Some step → Under names found step
under-is names None step e = absurd (cc)
under-is names (Some built) step e = record { built = built; is = refl; step_is = (let same : (built, names) ≡ step = cc in same) }

-- what comes of two steps
pub record Both {A B : Type 0} (found : Option A) (next : A → Option B) (last : B) : Type 0 where
  pub one : A
  pub is : found ≡ Some one
  pub then_is : next one ≡ Some last

pub both-are : {A B : Type 0} (found : Option A) (next : A → Option B) (last : B) → and_then found next ≡ Some last → Both found next last
both-are None next last e = absurd (cc)
both-are (Some one) next last e = record { one = one; is = refl; then_is = e }

-- ---- operands

-- the operands of an instruction, and what lies below them
record Operands (site : Site) (n : ℕ) (scope : Scope) (next : List Typed → List Pending → Option Built) (built : Built) : Type 0 where
  are : List Typed
  below : List Pending
  goes : next are below ≡ Some built
  ruled : AreRuledOperands site n scope are
  entries : AreRuled site n scope below

operands-are : (site : Site) (n count : ℕ) (scope : Scope) (before : List Typed) (stack : List Pending) (next : List Typed → List Pending → Option Built) (built : Built) → AreRuledOperands site n scope before → AreRuled site n scope stack
    → with_operands count before stack next ≡ Some built → Operands site n scope next built
operands-are site n zero scope before stack next built ruled entries e = record { are = before; below = stack; goes = e; ruled = ruled; entries = entries }
operands-are site n (suc count) scope before [] next built ruled entries e = absurd (cc)
operands-are site n (suc count) scope before (Kept type atom ∷ below) next built ruled entries e = operands-are site n count scope ((type, exp_of atom) ∷ before) below next built (entries.0, ruled) entries.1 e
operands-are site n (suc count) scope before (Whole type exp ∷ below) next built ruled entries e = operands-are site n count scope ((type, exp) ∷ before) below next built (entries.0, ruled) entries.1 e
operands-are site n (suc count) scope before (Born class ∷ below) next built ruled entries e = absurd (cc)
operands-are site n (suc count) scope before (Again ∷ below) next built ruled entries e = absurd (cc)

-- ---- entries that are moved

module _ (site : Site) (object : may_name_type site (declared_type types.Null) ≡ true) (n : ℕ) (scope : Scope) where
  place-entry : (place : ℕ) (stack ones : List Pending) → AreRuled site n scope stack → AreRuled site n scope ones → AreRuled site n scope (slice_index_or stack place (Kept types.Null Nothing) ∷ ones)
  place-entry zero [] ones h k = (record { entry = record { small = tt; typed = refl }; keeps = λ place. tt; named = object }, k)
  place-entry (suc place) [] ones h k = (record { entry = record { small = tt; typed = refl }; keeps = λ place. tt; named = object }, k)
  place-entry zero (Kept type atom ∷ below) ones h k = (h.0, k)
  place-entry zero (Whole type exp ∷ below) ones h k = (h.0, k)
  place-entry zero (Born class ∷ below) ones h k = k
  place-entry zero (Again ∷ below) ones h k = k
  place-entry (suc place) (Kept type atom ∷ below) ones h k = place-entry place below ones h.1 k
  place-entry (suc place) (Whole type exp ∷ below) ones h k = place-entry place below ones h.1 k
  place-entry (suc place) (Born class ∷ below) ones h k = place-entry place below ones h k
  place-entry (suc place) (Again ∷ below) ones h k = place-entry place below ones h k

  places-entries : (places : List ℕ) (stack ones : List Pending) → AreRuled site n scope stack → AreRuled site n scope ones → AreRuled site n scope (map (λ place. slice_index_or stack place (Kept types.Null Nothing)) places ++ ones)
  places-entries [] stack ones h k = k
  places-entries (place ∷ places) stack ones h k = place-entry place stack _ h (places-entries places stack ones h k)

  drop-entries : (count : ℕ) (stack : List Pending) → AreRuled site n scope stack → AreRuled site n scope (drop count stack)
  drop-entries zero stack h = h
  drop-entries (suc count) [] h = tt
  drop-entries (suc count) (Kept type atom ∷ below) h = drop-entries count below h.1
  drop-entries (suc count) (Whole type exp ∷ below) h = drop-entries count below h.1
  drop-entries (suc count) (Born class ∷ below) h = drop-entries count below h
  drop-entries (suc count) (Again ∷ below) h = drop-entries count below h

  moved-entries : (forms : List Form) (stack into : List Pending) → AreRuled site n scope stack → shuffled_entries forms stack ≡ Some into → AreRuled site n scope into
  moved-entries [] stack into h e = absurd (cc)
  moved-entries (form ∷ forms) stack into h e = go (have_words form.takes stack) e (moved-entries forms stack into h)
    where
      go : (test : Bool) → (if test then Some (moved_entries form stack) else shuffled_entries forms stack) ≡ Some into → (shuffled_entries forms stack ≡ Some into → AreRuled site n scope into) → AreRuled site n scope into
      go true f again = let is : moved_entries form stack ≡ into = cc in subst (AreRuled site n scope) is (places-entries form.gives stack (drop (length form.takes) stack) h (drop-entries (length form.takes) stack h))
      go false f again = again f

-- ---- each instruction

module _ (around : Around) (headers : List Header) (class : Name) (base : ℕ) (first_scope : Scope) (starts : ℕ → Bool) (ways : Ways) (Stands : ℕ → Instruction → Type 0) (rule : WaysRule around headers class base first_scope starts ways Stands) where
  abbrev Ruled : ℕ → Scope → List Pending → Type 0
  Ruled n scope stack = AreRuled around.site n scope stack

  abbrev At : ℕ → Scope → List Pending → Type 0
  At n scope stack = IsRuledAt around.site base first_scope n scope stack

  -- a step keeps the rules
  record IsRuledStep (scope : Scope) (step : Step) : Type 0 where
    lawful : AreRuledNames around.site base first_scope step.1
    ready : At step.0.next (behind step.0.emitted scope) step.0.stack
    emitted : AreRuledStms around scope step.0.emitted

  steps-grown : (names : Names) → AreRuledNames around.site base first_scope names → (n : ℕ) (scope : Scope) (stack new : List Pending) → At n scope stack → Ruled n scope new → (step : Step) → under names (grown n new) ≡ Some step → IsRuledStep scope step
  steps-grown names lawful n scope stack new ready entries step e =
      let is : (record { emitted = Empty; stack = new; next = n }, names) ≡ step = cc in
      subst (IsRuledStep scope) is (record { lawful = lawful; ready = record { low = ready.low; clear = ready.clear; same = ready.same; entries = entries }; emitted = none-ruled around scope })

  -- behind what was spilled
  spilled-at : (n : ℕ) (scope : Scope) (stack : List Pending) → At n scope stack → (so_far : Built) → AreSpilled around n scope so_far → At so_far.next (behind so_far.emitted scope) so_far.stack
  spilled-at n scope stack ready so_far spilled = record {
    low = omega (arith, ready.low, spilled.later);
    clear = spilled.clear;
    same = λ variable small. ready.same variable small ∙ spilled.same variable (omega (arith, small, ready.low));
    entries = spilled.entries;
  }

  -- a statement behind what was spilled
  steps-emitted : (names : Names) → AreRuledNames around.site base first_scope names → (assigned : Var → Bool) (n : ℕ) (scope : Scope) (stack below : List Pending) → At n scope stack → Ruled n scope below → (statement : Stm) → declared statement ≡ None
      → ((k : ℕ) (inner : Scope) → n ≤ k → SameTypes n scope inner → IsRuledStm around inner statement) → (step : Step) → under names (emit assigned n below statement) ≡ Some step → IsRuledStep scope step
  steps-emitted names lawful assigned n scope stack below ready entries statement plain ruled step e =
      let u = under-is names (emit assigned n below statement) step e in
      let b = both-are (spill assigned n below) (λ so_far. Some (record { emitted = joined so_far.emitted (single statement); stack = so_far.stack; next = so_far.next })) u.built u.is in
      let so_far = b.one in
      let spilled = spilled-ruled around assigned n scope ready.clear below entries so_far b.is in
      let made : record { emitted = joined so_far.emitted (single statement); stack = so_far.stack; next = so_far.next } ≡ u.built = (let some = b.then_is in cc) in
      let later : Scope = behind so_far.emitted scope in
      let ends : behind (joined so_far.emitted (single statement)) scope ≡ later = behind-joined so_far.emitted (single statement) scope ∙ ap (λ found. within found later) plain in
      subst (IsRuledStep scope) (ap (λ built. (built, names)) made ∙ u.step_is) (record {
        lawful = lawful;
        ready = record {
          low = omega (arith, ready.low, spilled.later);
          clear = subst (IsClear so_far.next) (sym ends) spilled.clear;
          same = λ variable small. ready.same variable small ∙ spilled.same variable (omega (arith, small, ready.low)) ∙ ap (λ (found : Scope). found variable) (sym ends);
          entries = subst (λ found. AreRuled around.site so_far.next found so_far.stack) (sym ends) spilled.entries;
        };
        emitted = joined-ruled around scope so_far.emitted (single statement) spilled.emitted (one-ruled around later statement (ruled so_far.next later spilled.later spilled.same));
      })

  -- ---- locals

  steps-load : (names : Names) → AreRuledNames around.site base first_scope names → (n : ℕ) (scope : Scope) (stack : List Pending) → At n scope stack → (of : Kind) (slot : ℕ) (step : Step) (found : Option (JType × Atom)) → names slot ≡ found → load of names n stack found ≡ Some step → IsRuledStep scope step
  steps-load names lawful n scope stack ready of slot step None named e = absurd (cc)
  steps-load names lawful n scope stack ready of slot step (Some found) named e =
      let m = made-if (takes_kind of found.0) (under names (grown n (Kept (static_of found) found.1 ∷ stack))) step e in
      steps-grown names lawful n scope stack (Kept (static_of found) found.1 ∷ stack) ready (ruled-later around.site base n first_scope scope (static_of found) (exp_of found.1) ready.low ready.same (lawful slot found.0 found.1 named), ready.entries) step m.1

  -- the names behind a store
  renamed-ruled : (names : Names) → AreRuledNames around.site base first_scope names → (slot : ℕ) (type : JType) (atom : Atom) → IsRuled around.site base first_scope (atom_type type atom) (exp_of atom) → AreRuledNames around.site base first_scope (renamed slot (type, atom) names)
  renamed-ruled names lawful slot type atom is other of found e = by (other == slot) e
    where
      by : (test : Bool) → (if test then Some (type, atom) else names other) ≡ Some (of, found) → IsRuled around.site base first_scope (atom_type of found) (exp_of found)
      by true f =
          let same : (type, atom) ≡ (of, found) = cc in
          subst (λ (one : JType × Atom). IsRuled around.site base first_scope (static_of one) (exp_of one.1)) same is
      by false f = lawful other of found f

  named-target : (target : Var) (type : JType) → IsRuledTarget around.site base first_scope target type → IsRuled around.site base first_scope (Of type) (exp_of (Named target))
  named-target target type is = variable-ruled around.site base first_scope target type is.old is.known is.named

  -- an assignment keeps the rules
  set-ruled : (inner : Scope) (target : Var) (type : JType) (new : Exp) → inner target ≡ Some type → may_name_type around.site type ≡ true → GoesInto around.site inner type new → IsRuledStm around inner (Set target new)
  set-ruled inner target type new known named into = record {
    types = λ place. (
      both-true (is_some (inner target)) (if_typed (typed (inner target)) (is_whole_static around.site.headers)) (ap is_some known) (ap (λ found. if_typed (typed found) (is_whole_static around.site.headers)) known ∙ named-whole around.site type named),
      (ap (λ found. goes around.site.headers found (inner target)) into.typed ∙ ap (goes around.site.headers (Some into.static)) known ∙ into.goes, into.keeps (place + 1)),
    );
    reads = λ set full place. full-reads set full (constants_of around.site) (place + 1) new;
    full = λ set full. set-full (constants_of around.site) target new set full;
  }

  steps-set : (names : Names) → AreRuledNames around.site base first_scope names → (n : ℕ) (scope : Scope) (stack below : List Pending) → At n scope stack → Ruled n scope below → (static : StaticType) (exp : Exp) → IsRuled around.site n scope static exp
      → (of : Kind) (slot : ℕ) (pc : ℕ) (instruction : Instruction) → Stands pc instruction → sort_of instruction ≡ Storing of slot → (step : Step) (target : Option (Var × JType)) → ways.target pc ≡ target → set ways.goes of slot names n static exp below target ≡ Some step → IsRuledStep scope step
  steps-set names lawful n scope stack below ready entries static exp is of slot pc instruction stands sort step None at_pc e = absurd (cc)
  steps-set names lawful n scope stack below ready entries static exp is of slot pc instruction stands sort step (Some target) at_pc e =
      let m = made-if (takes_kind of target.1) _ step e in
      let w = made-if (goes_as ways.goes of static target.1) _ step m.1 in
      let t = rule.targets pc instruction stands slot (subst (λ of_sort. WritesTo of_sort slot) (sym sort) by_store) target.0 target.1 at_pc in
      steps-emitted (renamed slot (target.1, Named target.0) names) (renamed-ruled names lawful slot target.1 (Named target.0) (named-target target.0 target.1 t)) (setting target.0 (as_kind of static exp)) n scope stack below ready entries (Set target.0 (as_kind of static exp)) refl
      (λ k inner less same. let there = ruled-later around.site n k scope inner static exp less same is in
      set-ruled inner target.0 target.1 (as_kind of static exp) (sym (same target.0 (omega (arith, t.old, ready.low))) ∙ sym (ready.same target.0 t.old) ∙ t.known) t.named
      (kind-goes around.site inner ways.goes rule.goes of static exp target.1 m.0 w.0 there.entry.typed there.keeps)) step w.1

  -- a store of null is none, but the slot is null behind it
  steps-null : (names : Names) → AreRuledNames around.site base first_scope names → (n : ℕ) (scope : Scope) (stack below : List Pending) → At n scope stack → Ruled n scope below → (of : Kind) (slot : ℕ) (step : Step) → set_null of slot names n below ≡ Some step → IsRuledStep scope step
  steps-null names lawful n scope stack below ready entries of slot step e =
      let m = made-if (is_ref of) (under (renamed slot nothing_there names) (grown n below)) step e in
      steps-grown (renamed slot nothing_there names) (renamed-ruled names lawful slot nothing_there.0 Nothing (record { entry = record { small = tt; typed = refl }; keeps = λ place. tt; named = rule.object })) n scope stack below ready entries step m.1

  steps-kept : (names : Names) → AreRuledNames around.site base first_scope names → (n : ℕ) (scope : Scope) (stack below : List Pending) → At n scope stack → Ruled n scope below → (type : StaticType) (atom : Atom) → IsRuled around.site n scope type (exp_of atom)
      → (of : Kind) (slot : ℕ) (pc : ℕ) (instruction : Instruction) → Stands pc instruction → sort_of instruction ≡ Storing of slot → (step : Step) → set_kept ways.goes of slot names n type atom below (ways.target pc) ≡ Some step → IsRuledStep scope step
  steps-kept names lawful n scope stack below ready entries types.Null (Number number) is of slot pc instruction stands sort step e = absurd (cc)
  steps-kept names lawful n scope stack below ready entries types.Null (Wide number) is of slot pc instruction stands sort step e = absurd (cc)
  steps-kept names lawful n scope stack below ready entries types.Null (Units units) is of slot pc instruction stands sort step e = absurd (cc)
  steps-kept names lawful n scope stack below ready entries types.Null Nothing is of slot pc instruction stands sort step e = steps-null names lawful n scope stack below ready entries of slot step e
  steps-kept names lawful n scope stack below ready entries types.Null Own is of slot pc instruction stands sort step e = absurd (cc)
  steps-kept names lawful n scope stack below ready entries types.Null (Named variable) is of slot pc instruction stands sort step e = absurd (cc)
  steps-kept names lawful n scope stack below ready entries (Of type) atom is of slot pc instruction stands sort step e =
      steps-set names lawful n scope stack below ready entries (Of type) (exp_of atom) is of slot pc instruction stands sort step (ways.target pc) refl e

  steps-store : (names : Names) → AreRuledNames around.site base first_scope names → (n : ℕ) (scope : Scope) (stack : List Pending) → At n scope stack
      → (of : Kind) (slot : ℕ) (pc : ℕ) (instruction : Instruction) → Stands pc instruction → sort_of instruction ≡ Storing of slot → (step : Step) → store ways.goes of slot names n (ways.target pc) stack ≡ Some step → IsRuledStep scope step
  steps-store names lawful n scope [] ready of slot pc instruction stands sort step e = absurd (cc)
  steps-store names lawful n scope (Kept type atom ∷ below) ready of slot pc instruction stands sort step e =
      steps-kept names lawful n scope (Kept type atom ∷ below) below ready ready.entries.1 type atom ready.entries.0 of slot pc instruction stands sort step e
  steps-store names lawful n scope (Whole type exp ∷ below) ready of slot pc instruction stands sort step e =
      steps-set names lawful n scope (Whole type exp ∷ below) below ready ready.entries.1 type exp ready.entries.0 of slot pc instruction stands sort step (ways.target pc) refl e
  steps-store names lawful n scope (Born made ∷ below) ready of slot pc instruction stands sort step e = absurd (cc)
  steps-store names lawful n scope (Again ∷ below) ready of slot pc instruction stands sort step e = absurd (cc)

  -- a type that takes ints is int
  int-type : (type : JType) → takes_ints type ≡ true → type ≡ types.Int
  int-type Boolean e = absurd (cc)
  int-type Byte e = absurd (cc)
  int-type Char e = absurd (cc)
  int-type Short e = absurd (cc)
  int-type types.Int e = refl
  int-type types.Long e = absurd (cc)
  int-type Float e = absurd (cc)
  int-type Double e = absurd (cc)
  int-type (Class name) e = absurd (cc)
  int-type (Array element) e = absurd (cc)

  int-static : (static : StaticType) → counts_on static ≡ true → static ≡ Of types.Int
  int-static types.Null e = absurd (cc)
  int-static (Of type) e = ap Of (int-type type e)

  steps-count : (names : Names) → AreRuledNames around.site base first_scope names → (n : ℕ) (scope : Scope) (stack : List Pending) → At n scope stack → (slot : ℕ) (by : ℤ) (pc : ℕ) (instruction : Instruction) → Stands pc instruction → sort_of instruction ≡ Counting slot by
      → (step : Step) (found : Option (JType × Atom)) → names slot ≡ found → (target : Option (Var × JType)) → ways.target pc ≡ target → count slot by names n stack found target ≡ Some step → IsRuledStep scope step
  steps-count names lawful n scope stack ready slot by pc instruction stands sort step None named target at_pc e = absurd (cc)
  steps-count names lawful n scope stack ready slot by pc instruction stands sort step (Some found) named None at_pc e = absurd (cc)
  steps-count names lawful n scope stack ready slot by pc instruction stands sort step (Some found) named (Some target) at_pc e =
      let m = made-if (counts_on (static_of found)) _ step e in
      let w = made-if (takes_ints target.1) _ step m.1 in
      let t = rule.targets pc instruction stands slot (subst (λ of_sort. WritesTo of_sort slot) (sym sort) by_count) target.0 target.1 at_pc in
      let one = lawful slot found.0 found.1 named in
      steps-emitted (renamed slot (target.1, Named target.0) names) (renamed-ruled names lawful slot target.1 (Named target.0) (named-target target.0 target.1 t)) (setting target.0 (counted found.1 by)) n scope stack stack ready ready.entries (Set target.0 (counted found.1 by)) refl
      (λ k inner less same.
      let there = ruled-later around.site base k first_scope inner (static_of found) (exp_of found.1) (omega (arith, less, ready.low)) (λ variable small. ready.same variable small ∙ same variable (omega (arith, small, ready.low))) one in
      set-ruled inner target.0 target.1 (counted found.1 by) (sym (same target.0 (omega (arith, t.old, ready.low))) ∙ sym (ready.same target.0 t.old) ∙ t.known) t.named
      (subst (λ type. GoesInto around.site inner type (counted found.1 by)) (sym (int-type target.1 w.0))
      (counted-goes around.site inner found.1 by (there.entry.typed ∙ ap Some (int-static (static_of found) m.0)) there.keeps))) step w.1

  -- ---- shuffles

  steps-move : (names : Names) → AreRuledNames around.site base first_scope names → (n : ℕ) (scope : Scope) (stack : List Pending) → At n scope stack → (forms : List Form) (step : Step) → under names (and_then (spill no_variable n stack) (move forms)) ≡ Some step → IsRuledStep scope step
  steps-move names lawful n scope stack ready forms step e =
      let u = under-is names (and_then (spill no_variable n stack) (move forms)) step e in
      let b = both-are (spill no_variable n stack) (move forms) u.built u.is in
      let so_far = b.one in
      let c = both-are (shuffled_entries forms so_far.stack) (λ into. Some (record { emitted = so_far.emitted; stack = into; next = so_far.next })) u.built b.then_is in
      let made : record { emitted = so_far.emitted; stack = c.one; next = so_far.next } ≡ u.built = (let some = c.then_is in cc) in
      let spilled = spilled-ruled around no_variable n scope ready.clear stack ready.entries so_far b.is in
      let there = spilled-at n scope stack ready so_far spilled in
      subst (IsRuledStep scope) (ap (λ built. (built, names)) made ∙ u.step_is) (record {
        lawful = lawful;
        ready = record { low = there.low; clear = there.clear; same = there.same; entries = moved-entries around.site rule.object so_far.next (behind so_far.emitted scope) forms so_far.stack c.one spilled.entries c.is };
        emitted = spilled.emitted;
      })

  -- ---- by operands

  -- a plain statement keeps the rules on what is read
  plain-ruled : (inner : Scope) (statement : Plain) → ((place : ℕ) → Holds (stm_types around Elsewhere inner place statement.0)) → IsRuledStm around inner statement.0
  plain-ruled inner statement types = record { types = types; reads = plain-reads (constants_of around.site) statement.0 statement.1; full = plain-full (constants_of around.site) statement.0 statement.1 }

  all-later : (n k : ℕ) (scope inner : Scope) (are : List Typed) → n ≤ k → SameTypes n scope inner → AreRuledOperands around.site n scope are → AreRuledOperands around.site k inner are
  all-later n k scope inner [] less same h = tt
  all-later n k scope inner (first ∷ rest) less same h = (ruled-later around.site n k scope inner first.0 first.1 less same h.0, all-later n k scope inner rest less same h.1)

  steps-operands : (names : Names) → AreRuledNames around.site base first_scope names → (n : ℕ) (scope : Scope) (stack : List Pending) → At n scope stack → (pc : ℕ) (instruction : Instruction) → Stands pc instruction → (built : Built) (are : List Typed) (below : List Pending)
      → AreRuledOperands around.site n scope are → Ruled n scope below
      → (constant : Option (StaticType × Atom)) → ways.constant instruction ≡ constant → (node : Option Typed) → ways.node instruction are ≡ node → (effect : Option Plain) → ways.effect instruction are ≡ effect → strictly_built n below constant node effect ≡ Some built → IsRuledStep scope (built, names)
  steps-operands names lawful n scope stack ready pc instruction stands built are below ruled entries (Some constant) c_is node n_is effect e_is e =
      steps-grown names lawful n scope stack (Kept constant.0 constant.1 ∷ below) ready (rule.constants pc instruction stands constant c_is n scope, entries) (built, names) (ap (under names) e)
  steps-operands names lawful n scope stack ready pc instruction stands built are below ruled entries None c_is (Some found) n_is effect e_is e =
      steps-grown names lawful n scope stack (Whole found.0 found.1 ∷ below) ready (rule.nodes pc instruction stands are found n_is n scope ruled, entries) (built, names) (ap (under names) e)
  steps-operands names lawful n scope stack ready pc instruction stands built are below ruled entries None c_is None n_is (Some effect) e_is e =
      steps-emitted names lawful (sets effect.1) n scope stack below ready entries effect.0 (declares-nothing effect.1)
      (λ k inner less same. plain-ruled inner effect (rule.effects pc instruction stands are effect e_is k inner (all-later n k scope inner are less same ruled))) (built, names) (ap (under names) e)
  steps-operands names lawful n scope stack ready pc instruction stands built are below ruled entries None c_is None n_is None e_is e = absurd (cc)

  steps-strict : (names : Names) → AreRuledNames around.site base first_scope names → (n : ℕ) (scope : Scope) (stack : List Pending) → At n scope stack → (pc : ℕ) (instruction : Instruction) → Stands pc instruction → (family : Family) (step : Step)
      → under names (strict_step ways instruction n stack family) ≡ Some step → IsRuledStep scope step
  steps-strict names lawful n scope stack ready pc instruction stands (Strict count operation) step e =
      let next = λ (are : List Typed) (below : List Pending). strictly_built n below (ways.constant instruction) (ways.node instruction are) (ways.effect instruction are) in
      let u = under-is names (with_operands count [] stack next) step e in
      let h = operands-are around.site n count scope [] stack next u.built tt ready.entries u.is in
      subst (IsRuledStep scope) u.step_is
      (steps-operands names lawful n scope stack ready pc instruction stands u.built h.are h.below h.ruled h.entries (ways.constant instruction) refl (ways.node instruction h.are) refl (ways.effect instruction h.are) refl h.goes)
  steps-strict names lawful n scope stack ready pc instruction stands (Moves forms) step e = absurd (cc)
  steps-strict names lawful n scope stack ready pc instruction stands (Loads of_kind slot) step e = absurd (cc)
  steps-strict names lawful n scope stack ready pc instruction stands (Stores of_kind slot) step e = absurd (cc)
  steps-strict names lawful n scope stack ready pc instruction stands (Counts slot by) step e = absurd (cc)
  steps-strict names lawful n scope stack ready pc instruction stands (Leads count choice) step e = absurd (cc)
  steps-strict names lawful n scope stack ready pc instruction stands (Returns giving) step e = absurd (cc)
  steps-strict names lawful n scope stack ready pc instruction stands NotRun step e = absurd (cc)

  -- ---- births

  steps-double : (names : Names) → AreRuledNames around.site base first_scope names → (n : ℕ) (scope : Scope) (stack : List Pending) → At n scope stack → (step : Step) → double names n stack ≡ Some step → IsRuledStep scope step
  steps-double names lawful n scope [] ready step e = steps-move names lawful n scope [] ready dup_forms step e
  steps-double names lawful n scope (Kept type atom ∷ below) ready step e = steps-move names lawful n scope (Kept type atom ∷ below) ready dup_forms step e
  steps-double names lawful n scope (Whole type exp ∷ below) ready step e = steps-move names lawful n scope (Whole type exp ∷ below) ready dup_forms step e
  steps-double names lawful n scope (Born made ∷ below) ready step e = steps-grown names lawful n scope (Born made ∷ below) (Again ∷ Born made ∷ below) ready ready.entries step e
  steps-double names lawful n scope (Again ∷ below) ready step e = steps-move names lawful n scope (Again ∷ below) ready dup_forms step e

  -- a call or `new` whose value nobody wants
  steps-dropped : (names : Names) → AreRuledNames around.site base first_scope names → (n : ℕ) (scope : Scope) (stack below : List Pending) → At n scope stack → Ruled n scope below → (type : StaticType) (exp : Exp) → IsRuled around.site n scope type exp
      → (statement : Plain) → dropped exp ≡ Some statement → (step : Step) → under names (emit (sets statement.1) n below statement.0) ≡ Some step → IsRuledStep scope step
  steps-dropped names lawful n scope stack below ready entries type exp is statement d step e =
      steps-emitted names lawful (sets statement.1) n scope stack below ready entries statement.0 (declares-nothing statement.1)
      (λ k inner less same. plain-ruled inner statement (dropped-types around inner exp statement d (ruled-later around.site n k scope inner type exp less same is).keeps)) step e

  ends-birth : (names : Names) → AreRuledNames around.site base first_scope names → (n : ℕ) (scope : Scope) (stack : List Pending) → At n scope stack → (pc : ℕ) (instruction : Instruction) → Stands pc instruction → (built : Built) (are : List Typed) (below : List Pending)
      → AreRuledOperands around.site n scope are → Ruled n scope below → born_built ways instruction n are below ≡ Some built → IsRuledStep scope (built, names)
  ends-birth names lawful n scope stack ready pc instruction stands built are [] ruled entries e = absurd (cc)
  ends-birth names lawful n scope stack ready pc instruction stands built are (Kept type atom ∷ below) ruled entries e = absurd (cc)
  ends-birth names lawful n scope stack ready pc instruction stands built are (Whole type exp ∷ below) ruled entries e = absurd (cc)
  ends-birth names lawful n scope stack ready pc instruction stands built are (Born made ∷ below) ruled entries e =
      let b = both-are (ways.birth instruction made are) (λ exp. and_then (dropped exp) (λ statement. emit (sets statement.1) n below statement.0)) built e in
      let c = both-are (dropped b.one) (λ statement. emit (sets statement.1) n below statement.0) built b.then_is in
      steps-dropped names lawful n scope stack below ready entries (Of (Class made)) b.one (rule.births pc instruction stands made are b.one b.is n scope ruled) c.one c.is (built, names) (ap (under names) c.then_is)
  ends-birth names lawful n scope stack ready pc instruction stands built are (Again ∷ []) ruled entries e = absurd (cc)
  ends-birth names lawful n scope stack ready pc instruction stands built are (Again ∷ Kept type atom ∷ below) ruled entries e = absurd (cc)
  ends-birth names lawful n scope stack ready pc instruction stands built are (Again ∷ Whole type exp ∷ below) ruled entries e = absurd (cc)
  ends-birth names lawful n scope stack ready pc instruction stands built are (Again ∷ Again ∷ below) ruled entries e = absurd (cc)
  ends-birth names lawful n scope stack ready pc instruction stands built are (Again ∷ Born made ∷ below) ruled entries e = by (ways.birth instruction made are) refl e
    where
      by : (found : Option Exp) → ways.birth instruction made are ≡ found → ended_birth n made below found ≡ Some built → IsRuledStep scope (built, names)
      by None b f = absurd (cc)
      by (Some exp) b f = steps-grown names lawful n scope stack (Whole (Of (Class made)) exp ∷ below) ready (rule.births pc instruction stands made are exp b n scope ruled, entries) (built, names) (ap (under names) f)

  steps-call : (names : Names) → AreRuledNames around.site base first_scope names → (n : ℕ) (scope : Scope) (stack : List Pending) → At n scope stack → (count : ℕ) (pc : ℕ) (instruction : Instruction) → Stands pc instruction → (step : Step) (found : Option Built)
      → with_operands count [] stack (λ are below. born_built ways instruction n are below) ≡ found → under names (or_else found (strict_step ways instruction n stack (meaning_of headers class instruction))) ≡ Some step → IsRuledStep scope step
  steps-call names lawful n scope stack ready count pc instruction stands step None born e = steps-strict names lawful n scope stack ready pc instruction stands (meaning_of headers class instruction) step e
  steps-call names lawful n scope stack ready count pc instruction stands step (Some built) born e =
      let same : (built, names) ≡ step = cc in
      let next = λ (are : List Typed) (below : List Pending). born_built ways instruction n are below in
      let h = operands-are around.site n count scope [] stack next built tt ready.entries born in
      subst (IsRuledStep scope) same (ends-birth names lawful n scope stack ready pc instruction stands built h.are h.below h.ruled h.entries h.goes)

  -- ---- what nobody wants

  steps-drop : (names : Names) → AreRuledNames around.site base first_scope names → (n : ℕ) (scope : Scope) (stack : List Pending) → At n scope stack → (two : Bool) (step : Step) → drop_top two names n stack ≡ Some step → IsRuledStep scope step
  steps-drop names lawful n scope [] ready two step e = steps-move names lawful n scope [] ready (drop_forms two) step e
  steps-drop names lawful n scope (Kept type atom ∷ below) ready two step e = steps-move names lawful n scope (Kept type atom ∷ below) ready (drop_forms two) step e
  steps-drop names lawful n scope (Whole type exp ∷ below) ready two step e = by (dropped exp) refl e
    where
      words : (test : Bool) (statement : Plain) → dropped exp ≡ Some statement
          → (if test then under names (emit (sets statement.1) n below statement.0) else under names (and_then (spill no_variable n (Whole type exp ∷ below)) (move (drop_forms two)))) ≡ Some step → IsRuledStep scope step
      words true statement d f = steps-dropped names lawful n scope (Whole type exp ∷ below) below ready ready.entries.1 type exp ready.entries.0 statement d step f
      words false statement d f = steps-move names lawful n scope (Whole type exp ∷ below) ready (drop_forms two) step f

      by : (found : Option Plain) → dropped exp ≡ found → drop_whole two names n type exp below found ≡ Some step → IsRuledStep scope step
      by None d f = steps-move names lawful n scope (Whole type exp ∷ below) ready (drop_forms two) step f
      by (Some statement) d f = words (type_words type == drop_words two) statement d f
  steps-drop names lawful n scope (Born made ∷ below) ready two step e = steps-move names lawful n scope (Born made ∷ below) ready (drop_forms two) step e
  steps-drop names lawful n scope (Again ∷ below) ready two step e = steps-move names lawful n scope (Again ∷ below) ready (drop_forms two) step e

  -- ---- each instruction

  steps-by : (names : Names) → AreRuledNames around.site base first_scope names → (n : ℕ) (scope : Scope) (stack : List Pending) → At n scope stack → (pc : ℕ) (instruction : Instruction) → Stands pc instruction → (sort : Sort) → sort_of instruction ≡ sort
      → (step : Step) → advance headers class ways names pc instruction n stack sort ≡ Some step → IsRuledStep scope step
  steps-by names lawful n scope stack ready pc instruction stands (Loading of slot) sort step e = steps-load names lawful n scope stack ready of slot step (names slot) refl e
  steps-by names lawful n scope stack ready pc instruction stands (Storing of slot) sort step e = steps-store names lawful n scope stack ready of slot pc instruction stands sort step e
  steps-by names lawful n scope stack ready pc instruction stands (Counting slot by) sort step e = steps-count names lawful n scope stack ready slot by pc instruction stands sort step (names slot) refl (ways.target pc) refl e
  steps-by names lawful n scope stack ready pc instruction stands (Moving forms) sort step e = steps-move names lawful n scope stack ready forms step e
  steps-by names lawful n scope stack ready pc instruction stands Doubling sort step e = steps-double names lawful n scope stack ready step e
  steps-by names lawful n scope stack ready pc instruction stands (Dropping two) sort step e = steps-drop names lawful n scope stack ready two step e
  steps-by names lawful n scope stack ready pc instruction stands (Making made) sort step e = steps-grown names lawful n scope stack (Born made ∷ stack) ready ready.entries step e
  steps-by names lawful n scope stack ready pc instruction stands (Calling count) sort step e =
      steps-call names lawful n scope stack ready count pc instruction stands step (with_operands count [] stack (λ are below. born_built ways instruction n are below)) refl e
  steps-by names lawful n scope stack ready pc instruction stands Throwing sort step e = absurd (cc)
  steps-by names lawful n scope stack ready pc instruction stands Idle sort step e = steps-grown names lawful n scope stack stack ready ready.entries step e
  steps-by names lawful n scope stack ready pc instruction stands Other sort step e = steps-strict names lawful n scope stack ready pc instruction stands (meaning_of headers class instruction) step e

  -- all is spilled first
  steps-first : (names : Names) → AreRuledNames around.site base first_scope names → (n : ℕ) (scope : Scope) (stack : List Pending) → At n scope stack → (pc : ℕ) (instruction : Instruction) → Stands pc instruction
      → (test : Bool) (step : Step) → first_spilled test n stack (λ from entries. advance headers class ways names pc instruction from entries (sort_of instruction)) ≡ Some step → IsRuledStep scope step
  steps-first names lawful n scope stack ready pc instruction stands false step e = steps-by names lawful n scope stack ready pc instruction stands (sort_of instruction) refl step e
  steps-first names lawful n scope stack ready pc instruction stands true step e =
      let b = both-are (spill no_variable n stack) _ step e in
      let so_far = b.one in
      let c = both-are (advance headers class ways names pc instruction so_far.next so_far.stack (sort_of instruction)) (λ found. Some (behind_spilled so_far found)) step b.then_is in
      let spilled = spilled-ruled around no_variable n scope ready.clear stack ready.entries so_far b.is in
      let later : Scope = behind so_far.emitted scope in
      let a = steps-by names lawful so_far.next later so_far.stack (spilled-at n scope stack ready so_far spilled) pc instruction stands (sort_of instruction) refl c.one c.is in
      let made : behind_spilled so_far c.one ≡ step = (let some = c.then_is in cc) in
      subst (IsRuledStep scope) made (record {
        lawful = a.lawful;
        ready = subst (λ found. At c.one.0.next found c.one.0.stack) (sym (behind-joined so_far.emitted c.one.0.emitted scope)) a.ready;
        emitted = joined-ruled around scope so_far.emitted c.one.0.emitted spilled.emitted a.emitted;
      })

  -- all is spilled then
  steps-then : (scope : Scope) (first : Step) → IsRuledStep scope first → (test : Bool) (step : Step) → then_spilled test first ≡ Some step → IsRuledStep scope step
  steps-then scope first a false step e = let same : first ≡ step = cc in subst (IsRuledStep scope) same a
  steps-then scope first a true step e =
      let b = both-are (spill no_variable first.0.next first.0.stack) (λ so_far. Some (record { emitted = joined first.0.emitted so_far.emitted; stack = so_far.stack; next = so_far.next }, first.1)) step e in
      let so_far = b.one in
      let later : Scope = behind first.0.emitted scope in
      let spilled = spilled-ruled around no_variable first.0.next later a.ready.clear first.0.stack a.ready.entries so_far b.is in
      let made : (record { emitted = joined first.0.emitted so_far.emitted; stack = so_far.stack; next = so_far.next }, first.1) ≡ step = (let some = b.then_is in cc) in
      subst (IsRuledStep scope) made (record {
        lawful = a.lawful;
        ready = subst (λ found. At so_far.next found so_far.stack) (sym (behind-joined first.0.emitted so_far.emitted scope)) (spilled-at first.0.next later first.0.stack a.ready so_far spilled);
        emitted = joined-ruled around scope first.0.emitted so_far.emitted a.emitted spilled.emitted;
      })

  steps-one : (names : Names) → AreRuledNames around.site base first_scope names → (n : ℕ) (scope : Scope) (stack : List Pending) → At n scope stack → (pc : ℕ) (instruction : Instruction) → Stands pc instruction
      → (step : Step) → advance_one headers class ways names pc instruction n stack ≡ Some step → IsRuledStep scope step
  steps-one names lawful n scope stack ready pc instruction stands step e =
      let b = both-are (first_spilled (ways.before instruction stack) n stack (λ from entries. advance headers class ways names pc instruction from entries (sort_of instruction))) (λ found. then_spilled (ways.after found.0.stack) found) step e in
      steps-then scope b.one (steps-first names lawful n scope stack ready pc instruction stands (ways.before instruction stack) b.one b.is) (ways.after b.one.0.stack) step b.then_is

  -- ---- the block

  pub block-ruled : (code_left : Instructions) → AllStand Stands code_left → (names : Names) → AreRuledNames around.site base first_scope names → (n : ℕ) (scope : Scope) (stack : List Pending) → At n scope stack → (statements : Stms)
      → rebuilt headers class ways starts names n stack code_left ≡ Some statements → IsEnded around scope statements
  block-ruled [] stand names lawful n scope stack ready statements e = absurd (cc)
  block-ruled (first ∷ rest) stand names lawful n scope stack ready statements e =
      one (continues (sort_of first.1) (meaning_of headers class first.1)) refl e (λ names' lawful' n' scope' stack' ready' more is. block-ruled rest stand.1 names' lawful' n' scope' stack' ready' more is)
    where
      Further : Type 0
      Further = (names : Names) → AreRuledNames around.site base first_scope names → (n : ℕ) (scope : Scope) (stack : List Pending) → At n scope stack → (more : Stms) → rebuilt headers class ways starts names n stack rest ≡ Some more → IsEnded around scope more

      behind_one : Further → (step : Step) → IsRuledStep scope step → (test : Bool) → starts (pc_of rest) ≡ test → (more : Stms)
          → (if test then ways.fall step.1 step.0.next step.0.stack rest else rebuilt headers class ways starts step.1 step.0.next step.0.stack rest) ≡ Some more → IsEnded around (behind step.0.emitted scope) more
      behind_one further step a true at_start more f = rule.falls step.1 a.lawful step.0.next (behind step.0.emitted scope) step.0.stack a.ready rest at_start more f
      behind_one further step a false at_start more f = further step.1 a.lawful step.0.next (behind step.0.emitted scope) step.0.stack a.ready more f

      one : (test : Bool) → continues (sort_of first.1) (meaning_of headers class first.1) ≡ test
          → (if test then and_then (advance_one headers class ways names first.0 first.1 n stack) (λ step.
          and_then (if starts (pc_of rest) then ways.fall step.1 step.0.next step.0.stack rest else rebuilt headers class ways starts step.1 step.0.next step.0.stack rest) (λ more. Some (joined step.0.emitted more)))
          else ways.leave names n stack (first ∷ rest)) ≡ Some statements
          → Further → IsEnded around scope statements
      one true on f further =
          let b = both-are (advance_one headers class ways names first.0 first.1 n stack) _ statements f in
          let c = both-are (if starts (pc_of rest) then ways.fall b.one.1 b.one.0.next b.one.0.stack rest else rebuilt headers class ways starts b.one.1 b.one.0.next b.one.0.stack rest) (λ more. Some (joined b.one.0.emitted more)) statements b.then_is in
          let a = steps-one names lawful n scope stack ready first.0 first.1 stand.0 b.one b.is in
          let same : joined b.one.0.emitted c.one ≡ statements = (let some = c.then_is in cc) in
          subst (IsEnded around scope) same (joined-ended around scope b.one.0.emitted c.one a.emitted (behind_one further b.one a (starts (pc_of rest)) refl c.one c.is))
      one false on f further = rule.leaves names lawful n scope stack ready first.0 first.1 rest stand.0 on statements f
