-- A block's statements declare few fresh variables.
use Rattle.std.proofs.Common.{ℕ, ◌+◌, ◌*◌, ◌≡◌, ◌<◌, ◌≤◌, Bool, true, false, List, [], ◌∷◌, drop, length, Option, Some, None, refl, subst, arith}
use Rattle.std.specs.Prelude.{ℤ, pos, negsuc, ◌==◌, if◌then◌else◌}
use Rattle.dj_names.specs.declared.header.Header.{Header}
use Rattle.dj_names.specs.Headers.{Name}
use Rattle.dj_names.specs.Types as types
use Rattle.dj_names.specs.Types.{JType, Boolean, Byte, Char, Short, Float, Double, Class, Array, StaticType, Of}
use Rattle.dj_syntax.specs.declared.variable.Var.{Var}
use Rattle.dj_syntax.specs.Trees.{Exp, Text, Truth, This, Variable, ClassOf, Field, Static, Element, Call, StaticCall, SuperCall, New, NewArray, Cast, InstanceOf, Negative, Not, Binary, Choice, Assign, Stm, Stms, Empty, Set}
use Rattle.dj_syntax.specs.Trees as trees
use Rattle.dj_instructions.specs.declared.kinds.Kind.{Kind}
use Rattle.dj_instructions.specs.declared.kinds.Kind.TheVariants as kind
use Rattle.dj_instructions.specs.Instructions.{Instruction, Instructions}
use Rattle.dj_instructions.specs.Instructions as op
use Rattle.dj_bytecode.specs.Shuffles.{Form, dup_forms}
use Rattle.dj_bytecode.specs.Meanings.{Family, Strict, Moves, Loads, Stores, Counts, Leads, Returns, NotRun, meaning_of}
use Rattle.dj_bytecode.specs.Machine.{pc_of}
use Rattle.dj_meaning.specs.Declarations.{joined}
use Rattle.dj_meaning.specs.StaticTypes.{is_same_variable}
use Rattle.dj_rebuilding.specs.Pending.{Atom, Number, Wide, Units, Nothing, Own, Named, exp_of, Pending, Kept, Whole, Born, Again, Built, Typed, assigns, sets, call, static_call, super_call, birth, and_then, spill, emit, grown, none, with_operands}
use Rattle.dj_rebuilding.proofs.Names.{apart, or-false}
use Rattle.dj_rebuilt.specs.Nodes.{as_int, int_of_type}
use Rattle.dj_rebuilt.specs.Locals.{as_kind, counted, setting}
use Rattle.dj_rebuilt.specs.Moving.{type_words, have_words, moved_entries, shuffled_entries}
use Rattle.dj_rebuilt.specs.Sorts.{Sort, Loading, Storing, Counting, Moving, Doubling, Dropping, Making, Calling, Throwing, Idle, Other, sort_of, drop_forms}
use Rattle.dj_rebuilt.specs.Rebuilding.{Names, renamed, Plain, Ways, takes_ints, takes_kind, goes_as, Step, under, static_of, load, set, set_kept, set_null, nothing_there, store, counts_on, count, move, strictly_built, strict_step, moved_step, double, dropped, drop_words, drop_whole, drop_top, ended_birth, born_again, born_built, or_else, advance, behind_spilled, first_spilled, then_spilled, advance_one, continues, rebuilt}
use Rattle.dj_rebuilt.proofs.Rebuilt.{made-if, under-is, both-are}
use Rattle.dj_exits.specs.Numbers.{EachDeclaredIn, IsBetween, AssignsNothing, AssignNothing, AreCalm, loose, KeepNumbers}
use Rattle.dj_exits.proofs.Declared.{declared-joined, plain-declares}
use Rattle.dj_exits.proofs.Spending.{atom-still, loose-one, IsLow, Spends, declared-wider, spill-spends, emit-spends, grown-spends, spends-more, spends-then, taken-is, places-loose, drop-loose, places-calm, drop-calm, loose-length}

-- ---- expressions of instructions on locals

int-still : (type : JType) (exp : Exp) → AssignsNothing exp → AssignsNothing (int_of_type type exp)
int-still Boolean exp h = λ variable. or-false (assigns exp variable) _ (h variable) refl
int-still Byte exp h = h
int-still Char exp h = h
int-still Short exp h = h
int-still types.Int exp h = h
int-still types.Long exp h = h
int-still Float exp h = h
int-still Double exp h = h
int-still (Class name) exp h = h
int-still (Array element) exp h = h

as-int-still : (static : StaticType) (exp : Exp) → AssignsNothing exp → AssignsNothing (as_int static exp)
as-int-still types.Null exp h = h
as-int-still (Of type) exp h = int-still type exp h

kind-still : (of : Kind) (static : StaticType) (exp : Exp) → AssignsNothing exp → AssignsNothing (as_kind of static exp)
kind-still kind.Int static exp h = as-int-still static exp h
kind-still kind.Long static exp h = h
kind-still kind.Float static exp h = h
kind-still kind.Double static exp h = h
kind-still kind.Ref static exp h = h

counted-still : (atom : Atom) (by : ℤ) → AssignsNothing (counted atom by)
counted-still atom (pos by) variable = or-false (assigns (exp_of atom) variable) _ (atom-still atom variable) refl
counted-still atom (negsuc by) variable = or-false (assigns (exp_of atom) variable) _ (atom-still atom variable) refl

module _ (base : ℕ) where
  setting-low : (target : Var) (exp : Exp) → target.number < base → AssignsNothing exp → IsLow base (setting target exp)
  setting-low target exp small h variable less = or-false (is_same_variable variable target) (assigns exp variable) (apart variable target (omega (arith, small, less))) (h variable)

  none-low : IsLow base none
  none-low variable less = refl

  abbrev Spent : ℕ → List Pending → Option Step → Type 0
  Spent n stack found = (step : Step) → found ≡ Some step → Spends base n stack 6 step.0

  -- what was built, under names
  under-spent : (n : ℕ) (stack : List Pending) (names : Names) (found : Option Built) → ((built : Built) → found ≡ Some built → Spends base n stack 6 built) → Spent n stack (under names found)
  under-spent n stack names found h step e =
      let u = under-is names found step e in
      subst (λ (s : Step). Spends base n stack 6 s.0) u.step_is (h u.built u.is)

  grown-spent : (n : ℕ) (stack new : List Pending) → loose base new ≤ loose base stack + 6 → AreCalm new → (built : Built) → grown n new ≡ Some built → Spends base n stack 6 built
  grown-spent n stack new less calm built e = let same : record { emitted = Empty; stack = new; next = n } ≡ built = cc in subst (Spends base n stack 6) same (grown-spends base n stack new 6 less calm)

  less-spent : (n : ℕ) (stack below : List Pending) (built : Built) → Spends base n below 0 built → loose base below ≤ loose base stack + 6 → Spends base n stack 6 built
  less-spent n stack below built s less = spends-more base n stack below 0 6 built s (omega (arith, less))

  -- ---- locals

  load-spent : (of : Kind) (names : Names) (n : ℕ) (stack : List Pending) → AreCalm stack → (found : Option (JType × Atom)) → Spent n stack (load of names n stack found)
  load-spent of names n stack calm None step e = absurd (cc)
  load-spent of names n stack calm (Some found) step e =
      let m = made-if (takes_kind of found.0) _ step e in
      let one = loose-one base found.1 in
      under-spent n stack names (grown n (Kept (static_of found) found.1 ∷ stack)) (grown-spent n stack (Kept (static_of found) found.1 ∷ stack) (omega (arith, one)) calm) step m.1

  set-spent : (goes : StaticType → JType → Bool) (of : Kind) (slot : ℕ) (names : Names) (n : ℕ) → base ≤ n → (static : StaticType) (exp : Exp) → AssignsNothing exp → (stack below : List Pending) → AreCalm below → loose base below ≤ loose base stack + 6
      → (found : Option (Var × JType)) → ((target : Var × JType) → found ≡ Some target → target.0.number < base) → Spent n stack (set goes of slot names n static exp below found)
  set-spent goes of slot names n less static exp still stack below calm fewer None small step e = absurd (cc)
  set-spent goes of slot names n less static exp still stack below calm fewer (Some target) small step e =
      let m = made-if (takes_kind of target.1) _ step e in
      let w = made-if (goes_as goes of static target.1) _ step m.1 in
      under-spent n stack (renamed slot (target.1, Named target.0) names) (emit (setting target.0 (as_kind of static exp)) n below (Set target.0 (as_kind of static exp)))
      (λ built is. less-spent n stack below built (emit-spends base (setting target.0 (as_kind of static exp)) (setting-low target.0 (as_kind of static exp) (small target refl) (kind-still of static exp still)) n less below calm (Set target.0 (as_kind of static exp)) (λ P. tt) built is) fewer)
      step w.1

  null-spent : (of : Kind) (slot : ℕ) (names : Names) (n : ℕ) (stack below : List Pending) → AreCalm below → loose base below ≤ loose base stack + 6 → Spent n stack (set_null of slot names n below)
  null-spent kind.Int slot names n stack below calm fewer step e = absurd (cc)
  null-spent kind.Long slot names n stack below calm fewer step e = absurd (cc)
  null-spent kind.Float slot names n stack below calm fewer step e = absurd (cc)
  null-spent kind.Double slot names n stack below calm fewer step e = absurd (cc)
  null-spent kind.Ref slot names n stack below calm fewer step e = under-spent n stack (renamed slot nothing_there names) (grown n below) (grown-spent n stack below fewer calm) step e

  kept-spent : (goes : StaticType → JType → Bool) (of : Kind) (slot : ℕ) (names : Names) (n : ℕ) → base ≤ n → (type : StaticType) (atom : Atom) (stack below : List Pending) → AreCalm below → loose base below ≤ loose base stack + 6
      → (found : Option (Var × JType)) → ((target : Var × JType) → found ≡ Some target → target.0.number < base) → Spent n stack (set_kept goes of slot names n type atom below found)
  kept-spent goes of slot names n less (Of type) atom stack below calm fewer found small step e = set-spent goes of slot names n less (Of type) (exp_of atom) (atom-still atom) stack below calm fewer found small step e
  kept-spent goes of slot names n less types.Null Nothing stack below calm fewer found small step e = null-spent of slot names n stack below calm fewer step e
  kept-spent goes of slot names n less types.Null (Number number) stack below calm fewer found small step e = absurd (cc)
  kept-spent goes of slot names n less types.Null (Wide number) stack below calm fewer found small step e = absurd (cc)
  kept-spent goes of slot names n less types.Null (Units units) stack below calm fewer found small step e = absurd (cc)
  kept-spent goes of slot names n less types.Null Own stack below calm fewer found small step e = absurd (cc)
  kept-spent goes of slot names n less types.Null (Named variable) stack below calm fewer found small step e = absurd (cc)

  store-spent : (goes : StaticType → JType → Bool) (of : Kind) (slot : ℕ) (names : Names) (n : ℕ) → base ≤ n → (stack : List Pending) → AreCalm stack → (found : Option (Var × JType)) → ((target : Var × JType) → found ≡ Some target → target.0.number < base)
      → Spent n stack (store goes of slot names n found stack)
  store-spent goes of slot names n less [] calm found small step e = absurd (cc)
  store-spent goes of slot names n less (Kept type atom ∷ below) calm found small step e = kept-spent goes of slot names n less type atom (Kept type atom ∷ below) below calm (omega arith) found small step e
  store-spent goes of slot names n less (Whole type exp ∷ below) calm found small step e = set-spent goes of slot names n less type exp calm.0 (Whole type exp ∷ below) below calm.1 (omega arith) found small step e
  store-spent goes of slot names n less (Born class ∷ below) calm found small step e = absurd (cc)
  store-spent goes of slot names n less (Again ∷ below) calm found small step e = absurd (cc)

  count-spent : (slot : ℕ) (by : ℤ) (names : Names) (n : ℕ) → base ≤ n → (stack : List Pending) → AreCalm stack → (found : Option (JType × Atom)) (target : Option (Var × JType)) → ((one : Var × JType) → target ≡ Some one → one.0.number < base) → Spent n stack (count slot by names n stack found target)
  count-spent slot by names n less stack calm None target small step e = absurd (cc)
  count-spent slot by names n less stack calm (Some found) None small step e = absurd (cc)
  count-spent slot by names n less stack calm (Some found) (Some target) small step e =
      let m = made-if (counts_on (static_of found)) _ step e in
      let w = made-if (takes_ints target.1) _ step m.1 in
      under-spent n stack (renamed slot (target.1, Named target.0) names) (emit (setting target.0 (counted found.1 by)) n stack (Set target.0 (counted found.1 by)))
      (λ built is. less-spent n stack stack built (emit-spends base (setting target.0 (counted found.1 by)) (setting-low target.0 (counted found.1 by) (small target refl) (counted-still found.1 by)) n less stack calm (Set target.0 (counted found.1 by)) (λ P. tt) built is) (omega arith))
      step w.1

  -- ---- shuffles

  -- each form puts back at most six
  abbrev AreShort : List Form → Type 0
  AreShort [] = Unit {0}
  AreShort (form ∷ forms) = (length form.gives ≤ 6) × AreShort forms

  shuffled-spent : (forms : List Form) → AreShort forms → (stack into : List Pending) → AreCalm stack → shuffled_entries forms stack ≡ Some into → (loose base into ≤ loose base stack + 6) × AreCalm into
  shuffled-spent [] short stack into calm e = absurd (cc)
  shuffled-spent (form ∷ forms) short stack into calm e = by (have_words form.takes stack) e (shuffled-spent forms short.1 stack into calm)
    where
      by : (test : Bool) → (if test then Some (moved_entries form stack) else shuffled_entries forms stack) ≡ Some into → (shuffled_entries forms stack ≡ Some into → (loose base into ≤ loose base stack + 6) × AreCalm into) → (loose base into ≤ loose base stack + 6) × AreCalm into
      by true f again =
          let is : moved_entries form stack ≡ into = cc in
          let places = places-loose base form.gives stack (drop (length form.takes) stack) in
          let dropped = drop-loose base (length form.takes) stack in
          let few = short.0 in
          subst (λ list. (loose base list ≤ loose base stack + 6) × AreCalm list) is (omega (arith, places, dropped, few), places-calm base form.gives stack (drop (length form.takes) stack) calm (drop-calm base (length form.takes) stack calm))
      by false f again = again f

  moved-spent : (names : Names) (n : ℕ) → base ≤ n → (stack : List Pending) → AreCalm stack → (forms : List Form) → AreShort forms → Spent n stack (moved_step names n stack forms)
  moved-spent names n less stack calm forms short step e =
      under-spent n stack names (and_then (spill none n stack) (move forms)) (λ built is.
      let b = both-are (spill none n stack) (move forms) built is in
      let c = both-are (shuffled_entries forms b.one.stack) (λ into. Some (record { emitted = b.one.emitted; stack = into; next = b.one.next })) built b.then_is in
      let s = spill-spends base none none-low n less stack calm b.one b.is in
      let m = shuffled-spent forms short b.one.stack c.one s.calm c.is in
      let same : record { emitted = b.one.emitted; stack = c.one; next = b.one.next } ≡ built = (let some = c.then_is in cc) in
      let spent = s.spent in
      let more = m.0 in
      subst (Spends base n stack 6) same (record { low = s.low; spent = omega (arith, spent, more); declares = s.declares; calm = m.1 })) step e

  dup-short : AreShort dup_forms
  dup-short = (omega arith, tt)

  drop-short : (two : Bool) → AreShort (drop_forms two)
  drop-short false = (omega arith, tt)
  drop-short true = (omega arith, (omega arith, tt))

  double-spent : (names : Names) (n : ℕ) → base ≤ n → (stack : List Pending) → AreCalm stack → Spent n stack (double names n stack)
  double-spent names n less [] calm step e = moved-spent names n less [] calm dup_forms dup-short step e
  double-spent names n less (Kept type atom ∷ below) calm step e = moved-spent names n less (Kept type atom ∷ below) calm dup_forms dup-short step e
  double-spent names n less (Whole type exp ∷ below) calm step e = moved-spent names n less (Whole type exp ∷ below) calm dup_forms dup-short step e
  double-spent names n less (Born class ∷ below) calm step e = under-spent n (Born class ∷ below) names (grown n (Again ∷ Born class ∷ below)) (grown-spent n (Born class ∷ below) (Again ∷ Born class ∷ below) (omega arith) calm) step e
  double-spent names n less (Again ∷ below) calm step e = moved-spent names n less (Again ∷ below) calm dup_forms dup-short step e

  -- what a dropped call assigns
  abbrev Still : Plain → Type 0
  Still statement = (variable : Var) → sets statement.1 variable ≡ false

  dropped-still : (exp : Exp) (statement : Plain) → dropped exp ≡ Some statement → AssignsNothing exp → Still statement
  dropped-still (trees.Int number) statement e still = absurd (cc)
  dropped-still (trees.Long number) statement e still = absurd (cc)
  dropped-still (Text units) statement e still = absurd (cc)
  dropped-still (Truth known) statement e still = absurd (cc)
  dropped-still trees.Null statement e still = absurd (cc)
  dropped-still This statement e still = absurd (cc)
  dropped-still (Variable variable) statement e still = absurd (cc)
  dropped-still (ClassOf kind) statement e still = absurd (cc)
  dropped-still (Field object name) statement e still = absurd (cc)
  dropped-still (Static class name) statement e still = absurd (cc)
  dropped-still (Element array index) statement e still = absurd (cc)
  dropped-still (NewArray kind sizes more) statement e still = absurd (cc)
  dropped-still (Cast kind operand) statement e still = absurd (cc)
  dropped-still (InstanceOf operand kind) statement e still = absurd (cc)
  dropped-still (Negative operand) statement e still = absurd (cc)
  dropped-still (Not operand) statement e still = absurd (cc)
  dropped-still (Binary operator first second) statement e still = absurd (cc)
  dropped-still (Choice test first second) statement e still = absurd (cc)
  dropped-still (Assign variable new) statement e still = absurd (cc)
  dropped-still (Call object name arguments) statement e still = let same : (trees.Run (Call object name arguments), call) ≡ statement = cc in subst Still same still
  dropped-still (StaticCall class name arguments) statement e still = let same : (trees.Run (StaticCall class name arguments), static_call) ≡ statement = cc in subst Still same still
  dropped-still (SuperCall above name arguments) statement e still = let same : (trees.Run (SuperCall above name arguments), super_call) ≡ statement = cc in subst Still same still
  dropped-still (New class arguments) statement e still = let same : (trees.Run (New class arguments), birth) ≡ statement = cc in subst Still same still

  still-low : (statement : Plain) → Still statement → IsLow base (sets statement.1)
  still-low statement still variable less = still variable

  -- a plain statement, behind entries that need no more
  plain-spent : (n : ℕ) → base ≤ n → (stack below : List Pending) → AreCalm below → loose base below ≤ loose base stack + 6 → (statement : Plain) → Still statement → (built : Built) → emit (sets statement.1) n below statement.0 ≡ Some built → Spends base n stack 6 built
  plain-spent n less stack below calm fewer statement still built is =
      less-spent n stack below built (emit-spends base (sets statement.1) (still-low statement still) n less below calm statement.0 (λ P. plain-declares P statement.1) built is) fewer

  whole-spent : (two : Bool) (names : Names) (n : ℕ) → base ≤ n → (type : StaticType) (exp : Exp) (below : List Pending) → AreCalm (Whole type exp ∷ below) → (found : Option Plain) → dropped exp ≡ found → Spent n (Whole type exp ∷ below) (drop_whole two names n type exp below found)
  whole-spent two names n less type exp below calm None is step e = moved-spent names n less (Whole type exp ∷ below) calm (drop_forms two) (drop-short two) step e
  whole-spent two names n less type exp below calm (Some statement) is step e = by (type_words type == drop_words two) e
    where
      by : (test : Bool) → (if test then under names (emit (sets statement.1) n below statement.0) else moved_step names n (Whole type exp ∷ below) (drop_forms two)) ≡ Some step → Spends base n (Whole type exp ∷ below) 6 step.0
      by true f = under-spent n (Whole type exp ∷ below) names (emit (sets statement.1) n below statement.0) (plain-spent n less (Whole type exp ∷ below) below calm.1 (omega arith) statement (dropped-still exp statement is calm.0)) step f
      by false f = moved-spent names n less (Whole type exp ∷ below) calm (drop_forms two) (drop-short two) step f

  drop-spent : (two : Bool) (names : Names) (n : ℕ) → base ≤ n → (stack : List Pending) → AreCalm stack → Spent n stack (drop_top two names n stack)
  drop-spent two names n less [] calm step e = moved-spent names n less [] calm (drop_forms two) (drop-short two) step e
  drop-spent two names n less (Kept type atom ∷ below) calm step e = moved-spent names n less (Kept type atom ∷ below) calm (drop_forms two) (drop-short two) step e
  drop-spent two names n less (Whole type exp ∷ below) calm step e = whole-spent two names n less type exp below calm (dropped exp) refl step e
  drop-spent two names n less (Born class ∷ below) calm step e = moved-spent names n less (Born class ∷ below) calm (drop_forms two) (drop-short two) step e
  drop-spent two names n less (Again ∷ below) calm step e = moved-spent names n less (Again ∷ below) calm (drop_forms two) (drop-short two) step e

  module _ (ways : Ways) (keep : KeepNumbers base ways) where
    -- ---- operands

    strictly-spent : (instruction : Instruction) (n : ℕ) → base ≤ n → (stack below : List Pending) → AreCalm below → loose base below ≤ loose base stack → (are : List Typed) → AssignNothing are
        → (constant : Option (StaticType × Atom)) (found : Option Typed) → ways.node instruction are ≡ found → (effect : Option Plain) → ways.effect instruction are ≡ effect → (built : Built) → strictly_built n below constant found effect ≡ Some built → Spends base n stack 6 built
    strictly-spent instruction n less stack below calm fewer are still (Some constant) found is effect is' built e =
        let one = loose-one base constant.1 in grown-spent n stack (Kept constant.0 constant.1 ∷ below) (omega (arith, one, fewer)) calm built e
    strictly-spent instruction n less stack below calm fewer are still None (Some found) is effect is' built e =
        grown-spent n stack (Whole found.0 found.1 ∷ below) (omega (arith, fewer)) (keep.nodes instruction are found is still, calm) built e
    strictly-spent instruction n less stack below calm fewer are still None None is (Some effect) is' built e =
        plain-spent n less stack below calm (omega (arith, fewer)) effect (keep.effects instruction are effect is' still) built e
    strictly-spent instruction n less stack below calm fewer are still None None is None is' built e = absurd (cc)

    strict-spent : (instruction : Instruction) (n : ℕ) → base ≤ n → (stack : List Pending) → AreCalm stack → (family : Family) (built : Built) → strict_step ways instruction n stack family ≡ Some built → Spends base n stack 6 built
    strict-spent instruction n less stack calm (Strict many operation) built e =
        let t = taken-is base many [] tt stack calm (λ are below. strictly_built n below (ways.constant instruction) (ways.node instruction are) (ways.effect instruction are)) built e in
        strictly-spent instruction n less stack t.below t.calm t.less t.are t.still (ways.constant instruction) (ways.node instruction t.are) refl (ways.effect instruction t.are) refl built t.is
    strict-spent instruction n less stack calm (Moves forms) built e = absurd (cc)
    strict-spent instruction n less stack calm (Loads of_kind slot) built e = absurd (cc)
    strict-spent instruction n less stack calm (Stores of_kind slot) built e = absurd (cc)
    strict-spent instruction n less stack calm (Counts slot amount) built e = absurd (cc)
    strict-spent instruction n less stack calm (Leads many choice) built e = absurd (cc)
    strict-spent instruction n less stack calm (Returns giving) built e = absurd (cc)
    strict-spent instruction n less stack calm NotRun built e = absurd (cc)

    -- ---- births

    ended-spent : (instruction : Instruction) (n : ℕ) (class : Name) (stack below : List Pending) → AreCalm below → loose base below ≤ loose base stack → (are : List Typed) → AssignNothing are → (found : Option Exp) → ways.birth instruction class are ≡ found
        → (built : Built) → ended_birth n class below found ≡ Some built → Spends base n stack 6 built
    ended-spent instruction n class stack below calm fewer are still None is built e = absurd (cc)
    ended-spent instruction n class stack below calm fewer are still (Some exp) is built e = grown-spent n stack (Whole (Of (Class class)) exp ∷ below) (omega (arith, fewer)) (keep.births instruction class are exp is still, calm) built e

    again-spent : (instruction : Instruction) (n : ℕ) (are : List Typed) → AssignNothing are → (stack below : List Pending) → AreCalm below → loose base below ≤ loose base stack → (built : Built) → born_again ways instruction n are below ≡ Some built → Spends base n stack 6 built
    again-spent instruction n are still stack [] calm fewer built e = absurd (cc)
    again-spent instruction n are still stack (Kept type atom ∷ below) calm fewer built e = absurd (cc)
    again-spent instruction n are still stack (Whole type exp ∷ below) calm fewer built e = absurd (cc)
    again-spent instruction n are still stack (Born class ∷ below) calm fewer built e = ended-spent instruction n class stack below calm fewer are still (ways.birth instruction class are) refl built e
    again-spent instruction n are still stack (Again ∷ below) calm fewer built e = absurd (cc)

    born-spent : (instruction : Instruction) (n : ℕ) → base ≤ n → (are : List Typed) → AssignNothing are → (stack below : List Pending) → AreCalm below → loose base below ≤ loose base stack → (built : Built) → born_built ways instruction n are below ≡ Some built → Spends base n stack 6 built
    born-spent instruction n less are still stack [] calm fewer built e = absurd (cc)
    born-spent instruction n less are still stack (Kept type atom ∷ below) calm fewer built e = absurd (cc)
    born-spent instruction n less are still stack (Whole type exp ∷ below) calm fewer built e = absurd (cc)
    born-spent instruction n less are still stack (Born class ∷ below) calm fewer built e =
        let b = both-are (ways.birth instruction class are) (λ exp. and_then (dropped exp) (λ statement. emit (sets statement.1) n below statement.0)) built e in
        let c = both-are (dropped b.one) (λ statement. emit (sets statement.1) n below statement.0) built b.then_is in
        plain-spent n less stack below calm (omega (arith, fewer)) c.one (dropped-still b.one c.one c.is (keep.births instruction class are b.one b.is still)) built c.then_is
    born-spent instruction n less are still stack (Again ∷ below) calm fewer built e = again-spent instruction n are still stack below calm fewer built e

    first-of : (n : ℕ) (stack : List Pending) (found other : Option Built) → ((built : Built) → found ≡ Some built → Spends base n stack 6 built) → ((built : Built) → other ≡ Some built → Spends base n stack 6 built) → (built : Built) → or_else found other ≡ Some built → Spends base n stack 6 built
    first-of n stack None other h k built e = k built e
    first-of n stack (Some found) other h k built e = h built e

    -- ---- one instruction

    moves-by : (forms : List Form) (found : List Form) → AreShort found → Moving found ≡ Moving forms → AreShort forms
    moves-by forms found short is = let same : found ≡ forms = cc in subst AreShort same short

    forms-short : (instruction : Instruction) (forms : List Form) → sort_of instruction ≡ Moving forms → AreShort forms
    forms-short op.DupX1 forms is = moves-by forms _ (omega arith, tt) is
    forms-short op.DupX2 forms is = moves-by forms _ (omega arith, (omega arith, tt)) is
    forms-short op.Dup2 forms is = moves-by forms _ (omega arith, (omega arith, tt)) is
    forms-short op.Dup2X1 forms is = moves-by forms _ (omega arith, (omega arith, tt)) is
    forms-short op.Dup2X2 forms is = moves-by forms _ (omega arith, (omega arith, (omega arith, (omega arith, tt)))) is
    forms-short op.Swap forms is = moves-by forms _ (omega arith, tt) is
    forms-short instruction forms is = absurd (cc)

    advance-spent : (headers : List Header) (class : Name) (names : Names) (pc : ℕ) (instruction : Instruction) (n : ℕ) → base ≤ n → (stack : List Pending) → AreCalm stack → (sort : Sort) → sort_of instruction ≡ sort → Spent n stack (advance headers class ways names pc instruction n stack sort)
    advance-spent headers class names pc instruction n less stack calm (Loading of slot) is step e = load-spent of names n stack calm (names slot) step e
    advance-spent headers class names pc instruction n less stack calm (Storing of slot) is step e = store-spent ways.goes of slot names n less stack calm (ways.target pc) (λ target at. keep.targets pc target at) step e
    advance-spent headers class names pc instruction n less stack calm (Counting slot amount) is step e = count-spent slot amount names n less stack calm (names slot) (ways.target pc) (λ target at. keep.targets pc target at) step e
    advance-spent headers class names pc instruction n less stack calm (Moving forms) is step e = moved-spent names n less stack calm forms (forms-short instruction forms is) step e
    advance-spent headers class names pc instruction n less stack calm Doubling is step e = double-spent names n less stack calm step e
    advance-spent headers class names pc instruction n less stack calm (Dropping two) is step e = drop-spent two names n less stack calm step e
    advance-spent headers class names pc instruction n less stack calm (Making made) is step e = under-spent n stack names (grown n (Born made ∷ stack)) (grown-spent n stack (Born made ∷ stack) (omega arith) calm) step e
    advance-spent headers class names pc instruction n less stack calm (Calling many) is step e =
        under-spent n stack names (or_else (with_operands many [] stack (λ are below. born_built ways instruction n are below)) (strict_step ways instruction n stack (meaning_of headers class instruction)))
        (first-of n stack (with_operands many [] stack (λ are below. born_built ways instruction n are below)) (strict_step ways instruction n stack (meaning_of headers class instruction))
        (λ built at. let t = taken-is base many [] tt stack calm (λ are below. born_built ways instruction n are below) built at in born-spent instruction n less t.are t.still stack t.below t.calm t.less built t.is)
        (strict-spent instruction n less stack calm (meaning_of headers class instruction))) step e
    advance-spent headers class names pc instruction n less stack calm Throwing is step e = absurd (cc)
    advance-spent headers class names pc instruction n less stack calm Idle is step e = under-spent n stack names (grown n stack) (grown-spent n stack stack (omega arith) calm) step e
    advance-spent headers class names pc instruction n less stack calm Other is step e = under-spent n stack names (strict_step ways instruction n stack (meaning_of headers class instruction)) (strict-spent instruction n less stack calm (meaning_of headers class instruction)) step e

    -- and what is spilled before it and behind it
    one-spent : (headers : List Header) (class : Name) (names : Names) (pc : ℕ) (instruction : Instruction) (n : ℕ) → base ≤ n → (stack : List Pending) → AreCalm stack → Spent n stack (advance_one headers class ways names pc instruction n stack)
    one-spent headers class names pc instruction n less stack calm step e =
        let b = both-are (first_spilled (ways.before instruction stack) n stack (λ from entries. advance headers class ways names pc instruction from entries (sort_of instruction))) (λ step. then_spilled (ways.after step.0.stack) step) step e in
        behind (ways.after b.one.0.stack) b.one step (first (ways.before instruction stack) b.one b.is) b.then_is
      where
        first : (test : Bool) (found : Step) → first_spilled test n stack (λ from entries. advance headers class ways names pc instruction from entries (sort_of instruction)) ≡ Some found → Spends base n stack 6 found.0
        first false found f = advance-spent headers class names pc instruction n less stack calm (sort_of instruction) refl found f
        first true found f =
            let b = both-are (spill none n stack) (λ so_far. and_then (advance headers class ways names pc instruction so_far.next so_far.stack (sort_of instruction)) (λ found. Some (behind_spilled so_far found))) found f in
            let c = both-are (advance headers class ways names pc instruction b.one.next b.one.stack (sort_of instruction)) (λ found. Some (behind_spilled b.one found)) found b.then_is in
            let s = spill-spends base none none-low n less stack calm b.one b.is in
            let low = s.low in
            let t = advance-spent headers class names pc instruction b.one.next (omega (arith, less, low)) b.one.stack s.calm (sort_of instruction) refl c.one c.is in
            let same : behind_spilled b.one c.one ≡ found = (let some = c.then_is in cc) in
            subst (λ (s : Step). Spends base n stack 6 s.0) same (spends-then base n stack 0 6 b.one c.one.0 s t)

        behind : (test : Bool) (found last : Step) → Spends base n stack 6 found.0 → then_spilled test found ≡ Some last → Spends base n stack 6 last.0
        behind false found last s f = let same : found ≡ last = cc in subst (λ (s : Step). Spends base n stack 6 s.0) same s
        behind true found last s f =
            let b = both-are (spill none found.0.next found.0.stack) (λ so_far. Some (record { emitted = joined found.0.emitted so_far.emitted; stack = so_far.stack; next = so_far.next }, found.1)) last f in
            let low = s.low in
            let t = spill-spends base none none-low found.0.next (omega (arith, less, low)) found.0.stack s.calm b.one b.is in
            let same : (record { emitted = joined found.0.emitted b.one.emitted; stack = b.one.stack; next = b.one.next }, found.1) ≡ last = (let some = b.then_is in cc) in
            subst (λ (s : Step). Spends base n stack 6 s.0) same (spends-then base n stack 6 0 found.0 b.one s t)

    -- ---- the block

    pub block-spent : (headers : List Header) (class : Name) (starts : ℕ → Bool) (names : Names) (n : ℕ) (stack : List Pending) (instructions : Instructions) (statements : Stms) → rebuilt headers class ways starts names n stack instructions ≡ Some statements → base ≤ n → AreCalm stack
        → EachDeclaredIn (IsBetween n (n + loose base stack + 6 * length instructions)) statements
    block-spent headers class starts names n stack [] statements e less calm = absurd (cc)
    block-spent headers class starts names n stack (first ∷ rest) statements e less calm =
        one (continues (sort_of first.1) (meaning_of headers class first.1)) e (λ names' n' stack' more is less' calm'. block-spent headers class starts names' n' stack' rest more is less' calm')
      where
        Further : Type 0
        Further = (names : Names) (n : ℕ) (stack : List Pending) (more : Stms) → rebuilt headers class ways starts names n stack rest ≡ Some more → base ≤ n → AreCalm stack → EachDeclaredIn (IsBetween n (n + loose base stack + 6 * length rest)) more

        behind_one : Further → (step : Step) → Spends base n stack 6 step.0 → (test : Bool) (more : Stms) → (if test then ways.fall step.1 step.0.next step.0.stack rest else rebuilt headers class ways starts step.1 step.0.next step.0.stack rest) ≡ Some more
            → EachDeclaredIn (IsBetween step.0.next (step.0.next + loose base step.0.stack + 6 * length rest)) more
        behind_one further step s true more f =
            let low = s.low in
            declared-wider base step.0.next (step.0.next + loose base step.0.stack) step.0.next (step.0.next + loose base step.0.stack + 6 * length rest) (omega arith) (omega arith) more
            (keep.falls step.1 step.0.next step.0.stack rest more f (omega (arith, less, low)) s.calm)
        behind_one further step s false more f = let low = s.low in further step.1 step.0.next step.0.stack more f (omega (arith, less, low)) s.calm

        one : (test : Bool)
            → (if test then and_then (advance_one headers class ways names first.0 first.1 n stack) (λ step.
            and_then (if starts (pc_of rest) then ways.fall step.1 step.0.next step.0.stack rest else rebuilt headers class ways starts step.1 step.0.next step.0.stack rest) (λ more. Some (joined step.0.emitted more)))
            else ways.leave names n stack (first ∷ rest)) ≡ Some statements
            → Further → EachDeclaredIn (IsBetween n (n + loose base stack + 6 * length (first ∷ rest))) statements
        one true f further =
            let b = both-are (advance_one headers class ways names first.0 first.1 n stack) _ statements f in
            let c = both-are (if starts (pc_of rest) then ways.fall b.one.1 b.one.0.next b.one.0.stack rest else rebuilt headers class ways starts b.one.1 b.one.0.next b.one.0.stack rest) (λ more. Some (joined b.one.0.emitted more)) statements b.then_is in
            let s = one-spent headers class names first.0 first.1 n less stack calm b.one b.is in
            let low = s.low in
            let spent = s.spent in
            let same : joined b.one.0.emitted c.one ≡ statements = (let some = c.then_is in cc) in
            subst (EachDeclaredIn (IsBetween n (n + loose base stack + 6 * length (first ∷ rest)))) same
            (declared-joined (IsBetween n (n + loose base stack + 6 * length (first ∷ rest))) b.one.0.emitted c.one
            (declared-wider base n b.one.0.next n (n + loose base stack + 6 * length (first ∷ rest)) (omega arith) (omega (arith, spent)) b.one.0.emitted s.declares)
            (declared-wider base b.one.0.next (b.one.0.next + loose base b.one.0.stack + 6 * length rest) n (n + loose base stack + 6 * length (first ∷ rest)) low (omega (arith, spent)) c.one (behind_one further b.one s (starts (pc_of rest)) c.one c.is)))
        one false f further =
            declared-wider base n (n + loose base stack) n (n + loose base stack + 6 * length (first ∷ rest)) (omega arith) (omega arith) statements (keep.leaves names n stack (first ∷ rest) statements f less calm)

pub numbers-stay : (base : ℕ) (headers : List Header) (class : Name) (ways : Ways) (starts : ℕ → Bool) → KeepNumbers base ways
    → (names : Names) (n : ℕ) (stack : List Pending) (instructions : Instructions) (statements : Stms) → rebuilt headers class ways starts names n stack instructions ≡ Some statements → base ≤ n → AreCalm stack
    → EachDeclaredIn (IsBetween n (n + loose base stack + 6 * length instructions)) statements
numbers-stay base headers class ways starts keep names n stack instructions statements e less calm = block-spent base ways keep headers class starts names n stack instructions statements e less calm

pub blocks-apart : (base block : ℕ) (headers : List Header) (class : Name) (ways : Ways) (starts : ℕ → Bool) → KeepNumbers base ways
    → (names : Names) (stack : List Pending) (instructions : Instructions) (statements : Stms) → rebuilt headers class ways starts names (base + 1048576 * block) stack instructions ≡ Some statements
    → AreCalm stack → length stack ≤ 65535 → length instructions ≤ 65535 → EachDeclaredIn (IsBetween (base + 1048576 * block) (base + 1048576 * (block + 1))) statements
blocks-apart base block headers class ways starts keep names stack instructions statements e calm shallow short =
    let few = loose-length base stack in
    declared-wider base (base + 1048576 * block) (base + 1048576 * block + loose base stack + 6 * length instructions) (base + 1048576 * block) (base + 1048576 * (block + 1)) (omega arith) (omega (arith, few, shallow, short)) statements
    (block-spent base ways keep headers class starts names (base + 1048576 * block) stack instructions statements e (omega arith) calm)
