-- How many fresh variables a step spends: what is declared and what is still to be declared grow by little.
use Rattle.std.proofs.Common.{ℕ, zero, suc, ◌+◌, ◌≡◌, ◌<◌, ◌≤◌, Bool, true, false, List, [], ◌∷◌, ◌++◌, map, drop, length, Option, Some, refl, ap, subst, arith, lt-ltb}
use Rattle.std.specs.Prelude.{not, nat_lt, if◌then◌else◌, slice_index_or}
use Rattle.std.proofs.lemmas.Bool.Decides.{nat_tests}
use Rattle.dj_names.specs.Types as types
use Rattle.dj_names.specs.Types.{JType, StaticType, Of}
use Rattle.dj_syntax.specs.declared.variable.Var.{Var}
use Rattle.dj_syntax.specs.Trees.{Exp, Stm, Stms, Empty}
use Rattle.dj_meaning.specs.Declarations.{joined}
use Rattle.dj_rebuilding.specs.Pending.{Atom, Number, Wide, Units, Nothing, Own, Named, exp_of, Pending, Kept, Whole, Born, Again, Built, Typed, assigns, stays, also, save, keep, single, spill, emit, with_operands, fresh}
use Rattle.dj_rebuilding.proofs.Names.{or-false}
use Rattle.dj_rebuilt.proofs.Rebuilt.{both-are}
use Rattle.dj_exits.specs.Numbers.{EachDeclared, EachDeclaredIn, IsBetween, AssignsNothing, AssignNothing, AreCalm, loose_atom, loose}
use Rattle.dj_exits.proofs.Declared.{wider-in, declared-joined}

pub either : {A : Type 0} (test : Bool) → (test ≡ true → A) → (test ≡ false → A) → A
either true h k = h refl
either false h k = k refl

pub less-is : (first second : ℕ) → nat_lt first second ≡ true → first < second
less-is first second e = grind (arith, nat_tests)

pub not-less : (first second : ℕ) → nat_lt first second ≡ false → second ≤ first
not-less first second e = grind (arith, nat_tests)

pub is-less : (first second : ℕ) → first < second → nat_lt first second ≡ true
is-less first second less = lt-ltb first second less

pub isnt-less : (first second : ℕ) → second ≤ first → nat_lt first second ≡ false
isnt-less first second less = either (nat_lt first second) (λ e. absurd (let small = less-is first second e in omega (arith, small, less))) (λ e. e)

-- an atom assigns nothing
pub atom-still : (atom : Atom) → AssignsNothing (exp_of atom)
atom-still (Number number) variable = refl
atom-still (Wide number) variable = refl
atom-still (Units units) variable = refl
atom-still Nothing variable = refl
atom-still Own variable = refl
atom-still (Named other) variable = refl

pub loose-one : (base : ℕ) (atom : Atom) → loose_atom base atom ≤ 1
loose-one base (Number number) = omega arith
loose-one base (Wide number) = omega arith
loose-one base (Units units) = omega arith
loose-one base Nothing = omega arith
loose-one base Own = omega arith
loose-one base (Named variable) = by (nat_lt variable.number base)
  where
    by : (test : Bool) → (if test then 1 else 0) ≤ 1
    by true = omega arith
    by false = omega arith

abbrev one-or-none : Bool → ℕ
one-or-none test = if test then 1 else 0

module _ (base : ℕ) where
  -- a fresh variable needs no other
  fresh-none : (number : ℕ) → base ≤ number → loose_atom base (Named (fresh number)) ≡ 0
  fresh-none number less = ap one-or-none (isnt-less number base less)

  -- what is assigned has a low number
  abbrev pub IsLow : (Var → Bool) → Type 0
  IsLow assigned = (variable : Var) → base ≤ variable.number → assigned variable ≡ false

  pub also-low : (exp : Exp) (assigned : Var → Bool) → AssignsNothing exp → IsLow assigned → IsLow (also exp assigned)
  also-low exp assigned still low variable less = or-false (assigns exp variable) (assigned variable) (still variable) (low variable less)

  pub nothing-low : (exp : Exp) → AssignsNothing exp → IsLow (assigns exp)
  nothing-low exp still variable less = still variable

  -- an atom that is saved needed a fresh variable
  saved-loose : (assigned : Var → Bool) → IsLow assigned → (atom : Atom) → stays assigned atom ≡ false → loose_atom base atom ≡ 1
  saved-loose assigned low (Number number) e = absurd (cc)
  saved-loose assigned low (Wide number) e = absurd (cc)
  saved-loose assigned low (Units units) e = absurd (cc)
  saved-loose assigned low Nothing e = absurd (cc)
  saved-loose assigned low Own e = absurd (cc)
  saved-loose assigned low (Named variable) e =
      either (nat_lt variable.number base) (λ f. ap one-or-none f)
      (λ f. absurd (let same : not (assigned variable) ≡ true = ap not (low variable (not-less variable.number base f)) in cc))

  -- what a step spends
  pub record Spends (n : ℕ) (stack : List Pending) (extra : ℕ) (built : Built) : Type 0 where
    pub low : n ≤ built.next
    pub spent : built.next + loose base built.stack ≤ n + loose base stack + extra
    pub declares : EachDeclaredIn (IsBetween n built.next) built.emitted
    pub calm : AreCalm built.stack

  pub between-wider : (n m n' m' : ℕ) → n' ≤ n → m ≤ m' → (number : ℕ) → IsBetween n m number → IsBetween n' m' number
  between-wider n m n' m' less more number b = let from = b.from in let to = b.to in record { from = omega (arith, less, from); to = omega (arith, more, to) }

  pub declared-wider : (n m n' m' : ℕ) → n' ≤ n → m ≤ m' → (list : Stms) → EachDeclaredIn (IsBetween n m) list → EachDeclaredIn (IsBetween n' m') list
  declared-wider n m n' m' less more = wider-in (between-wider n m n' m' less more)

  -- one more is saved
  saves : (n : ℕ) (stack below : List Pending) (type : StaticType) (exp : Exp) (so_far : Built) → base ≤ n → Spends n below 0 so_far → loose base stack ≡ 1 + loose base below → Spends n stack 0 (save type exp so_far)
  saves n stack below type exp so_far less s e =
      let low = s.low in
      let spent = s.spent in
      let none = fresh-none so_far.next (omega (arith, less, low)) in
      record {
        low = omega (arith, low);
        spent = omega (arith, spent, none, e);
        declares = declared-joined (IsBetween n (so_far.next + 1)) so_far.emitted _ (declared-wider n so_far.next n (so_far.next + 1) (omega arith) (omega arith) so_far.emitted s.declares) (record { from = low; to = omega arith }, tt);
        calm = s.calm;
      }

  pub spill-spends : (assigned : Var → Bool) → IsLow assigned → (n : ℕ) → base ≤ n → (stack : List Pending) → AreCalm stack → (built : Built) → spill assigned n stack ≡ Some built → Spends n stack 0 built
  spill-spends assigned low n less [] calm built e =
      let same : record { emitted = Empty; stack = []; next = n } ≡ built = cc in
      subst (Spends n [] 0) same (record { low = omega arith; spent = omega arith; declares = tt; calm = tt })
  spill-spends assigned low n less (Kept type atom ∷ below) calm built e =
      let b = both-are (spill assigned n below) (λ so_far. Some (if stays assigned atom then keep type atom so_far else save type (exp_of atom) so_far)) built e in
      let s = spill-spends assigned low n less below calm b.one b.is in
      let same : (if stays assigned atom then keep type atom b.one else save type (exp_of atom) b.one) ≡ built = (let some = b.then_is in cc) in
      subst (Spends n (Kept type atom ∷ below) 0) same (by (stays assigned atom) refl b.one s)
    where
      by : (test : Bool) → stays assigned atom ≡ test → (so_far : Built) → Spends n below 0 so_far → Spends n (Kept type atom ∷ below) 0 (if test then keep type atom so_far else save type (exp_of atom) so_far)
      by true is so_far s = let spent = s.spent in record { low = s.low; spent = omega (arith, spent); declares = s.declares; calm = s.calm }
      by false is so_far s = saves n (Kept type atom ∷ below) below type (exp_of atom) so_far less s (ap (λ k. k + loose base below) (saved-loose assigned low atom is))
  spill-spends assigned low n less (Whole type exp ∷ below) calm built e =
      let b = both-are (spill (also exp assigned) n below) (λ so_far. Some (save type exp so_far)) built e in
      let s = spill-spends (also exp assigned) (also-low exp assigned calm.0 low) n less below calm.1 b.one b.is in
      let same : save type exp b.one ≡ built = (let some = b.then_is in cc) in
      subst (Spends n (Whole type exp ∷ below) 0) same (saves n (Whole type exp ∷ below) below type exp b.one less s refl)
  spill-spends assigned low n less (Born class ∷ below) calm built e = absurd (cc)
  spill-spends assigned low n less (Again ∷ below) calm built e = absurd (cc)

  pub emit-spends : (assigned : Var → Bool) → IsLow assigned → (n : ℕ) → base ≤ n → (below : List Pending) → AreCalm below → (statement : Stm) → ((P : ℕ → Type 0) → EachDeclared P statement) → (built : Built) → emit assigned n below statement ≡ Some built → Spends n below 0 built
  emit-spends assigned low n less below calm statement plain built e =
      let b = both-are (spill assigned n below) (λ so_far. Some (record { emitted = joined so_far.emitted (single statement); stack = so_far.stack; next = so_far.next })) built e in
      let s = spill-spends assigned low n less below calm b.one b.is in
      let same : record { emitted = joined b.one.emitted (single statement); stack = b.one.stack; next = b.one.next } ≡ built = (let some = b.then_is in cc) in
      subst (Spends n below 0) same (record { low = s.low; spent = s.spent; declares = declared-joined (IsBetween n b.one.next) b.one.emitted (single statement) s.declares (plain (IsBetween n b.one.next), tt); calm = s.calm })

  -- entries in place of others
  pub grown-spends : (n : ℕ) (stack new : List Pending) (extra : ℕ) → loose base new ≤ loose base stack + extra → AreCalm new → Spends n stack extra (record { emitted = Empty; stack = new; next = n })
  grown-spends n stack new extra less calm = record { low = omega arith; spent = omega (arith, less); declares = tt; calm = calm }

  -- a step that spends less, from entries that need less
  pub spends-more : (n : ℕ) (stack other : List Pending) (extra more : ℕ) (built : Built) → Spends n other extra built → loose base other + extra ≤ loose base stack + more → Spends n stack more built
  spends-more n stack other extra more built s less = let spent = s.spent in record { low = s.low; spent = omega (arith, spent, less); declares = s.declares; calm = s.calm }

  -- one step behind another
  pub spends-then : (n : ℕ) (stack : List Pending) (first second : ℕ) (so_far built : Built) → Spends n stack first so_far → Spends so_far.next so_far.stack second built
      → Spends n stack (first + second) (record { emitted = joined so_far.emitted built.emitted; stack = built.stack; next = built.next })
  spends-then n stack first second so_far built s t =
      let low = s.low in
      let later = t.low in
      let spent = s.spent in
      let more = t.spent in
      record {
        low = omega (arith, low, later);
        spent = omega (arith, spent, more);
        declares = declared-joined (IsBetween n built.next) so_far.emitted built.emitted (declared-wider n so_far.next n built.next (omega arith) later so_far.emitted s.declares) (declared-wider so_far.next built.next n built.next low (omega arith) built.emitted t.declares);
        calm = t.calm;
      }

  -- ---- operands

  -- so many operands, and what lies below them
  pub record IsTaken (stack : List Pending) (next : List Typed → List Pending → Option Built) (built : Built) : Type 0 where
    pub are : List Typed
    pub below : List Pending
    pub is : next are below ≡ Some built
    pub still : AssignNothing are
    pub calm : AreCalm below
    pub less : loose base below ≤ loose base stack

  pub taken-is : (count : ℕ) (done : List Typed) → AssignNothing done → (stack : List Pending) → AreCalm stack → (next : List Typed → List Pending → Option Built) (built : Built) → with_operands count done stack next ≡ Some built → IsTaken stack next built
  taken-is zero done still stack calm next built e = record { are = done; below = stack; is = e; still = still; calm = calm; less = omega arith }
  taken-is (suc count) done still [] calm next built e = absurd (cc)
  taken-is (suc count) done still (Kept type atom ∷ below) calm next built e =
      let t = taken-is count ((type, exp_of atom) ∷ done) (atom-still atom, still) below calm next built e in
      let less = t.less in
      record { are = t.are; below = t.below; is = t.is; still = t.still; calm = t.calm; less = omega (arith, less) }
  taken-is (suc count) done still (Whole type exp ∷ below) calm next built e =
      let t = taken-is count ((type, exp) ∷ done) (calm.0, still) below calm.1 next built e in
      let less = t.less in
      record { are = t.are; below = t.below; is = t.is; still = t.still; calm = t.calm; less = omega (arith, less) }
  taken-is (suc count) done still (Born class ∷ below) calm next built e = absurd (cc)
  taken-is (suc count) done still (Again ∷ below) calm next built e = absurd (cc)

  -- ---- entries that are moved

  -- an entry needs one at most
  place-loose : (place : ℕ) (stack ones : List Pending) → loose base (slice_index_or stack place (Kept types.Null Nothing) ∷ ones) ≤ 1 + loose base ones
  place-loose zero [] ones = omega arith
  place-loose (suc place) [] ones = omega arith
  place-loose zero (Kept type atom ∷ below) ones = let one = loose-one base atom in omega (arith, one)
  place-loose zero (Whole type exp ∷ below) ones = omega arith
  place-loose zero (Born class ∷ below) ones = omega arith
  place-loose zero (Again ∷ below) ones = omega arith
  place-loose (suc place) (top ∷ below) ones = place-loose place below ones

  pub places-loose : (places : List ℕ) (stack ones : List Pending) → loose base (map (λ place. slice_index_or stack place (Kept types.Null Nothing)) places ++ ones) ≤ length places + loose base ones
  places-loose [] stack ones = omega arith
  places-loose (place ∷ places) stack ones =
      let one = place-loose place stack (map (λ place. slice_index_or stack place (Kept types.Null Nothing)) places ++ ones) in
      let rest = places-loose places stack ones in
      omega (arith, one, rest)

  pub drop-loose : (count : ℕ) (stack : List Pending) → loose base (drop count stack) ≤ loose base stack
  drop-loose zero stack = omega arith
  drop-loose (suc count) [] = omega arith
  drop-loose (suc count) (Kept type atom ∷ below) = let rest = drop-loose count below in omega (arith, rest)
  drop-loose (suc count) (Whole type exp ∷ below) = let rest = drop-loose count below in omega (arith, rest)
  drop-loose (suc count) (Born class ∷ below) = drop-loose count below
  drop-loose (suc count) (Again ∷ below) = drop-loose count below

  place-calm : (place : ℕ) (stack ones : List Pending) → AreCalm stack → AreCalm ones → AreCalm (slice_index_or stack place (Kept types.Null Nothing) ∷ ones)
  place-calm zero [] ones h k = k
  place-calm (suc place) [] ones h k = k
  place-calm zero (Kept type atom ∷ below) ones h k = k
  place-calm zero (Whole type exp ∷ below) ones h k = (h.0, k)
  place-calm zero (Born class ∷ below) ones h k = k
  place-calm zero (Again ∷ below) ones h k = k
  place-calm (suc place) (Kept type atom ∷ below) ones h k = place-calm place below ones h k
  place-calm (suc place) (Whole type exp ∷ below) ones h k = place-calm place below ones h.1 k
  place-calm (suc place) (Born class ∷ below) ones h k = place-calm place below ones h k
  place-calm (suc place) (Again ∷ below) ones h k = place-calm place below ones h k

  pub places-calm : (places : List ℕ) (stack ones : List Pending) → AreCalm stack → AreCalm ones → AreCalm (map (λ place. slice_index_or stack place (Kept types.Null Nothing)) places ++ ones)
  places-calm [] stack ones h k = k
  places-calm (place ∷ places) stack ones h k = place-calm place stack _ h (places-calm places stack ones h k)

  pub drop-calm : (count : ℕ) (stack : List Pending) → AreCalm stack → AreCalm (drop count stack)
  drop-calm zero stack h = h
  drop-calm (suc count) [] h = tt
  drop-calm (suc count) (Kept type atom ∷ below) h = drop-calm count below h
  drop-calm (suc count) (Whole type exp ∷ below) h = drop-calm count below h.1
  drop-calm (suc count) (Born class ∷ below) h = drop-calm count below h
  drop-calm (suc count) (Again ∷ below) h = drop-calm count below h

  pub loose-length : (stack : List Pending) → loose base stack ≤ length stack
  loose-length [] = omega arith
  loose-length (Kept type atom ∷ below) = let one = loose-one base atom in let rest = loose-length below in omega (arith, one, rest)
  loose-length (Whole type exp ∷ below) = let rest = loose-length below in omega (arith, rest)
  loose-length (Born class ∷ below) = let rest = loose-length below in omega (arith, rest)
  loose-length (Again ∷ below) = let rest = loose-length below in omega (arith, rest)
