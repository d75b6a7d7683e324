-- The first birth that is too long, found by going through births; and how many blocks there are.
use Rattle.std.proofs.Common.{◌≡◌, ◌≢◌, ◌↔◌, ℕ, ◌+◌, ◌<◌, ◌≤◌, true, false, IsTrue, List, Contains, AllPairs, Option, Some, None, MatchOption, length, take, get_or, refl, sym, subst, inl, inr, arith}
use Rattle.std.specs.Prelude.{IsSome}
use Rattle.std.proofs.lemmas.Bool.{cases_lt}
use Rattle.std.proofs.lemmas.Bool.Decides.{Decides-eqb}
use Rattle.std.proofs.lemmas.Cmp.{nat_eq_equiv}
use Rattle.std.proofs.lemmas.Map.Made.{length-le_from_is_member, IsDistinct-from_AllPairs, is_member-Decides}
use Rattle.dj_instructions.specs.Instructions.{Instruction, Instructions, New, IsRising}
use Rattle.dj_code.specs.MethodCode.{Typed}
use Rattle.dj_starts.specs.declared.birth.Birth.{Birth}
use Rattle.dj_starts.specs.Births.{IsWritten, IsBirth}
use Rattle.dj_code.specs.Targets.{IsStart, IsLeast}
use Rattle.dj_birth_causes.specs.OwnCalls.{IsOwnCall}
use Rattle.dj_birth_causes.specs.Large.{most, size_of, HasBlocks, IsLongBirth, IsLongBeginning, IsLong, long_birth, long_beginning, IsFirstLong, IsTooMuch, many_blocks, long_expression}
use Rattle.dj_birth_causes.specs.Births.{IsLongFrom, IsFirstLongBirth}
use Rattle.dj_birth_causes.proofs.Unbearing.{any_default, earlier, decided, take_cases}
use Rattle.dj_names.specs.MethodNames.{is_constructor}
use Rattle.dj_receivers.specs.OwnCalls.{calls_own}
use Rattle.dj_birth_causes.proofs.Sizes.{met_start, standing_start, first_start}

-- ---- blocks

apart : (xs : List ℕ) → AllPairs (λ first second. first < second) xs → AllPairs (λ first second. first ≢ second) xs
apart xs rising i j d less within same = let up = rising i j d less within in omega (arith, up, same)

most_within : (xs ys : List ℕ) → AllPairs (λ first second. first < second) xs → ((pc : ℕ) → Contains xs pc → Contains ys pc) → length xs ≤ length ys
most_within xs ys rising within =
    length-le_from_is_member nat_eq_equiv xs ys (IsDistinct-from_AllPairs Decides-eqb xs (apart xs rising))
    (λ pc member. (is_member-Decides Decides-eqb ys pc).1 (within pc ((is_member-Decides Decides-eqb xs pc).0 member)))

-- typed code has one number of blocks
pub one_number : (typed : Typed) (first second : ℕ) → HasBlocks typed first → HasBlocks typed second → first ≡ second
one_number typed first second one other =
    let up = most_within one.starts other.starts one.rising (λ pc has. (other.exact pc).1 ((one.exact pc).0 has)) in
    let down = most_within other.starts one.starts other.rising (λ pc has. (one.exact pc).1 ((other.exact pc).0 has)) in
    omega (arith, up, down, one.number, other.number)

-- ---- births

-- among these instructions the birth is too long
pub record IsLongIn (instructions : Instructions) (birth : Birth) : Type 0 where
  pub behind : birth.start < birth.end
  pub long : IsLongFrom instructions birth.start birth.end

module _ (typed : Typed) where
  abbrev pub IsLongHere : Birth → Type 0
  IsLongHere = IsLongIn typed.code.instructions

  module _ (births : List Birth) (exact : (birth : Birth) → Contains births birth ↔ IsBirth typed birth) where
    long_here : (birth : Birth) → Contains births birth → IsLongHere birth → IsLongBirth typed (size_of typed.code.instructions birth.start birth.end) birth.start
    long_here birth has long =
        let is = (exact birth).0 has in
        record {
          new = is.new;
          end = birth.end;
          call = elim is.end [ inl call ↦ call | inr none ↦ absurd (let same = none.0 in omega (arith, same, long.behind)) ];
          number = refl;
          above = long.long.above;
        }

    begun : (found : Option Instruction) (class : List ℕ) → found ≡ Some (New class) → IsSome found
    begun found class is = subst (λ (o : Option Instruction). IsSome o) (sym is) refl

    -- it has instructions at its start and its end
    too_long : (start size : ℕ) (long : IsLongBirth typed size start) → IsLongIn typed.code.instructions (record { start = start; end = long.end; written = true }) × IsLongIn typed.code.instructions (record { start = start; end = long.end; written = false })
    too_long start size long =
        let is : IsLongFrom typed.code.instructions start long.end = record {
          starts = record { from = begun _ long.new.class long.new.here; to = met_start typed.code.instructions typed.frames start long.end long.call.meets };
          above = (let n = long.number in let a = long.above in omega (arith, n, a));
        } in
        (record { behind = long.call.behind; long = is }, record { behind = long.call.behind; long = is })

    -- of each `new` with a birth that is too long there is one
    listed : (start size : ℕ) → IsLongBirth typed size start → ((birth : Birth) → Contains births birth → birth.start ≡ start → ¬ IsLongHere birth) → ⊥
    listed start size long none = decided (IsWritten typed start long.end) (λ written. elim written [
      | inl can ↦
          (let birth : Birth = record { start = start; end = long.end; written = true } in
          none birth ((exact birth).1 (record { new = long.new; end = inl long.call; written = (λ yes. can, λ yes. refl) })) refl (too_long start size long).0)
      | inr not ↦
          (let birth : Birth = record { start = start; end = long.end; written = false } in
          none birth ((exact birth).1 (record { new = long.new; end = inl long.call; written = (λ yes. absurd cc, λ yes. absurd (not yes)) })) refl (too_long start size long).1)
    ])

    pub none_long : ((birth : Birth) → Contains births birth → ¬ IsLongHere birth) → (start size : ℕ) → ¬ IsLongBirth typed size start
    none_long none start size long = listed start size long (λ birth has is. none birth has)

    pub first_long : AllPairs (λ first second. first.start < second.start) births → (i : ℕ) (birth : Birth) → i < length births → birth ≡ get_or births i birth → Contains births birth
        → ((one : Birth) → Contains (take i births) one → ¬ IsLongHere one) → IsLongHere birth → IsFirstLongBirth typed (size_of typed.code.instructions birth.start birth.end)
    first_long rising i birth within at has before long = record {
      start = birth.start;
      long = long_here birth has long;
      first = λ other size is. elim (cases_lt other birth.start) [
        | inl below ↦ absurd (listed other size is (λ one there same. before one (earlier births rising i birth within at one there (subst (λ n. n < birth.start) (sym same) below))))
        | inr above ↦ above
      ];
    }

    -- before a list of births with none that is too long, or with one, stands no beginning that is too long
    pub first_of : (found : Option ℕ) → MatchOption found ((start size : ℕ) → ¬ IsLongBirth typed size start) (IsFirstLongBirth typed) → ((size : ℕ) → ¬ IsLongBeginning typed size)
        → MatchOption found ((size : ℕ) → ¬ IsFirstLong typed size) (IsFirstLong typed)
    first_of None none short = λ size first. least_none first.start size first.long
      where
        least_none : (start size : ℕ) → IsLong typed size start → ⊥
        least_none start size (long_beginning same long) = short size long
        least_none start size (long_birth long) = none start size long
    first_of (Some size) first short = record {
      start = first.start;
      long = long_birth first.long;
      first = λ other count is. by_kind other count is;
    }
      where
        by_kind : (other count : ℕ) → IsLong typed count other → first.start ≤ other
        by_kind other count (long_birth long) = first.first other count long
        by_kind other count (long_beginning same long) = absurd (short count long)

  -- of a constructor that calls another one first there, what stands up to that is too long, or isn't
  pub long_begun : IsRising typed.code.instructions → IsTrue (is_constructor typed.code.name) → (call : ℕ) → IsLeast (IsOwnCall typed) call → (found : Option ℕ)
      → MatchOption found (¬ IsLongFrom typed.code.instructions 0 call) (λ size. IsLongFrom typed.code.instructions 0 call × (size ≡ size_of typed.code.instructions 0 call))
      → MatchOption found ((size : ℕ) → ¬ IsLongBeginning typed size) (IsLongBeginning typed)
  long_begun rising constructs call least None short = λ size long.
      let low = least.least long.end long.call.here in
      let high = long.call.least call least.here in
      let same : long.end ≡ call = omega (arith, low, high) in
      let starts : IsStart typed.code.instructions call = standing_start calls_own typed.code.instructions typed.frames call least.here in
      let number = subst (λ (end : ℕ). size_of typed.code.instructions 0 end ≡ size) same long.number in
      short (record { starts = record { from = first_start typed.code.instructions call rising starts; to = starts }; above = (let above = long.above in omega (arith, number, above)) })
  long_begun rising constructs call least (Some size) long = record { constructor = constructs; end = call; call = least; number = sym long.1; above = (let above = long.0.above in let is = long.1 in omega (arith, above, is)) }

  pub first_beginning : (size : ℕ) → IsLongBeginning typed size → IsFirstLong typed size
  first_beginning size long = record { start = 0; long = long_beginning refl long; first = λ other count is. omega arith }

  -- ---- what is told

  pub not_much : (number : ℕ) (found : Option ℕ) → HasBlocks typed number → number ≤ most → MatchOption found ((size : ℕ) → ¬ IsFirstLong typed size) (IsFirstLong typed) → found ≡ None → (count : ℕ) → ¬ IsTooMuch typed count
  not_much number found blocks few first is count (many_blocks other has above tells) = let same = one_number typed number other blocks has in omega (arith, same, few, above)
  not_much number found blocks few first is count (long_expression other size has below long tells) = subst (λ (o : Option ℕ). MatchOption o ((size : ℕ) → ¬ IsFirstLong typed size) (IsFirstLong typed)) is first size long

-- ---- by the program's list of instructions

pub first_long_in : (typed : Typed) (instructions : Instructions) → typed.code.instructions ≡ instructions → (births : List Birth) → ((birth : Birth) → Contains births birth ↔ IsBirth typed birth)
    → AllPairs (λ first second. first.start < second.start) births → (i : ℕ) (birth : Birth) → i < length births → birth ≡ get_or births i birth
    → ((one : Birth) → Contains (take i births) one → ¬ IsLongIn instructions one) → IsLongIn instructions birth → (size : ℕ) → size ≡ size_of instructions birth.start birth.end → IsFirstLongBirth typed size
first_long_in typed instructions is births exact rising i birth within at =
    subst (λ (list : Instructions). ((one : Birth) → Contains (take i births) one → ¬ IsLongIn list one) → IsLongIn list birth → (size : ℕ) → size ≡ size_of list birth.start birth.end → IsFirstLongBirth typed size) is
    (λ before long size same. subst (IsFirstLongBirth typed) (sym same) (first_long typed births exact rising i birth within at (i, within, sym at) before long))

pub none_long_in : (typed : Typed) (instructions : Instructions) → typed.code.instructions ≡ instructions → (births : List Birth) → ((birth : Birth) → Contains births birth ↔ IsBirth typed birth)
    → ((one : Birth) → Contains births one → ¬ IsLongIn instructions one) → (start size : ℕ) → ¬ IsLongBirth typed size start
none_long_in typed instructions is births exact =
    subst (λ (list : Instructions). ((one : Birth) → Contains births one → ¬ IsLongIn list one) → (start size : ℕ) → ¬ IsLongBirth typed size start) is (λ none. none_long typed births exact none)

-- the same at an item as it is read, whatever would stand past the end
pub first_long_at : (typed : Typed) (instructions : Instructions) → typed.code.instructions ≡ instructions → (births : List Birth) → ((birth : Birth) → Contains births birth ↔ IsBirth typed birth)
    → AllPairs (λ first second. first.start < second.start) births → (i : ℕ) (d : Birth) → i < length births → ((one : Birth) → Contains (take i births) one → ¬ IsLongIn instructions one)
    → (size : ℕ) → size ≡ size_of instructions (get_or births i d).start (get_or births i d).end → (get_or births i d).start < (get_or births i d).end
    → IsLongFrom instructions (get_or births i d).start (get_or births i d).end → IsFirstLongBirth typed size
first_long_at typed instructions is births exact rising i d within before size same behind long =
    first_long_in typed instructions is births exact rising i (get_or births i d) within (any_default births i (get_or births i d) d within) before (record { behind = behind; long = long }) size same

-- of the first items one more isn't too long
pub short_more : (instructions : Instructions) (births : List Birth) (i : ℕ) (d : Birth) → i < length births → ((one : Birth) → Contains (take i births) one → ¬ IsLongIn instructions one) → ¬ IsLongIn instructions (get_or births i d)
    → (one : Birth) → Contains (take (i + 1) births) one → ¬ IsLongIn instructions one
short_more instructions births i d within before here one has =
    elim (take_cases births i (get_or births i d) within (any_default births i (get_or births i d) d within) one has) [ inl earlier ↦ before one earlier | inr same ↦ subst (λ (b : Birth). ¬ IsLongIn instructions b) same here ]
