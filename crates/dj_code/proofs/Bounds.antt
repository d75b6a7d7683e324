-- Faults lie within a method's code.
use Rattle.std.proofs.Common.{◌≡◌, ◌⊎◌, ℕ, ◌+◌, ◌<◌, ◌≤◌, ◌^◌, ◌==◌, List, [], ◌∷◌, ◌++◌, length, Some, IsSome, IsTrue, Bool, true, false, if◌then◌else◌, refl, sym, ap, subst, inl, inr, arith, append_assoc, nat_le, ◌&&◌}
use Rattle.std.proofs.lemmas.List.Sums.{sum_by-cons}
use Rattle.std.proofs.lemmas.Bool.{false≢true}
use Rattle.std.proofs.lemmas.Bool.Decides.{nat_tests}
use Rattle.dj_layout.specs.declared.fault.Fault.{Fault}
use Rattle.dj_layout.specs.Whole.{IsWhole}
use Rattle.dj_layout.specs.Passes.{IsSequence}
use Rattle.dj_pool.specs.declared.entry.Entry.{Entry}
use Rattle.dj_instructions.specs.declared.kinds.BadKind.{BadKind}
use Rattle.dj_instructions.specs.Instructions.{Instruction, Instructions, instruction_at}
use Rattle.dj_instructions.specs.RawInstructions.{Raw, size}
use Rattle.dj_instructions.specs.Listing.{size_of, AreMeant, IsListing, HasBadInstruction}
use Rattle.dj_instructions.proofs.ListingReading.{size-some}
use Rattle.dj_frames.specs.Frames.{Tag}
use Rattle.dj_stack_map.specs.StackMap.{RawFrame, least_behind, last_offset, frame_behind, BreaksAt, BreaksFrames, broken, second}
use Rattle.dj_stack_map.proofs.TableReading.{least_more}
use Rattle.dj_code.specs.declared.content.CodeContent.{CodeContent}
use Rattle.dj_code.specs.CodeContent as layouts

-- ---- the layout

small : (n : ℕ) → IsTrue (nat_le 1 n && nat_le n 65535) → n ≤ 65535
small n is = grind (arith, nat_tests)

pub code_is_short : (bytes : List ℕ) (content : CodeContent) → IsWhole layouts.content bytes content → length content.code ≤ 65535
code_is_short bytes content whole = small (length content.code) whole.fits.1.1.0.0.1

-- ---- instructions

pub bad_within : (pool : List Entry) (code : List ℕ) (fault : Fault BadKind) → HasBadInstruction pool code fault → fault.offset ≤ length code
bad_within pool code fault (items, rest, are, few, text, inl (inner, halts, is)) = let at = ap (λ (f : Fault BadKind). f.offset) is in omega arith
bad_within pool code fault (items, rest, are, few, text, inr (raw, after, spells, isnt, is)) = let at = ap (λ (f : Fault BadKind). f.offset) is in omega arith

either : (b : Bool) (pc at here behind : ℕ) (first : ℕ × Instruction) (rest : Instructions) → (first.0 == at) ≡ b → first.0 ≡ pc → 1 ≤ here → (IsSome (instruction_at rest at) → at < pc + here + behind)
    → IsSome (if b then Some first.1 else instruction_at rest at) → at < pc + (here + behind)
either true pc at here behind first rest same is some later found = let e : first.0 ≡ at = grind (arith, nat_tests) in omega arith
either false pc at here behind first rest other is some later found = let more = later found in omega arith

-- an instruction begins within the code
start_within : (pool : List Entry) (pc : ℕ) (raws : List Raw) (instructions : Instructions) (at : ℕ) → AreMeant pool pc raws instructions → IsSome (instruction_at instructions at) → at < pc + size_of raws
start_within pool pc [] [] at meant some = absurd (false≢true some)
start_within pool pc [] (first ∷ rest) at meant some = absurd meant
start_within pool pc (raw ∷ raws) [] at meant some = absurd meant
start_within pool pc (raw ∷ raws) (first ∷ rest) at meant some =
    rw (sum_by-cons size raw raws) (either (first.0 == at) pc at (size raw) (size_of raws) first rest refl meant.0 (size-some raw) (start_within pool (pc + size raw) raws rest at meant.2) some)

pub start_in_code : (pool : List Entry) (code : List ℕ) (instructions : Instructions) (at : ℕ) → IsListing pool code instructions → IsSome (instruction_at instructions at) → at < length code
start_in_code pool code instructions at listing some =
    let within = start_within pool 0 listing.raws instructions at listing.meant some in
    let long : size_of listing.raws ≡ length code = same_number (size_of listing.raws) (length code) listing.spelled.fits.1 in
    omega arith
  where
    same_number : (a b : ℕ) → IsTrue (a == b) → a ≡ b
    same_number a b is = grind (arith, nat_tests)

-- ---- frames

module _ (pool : List Entry) (instructions : Instructions) (entry : ℕ) (enough : List RawFrame → Bool) where
  -- the last frame stands at an instruction
  last_starts : (before : List RawFrame) (x : RawFrame) (xs : List RawFrame) → IsSequence enough (frame_behind pool instructions entry) before (x ∷ xs) → IsSome (instruction_at instructions (last_offset (before ++ x ∷ xs)))
  last_starts before x [] are =
      let at : least_behind 0 before + x.delta ≡ last_offset (before ++ x ∷ []) = let e = least_more 0 before x in omega arith in subst (λ (n : ℕ). IsSome (instruction_at instructions n)) at are.1.1.starts
  last_starts before x (y ∷ ys) are = subst (λ (t : List RawFrame). IsSome (instruction_at instructions (last_offset t))) (append_assoc before (x ∷ []) (y ∷ ys)) (last_starts (before ++ x ∷ []) y ys are.2)

  last_is : (raws : List RawFrame) → IsSequence enough (frame_behind pool instructions entry) [] raws → (last_offset raws ≡ 0) ⊎ IsSome (instruction_at instructions (last_offset raws))
  last_is [] are = inl refl
  last_is (x ∷ xs) are = inr (last_starts [] x xs are)

break_is : (pool : List Entry) (instructions : Instructions) (entry : ℕ) (content : List ℕ) (pc : ℕ) → BreaksAt pool instructions entry content pc → (pc ≡ 0) ⊎ IsSome (instruction_at instructions pc)
break_is pool instructions entry content pc (inl (inl (inner, halts, is))) = inl (ap (λ (f : Fault BadKind). f.offset) is)
break_is pool instructions entry content pc (inl (inr (n, rest, count, (items, after, are, few, text, (inner, halts, is))))) =
    let at : last_offset items ≡ pc = sym (ap (λ (f : Fault BadKind). f.offset) is) in
    subst (λ (k : ℕ). (k ≡ 0) ⊎ IsSome (instruction_at instructions k)) at (last_is pool instructions entry (λ (xs : List RawFrame). length xs == n) items are)
break_is pool instructions entry content pc (inr (raws, rest, spells, some, at)) =
    subst (λ (k : ℕ). (k ≡ 0) ⊎ IsSome (instruction_at instructions k)) (sym at) (last_is pool instructions entry (λ (xs : List RawFrame). length xs == length raws) raws spells.fits.1.0)

fault_is : (pool : List Entry) (instructions : Instructions) (values : List Tag) (contents : List (List ℕ)) (pc : ℕ) → BreaksFrames pool instructions values contents pc → (pc ≡ 0) ⊎ IsSome (instruction_at instructions pc)
fault_is pool instructions values [] pc breaks = elim breaks [ ]
fault_is pool instructions values (content ∷ []) pc (broken at) = break_is pool instructions (length values) content pc at
fault_is pool instructions values (content ∷ other ∷ others) pc (broken at) = break_is pool instructions (length values) content pc at
fault_is pool instructions values (content ∷ other ∷ others) pc (second raws whole at) =
    subst (λ (k : ℕ). (k ≡ 0) ⊎ IsSome (instruction_at instructions k)) (sym at) (last_is pool instructions (length values) (λ (xs : List RawFrame). length xs == length raws) raws whole.fits.1.0)

pub frame_fault_within : (pool : List Entry) (code : List ℕ) (instructions : Instructions) (values : List Tag) (contents : List (List ℕ)) (pc : ℕ) → IsListing pool code instructions → length code ≤ 65535 → BreaksFrames pool instructions values contents pc → pc < 2 ^ 32
frame_fault_within pool code instructions values contents pc listing short breaks = within (fault_is pool instructions values contents pc breaks)
  where
    within : (pc ≡ 0) ⊎ IsSome (instruction_at instructions pc) → pc < 2 ^ 32
    within (inl is) = omega arith
    within (inr some) = let lt = start_in_code pool code instructions pc listing some in omega arith
