-- The first instruction whose offset has a property, found by going through instructions whose offsets rise.
use Rattle.std.proofs.Common.{◌≡◌, ◌⊎◌, ◌↔◌, ℕ, ◌+◌, ◌≤◌, ◌==◌, Bool, true, false, List, [], ◌∷◌, Some, length, drop, get_or, refl, sym, subst, inl, inr, arith}
use Rattle.std.specs.Prelude.{if◌then◌else◌, IsSome}
use Rattle.std.proofs.lemmas.Bool.Decides.{nat_tests}
use Rattle.dj_instructions.specs.declared.instruction.Instruction as declared
use Rattle.dj_instructions.specs.Instructions.{Instruction, Instructions, IsRising, IsRisingFrom, instruction_at, view_instruction, view_instructions}
use Rattle.dj_code.specs.Targets.{IsStart, IsLeast}
use Rattle.dj_birth_causes.proofs.Standing.{starts, rising_from}

abbrev Listed : Type 0
Listed = List (ℕ × declared.Instruction)

same_pc : (m n : ℕ) → (m == n) ≡ true → m ≡ n
same_pc m n is = grind (arith, nat_tests)

is_pc : (m : ℕ) → (m == m) ≡ true
is_pc m = grind (arith, nat_tests)

-- the first of some instructions begins at an offset, or another one does
pub start_cases : (at : ℕ × Instruction) (rest : Instructions) (pc : ℕ) → IsStart (at ∷ rest) pc → (at.0 ≡ pc) ⊎ IsStart rest pc
start_cases at rest pc start = by_test (at.0 == pc) refl start
  where
    by_test : (test : Bool) → (at.0 == pc) ≡ test → IsSome (if test then Some at.1 else instruction_at rest pc) → (at.0 ≡ pc) ⊎ IsStart rest pc
    by_test true is some = inl (same_pc at.0 pc is)
    by_test false is some = inr some

pub start_here : (at : ℕ × Instruction) (rest : Instructions) → IsStart (at ∷ rest) at.0
start_here at rest = rw (is_pc at.0) refl

pub start_behind : (at : ℕ × Instruction) (rest : Instructions) (pc : ℕ) → IsStart rest pc → IsStart (at ∷ rest) pc
start_behind at rest pc start = by_test (at.0 == pc)
  where
    by_test : (test : Bool) → IsSome (if test then Some at.1 else instruction_at rest pc)
    by_test true = refl
    by_test false = start

pub start_above : (least : ℕ) (left : Instructions) → IsRisingFrom least left → (pc : ℕ) → IsStart left pc → least ≤ pc
start_above least [] rising pc start = absurd cc
start_above least (at ∷ rest) rising pc start = elim (start_cases at rest pc start) [
  | inl here ↦ (let low = rising.0 in omega (arith, here, low))
  | inr there ↦ (let low = rising.0 in let further = start_above (at.0 + 1) rest rising.1 pc there in omega (arith, further, low))
]

module _ (Has : ℕ → Type 0) where
  -- the offset of one of these instructions has it
  abbrev pub IsHeld : Instructions → ℕ → Type 0
  IsHeld left pc = IsStart left pc × Has pc

  pub record IsHeldIn (all left : Instructions) : Type 0 where
    pub least : ℕ
    pub rising : IsRisingFrom least left
    pub same : (pc : ℕ) → IsHeld all pc ↔ IsHeld left pc

  pub held_first : (all : Instructions) → IsRising all → IsHeldIn all all
  held_first all rising = record { least = 0; rising = rising_from all rising; same = λ pc. (λ one. one, λ one. one) }

  pub held_last : (all : Instructions) → IsHeldIn all [] → (pc : ℕ) → ¬ IsHeld all pc
  held_last all held pc one = (let none = ((held.same pc).0 one).0 in cc)

  module _ (all : Instructions) (left : Listed) (at : ℕ × declared.Instruction) (long : 1 ≤ length left) (is : at ≡ get_or left 0 at) (held : IsHeldIn all (view_instructions left)) where
    begun : IsHeldIn all ((at.0, view_instruction at.1) ∷ view_instructions (drop 1 left))
    begun = subst (λ (list : Listed). IsHeldIn all (view_instructions list)) (starts left at long is) held

    pub held_next : ¬ Has at.0 → IsHeldIn all (view_instructions (drop 1 left))
    held_next none = record {
      least = at.0 + 1;
      rising = begun.rising.1;
      same = λ pc. (
        λ one. (let among = (begun.same pc).0 one in elim (start_cases (at.0, view_instruction at.1) (view_instructions (drop 1 left)) pc among.0) [ inl here ↦ absurd (none (subst Has (sym here) among.1)) | inr there ↦ (there, among.1) ]),
        λ one. (begun.same pc).1 (start_behind (at.0, view_instruction at.1) (view_instructions (drop 1 left)) pc one.0, one.1),
      );
    }

    pub held_here : Has at.0 → IsLeast (IsHeld all) at.0
    held_here has = record {
      here = (begun.same at.0).1 (start_here (at.0, view_instruction at.1) (view_instructions (drop 1 left)), has);
      least = λ other one. (let among = (begun.same other).0 one in elim (start_cases (at.0, view_instruction at.1) (view_instructions (drop 1 left)) other among.0) [
        | inl here ↦ omega (arith, here)
        | inr there ↦ (let further = start_above (at.0 + 1) (view_instructions (drop 1 left)) begun.rising.1 other there in omega (arith, further))
      ]);
    }
