-- The first instruction that passes a test, found by going through instructions whose offsets rise.
use Rattle.std.proofs.Common.{◌≡◌, ℕ, ◌+◌, ◌≤◌, Bool, List, [], ◌∷◌, length, drop, get_or, IsTrue, refl, sym, ap, subst, inl, inr, arith}
use Rattle.dj_instructions.specs.declared.instruction.Instruction as declared
use Rattle.dj_instructions.specs.Instructions.{Instruction, Instructions, IsRising, IsRisingFrom, view_instruction, view_instructions}
use Rattle.dj_code.specs.Targets.{IsLeast}
use Rattle.dj_code_causes.specs.Places.{IsOne}

-- what passes among all passes among those that are left, and these rise
pub record IsLeft (test : Instruction → Bool) (all left : Instructions) : Type 0 where
  pub least : ℕ
  pub rising : IsRisingFrom least left
  pub to : (pc : ℕ) → IsOne test all pc → IsOne test left pc
  pub from : (pc : ℕ) → IsOne test left pc → IsOne test all pc

-- a list with an item begins with its first one
starts : {A : Type 0} (left : List A) (x : A) → 1 ≤ length left → x ≡ get_or left 0 x → left ≡ x ∷ drop 1 left
starts [] x long is = absurd (omega arith)
starts {A} (y ∷ rest) x long is = ap (λ (z : A). z ∷ rest) (sym is)

module _ (test : Instruction → Bool) where
  -- none stands below where they begin
  pub above : (least : ℕ) (left : Instructions) → IsRisingFrom least left → (pc : ℕ) → IsOne test left pc → least ≤ pc
  above least [] rising pc none = absurd none
  above least (at ∷ rest) rising pc (inl here) = subst (λ n. least ≤ n) (sym here.0) rising.0
  above least (at ∷ rest) rising pc (inr there) = let further = above (at.0 + 1) rest rising.1 pc there in omega (arith, further, rising.0)

  pub left_first : (all : Instructions) → IsRising all → IsLeft test all all
  left_first all rising = record { least = 0; rising = rising_from all rising; to = λ pc one. one; from = λ pc one. one }
    where
      rising_from : (all : Instructions) → IsRising all → IsRisingFrom 0 all
      rising_from [] rising = tt
      rising_from (first ∷ rest) rising = (omega (arith, rising.0), subst (λ n. IsRisingFrom n rest) (let e : 1 ≡ first.0 + 1 = omega (arith, rising.0) in e) rising.1)

  module _ (all rest : Instructions) (at : ℕ × Instruction) (left : IsLeft test all (at ∷ rest)) where
    pub left_behind : ¬ IsTrue (test at.1) → IsLeft test all rest
    left_behind none = record {
      least = at.0 + 1;
      rising = left.rising.1;
      to = λ pc one. elim (left.to pc one) [ inl here ↦ absurd (none here.1) | inr there ↦ there ];
      from = λ pc one. left.from pc (inr one);
    }

    pub least_here : IsTrue (test at.1) → IsLeast (IsOne test all) at.0
    least_here passes = record {
      here = left.from at.0 (inl (refl, passes));
      least = λ other one. elim (left.to other one) [
        | inl here ↦ subst (λ n. at.0 ≤ n) (sym here.0) (omega arith)
        | inr there ↦ (let further = above (at.0 + 1) rest left.rising.1 other there in omega (arith, further))
      ];
    }

  pub none_left : (all : Instructions) → IsLeft test all [] → (pc : ℕ) → ¬ IsOne test all pc
  none_left all left pc one = left.to pc one

  -- the first of those that are left passes
  pub found_here : (all : Instructions) (left : List (ℕ × declared.Instruction)) (at : ℕ × declared.Instruction) → 1 ≤ length left → at ≡ get_or left 0 at → IsLeft test all (view_instructions left)
      → IsTrue (test (view_instruction at.1)) → IsLeast (IsOne test all) at.0
  found_here all left at long is is_left passes =
      least_here all (view_instructions (drop 1 left)) (at.0, view_instruction at.1) (subst (λ (list : List (ℕ × declared.Instruction)). IsLeft test all (view_instructions list)) (starts left at long is) is_left) passes
