-- The first comparison of more than constants and loads, found by going through instructions whose offsets rise.
use Rattle.std.proofs.Common.{◌≡◌, ◌↔◌, ℕ, ◌+◌, ◌≤◌, List, [], ◌∷◌, length, drop, get_or, refl, sym, subst, inl, inr, arith}
use Rattle.dj_instructions.specs.declared.instruction.Instruction as declared
use Rattle.dj_instructions.specs.Instructions.{Instructions, IsRising, IsRisingFrom, view_instruction, view_instructions}
use Rattle.dj_code.specs.Targets.{IsLeast}
use Rattle.dj_birth_causes.specs.Comparisons.{part_of, singles_behind, IsDeep, ComparesMore}
use Rattle.dj_birth_causes.proofs.Standing.{starts, rising_from}

-- none stands below where they begin
deep_above : (least count : ℕ) (left : Instructions) → IsRisingFrom least left → (pc : ℕ) → ComparesMore count left pc → least ≤ pc
deep_above least count [] rising pc none = absurd none
deep_above least count (at ∷ rest) rising pc (inl here) = subst (λ n. least ≤ n) (sym here.0) rising.0
deep_above least count (at ∷ rest) rising pc (inr there) =
    let further = deep_above (at.0 + 1) (singles_behind count (part_of at.1)) rest rising.1 pc there in omega (arith, further, rising.0)

-- those among all stand among those that are left
pub record IsDeepIn (all : Instructions) (count : ℕ) (left : Instructions) : Type 0 where
  pub least : ℕ
  pub rising : IsRisingFrom least left
  pub same : (pc : ℕ) → ComparesMore 0 all pc ↔ ComparesMore count left pc

pub deep_first : (all : Instructions) → IsRising all → IsDeepIn all 0 all
deep_first all rising = record { least = 0; rising = rising_from all rising; same = λ pc. (λ one. one, λ one. one) }

pub deep_last : (all : Instructions) (count : ℕ) → IsDeepIn all count [] → (pc : ℕ) → ¬ ComparesMore 0 all pc
deep_last all count held pc one = (held.same pc).0 one

module _ (all : Instructions) (count : ℕ) (left : List (ℕ × declared.Instruction)) (at : ℕ × declared.Instruction) (long : 1 ≤ length left) (is : at ≡ get_or left 0 at) (held : IsDeepIn all count (view_instructions left)) where
  begun : IsDeepIn all count ((at.0, view_instruction at.1) ∷ view_instructions (drop 1 left))
  begun = subst (λ (list : List (ℕ × declared.Instruction)). IsDeepIn all count (view_instructions list)) (starts left at long is) held

  pub deep_next : ¬ IsDeep count (part_of (view_instruction at.1)) → IsDeepIn all (singles_behind count (part_of (view_instruction at.1))) (view_instructions (drop 1 left))
  deep_next shallow = record {
    least = at.0 + 1;
    rising = begun.rising.1;
    same = λ pc. (λ one. elim ((begun.same pc).0 one) [ inl here ↦ absurd (shallow here.1) | inr there ↦ there ], λ one. (begun.same pc).1 (inr one));
  }

  pub deep_here : IsDeep count (part_of (view_instruction at.1)) → IsLeast (ComparesMore 0 all) at.0
  deep_here deep = record {
    here = (begun.same at.0).1 (inl (refl, deep));
    least = λ other one. elim ((begun.same other).0 one) [
      | inl here ↦ omega (arith, here.0)
      | inr there ↦ (let further = deep_above (at.0 + 1) (singles_behind count (part_of (view_instruction at.1))) (view_instructions (drop 1 left)) begun.rising.1 other there in omega (arith, further))
    ];
  }
