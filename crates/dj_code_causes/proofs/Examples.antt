-- Causes at worked examples: a method of floats, and a call that is linked as the program runs.
use Rattle.std.proofs.Common.{ℕ, ◌≤◌, false, [], ◌∷◌, Some, None, refl, inl, inr, arith}
use Rattle.std.specs.Prelude.{codes}
use Rattle.dj_names.specs.Types as types
use Rattle.dj_names.specs.Types.{Method}
use Rattle.dj_instructions.specs.declared.kinds.Kind.TheVariants as kind
use Rattle.dj_instructions.specs.declared.kinds.Calc.TheVariants as calc
use Rattle.dj_instructions.specs.Instructions.{Load, Calc, Return, InvokeDynamic}
use Rattle.dj_code.specs.MethodCode.{Code}
use Rattle.dj_code.specs.Targets.{IsLeast}
use Rattle.dj_code_causes.specs.Floats.{HasFloatAt}
use Rattle.dj_code_causes.specs.Dynamics.{HasDynamicAt}

-- `static float h(float, float)`, which returns the sum
pub sum : Code
sum = record {
  class = codes "C";
  name = codes "h";
  flags = 8;
  interface = false;
  descriptor = Method (types.Float ∷ types.Float ∷ []) (Some types.Float);
  thrown = [];
  max_stack = 2;
  max_locals = 2;
  instructions = (0, Load kind.Float 0) ∷ (1, Load kind.Float 1) ∷ (2, Calc calc.Add kind.Float) ∷ (3, Return (Some kind.Float)) ∷ [];
  handlers = [];
  frames = [];
}

-- its cause is Float at 0
pub sum_has_float : IsLeast (HasFloatAt sum) 0
unfolding sum
sum_has_float = record { here = inl (refl, refl); least = λ other has. omega arith }

-- a method that loads an int, and calls what is linked as the program runs
pub linked : Code
linked = record {
  class = codes "C";
  name = codes "h";
  flags = 8;
  interface = false;
  descriptor = Method (types.Int ∷ []) None;
  thrown = [];
  max_stack = 1;
  max_locals = 1;
  instructions = (0, Load kind.Int 0) ∷ (1, InvokeDynamic 0 (codes "r") (Method (types.Int ∷ []) None)) ∷ (6, Return None) ∷ [];
  handlers = [];
  frames = [];
}

-- no float keeps it from being printed, and its cause is Dynamic at 1
pub linked_has_no_float : (pc : ℕ) → ¬ HasFloatAt linked pc
unfolding linked
linked_has_no_float pc (inl own) = absurd cc
linked_has_no_float pc (inr (inl first)) = absurd cc
linked_has_no_float pc (inr (inr (inl second))) = absurd cc
linked_has_no_float pc (inr (inr (inr (inl third)))) = absurd cc
linked_has_no_float pc (inr (inr (inr (inr none)))) = none

pub linked_is_dynamic : IsLeast (HasDynamicAt linked) 1
unfolding linked
linked_is_dynamic = record { here = inr (inl (refl, refl)); least = least }
  where
    least : (other : ℕ) → HasDynamicAt linked other → 1 ≤ other
    least other (inl first) = absurd cc
    least other (inr (inl second)) = omega (arith, second.0)
    least other (inr (inr (inl third))) = absurd cc
    least other (inr (inr (inr none))) = absurd none
