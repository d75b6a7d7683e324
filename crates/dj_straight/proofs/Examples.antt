-- Straight code and other code at worked examples: a wrong definition is refused here.
use Rattle.std.proofs.Common.{◌≡◌, ℕ, false, true, [], ◌∷◌, Some, refl, arith}
use Rattle.std.proofs.lemmas.List.Elements.{All-head, All-from_recursion}
use Rattle.std.specs.Prelude.{pos}
use Rattle.dj_names.specs.declared.members.Constant.TheVariants as constant
use Rattle.dj_instructions.specs.declared.kinds.Kind.TheVariants as kind
use Rattle.dj_instructions.specs.declared.kinds.Calc.TheVariants as calc
use Rattle.dj_instructions.specs.Instructions.{Instruction, Instructions, Push, Load, Calc, Return}
use Rattle.dj_straight.specs.declared.part.Operation.TheVariants.{Sub}
use Rattle.dj_straight.specs.Straight.{Parameter, Calculation, HasStraightOpcode, HaveStraightOpcodes, IsStraightCode}

-- `return p0 - p1;` as javac compiles it: `iload_0`, `iload_1`, `isub`, `ireturn`
abbrev difference : Instructions
difference = (0, Load kind.Int 0) ∷ (1, Load kind.Int 1) ∷ (2, Calc calc.Sub kind.Int) ∷ (3, Return (Some kind.Int)) ∷ []

difference_is_straight : IsStraightCode 2 2 (0x1a ∷ 0x1b ∷ 0x64 ∷ 0xac ∷ []) difference (Calculation Sub (Parameter 0) (Parameter 1))
difference_is_straight = record {
  opcodes = All-from_recursion (λ (at : ℕ × Instruction). HasStraightOpcode (0x1a ∷ 0x1b ∷ 0x64 ∷ 0xac ∷ []) at.0) difference (refl, (refl, (refl, (refl, tt))));
  straight = record { form = refl; slots = (omega arith, omega arith); levels = omega arith; stack = omega arith };
}

-- `wide iload 0` and `iload_0` are one instruction, and only one is straight
a_wide_load_is_not_straight : ¬ HaveStraightOpcodes (0xc4 ∷ 0x15 ∷ 0 ∷ 0 ∷ 0xac ∷ []) ((0, Load kind.Int 0) ∷ (4, Return (Some kind.Int)) ∷ [])
a_wide_load_is_not_straight all =
    let wide : false ≡ true = All-head (λ (at : ℕ × Instruction). HasStraightOpcode (0xc4 ∷ 0x15 ∷ 0 ∷ 0 ∷ 0xac ∷ []) at.0) (0, Load kind.Int 0) ((4, Return (Some kind.Int)) ∷ []) all in absurd (cc)

-- an `ldc` of 5 and `iconst_5` likewise
a_constant_of_the_pool_is_not_straight : ¬ HaveStraightOpcodes (0x12 ∷ 1 ∷ 0xac ∷ []) ((0, Push (constant.Int (pos 5))) ∷ (2, Return (Some kind.Int)) ∷ [])
a_constant_of_the_pool_is_not_straight all =
    let pool : false ≡ true = All-head (λ (at : ℕ × Instruction). HasStraightOpcode (0x12 ∷ 1 ∷ 0xac ∷ []) at.0) (0, Push (constant.Int (pos 5))) ((2, Return (Some kind.Int)) ∷ []) all in absurd (cc)
