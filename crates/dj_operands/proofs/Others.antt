-- Instructions that neither move values of the stack nor lead elsewhere: constants, arithmetic, conversions, comparisons and returns.
use Rattle.std.proofs.Common.{◌≡◌, [], Option, Some, None, refl}
use Rattle.dj_names.specs.Types as types
use Rattle.dj_names.specs.Types.{JType, Boolean, Byte, Char, Short, Float, Double, Class, Array}
use Rattle.dj_names.specs.declared.members.Constant.{Constant}
use Rattle.dj_names.specs.declared.members.Constant.TheVariants as constant
use Rattle.dj_values.specs.Outcomes.{Stuck, Halts}
use Rattle.dj_instructions.specs.declared.kinds.Kind.{Kind}
use Rattle.dj_instructions.specs.declared.kinds.Kind.TheVariants as kind
use Rattle.dj_instructions.specs.declared.kinds.Calc.{Calc}
use Rattle.dj_instructions.specs.declared.kinds.Calc.TheVariants as calc
use Rattle.dj_bytecode.specs.Meanings.{Family, Strict, Moves, Loads, Stores, Counts, Leads, Returns, NotRun, constant_pushed, calculation, conversion, comparison, return_of}
use Rattle.dj_operands.specs.Replies.{choice_of}
use Rattle.dj_operands.specs.Families.{forms_of}

-- neither a shuffle nor a jump
abbrev pub IsOther : Family → Type 0
IsOther (Strict count operation) = Unit {0}
IsOther (Moves forms) = ⊥
IsOther (Loads of_kind slot) = Unit {0}
IsOther (Stores of_kind slot) = Unit {0}
IsOther (Counts slot by) = Unit {0}
IsOther (Leads count choice) = ⊥
IsOther (Returns gives) = Unit {0}
IsOther NotRun = Unit {0}

pub no_forms : (family : Family) → IsOther family → forms_of family ≡ []
no_forms (Strict count operation) other = refl
no_forms (Moves forms) other = absurd other
no_forms (Loads of_kind slot) other = refl
no_forms (Stores of_kind slot) other = refl
no_forms (Counts slot by) other = refl
no_forms (Leads count choice) other = refl
no_forms (Returns gives) other = refl
no_forms NotRun other = refl

pub no_choice : (family : Family) → IsOther family → choice_of family ≡ (λ operands. Halts Stuck)
no_choice (Strict count operation) other = refl
no_choice (Moves forms) other = refl
no_choice (Loads of_kind slot) other = refl
no_choice (Stores of_kind slot) other = refl
no_choice (Counts slot by) other = refl
no_choice (Leads count choice) other = absurd other
no_choice (Returns gives) other = refl
no_choice NotRun other = refl

pub other_constant : (one : Constant) → IsOther (constant_pushed one)
other_constant (constant.Int number) = tt
other_constant (constant.Long number) = tt
other_constant (constant.Text units) = tt
other_constant (constant.Float bits) = tt
other_constant (constant.Double bits) = tt

pub other_calculation : (operation : Calc) (of_kind : Kind) → IsOther (calculation operation of_kind)
other_calculation calc.Add kind.Int = tt
other_calculation calc.Sub kind.Int = tt
other_calculation calc.Mul kind.Int = tt
other_calculation calc.Div kind.Int = tt
other_calculation calc.Rem kind.Int = tt
other_calculation calc.Neg kind.Int = tt
other_calculation calc.Shl kind.Int = tt
other_calculation calc.Shr kind.Int = tt
other_calculation calc.Ushr kind.Int = tt
other_calculation calc.And kind.Int = tt
other_calculation calc.Or kind.Int = tt
other_calculation calc.Xor kind.Int = tt
other_calculation calc.Add kind.Long = tt
other_calculation calc.Sub kind.Long = tt
other_calculation calc.Mul kind.Long = tt
other_calculation calc.Div kind.Long = tt
other_calculation calc.Rem kind.Long = tt
other_calculation calc.Neg kind.Long = tt
other_calculation calc.Shl kind.Long = tt
other_calculation calc.Shr kind.Long = tt
other_calculation calc.Ushr kind.Long = tt
other_calculation calc.And kind.Long = tt
other_calculation calc.Or kind.Long = tt
other_calculation calc.Xor kind.Long = tt
other_calculation operation kind.Float = tt
other_calculation operation kind.Double = tt
other_calculation operation kind.Ref = tt

pub other_conversion : (from : Kind) (type : JType) → IsOther (conversion from type)
other_conversion kind.Int Boolean = tt
other_conversion kind.Int Byte = tt
other_conversion kind.Int Char = tt
other_conversion kind.Int Short = tt
other_conversion kind.Int types.Int = tt
other_conversion kind.Int types.Long = tt
other_conversion kind.Int Float = tt
other_conversion kind.Int Double = tt
other_conversion kind.Int (Class name) = tt
other_conversion kind.Int (Array element) = tt
other_conversion kind.Long Boolean = tt
other_conversion kind.Long Byte = tt
other_conversion kind.Long Char = tt
other_conversion kind.Long Short = tt
other_conversion kind.Long types.Int = tt
other_conversion kind.Long types.Long = tt
other_conversion kind.Long Float = tt
other_conversion kind.Long Double = tt
other_conversion kind.Long (Class name) = tt
other_conversion kind.Long (Array element) = tt
other_conversion kind.Float Boolean = tt
other_conversion kind.Float Byte = tt
other_conversion kind.Float Char = tt
other_conversion kind.Float Short = tt
other_conversion kind.Float types.Int = tt
other_conversion kind.Float types.Long = tt
other_conversion kind.Float Float = tt
other_conversion kind.Float Double = tt
other_conversion kind.Float (Class name) = tt
other_conversion kind.Float (Array element) = tt
other_conversion kind.Double Boolean = tt
other_conversion kind.Double Byte = tt
other_conversion kind.Double Char = tt
other_conversion kind.Double Short = tt
other_conversion kind.Double types.Int = tt
other_conversion kind.Double types.Long = tt
other_conversion kind.Double Float = tt
other_conversion kind.Double Double = tt
other_conversion kind.Double (Class name) = tt
other_conversion kind.Double (Array element) = tt
other_conversion kind.Ref type = tt

pub other_comparison : (of_kind : Kind) → IsOther (comparison of_kind)
other_comparison kind.Int = tt
other_comparison kind.Long = tt
other_comparison kind.Float = tt
other_comparison kind.Double = tt
other_comparison kind.Ref = tt

pub other_return : (of_kind : Option Kind) → IsOther (return_of of_kind)
other_return None = tt
other_return (Some of_kind) = tt
