-- The machine narrows a returned int as source converts it.
use Rattle.std.proofs.Common.{◌≡◌, refl}
use Rattle.std.specs.Prelude.{ℤ, IsSome}
use Rattle.dj_names.specs.Types as types
use Rattle.dj_names.specs.Types.{JType, Boolean, Byte, Char, Short, Float, Double, Class, Array}
use Rattle.dj_values.specs.Values.{Int}
use Rattle.dj_values.specs.Fits.{int_range}
use Rattle.dj_meaning.specs.Conversions.{converted}
use Rattle.dj_bytecode.specs.Operands.{narrowed}

pub narrows_as_converted : (result : JType) (number : ℤ) → IsSome (int_range result) → narrowed result number ≡ converted result (Int number)
narrows_as_converted Boolean number kept = refl
narrows_as_converted Byte number kept = refl
narrows_as_converted Char number kept = refl
narrows_as_converted Short number kept = refl
narrows_as_converted types.Int number kept = refl
narrows_as_converted types.Long number kept = absurd (cc)
narrows_as_converted Float number kept = absurd (cc)
narrows_as_converted Double number kept = absurd (cc)
narrows_as_converted (Class name) number kept = absurd (cc)
narrows_as_converted (Array element) number kept = absurd (cc)
