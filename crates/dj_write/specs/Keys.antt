-- Keys that compare as equal are the same.
use Rattle.std.proofs.Common.{ap}
use Rattle.std.proofs.lemmas.Map.Lookups.{CmpEqualImpliesEq, exact_bytes, exact_signed, exact_unsigned}
use Rattle.dj_write.specs.declared.constants.ConstantKey.TheVariants as key
use Rattle.dj_write.specs.Found.{key_cmp}

-- two keys that compare as equal are one
pub exact_keys : CmpEqualImpliesEq key_cmp
exact_keys (key.Int x) (key.Int y) is = ap key.Int (exact_signed x y is)
exact_keys (key.Int x) (key.Long y) is = absurd cc
exact_keys (key.Int x) (key.Text y) is = absurd cc
exact_keys (key.Int x) (key.Float y) is = absurd cc
exact_keys (key.Int x) (key.Double y) is = absurd cc
exact_keys (key.Long x) (key.Int y) is = absurd cc
exact_keys (key.Long x) (key.Long y) is = ap key.Long (exact_signed x y is)
exact_keys (key.Long x) (key.Text y) is = absurd cc
exact_keys (key.Long x) (key.Float y) is = absurd cc
exact_keys (key.Long x) (key.Double y) is = absurd cc
exact_keys (key.Text x) (key.Int y) is = absurd cc
exact_keys (key.Text x) (key.Long y) is = absurd cc
exact_keys (key.Text x) (key.Text y) is = ap key.Text (exact_bytes x y is)
exact_keys (key.Text x) (key.Float y) is = absurd cc
exact_keys (key.Text x) (key.Double y) is = absurd cc
exact_keys (key.Float x) (key.Int y) is = absurd cc
exact_keys (key.Float x) (key.Long y) is = absurd cc
exact_keys (key.Float x) (key.Text y) is = absurd cc
exact_keys (key.Float x) (key.Float y) is = ap key.Float (exact_unsigned x y is)
exact_keys (key.Float x) (key.Double y) is = absurd cc
exact_keys (key.Double x) (key.Int y) is = absurd cc
exact_keys (key.Double x) (key.Long y) is = absurd cc
exact_keys (key.Double x) (key.Text y) is = absurd cc
exact_keys (key.Double x) (key.Float y) is = absurd cc
exact_keys (key.Double x) (key.Double y) is = ap key.Double (exact_unsigned x y is)
