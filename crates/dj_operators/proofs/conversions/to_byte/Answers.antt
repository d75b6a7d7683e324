use Rattle.std.specs.Int.{w8}
use Rattle.dj_operators.proofs.Wraps.{low_bits}
use Rattle.dj_operators.proofs.conversions.to_byte.Goals as goal

pub returns : goal.returns
returns c = record { byte = low_bits w8 c.args.number c.rem_euclid.result c.cast_signed.result c.ranges.number (record { sfits = c.rem_euclid.type_inv }) (record { sfits = c.cast_signed.type_inv }) c.rem_euclid.ensures.value c.cast_signed.ensures }
