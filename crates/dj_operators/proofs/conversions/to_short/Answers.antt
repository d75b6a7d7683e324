use Rattle.std.specs.Int.{w16}
use Rattle.dj_operators.proofs.Wraps.{low_bits}
use Rattle.dj_operators.proofs.conversions.to_short.Goals as goal

pub returns : goal.returns
returns c = record { short = low_bits w16 c.args.number c.rem_euclid.result c.cast_signed.result c.ranges.number (record { sfits = c.rem_euclid.type_inv }) (record { sfits = c.cast_signed.type_inv }) c.rem_euclid.ensures.value c.cast_signed.ensures }
