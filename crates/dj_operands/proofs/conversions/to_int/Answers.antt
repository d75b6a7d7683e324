use Rattle.std.proofs.Common.{rules}
use Rattle.std.specs.Int.{w32, w64}
use mir.Val.{SFits}
use Rattle.dj_operands.proofs.Wrapping.{low_bits}
use Rattle.dj_operands.proofs.conversions.to_int.Goals as goal

pub returns : goal.returns
returns c =
    let rest : SFits w64 c.rem_euclid.result = search rules in
    let result : SFits w32 c.cast_signed.result = search rules in
    record { int = low_bits w64 w32 c.args.number c.rem_euclid.result c.cast_signed.result c.ranges.number rest result c.rem_euclid.ensures.value c.cast_signed.ensures }
