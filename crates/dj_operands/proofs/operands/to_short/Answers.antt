use Rattle.std.proofs.Common.{rules}
use Rattle.std.specs.Int.{w16, w32}
use mir.Val.{SFits}
use Rattle.dj_operands.proofs.Wrapping.{low_bits}
use Rattle.dj_operands.proofs.operands.to_short.Goals as goal

pub returns : goal.returns
returns c =
    let rest : SFits w32 c.rem_euclid.result = search rules in
    let result : SFits w16 c.cast_signed.result = search rules in
    record { short = low_bits w32 w16 c.args.number c.rem_euclid.result c.cast_signed.result c.ranges.number rest result c.rem_euclid.ensures.value c.cast_signed.ensures }
