use Rattle.std.specs.Cmp.{unsigned_Decides}
use Rattle.std.proofs.lemmas.Slice.Eq.{strip_prefix_is}
use Rattle.dj_print.proofs.out.behind.Goals as goal

pub returns : goal.returns
returns c = record { left = strip_prefix_is unsigned_Decides c.args.bytes.now c.args.piece.now c.strip_prefix.result c.strip_prefix.ensures.cases }
