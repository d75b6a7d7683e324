use Rattle.dj_make.proofs.Additions.{addition_more}
use Rattle.dj_make.proofs.code.adding_code.Goals as goal

pub loop-j-preserved : goal.loop-j-preserved
loop-j-preserved c = addition_more c.args.k c.loop-j.j _ _ c.loop-j.invariant c.in_ok-extend_from_slice.ensures.items
