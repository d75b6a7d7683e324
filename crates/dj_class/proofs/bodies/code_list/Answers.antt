use Rattle.dj_class.proofs.BodyAttributes.{no_code_more}
use Rattle.dj_class.proofs.bodies.code_list.Goals as goal

pub loop-preserved : goal.loop-preserved
loop-preserved c =
    no_code_more c.args.pool.now c.loop.counter c.args.bytes.now c.loop.rest.now c.in_ok-name.after.now (record { name = c.in_ok-name.name; content = c.in_ok-name._content.now }) c.loop.none c.is_still_none-none.result c.loop.invariant c.in_ok-name.ensures.reads c.is_still_none-none.ensures.exact
