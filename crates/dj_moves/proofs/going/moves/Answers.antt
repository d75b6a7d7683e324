use Rattle.dj_code_variables.specs.Views.{view_vars}
use Rattle.dj_moves.specs.Moves.{wanted_by}
use Rattle.dj_moves.proofs.Moving.{step-moves}
use Rattle.dj_moves.proofs.going.moves.Goals as goal

pub loop-place-preserved : goal.loop-place-preserved
loop-place-preserved c =
    let pushed = rw (c.wanted.ensures.wanted, c.in-Ok.ensures.1) at c.in_ok-push_move.ensures.pushed in
    step-moves (wanted_by c.args.keeps (view_vars c.args.vars.now) c.args.block) c.args.slots.now c.loop-place.place _ c.loop-place-test.true c.loop-place.moves c.push_move.new.moves _ pushed c.loop-place.invariant
