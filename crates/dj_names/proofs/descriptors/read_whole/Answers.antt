use Rattle.std.proofs.lemmas.Result.{err_from_is_err_and}
use Rattle.dj_names.specs.Types.{view_descriptor}
use Rattle.dj_names.proofs.DescriptorLemmas.{halts_stopped, halts_after}
use Rattle.dj_names.proofs.descriptors.read_whole.Goals as goal

pub returns-in_err-descriptor-clause-halts : goal.returns-in_err-descriptor-clause-halts
returns-in_err-descriptor-clause-halts c =
    let p = err_from_is_err_and c.from_residual.result c.from_residual.ensures.1 in
    rw (p.1, p.2) (halts_stopped _ c.args.unread.now _ c.in_err-descriptor.ensures.stops)

pub returns-in-Some-clause-halts : goal.returns-in-Some-clause-halts
returns-in-Some-clause-halts c =
    let read = c.in_ok-descriptor.ensures in
    halts_after c.args.unread.now c.read_front.new.unread (view_descriptor c.in_ok-descriptor.descriptor) c.in-Some.field-0 read.descriptor read.spelled c.in-Some.ensures.at_hand
