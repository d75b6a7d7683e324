use Rattle.dj_names.specs.Types.{view_types}
use Rattle.dj_alone.proofs.Having.{same-told}
use Rattle.dj_alone.proofs.alone.are_same.Goals as goal

pub returns : goal.returns
returns c = record { same = same-told (view_types c.args.first.now) (view_types c.args.second.now) c.are_equal.result c.are_equal.ensures.same }
