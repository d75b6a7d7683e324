use Rattle.dj_names.specs.Types.{view_types}
use Rattle.dj_kinds.specs.Own.{IsSeen}
use Rattle.dj_kinds.proofs.PickLemmas.{counts_any}
use Rattle.dj_kinds.proofs.pickers.OverloadMethodPicker.pick.Goals as goal

pub returns-in-None-clause-picks : goal.returns-in-None-clause-picks
returns-in-None-clause-picks c =
    counts_any c.args.self.now.name.now (view_types c.args.self.now.parameters.now) (IsSeen c.args.view.headers.now c.args.view.start.now c.args.view.class.now) c.args.methods.now c.first_overload.result c.in-None.ensures.first c.first_overload.ensures.first
