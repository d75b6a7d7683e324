use Rattle.std.specs.Prelude.{map}
use Rattle.dj_values.specs.Views.{view_values, view_answer}
use Rattle.dj_code.specs.MethodCode.{view_typed}
use Rattle.dj_sound.proofs.Runs.{never_wrong}
use Rattle.dj_machine.proofs.running.show_code.Goals as goal

pub returns-in_err-starts-clause-never : goal.returns-in_err-starts-clause-never
returns-in_err-starts-clause-never c = λ world some table fit. never_wrong world (view_typed c.args.typed.now) some table c.args.headers.now (view_values c.args.arguments.now) fit (map view_answer c.args.answers.now) c.args.steps

pub returns-in_err-locals-clause-never : goal.returns-in_err-locals-clause-never
returns-in_err-locals-clause-never c = λ world some table fit. never_wrong world (view_typed c.args.typed.now) some table c.args.headers.now (view_values c.args.arguments.now) fit (map view_answer c.args.answers.now) c.args.steps

pub returns-in_err-end-clause-never : goal.returns-in_err-end-clause-never
returns-in_err-end-clause-never c = λ world some table fit. never_wrong world (view_typed c.args.typed.now) some table c.args.headers.now (view_values c.args.arguments.now) fit (map view_answer c.args.answers.now) c.args.steps

pub returns-clause-never : goal.returns-clause-never
returns-clause-never c = λ world some table fit. never_wrong world (view_typed c.args.typed.now) some table c.args.headers.now (view_values c.args.arguments.now) fit (map view_answer c.args.answers.now) c.args.steps
