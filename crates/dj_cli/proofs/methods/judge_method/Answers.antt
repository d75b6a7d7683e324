use Rattle.dj_cli.proofs.methods.judge_method.Goals as goal

pub returns-clause-told : goal.returns-clause-told
returns-clause-told c = λ before here holds. c.in_ok-told.ensures.told c.args.basis.now.world.now before (c.in_ok-found.ensures.found before here holds)
