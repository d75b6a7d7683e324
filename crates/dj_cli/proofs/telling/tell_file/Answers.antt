use Rattle.dj_cli.proofs.telling.tell_file.Goals as goal

pub tell_class-requires : goal.tell_class-requires
tell_class-requires g c = record { of_file = (rw c.in-Class.is at c.requires.of_file).of_file }

pub returns-in-Class-clause-told : goal.returns-in-Class-clause-told
returns-in-Class-clause-told g c = rw c.in-Class.is c.tell_class.ensures.told

pub returns-in-Class-clause-stopped : goal.returns-in-Class-clause-stopped
returns-in-Class-clause-stopped g c = rw c.in-Class.is c.tell_class.ensures.stopped

pub returns-in-Class-clause-failed : goal.returns-in-Class-clause-failed
returns-in-Class-clause-failed g c = c.tell_class.ensures.failed

pub returns-in-Clash-clause-told : goal.returns-in-Clash-clause-told
returns-in-Clash-clause-told g c = rw c.in-Clash.is (c.tell_clash.ensures.told c.args.basis.now.world.now (g.T.Sink.taken c.args.text.now))

pub returns-in-Clash-clause-stopped : goal.returns-in-Clash-clause-stopped
returns-in-Clash-clause-stopped g c = rw c.in-Clash.is (c.tell_clash.ensures.stopped c.args.basis.now.world.now (g.T.Sink.taken c.args.text.now))

pub returns-in-Broken-clause-told : goal.returns-in-Broken-clause-told
returns-in-Broken-clause-told g c = rw c.in-Broken.is (c.tell_broken.ensures.told c.args.basis.now.world.now (g.T.Sink.taken c.args.text.now))

pub returns-in-Broken-clause-stopped : goal.returns-in-Broken-clause-stopped
returns-in-Broken-clause-stopped g c = rw c.in-Broken.is (c.tell_broken.ensures.stopped c.args.basis.now.world.now (g.T.Sink.taken c.args.text.now))

pub returns-in-Class-clause-calm : goal.returns-in-Class-clause-calm
returns-in-Class-clause-calm g c = c.tell_class.ensures.calm

pub returns-in-Clash-clause-calm : goal.returns-in-Clash-clause-calm
returns-in-Clash-clause-calm g c = c.tell_clash.ensures.calm (g.T.Sink.faults c.args.text.now)

pub returns-in-Broken-clause-calm : goal.returns-in-Broken-clause-calm
returns-in-Broken-clause-calm g c = c.tell_broken.ensures.calm (g.T.Sink.faults c.args.text.now)
