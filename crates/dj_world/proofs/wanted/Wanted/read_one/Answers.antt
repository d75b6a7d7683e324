use Rattle.std.proofs.Common.{Contains, refl}
use Rattle.dj_world.proofs.LearningLemmas.{some_same}
use Rattle.dj_world.proofs.WantedLemmas.{keeps_some, keeps_next}
use Rattle.dj_world.proofs.wanted.Wanted.read_one.Goals as goal

pub returns-in_err-learn_superclass-clause-keeps : goal.returns-in_err-learn_superclass-clause-keeps
returns-in_err-learn_superclass-clause-keeps c =
    let wanted = c.args.self.now in
    let header = c.index-headers-at.result in
    keeps_some c.args.headers.now wanted c.requires.keeps c.args.at header c.learn_superclass.new.names wanted.interfaces c.requires.next c.requires.within c.index-headers-at.is c.learn_superclass.ensures.some
    (some_same wanted.interfaces wanted.interfaces (Contains header.interfaces) refl)

pub returns-in_err-learn_interfaces-clause-keeps : goal.returns-in_err-learn_interfaces-clause-keeps
returns-in_err-learn_interfaces-clause-keeps c =
    let wanted = c.args.self.now in
    let header = c.index-headers-at.result in
    keeps_some c.args.headers.now wanted c.requires.keeps c.args.at header c.learn_superclass.new.names c.learn_interfaces.new.names c.requires.next c.requires.within c.index-headers-at.is
    c.learn_superclass.ensures.some (rw c.as_slice.ensures at c.learn_interfaces.ensures.some)

pub returns-clause-keeps : goal.returns-clause-keeps
returns-clause-keeps c =
    let wanted = c.args.self.now in
    let header = c.index-headers-at.result in
    keeps_next c.args.headers.now wanted c.requires.keeps c.args.at header c.learn_superclass.new.names c.learn_interfaces.new.names c.requires.next c.requires.within c.index-headers-at.is
    c.in_ok-learn_superclass.ensures.learns (rw c.as_slice.ensures at c.in_ok-learn_interfaces.ensures.learns)
