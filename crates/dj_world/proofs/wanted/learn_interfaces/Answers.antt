use Rattle.std.proofs.Common.{◌≡◌, Any, Contains, take, arith}
use Rattle.dj_names.specs.Headers.{Name}
use Rattle.dj_world.proofs.LearningLemmas.{learns_like, some_learned, some_like, some_then, learned_none, learned_more, learned_all}
use Rattle.dj_world.proofs.WantedLemmas.{contains_any, taken_in, item_in}
use Rattle.dj_world.proofs.wanted.learn_interfaces.Goals as goal

abbrev Same : Name → Name → Type 0
Same name other = other ≡ name

pub loop-interface-init : goal.loop-interface-init
loop-interface-init c = learned_none Same c.args.interfaces.now c.args.names.now

pub loop-interface-preserved : goal.loop-interface-preserved
loop-interface-preserved c =
    learned_more Same c.args.interfaces.now c.loop-interface.interface-index c.interface-item.result c.args.names.now c.loop-interface.names c.learn.new.names (omega arith) c.interface-item.is c.loop-interface.invariant c.in_ok-learn.ensures.learns

pub returns-in_err-learn-clause-some : goal.returns-in_err-learn-clause-some
returns-in_err-learn-clause-some c =
    let interfaces = c.args.interfaces.now in
    let names = c.args.names.now in
    some_then names c.loop-interface.names c.learn.new.names (Contains interfaces)
    (some_like names c.loop-interface.names (λ name. Any (Same name) (take c.loop-interface.interface-index interfaces)) (Contains interfaces) (taken_in interfaces c.loop-interface.interface-index)
    (some_learned names c.loop-interface.names (λ name. Any (Same name) (take c.loop-interface.interface-index interfaces)) c.loop-interface.invariant))
    (some_like c.loop-interface.names c.learn.new.names (λ (other : Name). c.interface-item.result ≡ other) (Contains interfaces)
    (λ name. item_in interfaces c.loop-interface.interface-index c.interface-item.result name (omega arith) c.interface-item.is) c.learn.ensures.some)

pub returns : goal.returns
returns c =
    let interfaces = c.args.interfaces.now in
    let names = c.args.names.now in
    let learned =
    learns_like names c.loop-interface.names (λ name. Any (Same name) interfaces) (Contains interfaces) (contains_any interfaces)
    (learned_all Same interfaces c.loop-interface.interface-index names c.loop-interface.names (omega arith) c.loop-interface.invariant) in
    record { learns = learned; some = some_learned names c.loop-interface.names (Contains interfaces) learned }
