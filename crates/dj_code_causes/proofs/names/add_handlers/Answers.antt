use Rattle.std.proofs.Common.{◌≡◌, Some, arith}
use Rattle.dj_code.specs.declared.method_code.Handler.{Handler}
use Rattle.dj_names.specs.Headers.{Name}
use Rattle.dj_causes.proofs.HeadLemmas.{gained_none, gained_more, gained_all}
use Rattle.dj_code_causes.proofs.names.add_handlers.Goals as goal

pub loop-handler-init : goal.loop-handler-init
loop-handler-init c = gained_none (λ (name : Name) (handler : Handler). handler.class ≡ Some name) c.args.handlers.now c.args.names.now

pub loop-handler-preserved : goal.loop-handler-preserved
loop-handler-preserved c =
    gained_more (λ (name : Name) (handler : Handler). handler.class ≡ Some name) c.args.handlers.now c.loop-handler.handler-index c.handler-item.result c.args.names.now c.loop-handler.names c.add_handler.new.names (omega arith) c.handler-item.is
    c.loop-handler.invariant c.in_ok-add_handler.ensures.gains

pub returns : goal.returns
returns c = record { gains = gained_all (λ (name : Name) (handler : Handler). handler.class ≡ Some name) c.args.handlers.now c.loop-handler.handler-index c.args.names.now c.loop-handler.names (omega arith) c.loop-handler.invariant }
