use Rattle.std.proofs.Common.{◌≡◌, Some, arith}
use Rattle.dj_names.specs.declared.types.JType.{JType}
use Rattle.dj_names.specs.Types.{view_type}
use Rattle.dj_world.specs.Named.{class_of}
use Rattle.dj_names.specs.Headers.{Name}
use Rattle.dj_world.proofs.LearningLemmas.{learned_none, learned_more, learned_all}
use Rattle.dj_world.proofs.named.learn_types.Goals as goal

pub loop-kind-init : goal.loop-kind-init
loop-kind-init c = learned_none (λ (name : Name) (kind : JType). class_of (view_type kind) ≡ Some name) c.args.kinds.now c.args.names.now

pub loop-kind-preserved : goal.loop-kind-preserved
loop-kind-preserved c =
    learned_more (λ (name : Name) (kind : JType). class_of (view_type kind) ≡ Some name) c.args.kinds.now c.loop-kind.kind-index c.kind-item.result c.args.names.now c.loop-kind.names c.learn_type.new.names (omega arith) c.kind-item.is
    c.loop-kind.invariant c.in_ok-learn_type.ensures.learns

pub returns : goal.returns
returns c = record { learns = (learned_all (λ (name : Name) (kind : JType). class_of (view_type kind) ≡ Some name) c.args.kinds.now c.loop-kind.kind-index c.args.names.now c.loop-kind.names (omega arith) c.loop-kind.invariant) }
