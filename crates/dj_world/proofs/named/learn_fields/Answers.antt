use Rattle.std.proofs.Common.{◌≡◌, Some, arith}
use Rattle.dj_names.specs.declared.members.Field.{Field}
use Rattle.dj_names.specs.Types.{view_type}
use Rattle.dj_world.specs.Named.{class_of}
use Rattle.dj_names.specs.Headers.{Name}
use Rattle.dj_world.proofs.LearningLemmas.{learned_none, learned_more, learned_all}
use Rattle.dj_world.proofs.named.learn_fields.Goals as goal

pub loop-field-init : goal.loop-field-init
loop-field-init c = learned_none (λ (name : Name) (field : Field). class_of (view_type field.descriptor) ≡ Some name) c.args.fields.now c.args.names.now

pub loop-field-preserved : goal.loop-field-preserved
loop-field-preserved c =
    learned_more (λ (name : Name) (field : Field). class_of (view_type field.descriptor) ≡ Some name) c.args.fields.now c.loop-field.field-index c.field-item.result c.args.names.now c.loop-field.names c.learn_type.new.names (omega arith) c.field-item.is
    c.loop-field.invariant c.in_ok-learn_type.ensures.learns

pub returns : goal.returns
returns c = record { learns = (learned_all (λ (name : Name) (field : Field). class_of (view_type field.descriptor) ≡ Some name) c.args.fields.now c.loop-field.field-index c.args.names.now c.loop-field.names (omega arith) c.loop-field.invariant) }
