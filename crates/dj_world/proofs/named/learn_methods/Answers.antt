use Rattle.std.proofs.Common.{◌≡◌, Some, slice_get, length, refl, sym, subst, arith}
use Rattle.std.proofs.lemmas.Option.{slice_get_read}
use Rattle.dj_class.specs.declared.method.Method.{Method}
use Rattle.dj_names.specs.Types.{Descriptor, view_descriptor}
use Rattle.dj_world.specs.Named.{NamesClass}
use Rattle.dj_names.specs.Headers.{Name}
use Rattle.dj_world.proofs.LearningLemmas.{learned_none, learned_more, learned_same, learned_all}
use Rattle.dj_world.proofs.named.learn_methods.Goals as goal
use Rattle.dj_world.proofs.named.learn_methods.Goals.{then-not-is_told+in_ok-learn_descriptor, else-not-is_told}

abbrev Names : Name → Method → Type 0
Names name method = NamesClass (view_descriptor method.descriptor) name

pub loop-at-init : goal.loop-at-init
loop-at-init c = learned_none Names c.args.methods.now c.args.names.now

pub loop-at-preserved : goal.loop-at-preserved
loop-at-preserved c =
    let methods = c.args.methods.now in
    let method = c.index-methods-at.result in
    elim c.if-not-is_told.branch [
      | then-not-is_told+in_ok-learn_descriptor w ↦
          rw w.names-is
          (learned_more Names methods c.loop-at.at method c.args.names.now c.loop-at.names w.learn_descriptor.new.names (omega arith) c.index-methods-at.is c.loop-at.invariant w.in_ok-learn_descriptor.ensures.learns)
      | else-not-is_told w ↦
          let there : slice_get methods c.loop-at.at ≡ Some method = slice_get_read methods (length methods) c.loop-at.at method refl (omega arith) c.index-methods-at.is in
          let before = c.is_told.ensures.told w.if-not-is_told.false method there in
          rw w.names-is
          (learned_same Names methods c.loop-at.at method c.args.names.now c.loop-at.names (omega arith) c.index-methods-at.is
          (λ name named. (before.0, before.1, before.2, before.3, subst (λ (d : Descriptor). NamesClass d name) (sym before.4) named)) c.loop-at.invariant)
    ]

pub returns : goal.returns
returns c = record { learns = learned_all Names c.args.methods.now c.loop-at.at c.args.names.now c.loop-at.names (omega arith) c.loop-at.invariant }
