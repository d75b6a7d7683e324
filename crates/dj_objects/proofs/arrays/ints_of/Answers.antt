use Rattle.std.proofs.Common.{rules}
use Rattle.std.specs.Int.{w32}
use Rattle.std.proofs.lemmas.Int.{to_z-of_z}
use mir.Val.{SFits}
use Rattle.dj_values.specs.Views.{view_values}
use Rattle.dj_objects.proofs.IntLemmas.{reads_none, reads_more, reads_no_int, reads_all}
use Rattle.dj_objects.proofs.arrays.ints_of.Goals as goal

pub loop-value-init : goal.loop-value-init
loop-value-init c = rw c.new-ints.ensures (reads_none (view_values c.args.values.now))

pub loop-value-preserved : goal.loop-value-preserved
loop-value-preserved c =
    let number : SFits w32 c.in-Int.number = search rules in
    reads_more c.args.values.now c.loop-value.value-index c.value-item.result c.in-Int.number c.loop-value.ints c.push.new.self c.loop-value-test.true c.value-item.is c.in-Int.is (simp to_z-of_z at c.in_ok-push.ensures.ok) c.loop-value.invariant

pub returns-in_default : goal.returns-in_default
returns-in_default c = record { ints = λ next. reads_no_int c.args.values.now c.loop-value.value-index c.value-item.result c.loop-value.ints next c.loop-value-test.true c.value-item.is c.in_default.not-Int c.loop-value.invariant }

pub returns : goal.returns
returns c = record { ints = λ next. reads_all c.args.values.now c.loop-value.value-index c.loop-value.ints next c.loop-value-test.false c.loop-value.invariant }
