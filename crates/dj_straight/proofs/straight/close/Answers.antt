use Rattle.std.proofs.Common.{◌≡◌, ◌≢◌, [], length, Bool, false, IsTrue, refl, arith, ap}
use Rattle.dj_straight.proofs.StraightStacks.{not_one, more_than_one}
use Rattle.dj_straight.proofs.straight.close.Goals as goal
use Rattle.dj_straight.proofs.straight.close.Goals.{in_default-via-in-Some+else-is_empty, in_default-via-in_default}

false_is_not : (answer : Bool) → answer ≡ false → IsTrue answer → ⊥
false_is_not answer is holds = cc

pub returns : goal.returns
returns c =
    elim c.in_default.branch [
      | in_default-via-in-Some+else-is_empty w ↦
          let left : c.pop.new.self ≢ [] = λ empty. let yes : IsTrue w.is_empty.result = w.is_empty.ensures.1 empty in false_is_not w.is_empty.result w.if-is_empty.false yes in
          let several : length c.args.stack ≢ 1 = rw w.in-Some.ensures (more_than_one c.pop.new.self w.in-Some.node left) in
          record { closed = λ formulas are. (refl, not_one c.args.stack formulas several are) }
      | in_default-via-in_default w ↦
          let none : length c.args.stack ≢ 1 = λ one. absurd (omega (arith, ap length w.in_default.ensures.0)) in
          record { closed = λ formulas are. (refl, not_one c.args.stack formulas none are) }
    ]
