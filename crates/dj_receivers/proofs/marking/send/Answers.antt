use Rattle.std.proofs.Common.{ℕ, arith, subst, reverse}
use Rattle.dj_code.specs.MethodCode.{view_typed}
use Rattle.dj_receivers.specs.Receivers.{height_at}
use Rattle.dj_receivers.specs.Walks.{Lowers}
use Rattle.dj_receivers.proofs.Falling.{sends_from, sent_caught, sent_plain}
use Rattle.dj_receivers.proofs.marking.send.Goals as goal
use Rattle.dj_receivers.proofs.marking.send.Goals.{then-way, else-way}

pub returns : goal.returns
returns c =
    let typed = view_typed c.args.typed.now in
    let old = c.args.marking.now in
    let way = c.args.way.now in
    record {
      sends = elim c.if-way.branch [
        | then-way w ↦ sends_from typed old c.lower.new.marking way 0 (omega arith) (sent_caught typed (reverse old.now) way w.if-way.true) (subst (λ (height : ℕ). Lowers old c.lower.new.marking way.target height) w.height-is c.in_ok-lower.ensures.lowers)
        | else-way w ↦ sends_from typed old c.lower.new.marking way (height_at typed.code.instructions typed.frames way.target) (let low = w.height_at-height.ensures.low in let same = w.height_at-height.ensures.height in omega (arith, low, same))
            (sent_plain typed (reverse old.now) way w.if-way.false) (subst (λ (height : ℕ). Lowers old c.lower.new.marking way.target height) w.height_at-height.ensures.height (subst (λ (height : ℕ). Lowers old c.lower.new.marking way.target height) w.height-is c.in_ok-lower.ensures.lowers))
      ];
    }
