use Rattle.std.proofs.Common.{◌+◌, List, take, sym, subst}
use Rattle.std.proofs.lemmas.List.{take_more}
use Rattle.dj_code.specs.MethodCode.{view_typed}
use Rattle.dj_starts.specs.declared.ways.Edge.{Edge}
use Rattle.dj_receivers.specs.declared.marking.Marking.{Marking}
use Rattle.dj_receivers.specs.Walks.{SendsAll}
use Rattle.dj_receivers.proofs.Falling.{all_more, all_skip}
use Rattle.dj_receivers.proofs.marking.send_all.Goals as goal
use Rattle.dj_receivers.proofs.marking.send_all.Goals.{then-is_marked+in_ok-send, else-is_marked}

pub loop-way-preserved : goal.loop-way-preserved
loop-way-preserved c =
    let typed = view_typed c.args.typed.now in
    let joins = c.args.joins.now in
    let old = c.args.marking.now in
    let ways = c.args.ways.now in
    let i = c.loop-way.way-index in
    elim c.if-is_marked.branch [
      | then-is_marked+in_ok-send w ↦ subst (λ (m : Marking). SendsAll typed joins old m (take (i + 1) ways)) (sym w.marking-is)
          (subst (λ (list : List Edge). SendsAll typed joins old w.send.new.marking list) (sym (take_more ways i _ c.loop-way-test.true)) (all_more typed joins old ways c.loop-way.marking w.send.new.marking (take i ways) _ c.loop-way.invariant w.in_ok-send.ensures.sends))
      | else-is_marked w ↦ subst (λ (m : Marking). SendsAll typed joins old m (take (i + 1) ways)) (sym w.marking-is)
          (subst (λ (list : List Edge). SendsAll typed joins old c.loop-way.marking list) (sym (take_more ways i _ c.loop-way-test.true))
          (all_skip typed joins old ways c.loop-way.marking (take i ways) _ (λ marked. (let yes = c.is_marked.ensures.exact.1 marked in let none = w.if-is_marked.false in cc)) c.loop-way.invariant))
    ]
