use Rattle.std.proofs.Common.{refl}
use Rattle.std.proofs.lemmas.Bool.{false≢true}
use Rattle.dj_starts.proofs.Bearing.{news_step, news_skip, news_end}
use Rattle.dj_starts.proofs.birth.mark_news.Goals as goal
use Rattle.dj_starts.proofs.birth.mark_news.Goals.{then-is_new, else-is_new}

pub loop-at-init : goal.loop-at-init
loop-at-init c = λ after more. more

pub loop-at-preserved : goal.loop-at-preserved
loop-at-preserved c = λ after more.
    let all = c.args.instructions.now in
    let i = c.loop-at.at-index in
    c.loop-at.invariant after (elim c.if-is_new.branch [
      | then-is_new w ↦ news_step all i c.at-item.result c.loop-at-test.true c.at-item.is (w.if-is_new.ensures.exact.0 refl) c.loop-at.marks w.mark.new.marks after w.mark.ensures.more (rw w.marks-is at more)
      | else-is_new w ↦ news_skip all i c.at-item.result c.loop-at-test.true c.at-item.is (λ new. false≢true (w.if-is_new.ensures.exact.1 new)) c.loop-at.marks after (rw w.marks-is at more)
    ])

pub returns : goal.returns
returns c = record { more = c.loop-at.invariant c.loop-at.marks (news_end c.args.instructions.now c.loop-at.at-index c.loop-at.marks c.loop-at-test.false) }
