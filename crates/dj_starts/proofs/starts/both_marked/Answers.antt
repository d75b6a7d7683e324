use Rattle.std.proofs.Common.{refl}
use Rattle.std.proofs.lemmas.Bool.{false≢true}
use Rattle.dj_starts.proofs.PcLemmas.{from_start}
use Rattle.dj_starts.proofs.Finding.{found_none, found_skip, found_push, found_all}
use Rattle.dj_starts.proofs.starts.both_marked.Goals as goal
use Rattle.dj_starts.proofs.starts.both_marked.Goals.{then-is_both_marked+in_ok-push, else-is_both_marked}

pub loop-at-init : goal.loop-at-init
loop-at-init c = rw c.new-starts.ensures (found_none c.args.instructions.now c.args.seen.now c.args.begins.now)

pub loop-at-preserved : goal.loop-at-preserved
loop-at-preserved c =
    let all = c.args.instructions.now in
    let i = c.loop-at.at-index in
    let rising = from_start all c.requires.rising in
    elim c.if-is_both_marked.branch [
      | then-is_both_marked+in_ok-push w ↦ let both = w.if-is_both_marked.ensures.exact.0 refl in rw (w.starts-is, w.in_ok-push.ensures.ok) (found_push all c.args.seen.now c.args.begins.now rising i c.at-item.result c.loop-at-test.true c.at-item.is c.loop-at.starts c.loop-at.invariant both.0 both.1)
      | else-is_both_marked w ↦ rw w.starts-is (found_skip all c.args.seen.now c.args.begins.now rising i c.at-item.result c.loop-at-test.true c.at-item.is c.loop-at.starts c.loop-at.invariant (λ one other. false≢true (w.if-is_both_marked.ensures.exact.1 (one, other))))
    ]

pub returns : goal.returns
returns c = record { exact = found_all c.args.instructions.now c.loop-at.at-index c.args.seen.now c.args.begins.now c.loop-at.starts c.loop-at-test.false c.loop-at.invariant; rising = c.loop-at.invariant.pairs }
