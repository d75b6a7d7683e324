use Rattle.std.proofs.Common.{arith}
use Rattle.dj_words.proofs.Copied.{one_more_word}
use Rattle.dj_words.proofs.order.owned.Goals as goal

pub loop-word-preserved : goal.loop-word-preserved
loop-word-preserved c =
    one_more_word c.args.words.now c.loop-word.word-index _ c.loop-word.owned.items c.push.new.self.items c.in_ok-from_str.field-0 (omega arith) c.loop-word.invariant
    c.in_ok-from_str.ensures.ok c.in_ok-push.ensures.items
