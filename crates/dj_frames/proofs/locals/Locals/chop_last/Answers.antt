use Rattle.dj_frames.proofs.Spreading.{spread_front}
use Rattle.dj_frames.proofs.locals.Locals.chop_last.Goals as goal

pub invariant_of-self-2 : goal.invariant_of-self-2
invariant_of-self-2 c =
    let before = c.self.inside in
    record {
      spread = rw (c.truncate.ensures.first, c.len.ensures.len, c.words.ensures.words) (spread_front c.pop.new.self before.values before.slots c.in_ok-last.last c.in_ok-last.ensures c.self.invariant.spread);
      first = c.unborn_before-self-inside.ensures.first before.values c.pop.new.self c.self.invariant.first (record { last = c.in_ok-last.last; is = c.in_ok-last.ensures }) c.len-2.ensures;
    }
