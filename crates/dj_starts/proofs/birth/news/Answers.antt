use Rattle.dj_instructions.specs.Instructions.{view_instructions}
use Rattle.dj_starts.proofs.Bearing.{news_are}
use Rattle.dj_starts.proofs.PcLemmas.{from_start}
use Rattle.dj_starts.proofs.birth.news.Goals as goal

pub returns-clause-exact : goal.returns-clause-exact
returns-clause-exact c =
    news_are (view_instructions c.args.instructions.now) c.in_ok-marks.marks c.mark_news.new.marks c.in_ok-news.news (from_start c.args.instructions.now c.requires.rising) c.in_ok-marks.ensures.room c.in_ok-marks.ensures.none c.mark_news.ensures.more
    (rw (c.as_slice.ensures, c.as_slice-2.ensures) at c.in_ok-news.ensures.exact)
