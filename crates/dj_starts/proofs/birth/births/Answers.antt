use Rattle.dj_code.specs.MethodCode.{view_typed}
use Rattle.dj_starts.proofs.Bearing.{births_are, births_rise}
use Rattle.dj_starts.proofs.PcLemmas.{from_start}
use Rattle.dj_starts.proofs.birth.births.Goals as goal

pub returns : goal.returns
returns c =
    let table = rw (c.as_slice-instructions.ensures, c.as_slice.ensures) at c.in_ok-calls.ensures.table in
    let births = rw (c.as_slice-3.ensures, c.as_slice-4.ensures, c.as_slice-5.ensures) at c.in_ok-births.ensures.births in
    record {
      exact = births_are (view_typed c.args.typed.now) c.in_ok-calls.calls c.in_ok-written.written (from_start c.args.typed.now.code.instructions c.requires.rising) table c.in_ok-written.ensures.exact c.in_ok-news.news c.in_ok-births.births (rw c.as_slice-instructions.ensures at c.in_ok-news.ensures.exact) births;
      rising = births_rise c.in_ok-calls.calls c.in_ok-written.written c.in_ok-news.news c.in_ok-births.births c.in_ok-news.ensures.rising births;
    }
