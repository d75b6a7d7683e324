use Rattle.std.proofs.Common.{sym, ◌∙◌}
use Rattle.dj_checked.proofs.FlagLemmas.{flag_absent, flag_at}
use Rattle.dj_checked.proofs.casting.has_flag.Goals as goal

pub returns-in-None : goal.returns-in-None
returns-in-None c = record { flag = sym (flag_absent c.args.flag c.args.headers.now c.args.class.now c.in-None.ensures.place) }

pub returns-in-Some : goal.returns-in-Some
returns-in-Some c = record {
  flag = c.flag_in.ensures.flag ∙ flag_at c.args.flag c.args.headers.now c.in-Some.at c.args.class.now _ c.header_at.ensures.distinct c.in-Some.ensures.place c.header_at.ensures.header;
}
