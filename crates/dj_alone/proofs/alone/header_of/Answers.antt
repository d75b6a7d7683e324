use Rattle.std.proofs.Common.{sym, ◌∙◌}
use Rattle.dj_kinds.proofs.HeaderLemmas.{header_of-none, header_of-at}
use Rattle.dj_alone.proofs.alone.header_of.Goals as goal

pub returns-in-None : goal.returns-in-None
returns-in-None c = record { header = sym (header_of-none c.args.headers.now c.args.class.now c.in-None.ensures.place) }

pub returns-in-Some : goal.returns-in-Some
returns-in-Some c = record {
  header = c.header_at.ensures.header ∙ sym (header_of-at c.args.headers.now c.in-Some.at c.args.class.now c.header_at.ensures.distinct c.in-Some.ensures.place);
}
