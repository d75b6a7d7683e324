use Rattle.dj_world.proofs.ClashLemmas.{final_answer}
use Rattle.dj_world.proofs.parents.is_final.Goals as goal

pub returns-in-Some : goal.returns-in-Some
returns-in-Some c = record {
  exact =
      final_answer c.args.headers.now c.as_slice.result.now c.args.class.now c.in-Some.at c.index-as_slice-at.result c.is_final_header.result c.requires.distinct c.in-Some.ensures.place c.as_slice.ensures.headers
      c.index-as_slice-at.is c.is_final_header.ensures.exact;
}
