use Rattle.std.proofs.Common.{◌∙◌}
use Rattle.dj_checked.proofs.WholeLemmas.{whole_is}
use Rattle.dj_checked.proofs.whole.is_whole.Goals as goal

pub returns : goal.returns
returns c = record {
  whole = whole_is c.args.headers.now c.args.class.now c.as_slice.result.now c.in_ok-above.above c.as_slice-2.result.now c.have_headers.result (c.as_slice.ensures ∙ c.in_ok-own.ensures.one) c.in_ok-above.ensures.above
      c.as_slice-2.ensures c.have_headers.ensures.headers;
}
