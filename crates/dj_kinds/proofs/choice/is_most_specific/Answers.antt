use Rattle.dj_kinds.specs.Asking.{call_of}
use Rattle.dj_kinds.proofs.ChoiceLemmas.{most_if}
use Rattle.dj_kinds.proofs.choice.is_most_specific.Goals as goal

pub returns : goal.returns
returns c =
    let asked = c.args.asked.now in
    let sites = c.sites-sites.result.now in
    record {
      most = most_if asked.headers.now asked.members.now sites.names sites.members c.sites-sites.ensures.covers (call_of asked) c.args.member c.all_named.result (c.is_candidate.ensures.candidate.0 c.if-not-is_candidate.false)
          (rw c.as_slice.ensures at c.all_named.ensures.all) (rw c.as_slice.ensures at c.all_named.ensures.other);
    }
