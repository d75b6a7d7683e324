use Rattle.dj_kinds.specs.Asking.{call_of}
use Rattle.dj_kinds.proofs.ChoiceLemmas.{alone_if, two_chosen}
use Rattle.dj_kinds.proofs.choice.is_alone.Goals as goal

pub returns : goal.returns
returns c =
    let asked = c.args.asked.now in
    let sites = c.sites-sites.result.now in
    record {
      alone = λ is. alone_if asked.headers.now asked.members.now sites.names sites.members c.sites-sites.ensures.covers (call_of asked) c.args.member ((rw c.as_slice.ensures at c.all_named.ensures.all) is);
      two = λ is. two_chosen asked.headers.now asked.members.now sites.names sites.members c.sites-sites.ensures.covers (call_of asked) c.args.member ((rw c.as_slice.ensures at c.all_named.ensures.other) is);
    }
