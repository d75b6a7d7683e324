use Rattle.dj_checked.specs.Sites.{site_of}
use Rattle.dj_checked.specs.Walks.{note_whole}
use Rattle.dj_checked.proofs.PartLemmas.{leaf_noted}
use Rattle.dj_checked.proofs.leaves.text.Goals as goal

pub returns : goal.returns
returns c = record {
  walked = leaf_noted (λ place found walk. note_whole (site_of c.args.site.now) place found walk) c.args.walk.now _ c.step-place.ensures.stepped c.step-place.ensures.place c.in_ok-found.ensures.typed c.in_ok-note_whole.ensures.noted;
  typed = c.in_ok-found.ensures.typed;
}
