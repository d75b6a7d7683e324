use Rattle.dj_headers.proofs.PlaceLemmas.{HasPlace-extends}
use Rattle.dj_headers.proofs.places.learn_header.Goals as goal

pub returns-clause-known : goal.returns-clause-known
returns-clause-known c = λ name parent.
    HasPlace-extends c.learn_parents.new.places c.learn.new.places name c.learn.ensures.extends (c.in_ok-learn_parents.ensures.known name (rw c.as_slice.ensures parent))
