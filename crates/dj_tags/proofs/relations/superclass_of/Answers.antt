use Rattle.std.proofs.Common.{◌≡◌, Some, get_or, ◌∙◌}
use Rattle.dj_tags.proofs.Superclasses.{superclass_at, copied_some}
use Rattle.dj_tags.proofs.relations.superclass_of.Goals as goal

pub returns-clause-one : goal.returns-clause-one
returns-clause-one c = λ other has.
    let header = c.index-as_slice-at.result in
    let at : (get_or c.args.headers.now c.in_ok-at.at header).superclass ≡ Some other = superclass_at c.args.headers.now c.as_slice.ensures.distinct c.in_ok-at.at header c.args.class.now other c.in_ok-at.ensures.place has in
    copied_some c.as_ref.result other (c.as_ref.ensures.value ∙ rw c.as_slice.ensures.headers at)
