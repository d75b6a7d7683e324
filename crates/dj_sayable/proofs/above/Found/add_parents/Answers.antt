use Rattle.std.proofs.Common.{◌≡◌, ◌⊎◌, Some, Contains}
use Rattle.dj_names.specs.Headers.{HasParent}
use Rattle.dj_sayable.proofs.GatheringLemmas.{gains_like, gains_then}
use Rattle.dj_sayable.proofs.ParentLemmas.{parents_here}
use Rattle.dj_sayable.proofs.above.Found.add_parents.Goals as goal

pub returns-in_ok-add_all-in-Some-clause-gains : goal.returns-in_ok-add_all-in-Some-clause-gains
returns-in_ok-add_all-in-Some-clause-gains c =
    let headers = c.args.headers.now in
    let class = c.args.class.now in
    let header = c.index-as_slice-at.result in
    let old = c.args.self.now.names in
    let new = c.add_all.new.self.names in
    gains_like old new (λ name. (header.superclass ≡ Some name) ⊎ Contains header.interfaces name) (HasParent headers class)
    (parents_here headers c.in-Some.at class header c.as_slice.ensures.distinct c.in-Some.ensures.place (rw c.as_slice.ensures.headers at c.index-as_slice-at.is))
    (gains_then old c.add_superclass.new.self.names new (λ name. header.superclass ≡ Some name) (Contains header.interfaces) c.in_ok-add_superclass-in-Some.ensures.gains (rw c.as_slice-in-Some.ensures at c.in_ok-add_all-in-Some.ensures.gains))
