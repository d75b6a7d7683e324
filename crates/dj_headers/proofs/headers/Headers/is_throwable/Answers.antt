use Rattle.std.proofs.Common.{◌≡◌, [], map, codes, ap}
use Rattle.std.proofs.lemmas.Option.{MatchOption-at_none}
use Rattle.dj_headers.specs.Roots.{AreRoots}
use Rattle.dj_headers.specs.Table.{bare}
use Rattle.dj_headers.proofs.PathLemmas.{word_alone, Implements-bare}
use Rattle.dj_headers.proofs.headers.Headers.is_throwable.Goals as goal

pub returns-in-None : goal.returns-in-None
returns-in-None c =
    let headers = c.self.inside.headers in
    let throwable = codes "java/lang/Throwable" in
    let none = MatchOption-at_none (headers ≡ []) AreRoots c.in-None.is c.self.invariant.known in
    let alone = word_alone (map bare headers) throwable c.as_slice.result.now c.args.class.now c.is_word.result (ap (map bare) none) c.as_slice.ensures.units c.is_word.ensures.word in
    let lines = Implements-bare headers c.args.class.now throwable in
    rw (← c.self.view_is) (record { throwable = (λ yes. lines.0 (alone.0 yes), λ is. alone.1 (lines.1 is)) })
