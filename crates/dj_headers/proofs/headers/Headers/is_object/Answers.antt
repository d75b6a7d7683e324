use Rattle.std.proofs.Common.{◌≡◌, []}
use Rattle.std.proofs.lemmas.Option.{MatchOption-at_none}
use Rattle.dj_names.specs.Assignable.{object_name}
use Rattle.dj_headers.specs.Roots.{AreRoots}
use Rattle.dj_headers.proofs.PathLemmas.{word_alone}
use Rattle.dj_headers.proofs.headers.Headers.is_object.Goals as goal

pub returns-in-None : goal.returns-in-None
returns-in-None c =
    let headers = c.self.inside.headers in
    let none = MatchOption-at_none (headers ≡ []) AreRoots c.in-None.is c.self.invariant.known in
    rw (← c.self.view_is) (record { object = word_alone headers object_name c.as_slice.result.now c.args.class.now c.is_word.result none c.as_slice.ensures.units c.is_word.ensures.word })
