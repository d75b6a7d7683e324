use Rattle.std.proofs.Common.{◌≡◌, ◌↔◌, IsTrue, Any, rules}
use Rattle.dj_names.proofs.IdentifiersLemmas.{among}
use Rattle.dj_names.proofs.identifiers.is_among.Goals as goal

pub returns : goal.returns
returns c =
    let found : IsTrue c.any.result ↔ Any (λ word. word.now ≡ c.args.units.now) c.args.words.now = search rules in
    let e = among c.args.words.now c.args.units.now in
    record { among = (λ is. e.0 (found.0 is), λ is. found.1 (e.1 is)) }
