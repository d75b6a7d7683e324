use Rattle.std.proofs.Common.{sym, ◌∙◌}
use Rattle.std.proofs.lemmas.Map.Lookups.{exact_bytes}
use Rattle.dj_causes.proofs.causes.shared.Goals as goal

pub returns-in_ok-copy-in-Some : goal.returns-in_ok-copy-in-Some
returns-in_ok-copy-in-Some c = record { equal = c.in_ok-copy-in-Some.ensures.equal ∙ sym (exact_bytes c.args.name c.in-Some.known.now c.in-Some.ensures.same_key) }
