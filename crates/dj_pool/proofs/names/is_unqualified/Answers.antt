use Rattle.std.proofs.Common.{ℕ, List, nat_eq, length, ap, ◌∙◌}
use Rattle.std.proofs.lemmas.Bool.{false≢true}
use Rattle.dj_pool.proofs.names.is_unqualified.Goals as goal

pub returns-then-not-is_empty : goal.returns-then-not-is_empty
returns-then-not-is_empty c =
    record { unqualified = (λ yes. record { some_unit = λ e. false≢true (c.if-not-is_empty.ensures ∙ ap (λ (t : List ℕ). nat_eq (length t) 0) e); plain = c.are_plain.ensures.plain.0 yes }, λ h. c.are_plain.ensures.plain.1 h.plain) }
