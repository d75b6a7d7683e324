use Rattle.std.proofs.Common.{Contains, sym, subst}
use Rattle.std.proofs.lemmas.Bool.{false≢true}
use Rattle.dj_names.proofs.IdentifiersLemmas.{by_first, empty_is_free}
use Rattle.dj_names.proofs.identifiers.is_reserved.Goals as goal

pub returns-in-empty : goal.returns-in-empty
returns-in-empty c = record { reserved = (λ is. absurd (false≢true is), λ is. absurd (empty_is_free c.args.units.now c.in-empty.len_below is)) }

pub returns-in-len1-up : goal.returns-in-len1-up
returns-in-len1-up c =
    let e = by_first c.args.units.now c.in-len1-up.len_at_least in
    let words = c.reserved_by_first.ensures.words in
    record {
      reserved = (
        λ is. e.0 (subst (λ these. Contains these c.args.units.now) words (c.is_among.ensures.among.0 is)),
        λ is. c.is_among.ensures.among.1 (subst (λ these. Contains these c.args.units.now) (sym words) (e.1 is)),
      );
    }
