use Rattle.std.proofs.Common.{refl}
use Rattle.std.proofs.lemmas.Bool.{false≢true}
use Rattle.dj_names.specs.Types.{Char, Short}
use Rattle.dj_headers.proofs.TypeViews.{wider_than_byte, wider_than_short, none_wider_than_long, view-char, view-short}
use Rattle.dj_headers.proofs.assignable.is_wider.Goals as goal

pub returns-in-Short-matches-3 : goal.returns-in-Short-matches-3
returns-in-Short-matches-3 c = record { wider = (λ yes. wider_than_byte c.args.from.now c.args.to.now c.in-Byte.is c.in-Short-matches.is, λ there. refl) }

pub returns-in-Short-matches-4 : goal.returns-in-Short-matches-4
returns-in-Short-matches-4 c = record { wider = (λ yes. wider_than_byte c.args.from.now c.args.to.now c.in-Byte.is c.in-Short-matches.is, λ there. refl) }

pub returns-in-Int-matches-3 : goal.returns-in-Int-matches-3
returns-in-Int-matches-3 c = record { wider = (λ yes. wider_than_short Char refl c.args.from.now c.args.to.now (view-char c.args.from.now c.in-Char.is) c.in-Int-matches.is, λ there. refl) }

pub returns-in-Int-matches-2-3 : goal.returns-in-Int-matches-2-3
returns-in-Int-matches-2-3 c = record { wider = (λ yes. wider_than_short Short refl c.args.from.now c.args.to.now (view-short c.args.from.now c.in-Short.is) c.in-Int-matches-2.is, λ there. refl) }

pub returns-in_default-matches-4 : goal.returns-in_default-matches-4
returns-in_default-matches-4 c = record {
  wider = (
    λ yes. absurd (false≢true yes),
    λ there. absurd (none_wider_than_long c.args.from.now c.args.to.now c.in-Long.is c.in_default-matches-4.not-Float c.in_default-matches-4.not-Double there),
  );
}
