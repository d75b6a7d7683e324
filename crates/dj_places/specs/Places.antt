-- Places: the statements and expressions of a body are numbered from 0 in the order of its text, each before its parts. Variables, labels,
-- groups and catch clauses have no place. So a tree takes as many places as it weighs.
use Rattle.std.specs.Prelude.{ℕ, min, Option, Some, None, if◌then◌else◌, Bool}
use Rattle.dj_places.specs.Rules.{Rules, NoRule, Rule, ◌and◌}

-- the greatest place that is told: 2 ^ 32 - 1
abbrev pub most_place : ℕ
most_place = 4294967295

-- a place as it is told: itself, or the greatest one where it is more
abbrev pub told : ℕ → ℕ
told place = min place most_place

-- the lower of two places, where there are two
abbrev pub lower : Option ℕ → Option ℕ → Option ℕ
lower None second = second
lower (Some first) None = Some first
lower (Some first) (Some second) = Some (min first second)

-- the place of a rule that is broken, as it is told
abbrev pub broken_at : ℕ → Bool → Option ℕ
broken_at place kept = if kept then None else Some (told place)

-- the lowest place at which a rule is broken, as it is told
abbrev pub first_broken : Rules → Option ℕ
first_broken NoRule = None
first_broken (Rule place kind kept) = broken_at place kept
first_broken (first and second) = lower (first_broken first) (first_broken second)
