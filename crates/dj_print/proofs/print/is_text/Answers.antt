use Rattle.std.proofs.Common.{not, sym, ap, ◌∙◌}
use Rattle.std.proofs.lemmas.Bool.{false≢true}
use Rattle.dj_syntax.specs.UnitText.{unit_text}
use Rattle.dj_print.proofs.ComparedText.{is_other, is_whole, none_left}
use Rattle.dj_print.proofs.print.is_text.Goals as goal

pub returns-then-not-differs : goal.returns-then-not-differs
unfolding unit_text
returns-then-not-differs c =
    let same = c.if-not-differs.true in
    record { text = (λ none. is_whole c.whole_unit.ensures.prints same (sym c.is_empty.ensures ∙ none), λ is. c.is_empty.ensures ∙ none_left c.whole_unit.ensures.prints same is) }

pub returns-else-not-differs : goal.returns-else-not-differs
unfolding unit_text
returns-else-not-differs c =
    let other = c.if-not-differs.false in
    record { text = (λ none. absurd (false≢true (sym (ap not other) ∙ none)), λ is. absurd (is_other c.whole_unit.ensures.prints other is)) }
