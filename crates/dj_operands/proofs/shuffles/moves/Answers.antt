use Rattle.std.proofs.Common.{map, sym, ap, ◌∙◌, Some}
use Rattle.dj_operands.specs.Stacks.{stacked, view_form}
use Rattle.dj_operands.proofs.Moving.{by_form}
use Rattle.dj_operands.proofs.shuffles.moves.Goals as goal

pub returns-in_ok-rearrange-in-Some : goal.returns-in_ok-rearrange-in-Some
returns-in_ok-rearrange-in-Some c = record { moved = ap Some c.in_ok-rearrange-in-Some.ensures.moved ∙ sym (by_form (map view_form c.args.forms.now) (stacked c.args.stack.now) _ (sym c.in-Some.ensures.first)) }

pub returns-in-None : goal.returns-in-None
returns-in-None c = record { moved = sym (by_form (map view_form c.args.forms.now) (stacked c.args.stack.now) _ (sym c.in-None.ensures.first)) }
