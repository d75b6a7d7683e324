use Rattle.std.proofs.Common.{map, sym, ap, ◌∙◌, Some}
use Rattle.dj_pending.specs.Stacks.{stacked}
use Rattle.dj_pending.specs.Forms.{view_form}
use Rattle.dj_pending.proofs.ShuffleLemmas.{by_form}
use Rattle.dj_pending.proofs.moving.moves.Goals as goal

pub returns-in_ok-rearrange-in-Some : goal.returns-in_ok-rearrange-in-Some
returns-in_ok-rearrange-in-Some c = record { moved = ap Some c.in_ok-rearrange-in-Some.ensures.moved ∙ sym (by_form (map view_form c.args.forms.now) (stacked c.args.stack.now) _ (sym c.in-Some.ensures.first)) }

pub returns-in-None : goal.returns-in-None
returns-in-None c = record { moved = sym (by_form (map view_form c.args.forms.now) (stacked c.args.stack.now) _ (sym c.in-None.ensures.first)) }
