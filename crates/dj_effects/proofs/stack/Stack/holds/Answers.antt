use Rattle.std.proofs.Common.{◌≡◌, ◌∙◌, ap, sym, false, true, refl}
use Rattle.std.specs.List.{list_any}
use Rattle.dj_frames.specs.Frames.{view_tags, is_unborn}
use Rattle.dj_effects.specs.Stacked.{tags_of}
use Rattle.dj_effects.proofs.Lists.{any_stacked}
use Rattle.dj_effects.proofs.stack.Stack.holds.Goals as goal

pub returns-then-is_pushed : goal.returns-then-is_pushed
returns-then-is_pushed c =
    let test = is_unborn c.args.unborn in
    let top : list_any test (view_tags (tags_of c.self.inside.top.items)) ≡ true = rw (← c.as_slice.ensures) (sym c.is_pushed.ensures.pushed ∙ c.if-is_pushed.true) in
    let whole = any_stacked test c.self.inside.below c.self.inside.top.items in
    record { holds = c.if-is_pushed.true ∙ sym (ap (λ s. list_any test (view_tags s)) (sym c.self.view_is) ∙ whole ∙ rw top refl) }

pub returns-else-is_pushed : goal.returns-else-is_pushed
returns-else-is_pushed c =
    let test = is_unborn c.args.unborn in
    let top : list_any test (view_tags (tags_of c.self.inside.top.items)) ≡ false = rw (← c.as_slice.ensures) (sym c.is_pushed.ensures.pushed ∙ c.if-is_pushed.false) in
    let whole = any_stacked test c.self.inside.below c.self.inside.top.items in
    record { holds = c.is_kept.ensures.kept ∙ sym (ap (λ s. list_any test (view_tags s)) (sym c.self.view_is) ∙ whole ∙ rw top refl) }
