use Rattle.std.proofs.Common.{◌≡◌, List, Some, length, sym, ap, ◌∙◌, arith}
use Rattle.std.specs.Prelude.{slice_get}
use Rattle.std.proofs.lemmas.Option.{slice_get_past}
use Rattle.dj_frames.specs.declared.tag.Tag.{Tag}
use Rattle.dj_frames.specs.SlotTree.{tag_in}
use Rattle.dj_frames.proofs.SlotTags.{length_first, slice_get_first}
use Rattle.dj_frames.proofs.slots.Slots.get.Goals as goal

pub returns-then-slot-len : goal.returns-then-slot-len
returns-then-slot-len c =
    let i = c.self.inside in
    let long : i.count ≡ length c.args.self.now = sym (length_first i.count (tag_in i.depth i.tree)) ∙ ap length c.self.view_is in
    record { tag = ap Some c.get.ensures.tag ∙ sym (slice_get_first i.count c.args.slot (tag_in i.depth i.tree) (omega (arith, long))) ∙ ap (λ (list : List Tag). slice_get list c.args.slot) c.self.view_is }

pub returns-else-slot-len : goal.returns-else-slot-len
returns-else-slot-len c = record { tag = sym (slice_get_past c.args.self.now c.args.slot (omega arith)) }
