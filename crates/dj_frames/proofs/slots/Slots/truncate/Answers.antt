use Rattle.std.proofs.Common.{◌≡◌, ◌≤◌, take, length, sym, ap, ◌∙◌, arith}
use Rattle.dj_frames.specs.SlotTree.{tag_in}
use Rattle.dj_frames.proofs.SlotTags.{length_first, take_first, take_whole}
use Rattle.dj_frames.proofs.slots.Slots.truncate.Goals as goal

pub overflow_cast-len : goal.overflow_cast-len
overflow_cast-len c =
    let i = c.self.inside in
    let long : i.count ≡ length c.args.self.now = sym (length_first i.count (tag_in i.depth i.tree)) ∙ ap length c.self.view_is in
    omega (arith, long)

pub overflow_cast-self : goal.overflow_cast-self
overflow_cast-self c =
    let i = c.self.inside in
    let long : i.count ≡ length c.args.self.now = sym (length_first i.count (tag_in i.depth i.tree)) ∙ ap length c.self.view_is in
    let shorter : c.args.len ≤ i.count = omega (arith, long) in
    omega (arith, c.words_between-cut.ensures.words shorter, c.self.invariant.counted)

pub overflow_sub-self : goal.overflow_sub-self
overflow_sub-self c =
    let i = c.self.inside in
    let long : i.count ≡ length c.args.self.now = sym (length_first i.count (tag_in i.depth i.tree)) ∙ ap length c.self.view_is in
    let shorter : c.args.len ≤ i.count = omega (arith, long) in
    omega (arith, c.words_between-cut.ensures.words shorter, c.self.invariant.counted)

pub invariant_of-self : goal.invariant_of-self
invariant_of-self c =
    let i = c.self.inside in
    let long : i.count ≡ length c.args.self.now = sym (length_first i.count (tag_in i.depth i.tree)) ∙ ap length c.self.view_is in
    let shorter : c.args.len ≤ i.count = omega (arith, long) in
    record {
      shallow = c.self.invariant.shallow;
      room = omega (arith, shorter, c.self.invariant.room);
      counted = omega (arith, c.words_between-cut.ensures.words shorter, c.self.invariant.counted);
      marked = c.self.invariant.marked;
    }

pub returns-then-len : goal.returns-then-len
returns-then-len c =
    let i = c.self.inside in
    let long : i.count ≡ length c.args.self.now = sym (length_first i.count (tag_in i.depth i.tree)) ∙ ap length c.self.view_is in
    record { first = take_first i.count c.args.len (tag_in i.depth i.tree) (omega (arith, long)) ∙ ap (take c.args.len) c.self.view_is }

pub returns-else-len : goal.returns-else-len
returns-else-len c =
    let i = c.self.inside in
    let long : i.count ≡ length c.args.self.now = sym (length_first i.count (tag_in i.depth i.tree)) ∙ ap length c.self.view_is in
    record { first = sym c.self.view_is ∙ take_whole i.count c.args.len (tag_in i.depth i.tree) (omega (arith, long)) ∙ ap (take c.args.len) c.self.view_is }
