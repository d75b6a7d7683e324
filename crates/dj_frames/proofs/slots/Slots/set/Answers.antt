use Rattle.std.proofs.Common.{◌≡◌, ◌≤◌, ◌<◌, ◌^◌, List, length, set, sym, ap, ◌∙◌, arith}
use Rattle.std.proofs.Math.Pow.{pow_mono}
use Rattle.dj_frames.specs.declared.tag.Tag.{Tag}
use Rattle.dj_frames.specs.SlotTree.{tag_in, first_tags, over}
use Rattle.dj_frames.proofs.SlotTags.{length_first, first_set}
use Rattle.dj_frames.proofs.SlotWords.{words_held, words_set}
use Rattle.dj_frames.proofs.slots.Slots.set.Goals as goal

pub overflow_sub-self-inside : goal.overflow_sub-self-inside
overflow_sub-self-inside c =
    let i = c.self.inside in
    let at = tag_in i.depth i.tree in
    let long : i.count ≡ length c.args.self.now = sym (length_first i.count at) ∙ ap length c.self.view_is in
    omega (arith, words_held i.count c.args.slot i.words at c.get.result.now (omega (arith, c.requires, long)) c.get.ensures.tag c.self.invariant.counted)

pub put-requires-clause-few : goal.put-requires-clause-few
put-requires-clause-few c =
    let i = c.self.inside in
    let long : i.count ≡ length c.args.self.now = sym (length_first i.count (tag_in i.depth i.tree)) ∙ ap length c.self.view_is in
    let shallow : i.depth ≤ 63 = omega (arith, c.self.invariant.shallow) in
    let room : 2 ^ i.depth ≤ 2 ^ 63 = pow_mono shallow in
    omega (arith, c.requires, long, room, c.self.invariant.room, c.from_ref.ensures.len)

pub invariant_of-self : goal.invariant_of-self
invariant_of-self c =
    let i = c.self.inside in
    let at = tag_in i.depth i.tree in
    let now = tag_in i.depth c.in_ok-self-inside.field-0 in
    let long : i.count ≡ length c.args.self.now = sym (length_first i.count at) ∙ ap length c.self.view_is in
    let within : c.args.slot < i.count = omega (arith, c.requires, long) in
    record {
      shallow = c.self.invariant.shallow;
      room = c.self.invariant.room;
      counted = words_set i.words c.in_ok-words.words i.count c.args.slot at (first_tags i.count now) c.get.result.now c.args.tag within c.get.ensures.tag c.self.invariant.counted (omega arith)
          (first_set i.count c.args.slot c.args.tag at now within (λ s lt. c.in_ok-self-inside.ensures.put s (omega (arith, lt, c.self.invariant.room)) ∙ ap (λ (tags : List Tag). over c.args.slot tags at s) c.from_ref.ensures.value));
      marked = c.in_ok-self-inside.ensures.marked;
    }

pub returns-clause-ok : goal.returns-clause-ok
returns-clause-ok c =
    let i = c.self.inside in
    let long : i.count ≡ length c.args.self.now = sym (length_first i.count (tag_in i.depth i.tree)) ∙ ap length c.self.view_is in
    first_set i.count c.args.slot c.args.tag (tag_in i.depth i.tree) (tag_in i.depth c.in_ok-self-inside.field-0) (omega (arith, c.requires, long))
    (λ s lt. c.in_ok-self-inside.ensures.put s (omega (arith, lt, c.self.invariant.room)) ∙ ap (λ (tags : List Tag). over c.args.slot tags (tag_in i.depth i.tree) s) c.from_ref.ensures.value) ∙ ap (λ (list : List Tag). set list c.args.slot c.args.tag) c.self.view_is
