use Rattle.std.proofs.Common.{◌≡◌, ℕ, rules, ap, ◌∙◌, arith}
use Rattle.std.proofs.lemmas.Grind.{common_steps}
use Rattle.dj_frames.specs.SlotTree.{tag_in, first_tags, words_in}
use Rattle.dj_frames.proofs.SlotTags.{first_are}
use Rattle.dj_frames.proofs.slots.Slots.from_items.Goals as goal

pub invariant_of-result : goal.invariant_of-result
invariant_of-result c =
    let made = tag_in 5 c.in_ok-leaf.field-0 in
    let same : first_tags c.len-count.result made ≡ c.args.tags = ap (λ (n : ℕ). first_tags n made) c.len-count.ensures ∙ first_are c.args.tags made (λ s lt. c.in_ok-leaf.ensures.tags 5 s) in
    let words = ap words_in same in
    let slice : c.as_slice-then-count.result.now ≡ c.args.tags = first_of (cc, search rules, grind (arith, common_steps)) in
    let given = ap words_in slice in
    record {
      shallow = first_of (search rules, grind (arith, common_steps), omega arith);
      room = first_of (search rules, grind (arith, common_steps), omega arith);
      counted = omega (arith, words, given, c.in_ok-words.ensures.sum);
      marked = c.in_ok-leaf.ensures.marked;
    }

pub returns-then-count : goal.returns-then-count
returns-then-count c =
    let made = tag_in 5 c.in_ok-leaf.field-0 in
    record { same = ap (λ (n : ℕ). first_tags n made) c.len-count.ensures ∙ first_are c.args.tags made (λ s lt. c.in_ok-leaf.ensures.tags 5 s) }
