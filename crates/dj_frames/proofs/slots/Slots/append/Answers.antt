use Rattle.std.proofs.Common.{◌≡◌, ℕ, ◌+◌, List, ◌++◌, length, rules, refl, ap, ◌∙◌, arith}
use Rattle.std.proofs.lemmas.Grind.{common_steps}
use Rattle.dj_frames.specs.declared.tag.Tag.{Tag}
use Rattle.dj_frames.specs.SlotTree.{tag_in, first_tags}
use Rattle.dj_frames.proofs.SlotTags.{first_appended}
use Rattle.dj_frames.proofs.SlotWords.{words_behind}
use Rattle.dj_frames.proofs.slots.Slots.append.Goals as goal

pub invariant_of-self : goal.invariant_of-self
invariant_of-self c =
    let i = c.self.inside in
    let tags = c.args.tags.now in
    let total : c.in_ok-count.count ≡ i.count + length tags = first_of (omega arith, search rules, grind (arith, common_steps)) in
    record {
      shallow = c.self.invariant.shallow;
      room = first_of (search rules, grind (arith, common_steps), omega arith);
      counted = words_behind i.words c.in_ok-words.words (first_tags i.count (tag_in i.depth i.tree)) tags (first_tags c.in_ok-count.count (tag_in i.depth i.tree)) c.self.invariant.counted c.in_ok-words.ensures.sum
          (ap (λ (n : ℕ). first_tags n (tag_in i.depth i.tree)) total ∙ first_appended i.count tags (tag_in i.depth i.tree) (tag_in i.depth i.tree) (tag_in i.depth i.tree) (λ s lt. refl) (λ s lt. c.if-stand.ensures.stand s refl));
      marked = c.self.invariant.marked;
    }

pub invariant_of-self-2 : goal.invariant_of-self-2
invariant_of-self-2 c =
    let i = c.self.inside in
    let tags = c.args.tags.now in
    let total : c.in_ok-count.count ≡ i.count + length tags = first_of (omega arith, search rules, grind (arith, common_steps)) in
    record {
      shallow = first_of (search rules, grind (arith, common_steps), omega arith);
      room = first_of (search rules, grind (arith, common_steps), omega arith);
      counted = words_behind i.words c.in_ok-words.words (first_tags i.count (tag_in i.depth i.tree)) tags (first_tags c.in_ok-count.count (tag_in c.in_ok-depth.depth c.in_ok-tree.tree)) c.self.invariant.counted c.in_ok-words.ensures.sum
          (ap (λ (n : ℕ). first_tags n (tag_in c.in_ok-depth.depth c.in_ok-tree.tree)) total
          ∙ first_appended i.count tags (tag_in i.depth i.tree) (tag_in c.in_ok-depth.depth c.in_ok-depth.tree) (tag_in c.in_ok-depth.depth c.in_ok-tree.tree) (λ s lt. c.in_ok-depth.ensures.same s (omega (arith, lt, c.self.invariant.room)))
          (λ s lt. c.in_ok-tree.ensures.put s (omega (arith, lt, total, c.in_ok-depth.ensures.room))));
      marked = c.in_ok-tree.ensures.marked;
    }

pub returns-clause-ok : goal.returns-clause-ok
returns-clause-ok c =
    let i = c.self.inside in
    let tags = c.args.tags.now in
    let total : c.in_ok-count.count ≡ i.count + length tags = first_of (omega arith, search rules, grind (arith, common_steps)) in
    ap (λ (n : ℕ). first_tags n (tag_in c.in_ok-depth.depth c.in_ok-tree.tree)) total
    ∙ first_appended i.count tags (tag_in i.depth i.tree) (tag_in c.in_ok-depth.depth c.in_ok-depth.tree) (tag_in c.in_ok-depth.depth c.in_ok-tree.tree) (λ s lt. c.in_ok-depth.ensures.same s (omega (arith, lt, c.self.invariant.room)))
    (λ s lt. c.in_ok-tree.ensures.put s (omega (arith, lt, total, c.in_ok-depth.ensures.room))) ∙ ap (λ (list : List Tag). list ++ tags) c.self.view_is

pub returns-then-stand-clause-ok : goal.returns-then-stand-clause-ok
returns-then-stand-clause-ok c =
    let i = c.self.inside in
    let tags = c.args.tags.now in
    let total : c.in_ok-count.count ≡ i.count + length tags = first_of (omega arith, search rules, grind (arith, common_steps)) in
    ap (λ (n : ℕ). first_tags n (tag_in i.depth i.tree)) total
    ∙ first_appended i.count tags (tag_in i.depth i.tree) (tag_in i.depth i.tree) (tag_in i.depth i.tree) (λ s lt. refl) (λ s lt. c.if-stand.ensures.stand s refl) ∙ ap (λ (list : List Tag). list ++ tags) c.self.view_is
