use Rattle.std.proofs.Common.{◌≡◌, ℕ, ◌-◌, ◌+◌, List, ◌++◌, length, replicate, rules, ap, ◌∙◌, arith}
use Rattle.std.proofs.lemmas.Grind.{common_steps}
use Rattle.dj_frames.specs.declared.tag.Tag.{Tag}
use Rattle.dj_frames.specs.declared.tag.Tag.TheVariants.{Top}
use Rattle.dj_frames.specs.SlotTree.{tag_in, first_tags}
use Rattle.dj_frames.proofs.SlotTags.{first_padded}
use Rattle.dj_frames.proofs.SlotWords.{words_padded}
use Rattle.dj_frames.proofs.slots.Slots.pad.Goals as goal

pub invariant_of-self : goal.invariant_of-self
invariant_of-self c =
    let i = c.self.inside in
    let missing : ℕ = c.args.count - length c.args.self.now in
    let total : c.in_ok-count.count ≡ i.count + missing = first_of (search rules, grind (arith, common_steps)) in
    let sum : c.in_ok-words.words ≡ i.words + missing = first_of (search rules, grind (arith, common_steps)) in
    record {
      shallow = first_of (search rules, grind (arith, common_steps), omega arith);
      room = first_of (search rules, grind (arith, common_steps), omega arith);
      counted = words_padded i.words c.in_ok-words.words missing (first_tags i.count (tag_in i.depth i.tree)) (first_tags c.in_ok-count.count (tag_in c.in_ok-depth.depth c.in_ok-tree.tree)) c.self.invariant.counted sum
          (ap (λ (n : ℕ). first_tags n (tag_in c.in_ok-depth.depth c.in_ok-tree.tree)) total
          ∙ first_padded i.count missing (tag_in i.depth i.tree) (tag_in c.in_ok-depth.depth c.in_ok-depth.tree) (tag_in c.in_ok-depth.depth c.in_ok-tree.tree) (λ s lt. c.in_ok-depth.ensures.same s (omega (arith, lt, c.self.invariant.room)))
          (λ s lt. c.in_ok-tree.ensures.cut s (omega (arith, lt, total, c.in_ok-depth.ensures.room))));
      marked = c.in_ok-tree.ensures.marked;
    }

pub returns-clause-ok : goal.returns-clause-ok
returns-clause-ok c =
    let i = c.self.inside in
    let missing : ℕ = c.args.count - length c.args.self.now in
    let total : c.in_ok-count.count ≡ i.count + missing = first_of (search rules, grind (arith, common_steps)) in
    ap (λ (n : ℕ). first_tags n (tag_in c.in_ok-depth.depth c.in_ok-tree.tree)) total
    ∙ first_padded i.count missing (tag_in i.depth i.tree) (tag_in c.in_ok-depth.depth c.in_ok-depth.tree) (tag_in c.in_ok-depth.depth c.in_ok-tree.tree) (λ s lt. c.in_ok-depth.ensures.same s (omega (arith, lt, c.self.invariant.room)))
    (λ s lt. c.in_ok-tree.ensures.cut s (omega (arith, lt, total, c.in_ok-depth.ensures.room))) ∙ ap (λ (list : List Tag). list ++ replicate missing Top) c.self.view_is
