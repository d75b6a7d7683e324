use Rattle.std.proofs.Common.{ap, ◌∙◌, arith}
use Rattle.dj_frames.specs.declared.tree.Run.{Run}
use Rattle.dj_frames.proofs.SlotTags.{put_listed}
use Rattle.dj_frames.proofs.tree.put_leaf.Goals as goal

pub returns-clause-put : goal.returns-clause-put
returns-clause-put c =
    let made = c.in_ok-run.ensures.value in
    λ depth slot. put_listed c.max-len.result c.args.start slot c.args.list.now c.args.tags.now c.in_ok-run.run'.tags c.args.rest.now c.in_ok-run.run'.rest (omega (arith, c.max-len.ensures)) (omega (arith, c.max-len.ensures))
    (ap (λ (run : Run). run.tags) made ∙ c.in_ok-tags.ensures.put) (ap (λ (run : Run). run.rest) made ∙ c.in_ok-rest.ensures.equal)
