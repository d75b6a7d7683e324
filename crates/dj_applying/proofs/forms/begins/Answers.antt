use Rattle.std.proofs.Common.{◌∙◌, sym, map, add-one}
use Rattle.std.proofs.lemmas.Bool.{both_ways}
use Rattle.dj_frames.specs.Frames.{view_tags}
use Rattle.dj_effects.specs.Operands.{moved_words}
use Rattle.dj_applying.proofs.Moving.{begins_next, begins_wrong, begins_all}
use Rattle.dj_applying.proofs.forms.begins.Goals as goal

pub returns-then-not-has_words : goal.returns-then-not-has_words
returns-then-not-has_words c =
    let found = map moved_words (view_tags c.args.stack.now) in
    let wrong = begins_wrong c.args.takes.now found c.loop-depth.depth 0 c.loop-depth-test.true (λ is. both_ways c.has_words.result c.if-not-has_words.true (c.has_words.ensures.words.1 is)) in
    record { begins = sym wrong ∙ c.loop-depth.invariant }

pub loop-depth-preserved : goal.loop-depth-preserved
loop-depth-preserved c =
    let found = map moved_words (view_tags c.args.stack.now) in
    let next = begins_next c.args.takes.now found c.loop-depth.depth 0 c.loop-depth-test.true (c.has_words.ensures.words.0 c.if-not-has_words.false) in
    rw add-one (sym next ∙ c.loop-depth.invariant)

pub returns : goal.returns
returns c =
    let found = map moved_words (view_tags c.args.stack.now) in
    record { begins = sym (begins_all c.args.takes.now found c.loop-depth.depth c.loop-depth-test.false) ∙ c.loop-depth.invariant }
