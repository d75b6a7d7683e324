use Rattle.std.proofs.Common.{◌+◌, ◌∙◌, ap, arith, length, sym, take_all}
use Rattle.std.specs.List.{flat_map}
use Rattle.dj_frames.specs.Frames.{view_tags, slots_of}
use Rattle.dj_effects.specs.Stacked.{tags_of}
use Rattle.dj_effects.proofs.StackWords.{words_at, words_more}
use Rattle.dj_effects.proofs.stack.words_left.Goals as goal

pub returns-then-left-words : goal.returns-then-left-words
returns-then-left-words c =
    let all = words_at c.args.top.now c.loop-entry.entry-index c.entry-item.result c.loop-entry-test.true (sym c.entry-item.is) in
    record { left = tt; none = omega (arith, all, c.loop-entry.invariant, c.if-left-words.true, c.words-words.ensures.words) }

pub loop-entry-preserved : goal.loop-entry-preserved
loop-entry-preserved c =
    let more = words_more c.args.top.now c.loop-entry.entry-index c.entry-item.result c.loop-entry-test.true (sym c.entry-item.is) in
    omega (arith, more, c.loop-entry.invariant, c.words-words.ensures.words, c.if-left-words.false)

pub returns : goal.returns
returns c = record { left = ap (λ n. n + c.loop-entry.left) (ap (λ top. length (flat_map slots_of (view_tags (tags_of top)))) (sym (take_all c.loop-entry.entry-index c.args.top.now c.loop-entry-test.false))) ∙ c.loop-entry.invariant; none = tt }
