use Rattle.std.proofs.Common.{◌∙◌, sym, add-one}
use Rattle.std.proofs.lemmas.Bool.{both_ways}
use Rattle.dj_pending.specs.Stacks.{stacked}
use Rattle.dj_pending.proofs.ShuffleLemmas.{words_next, words_wrong, words_all}
use Rattle.dj_pending.proofs.moving.has_words.Goals as goal

pub returns-then-not-has_word : goal.returns-then-not-has_word
returns-then-not-has_word c =
    let wrong = words_wrong c.args.takes.now (stacked c.args.stack.now) c.loop-place.place 0 c.loop-place-test.true (λ is. both_ways c.has_word.result c.if-not-has_word.true (c.has_word.ensures.word.1 is)) in
    record { words = sym wrong ∙ c.loop-place.invariant }

pub loop-place-preserved : goal.loop-place-preserved
loop-place-preserved c =
    let next = words_next c.args.takes.now (stacked c.args.stack.now) c.loop-place.place 0 c.loop-place-test.true (c.has_word.ensures.word.0 c.if-not-has_word.false) in
    rw add-one (sym next ∙ c.loop-place.invariant)

pub returns : goal.returns
returns c = record { words = sym (words_all c.args.takes.now (stacked c.args.stack.now) c.loop-place.place c.loop-place-test.false) ∙ c.loop-place.invariant }
