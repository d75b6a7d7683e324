use Rattle.std.proofs.Common.{◌≡◌, ◌<◌, refl, sym, ◌∙◌}
use Rattle.std.proofs.lemmas.Bool.{false≢true}
use Rattle.dj_depth.specs.Depth.{depth, most_depth}
use Rattle.dj_depth.proofs.DepthLemmas.{deep_now, fewer, goes_on, next, next_is, not_above}
use Rattle.dj_depth.proofs.depth.is_deep.Goals as goal

pub returns-then-branch : goal.returns-then-branch
returns-then-branch c =
    let is : c.read.new.self ≡ next c.loop-word.nesting c.loop-word.reader = next_is c.loop-word.nesting c.read.new.self c.loop-word.reader c.in-Some.word.now c.effect_of_word.result c.in_ok-read.ensures.read c.effect_of_word.ensures.effect c.in-Some.ensures.first in
    let deep : most_depth < depth c.read.new.self = c.in_ok-read.ensures.deep.0 c.if-branch.true in
    record {
      deep = (λ is_true. c.loop-word.invariant.same.0 (deep_now c.loop-word.nesting c.loop-word.reader c.in-Some.ensures.left (rw (sym is) deep)), λ is_deep. refl);
    }

pub loop-word-smaller : goal.loop-word-smaller
loop-word-smaller c = fewer c.loop-word.reader c.take_next.new.self c.in-Some.ensures.left c.in-Some.ensures.rest

pub loop-word-preserved : goal.loop-word-preserved
loop-word-preserved c =
    let is : c.read.new.self ≡ next c.loop-word.nesting c.loop-word.reader = next_is c.loop-word.nesting c.read.new.self c.loop-word.reader c.in-Some.word.now c.effect_of_word.result c.in_ok-read.ensures.read c.effect_of_word.ensures.effect c.in-Some.ensures.first in
    let same = goes_on c.loop-word.nesting c.read.new.self c.loop-word.reader c.take_next.new.self c.in-Some.ensures.left c.loop-word.invariant.shallow is c.in-Some.ensures.rest in
    record {
      shallow = not_above most_depth (depth c.read.new.self) (λ deep. false≢true (sym c.if-branch.false ∙ c.in_ok-read.ensures.deep.1 deep));
      same = (λ deep. c.loop-word.invariant.same.0 (same.0 deep), λ deep. same.1 (c.loop-word.invariant.same.1 deep));
    }
