use Rattle.std.proofs.Common.{ap, ◌∙◌}
use Rattle.dj_tokens.specs.Words.{other_words}
use Rattle.dj_tokens.proofs.WordsLemmas.{drop_next}
use Rattle.dj_tokens.proofs.words.Reader.skip.Goals as goal

pub loop-preserved : goal.loop-preserved
loop-preserved c = c.advance.ensures.rest ∙ ap other_words c.loop.invariant ∙ drop_next c.loop.counter c.args.self.now
