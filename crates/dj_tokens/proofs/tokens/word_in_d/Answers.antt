use Rattle.std.proofs.Common.{◌≡◌, ◌∙◌, false, codes, sym}
use Rattle.dj_tokens.specs.Words.{is_word}
use Rattle.dj_tokens.proofs.KeywordLemmas.{in_d}
use Rattle.dj_tokens.proofs.tokens.word_in_d.Goals as goal

pub returns-else-is_word : goal.returns-else-is_word
returns-else-is_word c =
    let chain = in_d c.args.word.now c.requires.first in
    let no : is_word c.args.word.now (codes "do") ≡ false = sym c.is_word.ensures.same ∙ c.if-is_word.false in
    record { token = rw (chain, no) c.keyword_or.ensures.token }
