use Rattle.std.proofs.Common.{◌≡◌, length, ap, sym, ◌∙◌, eq-eqb}
use Rattle.std.proofs.lemmas.Bool.{eqb-true}
use Rattle.std.proofs.lemmas.List.{nil_from_length}
use Rattle.dj_tokens.specs.Words.{words}
use Rattle.dj_tokens.proofs.WordsLemmas.{words_none}
use Rattle.dj_tokens.proofs.words.Reader.is_at_end.Goals as goal

pub returns : goal.returns
returns c =
    let text = c.past_blanks.result.now in
    let same : words text ≡ c.args.self.now = c.past_blanks.ensures.words ∙ c.self.view_is in
    record {
      end = (
        λ empty. sym same ∙ ap words (nil_from_length text (eqb-true (length text) 0 (sym c.is_empty.ensures ∙ empty))),
        λ none. c.is_empty.ensures ∙ eq-eqb (length text) 0 (ap length (words_none text c.past_blanks.ensures.front (same ∙ none))),
      );
    }
