use Rattle.std.proofs.Common.{sym, ◌∙◌, arith}
use Rattle.dj_tokens.proofs.WordsLemmas.{literal_escaped, literal_goes_on}
use Rattle.dj_tokens.proofs.words.literal_length.Goals as goal
use Rattle.dj_tokens.proofs.words.literal_length.Goals.{then-escaped, else-escaped+else-is_quote}

pub loop-place-preserved : goal.loop-place-preserved
loop-place-preserved c =
    elim c.if-escaped.branch [
      | then-escaped w ↦
          literal_escaped c.loop-place.escaped c.if-escaped.escaped c.loop-place.place c.args.text.now (omega arith) w.if-escaped.true w.escaped-is ∙ c.loop-place.invariant
      | else-escaped+else-is_quote w ↦
          literal_goes_on c.loop-place.escaped c.if-escaped.escaped c.loop-place.place c.args.text.now (omega arith) w.if-escaped.false (sym w.is_quote.ensures.quote ∙ w.if-is_quote.false) w.escaped-is
          ∙ c.loop-place.invariant
    ]
