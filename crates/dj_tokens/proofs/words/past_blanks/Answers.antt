use Rattle.std.proofs.lemmas.List.{take_rest}
use Rattle.dj_tokens.proofs.WordsLemmas.{past_blanks}
use Rattle.dj_tokens.proofs.words.past_blanks.Goals as goal

pub returns : goal.returns
returns c =
    let past = past_blanks c.args.text.now c.blanks.result c.blanks.ensures.blanks in
    rw (take_rest c.args.text.now c.blanks.result) (record { words = past.0; front = past.1 })
