use Rattle.std.proofs.Common.{◌≡◌, true, sym, ◌∙◌}
use Rattle.dj_tokens.specs.Words.{is_letter, is_operator, begins}
use Rattle.dj_tokens.proofs.WordsLemmas.{begins_first, front_name, front_operator, front_quote}
use Rattle.dj_tokens.proofs.words.word_end.Goals as goal

pub returns-in-len1-up-clause-first : goal.returns-in-len1-up-clause-first
returns-in-len1-up-clause-first c =
    let text = c.args.text.now in
    let letter : begins is_letter text ≡ true = begins_first is_letter text c.in-len1-up.len_at_least (sym c.is_letter.ensures.letter ∙ c.if-is_letter.true) in
    (front_name text c.letters.result letter c.letters.ensures.letters).0

pub returns-in-len1-up-clause-rest : goal.returns-in-len1-up-clause-rest
returns-in-len1-up-clause-rest c =
    let text = c.args.text.now in
    let letter : begins is_letter text ≡ true = begins_first is_letter text c.in-len1-up.len_at_least (sym c.is_letter.ensures.letter ∙ c.if-is_letter.true) in
    (front_name text c.letters.result letter c.letters.ensures.letters).1

pub returns-in-len1-up-2-clause-first : goal.returns-in-len1-up-2-clause-first
returns-in-len1-up-2-clause-first c =
    let text = c.args.text.now in
    let operator : begins is_operator text ≡ true = begins_first is_operator text c.in-len1-up.len_at_least (sym c.is_operator.ensures.operator ∙ c.if-is_operator.true) in
    (front_operator text c.operators.result operator c.operators.ensures.operators).0

pub returns-in-len1-up-2-clause-rest : goal.returns-in-len1-up-2-clause-rest
returns-in-len1-up-2-clause-rest c =
    let text = c.args.text.now in
    let operator : begins is_operator text ≡ true = begins_first is_operator text c.in-len1-up.len_at_least (sym c.is_operator.ensures.operator ∙ c.if-is_operator.true) in
    (front_operator text c.operators.result operator c.operators.ensures.operators).1

pub returns-in-len1-up-3-clause-first : goal.returns-in-len1-up-3-clause-first
returns-in-len1-up-3-clause-first c =
    (front_quote c.args.text.now c.literal_length.result c.in-len1-up.len_at_least (sym c.is_quote.ensures.quote ∙ c.if-is_quote.true) c.literal_length.ensures.rest).0

pub returns-in-len1-up-3-clause-rest : goal.returns-in-len1-up-3-clause-rest
returns-in-len1-up-3-clause-rest c =
    (front_quote c.args.text.now c.literal_length.result c.in-len1-up.len_at_least (sym c.is_quote.ensures.quote ∙ c.if-is_quote.true) c.literal_length.ensures.rest).1
