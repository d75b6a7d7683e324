use Rattle.std.proofs.lemmas.Bool.{false≢true}
use Rattle.dj_applying.proofs.Moving.{is_word, words_none}
use Rattle.dj_applying.proofs.forms.has_words.Goals as goal

pub returns-in-Some : goal.returns-in-Some
returns-in-Some c = record { words = is_word c.args.stack.now c.args.depth c.moved_words.result c.args.words c.in-Some.tag.now c.in-Some.ensures.entry c.moved_words.ensures.words }

pub returns-in-None : goal.returns-in-None
returns-in-None c =
    let none = words_none c.args.stack.now c.args.depth c.in-None.ensures.entry in
    record { words = (λ yes. absurd (false≢true yes), λ is. absurd (cc)) }
