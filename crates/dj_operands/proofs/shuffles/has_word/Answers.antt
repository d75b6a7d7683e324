use Rattle.std.proofs.lemmas.Bool.{false≢true}
use Rattle.dj_values.specs.Views.{view_value}
use Rattle.dj_operands.specs.Stacks.{stacked}
use Rattle.dj_operands.proofs.Moving.{is_word, words_none}
use Rattle.dj_operands.proofs.shuffles.has_word.Goals as goal

pub returns-in-Some : goal.returns-in-Some
returns-in-Some c = record { word = is_word (stacked c.args.stack.now) c.args.place c.words.result c.args.wanted (view_value c.in-Some.value.now) c.in-Some.ensures.value c.words.ensures.words }

pub returns-in-None : goal.returns-in-None
returns-in-None c =
    let none = words_none (stacked c.args.stack.now) c.args.place c.in-None.ensures.value in
    record { word = (λ yes. absurd (false≢true yes), λ is. absurd (cc)) }
