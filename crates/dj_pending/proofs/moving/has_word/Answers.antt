use Rattle.std.proofs.lemmas.Bool.{false≢true}
use Rattle.dj_pending.specs.Entries.{view_entry}
use Rattle.dj_pending.specs.Stacks.{stacked}
use Rattle.dj_pending.proofs.ShuffleLemmas.{is_word, words_none}
use Rattle.dj_pending.proofs.moving.has_word.Goals as goal

pub returns-in-Some : goal.returns-in-Some
returns-in-Some c = record { word = is_word (stacked c.args.stack.now) c.args.place c.words.result c.args.wanted (view_entry c.in-Some.entry.now) c.in-Some.ensures.entry c.words.ensures.words }

pub returns-in-None : goal.returns-in-None
returns-in-None c =
    let none = words_none (stacked c.args.stack.now) c.args.place c.in-None.ensures.entry in
    record { word = (λ yes. absurd (false≢true yes), λ is. absurd (cc)) }
