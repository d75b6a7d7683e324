use Rattle.std.proofs.Common.{◌∙◌}
use Rattle.dj_tokens.proofs.NamesLemmas.{name_goes_on}
use Rattle.dj_tokens.proofs.names.read_name.Goals as goal

pub loop-reader-preserved : goal.loop-reader-preserved
loop-reader-preserved c =
    name_goes_on c.loop-reader.name.items c.push.new.self.items c.add_word-in-loop-reader.new.units.items c.take-in-loop-reader.result.now c.loop-reader.reader c.advance.new.self c.take-in-loop-reader.new.self c.loop-reader-test.ensures.comes c.advance.ensures.rest c.in_ok-push.ensures.items c.take-in-loop-reader.ensures.first c.take-in-loop-reader.ensures.rest c.in_ok-add_word-2.ensures.added
    ∙ c.loop-reader.invariant
