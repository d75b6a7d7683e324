use Rattle.std.proofs.Common.{◌≡◌, drop}
use Rattle.dj_tokens.specs.Literals.{is_long}
use Rattle.dj_tokens.proofs.literals.is_long.Given as goal

abbrev pub invariant-loop-character : goal.invariant-loop-character
invariant-loop-character l = is_long (drop l.character-index l.word) ≡ is_long l.word
