use Rattle.std.proofs.Common.{◌≡◌, ◌+◌, false, drop}
use Rattle.dj_tokens.specs.Words.{literal_length}
use Rattle.dj_tokens.proofs.words.literal_length.Given as goal

abbrev pub invariant-loop-place : goal.invariant-loop-place
invariant-loop-place l = l.place + literal_length l.escaped (drop l.place l.text) ≡ literal_length false l.text
