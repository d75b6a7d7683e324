use Rattle.std.proofs.Common.{◌≡◌, ◌++◌, take}
use Rattle.dj_tokens.proofs.names.add_word.Given as goal

abbrev pub invariant-loop-byte : goal.invariant-loop-byte
invariant-loop-byte l = l.units.items ≡ l.initial.units.items ++ take l.byte-index l.word
