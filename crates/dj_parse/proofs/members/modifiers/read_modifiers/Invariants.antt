use Rattle.std.proofs.Common.{◌≡◌, length}
use Rattle.dj_grammar.specs.Members.{read_modifiers}
use Rattle.dj_parse.proofs.members.modifiers.read_modifiers.Given as goal

abbrev pub invariant-loop-bit : goal.invariant-loop-bit
invariant-loop-bit l = read_modifiers l.bits l.reader ≡ read_modifiers 0 l.initial.reader

abbrev pub decreases-loop-bit : goal.decreases-loop-bit
decreases-loop-bit l = length l.reader
