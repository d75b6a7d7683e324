use Rattle.std.proofs.Common.{◌≡◌, map}
use Rattle.dj_layout.specs.Layout.{SpellsSome}
use Rattle.dj_layout.specs.Parts.{times}
use Rattle.dj_instructions.specs.RawInstructions.{pair}
use Rattle.dj_instructions.specs.Reads.{case_of}
use Rattle.dj_instructions.proofs.switches.case_list.Given as goal

abbrev pub invariant-loop : goal.invariant-loop
invariant-loop l = SpellsSome (times l.counter pair) (λ pairs cases. cases ≡ map (case_of l.pc) pairs) l.bytes l.found l.rest
