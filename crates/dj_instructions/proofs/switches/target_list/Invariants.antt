use Rattle.std.proofs.Common.{◌≡◌, map}
use Rattle.dj_layout.specs.Layout.{SpellsSome}
use Rattle.dj_layout.specs.Parts.{times}
use Rattle.dj_instructions.specs.RawInstructions.{u4}
use Rattle.dj_instructions.specs.Reads.{target_of}
use Rattle.dj_instructions.proofs.switches.target_list.Given as goal

abbrev pub invariant-loop : goal.invariant-loop
invariant-loop l = SpellsSome (times l.counter u4) (λ offsets targets. targets ≡ map (target_of l.pc) offsets) l.bytes l.found l.rest
