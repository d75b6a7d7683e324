use Rattle.std.proofs.Common.{◌≡◌, drop}
use Rattle.dj_bytecode.specs.Calculations.{in_cases}
use Rattle.dj_operands.proofs.jumps.in_cases.Given as goal

abbrev pub invariant-loop-case : goal.invariant-loop-case
invariant-loop-case l = in_cases (drop l.case-index l.cases) l.other l.number ≡ in_cases l.cases l.other l.number
