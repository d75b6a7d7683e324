-- How the program's results are seen as replies of the definition.
use Rattle.std.specs.Prelude.{Bool, Option, Some, None}
use Rattle.dj_values.specs.Values.{Value}
use Rattle.dj_values.specs.Views.{view_value}
use Rattle.dj_meaning.specs.Operators.{truth}
use Rattle.dj_values.specs.Outcomes.{More, Stuck, Reply, Gives, Halts, trap}
use Rattle.dj_outside.specs.Runs.{trap_class}
use Rattle.dj_operators.specs.declared.computed.Computed as code_computed
use Rattle.dj_operators.specs.declared.computed.Computed.TheVariants as results

-- a result
abbrev pub view_computed : code_computed.Computed → Reply Value
view_computed (results.Gives value) = Gives (view_value value)
view_computed (results.Traps trapped) = trap (trap_class trapped)
view_computed results.More = Halts More
view_computed results.Stuck = Halts Stuck

-- what a comparison answers of whether two values are equal, where they can be compared
abbrev pub answered : (Bool → Bool) → Option Bool → Reply Value
answered answer None = Halts Stuck
answered answer (Some equal) = Gives (truth (answer equal))
