-- What the program tells of instructions, seen as plain data.
use Rattle.std.specs.Prelude.{map}
use Rattle.dj_applying.specs.Done.{view_form}
use Rattle.dj_receivers.specs.declared.passing.Pass as code_pass
use Rattle.dj_receivers.specs.declared.passing.Pass.TheVariants as code
use Rattle.dj_receivers.specs.Passing.{Pass, Takes, Own, Moves}

-- what an instruction does, as plain data
abbrev pub view_pass : code_pass.Pass → Pass
view_pass (code.Takes count gives) = Takes count gives
view_pass code.Own = Own
view_pass (code.Moves forms) = Moves (map view_form forms.now)
