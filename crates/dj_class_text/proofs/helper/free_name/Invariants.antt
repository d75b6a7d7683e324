use Rattle.std.proofs.Common.{◌<◌, ℕ, Contains}
use Rattle.dj_class.specs.Views.{view_class}
use Rattle.dj_world.specs.Worlds.{WorldOf}
use Rattle.dj_signatures.specs.Signatures.{method_names}
use Rattle.dj_causes.specs.Tables.{AreCauses}
use Rattle.dj_class_text.specs.Helpers.{helper_name}
use Rattle.dj_class_text.proofs.helper.free_name.Given as goal

abbrev pub invariant-loop-number : goal.invariant-loop-number
invariant-loop-number l = (world : WorldOf) → AreCauses world (view_class l.class) l.causes → (lower : ℕ) → lower < l.number → Contains (method_names (view_class l.class).methods) (helper_name lower)
