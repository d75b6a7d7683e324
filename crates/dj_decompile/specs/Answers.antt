-- What comes of a method with code: the body that is printed, or where none is had yet.
use Rattle.std.specs.Prelude.{◌≡◌, ◌⊎◌, Option, Some, None}
use Rattle.dj_syntax.specs.Trees as trees
use Rattle.dj_syntax.specs.Trees.{Stms, view_body}
use Rattle.dj_world.specs.Worlds.{WorldOf}
use Rattle.dj_code.specs.MethodCode.{Typed}
use Rattle.dj_places.specs.Rules.{Holds}
use Rattle.dj_places.specs.Surroundings.{surroundings_of}
use Rattle.dj_static.specs.declared.classes.Classes.{Classes}
use Rattle.dj_thrown.specs.Bodies.{body_thrown}
use Rattle.dj_vars.specs.Naming.{Vars}
use Rattle.dj_method.specs.Parts.{entry_of}
use Rattle.dj_parameters.specs.Parameters.{printed_body}
use Rattle.dj_one_block.specs.OneBlock.{head_of}
use Rattle.dj_syntax.specs.declared.unit.Body.{Body}
use Rattle.dj_decompiled.specs.Decompiled.{lone_parts, with_held_flags, IsWritable, IsDecompiled, IsOpen, IsNotYetAt}
use Rattle.dj_decompile.specs.declared.decompile.Decompiled.{Decompiled}
use Rattle.dj_decompile.specs.declared.decompile.Decompiled.TheVariants as decompiled

-- what comes of a method with this code
abbrev pub IsAnswer : WorldOf → Typed → Decompiled → Type 0
IsAnswer world typed (decompiled.Body body) = IsDecompiled world typed (view_body body)
IsAnswer world typed (decompiled.NotYet pc) = IsNotYetAt world typed pc

-- ---- on the way

-- what comes of code in which no instruction is barred: the body that is printed, or why there is none
abbrev pub IsFound : WorldOf → Typed → Option Body → Type 0
IsFound world typed None = IsOpen world typed
IsFound world typed (Some body) = IsDecompiled world typed (view_body body)

-- the body with these statements of the one block, before its flags are looked at
abbrev pub lone_body : Classes → Typed → Vars → Stms → trees.Body
lone_body classes typed vars tree = printed_body (surroundings_of classes) (head_of typed.code) vars.kinds (entry_of (lone_parts typed vars)) 0 tree

-- such a body doesn't throw what mayn't leave it, and can be written with the flags of its text
pub record IsFinished (world : WorldOf) (typed : Typed) (made body : trees.Body) : Type 0 where
  pub thrown : Holds (body_thrown world.headers world.members made)
  pub is : body ≡ with_held_flags typed.code made
  pub writable : IsWritable body

-- it is finished, or one of the two fails
abbrev pub IsDone : WorldOf → Typed → trees.Body → Option Body → Type 0
IsDone world typed made (Some body) = IsFinished world typed made (view_body body)
IsDone world typed made None = (¬ Holds (body_thrown world.headers world.members made)) ⊎ (¬ IsWritable (with_held_flags typed.code made))
