-- What it gives the layers above that code has none of the causes on its names.
use Rattle.std.specs.Prelude.{◌≡◌, true}
use Rattle.dj_names.specs.Headers.{Name}
use Rattle.dj_code.specs.MethodCode.{Code}
use Rattle.dj_world.specs.Worlds.{WorldOf}
use Rattle.dj_typing.specs.Sites.{is_whole}
use Rattle.dj_causes.specs.ClassCauses.{IsSaid}
use Rattle.dj_code_causes.specs.NamedIn.{IsInCode, IsAboveCode, IsMissing, IsUnsaidIn}

-- a class that code may name: it and each class above it are in the world, and the text can say its name and each of theirs, so far as a test tells
pub record MayBeNamed (world : WorldOf) (code : Code) (name : Name) : Type 0 where
  pub whole : is_whole world.headers name ≡ true
  pub said : ¬ ¬ IsSaid world code.class name

-- without the causes Missing and Name each class that code names is one
abbrev pub NamesMayBeNamed : Type 0
NamesMayBeNamed =
    (world : WorldOf) (code : Code) → ((name : Name) → ¬ IsMissing world code name) → ((name : Name) → ¬ IsUnsaidIn world code name)
    → (name : Name) → IsInCode code name → MayBeNamed world code name

-- and so is each class above one
abbrev pub NamesAboveMayBeNamed : Type 0
NamesAboveMayBeNamed =
    (world : WorldOf) (code : Code) → ((name : Name) → ¬ IsMissing world code name) → ((name : Name) → ¬ IsUnsaidIn world code name)
    → (name : Name) → IsAboveCode world code name → MayBeNamed world code name
