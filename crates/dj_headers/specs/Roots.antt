-- The names of the classes that tables are asked for most (JLS 4.3.2, 11.1.1).
use Rattle.std.specs.Prelude.{◌≡◌, List, [], codes, Option, MatchOption}
use Rattle.dj_names.specs.declared.header.Header.{Header}
use Rattle.dj_names.specs.Assignable.{object_name}
use Rattle.dj_headers.specs.declared.roots.Roots.{Roots}

-- the names are those of Object and Throwable
pub record AreRoots (roots : Roots) : Type 0 where
  pub object : roots.object ≡ object_name
  pub throwable : roots.throwable ≡ codes "java/lang/Throwable"

-- the names are made, or there is no header yet
abbrev pub KnowsRoots : List Header → Option Roots → Type 0
KnowsRoots headers roots = MatchOption roots (headers ≡ []) AreRoots
