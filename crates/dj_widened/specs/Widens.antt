-- Which classes may run: those of a world first, then any others.
use Rattle.std.specs.Prelude.{◌≡◌, List, ◌++◌, Contains}
use Rattle.dj_names.specs.declared.header.Header.{Header}
use Rattle.dj_names.specs.Headers.{names, HasDistinctNames}
use Rattle.dj_names.specs.Assignable.{object_name}
pub use Rattle.dj_loaded.specs.Loaded.{HasNoCircle, HasRoots}

-- the headers that run widen those of a world: they begin with them, no two are of one class, no class stands above itself, and the roots are in order
pub record Widens (world headers : List Header) : Type 0 where
  pub others : List Header
  pub first : headers ≡ world ++ others
  pub distinct : HasDistinctNames headers
  pub no_circle : HasNoCircle headers
  pub roots : HasRoots headers
  pub object : Contains (names world) object_name
