-- What is thrown in a block is caught by its handlers.
use Rattle.std.specs.Prelude.{◌≡◌, ℕ, List, [], Some, slice_get}
use Rattle.dj_names.specs.declared.header.Header.{Header}
use Rattle.dj_graph.specs.declared.graph.Catcher.{Catcher}
use Rattle.dj_blocks_shown.specs.Leaving.{Parts}
use Rattle.dj_blocks_shown.specs.Catching.{AreCatchers}
use Rattle.dj_edges.specs.Split.{HaveCatchers}

-- the handlers of a block are its catchers
pub record IsCaught (headers : List Header) (parts : Parts) (catchers : List Catcher) (handlers : List (List ℕ)) (number start : ℕ) : Type 0 where
  pub own : List ℕ
  pub there : slice_get handlers number ≡ Some own
  pub are : AreCatchers headers parts catchers start own

-- so they are of each block where each entry that is asked has a catcher, and so in code without exception table
pub record BlocksAreCaught (parts : Parts) (catchers : List Catcher) (handlers : List (List ℕ)) : Type 0 where
  pub blocks : (headers : List Header) (number start : ℕ) → slice_get parts.starts number ≡ Some start → HaveCatchers parts start parts.typed.code.handlers → IsCaught headers parts catchers handlers number start
  pub alone : parts.typed.code.handlers ≡ [] → (headers : List Header) (number start : ℕ) → slice_get parts.starts number ≡ Some start → IsCaught headers parts catchers handlers number start
