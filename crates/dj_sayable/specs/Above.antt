-- Which classes and interfaces stand above some classes (JLS 8.1.4, 8.1.5, 9.1.3).
use Rattle.std.specs.Prelude.{List}
use Rattle.dj_names.specs.declared.header.Header.{Header}
use Rattle.dj_names.specs.Headers.{Name, Implements}

-- one of these classes, or a class or interface above one of them
pub record IsAtOrAbove (headers : List Header) (IsOne : Name → Type 0) (name : Name) : Type 0 where
  pub lower : Name
  pub is_one : IsOne lower
  pub above : Implements headers lower name
