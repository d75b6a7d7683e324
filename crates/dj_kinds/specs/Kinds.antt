-- Which exceptions a method must declare (JLS 11.1.1).
use Rattle.std.specs.Prelude.{List, codes}
use Rattle.dj_names.specs.declared.header.Header.{Header}
use Rattle.dj_names.specs.Headers.{Name, IsSubclass}

-- a class below Throwable, and below neither RuntimeException nor Error
pub record IsChecked (headers : List Header) (class : Name) : Type 0 where
  pub thrown : IsSubclass headers class (codes "java/lang/Throwable")
  pub not_runtime : ¬ IsSubclass headers class (codes "java/lang/RuntimeException")
  pub not_error : ¬ IsSubclass headers class (codes "java/lang/Error")
