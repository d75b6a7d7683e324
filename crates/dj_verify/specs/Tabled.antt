-- Typed code that has a table of frames already.
use Rattle.std.specs.Prelude.{List}
use Rattle.dj_names.specs.declared.header.Header.{Header}
use Rattle.dj_code.specs.MethodCode.{Typed}
use Rattle.dj_tags.specs.Laxly.{Laxly}
use Rattle.dj_verify.specs.Verified.{IsTyped}

-- typed code has a table over some headers as its frames
pub record HasTable (typed : Typed) : Type 0 where
  pub headers : List Header
  pub table : IsTyped (Laxly headers) headers typed
