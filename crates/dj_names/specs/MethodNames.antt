-- The names of constructors and static initialisers (JVMS 2.9).
use Rattle.std.specs.Prelude.{ℕ, Bool, List, codes}
use Rattle.std.specs.Str.{bytes_eq}

-- a constructor's name
abbrev pub is_constructor : List ℕ → Bool
is_constructor name = bytes_eq name (codes "<init>")

-- a static initialiser's name
abbrev pub is_initialiser : List ℕ → Bool
is_initialiser name = bytes_eq name (codes "<clinit>")
