-- The attributes of one name (JVMS 4.7).
use Rattle.std.specs.Prelude.{ℕ, List, map, filter, Bool, false, Option, Some, None}
use Rattle.std.specs.Str.{bytes_eq}
use Rattle.dj_pool.specs.declared.raw.Attribute.{Attribute}
use Rattle.dj_pool.specs.declared.entry.Entry.{Entry}
use Rattle.dj_pool.specs.PoolFormat.{text_at}

-- there are characters, and they are these
abbrev pub is_name : List ℕ → Option (List ℕ) → Bool
is_name name None = false
is_name name (Some units) = bytes_eq units name

-- the contents of the attributes of this name, in file order
abbrev pub contents : List Entry → List ℕ → List Attribute → List (List ℕ)
contents pool name attributes =
    map (λ a. a.content) (filter (λ a. is_name name (text_at pool a.name)) attributes)
