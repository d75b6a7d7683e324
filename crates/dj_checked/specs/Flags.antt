-- Which flags the header of a class has (JVMS table 4.1-A).
use Rattle.std.specs.Prelude.{ℕ, ◌==◌, Bool, false, not, ◌&&◌, bit_and, List, Option, Some, None}
use Rattle.std.specs.List.{list_any}
use Rattle.dj_names.specs.declared.header.Header.{Header}
use Rattle.dj_names.specs.Headers.{Name}
use Rattle.dj_values.specs.Deciding.{is_name}

-- a class has a header with one of these flags
abbrev pub has_flag : ℕ → List Header → Name → Bool
has_flag flag headers class = list_any (λ (header : Header). is_name header.name class && not (bit_and header.flags flag == 0)) headers

-- a header has, where there is one
abbrev pub flag_in : ℕ → Option Header → Bool
flag_in flag None = false
flag_in flag (Some header) = not (bit_and header.flags flag == 0)
