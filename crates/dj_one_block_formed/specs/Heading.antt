-- Tests of whether a method's variables may stand at the head of its body: each can be declared, and what holds `this` or a parameter takes it (JLS 6.4, 14.4.2; 5.2).
use Rattle.std.specs.Prelude.{◌≡◌, ℕ, ◌&&◌, Bool, true, List, [], ◌∷◌, slice_get, Option, Some, None}
use Rattle.dj_names.specs.declared.header.Header.{Header}
use Rattle.dj_names.specs.Types.{JType, Class}
use Rattle.dj_typing.specs.Sites.{Site, is_whole, is_whole_type, may_name_type}
use Rattle.dj_declare.specs.Heads.{has_dummy}
use Rattle.dj_declaring.specs.declared.entry.Entry.{Entry}
use Rattle.dj_declaring.specs.Entries.{may_copy}
use Rattle.dj_declaring.specs.Starting.{MayEnter}

-- a variable of each of these types may be declared at the head: the type can be written, and has a dummy value
abbrev pub all_may_stand : Site → List JType → Bool
all_may_stand site [] = true
all_may_stand site (first ∷ rest) = may_name_type site first && (has_dummy first && all_may_stand site rest)

-- what is of a type may be copied into a variable, where that has a kind
abbrev pub takes : List Header → JType → Option JType → Bool
takes headers from None = true
takes headers from (Some type) = may_copy headers from type

-- the variable of `this`, where there is one, takes it
abbrev pub takes_this : Site → List JType → Option ℕ → Bool
takes_this site kinds None = true
takes_this site kinds (Some number) = site.has_this && (is_whole site.headers site.class && takes site.headers (Class site.class) (slice_get kinds number))

-- the variable of a parameter, where there is one, takes what is of the parameter's type
abbrev pub takes_parameter : List Header → List JType → Option ℕ → Option JType → Bool
takes_parameter headers kinds None given = true
takes_parameter headers kinds (Some number) None = true
takes_parameter headers kinds (Some number) (Some given) = is_whole_type headers given && takes headers given (slice_get kinds number)

-- the first of some parameters' types
abbrev pub first_of : List JType → Option JType
first_of [] = None
first_of (first ∷ rest) = Some first

-- and those behind it
abbrev pub rest_of : List JType → List JType
rest_of [] = []
rest_of (first ∷ rest) = rest

-- so do the variables of all parameters
abbrev pub takes_parameters : List Header → List JType → List (Option ℕ) → List JType → Bool
takes_parameters headers kinds [] parameters = true
takes_parameters headers kinds (number ∷ numbers) parameters = takes_parameter headers kinds number (first_of parameters) && takes_parameters headers kinds numbers (rest_of parameters)

-- the variables of these kinds may stand at the head of a method's body
abbrev pub may_enter : Site → List JType → List JType → Entry → Bool
may_enter site parameters kinds entry = all_may_stand site kinds && (takes_this site kinds entry.itself && takes_parameters site.headers kinds entry.parameters parameters)

-- where the tests say so they may
abbrev pub TestedMayEnter : Type 0
TestedMayEnter = (site : Site) (parameters kinds : List JType) (entry : Entry) → may_enter site parameters kinds entry ≡ true → MayEnter site parameters kinds entry
