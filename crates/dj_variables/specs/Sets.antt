-- Which variables are assigned; where control doesn't come, each is, vacuously (JLS 16).
use Rattle.std.specs.Prelude.{Bool, true, not, ◌&&◌, ◌||◌}
use Rattle.dj_syntax.specs.declared.variable.Var.{Var}
use Rattle.dj_meaning.specs.StaticTypes.{is_same_variable}

-- a set of variables, told by what is in it
abbrev pub Set : Type 0
Set = Var → Bool

-- the set of all variables
abbrev pub everything : Set
everything = λ variable. true

-- with one variable more
abbrev pub with : Var → Set → Set
with variable set = λ other. is_same_variable other variable || set other

-- without a variable: it is declared here
abbrev pub without : Var → Set → Set
without variable set = λ other. not (is_same_variable other variable) && set other

-- what is assigned on both ways to a point
abbrev pub meet : Set → Set → Set
meet first second = λ variable. first variable && second variable

-- what is assigned on one of two ways that are both gone
abbrev pub join : Set → Set → Set
join first second = λ variable. first variable || second variable
