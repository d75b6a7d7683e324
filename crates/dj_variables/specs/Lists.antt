-- A set of variables, as the program keeps it: by those that aren't in it, in a rising order.
use Rattle.std.specs.Prelude.{◌≡◌, Bool, true, false, not, ◌||◌, ◌&&◌, ◌==◌, nat_lt, if◌then◌else◌, List, [], ◌∷◌, ◌++◌}
use Rattle.dj_syntax.specs.declared.variable.Var.{Var}
use Rattle.dj_syntax.specs.NameText.{letter}
use Rattle.dj_meaning.specs.StaticTypes.{is_same_variable}
use Rattle.dj_variables.specs.Sets.{Set}

-- by number, and then by letter
abbrev pub is_lower : Var → Var → Bool
is_lower first second = nat_lt first.number second.number || ((first.number == second.number) && nat_lt (letter first.kind) (letter second.kind))

-- the variable is lower than each of the list
abbrev pub IsBelow : Var → List Var → Type 0
IsBelow variable [] = Unit {0}
IsBelow variable (first ∷ rest) = (is_lower variable first ≡ true) × IsBelow variable rest

-- each variable stands below those behind it
abbrev pub IsRising : List Var → Type 0
IsRising [] = Unit {0}
IsRising (first ∷ rest) = IsBelow first rest × IsRising rest

-- the variable is one of the list
abbrev pub is_among : Var → List Var → Bool
is_among variable [] = false
is_among variable (first ∷ rest) = is_same_variable variable first || is_among variable rest

-- each variable but these
abbrev pub all_but : List Var → Set
all_but list = λ variable. not (is_among variable list)

-- the list keeps the set
pub record Keeps (list : List Var) (set : Set) : Type 0 where
  pub rises : IsRising list
  pub leaves : all_but list ≡ set

-- a list without a variable
abbrev pub removed : Var → List Var → List Var
removed variable [] = []
removed variable (first ∷ rest) = if is_same_variable first variable then removed variable rest else first ∷ removed variable rest

-- those below a variable, those from it on, and those behind it
abbrev pub lower_part : Var → List Var → List Var
lower_part at [] = []
lower_part at (first ∷ rest) = if is_lower first at then first ∷ lower_part at rest else []

-- of a rising list, what is not lower than a variable
abbrev pub from_there : Var → List Var → List Var
from_there at [] = []
from_there at (first ∷ rest) = if is_lower first at then from_there at rest else first ∷ rest

-- a list begins with the variable
abbrev pub begins_with : Var → List Var → Bool
begins_with at [] = false
begins_with at (first ∷ rest) = is_same_variable first at

-- of a rising list, what is higher than a variable
abbrev pub upper_part : Var → List Var → List Var
upper_part at [] = []
upper_part at (first ∷ rest) = if is_lower first at then upper_part at rest else if is_same_variable first at then rest else first ∷ rest

-- both lists, each variable once
abbrev pub union : List Var → List Var → List Var
union list [] = list
union list (first ∷ rest) = lower_part first list ++ first ∷ union (upper_part first list) rest

-- those of the second that are among the first
abbrev pub common : List Var → List Var → List Var
common list [] = []
common list (first ∷ rest) =
    if begins_with first (from_there first list) then first ∷ common (from_there first list) rest else common (from_there first list) rest
