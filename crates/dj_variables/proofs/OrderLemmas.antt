-- The order of variables, and lists that rise in it.
use Rattle.std.proofs.Common.{ℕ, Bool, true, false, ◌&&◌, ◌||◌, ◌==◌, nat_lt, List, [], ◌∷◌, ◌++◌, ◌≡◌, refl, ap₂, ◌∙◌, arith}
use Rattle.std.specs.Prelude.{if◌then◌else◌}
use Rattle.std.proofs.lemmas.Bool.{false≢true, eqb-true}
use Rattle.std.proofs.lemmas.Bool.Decides.{nat_tests}
use Rattle.dj_syntax.specs.declared.variable.Var.{Var}
use Rattle.dj_syntax.specs.NameText.{letter}
use Rattle.dj_meaning.specs.StaticTypes.{is_same_variable}
use Rattle.dj_variables.specs.Lists.{is_lower, IsBelow, IsRising, is_among, removed, lower_part, from_there, begins_with, upper_part, union, common}

-- ---- variables that are spelled alike

record IsAlike (first second : Var) : Type 0 where
  letters : letter first.kind ≡ letter second.kind
  numbers : first.number ≡ second.number

both_true : (b c : Bool) → (b && c) ≡ true → (b ≡ true) × (c ≡ true)
both_true true c is = (refl, is)
both_true false c is = absurd (false≢true is)

alike : (first second : Var) → is_same_variable first second ≡ true → IsAlike first second
alike first second is =
    let parts = both_true (letter first.kind == letter second.kind) (first.number == second.number) is in
    record { letters = eqb-true (letter first.kind) (letter second.kind) parts.0; numbers = eqb-true first.number second.number parts.1 }

pub same_behind : (one first second : Var) → is_same_variable first second ≡ true → is_same_variable one first ≡ is_same_variable one second
same_behind one first second is =
    let parts = alike first second is in ap₂ (λ (l n : ℕ). (letter one.kind == l) && (one.number == n)) parts.letters parts.numbers

pub same_before : (one first second : Var) → is_same_variable first second ≡ true → is_same_variable first one ≡ is_same_variable second one
same_before one first second is =
    let parts = alike first second is in ap₂ (λ (l n : ℕ). (l == letter one.kind) && (n == one.number)) parts.letters parts.numbers

pub lower_before : (one first second : Var) → is_same_variable first second ≡ true → is_lower first one ≡ is_lower second one
lower_before one first second is =
    let parts = alike first second is in ap₂ (λ (l n : ℕ). nat_lt n one.number || ((n == one.number) && nat_lt l (letter one.kind))) parts.letters parts.numbers

-- ---- the order

lower_numbers : (k l m n o p : ℕ) → (nat_lt k l || ((k == l) && nat_lt n o)) ≡ true → (nat_lt l m || ((l == m) && nat_lt o p)) ≡ true → (nat_lt k m || ((k == m) && nat_lt n p)) ≡ true
lower_numbers k l m n o p first second = grind (arith, nat_tests)

pub lower_still : (first second third : Var) → is_lower first second ≡ true → is_lower second third ≡ true → is_lower first third ≡ true
lower_still first second third = lower_numbers first.number second.number third.number (letter first.kind) (letter second.kind) (letter third.kind)

swapped_numbers : (l m n o : ℕ) → (nat_lt l m || ((l == m) && nat_lt n o)) ≡ false → ((n == o) && (l == m)) ≡ false → (nat_lt m l || ((m == l) && nat_lt o n)) ≡ true
swapped_numbers l m n o low same = grind (arith, nat_tests)

-- neither lower nor alike
pub higher : (first second : Var) → is_lower first second ≡ false → is_same_variable first second ≡ false → is_lower second first ≡ true
higher first second = swapped_numbers first.number second.number (letter first.kind) (letter second.kind)

other_numbers : (l m n o : ℕ) → (nat_lt l m || ((l == m) && nat_lt n o)) ≡ true → (((n == o) && (l == m)) ≡ false) × ((nat_lt m l || ((m == l) && nat_lt o n)) ≡ false)
other_numbers l m n o low = (grind (arith, nat_tests), grind (arith, nat_tests))

pub lower_differs : (first second : Var) → is_lower first second ≡ true → is_same_variable first second ≡ false
lower_differs first second is = (other_numbers first.number second.number (letter first.kind) (letter second.kind) is).0

pub lower_one_way : (first second : Var) → is_lower first second ≡ true → is_lower second first ≡ false
lower_one_way first second is = (other_numbers first.number second.number (letter first.kind) (letter second.kind) is).1

itself_numbers : (l m n o : ℕ) → ((n == o) && (l == m)) ≡ true → (nat_lt l m || ((l == m) && nat_lt n o)) ≡ false
itself_numbers l m n o same = grind (arith, nat_tests)

pub alike_not_lower : (first second : Var) → is_same_variable first second ≡ true → is_lower first second ≡ false
alike_not_lower first second = itself_numbers first.number second.number (letter first.kind) (letter second.kind)

turned_numbers : (l m n o : ℕ) → ((n == o) && (l == m)) ≡ ((o == n) && (m == l))
turned_numbers l m n o = grind (arith, nat_tests)

pub same_turned : (first second : Var) → is_same_variable first second ≡ is_same_variable second first
same_turned first second = turned_numbers first.number second.number (letter first.kind) (letter second.kind)

-- ---- below a list

pub below_still : (first second : Var) (list : List Var) → is_lower first second ≡ true → IsBelow second list → IsBelow first list
below_still first second [] low below = tt
below_still first second (one ∷ rest) low below = (lower_still first second one low below.0, below_still first second rest low below.1)

pub below_alike : (first second : Var) (list : List Var) → is_same_variable first second ≡ true → IsBelow second list → IsBelow first list
below_alike first second [] same below = tt
below_alike first second (one ∷ rest) same below = (lower_before one first second same ∙ below.0, below_alike first second rest same below.1)

pub none_below : (variable : Var) (list : List Var) → IsBelow variable list → is_among variable list ≡ false
none_below variable [] below = refl
none_below variable (one ∷ rest) below = rw (lower_differs variable one below.0) (none_below variable rest below.1)

-- among those that it is below, what is found isn't lower
pub among_below : (other variable : Var) (list : List Var) → IsBelow variable list → is_among other list ≡ true → is_lower other variable ≡ false
among_below other variable [] below is = absurd (false≢true is)
among_below other variable (one ∷ rest) below is = go (is_same_variable other one) refl is (among_below other variable rest below.1)
  where
    go : (same : Bool) → is_same_variable other one ≡ same → (same || is_among other rest) ≡ true → (is_among other rest ≡ true → is_lower other variable ≡ false) → is_lower other variable ≡ false
    go true same is more = lower_before variable other one same ∙ lower_one_way variable one below.0
    go false same is more = more is

-- ---- rising lists

if_both : (below : List Var → Type 0) (b : Bool) (first second : List Var) → below first → below second → below (if b then first else second)
if_both below true first second x y = x
if_both below false first second x y = y

below-removed : (variable x : Var) (list : List Var) → IsBelow variable list → IsBelow variable (removed x list)
below-removed variable x [] below = tt
below-removed variable x (one ∷ rest) below =
    if_both (IsBelow variable) (is_same_variable one x) (removed x rest) (one ∷ removed x rest) (below-removed variable x rest below.1) (below.0, below-removed variable x rest below.1)

pub rising-removed : (x : Var) (list : List Var) → IsRising list → IsRising (removed x list)
rising-removed x [] rises = tt
rising-removed x (one ∷ rest) rises =
    if_both IsRising (is_same_variable one x) (removed x rest) (one ∷ removed x rest) (rising-removed x rest rises.1) (below-removed one x rest rises.0, rising-removed x rest rises.1)

below-append : (variable : Var) (first second : List Var) → IsBelow variable first → IsBelow variable second → IsBelow variable (first ++ second)
below-append variable [] second x y = y
below-append variable (one ∷ rest) second x y = (x.0, below-append variable rest second x.1 y)

below-lower : (variable at : Var) (list : List Var) → IsBelow variable list → IsBelow variable (lower_part at list)
below-lower variable at [] below = tt
below-lower variable at (one ∷ rest) below = if_both (IsBelow variable) (is_lower one at) (one ∷ lower_part at rest) [] (below.0, below-lower variable at rest below.1) tt

below-upper : (variable at : Var) (list : List Var) → IsBelow variable list → IsBelow variable (upper_part at list)
below-upper variable at [] below = tt
below-upper variable at (one ∷ rest) below =
    if_both (IsBelow variable) (is_lower one at) (upper_part at rest) (if is_same_variable one at then rest else one ∷ rest) (below-upper variable at rest below.1)
    (if_both (IsBelow variable) (is_same_variable one at) rest (one ∷ rest) below.1 below)

rising-upper : (at : Var) (list : List Var) → IsRising list → IsRising (upper_part at list)
rising-upper at [] rises = tt
rising-upper at (one ∷ rest) rises =
    if_both IsRising (is_lower one at) (upper_part at rest) (if is_same_variable one at then rest else one ∷ rest) (rising-upper at rest rises.1)
    (if_both IsRising (is_same_variable one at) rest (one ∷ rest) rises.1 rises)

pub rising-there : (at : Var) (list : List Var) → IsRising list → IsRising (from_there at list)
rising-there at [] rises = tt
rising-there at (one ∷ rest) rises = if_both IsRising (is_lower one at) (from_there at rest) (one ∷ rest) (rising-there at rest rises.1) rises

-- what stands behind a variable is above it
above-upper : (at : Var) (list : List Var) → IsRising list → IsBelow at (upper_part at list)
above-upper at [] rises = tt
above-upper at (one ∷ rest) rises = go (is_lower one at) (is_same_variable one at) refl refl (above-upper at rest rises.1)
  where
    go : (low same : Bool) → is_lower one at ≡ low → is_same_variable one at ≡ same → IsBelow at (upper_part at rest) → IsBelow at (if low then upper_part at rest else if same then rest else one ∷ rest)
    go true same l s more = more
    go false true l s more = below_alike at one rest (same_turned at one ∙ s) rises.0
    go false false l s more = let low = higher one at l s in (low, below_still at one rest low rises.0)

-- a rising list up to a variable, the variable, and what stands above it
rising-joined : (at : Var) (list above : List Var) → IsRising list → IsBelow at above → IsRising above → IsRising (lower_part at list ++ at ∷ above)
rising-joined at [] above rises below behind = (below, behind)
rising-joined at (one ∷ rest) above rises below behind = go (is_lower one at) refl (rising-joined at rest above rises.1 below behind)
  where
    go : (low : Bool) → is_lower one at ≡ low → IsRising (lower_part at rest ++ at ∷ above) → IsRising ((if low then one ∷ lower_part at rest else []) ++ at ∷ above)
    go true l more = (below-append one (lower_part at rest) (at ∷ above) (below-lower one at rest rises.0) (l, below_still one at above l below), more)
    go false l more = (below, behind)

below-union : (variable : Var) (first second : List Var) → IsBelow variable first → IsBelow variable second → IsBelow variable (union first second)
below-union variable first [] x y = x
below-union variable first (one ∷ rest) x y =
    below-append variable (lower_part one first) (one ∷ union (upper_part one first) rest) (below-lower variable one first x)
    (y.0, below-union variable (upper_part one first) rest (below-upper variable one first x) y.1)

pub rising-union : (first second : List Var) → IsRising first → IsRising second → IsRising (union first second)
rising-union first [] x y = x
rising-union first (one ∷ rest) x y =
    rising-joined one first (union (upper_part one first) rest) x (below-union one (upper_part one first) rest (above-upper one first x) y.0)
    (rising-union (upper_part one first) rest (rising-upper one first x) y.1)

below-common : (variable : Var) (first second : List Var) → IsBelow variable second → IsBelow variable (common first second)
below-common variable first [] below = tt
below-common variable first (one ∷ rest) below =
    let there = from_there one first in
    if_both (IsBelow variable) (begins_with one there) (one ∷ common there rest) (common there rest) (below.0, below-common variable there rest below.1) (below-common variable there rest below.1)

pub rising-common : (first second : List Var) → IsRising second → IsRising (common first second)
rising-common first [] rises = tt
rising-common first (one ∷ rest) rises =
    let there = from_there one first in
    if_both IsRising (begins_with one there) (one ∷ common there rest) (common there rest) (below-common one there rest rises.0, rising-common there rest rises.1) (rising-common there rest rises.1)
