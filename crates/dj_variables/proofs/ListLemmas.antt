-- Lists of variables, as the sets of those that aren't in them.
use Rattle.std.proofs.Common.{Bool, true, false, not, ◌&&◌, ◌||◌, List, [], ◌∷◌, ◌++◌, ◌≡◌, refl, sym, ap, ap₂, ◌∙◌}
use Rattle.std.specs.Prelude.{if◌then◌else◌}
use Rattle.std.proofs.lemmas.Bool.{false≢true}
use Rattle.dj_syntax.specs.declared.variable.Var.{Var}
use Rattle.dj_meaning.specs.StaticTypes.{is_same_variable}
use Rattle.dj_variables.specs.Sets.{Set, everything, with, without, meet, join}
use Rattle.dj_variables.specs.Lists.{is_lower, IsBelow, IsRising, is_among, all_but, Keeps, removed, lower_part, from_there, begins_with, upper_part, union, common}
use Rattle.dj_variables.proofs.OrderLemmas.{same_behind, same_before, lower_before, higher, alike_not_lower, same_turned, below_still, below_alike, none_below, among_below, rising-removed, rising-there, rising-union, rising-common}
use Rattle.dj_variables.proofs.SetLemmas.{same_sets}

-- ---- without one

-- in a list without some: b is left out, c is one of those left out, d is the one that is looked for
pub rest_step : (b c d o t : Bool) → (d ≡ true → b ≡ c) → o ≡ (not c && t) → (if b then o else (d || o)) ≡ (not c && (d || t))
rest_step true true d o t e h = h
rest_step true false true o t e h = absurd (false≢true (sym (e refl)))
rest_step true false false o t e h = h
rest_step false true true o t e h = absurd (false≢true (e refl))
rest_step false true false o t e h = h
rest_step false false true o t e h = refl
rest_step false false false o t e h = h

among_if : (z y : Var) (b : Bool) (rest : List Var) → is_among z (if b then rest else y ∷ rest) ≡ (if b then is_among z rest else (is_same_variable z y || is_among z rest))
among_if z y true rest = refl
among_if z y false rest = refl

none_left : (b : Bool) → false ≡ (b && false)
none_left true = refl
none_left false = refl

among_removed : (z x : Var) (list : List Var) → is_among z (removed x list) ≡ (not (is_same_variable z x) && is_among z list)
among_removed z x [] = none_left (not (is_same_variable z x))
among_removed z x (y ∷ rest) =
    among_if z y (is_same_variable y x) (removed x rest)
    ∙ rest_step (is_same_variable y x) (is_same_variable z x) (is_same_variable z y) (is_among z (removed x rest)) (is_among z rest)
    (λ e. sym (same_before x z y e)) (among_removed z x rest)

not_and_not : (b c : Bool) → not (not b && c) ≡ (b || not c)
not_and_not true c = refl
not_and_not false c = refl

pub all_but-removed : (x : Var) (list : List Var) → all_but (removed x list) ≡ with x (all_but list)
all_but-removed x list = same_sets (λ z. ap not (among_removed z x list) ∙ not_and_not (is_same_variable z x) (is_among z list))

-- ---- both

among_append : (z : Var) (first second : List Var) → is_among z (first ++ second) ≡ (is_among z first || is_among z second)
among_append z [] second = refl
among_append z (x ∷ rest) second = ap (λ b. is_same_variable z x || b) (among_append z rest second) ∙ go (is_same_variable z x) (is_among z rest) (is_among z second)
  where
    go : (a b c : Bool) → (a || (b || c)) ≡ ((a || b) || c)
    go true b c = refl
    go false b c = refl

or_step : (x y l u s : Bool) → (l || (y || u)) ≡ (y || s) → ((x || l) || (y || u)) ≡ (y || (x || s))
or_step true true l u s h = refl
or_step true false l u s h = refl
or_step false y l u s h = h

same_step : (x y s : Bool) → x ≡ y → (y || s) ≡ (y || (x || s))
same_step x true s e = refl
same_step true false s e = absurd (false≢true (sym e))
same_step false false s e = refl

or_none : (b : Bool) → b ≡ (b || false)
or_none true = refl
or_none false = refl

or_true : (b : Bool) → (b || true) ≡ true
or_true true = refl
or_true false = refl

union_step : (l y u s t : Bool) → (l || (y || u)) ≡ (y || s) → (l || (y || (u || t))) ≡ (s || (y || t))
union_step true true u s t h = sym (or_true s)
union_step true false u s t h = ap (λ b. b || t) h
union_step false true u s t h = sym (or_true s)
union_step false false u s t h = ap (λ b. b || t) h

-- a list is its part below a variable, perhaps the variable, and its part above
among_parts : (z y : Var) (list : List Var) → (is_among z (lower_part y list) || (is_same_variable z y || is_among z (upper_part y list))) ≡ (is_same_variable z y || is_among z list)
among_parts z y [] = refl
among_parts z y (x ∷ rest) = go (is_lower x y) (is_same_variable x y) (λ e. same_behind z x y e) (among_parts z y rest)
  where
    go : (b c : Bool) → (c ≡ true → is_same_variable z x ≡ is_same_variable z y)
        → (is_among z (lower_part y rest) || (is_same_variable z y || is_among z (upper_part y rest))) ≡ (is_same_variable z y || is_among z rest)
        → (is_among z (if b then x ∷ lower_part y rest else []) || (is_same_variable z y || is_among z (if b then upper_part y rest else if c then rest else x ∷ rest)))
        ≡ (is_same_variable z y || (is_same_variable z x || is_among z rest))
    go true c e h = or_step (is_same_variable z x) (is_same_variable z y) (is_among z (lower_part y rest)) (is_among z (upper_part y rest)) (is_among z rest) h
    go false true e h = same_step (is_same_variable z x) (is_same_variable z y) (is_among z rest) (e refl)
    go false false e h = refl

among_union : (z : Var) (first second : List Var) → is_among z (union first second) ≡ (is_among z first || is_among z second)
among_union z first [] = or_none (is_among z first)
among_union z first (y ∷ rest) =
    among_append z (lower_part y first) (y ∷ union (upper_part y first) rest)
    ∙ ap (λ b. is_among z (lower_part y first) || (is_same_variable z y || b)) (among_union z (upper_part y first) rest)
    ∙ union_step (is_among z (lower_part y first)) (is_same_variable z y) (is_among z (upper_part y first)) (is_among z first) (is_among z rest) (among_parts z y first)

not_or : (a b : Bool) → not (a || b) ≡ (not a && not b)
not_or true b = refl
not_or false b = refl

pub all_but-union : (first second : List Var) → all_but (union first second) ≡ meet (all_but first) (all_but second)
all_but-union first second = same_sets (λ z. ap not (among_union z first second) ∙ not_or (is_among z first) (is_among z second))

pub all_but-added : (x : Var) (list : List Var) → all_but (union list (x ∷ [])) ≡ without x (all_but list)
all_but-added x list = all_but-union list (x ∷ []) ∙ same_sets (λ z. go (is_same_variable z x) (is_among z list))
  where
    go : (b c : Bool) → (not c && not (b || false)) ≡ (not b && not c)
    go true true = refl
    go true false = refl
    go false true = refl
    go false false = refl

-- ---- those of both

-- what is dropped below a variable isn't among those from it on
among-there : (z at : Var) (list : List Var) → is_lower z at ≡ false → is_among z list ≡ is_among z (from_there at list)
among-there z at [] low = refl
among-there z at (one ∷ rest) low = go (is_lower one at) (is_same_variable z one) refl refl (among-there z at rest low)
  where
    go : (b c : Bool) → is_lower one at ≡ b → is_same_variable z one ≡ c → is_among z rest ≡ is_among z (from_there at rest)
        → (is_same_variable z one || is_among z rest) ≡ is_among z (if b then from_there at rest else one ∷ rest)
    go true true l s more = absurd (false≢true (sym low ∙ lower_before at z one s ∙ l))
    go true false l s more = rw s more
    go false c l s more = refl

-- a variable is among those from it on where they begin with it
begins : (z at : Var) (list : List Var) → IsRising list → is_same_variable z at ≡ true → is_among z (from_there at list) ≡ begins_with at (from_there at list)
begins z at [] rises same = refl
begins z at (one ∷ rest) rises same = go (is_lower one at) (is_same_variable one at) refl refl (begins z at rest rises.1 same)
  where
    go : (b c : Bool) → is_lower one at ≡ b → is_same_variable one at ≡ c → is_among z (from_there at rest) ≡ begins_with at (from_there at rest)
        → is_among z (if b then from_there at rest else one ∷ rest) ≡ begins_with at (if b then from_there at rest else one ∷ rest)
    go true c l s more = more
    go false true l s more = rw (same_turned z one ∙ same_behind one z at same ∙ s) (sym s)
    go false false l s more =
        rw (same_turned z one ∙ same_behind one z at same ∙ s)
        (none_below z rest (below_alike z at rest same (below_still at one rest (higher one at l s) rises.0)) ∙ sym s)

common_step : (b d f h n t : Bool) → n ≡ (h && t) → ((d || t) ≡ true → f ≡ h) → (d ≡ true → h ≡ b) → (if b then (d || n) else n) ≡ (f && (d || t))
common_step true true f h n t is found here = sym (found refl ∙ here refl) ∙ last f
  where
    last : (b : Bool) → b ≡ (b && true)
    last true = refl
    last false = refl
common_step false true f h n t is found here = is ∙ ap (λ x. x && t) (here refl) ∙ sym (ap (λ x. x && true) (found refl ∙ here refl))
common_step true false f h n true is found here = is ∙ ap (λ x. x && true) (sym (found refl))
common_step true false f h n false is found here = is ∙ sym (none_left h) ∙ none_left f
common_step false false f h n true is found here = is ∙ ap (λ x. x && true) (sym (found refl))
common_step false false f h n false is found here = is ∙ sym (none_left h) ∙ none_left f

among_if_new : (z y : Var) (b : Bool) (rest : List Var) → is_among z (if b then y ∷ rest else rest) ≡ (if b then (is_same_variable z y || is_among z rest) else is_among z rest)
among_if_new z y true rest = refl
among_if_new z y false rest = refl

not_lower : (z y : Var) (rest : List Var) → IsBelow y rest → (is_same_variable z y || is_among z rest) ≡ true → is_lower z y ≡ false
not_lower z y rest below = go (is_same_variable z y) refl
  where
    go : (b : Bool) → is_same_variable z y ≡ b → (b || is_among z rest) ≡ true → is_lower z y ≡ false
    go true same is = alike_not_lower z y same
    go false same is = among_below z y rest below is

among_common : (z : Var) (first second : List Var) → IsRising first → IsRising second → is_among z (common first second) ≡ (is_among z first && is_among z second)
among_common z first [] x y = none_left (is_among z first)
among_common z first (one ∷ rest) x y =
    let there = from_there one first in
    among_if_new z one (begins_with one there) (common there rest)
    ∙ common_step (begins_with one there) (is_same_variable z one) (is_among z first) (is_among z there) (is_among z (common there rest)) (is_among z rest)
    (among_common z there rest (rising-there one first x) y.1) (λ e. among-there z one first (not_lower z one rest y.0 e)) (λ e. begins z one first x e)

-- ---- lists that keep sets

pub keeps_none : Keeps [] everything
keeps_none = record { rises = tt; leaves = refl }

-- the same set, written otherwise
pub keeps_same : {list : List Var} {first second : Set} → Keeps list first → first ≡ second → Keeps list second
keeps_same x same = record { rises = x.rises; leaves = x.leaves ∙ same }

pub keeps_removed : {list : List Var} {set : Set} (variable : Var) → Keeps list set → Keeps (removed variable list) (with variable set)
keeps_removed {list = list} variable x = record { rises = rising-removed variable list x.rises; leaves = all_but-removed variable list ∙ ap (with variable) x.leaves }

pub keeps_union : {first second : List Var} {a b : Set} → Keeps first a → Keeps second b → Keeps (union first second) (meet a b)
keeps_union {first = first} {second = second} x y = record { rises = rising-union first second x.rises y.rises; leaves = all_but-union first second ∙ ap₂ meet x.leaves y.leaves }

pub keeps_added : {list : List Var} {set : Set} (variable : Var) → Keeps list set → Keeps (union list (variable ∷ [])) (without variable set)
keeps_added {list = list} variable x =
    record { rises = rising-union list (variable ∷ []) x.rises (tt, tt); leaves = all_but-added variable list ∙ ap (without variable) x.leaves }

pub keeps_common : {first second : List Var} {a b : Set} → Keeps first a → Keeps second b → Keeps (common first second) (join a b)
keeps_common {first = first} {second = second} x y = record {
  rises = rising-common first second y.rises;
  leaves = same_sets (λ z. ap not (among_common z first second x.rises y.rises) ∙ go (is_among z first) (is_among z second)) ∙ ap₂ join x.leaves y.leaves;
}
  where
    go : (a b : Bool) → not (a && b) ≡ (not a || not b)
    go true b = refl
    go false b = refl
