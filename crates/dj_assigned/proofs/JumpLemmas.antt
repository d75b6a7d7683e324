-- What is assigned at the jumps of a walk.
use Rattle.std.proofs.Common.{ℕ, Bool, true, false, ◌&&◌, ◌||◌, List, [], ◌∷◌, ◌++◌, ◌≡◌, refl, sym, ap, ap₂, ◌∙◌}
use Rattle.std.specs.Prelude.{if◌then◌else◌}
use Rattle.std.proofs.lemmas.Bool.{false≢true}
use Rattle.dj_syntax.specs.declared.variable.Var.{Var}
use Rattle.dj_reach.specs.declared.jump.Jump.{Jump}
use Rattle.dj_reach.specs.Jumps.{is_same_jump, is_jump_to}
use Rattle.dj_reach.proofs.JumpLemmas.{same_label}
use Rattle.dj_variables.specs.Sets.{Set, everything, meet, join}
use Rattle.dj_variables.specs.Lists.{IsRising, all_but, Keeps, union, common}
use Rattle.dj_variables.proofs.SetLemmas.{same_sets, meet_everything, meet_three}
use Rattle.dj_variables.proofs.ListLemmas.{keeps_same, keeps_union, keeps_common}
use Rattle.dj_assigned.specs.Walks.{gathered, others, behind_last}
use Rattle.dj_assigned.specs.declared.course.Pending.{Pending}

-- what is assigned at each such jump
abbrev pub at_jumps : Jump → List Pending → Set
at_jumps jump [] = everything
at_jumps jump (one ∷ rest) = meet (if is_same_jump one.jump jump then all_but one.unassigned else everything) (at_jumps jump rest)

abbrev pub EachRises : List Pending → Type 0
EachRises [] = Unit {0}
EachRises (one ∷ rest) = IsRising one.unassigned × EachRises rest

keeps_itself : (list : List Var) → IsRising list → Keeps list (all_but list)
keeps_itself list rises = record { rises = rises; leaves = refl }

-- ---- jumps that a statement takes

keeps-if_union : (b : Bool) (first second : List Var) (set : Set) → Keeps first set → IsRising second → Keeps (if b then union first second else first) (meet set (if b then all_but second else everything))
keeps-if_union true first second set x rises = keeps_union x (keeps_itself second rises)
keeps-if_union false first second set x rises = keeps_same x (sym (meet_everything set))

pub keeps-gathered : (jump : Jump) (jumps : List Pending) (list : List Var) (set : Set) → EachRises jumps → Keeps list set → Keeps (gathered jump jumps list) (meet set (at_jumps jump jumps))
keeps-gathered jump [] list set each x = keeps_same x (sym (meet_everything set))
keeps-gathered jump (one ∷ rest) list set each x =
    let here : Set = if is_same_jump one.jump jump then all_but one.unassigned else everything in
    keeps_same
    (keeps-gathered jump rest (if is_same_jump one.jump jump then union list one.unassigned else list) (meet set here) each.1
    (keeps-if_union (is_same_jump one.jump jump) list one.unassigned set x each.0))
    (meet_three set here (at_jumps jump rest))

-- ---- one list behind another

pub at_jumps-append : (jump : Jump) (first second : List Pending) → at_jumps jump (first ++ second) ≡ meet (at_jumps jump first) (at_jumps jump second)
at_jumps-append jump [] second = refl
at_jumps-append jump (one ∷ rest) second =
    ap (meet (if is_same_jump one.jump jump then all_but one.unassigned else everything)) (at_jumps-append jump rest second)
    ∙ sym (meet_three (if is_same_jump one.jump jump then all_but one.unassigned else everything) (at_jumps jump rest) (at_jumps jump second))

pub each-append : (first second : List Pending) → EachRises first → EachRises second → EachRises (first ++ second)
each-append [] second x y = y
each-append (one ∷ rest) second x y = (x.0, each-append rest second x.1 y)

-- ---- the jumps to other labels

at_jumps-if : (jump : Jump) (one : Pending) (b : Bool) (rest : List Pending)
    → at_jumps jump (if b then rest else one ∷ rest) ≡ (if b then at_jumps jump rest else meet (if is_same_jump one.jump jump then all_but one.unassigned else everything) (at_jumps jump rest))
at_jumps-if jump one true rest = refl
at_jumps-if jump one false rest = refl

rest_step : (b c d : Bool) (s n t : Set) → (d ≡ true → b ≡ c) → n ≡ (if c then everything else t)
    → (if b then n else meet (if d then s else everything) n) ≡ (if c then everything else meet (if d then s else everything) t)
rest_step true true d s n t e h = h
rest_step true false true s n t e h = absurd (false≢true (sym (e refl)))
rest_step true false false s n t e h = h
rest_step false true true s n t e h = absurd (false≢true (e refl))
rest_step false true false s n t e h = h
rest_step false false d s n t e h = ap (meet (if d then s else everything)) h

nothing_left : (b : Bool) → everything ≡ (if b then everything else everything)
nothing_left true = refl
nothing_left false = refl

pub at_jumps-others : (label : ℕ) (jump : Jump) (jumps : List Pending) → at_jumps jump (others label jumps) ≡ (if is_jump_to label jump then everything else at_jumps jump jumps)
at_jumps-others label jump [] = nothing_left (is_jump_to label jump)
at_jumps-others label jump (one ∷ rest) =
    at_jumps-if jump one (is_jump_to label one.jump) (others label rest)
    ∙ rest_step (is_jump_to label one.jump) (is_jump_to label jump) (is_same_jump one.jump jump) (all_but one.unassigned) (at_jumps jump (others label rest)) (at_jumps jump rest)
    (same_label label one.jump jump) (at_jumps-others label jump rest)

each-if : (b : Bool) (one : Pending) (rest : List Pending) → IsRising one.unassigned → EachRises rest → EachRises (if b then rest else one ∷ rest)
each-if true one rest x y = y
each-if false one rest x y = (x, y)

pub each-others : (label : ℕ) (jumps : List Pending) → EachRises jumps → EachRises (others label jumps)
each-others label [] each = tt
each-others label (one ∷ rest) each = each-if (is_jump_to label one.jump) one (others label rest) each.0 (each-others label rest each.1)

-- ---- jumps through the list of a `finally`

meet_join : (a b y : Set) → meet (join a y) (join b y) ≡ join (meet a b) y
meet_join a b y = same_sets (λ x. go (a x) (b x) (y x))
  where
    go : (p q r : Bool) → ((p || r) && (q || r)) ≡ ((p && q) || r)
    go true true r = refl
    go true false r = refl
    go false true true = refl
    go false true false = refl
    go false false true = refl
    go false false false = refl

behind_step : (d : Bool) (unassigned list : List Var) (set : Set) → Keeps (common unassigned list) set → set ≡ join (all_but unassigned) (all_but list)
    → (if d then all_but (common unassigned list) else everything) ≡ join (if d then all_but unassigned else everything) (all_but list)
behind_step true unassigned list set x is = x.leaves ∙ is
behind_step false unassigned list set x is = refl

pub at_jumps-behind : (jump : Jump) (list : List Var) (jumps : List Pending) → IsRising list → EachRises jumps → at_jumps jump (behind_last list jumps) ≡ join (at_jumps jump jumps) (all_but list)
at_jumps-behind jump list [] rises each = refl
at_jumps-behind jump list (one ∷ rest) rises each =
    ap₂ meet (behind_step (is_same_jump one.jump jump) one.unassigned list _ (keeps_common (keeps_itself one.unassigned each.0) (keeps_itself list rises)) refl) (at_jumps-behind jump list rest rises each.1)
    ∙ meet_join (if is_same_jump one.jump jump then all_but one.unassigned else everything) (at_jumps jump rest) (all_but list)

pub each-behind : (list : List Var) (jumps : List Pending) → IsRising list → EachRises jumps → EachRises (behind_last list jumps)
each-behind list [] rises each = tt
each-behind list (one ∷ rest) rises each = ((keeps_common (keeps_itself one.unassigned each.0) (keeps_itself list rises)).rises, each-behind list rest rises each.1)
