-- What is thrown, when places are told: only the places differ.
use Rattle.std.proofs.Common.{◌≡◌, ℕ, Bool, true, false, not, ◌&&◌, ◌||◌, List, [], ◌∷◌, ◌++◌, filter, Some, None, if◌then◌else◌, codes, refl, ap, ◌∙◌}
use Rattle.std.specs.List.{list_any}
use Rattle.dj_names.specs.declared.header.Header.{Header}
use Rattle.dj_names.specs.Headers.{Name}
use Rattle.dj_syntax.specs.declared.variable.Var.{Var}
use Rattle.dj_syntax.specs.Trees.{Stms, Catches, NoCatches, AndCatch}
use Rattle.dj_values.specs.Deciding.{is_name, is_subclass}
use Rattle.dj_values.specs.Fits.{throwable_name}
use Rattle.dj_places.specs.Places.{told}
use Rattle.dj_faults.specs.Faults.{lower, fault_at, first_fault}
use Rattle.dj_places.specs.declared.kind.TypeKind.TheVariants.{Thrown}
use Rattle.dj_thrown.specs.declared.throwing.Throwing.{Throwing}
use Rattle.dj_thrown.specs.declared.throwing.Held.{Held}
use Rattle.dj_thrown.specs.Assigning.{list_sets}
use Rattle.dj_thrown.specs.Throws.{thrown_at, classes_of, taken, left, holding, through}
use Rattle.dj_thrown.specs.Catching.{is_checked, may_escape, is_met, may_catch, may_all_catch, escaping}
use Rattle.dj_thrown.specs.Bodies.{told_throwing, all_told}
use Rattle.dj_thrown.specs.Walks.{first_escaping}

pub told_append : (first second : List Throwing) → all_told (first ++ second) ≡ all_told first ++ all_told second
told_append [] second = refl
told_append (one ∷ first) second = ap (λ rest. told_throwing one ∷ rest) (told_append first second)

pub told_at : (place : ℕ) (classes : List Name) → thrown_at (told place) classes ≡ all_told (thrown_at place classes)
told_at place [] = refl
told_at place (class ∷ classes) = ap (λ rest. (let one : Throwing = record { place = told place; class = class } in one) ∷ rest) (told_at place classes)

pub told_through : (completes : Bool) (thrown : List Throwing) → through completes (all_told thrown) ≡ all_told (through completes thrown)
told_through true thrown = refl
told_through false thrown = refl

-- a test of the class alone
module _ (test : Name → Bool) where
  abbrev of_class : Throwing → Bool
  of_class thrown = test thrown.class

  filter_by : (one : Throwing) (rest more : List Throwing) (b : Bool) → rest ≡ all_told more → (if b then told_throwing one ∷ rest else rest) ≡ all_told (if b then one ∷ more else more)
  filter_by one rest more true same = ap (λ list. told_throwing one ∷ list) same
  filter_by one rest more false same = same

  told_filter : (thrown : List Throwing) → filter of_class (all_told thrown) ≡ all_told (filter of_class thrown)
  told_filter [] = refl
  told_filter (one ∷ thrown) = filter_by one (filter of_class (all_told thrown)) (filter of_class thrown) (test one.class) (told_filter thrown)

  told_any : (thrown : List Throwing) → list_any of_class (all_told thrown) ≡ list_any of_class thrown
  told_any [] = refl
  told_any (one ∷ thrown) = ap (λ b. test one.class || b) (told_any thrown)

told_classes : (thrown : List Throwing) → classes_of (all_told thrown) ≡ classes_of thrown
told_classes [] = refl
told_classes (one ∷ thrown) = ap (λ rest. one.class ∷ rest) (told_classes thrown)

pub told_left : (headers : List Header) (class : Name) (thrown : List Throwing) → left headers class (all_told thrown) ≡ all_told (left headers class thrown)
told_left headers class thrown = told_filter (λ other. not (is_subclass headers other class)) thrown

told_taken : (headers : List Header) (class : Name) (thrown : List Throwing) → taken headers class (all_told thrown) ≡ all_told (taken headers class thrown)
told_taken headers class thrown = told_filter (λ other. is_subclass headers other class) thrown

pub told_holding : (headers : List Header) (class : Name) (variable : Var) (body : Stms) (thrown : List Throwing) → holding headers class variable body (all_told thrown) ≡ holding headers class variable body thrown
told_holding headers class variable body thrown =
    ap (λ (classes : List Name). (let one : Held = record { variable = variable; classes = if list_sets variable body then None else Some classes } in one))
    (ap classes_of (told_taken headers class thrown) ∙ told_classes (taken headers class thrown))

told_met : (headers : List Header) (class : Name) (thrown : List Throwing) → is_met headers class (all_told thrown) ≡ is_met headers class thrown
told_met headers class thrown = told_any (λ other. is_subclass headers other class || is_subclass headers class other) thrown

told_may : (headers : List Header) (thrown : List Throwing) (class : Name) → may_catch headers (all_told thrown) class ≡ may_catch headers thrown class
told_may headers thrown class =
    ap (λ b. not (is_checked headers class) || (is_name class throwable_name || (is_name class (codes "java/lang/Exception") || b))) (told_met headers class thrown)

pub told_may_all : (headers : List Header) (thrown : List Throwing) (catches : Catches) → may_all_catch headers (all_told thrown) catches ≡ may_all_catch headers thrown catches
told_may_all headers thrown NoCatches = refl
told_may_all headers thrown (AndCatch class variable body rest) =
    ap (λ b. b && may_all_catch headers (all_told thrown) rest) (told_may headers thrown class) ∙ ap (λ b. may_catch headers thrown class && b) (told_may_all headers thrown rest)

pub told_escaping : (headers : List Header) (declared : List Name) (thrown : List Throwing) → first_escaping headers declared (all_told thrown) ≡ first_fault (escaping headers declared thrown)
told_escaping headers declared [] = refl
told_escaping headers declared (one ∷ thrown) = ap (lower (fault_at (told one.place) Thrown (may_escape headers declared one.class))) (told_escaping headers declared thrown)
