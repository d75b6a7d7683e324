-- The rules on a body that returns a formula of ints.
use Rattle.std.proofs.Common.{◌≡◌, ℕ, ◌+◌, ◌<◌, Bool, true, false, ◌&&◌, [], Option, Some, None, refl}
use Rattle.dj_names.specs.Types as types
use Rattle.dj_names.specs.Types.{Method, Of, StaticType, parameters_of, result_of}
use Rattle.dj_syntax.specs.declared.variable.Var.{Var}
use Rattle.dj_syntax.specs.Weight.{weight_of_exp}
use Rattle.dj_meaning.specs.StaticTypes.{Scope, type_of}
use Rattle.dj_places.specs.Constants.{Surroundings}
use Rattle.dj_places.specs.Rules.{Holds}
use Rattle.dj_scopes.specs.Parameters.{parameter}
use Rattle.dj_variables.specs.Sets.{Set}
use Rattle.dj_conditions.specs.Conditions.{When, when, decided}
use Rattle.dj_conditions.specs.Reads.{reads}
use Rattle.dj_thrown.specs.Settings.{Setting}
use Rattle.dj_thrown.specs.Throws.{exp_throws}
use Rattle.dj_typing.specs.Sites.{Site, context_of}
use Rattle.dj_typing.specs.Expressions.{exp_types}
use Rattle.dj_straight.specs.declared.part.Operation.TheVariants.{Add, Sub, Mul}
use Rattle.dj_straight.specs.Straight.{Formula, Number, Parameter, Calculation, exp_of, UsesParameters}

-- ---- types

module _ (site : Site) (scope : Scope) (count : ℕ) (typed : (slot : ℕ) → slot < count → scope (parameter slot) ≡ Some types.Int) where
  pub is_int : (formula : Formula) → UsesParameters count formula → type_of (context_of site) scope (exp_of formula) ≡ Some (Of types.Int)
  is_int (Number number) uses = refl
  is_int (Parameter slot) uses = rw (typed slot uses) refl
  is_int (Calculation Add left right) uses = rw (is_int left uses.0, is_int right uses.1) refl
  is_int (Calculation Sub left right) uses = rw (is_int left uses.0, is_int right uses.1) refl
  is_int (Calculation Mul left right) uses = rw (is_int left uses.0, is_int right uses.1) refl

  pub keeps_types : (formula : Formula) → UsesParameters count formula → (place : ℕ) → Holds (exp_types site scope place (exp_of formula))
  keeps_types (Number number) uses place = tt
  keeps_types (Parameter slot) uses place = (rw (typed slot uses) refl, rw (typed slot uses) refl)
  keeps_types (Calculation Add left right) uses place =
      (rw (is_int left uses.0, is_int right uses.1) refl, (keeps_types left uses.0 (place + 1), keeps_types right uses.1 (place + 1 + weight_of_exp (exp_of left))))
  keeps_types (Calculation Sub left right) uses place =
      (rw (is_int left uses.0, is_int right uses.1) refl, (keeps_types left uses.0 (place + 1), keeps_types right uses.1 (place + 1 + weight_of_exp (exp_of left))))
  keeps_types (Calculation Mul left right) uses place =
      (rw (is_int left uses.0, is_int right uses.1) refl, (keeps_types left uses.0 (place + 1), keeps_types right uses.1 (place + 1 + weight_of_exp (exp_of left))))

-- ---- what is assigned

-- each variable is
abbrev IsAll : Set → Type 0
IsAll set = (variable : Var) → set variable ≡ true

record AreAll (sides : When) : Type 0 where
  when_true : IsAll sides.true
  when_false : IsAll sides.false

both_all : (first second : Set) → IsAll first → IsAll second → (variable : Var) → (first variable && second variable) ≡ true
both_all first second a b variable = rw (a variable, b variable) refl

decided_all : (known : Option Bool) (set : Set) → IsAll set → AreAll (decided known set)
decided_all None set all = record { when_true = all; when_false = all }
decided_all (Some true) set all = record { when_true = all; when_false = λ variable. refl }
decided_all (Some false) set all = record { when_true = λ variable. refl; when_false = all }

all_behind : (around : Surroundings) (formula : Formula) (set : Set) → IsAll set → AreAll (when around (exp_of formula) set)
all_behind around (Number number) set all = record { when_true = all; when_false = all }
all_behind around (Parameter slot) set all = record { when_true = all; when_false = all }
all_behind around (Calculation Add left right) set all =
    let first = all_behind around left set all in
    let second = all_behind around right _ (both_all _ _ first.when_true first.when_false) in
    decided_all _ _ (both_all _ _ second.when_true second.when_false)
all_behind around (Calculation Sub left right) set all =
    let first = all_behind around left set all in
    let second = all_behind around right _ (both_all _ _ first.when_true first.when_false) in
    decided_all _ _ (both_all _ _ second.when_true second.when_false)
all_behind around (Calculation Mul left right) set all =
    let first = all_behind around left set all in
    let second = all_behind around right _ (both_all _ _ first.when_true first.when_false) in
    decided_all _ _ (both_all _ _ second.when_true second.when_false)

pub keeps_reads : (around : Surroundings) (formula : Formula) (set : Set) (place : ℕ) → IsAll set → Holds (reads around set place (exp_of formula))
keeps_reads around (Number number) set place all = tt
keeps_reads around (Parameter slot) set place all = all (parameter slot)
keeps_reads around (Calculation Add left right) set place all =
    let first = all_behind around left set all in
    (keeps_reads around left set (place + 1) all, keeps_reads around right _ (place + 1 + weight_of_exp (exp_of left)) (both_all _ _ first.when_true first.when_false))
keeps_reads around (Calculation Sub left right) set place all =
    let first = all_behind around left set all in
    (keeps_reads around left set (place + 1) all, keeps_reads around right _ (place + 1 + weight_of_exp (exp_of left)) (both_all _ _ first.when_true first.when_false))
keeps_reads around (Calculation Mul left right) set place all =
    let first = all_behind around left set all in
    (keeps_reads around left set (place + 1) all, keeps_reads around right _ (place + 1 + weight_of_exp (exp_of left)) (both_all _ _ first.when_true first.when_false))

-- ---- what is thrown: nothing

pub throws_nothing : (setting : Setting) (scope : Scope) (formula : Formula) (place : ℕ) → exp_throws setting scope place (exp_of formula) ≡ []
throws_nothing setting scope (Number number) place = refl
throws_nothing setting scope (Parameter slot) place = refl
throws_nothing setting scope (Calculation operation left right) place =
    rw (throws_nothing setting scope left (place + 1), throws_nothing setting scope right (place + 1 + weight_of_exp (exp_of left))) refl
