-- What slots are as the code begins.
use Rattle.std.proofs.Common.{◌≡◌, ℕ, ◌+◌, ◌<◌, ◌≤◌, nat_lt, Bool, true, false, ◌&&◌, List, map, Option, Some, None, refl, sym, ap, ◌∙◌, arith}
use Rattle.std.proofs.lemmas.Bool.{ltb-true, ltb-false, eqb-true, eqb-false}
use Rattle.std.proofs.lemmas.Bool.Decides.{nat_tests}
use Rattle.std.specs.Prelude.{◌==◌, if◌then◌else◌, option_map, slice_get}
use Rattle.std.proofs.lemmas.Option.{slice_get-map}
use Rattle.dj_names.specs.Types.{JType, Class, view_type}
use Rattle.dj_names.specs.declared.types.JType as code
use Rattle.dj_syntax.specs.declared.variable.Var.{Var}
use Rattle.dj_code.specs.MethodCode.{Code}
use Rattle.dj_vars.specs.Naming.{Vars}
use Rattle.dj_vars.specs.Agreeing.{local_variable}
use Rattle.dj_rebuilding.specs.Pending.{Atom, Own, and_then}
use Rattle.dj_edges.specs.Edges.{keeps_this}
use Rattle.dj_one_block.specs.OneBlock.{variable_of}
use Rattle.dj_rebuild.specs.Targets.{as_name}
use Rattle.dj_rebuilt.specs.Rebuilding.{Names, or_else}
use Rattle.dj_rebuild.specs.Slots.{name_at, local_at, name_by, names_before}
use Rattle.dj_rebuild.proofs.Linking.{or-none}

-- ---- variables

abbrev with_type : ℕ → Option JType → Option (Var × JType)
with_type number found = and_then found (λ type. Some (local_variable number, type))

looked-up : (kinds : List code.JType) (seen : List JType) (number : ℕ) → map view_type kinds ≡ seen → option_map view_type (slice_get kinds number) ≡ slice_get seen number
looked-up kinds seen number is = sym (slice_get-map view_type kinds number) ∙ ap (λ (list : List JType). slice_get list number) is

pub target-there : (kinds : List code.JType) (seen : List JType) (number : ℕ) (kind : code.JType) → map view_type kinds ≡ seen → Some kind ≡ slice_get kinds number → Some (local_variable number, view_type kind) ≡ variable_of seen (Some number)
target-there kinds seen number kind is found = ap (λ (one : Option code.JType). with_type number (option_map view_type one)) found ∙ ap (with_type number) (looked-up kinds seen number is)

pub target-nowhere : (kinds : List code.JType) (seen : List JType) (number : ℕ) → map view_type kinds ≡ seen → None ≡ slice_get kinds number → None ≡ variable_of seen (Some number)
target-nowhere kinds seen number is found = ap (λ (one : Option code.JType). with_type number (option_map view_type one)) found ∙ ap (with_type number) (looked-up kinds seen number is)

-- ---- as the code begins

pub first-own : (keeps : Bool) (code : Code) (vars : Vars) (slot : ℕ) → true ≡ (keeps && slot == 0) → Some (Class code.class, Own) ≡ local_at keeps code vars slot
first-own keeps code vars slot e = ap (λ (test : Bool). if test then Some (Class code.class, Own) else and_then (variable_of vars.kinds (vars.of 0 slot)) (λ one. Some (as_name one))) e

pub first-other : (keeps : Bool) (code : Code) (vars : Vars) (slot : ℕ) (found : Option (JType × Atom)) → false ≡ (keeps && slot == 0)
    → found ≡ and_then (variable_of vars.kinds (vars.of 0 slot)) (λ one. Some (as_name one)) → found ≡ local_at keeps code vars slot
first-other keeps code vars slot found e here =
    here ∙ ap (λ (test : Bool). if test then Some (Class code.class, Own) else and_then (variable_of vars.kinds (vars.of 0 slot)) (λ one. Some (as_name one))) e

-- ---- all slots

-- as many as there are locals are all
pub all-named : (keeps : Bool) (code : Code) (vars : Vars) (slot : ℕ) → keeps ≡ keeps_this code → names_before code.max_locals (local_at keeps code vars) slot ≡ name_at code vars slot
all-named keeps code vars slot is = ap (λ (test : Bool). names_before code.max_locals (local_at test code vars) slot) is

-- none is named before the first
pub none-named : (names : Names) (slot : ℕ) → None ≡ names_before 0 names slot
none-named names slot = let none : nat_lt slot 0 ≡ false = grind (arith, nat_tests) in ap (λ (test : Bool). if test then names slot else None) (sym none)

-- one more is
one-slot : (found : Option (JType × Atom)) (so_far : Names) (count slot : ℕ) → name_by count found so_far slot ≡ (if slot == count then or_else found (so_far slot) else so_far slot)
one-slot None so_far count slot = by-test (slot == count)
  where
    by-test : (test : Bool) → so_far slot ≡ (if test then so_far slot else so_far slot)
    by-test true = refl
    by-test false = refl
one-slot (Some one) so_far count slot = refl

placed : (names : Names) (count slot : ℕ) (less same : Bool) → nat_lt slot count ≡ less → (slot == count) ≡ same
    → (if same then or_else (names count) (if less then names slot else None) else (if less then names slot else None)) ≡ names_before (count + 1) names slot
placed names count slot true true e is = let small : slot < count = ltb-true slot count e in let same : slot ≡ count = eqb-true slot count is in absurd (omega (arith, small, same))
placed names count slot true false e is = let more : nat_lt slot (count + 1) ≡ true = grind (arith, nat_tests) in ap (λ (test : Bool). if test then names slot else None) (sym more)
placed names count slot false true e is =
    let same : slot ≡ count = eqb-true slot count is in
    let more : nat_lt slot (count + 1) ≡ true = grind (arith, nat_tests) in
    or-none (names count) ∙ ap names (sym same) ∙ ap (λ (test : Bool). if test then names slot else None) (sym more)
placed names count slot false false e is =
    let least : count ≤ slot = ltb-false slot count e in
    let other : slot ≡ count → ⊥ = eqb-false slot count is in
    let more : nat_lt slot (count + 1) ≡ false = grind (arith, nat_tests) in
    ap (λ (test : Bool). if test then names slot else None) (sym more)

pub one-named : (names so_far new : Names) (count : ℕ) (found : Option (JType × Atom)) → ((slot : ℕ) → so_far slot ≡ names_before count names slot) → found ≡ names count → ((slot : ℕ) → new slot ≡ name_by count found so_far slot)
    → (slot : ℕ) → new slot ≡ names_before (count + 1) names slot
one-named names so_far new count found before is put slot =
    put slot ∙ ap (λ (one : Option (JType × Atom)). name_by count one so_far slot) is ∙ one-slot (names count) so_far count slot
    ∙ ap (λ (one : Option (JType × Atom)). if slot == count then or_else (names count) one else one) (before slot)
    ∙ placed names count slot (nat_lt slot count) (slot == count) refl refl
