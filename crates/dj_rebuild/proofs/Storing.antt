-- Stores and `iinc`, with the names of slots behind them.
use Rattle.std.proofs.Common.{◌≡◌, ℕ, ℤ, Bool, true, false, List, Option, Some, None, refl, sym, ap, ◌∙◌}
use mathlib.Core.Path.{fun_ext}
use Rattle.std.specs.Prelude.{if◌then◌else◌, ◌&&◌}
use Rattle.dj_names.specs.Types as types
use Rattle.dj_names.specs.Types.{JType, StaticType, Of}
use Rattle.dj_syntax.specs.declared.variable.Var.{Var}
use Rattle.dj_syntax.specs.Trees.{Exp, Stms}
use Rattle.dj_instructions.specs.declared.kinds.Kind.{Kind}
use Rattle.dj_instructions.specs.declared.kinds.Kind.TheVariants as kind
use Rattle.dj_rebuilding.specs.Pending.{Atom, Number, Wide, Units, Nothing, Own, Named, Pending, Built, exp_of}
use Rattle.dj_rebuilt.specs.Locals.{as_kind, counted}
use Rattle.dj_rebuilt.specs.Rebuilding.{Names, Step, under, renamed, nothing_there, set, set_kept, count, takes_kind, takes_ints, goes_as, counts_on, static_of}
use Rattle.dj_pending.specs.Building.{as_built}
use Rattle.dj_pending.specs.Spilling.{behind}
use Rattle.dj_pending.specs.Steps.{counted_to, counted_built}
use Rattle.dj_pending.proofs.Spills.{joined-empty}
use Rattle.dj_rebuild.specs.Targets.{as_name}
use Rattle.dj_rebuild.specs.Stores.{behind_step, as_stored, renamed_step, is_null, stored_null, stored_of, set_built, settable}
use Rattle.dj_rebuild.proofs.Linking.{step-of}

-- the names behind a write of a variable
abbrev written : ℕ → Names → Var × JType → Names
written slot names target = renamed slot (as_name target) names

by-tests : (names : Names) (first second : Bool) (found : Option Built) → (if first then (if second then under names found else None) else None) ≡ under names (if first then (if second then found else None) else None)
by-tests names true true found = refl
by-tests names true false found = refl
by-tests names false second found = refl

set-is : (goes : StaticType → JType → Bool) (of : Kind) (slot : ℕ) (names : Names) (n : ℕ) (static : StaticType) (exp : Exp) (below : List Pending) (target : Var × JType)
    → set goes of slot names n static exp below (Some target) ≡ under (written slot names target) (set_built goes of n static exp below (Some target))
set-is goes of slot names n static exp below target = by-tests (written slot names target) (takes_kind of target.1) (goes_as goes of static target.1) (counted_to n below target.0 (as_kind of static exp))

-- a write that was done, or couldn't be
written-step : (first : Stms) (slot : ℕ) (names : Names) (target : Var × JType) (found : Option Built) (step : Option Step) (done : Bool) (built : Built)
    → step ≡ under (written slot names target) found → as_built done built ≡ behind first found → as_stored slot names (Some target) (stored_of done) built ≡ behind_step first step
written-step first slot names target found step true built is e = step-of first found true built (written slot names target) e ∙ ap (behind_step first) (sym is)
written-step first slot names target found step false built is e = step-of first found false built (written slot names target) e ∙ ap (behind_step first) (sym is)

nothing-step : (first : Stms) (slot : ℕ) (names : Names) (done : Bool) (built : Built) → as_built done built ≡ None → as_stored slot names None (stored_of done) built ≡ None
nothing-step first slot names true built e = absurd (cc)
nothing-step first slot names false built e = refl

pub set-stored : (first : Stms) (goes : StaticType → JType → Bool) (of : Kind) (slot : ℕ) (names : Names) (n : ℕ) (static : StaticType) (exp : Exp) (below : List Pending) (target : Option (Var × JType)) (done : Bool) (built : Built)
    → as_built done built ≡ behind first (set_built goes of n static exp below target) → as_stored slot names target (stored_of done) built ≡ behind_step first (set goes of slot names n static exp below target)
set-stored first goes of slot names n static exp below None done built e = nothing-step first slot names done built e
set-stored first goes of slot names n static exp below (Some target) done built e =
    written-step first slot names target (set_built goes of n static exp below (Some target)) _ done built (set-is goes of slot names n static exp below target) e

count-is : (slot : ℕ) (by : ℤ) (names : Names) (n : ℕ) (stack : List Pending) (found : JType × Atom) (target : Var × JType)
    → count slot by names n stack (Some found) (Some target) ≡ under (written slot names target) (counted_built by n stack (Some found) (Some target))
count-is slot by names n stack found target = by-tests (written slot names target) (counts_on (static_of found)) (takes_ints target.1) (counted_to n stack target.0 (counted found.1 by))

-- a number is added to a local
pub count-stored : (first : Stms) (slot : ℕ) (by : ℤ) (names : Names) (n : ℕ) (stack : List Pending) (found : Option (JType × Atom)) (target : Option (Var × JType)) (done : Bool) (built : Built)
    → as_built done built ≡ behind first (counted_built by n stack found target) → as_stored slot names target (stored_of done) built ≡ behind_step first (count slot by names n stack found target)
count-stored first slot by names n stack None None done built e = nothing-step first slot names done built e
count-stored first slot by names n stack None (Some target) done built e = written-step first slot names target None None done built refl e
count-stored first slot by names n stack (Some found) None done built e = nothing-step first slot names done built e
count-stored first slot by names n stack (Some found) (Some target) done built e =
    written-step first slot names target (counted_built by n stack (Some found) (Some target)) _ done built (count-is slot by names n stack found target) e

-- a store of null: no statement
pub null-stored : (first : Stms) (goes : StaticType → JType → Bool) (of : Kind) (slot : ℕ) (names : Names) (n : ℕ) (static : StaticType) (atom : Atom) (below : List Pending) (target : Option (Var × JType)) → is_null static ≡ true
    → as_stored slot names target (stored_null of atom) (record { emitted = first; stack = below; next = n }) ≡ behind_step first (set_kept goes of slot names n static atom below target)
null-stored first goes of slot names n (Of type) atom below target e = absurd (cc)
null-stored first goes of slot names n types.Null (Number number) below target e = refl
null-stored first goes of slot names n types.Null (Wide number) below target e = refl
null-stored first goes of slot names n types.Null (Units units) below target e = refl
null-stored first goes kind.Int slot names n types.Null Nothing below target e = refl
null-stored first goes kind.Long slot names n types.Null Nothing below target e = refl
null-stored first goes kind.Float slot names n types.Null Nothing below target e = refl
null-stored first goes kind.Double slot names n types.Null Nothing below target e = refl
null-stored first goes kind.Ref slot names n types.Null Nothing below target e =
    let with_list : Stms → Option Step = λ list. Some (record { emitted = list; stack = below; next = n }, renamed slot nothing_there names) in ap with_list (sym (joined-empty first))
null-stored first goes of slot names n types.Null Own below target e = refl
null-stored first goes of slot names n types.Null (Named variable) below target e = refl

-- another atom is stored as an expression
pub kept-is : (goes : StaticType → JType → Bool) (of : Kind) (slot : ℕ) (names : Names) (n : ℕ) (static : StaticType) (atom : Atom) (below : List Pending) (target : Option (Var × JType)) → is_null static ≡ false
    → set_kept goes of slot names n static atom below target ≡ set goes of slot names n static (exp_of atom) below target
kept-is goes of slot names n types.Null atom below target e = absurd (cc)
kept-is goes of slot names n (Of type) atom below target e = refl

-- ---- a variable is settable

settable-by : (first second : Bool) (one : Var) (found : Option Built) (variable : Var) → Some variable ≡ (if first && second then Some one else None) → (variable ≡ one) × ((if first then (if second then found else None) else None) ≡ found)
settable-by true true one found variable e = (cc, refl)
settable-by true false one found variable e = absurd (cc)
settable-by false second one found variable e = absurd (cc)

unsettable-by : (first second : Bool) (one : Var) (found : Option Built) → None ≡ (if first && second then Some one else None) → (if first then (if second then found else None) else None) ≡ None
unsettable-by true true one found e = absurd (cc)
unsettable-by true false one found e = refl
unsettable-by false second one found e = refl

-- where an expression goes into a variable, it is assigned
pub settable-set : (first : Stms) (goes : StaticType → JType → Bool) (of : Kind) (n : ℕ) (static : StaticType) (exp new : Exp) (below : List Pending) (target : Option (Var × JType)) (variable : Var)
    → Some variable ≡ settable goes of static target → new ≡ as_kind of static exp → behind first (counted_to n below variable new) ≡ behind first (set_built goes of n static exp below target)
settable-set first goes of n static exp new below None variable e is = absurd (cc)
settable-set first goes of n static exp new below (Some target) variable e is =
    let by = settable-by (takes_kind of target.1) (goes_as goes of static target.1) target.0 (counted_to n below target.0 (as_kind of static exp)) variable e in
    ap (λ (one : Exp). behind first (counted_to n below variable one)) is ∙ ap (λ (one : Var). behind first (counted_to n below one (as_kind of static exp))) by.0 ∙ ap (behind first) (sym by.1)

-- where it doesn't, nothing is
pub unsettable-set : (first : Stms) (goes : StaticType → JType → Bool) (of : Kind) (n : ℕ) (static : StaticType) (exp : Exp) (below : List Pending) (target : Option (Var × JType))
    → None ≡ settable goes of static target → None ≡ behind first (set_built goes of n static exp below target)
unsettable-set first goes of n static exp below None e = refl
unsettable-set first goes of n static exp below (Some target) e =
    ap (behind first) (sym (unsettable-by (takes_kind of target.1) (goes_as goes of static target.1) target.0 (counted_to n below target.0 (as_kind of static exp)) e))

-- ---- renaming

pub renamed-none : (slot : ℕ) (names : Names) (built : Built) (found : Option (JType × Atom)) → None ≡ found → None ≡ renamed_step slot names built found
renamed-none slot names built found e = ap (renamed_step slot names built) e

pub renamed-some : (slot : ℕ) (names new : Names) (built : Built) (name : JType × Atom) (found : Option (JType × Atom)) → Some name ≡ found → ((other : ℕ) → new other ≡ renamed slot name names other)
    → Some (built, new) ≡ renamed_step slot names built found
renamed-some slot names new built name found e is = ap (λ (one : Names). Some (built, one)) (fun_ext is) ∙ ap (renamed_step slot names built) e
