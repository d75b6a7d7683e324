-- Spilling goes by entries, the lowest first.
use Rattle.std.proofs.Common.{◌≡◌, ℕ, Bool, true, false, List, [], ◌∷◌, ◌++◌, Option, Some, None, map, refl, sym, ap, ◌∙◌}
use Rattle.std.proofs.lemmas.List.{map-append}
use Rattle.std.specs.Prelude.{not, ◌||◌, if◌then◌else◌}
use Rattle.std.proofs.lemmas.Option.{same_Some}
use Rattle.dj_names.specs.Types.{StaticType}
use Rattle.dj_syntax.specs.declared.variable.Var.{Var}
use Rattle.dj_syntax.specs.Trees.{Exp, Stm, Stms, And, Empty}
use Rattle.dj_meaning.specs.Declarations.{joined}
use Rattle.dj_rebuilding.specs.Pending.{Atom, Number, Wide, Units, Nothing, Own, Named, Pending, Kept, Whole, Born, Again, Built, exp_of, single, stays, keep, save, and_then, also, assigns, spill}
use Rattle.dj_pending.specs.declared.entry.Entry.{Entry}
use Rattle.dj_pending.specs.declared.entry.Entry.TheVariants as entry
use Rattle.dj_pending.specs.Heights.{is_quiet}
use Rattle.dj_pending.specs.Entries.{view_entry}
use Rattle.dj_pending.specs.Spilling.{settled, all_settled, behind}
use Rattle.dj_pending.proofs.Quiet.{quiet}

-- ---- what is assigned counts by variables

stays-alike : (first second : Var → Bool) → ((variable : Var) → first variable ≡ second variable) → (atom : Atom) → stays first atom ≡ stays second atom
stays-alike first second alike (Number number) = refl
stays-alike first second alike (Wide number) = refl
stays-alike first second alike (Units units) = refl
stays-alike first second alike Nothing = refl
stays-alike first second alike Own = refl
stays-alike first second alike (Named variable) = ap not (alike variable)

also-alike : (exp : Exp) (first second : Var → Bool) → ((variable : Var) → first variable ≡ second variable) → (variable : Var) → also exp first variable ≡ also exp second variable
also-alike exp first second alike variable = ap (λ (one : Bool). assigns exp variable || one) (alike variable)

-- one more entry, behind those below
behind-below : {first second : Option Built} (next : Built → Option Built) → first ≡ second → and_then first next ≡ and_then second next
behind-below next e = ap (λ (one : Option Built). and_then one next) e

pub spill-alike : (first second : Var → Bool) → ((variable : Var) → first variable ≡ second variable) → (next : ℕ) (stack : List Pending) → spill first next stack ≡ spill second next stack
spill-alike first second alike next [] = refl
spill-alike first second alike next (Kept type atom ∷ below) =
    behind-below (λ so_far. Some (if stays first atom then keep type atom so_far else save type (exp_of atom) so_far)) (spill-alike first second alike next below)
    ∙ ap (λ (one : Bool). and_then (spill second next below) (λ so_far. Some (if one then keep type atom so_far else save type (exp_of atom) so_far))) (stays-alike first second alike atom)
spill-alike first second alike next (Whole type exp ∷ below) = behind-below (λ so_far. Some (save type exp so_far)) (spill-alike (also exp first) (also exp second) (also-alike exp first second alike) next below)
spill-alike first second alike next (Born class ∷ below) = refl
spill-alike first second alike next (Again ∷ below) = refl

-- ---- entries that assign nothing

-- an entry assigns nothing
abbrev pub IsQuietEntry : Pending → Type 0
IsQuietEntry (Kept type atom) = Unit {0}
IsQuietEntry (Whole type exp) = is_quiet exp ≡ true
IsQuietEntry (Born class) = Unit {0}
IsQuietEntry Again = Unit {0}

abbrev pub AreQuiet : List Pending → Type 0
AreQuiet [] = Unit {0}
AreQuiet (top ∷ below) = IsQuietEntry top × AreQuiet below

pub quiet-entry : (one : Entry) → IsQuietEntry (view_entry one)
quiet-entry (entry.Kept kind atom) = tt
quiet-entry (entry.Whole kind tree) = tree.quiet
quiet-entry (entry.Born class) = tt
quiet-entry entry.Again = tt

-- those of the program do
pub quiet-entries : (list : List Entry) → AreQuiet (map view_entry list)
quiet-entries [] = tt
quiet-entries (first ∷ rest) = (quiet-entry first, quiet-entries rest)

-- nothing is built so far
abbrev pub nothing_built : ℕ → Option Built
nothing_built next = Some (record { emitted = Empty; stack = []; next = next })

-- such entries are spilled one after another
pub spill-is : (assigned : Var → Bool) (next : ℕ) (stack : List Pending) → AreQuiet stack → spill assigned next stack ≡ all_settled assigned stack (nothing_built next)
spill-is assigned next [] quiet_all = refl
spill-is assigned next (Kept type atom ∷ below) quiet_all = behind-below (settled assigned (Kept type atom)) (spill-is assigned next below quiet_all.1)
spill-is assigned next (Whole type exp ∷ below) quiet_all =
    behind-below (settled assigned (Whole type exp))
    (spill-alike (also exp assigned) assigned (λ variable. ap (λ (one : Bool). one || assigned variable) (quiet variable exp quiet_all.0)) next below ∙ spill-is assigned next below quiet_all.1)
spill-is assigned next (Born class ∷ below) quiet_all = sym (none-behind (all_settled assigned below (nothing_built next)))
  where
    none-behind : (so_far : Option Built) → and_then so_far (settled assigned (Born class)) ≡ None
    none-behind None = refl
    none-behind (Some built) = refl
spill-is assigned next (Again ∷ below) quiet_all = sym (none-behind (all_settled assigned below (nothing_built next)))
  where
    none-behind : (so_far : Option Built) → and_then so_far (settled assigned Again) ≡ None
    none-behind None = refl
    none-behind (Some built) = refl

-- the lowest entry comes first
pub lowest-first : (assigned : Var → Bool) (above : List Pending) (lowest : Pending) (so_far : Option Built)
    → all_settled assigned (above ++ lowest ∷ []) so_far ≡ all_settled assigned above (and_then so_far (settled assigned lowest))
lowest-first assigned [] lowest so_far = refl
lowest-first assigned (top ∷ above) lowest so_far = behind-below (settled assigned top) (lowest-first assigned above lowest so_far)

-- where one can't be spilled, nothing is
pub settled-none : (assigned : Var → Bool) (above : List Pending) → all_settled assigned above None ≡ None
settled-none assigned [] = refl
settled-none assigned (top ∷ above) = behind-below (settled assigned top) (settled-none assigned above)

-- ---- behind statements

pub joined-thrice : (first second third : Stms) → joined (joined first second) third ≡ joined first (joined second third)
joined-thrice Empty second third = refl
joined-thrice (And one first) second third = ap (And one) (joined-thrice first second third)

pub joined-empty : (first : Stms) → joined first Empty ≡ first
joined-empty Empty = refl
joined-empty (And one first) = ap (And one) (joined-empty first)

-- what is built, behind statements
abbrev pub shifted : Stms → Built → Built
shifted first built = record { emitted = joined first built.emitted; stack = built.stack; next = built.next }

save-behind : (first : Stms) (type : StaticType) (exp : Exp) (so_far : Built) → save type exp (shifted first so_far) ≡ shifted first (save type exp so_far)
save-behind first type exp so_far =
    let built : Stms → Built = λ list. record (save type exp so_far) { emitted = list } in ap built (joined-thrice first so_far.emitted _)

settled-behind : (assigned : Var → Bool) (first : Stms) (one : Pending) (so_far : Built) → settled assigned one (shifted first so_far) ≡ behind first (settled assigned one so_far)
settled-behind assigned first (Kept type atom) so_far = by-atom (stays assigned atom)
  where
    by-atom : (kept : Bool) → Some (if kept then keep type atom (shifted first so_far) else save type (exp_of atom) (shifted first so_far)) ≡ behind first (Some (if kept then keep type atom so_far else save type (exp_of atom) so_far))
    by-atom true = refl
    by-atom false = ap Some (save-behind first type (exp_of atom) so_far)
settled-behind assigned first (Whole type exp) so_far = ap Some (save-behind first type exp so_far)
settled-behind assigned first (Born class) so_far = refl
settled-behind assigned first Again so_far = refl

pub all-behind : (assigned : Var → Bool) (first : Stms) (stack : List Pending) (so_far : Option Built) → all_settled assigned stack (behind first so_far) ≡ behind first (all_settled assigned stack so_far)
all-behind assigned first [] so_far = refl
all-behind assigned first (top ∷ below) so_far =
    behind-below (settled assigned top) (all-behind assigned first below so_far) ∙ by-rest (all_settled assigned below so_far)
  where
    by-rest : (found : Option Built) → and_then (behind first found) (settled assigned top) ≡ behind first (and_then found (settled assigned top))
    by-rest None = refl
    by-rest (Some built) = settled-behind assigned first top built

-- spilling behind statements
pub spilled-behind : (assigned : Var → Bool) (emitted : Stms) (next : ℕ) (stack : List Pending) → AreQuiet stack
    → all_settled assigned stack (Some (record { emitted = emitted; stack = []; next = next })) ≡ behind emitted (spill assigned next stack)
spilled-behind assigned emitted next stack quiet_all =
    let built : Stms → Option Built = λ list. all_settled assigned stack (Some (record { emitted = list; stack = []; next = next })) in
    ap built (sym (joined-empty emitted)) ∙ all-behind assigned emitted stack (nothing_built next) ∙ ap (behind emitted) (sym (spill-is assigned next stack quiet_all))

-- ---- as the program spills

-- all entries wait, and none is on the stack
pub begun : (assigned : Var → Bool) (turned : List Entry) (stack old now : List Pending) (emitted : Stms) (next : ℕ) → map view_entry turned ≡ stack → stack ≡ old → now ≡ []
    → all_settled assigned (map view_entry turned) (Some (record { emitted = emitted; stack = now; next = next })) ≡ behind emitted (spill assigned next old)
begun assigned turned stack old now emitted next e is none =
    ap (λ (list : List Pending). all_settled assigned (map view_entry turned) (Some (record { emitted = emitted; stack = list; next = next }))) none
    ∙ spilled-behind assigned emitted next (map view_entry turned) (quiet-entries turned) ∙ ap (λ (list : List Pending). behind emitted (spill assigned next list)) (e ∙ is)

-- the lowest of those that wait is settled
pub one-settled : (assigned : Var → Bool) (left rest : List Entry) (one : Entry) (so_far : Built) (found whole : Option Built) → left ≡ rest ++ one ∷ [] → found ≡ settled assigned (view_entry one) so_far
    → all_settled assigned (map view_entry left) (Some so_far) ≡ whole → all_settled assigned (map view_entry rest) found ≡ whole
one-settled assigned left rest one so_far found whole is done so_on =
    ap (all_settled assigned (map view_entry rest)) done ∙ sym (lowest-first assigned (map view_entry rest) (view_entry one) (Some so_far))
    ∙ ap (λ (list : List Pending). all_settled assigned list (Some so_far)) (sym (ap (map view_entry) is ∙ map-append view_entry rest (one ∷ []))) ∙ so_on

-- nothing is built where one can't be
pub none-settled : (assigned : Var → Bool) (left rest : List Entry) (one : Entry) (so_far : Built) (found whole : Option Built) → left ≡ rest ++ one ∷ [] → found ≡ settled assigned (view_entry one) so_far → found ≡ None
    → all_settled assigned (map view_entry left) (Some so_far) ≡ whole → None ≡ whole
none-settled assigned left rest one so_far found whole is done none so_on =
    sym (settled-none assigned (map view_entry rest)) ∙ ap (all_settled assigned (map view_entry rest)) (sym none) ∙ one-settled assigned left rest one so_far found whole is done so_on

-- and where none waits, all is built
pub all-done : (assigned : Var → Bool) (left : List Entry) (so_far : Built) (whole : Option Built) → left ≡ [] → all_settled assigned (map view_entry left) (Some so_far) ≡ whole → Some so_far ≡ whole
all-done assigned left so_far whole none so_on = ap (λ (list : List Entry). all_settled assigned (map view_entry list) (Some so_far)) (sym none) ∙ so_on

-- a statement behind what was spilled
pub emitted-behind : (first : Stms) (found : Option Built) (so_far more : Built) (one : Stm) → Some so_far ≡ behind first found → more ≡ record so_far { emitted = joined so_far.emitted (single one) }
    → Some more ≡ behind first (and_then found (λ built. Some (record { emitted = joined built.emitted (single one); stack = built.stack; next = built.next })))
emitted-behind first None so_far more one is e = absurd (cc)
emitted-behind first (Some built) so_far more one is e =
    let with_one : Built → Option Built = λ all. Some (record all { emitted = joined all.emitted (single one) }) in
    let same : so_far ≡ shifted first built = same_Some so_far (shifted first built) is in
    let behind_all : Stms → Option Built = λ list. Some (record { emitted = list; stack = built.stack; next = built.next }) in
    ap Some e ∙ ap with_one same ∙ ap behind_all (joined-thrice first built.emitted (single one))
