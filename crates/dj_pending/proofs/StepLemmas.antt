-- Steps behind statements that are there: words that are moved, and variables that are assigned.
use Rattle.std.proofs.Common.{◌≡◌, ℕ, ℤ, Bool, true, false, List, [], ◌∷◌, Option, Some, None, refl, sym, ap, ◌∙◌}
use mathlib.Core.Path.{fun_ext}
use Rattle.std.specs.Prelude.{◌||◌, if◌then◌else◌, slice_get}
use Rattle.std.proofs.lemmas.Option.{same_Some}
use Rattle.dj_names.specs.Types.{JType, StaticType}
use Rattle.dj_syntax.specs.declared.variable.Var.{Var}
use Rattle.dj_instructions.specs.declared.kinds.Kind.{Kind}
use Rattle.dj_syntax.specs.Trees.{Exp, Stms, Set}
use Rattle.dj_meaning.specs.StaticTypes.{is_same_variable}
use Rattle.dj_meaning.specs.Declarations.{joined}
use Rattle.dj_bytecode.specs.Shuffles.{Form, dup_forms}
use Rattle.dj_rebuilding.specs.Pending.{Atom, Pending, Kept, Whole, Born, Again, Built, none, and_then, emit, grown}
use Rattle.dj_rebuilt.specs.Locals.{setting, counted}
use Rattle.dj_rebuilt.specs.Moving.{shuffled_entries}
use Rattle.dj_rebuilt.specs.Rebuilding.{move, takes_kind, takes_ints, counts_on, static_of}
use Rattle.dj_pending.specs.Heights.{is_quiet}
use Rattle.dj_pending.specs.Births.{is_born_entry, is_born}
use Rattle.dj_pending.specs.Shifts.{moved_built, doubled_built}
use Rattle.dj_pending.specs.Strict.{constant_built, kept_constant}
use Rattle.dj_pending.specs.Assigned.{is_among}
use Rattle.dj_pending.specs.Forms.{as_shuffled}
use Rattle.dj_pending.specs.Building.{as_built}
use Rattle.dj_pending.specs.Spilling.{behind}
use Rattle.dj_pending.specs.Steps.{counted_to, loaded, counted_built}
use Rattle.dj_pending.proofs.Quiet.{quiet}
use Rattle.dj_pending.proofs.Spills.{shifted, joined-empty}

-- nothing is assigned
pub among-none : is_among [] ≡ none
among-none = fun_ext (λ variable. refl)

-- a variable is, by a statement whose expression assigns none
pub among-one : (variable : Var) (exp : Exp) → is_quiet exp ≡ true → is_among (variable ∷ []) ≡ setting variable exp
among-one variable exp h = fun_ext (λ other. ap (λ (one : Bool). is_same_variable other variable || one) (sym (quiet other exp h)))

pub set-one : (variable : Var) (exp : Exp) (n : ℕ) (below : List Pending) → is_quiet exp ≡ true → emit (is_among (variable ∷ [])) n below (Set variable exp) ≡ counted_to n below variable exp
set-one variable exp n below h = ap (λ (assigned : Var → Bool). emit assigned n below (Set variable exp)) (among-one variable exp h)

-- words that are moved
moved-by : (first : Stms) (built : Built) (forms : List Form) (done : Bool) (into : List Pending) → as_shuffled done into ≡ shuffled_entries forms built.stack
    → as_built done (record { emitted = joined first built.emitted; stack = into; next = built.next }) ≡ behind first (move forms built)
moved-by first built forms true into e =
    ap (λ (found : Option (List Pending)). behind first (and_then found (λ into. Some (record { emitted = built.emitted; stack = into; next = built.next })))) e
moved-by first built forms false into e =
    ap (λ (found : Option (List Pending)). behind first (and_then found (λ into. Some (record { emitted = built.emitted; stack = into; next = built.next })))) e

pub shuffled-behind : (first : Stms) (found : Option Built) (so_far : Built) (forms : List Form) (done : Bool) (into : List Pending) → Some so_far ≡ behind first found → as_shuffled done into ≡ shuffled_entries forms so_far.stack
    → as_built done (record { emitted = so_far.emitted; stack = into; next = so_far.next }) ≡ behind first (and_then found (move forms))
shuffled-behind first None so_far forms done into is e = absurd (cc)
shuffled-behind first (Some built) so_far forms done into is e =
    let same : so_far ≡ shifted first built = same_Some so_far (shifted first built) is in
    ap (λ (one : Built). as_built done (record { emitted = one.emitted; stack = into; next = one.next })) same
    ∙ moved-by first built forms done into (e ∙ ap (λ (one : Built). shuffled_entries forms one.stack) same)

-- where nothing can be spilled, nothing is moved
pub stopped-behind : (first : Stms) (found : Option Built) (next : Built → Option Built) → None ≡ behind first found → None ≡ behind first (and_then found next)
stopped-behind first None next e = refl
stopped-behind first (Some built) next e = absurd (cc)

-- ---- locals

-- nothing but other entries
pub grown-behind : (first : Stms) (n : ℕ) (stack : List Pending) → Some (record { emitted = first; stack = stack; next = n }) ≡ behind first (grown n stack)
grown-behind first n stack = let built : Stms → Option Built = λ list. Some (record { emitted = list; stack = stack; next = n }) in ap built (sym (joined-empty first))

-- an atom is loaded
pub loaded-behind : (first : Stms) (of : Kind) (n : ℕ) (stack : List Pending) (found : JType × Atom) (kind : StaticType) (atom : Atom) (built : Built) → takes_kind of found.0 ≡ true → kind ≡ static_of found → atom ≡ found.1
    → built ≡ record { emitted = first; stack = Kept kind atom ∷ stack; next = n } → Some built ≡ behind first (loaded of n stack (Some found))
loaded-behind first of n stack found kind atom built takes of_kind of_atom is =
    let with_entry : Pending → Option Built = λ entry. Some (record { emitted = first; stack = entry ∷ stack; next = n }) in
    let by : Bool → Option Built = λ test. behind first (if test then grown n (Kept (static_of found) found.1 ∷ stack) else None) in
    ap Some is ∙ ap (λ (one : StaticType). with_entry (Kept one atom)) of_kind ∙ ap (λ (one : Atom). with_entry (Kept (static_of found) one)) of_atom
    ∙ grown-behind first n (Kept (static_of found) found.1 ∷ stack) ∙ ap by (sym takes)

-- a number is added to a local
pub counted-behind : (first : Stms) (by : ℤ) (n : ℕ) (stack : List Pending) (found : JType × Atom) (target : Var × JType) (new : Exp) → counts_on (static_of found) ≡ true → takes_ints target.1 ≡ true → new ≡ counted found.1 by
    → behind first (counted_to n stack target.0 new) ≡ behind first (counted_built by n stack (Some found) (Some target))
counted-behind first by n stack found target new counts takes is =
    let test : Bool → Bool → Option Built = λ one other. behind first (if one then (if other then counted_to n stack target.0 (counted found.1 by) else None) else None) in
    ap (λ (one : Exp). behind first (counted_to n stack target.0 one)) is ∙ ap (test true) (sym takes) ∙ ap (λ (one : Bool). test one (takes_ints target.1)) (sym counts)

-- ---- doubling

-- whether a birth begins on top is told by the topmost entry
pub born-there : (stack : List Pending) (top : Pending) → Some top ≡ slice_get stack 0 → is_born_entry top ≡ is_born stack
born-there [] top e = absurd (cc)
born-there (own ∷ below) top e = ap is_born_entry (same_Some top own e)

pub born-nowhere : (stack : List Pending) → None ≡ slice_get stack 0 → false ≡ is_born stack
born-nowhere [] e = refl
born-nowhere (own ∷ below) e = absurd (cc)

-- such an object is doubled as itself, and anything else as a word
pub doubled-born : (n : ℕ) (stack : List Pending) → is_born stack ≡ true → grown n (Again ∷ stack) ≡ doubled_built n stack
doubled-born n [] e = absurd (cc)
doubled-born n (Kept type atom ∷ below) e = absurd (cc)
doubled-born n (Whole type exp ∷ below) e = absurd (cc)
doubled-born n (Born class ∷ below) e = refl
doubled-born n (Again ∷ below) e = absurd (cc)

pub doubled-other : (n : ℕ) (stack : List Pending) → is_born stack ≡ false → moved_built n stack dup_forms ≡ doubled_built n stack
doubled-other n [] e = refl
doubled-other n (Kept type atom ∷ below) e = refl
doubled-other n (Whole type exp ∷ below) e = refl
doubled-other n (Born class ∷ below) e = absurd (cc)
doubled-other n (Again ∷ below) e = refl

-- ---- constants

pub constant-behind : (first : Stms) (n : ℕ) (stack : List Pending) (constant : Option (StaticType × Atom)) (entry : Pending) (built : Built) → Some entry ≡ kept_constant constant
    → built ≡ record { emitted = first; stack = entry ∷ stack; next = n } → Some built ≡ behind first (constant_built n stack constant)
constant-behind first n stack None entry built e is = absurd (cc)
constant-behind first n stack (Some constant) entry built e is =
    ap Some is ∙ grown-behind first n (entry ∷ stack) ∙ ap (λ (one : Pending). behind first (grown n (one ∷ stack))) (same_Some entry (Kept constant.0 constant.1) e)
