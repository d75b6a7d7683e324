-- The statements of a tree of one block are flat.
use Rattle.std.proofs.Common.{◌≡◌, ℕ, zero, suc, ◌==◌, Bool, true, false, length, List, [], ◌∷◌, ◌++◌, Option, Some, None, refl, subst}
use Rattle.std.specs.Prelude.{◌&&◌, ℤ, if◌then◌else◌}
use Rattle.std.proofs.lemmas.Bool.{and_parts, false≢true}
use Rattle.dj_names.specs.declared.header.Header.{Header}
use Rattle.dj_names.specs.Headers.{Name}
use Rattle.dj_names.specs.Types as types
use Rattle.dj_names.specs.Types.{JType, Array, StaticType, Of, result_of}
use Rattle.dj_syntax.specs.declared.variable.Var.{Var}
use Rattle.dj_syntax.specs.Trees.{Exp, Text, Truth, This, Variable, ClassOf, Field, Static, Element, Call, StaticCall, SuperCall, New, NewArray, Cast, InstanceOf, Negative, Not, Binary, Choice, Assign, Stm, Block, Labelled, Declare, Set, SetField, SetStatic, SetElement, Run, If, While, Switch, Break, Continue, Return, Throw, Rethrow, Try, Synchronized, Construct, Do, For, Finally, Stms, Empty, And}
use Rattle.dj_syntax.specs.Trees as trees
use Rattle.dj_instructions.specs.declared.kinds.Kind.{Kind}
use Rattle.dj_instructions.specs.declared.kinds.Element as elements
use Rattle.dj_instructions.specs.Instructions.{FieldRef, MethodRef, Instruction, Instructions}
use Rattle.dj_instructions.specs.Instructions as op
use Rattle.dj_values.specs.Values.{Virtual, Interface}
use Rattle.dj_bytecode.specs.Shuffles.{Form, dup_forms}
use Rattle.dj_bytecode.specs.Meanings.{Family, Strict, Moves, Loads, Stores, Counts, Leads, Returns, NotRun, meaning_of}
use Rattle.dj_bytecode.specs.Machine.{pc_of}
use Rattle.dj_meaning.specs.Declarations.{joined}
use Rattle.dj_meaning.specs.Targets.{result}
use Rattle.dj_meaning.specs.Ways.{all_ways}
use Rattle.dj_places.specs.Constants.{Surroundings}
use Rattle.dj_members_shown.specs.Meant.{asked_of}
use Rattle.dj_rebuilding.specs.Pending.{Atom, Nothing, Named, set_field, set_static, set_element, Pending, Kept, Whole, Born, Again, Built, Typed, sets, assigns, none, and_then, save, keep, stays, also, exp_of, spill, emit, grown, with_operands, single}
use Rattle.dj_rebuilt.specs.Sorts.{Sort, Loading, Storing, Counting, Moving, Doubling, Dropping, Making, Calling, Throwing, Idle, Other, sort_of, drop_forms}
use Rattle.dj_rebuilt.specs.Nodes.{is_whole, as_int}
use Rattle.dj_rebuilt.specs.Locals.{as_kind, counted, setting}
use Rattle.dj_rebuilt.specs.Moving.{type_words, shuffled_entries}
use Rattle.dj_rebuilt.specs.Rebuilding.{renamed, takes_kind, static_of, goes_as, is_ref, nothing_there, counts_on, takes_ints, drop_words, Names, Plain, Ways, Step, under, load, set, set_kept, store, count, move, strictly_built, strict_step, moved_step, double, dropped, drop_whole, drop_top, ended_birth, born_again, born_built, or_else, advance, behind_spilled, first_spilled, then_spilled, advance_one, continues, rebuilt}
use Rattle.dj_members_shown.specs.Casts.{dressed, stored_as}
use Rattle.dj_values.specs.Fits.{class_of}
use Rattle.dj_member_nodes.specs.Going.{fits_in}
use Rattle.dj_member_nodes.specs.Nodes.{element_in, works_on, call_effect, element_effect, field_effect, static_effect, member_effect, object_call, class_call, special_call}
use Rattle.dj_blocks_shown.specs.Leaving.{Parts, is_start}
use Rattle.dj_exits.specs.Exits.{Edges, throwable, puts_any, targets_in, zero_test, ints_test, refs_test, null_test, emitted_by, on_one, on_two, returned, returned_as, thrown, goes_to, branches_by, Case, table_cases, listed_cases, groups_of, switches, closing, left_by, leave}
use Rattle.dj_lone_exits.specs.Lone.{lone_edges}
use Rattle.dj_declare.specs.Breaking.{list_lacks}
use Rattle.dj_declare.specs.Escapes.{HaveNoTry}
use Rattle.dj_declaring.specs.Returning.{opening_call}
use Rattle.dj_one_block.specs.OneBlock.{lone_ways, first_name}
use Rattle.dj_one_block.specs.Flat.{is_flat, are_flat, IsFlatTree, LoneTreesAreFlat}

-- ---- what is had, if anything, is flat

abbrev FlatList : Option Stms → Type 0
FlatList None = Unit {0}
FlatList (Some list) = are_flat list ≡ true

abbrev FlatBuilt : Option Built → Type 0
FlatBuilt None = Unit {0}
FlatBuilt (Some built) = are_flat built.emitted ≡ true

abbrev FlatStep : Option Step → Type 0
FlatStep None = Unit {0}
FlatStep (Some step) = are_flat step.0.emitted ≡ true

abbrev FlatPlain : Option Plain → Type 0
FlatPlain None = Unit {0}
FlatPlain (Some plain) = is_flat plain.0 ≡ true

both-flat : (first second : Bool) → first ≡ true → second ≡ true → (first && second) ≡ true
both-flat true second e f = f
both-flat false second e f = absurd (false≢true e)

pub flat-joined : (first second : Stms) → are_flat first ≡ true → are_flat second ≡ true → are_flat (joined first second) ≡ true
flat-joined Empty second e f = f
flat-joined (And first rest) second e f = let parts = and_parts (is_flat first) (are_flat rest) e in both-flat (is_flat first) (are_flat (joined rest second)) parts.0 (flat-joined rest second parts.1 f)

flat-single : (statement : Stm) → is_flat statement ≡ true → are_flat (single statement) ≡ true
flat-single statement e = both-flat (is_flat statement) true e refl

-- one more step
then-built : (found : Option Built) (next : Built → Option Built) → FlatBuilt found → ((built : Built) → are_flat built.emitted ≡ true → FlatBuilt (next built)) → FlatBuilt (and_then found next)
then-built None next h k = tt
then-built (Some built) next h k = k built h

then-step : (found : Option Built) (next : Built → Option Step) → FlatBuilt found → ((built : Built) → are_flat built.emitted ≡ true → FlatStep (next built)) → FlatStep (and_then found next)
then-step None next h k = tt
then-step (Some built) next h k = k built h

any-built : {A : Type 0} (found : Option A) (next : A → Option Built) → ((one : A) → FlatBuilt (next one)) → FlatBuilt (and_then found next)
any-built None next k = tt
any-built (Some one) next k = k one

plain-built : (found : Option Plain) (next : Plain → Option Built) → FlatPlain found → ((plain : Plain) → is_flat plain.0 ≡ true → FlatBuilt (next plain)) → FlatBuilt (and_then found next)
plain-built None next h k = tt
plain-built (Some plain) next h k = k plain h

if-built : (test : Bool) (first second : Option Built) → FlatBuilt first → FlatBuilt second → FlatBuilt (if test then first else second)
if-built true first second h k = h
if-built false first second h k = k

if-step : (test : Bool) (first second : Option Step) → FlatStep first → FlatStep second → FlatStep (if test then first else second)
if-step true first second h k = h
if-step false first second h k = k

if-plain : (test : Bool) (first second : Option Plain) → FlatPlain first → FlatPlain second → FlatPlain (if test then first else second)
if-plain true first second h k = h
if-plain false first second h k = k

if-list : (test : Bool) (first second : Option Stms) → FlatList first → FlatList second → FlatList (if test then first else second)
if-list true first second h k = h
if-list false first second h k = k

under-flat : (names : Names) (found : Option Built) → FlatBuilt found → FlatStep (under names found)
under-flat names None h = tt
under-flat names (Some built) h = h

-- ---- what is pending

save-flat : (type : StaticType) (exp : Exp) (so_far : Built) → are_flat so_far.emitted ≡ true → are_flat (save type exp so_far).emitted ≡ true
save-flat type exp so_far e = flat-joined so_far.emitted (save type exp (record so_far { emitted = Empty })).emitted e refl

spill-flat : (assigned : Var → Bool) (n : ℕ) (stack : List Pending) → FlatBuilt (spill assigned n stack)
spill-flat assigned n [] = refl
spill-flat assigned n (Kept type atom ∷ below) = then-built (spill assigned n below) (λ so_far. Some (if stays assigned atom then keep type atom so_far else save type (exp_of atom) so_far)) (spill-flat assigned n below) (λ built e. by (stays assigned atom) built e)
  where
    by : (test : Bool) (built : Built) → are_flat built.emitted ≡ true → are_flat (if test then keep type atom built else save type (exp_of atom) built).emitted ≡ true
    by true built e = e
    by false built e = save-flat type (exp_of atom) built e
spill-flat assigned n (Whole type exp ∷ below) = then-built (spill (also exp assigned) n below) (λ so_far. Some (save type exp so_far)) (spill-flat (also exp assigned) n below) (λ built e. save-flat type exp built e)
spill-flat assigned n (Born class ∷ below) = tt
spill-flat assigned n (Again ∷ below) = tt

emit-flat : (assigned : Var → Bool) (n : ℕ) (below : List Pending) (statement : Stm) → is_flat statement ≡ true → FlatBuilt (emit assigned n below statement)
emit-flat assigned n below statement flat =
    then-built (spill assigned n below) (λ so_far. Some (record { emitted = joined so_far.emitted (single statement); stack = so_far.stack; next = so_far.next })) (spill-flat assigned n below)
    (λ built e. flat-joined built.emitted (single statement) e (flat-single statement flat))

operands-flat : (many : ℕ) (taken : List Typed) (stack : List Pending) (next : List Typed → List Pending → Option Built) → ((are : List Typed) (below : List Pending) → FlatBuilt (next are below)) → FlatBuilt (with_operands many taken stack next)
operands-flat zero taken stack next h = h taken stack
operands-flat (suc many) taken [] next h = tt
operands-flat (suc many) taken (Kept type atom ∷ below) next h = operands-flat many ((type, exp_of atom) ∷ taken) below next h
operands-flat (suc many) taken (Whole type exp ∷ below) next h = operands-flat many ((type, exp) ∷ taken) below next h
operands-flat (suc many) taken (Born class ∷ below) next h = tt
operands-flat (suc many) taken (Again ∷ below) next h = tt

-- ---- calls alone

dropped-flat : (exp : Exp) → FlatPlain (dropped exp)
dropped-flat (trees.Int number) = tt
dropped-flat (trees.Long number) = tt
dropped-flat (Text units) = tt
dropped-flat (Truth known) = tt
dropped-flat trees.Null = tt
dropped-flat This = tt
dropped-flat (Variable variable) = tt
dropped-flat (ClassOf kind) = tt
dropped-flat (Field object name) = tt
dropped-flat (Static class name) = tt
dropped-flat (Element array index) = tt
dropped-flat (Call object name arguments) = refl
dropped-flat (StaticCall class name arguments) = refl
dropped-flat (SuperCall above name arguments) = refl
dropped-flat (New class arguments) = refl
dropped-flat (NewArray kind sizes more) = tt
dropped-flat (Cast kind operand) = tt
dropped-flat (InstanceOf operand kind) = tt
dropped-flat (Negative operand) = tt
dropped-flat (Not operand) = tt
dropped-flat (Binary operator first second) = tt
dropped-flat (Choice test first second) = tt
dropped-flat (Assign variable new) = tt

-- ---- one instruction

-- what stands for instructions, and how control leaves, is flat
pub record AreFlat (ways : Ways) : Type 0 where
  effects : (instruction : Instruction) (are : List Typed) → FlatPlain (ways.effect instruction are)
  falls : (names : Names) (n : ℕ) (stack : List Pending) (rest : Instructions) → FlatList (ways.fall names n stack rest)
  leaves : (names : Names) (n : ℕ) (stack : List Pending) (instructions : Instructions) → FlatList (ways.leave names n stack instructions)

load-flat : (of : Kind) (names : Names) (n : ℕ) (stack : List Pending) (found : Option (JType × Atom)) → FlatStep (load of names n stack found)
load-flat of names n stack None = tt
load-flat of names n stack (Some found) = if-step (takes_kind of found.0) (under names (grown n (Kept (static_of found) found.1 ∷ stack))) None refl tt

set-flat : (goes : StaticType → JType → Bool) (of : Kind) (slot : ℕ) (names : Names) (n : ℕ) (static : StaticType) (exp : Exp) (below : List Pending) (target : Option (Var × JType)) → FlatStep (set goes of slot names n static exp below target)
set-flat goes of slot names n static exp below None = tt
set-flat goes of slot names n static exp below (Some target) =
    if-step (takes_kind of target.1) (if goes_as goes of static target.1 then under (renamed slot (target.1, Named target.0) names) (emit (setting target.0 (as_kind of static exp)) n below (Set target.0 (as_kind of static exp))) else None) None
    (if-step (goes_as goes of static target.1) (under (renamed slot (target.1, Named target.0) names) (emit (setting target.0 (as_kind of static exp)) n below (Set target.0 (as_kind of static exp)))) None
    (under-flat (renamed slot (target.1, Named target.0) names) (emit (setting target.0 (as_kind of static exp)) n below (Set target.0 (as_kind of static exp))) (emit-flat (setting target.0 (as_kind of static exp)) n below (Set target.0 (as_kind of static exp)) refl)) tt) tt

kept-flat : (goes : StaticType → JType → Bool) (of : Kind) (slot : ℕ) (names : Names) (n : ℕ) (static : StaticType) (atom : Atom) (below : List Pending) (target : Option (Var × JType)) → FlatStep (set_kept goes of slot names n static atom below target)
kept-flat goes of slot names n (Of type) atom below target = set-flat goes of slot names n (Of type) (exp_of atom) below target
kept-flat goes of slot names n types.Null Nothing below target = if-step (is_ref of) (under (renamed slot nothing_there names) (grown n below)) None refl tt
kept-flat goes of slot names n types.Null atom below target = tt

store-flat : (goes : StaticType → JType → Bool) (of : Kind) (slot : ℕ) (names : Names) (n : ℕ) (target : Option (Var × JType)) (stack : List Pending) → FlatStep (store goes of slot names n target stack)
store-flat goes of slot names n target [] = tt
store-flat goes of slot names n target (Kept type atom ∷ below) = kept-flat goes of slot names n type atom below target
store-flat goes of slot names n target (Whole type exp ∷ below) = set-flat goes of slot names n type exp below target
store-flat goes of slot names n target (Born class ∷ below) = tt
store-flat goes of slot names n target (Again ∷ below) = tt

count-flat : (slot : ℕ) (by : ℤ) (names : Names) (n : ℕ) (stack : List Pending) (found : Option (JType × Atom)) (target : Option (Var × JType)) → FlatStep (count slot by names n stack found target)
count-flat slot by names n stack None target = tt
count-flat slot by names n stack (Some found) None = tt
count-flat slot by names n stack (Some found) (Some target) =
    if-step (counts_on (static_of found)) (if takes_ints target.1 then under (renamed slot (target.1, Named target.0) names) (emit (setting target.0 (counted found.1 by)) n stack (Set target.0 (counted found.1 by))) else None) None
    (if-step (takes_ints target.1) (under (renamed slot (target.1, Named target.0) names) (emit (setting target.0 (counted found.1 by)) n stack (Set target.0 (counted found.1 by)))) None
    (under-flat (renamed slot (target.1, Named target.0) names) (emit (setting target.0 (counted found.1 by)) n stack (Set target.0 (counted found.1 by))) (emit-flat (setting target.0 (counted found.1 by)) n stack (Set target.0 (counted found.1 by)) refl)) tt) tt

move-flat : (forms : List Form) (so_far : Built) → are_flat so_far.emitted ≡ true → FlatBuilt (move forms so_far)
move-flat forms so_far e = any-built (shuffled_entries forms so_far.stack) (λ into. Some (record { emitted = so_far.emitted; stack = into; next = so_far.next })) (λ into. e)

moved-flat : (names : Names) (n : ℕ) (stack : List Pending) (forms : List Form) → FlatStep (moved_step names n stack forms)
moved-flat names n stack forms = under-flat names (and_then (spill none n stack) (move forms)) (then-built (spill none n stack) (move forms) (spill-flat none n stack) (move-flat forms))

double-flat : (names : Names) (n : ℕ) (stack : List Pending) → FlatStep (double names n stack)
double-flat names n [] = moved-flat names n [] dup_forms
double-flat names n (Kept type atom ∷ below) = moved-flat names n (Kept type atom ∷ below) dup_forms
double-flat names n (Whole type exp ∷ below) = moved-flat names n (Whole type exp ∷ below) dup_forms
double-flat names n (Born class ∷ below) = refl
double-flat names n (Again ∷ below) = moved-flat names n (Again ∷ below) dup_forms

drop-whole-flat : (two : Bool) (names : Names) (n : ℕ) (type : StaticType) (exp : Exp) (below : List Pending) (alone : Option Plain) → FlatPlain alone → FlatStep (drop_whole two names n type exp below alone)
drop-whole-flat two names n type exp below None h = moved-flat names n (Whole type exp ∷ below) (drop_forms two)
drop-whole-flat two names n type exp below (Some statement) h =
    if-step (type_words type == drop_words two) (under names (emit (sets statement.1) n below statement.0)) (moved_step names n (Whole type exp ∷ below) (drop_forms two))
    (under-flat names (emit (sets statement.1) n below statement.0) (emit-flat (sets statement.1) n below statement.0 h)) (moved-flat names n (Whole type exp ∷ below) (drop_forms two))

drop-flat : (two : Bool) (names : Names) (n : ℕ) (stack : List Pending) → FlatStep (drop_top two names n stack)
drop-flat two names n [] = moved-flat names n [] (drop_forms two)
drop-flat two names n (Kept type atom ∷ below) = moved-flat names n (Kept type atom ∷ below) (drop_forms two)
drop-flat two names n (Whole type exp ∷ below) = drop-whole-flat two names n type exp below (dropped exp) (dropped-flat exp)
drop-flat two names n (Born class ∷ below) = moved-flat names n (Born class ∷ below) (drop_forms two)
drop-flat two names n (Again ∷ below) = moved-flat names n (Again ∷ below) (drop_forms two)

ended-flat : (n : ℕ) (class : Name) (below : List Pending) (exp : Option Exp) → FlatBuilt (ended_birth n class below exp)
ended-flat n class below None = tt
ended-flat n class below (Some exp) = refl

again-flat : (ways : Ways) (instruction : Instruction) (n : ℕ) (are : List Typed) (stack : List Pending) → FlatBuilt (born_again ways instruction n are stack)
again-flat ways instruction n are [] = tt
again-flat ways instruction n are (Kept type atom ∷ below) = tt
again-flat ways instruction n are (Whole type exp ∷ below) = tt
again-flat ways instruction n are (Born class ∷ below) = ended-flat n class below (ways.birth instruction class are)
again-flat ways instruction n are (Again ∷ below) = tt

born-flat : (ways : Ways) (instruction : Instruction) (n : ℕ) (are : List Typed) (stack : List Pending) → FlatBuilt (born_built ways instruction n are stack)
born-flat ways instruction n are [] = tt
born-flat ways instruction n are (Kept type atom ∷ below) = tt
born-flat ways instruction n are (Whole type exp ∷ below) = tt
born-flat ways instruction n are (Born class ∷ below) =
    any-built (ways.birth instruction class are) (λ exp. and_then (dropped exp) (λ statement. emit (sets statement.1) n below statement.0))
    (λ exp. plain-built (dropped exp) (λ statement. emit (sets statement.1) n below statement.0) (dropped-flat exp) (λ plain flat. emit-flat (sets plain.1) n below plain.0 flat))
born-flat ways instruction n are (Again ∷ below) = again-flat ways instruction n are below

or-flat : (first second : Option Built) → FlatBuilt first → FlatBuilt second → FlatBuilt (or_else first second)
or-flat None second h k = k
or-flat (Some first) second h k = h

module _ (ways : Ways) (flat : AreFlat ways) where
  strictly-flat : (instruction : Instruction) (are : List Typed) (n : ℕ) (below : List Pending) (constant : Option (StaticType × Atom)) (found : Option Typed) (effect : Option Plain) → FlatPlain effect → FlatBuilt (strictly_built n below constant found effect)
  strictly-flat instruction are n below (Some constant) found effect h = refl
  strictly-flat instruction are n below None (Some found) effect h = refl
  strictly-flat instruction are n below None None (Some effect) h = emit-flat (sets effect.1) n below effect.0 h
  strictly-flat instruction are n below None None None h = tt

  strict-flat : (instruction : Instruction) (n : ℕ) (stack : List Pending) (family : Family) → FlatBuilt (strict_step ways instruction n stack family)
  strict-flat instruction n stack (Strict many operation) =
      operands-flat many [] stack (λ are below. strictly_built n below (ways.constant instruction) (ways.node instruction are) (ways.effect instruction are)) (λ are below. strictly-flat instruction are n below (ways.constant instruction) (ways.node instruction are) (ways.effect instruction are) (flat.effects instruction are))
  strict-flat instruction n stack (Moves forms) = tt
  strict-flat instruction n stack (Loads of_kind slot) = tt
  strict-flat instruction n stack (Stores of_kind slot) = tt
  strict-flat instruction n stack (Counts slot by) = tt
  strict-flat instruction n stack (Leads many choice) = tt
  strict-flat instruction n stack (Returns giving) = tt
  strict-flat instruction n stack NotRun = tt

  module _ (headers : List Header) (class : Name) where
    advance-flat : (names : Names) (pc : ℕ) (instruction : Instruction) (n : ℕ) (stack : List Pending) (sort : Sort) → FlatStep (advance headers class ways names pc instruction n stack sort)
    advance-flat names pc instruction n stack (Loading of slot) = load-flat of names n stack (names slot)
    advance-flat names pc instruction n stack (Storing of slot) = store-flat ways.goes of slot names n (ways.target pc) stack
    advance-flat names pc instruction n stack (Counting slot by) = count-flat slot by names n stack (names slot) (ways.target pc)
    advance-flat names pc instruction n stack (Moving forms) = moved-flat names n stack forms
    advance-flat names pc instruction n stack Doubling = double-flat names n stack
    advance-flat names pc instruction n stack (Dropping two) = drop-flat two names n stack
    advance-flat names pc instruction n stack (Making made) = refl
    advance-flat names pc instruction n stack (Calling many) =
        under-flat names (or_else (with_operands many [] stack (λ are below. born_built ways instruction n are below)) (strict_step ways instruction n stack (meaning_of headers class instruction)))
        (or-flat (with_operands many [] stack (λ are below. born_built ways instruction n are below)) (strict_step ways instruction n stack (meaning_of headers class instruction)) (operands-flat many [] stack (λ are below. born_built ways instruction n are below) (λ are below. born-flat ways instruction n are below)) (strict-flat instruction n stack (meaning_of headers class instruction)))
    advance-flat names pc instruction n stack Throwing = tt
    advance-flat names pc instruction n stack Idle = refl
    advance-flat names pc instruction n stack Other = under-flat names (strict_step ways instruction n stack (meaning_of headers class instruction)) (strict-flat instruction n stack (meaning_of headers class instruction))

    behind-flat : (so_far : Built) (found : Option Step) → are_flat so_far.emitted ≡ true → FlatStep found → FlatStep (and_then found (λ found. Some (behind_spilled so_far found)))
    behind-flat so_far None e h = tt
    behind-flat so_far (Some step) e h = flat-joined so_far.emitted step.0.emitted e h

    first-flat : (test : Bool) (n : ℕ) (stack : List Pending) (step : ℕ → List Pending → Option Step) → ((from : ℕ) (entries : List Pending) → FlatStep (step from entries)) → FlatStep (first_spilled test n stack step)
    first-flat true n stack step h = then-step (spill none n stack) (λ so_far. and_then (step so_far.next so_far.stack) (λ found. Some (behind_spilled so_far found))) (spill-flat none n stack) (λ so_far e. behind-flat so_far (step so_far.next so_far.stack) e (h so_far.next so_far.stack))
    first-flat false n stack step h = h n stack

    then-flat : (test : Bool) (step : Step) → are_flat step.0.emitted ≡ true → FlatStep (then_spilled test step)
    then-flat true step e = then-step (spill none step.0.next step.0.stack) (λ so_far. Some (record { emitted = joined step.0.emitted so_far.emitted; stack = so_far.stack; next = so_far.next }, step.1)) (spill-flat none step.0.next step.0.stack) (λ so_far f. flat-joined step.0.emitted so_far.emitted e f)
    then-flat false step e = e

    both-steps : (found : Option Step) (next : Step → Option Step) → FlatStep found → ((step : Step) → are_flat step.0.emitted ≡ true → FlatStep (next step)) → FlatStep (and_then found next)
    both-steps None next h k = tt
    both-steps (Some step) next h k = k step h

    one-flat : (names : Names) (pc : ℕ) (instruction : Instruction) (n : ℕ) (stack : List Pending) → FlatStep (advance_one headers class ways names pc instruction n stack)
    one-flat names pc instruction n stack =
        both-steps (first_spilled (ways.before instruction stack) n stack (λ from entries. advance headers class ways names pc instruction from entries (sort_of instruction))) (λ step. then_spilled (ways.after step.0.stack) step)
        (first-flat (ways.before instruction stack) n stack (λ from entries. advance headers class ways names pc instruction from entries (sort_of instruction)) (λ from entries. advance-flat names pc instruction from entries (sort_of instruction))) (λ step e. then-flat (ways.after step.0.stack) step e)

    -- the statements of a block
    pub rebuilt-flat : (starts : ℕ → Bool) (names : Names) (n : ℕ) (stack : List Pending) (instructions : Instructions) → FlatList (rebuilt headers class ways starts names n stack instructions)
    rebuilt-flat starts names n stack [] = tt
    rebuilt-flat starts names n stack (first ∷ rest) =
        if-list (continues (sort_of first.1) (meaning_of headers class first.1))
        (and_then (advance_one headers class ways names first.0 first.1 n stack) (λ step. and_then (if starts (pc_of rest) then ways.fall step.1 step.0.next step.0.stack rest else rebuilt headers class ways starts step.1 step.0.next step.0.stack rest) (λ more. Some (joined step.0.emitted more))))
        (ways.leave names n stack (first ∷ rest))
        (stepped (advance_one headers class ways names first.0 first.1 n stack) (one-flat names first.0 first.1 n stack) (λ names n stack. rebuilt-flat starts names n stack rest))
        (flat.leaves names n stack (first ∷ rest))
      where
        more-flat : (step : Step) → are_flat step.0.emitted ≡ true → (found : Option Stms) → FlatList found → FlatList (and_then found (λ more. Some (joined step.0.emitted more)))
        more-flat step e None h = tt
        more-flat step e (Some more) h = flat-joined step.0.emitted more e h

        stepped : (found : Option Step) → FlatStep found → ((names : Names) (n : ℕ) (stack : List Pending) → FlatList (rebuilt headers class ways starts names n stack rest))
            → FlatList (and_then found (λ step. and_then (if starts (pc_of rest) then ways.fall step.1 step.0.next step.0.stack rest else rebuilt headers class ways starts step.1 step.0.next step.0.stack rest) (λ more. Some (joined step.0.emitted more))))
        stepped None h further = tt
        stepped (Some step) h further =
            more-flat step h (if starts (pc_of rest) then ways.fall step.1 step.0.next step.0.stack rest else rebuilt headers class ways starts step.1 step.0.next step.0.stack rest)
            (if-list (starts (pc_of rest)) (ways.fall step.1 step.0.next step.0.stack rest) (rebuilt headers class ways starts step.1 step.0.next step.0.stack rest) (flat.falls step.1 step.0.next step.0.stack rest) (further step.1 step.0.next step.0.stack))

-- ---- the statements that stand for instructions

call-flat : (given : Option JType) (called : Option Exp) → FlatPlain (call_effect given called)
call-flat None None = tt
call-flat None (Some exp) = dropped-flat exp
call-flat (Some type) called = tt

element-flat : (world : List Header) (kind : elements.Element) (are : List Typed) → FlatPlain (element_effect world kind are)
element-flat world kind [] = tt
element-flat world kind (array ∷ []) = tt
element-flat world kind (array ∷ index ∷ []) = tt
element-flat world kind (array ∷ index ∷ new ∷ []) = by (element_in kind array.0)
  where
    by : (type : Option JType) → FlatPlain (and_then type (λ type. if works_on kind type && (is_whole index.0 && (fits_in world array.0 (Array (stored_as world type array.0 new.0)) && fits_in world new.0 (stored_as world type array.0 new.0)))
        then Some (SetElement (dressed world false array.0 (Array (stored_as world type array.0 new.0)) array.1) (as_int index.0 index.1) (dressed world true new.0 (stored_as world type array.0 new.0) new.1), set_element)
        else None))
    by None = tt
    by (Some type) = if-plain (works_on kind type && (is_whole index.0 && (fits_in world array.0 (Array (stored_as world type array.0 new.0)) && fits_in world new.0 (stored_as world type array.0 new.0))))
        (Some (SetElement (dressed world false array.0 (Array (stored_as world type array.0 new.0)) array.1) (as_int index.0 index.1) (dressed world true new.0 (stored_as world type array.0 new.0) new.1), set_element)) None refl tt
element-flat world kind (array ∷ index ∷ new ∷ fourth ∷ rest) = tt

field-flat : (world : List Header) (field : FieldRef) (are : List Typed) → FlatPlain (field_effect world field are)
field-flat world field [] = tt
field-flat world field (object ∷ []) = tt
field-flat world field (object ∷ new ∷ []) =
    if-plain (fits_in world object.0 field.owner && fits_in world new.0 field.kind) (Some (SetField (dressed world false object.0 field.owner object.1) field.name (dressed world true new.0 field.kind new.1), set_field)) None refl tt
field-flat world field (object ∷ new ∷ third ∷ rest) = tt

static-flat : (world : List Header) (field : FieldRef) (are : List Typed) → FlatPlain (static_effect world field are)
static-flat world field [] = tt
static-flat world field (new ∷ []) =
    if-plain (fits_in world new.0 field.kind) (and_then (class_of field.owner) (λ class. Some (SetStatic class field.name (dressed world true new.0 field.kind new.1), set_static))) None (by (class_of field.owner)) tt
  where
    by : (class : Option Name) → FlatPlain (and_then class (λ class. Some (SetStatic class field.name (dressed world true new.0 field.kind new.1), set_static)))
    by None = tt
    by (Some class) = refl
static-flat world field (new ∷ second ∷ rest) = tt

effect-flat : (known : Surroundings) (instruction : Instruction) (are : List Typed) → FlatPlain (member_effect known instruction are)
effect-flat known (op.ArrayStore kind) are = element-flat known.headers kind are
effect-flat known (op.PutStatic field) are = static-flat known.headers field are
effect-flat known (op.PutField field) are = field-flat known.headers field are
effect-flat known (op.InvokeVirtual method) are = call-flat (result (asked_of Virtual method.owner method)) (object_call known method are)
effect-flat known (op.InvokeSpecial method) are = call-flat (result_of method.descriptor) (special_call known method are)
effect-flat known (op.InvokeStatic method) are = call-flat (result_of method.descriptor) (class_call known method are)
effect-flat known (op.InvokeInterface method) are = call-flat (result (asked_of Interface method.owner method)) (object_call known method are)
effect-flat known instruction are = tt

-- ---- how control leaves

emitted-flat : (found : Option Built) → FlatBuilt found → FlatList (emitted_by found)
emitted-flat None h = tt
emitted-flat (Some built) h = h

on-one-flat : (next : Typed → List Pending → Option Built) → ((one : Typed) (below : List Pending) → FlatBuilt (next one below)) → (are : List Typed) (below : List Pending) → FlatBuilt (on_one next are below)
on-one-flat next h [] below = tt
on-one-flat next h (first ∷ []) below = h first below
on-one-flat next h (first ∷ second ∷ rest) below = tt

on-two-flat : (next : Typed → Typed → List Pending → Option Built) → ((one other : Typed) (below : List Pending) → FlatBuilt (next one other below)) → (are : List Typed) (below : List Pending) → FlatBuilt (on_two next are below)
on-two-flat next h [] below = tt
on-two-flat next h (first ∷ []) below = tt
on-two-flat next h (first ∷ second ∷ []) below = h first second below
on-two-flat next h (first ∷ second ∷ third ∷ rest) below = tt

-- no edge leads to another block
no-list : {A : Type 0} (found : Option A) (next : A → Stms → Option Stms) → FlatList (and_then found (λ one. and_then None (next one)))
no-list None next = tt
no-list (Some one) next = tt

no-built : {A : Type 0} (found : Option A) (next : A → Stms → Option Built) → FlatBuilt (and_then found (λ one. and_then None (next one)))
no-built None next = tt
no-built (Some one) next = tt

module _ (world : List Header) (given : Option JType) where
  abbrev edges : Edges
  edges = lone_edges world

  goes-flat : (names : Names) (n : ℕ) (stack : List Pending) (target : ℕ) → FlatList (goes_to edges names n stack target)
  goes-flat names n stack target = no-list (spill (edges.puts names stack target) n stack) (λ so_far last. Some (joined so_far.emitted last))

  branches-flat : (names : Names) (n : ℕ) (below : List Pending) (target other : ℕ) (test : Option Exp) → FlatBuilt (branches_by edges names n below target other test)
  branches-flat names n below target other None = tt
  branches-flat names n below target other (Some test) =
      no-built (spill (puts_any edges names below (target ∷ other ∷ []) test) n below) (λ so_far first. and_then None (λ second. Some (closing so_far (If test first second))))

  switches-flat : (names : Names) (n : ℕ) (cases : List Case) (last : ℕ) (one : Typed) (below : List Pending) → FlatBuilt (switches edges names n (cases ++ (None, last) ∷ []) one below)
  switches-flat names n cases last one below = by (is_whole one.0) (spill (puts_any edges names below (targets_in (cases ++ (None, last) ∷ [])) (as_int one.0 one.1)) n below)
    where
      nothing : (cases : List Case) (so_far : Built) → FlatBuilt (and_then (groups_of edges names so_far.stack (cases ++ (None, last) ∷ [])) (λ groups. Some (closing so_far (Switch (as_int one.0 one.1) groups))))
      nothing [] so_far = tt
      nothing (first ∷ rest) so_far = tt

      by : (test : Bool) (found : Option Built) → FlatBuilt (if test then and_then found (λ so_far. and_then (groups_of edges names so_far.stack (cases ++ (None, last) ∷ [])) (λ groups. Some (closing so_far (Switch (as_int one.0 one.1) groups)))) else None)
      by true None = tt
      by true (Some so_far) = nothing cases so_far
      by false found = tt

  returned-flat : (type : JType) (n : ℕ) (one : Typed) (below : List Pending) → FlatBuilt (returned world edges type n one below)
  returned-flat type n one below =
      if-built (fits_in world one.0 type) (emit (assigns (dressed world true one.0 type one.1)) n below (Return (Some (dressed world true one.0 type one.1)))) None
      (emit-flat (assigns (dressed world true one.0 type one.1)) n below (Return (Some (dressed world true one.0 type one.1))) refl) tt

  result-flat : (type : Option JType) (n : ℕ) (stack : List Pending) → FlatBuilt (returned_as world edges type n stack)
  result-flat None n stack = tt
  result-flat (Some type) n stack = operands-flat 1 [] stack (on_one (returned world edges type n)) (on-one-flat (returned world edges type n) (returned-flat type n))

  thrown-flat : (n : ℕ) (one : Typed) (below : List Pending) → FlatBuilt (thrown world edges n one below)
  thrown-flat n one below =
      if-built (fits_in world one.0 throwable) (emit (assigns (dressed world true one.0 throwable one.1)) n below (Throw (dressed world true one.0 throwable one.1))) None
      (emit-flat (assigns (dressed world true one.0 throwable one.1)) n below (Throw (dressed world true one.0 throwable one.1)) refl) tt

  left-flat : (names : Names) (n : ℕ) (stack : List Pending) (behind : ℕ) (instruction : Instruction) → FlatList (left_by world given edges names n stack behind instruction)
  left-flat names n stack behind (op.IfZero test target) =
      emitted-flat (with_operands 1 [] stack (on_one (λ one below. branches_by edges names n below target behind (zero_test test one)))) (operands-flat 1 [] stack (on_one (λ one below. branches_by edges names n below target behind (zero_test test one)))
      (on-one-flat (λ one below. branches_by edges names n below target behind (zero_test test one)) (λ one below. branches-flat names n below target behind (zero_test test one))))
  left-flat names n stack behind (op.IfInts test target) =
      emitted-flat (with_operands 2 [] stack (on_two (λ one other below. branches_by edges names n below target behind (ints_test test one other)))) (operands-flat 2 [] stack (on_two (λ one other below. branches_by edges names n below target behind (ints_test test one other)))
      (on-two-flat (λ one other below. branches_by edges names n below target behind (ints_test test one other)) (λ one other below. branches-flat names n below target behind (ints_test test one other))))
  left-flat names n stack behind (op.IfRefs equal target) =
      emitted-flat (with_operands 2 [] stack (on_two (λ one other below. branches_by edges names n below target behind (refs_test edges equal one other)))) (operands-flat 2 [] stack (on_two (λ one other below. branches_by edges names n below target behind (refs_test edges equal one other)))
      (on-two-flat (λ one other below. branches_by edges names n below target behind (refs_test edges equal one other)) (λ one other below. branches-flat names n below target behind (refs_test edges equal one other))))
  left-flat names n stack behind (op.IfNull null target) =
      emitted-flat (with_operands 1 [] stack (on_one (λ one below. branches_by edges names n below target behind (null_test null one)))) (operands-flat 1 [] stack (on_one (λ one below. branches_by edges names n below target behind (null_test null one)))
      (on-one-flat (λ one below. branches_by edges names n below target behind (null_test null one)) (λ one below. branches-flat names n below target behind (null_test null one))))
  left-flat names n stack behind (op.Goto target) = goes-flat names n stack target
  left-flat names n stack behind (op.TableSwitch low targets other) =
      emitted-flat (with_operands 1 [] stack (on_one (switches edges names n (table_cases low targets ++ (None, other) ∷ [])))) (operands-flat 1 [] stack (on_one (switches edges names n (table_cases low targets ++ (None, other) ∷ [])))
      (on-one-flat (switches edges names n (table_cases low targets ++ (None, other) ∷ [])) (switches-flat names n (table_cases low targets) other)))
  left-flat names n stack behind (op.LookupSwitch cases other) =
      emitted-flat (with_operands 1 [] stack (on_one (switches edges names n (listed_cases cases ++ (None, other) ∷ [])))) (operands-flat 1 [] stack (on_one (switches edges names n (listed_cases cases ++ (None, other) ∷ [])))
      (on-one-flat (switches edges names n (listed_cases cases ++ (None, other) ∷ [])) (switches-flat names n (listed_cases cases) other)))
  left-flat names n stack behind (op.Return None) = emitted-flat (emit none n stack (Return None)) (emit-flat none n stack (Return None) refl)
  left-flat names n stack behind (op.Return (Some kind)) = emitted-flat (returned_as world edges given n stack) (result-flat given n stack)
  left-flat names n stack behind op.Throw = emitted-flat (with_operands 1 [] stack (on_one (thrown world edges n))) (operands-flat 1 [] stack (on_one (thrown world edges n)) (on-one-flat (thrown world edges n) (thrown-flat n)))
  left-flat names n stack behind instruction = tt

  leave-flat : (names : Names) (n : ℕ) (stack : List Pending) (list : Instructions) → FlatList (leave world given edges names n stack list)
  leave-flat names n stack [] = tt
  leave-flat names n stack (first ∷ rest) = left-flat names n stack (pc_of rest) first.1

lone-ways-flat : (known : Surroundings) (parts : Parts) → AreFlat (lone_ways known parts)
lone-ways-flat known parts = record {
  effects = effect-flat known;
  falls = λ names n stack rest. goes-flat known.headers (result_of parts.typed.code.descriptor) names n stack (pc_of rest);
  leaves = λ names n stack list. leave-flat known.headers (result_of parts.typed.code.descriptor) names n stack list;
}

-- ---- what follows

quiet-one : (first : Stm) (rest : Stms) → is_flat first ≡ true → HaveNoTry rest → HaveNoTry (And first rest)
quiet-one (Block list) rest e h = absurd (false≢true e)
quiet-one (Labelled label statement) rest e h = absurd (false≢true e)
quiet-one (Declare variable kind initial) rest e h = (tt, h)
quiet-one (Set variable new) rest e h = (tt, h)
quiet-one (SetField object name new) rest e h = (tt, h)
quiet-one (SetStatic class name new) rest e h = (tt, h)
quiet-one (SetElement array index new) rest e h = (tt, h)
quiet-one (Run call) rest e h = (tt, h)
quiet-one (If test first second) rest e h = absurd (false≢true e)
quiet-one (While test body) rest e h = absurd (false≢true e)
quiet-one (Switch on cases) rest e h = absurd (false≢true e)
quiet-one (Break label) rest e h = absurd (false≢true e)
quiet-one (Continue label) rest e h = absurd (false≢true e)
quiet-one (Return value) rest e h = (tt, h)
quiet-one (Throw exception) rest e h = (tt, h)
quiet-one (Rethrow variable) rest e h = absurd (false≢true e)
quiet-one (Try body clauses) rest e h = absurd (false≢true e)
quiet-one (Synchronized monitor body) rest e h = absurd (false≢true e)
quiet-one (Construct own arguments) rest e h = absurd (false≢true e)
quiet-one (Do body test) rest e h = absurd (false≢true e)
quiet-one (For test variable step body) rest e h = absurd (false≢true e)
quiet-one (Finally body last) rest e h = absurd (false≢true e)

flat-quiet : (tree : Stms) → are_flat tree ≡ true → HaveNoTry tree
flat-quiet Empty e = tt
flat-quiet (And first rest) e = let parts = and_parts (is_flat first) (are_flat rest) e in quiet-one first rest parts.0 (flat-quiet rest parts.1)

lacks-one : (label : ℕ) (first : Stm) (rest : Stms) → is_flat first ≡ true → list_lacks label rest ≡ true → list_lacks label (And first rest) ≡ true
lacks-one label (Block list) rest e h = absurd (false≢true e)
lacks-one label (Labelled other statement) rest e h = absurd (false≢true e)
lacks-one label (Declare variable kind initial) rest e h = h
lacks-one label (Set variable new) rest e h = h
lacks-one label (SetField object name new) rest e h = h
lacks-one label (SetStatic class name new) rest e h = h
lacks-one label (SetElement array index new) rest e h = h
lacks-one label (Run call) rest e h = h
lacks-one label (If test first second) rest e h = absurd (false≢true e)
lacks-one label (While test body) rest e h = absurd (false≢true e)
lacks-one label (Switch on cases) rest e h = absurd (false≢true e)
lacks-one label (Break other) rest e h = absurd (false≢true e)
lacks-one label (Continue other) rest e h = absurd (false≢true e)
lacks-one label (Return value) rest e h = h
lacks-one label (Throw exception) rest e h = h
lacks-one label (Rethrow variable) rest e h = absurd (false≢true e)
lacks-one label (Try body clauses) rest e h = absurd (false≢true e)
lacks-one label (Synchronized monitor body) rest e h = absurd (false≢true e)
lacks-one label (Construct own arguments) rest e h = absurd (false≢true e)
lacks-one label (Do body test) rest e h = absurd (false≢true e)
lacks-one label (For test variable step body) rest e h = absurd (false≢true e)
lacks-one label (Finally body last) rest e h = absurd (false≢true e)

flat-lacks : (label : ℕ) (tree : Stms) → are_flat tree ≡ true → list_lacks label tree ≡ true
flat-lacks label Empty e = refl
flat-lacks label (And first rest) e = let parts = and_parts (is_flat first) (are_flat rest) e in lacks-one label first rest parts.0 (flat-lacks label rest parts.1)

closed-one : (label : ℕ) (first : Stm) (rest : Stms) → is_flat first ≡ true → (all_ways rest).jumps label ≡ false → (all_ways (And first rest)).jumps label ≡ false
closed-one label (Block list) rest e h = absurd (false≢true e)
closed-one label (Labelled other statement) rest e h = absurd (false≢true e)
closed-one label (Declare variable kind initial) rest e h = h
closed-one label (Set variable new) rest e h = h
closed-one label (SetField object name new) rest e h = h
closed-one label (SetStatic class name new) rest e h = h
closed-one label (SetElement array index new) rest e h = h
closed-one label (Run call) rest e h = h
closed-one label (If test first second) rest e h = absurd (false≢true e)
closed-one label (While test body) rest e h = absurd (false≢true e)
closed-one label (Switch on cases) rest e h = absurd (false≢true e)
closed-one label (Break other) rest e h = absurd (false≢true e)
closed-one label (Continue other) rest e h = absurd (false≢true e)
closed-one label (Return value) rest e h = refl
closed-one label (Throw exception) rest e h = refl
closed-one label (Rethrow variable) rest e h = absurd (false≢true e)
closed-one label (Try body clauses) rest e h = absurd (false≢true e)
closed-one label (Synchronized monitor body) rest e h = absurd (false≢true e)
closed-one label (Construct own arguments) rest e h = absurd (false≢true e)
closed-one label (Do body test) rest e h = absurd (false≢true e)
closed-one label (For test variable step body) rest e h = absurd (false≢true e)
closed-one label (Finally body last) rest e h = absurd (false≢true e)

flat-closed : (label : ℕ) (tree : Stms) → are_flat tree ≡ true → (all_ways tree).jumps label ≡ false
flat-closed label Empty e = refl
flat-closed label (And first rest) e = let parts = and_parts (is_flat first) (are_flat rest) e in closed-one label first rest parts.0 (flat-closed label rest parts.1)

plain-one : (first : Stm) (rest : Stms) → is_flat first ≡ true → opening_call (And first rest) ≡ None
plain-one (Block list) rest e = refl
plain-one (Labelled other statement) rest e = refl
plain-one (Declare variable kind initial) rest e = refl
plain-one (Set variable new) rest e = refl
plain-one (SetField object name new) rest e = refl
plain-one (SetStatic class name new) rest e = refl
plain-one (SetElement array index new) rest e = refl
plain-one (Run call) rest e = refl
plain-one (If test first second) rest e = refl
plain-one (While test body) rest e = refl
plain-one (Switch on cases) rest e = refl
plain-one (Break other) rest e = refl
plain-one (Continue other) rest e = refl
plain-one (Return value) rest e = refl
plain-one (Throw exception) rest e = refl
plain-one (Rethrow variable) rest e = refl
plain-one (Try body clauses) rest e = refl
plain-one (Synchronized monitor body) rest e = refl
plain-one (Construct own arguments) rest e = absurd (false≢true e)
plain-one (Do body test) rest e = refl
plain-one (For test variable step body) rest e = refl
plain-one (Finally body last) rest e = refl

flat-plain : (tree : Stms) → are_flat tree ≡ true → opening_call tree ≡ None
flat-plain Empty e = refl
flat-plain (And first rest) e = plain-one first rest (and_parts (is_flat first) (are_flat rest) e).0

had-flat : (found : Option Stms) (tree : Stms) → FlatList found → found ≡ Some tree → are_flat tree ≡ true
had-flat None tree h e = absurd (cc)
had-flat (Some list) tree h e = let same : list ≡ tree = cc in subst (λ (list : Stms). are_flat list ≡ true) same h

-- what stands for any of its instructions is flat, whatever names the slots have
pub rest-flat : (known : Surroundings) (parts : Parts) (names : Names) (n : ℕ) (stack : List Pending) (list : Instructions) (tree : Stms)
    → rebuilt known.headers parts.typed.code.class (lone_ways known parts) (is_start parts.starts) names n stack list ≡ Some tree → IsFlatTree tree
rest-flat known parts names n stack list tree e =
    let flat = had-flat (rebuilt known.headers parts.typed.code.class (lone_ways known parts) (is_start parts.starts) names n stack list) tree (rebuilt-flat (lone_ways known parts) (lone-ways-flat known parts) known.headers parts.typed.code.class (is_start parts.starts) names n stack list) e in
    record { flat = flat; quiet = flat-quiet tree flat; lacks = λ label. flat-lacks label tree flat; plain = flat-plain tree flat; closed = λ label. flat-closed label tree flat }

pub lone-flat : LoneTreesAreFlat
lone-flat known parts tree e = rest-flat known parts (first_name parts) (length parts.vars.kinds) [] parts.typed.code.instructions tree e
