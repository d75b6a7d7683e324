-- The tree of a method of one block shows the block.
use Rattle.std.proofs.Common.{arith, ℕ, ◌-◌, ◌==◌, ◌≡◌, ◌≢◌, Bool, true, false, List, [], ◌∷◌, length, drop, length-drop, Contains, Option, Some, None, IsSome, refl, sym, ap, ◌∙◌, subst}
use Rattle.std.specs.Prelude.{◌&&◌, nat_lt, if◌then◌else◌, slice_get, slice_index_or}
use Rattle.std.proofs.lemmas.Bool.{and_parts, eq-eqb, false≢true}
use Rattle.dj_names.specs.declared.header.Header.{Header}
use Rattle.dj_names.specs.declared.members.ClassMembers.{ClassMembers}
use Rattle.dj_names.specs.Types as types
use Rattle.dj_names.specs.Types.{JType, Class, Of, result_of, parameters_of}
use Rattle.dj_syntax.specs.declared.variable.Var.{Var}
use Rattle.dj_syntax.specs.Trees.{Stm, Block, Labelled, Declare, Set, SetField, SetStatic, SetElement, Run, If, While, Switch, Break, Continue, Throw, Rethrow, Try, Synchronized, Construct, Do, For, Finally, Stms, Empty, And}
use Rattle.dj_syntax.specs.Trees as trees
use Rattle.dj_instructions.specs.Instructions.{Instruction, Instructions}
use Rattle.dj_values.specs.Values.{Value, Int, Long, Null, Ref}
use Rattle.dj_values.specs.Fits.{AreArguments, IsThis, is_static, this_of}
use Rattle.dj_values.specs.Outcomes.{World, State, Outcome, Is}
use Rattle.dj_code.specs.MethodCode.{Code}
use Rattle.dj_loaded.specs.Loaded.{MayRun, HasCore}
use Rattle.dj_meaning.specs.StaticTypes.{Context, Scope}
use Rattle.dj_meaning.specs.Runs.{Store, Meaning, pure, ◌>>=◌}
use Rattle.dj_meaning.specs.Completions.{Completion, Normal, sequence}
use Rattle.dj_meaning.specs.Declarations.{joined, declared, within, locally}
use Rattle.dj_meaning.specs.Statements.{First, Elsewhere}
use Rattle.dj_meaning.specs.Meaning.{run, run_then, run_all, context_of}
use Rattle.dj_bytecode.specs.Meanings.{meaning_of}
use Rattle.dj_bytecode.specs.Machine.{Locals, local_slots, Place, Before, Returned, code_from}
use Rattle.dj_bytecode.specs.SameShows.{AreArgumentsOf}
use Rattle.dj_blocks.specs.Blocks.{block}
use Rattle.dj_tags.specs.Goes.{Working}
use Rattle.dj_typed_states.specs.Facts.{classes}
use Rattle.dj_typed_states.specs.Held.{IsHeld, AllAre, none}
use Rattle.dj_sound.specs.States.{table_of, IsStrict}
use Rattle.dj_sound.proofs.Runs.{begins_strictly}
use Rattle.dj_rebuilding.specs.Shows.{at, Shows, gives, throws, cut, stuck, Equal}
use Rattle.dj_rebuilding.specs.Pending.{Atom, Nothing, Pending, Built, and_then, is_kept}
use Rattle.dj_rebuilding.specs.Agreeing.{atom_value}
use Rattle.dj_rebuilding.specs.Rest.{ShowsRest}
use Rattle.dj_rebuilt.specs.Sorts.{sort_of}
use Rattle.dj_rebuilt.specs.Rebuilding.{Names, atom_type, Ways, continues}
use Rattle.dj_rebuilt.specs.Located.{IsReady, IsBehind, AreNamed, AreNames, Entries, LeavesAlike, NothingCaught, WaysHold}
use Rattle.dj_rebuilt.proofs.Located.{located-settled, located-shows}
use Rattle.dj_rebuilt.proofs.Alike.{rebuilt_alike}
use Rattle.dj_vars.specs.Slots.{from_bottom, slot_value}
use Rattle.dj_vars.specs.Naming.{AreVars, SaysReferences}
use Rattle.dj_vars.specs.Agreeing.{IsKept, KeepsThis, IsThisSlot}
use Rattle.dj_blocks_shown.specs.Leaving.{Parts, is_start, uncaught, Meets, Leaves}
use Rattle.dj_strict_entries.proofs.Keeping.{fits-kept}
use Rattle.dj_strict_entries.proofs.Naming.{slots-kept}
use Rattle.dj_standing.proofs.Standing.{rests-are-own}
use Rattle.dj_edges.specs.Edges.{keeps_this}
use Rattle.dj_edges.proofs.Entering.{kept-this}
use Rattle.dj_exits.proofs.Shown.{leaves-shown}
use Rattle.dj_exits.proofs.Located.{named-stays, enters-breaks}
use Rattle.dj_lone_exits.specs.Lone.{lone_edges}
use Rattle.dj_lone_exits.proofs.Lone.{lone-exits-mean}
use Rattle.dj_graph.specs.GraphRuns.{run_tree}
use Rattle.dj_method.specs.Parts.{method_scope}
use Rattle.dj_one_block.specs.OneBlock.{lone_ways, first_name, lone_tree, head_of, known_in}
use Rattle.dj_one_block.specs.Flat.{is_flat, are_flat}
use Rattle.dj_one_block.proofs.Flat.{lone-flat}
use Rattle.dj_one_block_shown.specs.Shown.{IsLone, MembersDo, LoneTreesShow}
use Rattle.dj_one_block_shown.proofs.Locals.{HasFirst, block-keeps, keeps-told}
use Rattle.dj_one_block_shown.proofs.Owners.{begins-whole, returns-nothing, owner, NameAt, by_this, by_variable, name-at, names-lawful, begins-ready, all-own}

-- ---- plain facts

never : true ≡ false → ⊥
never e = cc

nothing-in : {A P : Type 0} (list : List A) (one : A) → list ≡ [] → Contains list one → P
nothing-in {A} list one empty has = absurd (none (subst (λ (list : List A). Contains list one) empty has))
  where
    none : Contains {X = A} [] one → ⊥
    none has = let less = has.1 in omega arith

some-is : {A : Type 0} (one other : A) → Some one ≡ Some other → one ≡ other
some-is one other e = cc

-- a list is whole from its beginning on alone
whole-at : (list : Instructions) (place : ℕ) → list ≢ [] → drop place list ≡ list → place ≡ 0
whole-at [] place some e = absurd (some refl)
whole-at (first ∷ rest) place some e = let less = length-drop place (first ∷ rest) in let same : length (drop place (first ∷ rest)) ≡ length (first ∷ rest) = ap length e in omega (arith, less, same)

-- what nothing stands for is nothing
all-nothing : {A B : Type 0} {Is : A → B → Type 0} {ones : List A} {others : List B} → AllAre Is ones [] → AllAre Is ones others → others ≡ []
all-nothing none none = refl

-- ---- the first statement

same-place : (context : Context) (scope : Scope) (bound : ℕ) (first : Stm) → is_flat first ≡ true → run context scope bound First first ≡ run context scope bound Elsewhere first
same-place context scope bound (Block list) e = absurd (false≢true e)
same-place context scope bound (Labelled label statement) e = absurd (false≢true e)
same-place context scope bound (Declare variable kind initial) e = refl
same-place context scope bound (Set variable new) e = refl
same-place context scope bound (SetField object name new) e = refl
same-place context scope bound (SetStatic class name new) e = refl
same-place context scope bound (SetElement array index new) e = refl
same-place context scope bound (Run call) e = refl
same-place context scope bound (If test first second) e = absurd (false≢true e)
same-place context scope bound (While test body) e = absurd (false≢true e)
same-place context scope bound (Switch on cases) e = absurd (false≢true e)
same-place context scope bound (Break label) e = absurd (false≢true e)
same-place context scope bound (Continue label) e = absurd (false≢true e)
same-place context scope bound (trees.Return None) e = refl
same-place context scope bound (trees.Return (Some value)) e = refl
same-place context scope bound (Throw exception) e = refl
same-place context scope bound (Rethrow variable) e = absurd (false≢true e)
same-place context scope bound (Try body clauses) e = absurd (false≢true e)
same-place context scope bound (Synchronized monitor body) e = absurd (false≢true e)
same-place context scope bound (Construct this arguments) e = absurd (false≢true e)
same-place context scope bound (Do body test) e = absurd (false≢true e)
same-place context scope bound (For test variable step body) e = absurd (false≢true e)
same-place context scope bound (Finally body last) e = absurd (false≢true e)

-- a flat tree runs as its statements do
flat-runs : (context : Context) (scope : Scope) (bound : ℕ) (tree : Stms) → are_flat tree ≡ true → run_tree context scope bound First tree ≡ run_then context scope bound tree (pure Normal)
flat-runs context scope bound Empty e = refl
flat-runs context scope bound (And first rest) e =
    ap (λ (part : Meaning Completion). locally (declared first) (part >>= sequence (run_all context (within (declared first) scope) bound rest))) (same-place context scope bound first (and_parts (is_flat first) (are_flat rest) e).0)

-- ---- `this`

pub this-there : (headers : List Header) (class : List ℕ) (static : Bool) (types : List JType) (arguments : List Value) → AreArguments headers class static types arguments → static ≡ false → IsSome (this_of static arguments)
this-there headers class true types arguments fit is = absurd (never is)
this-there headers class false types [] fit is = absurd fit
this-there headers class false types (first ∷ rest) fit is = refl

pub this-is : (headers : List Header) (class : List ℕ) (static : Bool) (types : List JType) (arguments : List Value) → AreArguments headers class static types arguments → static ≡ false → (one : Value) → this_of static arguments ≡ Some one → IsThis headers class one
this-is headers class true types arguments fit is one e = absurd (never is)
this-is headers class false types [] fit is one e = absurd fit
this-is headers class false types (first ∷ rest) fit is one e = subst (IsThis headers class) (let same : first ≡ one = cc in same) fit.0

pub this-passes : (headers : List Header) (class : List ℕ) (one : Value) → IsThis headers class one → is_kept headers (Of (Class class)) one ≡ true
this-passes headers class (Int number) is = absurd is
this-passes headers class (Long number) is = absurd is
this-passes headers class Null is = absurd is
this-passes headers class (Ref reference) is = fits-kept headers (Class class) (Ref reference) is

-- ---- how control leaves

-- control never leaves for another block: no names are lawful there
abbrev pub no_entries : Entries
no_entries = record { start = λ number. 0; names = λ number slot. Some (types.Int, Nothing); stack = λ number. [] }

no-jump : (found : Option Built) (statements : Stms) (next : Stms → Built → Option Stms) → and_then found (λ so_far. and_then None (λ last. next last so_far)) ≡ Some statements → ⊥
no-jump None statements next e = cc
no-jump (Some built) statements next e = cc

-- with fresh variables from a number on
module _ (world : List Header) (members : List ClassMembers) (parts : Parts) (core : HasCore world) (strict : IsStrict world parts.typed) (lone : IsLone parts) (some : parts.typed.code.instructions ≢ [])
    (are : AreVars parts.typed parts.starts parts.vars) (says : SaysReferences parts.typed) (low : ℕ) (headers : List Header) (may : MayRun world headers) (arguments : List Value) (fit : AreArgumentsOf headers parts.typed.code arguments) where
  abbrev code : Code
  code = uncaught parts.typed.code

  abbrev context : Context
  context = context_of headers members (head_of parts.typed.code) arguments

  abbrev most : ℕ
  most = parts.typed.code.max_locals

  abbrev ways : Ways
  ways = lone_ways (known_in world members parts.typed.code) parts

  abbrev own_of : Var → ℕ
  own_of = owner parts are

  abbrev scope : Scope
  scope = method_scope (head_of parts.typed.code) parts

  abbrev pub Left : Place → Locals → Completion → Store → Type 0
  Left = LeavesAlike context low most scope own_of code no_entries

  -- there is no other block to fall into
  pub never-falls : (names : Names) (n : ℕ) (stack : List Pending) (rest : Instructions) (statements : Stms) → ¬ (ways.fall names n stack rest ≡ Some statements)
  never-falls names n stack rest statements e = no-jump _ statements (λ last so_far. Some (joined so_far.emitted last)) e

  -- by its last instruction control leaves the block
  pub last-leaves : (bound : ℕ) (names : Names) → AreNames context low most scope own_of names → (n : ℕ) (inner : Scope) (stack : List Pending) → IsReady context low scope n inner stack
      → (pc : ℕ) (instruction : Instruction) (rest : Instructions) → Contains code.instructions (pc, instruction) → IsBehind code instruction rest → continues (sort_of instruction) (meaning_of context.headers code.class instruction) ≡ false
      → (statements : Stms) → ways.leave names n stack ((pc, instruction) ∷ rest) ≡ Some statements
      → ShowsRest context NothingCaught Left (AreNamed context most names) inner stack (block context.headers local_slots code (is_start parts.starts) ((pc, instruction) ∷ rest)) (run_then context inner bound statements (pure Normal))
  last-leaves bound names lawful n inner stack ready pc instruction rest has behind off statements e =
      leaves-shown world context bound low scope code refl (is_start parts.starts) (lone_edges world) (AreNames context low most scope own_of) (AreNamed context most) Left (located-settled context low most scope own_of code no_entries)
      (named-stays context low most scope own_of) (λ found lawful one own store r. refl) (enters-breaks context low most scope own_of code no_entries) (lone-exits-mean world context core may code refl bound low most scope own_of no_entries)
      names lawful n inner stack ready pc instruction rest behind off statements (returns-nothing world parts.typed strict pc instruction has) e

  -- the locals are what names say
  module _ (stack : List Value) (state : State Locals) (store : Store) (meets : Meets headers parts context.this 0 stack state.store store) where
    starts-first : meets.start ≡ 0
    starts-first = first (sym (ap (λ (starts : List ℕ). slice_get starts 0) lone.one) ∙ meets.listed)
      where
        first : Some 0 ≡ Some meets.start → meets.start ≡ 0
        first e = cc

    from-start : code_from meets.start parts.typed.code.instructions ≡ parts.typed.code.instructions
    from-start = ap (λ (start : ℕ). code_from start parts.typed.code.instructions) starts-first ∙ begins-whole parts.typed.code.instructions strict.rising

    pub stands-first : meets.stands.place ≡ 0
    stands-first = whole-at parts.typed.code.instructions meets.stands.place some (meets.stands.here ∙ from-start)

    -- nothing is on the stack
    no-stack : stack ≡ []
    no-stack =
        let first = begins_strictly world headers parts.typed (record { strict = strict; may = may }) some arguments fit in
        let one : first.place ≡ 0 = whole-at parts.typed.code.instructions first.place some first.here in
        let same : first.frame ≡ meets.stands.frame = some-is first.frame meets.stands.frame (sym first.there ∙ ap (λ (place : ℕ). slice_get (table_of parts.typed) place) (one ∙ sym stands-first) ∙ meets.stands.there) in
        all-nothing (subst (λ (frame : Working). AllAre (IsHeld (classes headers parts.typed.code)) frame.stack []) same first.describes.on_stack) meets.stands.describes.on_stack

    not-this : (slot : ℕ) → (keeps_this parts.typed.code && slot == 0) ≡ false → ¬ IsThisSlot parts.typed.code slot
    not-this slot other is = never (sym (ap (λ (test : Bool). test && slot == 0) (keeps-told parts.typed.code is.0) ∙ eq-eqb slot 0 is.1) ∙ other)

    in-locals : (slot : ℕ) → nat_lt slot most ≡ true → slot_value parts.typed.code stack state.store slot ≡ slice_index_or state.store slot None
    in-locals slot inside = ap (λ (test : Bool). if test then slice_index_or state.store slot None else from_bottom stack (slot - most)) inside

    kept-at : (slot variable : ℕ) → (keeps_this parts.typed.code && slot == 0) ≡ false → parts.vars.of 0 slot ≡ Some variable → IsKept parts.vars.kinds store variable (slot_value parts.typed.code stack state.store slot)
    kept-at slot variable other named = meets.agrees.slots slot variable named (not-this slot other)

    pub named : AreNamed context most (first_name parts) state.store store
    named = record {
      room = meets.stands.describes.room;
      has = λ slot type atom e. let name = name-at parts are slot type atom e in has slot type atom name.0 name.1;
      present = λ slot type atom e. let name = name-at parts are slot type atom e in present slot type atom name.0 name.1;
      kept = λ slot type atom e. let name = name-at parts are slot type atom e in kept slot type atom name.0 name.1;
    }
      where
        has : (slot : ℕ) (type : JType) (atom : Atom) → nat_lt slot most ≡ true → NameAt parts are slot type atom → slice_index_or state.store slot None ≡ atom_value context atom store
        has slot type atom inside (by_this keeps first) = ap (λ (at : ℕ). slice_index_or state.store at None) first ∙ sym (meets.agrees.itself (kept-this parts.typed.code keeps))
        has slot type atom inside (by_variable {variable} other named is) = sym (in-locals slot inside) ∙ sym (kept-at slot variable other named).has

        present : (slot : ℕ) (type : JType) (atom : Atom) → nat_lt slot most ≡ true → NameAt parts are slot type atom → IsSome (slice_index_or state.store slot None)
        present slot type atom inside (by_this keeps first) =
            let this = kept-this parts.typed.code keeps in
            subst IsSome (meets.agrees.itself this ∙ ap (λ (at : ℕ). slice_index_or state.store at None) (sym first))
            (this-there headers parts.typed.code.class (is_static parts.typed.code.flags) (parameters_of parts.typed.code.descriptor) arguments fit this.instance)
        present slot type atom inside (by_variable {variable} other named is) = subst IsSome (sym (sym (in-locals slot inside) ∙ (kept-at slot variable other named).holds.there)) refl

        kept : (slot : ℕ) (type : JType) (atom : Atom) → nat_lt slot most ≡ true → NameAt parts are slot type atom → (one : Value) → atom_value context atom store ≡ Some one → is_kept headers (atom_type type atom) one ≡ true
        kept slot type atom inside (by_this keeps first) one e =
            let this = kept-this parts.typed.code keeps in
            this-passes headers parts.typed.code.class one (this-is headers parts.typed.code.class (is_static parts.typed.code.flags) (parameters_of parts.typed.code.descriptor) arguments fit this.instance one e)
        kept slot type atom inside (by_variable {variable} {type = kind} other named is) one e =
            slots-kept headers parts.typed parts.starts parts.vars are says 0 meets.start meets.listed (λ none. some (sym from-start ∙ none)) stack state.store meets.stands slot variable named kind is one
            (sym (kept-at slot variable other named).has ∙ e)

    -- a run of the machine keeps `this`
    keeps : KeepsThis parts.typed.code → HasFirst context.this (block headers local_slots code (is_start parts.starts) parts.typed.code.instructions stack state)
    keeps this = block-keeps headers code (is_start parts.starts) context.this refl parts.typed.code.instructions this.never stack state (sym (meets.agrees.itself this))

    given-leaves : (place : Place) (locals : Locals) (done : Completion) (other : Store) (there : World) → Left place locals done other → Leaves parts context.this 0 (Is place (at locals there)) (Is done (at other there))
    given-leaves (Before rest values) locals done other there left = absurd (let less = left.lawful.within most types.Int Nothing refl in omega arith)
    given-leaves (Returned value) locals done other there left = record { after = at other there; is = subst (λ (one : Completion). Is done (at other there) ≡ Is one (at other there)) left refl; world = refl }

    shown-leaves : {place : Outcome Locals Place} {run : Outcome Store Completion} → Shows Left NothingCaught place run → (KeepsThis parts.typed.code → HasFirst context.this place) → Leaves parts context.this 0 place run
    shown-leaves (gives {first = place} {store = locals} {second = done} {other = other} {world = there} left) keep = given-leaves place locals done other there left
    shown-leaves (throws {reference = reference} {store = locals} {other = other} {world = there} nothing) keep = record {
      comes = record { after = at other there; is = refl; world = refl };
      agrees = record {
        slots = λ number slot variable caught. nothing-in parts.typed.code.handlers caught.handler lone.uncaught caught.has;
        itself = λ this. sym (keep this);
        unborn = λ number frame caught. nothing-in parts.typed.code.handlers caught.handler lone.uncaught caught.has;
        parameters = λ number frame caught. nothing-in parts.typed.code.handlers caught.handler lone.uncaught caught.has;
      };
    }
    shown-leaves (cut {store = locals} {other = other} {world = there}) keep = record { after = at other there; is = refl; world = refl }
    shown-leaves stuck keep = tt

    -- what shows the block leaves it as the machine does
    pub leaves-so : {run : Outcome Store Completion} → Shows Left NothingCaught (block headers local_slots code (is_start parts.starts) parts.typed.code.instructions stack state) run
        → Leaves parts context.this 0 (block headers local_slots code (is_start parts.starts) (code_from meets.start parts.typed.code.instructions) stack state) run
    leaves-so {run} shows = subst (λ (list : Instructions). Leaves parts context.this 0 (block headers local_slots code (is_start parts.starts) list stack state) run) (sym from-start) (shown-leaves shows keeps)

    -- nothing is pending there, and what is related is
    pub begins-so : {R : Locals → Store → Type 0} → R state.store store → Shows (Equal R) NothingCaught (Is stack state) (pure {A = List Value} [] (at store state.world))
    begins-so {R} related = subst (λ (values : List Value). Shows (Equal R) NothingCaught (Is values state) (pure {A = List Value} [] (at store state.world))) (sym no-stack) (gives (refl, related))

module _ (world : List Header) (members : List ClassMembers) (parts : Parts) (core : HasCore world) (strict : IsStrict world parts.typed) (lone : IsLone parts) (some : parts.typed.code.instructions ≢ [])
    (are : AreVars parts.typed parts.starts parts.vars) (says : SaysReferences parts.typed) (acts : MembersDo world members parts) (headers : List Header) (may : MayRun world headers) (arguments : List Value) (fit : AreArgumentsOf headers parts.typed.code arguments) where
  abbrev own_code : Code
  own_code = uncaught parts.typed.code

  abbrev own_context : Context
  own_context = context_of headers members (head_of parts.typed.code) arguments

  abbrev low : ℕ
  low = length parts.vars.kinds

  abbrev own_scope : Scope
  own_scope = method_scope (head_of parts.typed.code) parts

  abbrev own_ways : Ways
  own_ways = lone_ways (known_in world members parts.typed.code) parts

  holds : (bound : ℕ) → WaysHold own_context bound low parts.typed.code.max_locals own_scope (owner parts are) own_code (is_start parts.starts) own_ways no_entries
  holds bound =
      let member = acts headers may arguments fit bound in
      record {
        goes = member.goes;
        constants = member.constants;
        nodes = member.nodes;
        effects = member.effects;
        births = member.births;
        falls = λ names lawful n inner stack ready rest listed at_start statements e. absurd (never-falls world members parts core strict lone some are says low headers may arguments fit names n stack rest statements e);
        leaves = last-leaves world members parts core strict lone some are says low headers may arguments fit bound;
      }

  leaves : (stack : List Value) (state : State Locals) (store : Store) (meets : Meets headers parts own_context.this 0 stack state.store store) (turns : ℕ) (tree : Stms) → lone_tree (known_in world members parts.typed.code) parts ≡ Some tree
      → Leaves parts own_context.this 0 (block headers local_slots own_code (is_start parts.starts) (code_from meets.start parts.typed.code.instructions) stack state) (run_tree own_context own_scope turns First tree (record { store = store; world = state.world }))
  leaves stack state store meets turns tree e =
      let shows = located-shows own_context turns low parts.typed.code.max_locals own_scope (owner parts are) own_code (is_start parts.starts) own_ways no_entries refl (holds turns) parts.typed.code.instructions (rests-are-own world parts.typed strict 0)
      (all-own parts are low (omega arith) world strict own_ways (λ pc. refl) parts.typed.code.instructions 0 refl) (first_name parts) (names-lawful parts are low (omega arith) own_context refl) low own_scope [] (begins-ready parts are low (omega arith) own_context refl) tree
      (rebuilt_alike headers world parts.typed.code.class own_ways (is_start parts.starts) (first_name parts) low [] parts.typed.code.instructions ∙ e) in
      leaves-so world members parts core strict lone some are says low headers may arguments fit stack state store meets
      (subst (λ (part : Meaning Completion). Shows (Left world members parts core strict lone some are says low headers may arguments fit) NothingCaught (block headers local_slots own_code (is_start parts.starts) parts.typed.code.instructions stack state) (part (at store state.world)))
      (sym (flat-runs own_context own_scope turns tree (lone-flat (known_in world members parts.typed.code) parts tree e).flat))
      (shows.rest (Is stack state) store state.world
      (begins-so world members parts core strict lone some are says low headers may arguments fit stack state store meets (named world members parts core strict lone some are says low headers may arguments fit stack state store meets))))

pub lone-trees-show : LoneTreesShow
lone-trees-show world members parts core strict lone some are says acts tree e =
    let flat = lone-flat (known_in world members parts.typed.code) parts tree e in
    record {
      one = lone.one;
      uncaught = lone.uncaught;
      shows = λ headers may arguments fit. record { shows = λ turns stack state store meets. leaves world members parts core strict lone some are says acts headers may arguments fit stack state store meets turns tree e };
      closed = flat.closed;
    }
