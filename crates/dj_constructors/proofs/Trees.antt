-- The tree of a constructor of one block shows the block.
use Rattle.std.proofs.Common.{arith, ℕ, zero, suc, ◌-◌, ◌<◌, ◌≤◌, ◌==◌, ◌≡◌, ◌≢◌, Bool, true, false, List, [], ◌∷◌, length, drop, map, Contains, Option, Some, None, IsSome, ⊎_elim, le_of_eq, refl, sym, ap, ◌∙◌, subst, codes}
use Rattle.std.specs.Prelude.{is_none, if◌then◌else◌, slice_get, slice_index_or}
use Rattle.std.proofs.lemmas.Bool.{lt-ltb}
use Rattle.std.proofs.lemmas.Bool.Decides.{eqb_tells}
use Rattle.std.proofs.lemmas.Option.{slice_get_within}
use Rattle.dj_names.specs.declared.header.Header.{Header}
use Rattle.dj_names.specs.declared.members.ClassMembers.{ClassMembers}
use Rattle.dj_names.specs.MethodNames.{is_constructor}
use Rattle.dj_names.specs.Types.{JType, Of, parameters_of}
use Rattle.dj_syntax.specs.declared.variable.Var.{Var}
use Rattle.dj_syntax.specs.Trees.{Stm, Construct, Stms, And}
use Rattle.dj_instructions.specs.Instructions.{MethodRef, Instruction, Instructions, IsRising}
use Rattle.dj_instructions.specs.Instructions as op
use Rattle.dj_values.specs.Values.{Value}
use Rattle.dj_values.specs.Fits.{is_static}
use Rattle.dj_values.specs.Outcomes.{Reply, State, Outcome, Is, bind, outside}
use Rattle.dj_frames.specs.Frames.{UnbornThis}
use Rattle.dj_code.specs.MethodCode.{Code}
use Rattle.dj_tags.specs.Goes.{Working}
use Rattle.dj_effects.specs.Effects.{or_top}
use Rattle.dj_verify.specs.Rules.{entry, frame_in}
use Rattle.dj_loaded.specs.Loaded.{MayRun}
use Rattle.dj_loaded.proofs.Roots.{roots}
use Rattle.dj_meaning.specs.StaticTypes.{Context, Scope}
use Rattle.dj_meaning.specs.Runs.{Store, Meaning, pure, ◌>>=◌}
use Rattle.dj_meaning.specs.Completions.{Completion, Normal, sequence}
use Rattle.dj_meaning.specs.Members.{view_members}
use Rattle.dj_meaning.specs.Statements.{First}
use Rattle.dj_meaning.specs.Meaning.{run, run_then, context_of}
use Rattle.dj_meaning.specs.Ways.{all_ways}
use Rattle.dj_bytecode.specs.Meanings.{Strict, meaning_of}
use Rattle.dj_bytecode.specs.Machine as machine
use Rattle.dj_bytecode.specs.Machine.{Locals, local_slots, Place, code_from}
use Rattle.dj_bytecode.specs.SameShows.{AreArgumentsOf}
use Rattle.dj_blocks.specs.Blocks.{block}
use Rattle.dj_places.specs.Constants.{Surroundings}
use Rattle.dj_typing.specs.Sites.{is_whole}
use Rattle.dj_typed_states.specs.Facts.{classes}
use Rattle.dj_typed_states.specs.Held.{IsLocal}
use Rattle.dj_sound.specs.States.{table_of, IsStrict}
use Rattle.dj_widened.specs.Widens.{Widens}
use Rattle.dj_widened.specs.Meant.{AreAllWhole}
use Rattle.dj_rebuilding.specs.Pending.{Atom, Named, Pending, Typed, and_then, is_kept}
use Rattle.dj_rebuilding.specs.Agreeing.{atom_value}
use Rattle.dj_rebuilding.specs.Rest.{ShowsRest}
use Rattle.dj_rebuilding.proofs.Outcomes.{shows-weaken}
use Rattle.dj_rebuilding.proofs.Spills.{Settled}
use Rattle.dj_rebuilt.specs.Rebuilding.{atom_type, Ways, rebuilt}
use Rattle.dj_rebuilt.specs.Located.{IsReady, AreNamed, AreNames, AllStandIn, NothingCaught, past}
use Rattle.dj_rebuilt.proofs.Alike.{rebuilt_alike}
use Rattle.dj_rebuilt.proofs.Blocks.{inner-is}
use Rattle.dj_rebuilt.proofs.Jumps.{goes-shows}
use Rattle.dj_rebuilt.proofs.Located.{located-settled}
use Rattle.dj_rebuilt.proofs.Rebuilt.{made-if, both-are}
use Rattle.dj_members_shown.specs.Laws.{Runs}
use Rattle.dj_members_shown.specs.Meant.{constructed_class, IsOfConstruct}
use Rattle.dj_member_ways.specs.Holding.{MembersHold}
use Rattle.dj_member_nodes.specs.Going.{may_be_given}
use Rattle.dj_member_nodes.specs.Nodes.{given_to}
use Rattle.dj_vars.specs.Slots.{slot_tag, from_bottom}
use Rattle.dj_vars.specs.Naming.{AreVars, SaysReferences}
use Rattle.dj_vars.specs.Agreeing.{parameter_variable, HasParameters}
use Rattle.dj_blocks_shown.specs.Leaving.{Parts, is_start, uncaught, Meets, Leaves}
use Rattle.dj_blocks_shown.proofs.Walking.{drop-next, listed-at}
use Rattle.dj_standing.proofs.Places.{one-place}
use Rattle.dj_standing.proofs.Standing.{rests-are-own}
use Rattle.dj_graph.specs.GraphRuns.{run_tree}
use Rattle.dj_method.specs.Parts.{method_scope}
use Rattle.dj_one_block.specs.OneBlock.{lone_ways, first_name, head_of, known_in}
use Rattle.dj_one_block.proofs.Flat.{rest-flat}
use Rattle.dj_one_block_shown.specs.Shown.{IsKnown, IsLone}
use Rattle.dj_one_block_shown.proofs.Owners.{constructs-nothing, owner, names-lawful, begins-ready, all-own}
use Rattle.dj_one_block_shown.proofs.Trees.{this-there, this-is, this-passes, no_entries, Left, never-falls, last-leaves, stands-first, named, leaves-so, begins-so}
use Rattle.dj_constructors.specs.Opening.{opening_name, own_operands, is_of_own, construct, constructor_in, own_call, Opened, opened, fresh_from, constructor_tree, without}
use Rattle.dj_constructors.specs.Shown.{OthersDo, CallsOwn, IsConstructor, ConstructorTreesShow}
use Rattle.dj_constructors.proofs.Alike.{opened-alike}
use Rattle.dj_constructors.proofs.Calling.{operation, statement, construct-done, construct-nothing, OwnOperands, own-are, own-shows}
use Rattle.dj_constructors.proofs.Beginning.{own-slot, IsEntered, entered, OpeningAt, by_own, by_parameter, opening-at, opening-entries, parameter-there, parameter-kept}
use Rattle.dj_constructors.proofs.Walk.{AtCall, walks}
use Rattle.dj_constructors.proofs.Before.{AreFormed, BothNamed, both-stay, before-show}
use Rattle.dj_constructors.proofs.After.{Leaving, behind-shows}

some-is : {A : Type 0} (one other : A) → Some one ≡ Some other → one ≡ other
some-is one other e = cc

-- ---- the other instructions

-- the instructions but one, and what is among them
pub still-there : (pc : ℕ) (list : Instructions) (one : ℕ × Instruction) → Contains list one → (one.0 == pc) ≡ false → Contains (without pc list) one
still-there pc [] one (place, less, is) apart = absurd (omega (arith, less))
still-there pc (first ∷ rest) one (zero, less, is) apart =
    subst (λ (test : Bool). Contains (if test then without pc rest else first ∷ without pc rest) one) (sym (ap (λ (at : ℕ × Instruction). at.0 == pc) is ∙ apart)) (0, omega arith, is)
still-there pc (first ∷ rest) one (suc place, less, is) apart = later (first.0 == pc) (still-there pc rest one (place, omega (arith, less), is) apart)
  where
    later : (test : Bool) → Contains (without pc rest) one → Contains (if test then without pc rest else first ∷ without pc rest) one
    later true has = has
    later false has = (suc has.0, omega (arith, has.1), has.2)

-- none behind an instruction stands at its offset
apart-behind : (whole : Instructions) → IsRising whole → (after : ℕ) (first : ℕ × Instruction) (behind : Instructions) → drop after whole ≡ first ∷ behind
    → (list : Instructions) (place : ℕ) → drop place whole ≡ list → after < place → (one : ℕ × Instruction) → Contains list one → one.0 ≢ first.0
apart-behind whole rising after first behind here [] place e less one has same = absurd (let within = has.1 in omega (arith, within))
apart-behind whole rising after first behind here (next ∷ rest) place e less one (zero, within, is) same =
    let one_place : place ≡ after = one-place next rest first behind whole place after rising e here (ap (λ (at : ℕ × Instruction). at.0) is ∙ same) in
    absurd (omega (arith, one_place, less))
apart-behind whole rising after first behind here (next ∷ rest) place e less one (suc number, within, is) same =
    apart-behind whole rising after first behind here rest (suc place) (drop-next whole place next rest e) (omega (arith, less)) one (number, omega (arith, within), is) same

apart-told : (one other : ℕ) → one ≢ other → (one == other) ≡ false
apart-told one other differ = ⊎_elim (λ told. absurd (differ told.1)) (λ told. told.0) (eqb_tells one other)

-- ---- the call

constructor-is : (instruction : Instruction) (method : MethodRef) → constructor_in instruction ≡ Some method → (instruction ≡ op.InvokeSpecial method) × (is_constructor method.name ≡ true)
constructor-is (op.InvokeSpecial other) method e =
    let made = made-if (is_constructor other.name) (Some other) method e in
    let same : other ≡ method = some-is other method made.1 in
    (ap (λ (one : MethodRef). op.InvokeSpecial one) same, subst (λ (one : MethodRef). is_constructor one.name ≡ true) same made.0)
constructor-is instruction method e = absurd (cc)

record IsOwnCall (instruction : Instruction) (stack : List Pending) (method : MethodRef) (are : List Typed) : Type 0 where
  is : instruction ≡ op.InvokeSpecial method
  named : is_constructor method.name ≡ true
  operands : own_operands (length (parameters_of method.descriptor)) [] stack ≡ Some are

own-call-is : (instruction : Instruction) (stack : List Pending) (method : MethodRef) (are : List Typed) → own_call instruction stack ≡ Some (method, are) → IsOwnCall instruction stack method are
own-call-is instruction stack method are e =
    let b = both-are (constructor_in instruction) (λ method. and_then (own_operands (length (parameters_of method.descriptor)) [] stack) (λ are. Some (method, are))) (method, are) e in
    let c = both-are (own_operands (length (parameters_of b.one.descriptor)) [] stack) (λ are. Some (b.one, are)) (method, are) b.then_is in
    let same : (b.one, c.one) ≡ (method, are) = some-is (b.one, c.one) (method, are) c.then_is in
    let own = constructor-is instruction b.one b.is in
    subst (λ (one : MethodRef × List Typed). IsOwnCall instruction stack one.0 one.1) same (record { is = own.0; named = own.1; operands = c.is })

-- ---- the parts of the tree

record IsMade (known : Surroundings) (parts : Parts) (own : ℕ) (tree : Stms) : Type 0 where
  call : Opened
  rest : Stms
  no_frame : is_none (frame_in 0 parts.typed.code.frames) ≡ true
  opens : opened known.headers parts.typed.code.class (lone_ways known parts) (is_start parts.starts) own (fresh_from parts) (opening_name parts.typed.code) [] parts.typed.code.instructions ≡ Some call
  given : may_be_given known.headers call.1 (parameters_of call.0.descriptor) ≡ true
  follows : rebuilt known.headers parts.typed.code.class (lone_ways known parts) (is_start parts.starts) (first_name parts) (fresh_from parts) [] call.2 ≡ Some rest
  is : And (Construct (is_of_own known call.0) (given_to known call.0 (codes "<init>") (constructed_class known.headers known.class (is_of_own known call.0)) call.1)) rest ≡ tree

made-is : (known : Surroundings) (parts : Parts) (own : ℕ) (tree : Stms) → constructor_tree known parts own ≡ Some tree → IsMade known parts own tree
made-is known parts own tree e =
    let outer = made-if (is_none (frame_in 0 parts.typed.code.frames)) _ tree e in
    let a = both-are (opened known.headers parts.typed.code.class (lone_ways known parts) (is_start parts.starts) own (fresh_from parts) (opening_name parts.typed.code) [] parts.typed.code.instructions) _ tree outer.1 in
    let b = both-are (construct known a.one.0 a.one.1) _ tree a.then_is in
    let c = both-are (rebuilt known.headers parts.typed.code.class (lone_ways known parts) (is_start parts.starts) (first_name parts) (fresh_from parts) [] a.one.2) (λ rest. Some (And b.one rest)) tree b.then_is in
    let first = made-if (may_be_given known.headers a.one.1 (parameters_of a.one.0.descriptor)) (Some (Construct (is_of_own known a.one.0) (given_to known a.one.0 (codes "<init>") (constructed_class known.headers known.class (is_of_own known a.one.0)) a.one.1))) b.one b.is in
    record {
      call = a.one;
      rest = c.one;
      no_frame = outer.0;
      opens = a.is;
      given = first.0;
      follows = c.is;
      is = ap (λ (one : Stm). And one c.one) (some-is (Construct (is_of_own known a.one.0) (given_to known a.one.0 (codes "<init>") (constructed_class known.headers known.class (is_of_own known a.one.0)) a.one.1)) b.one first.1)
          ∙ some-is (And b.one c.one) tree c.then_is;
    }

-- what shows from more that is related shows from what says more
rest-weaker : {S A : Type 0} {E : S → Store → Type 0} {Q : A → S → Completion → Store → Type 0} {R More : S → Store → Type 0} (context : Context) (scope : Scope) (stack : List Pending) (next : List Value → State S → Outcome S A) (k : Meaning Completion)
    → ((own : S) (store : Store) → More own store → R own store) → ShowsRest context E Q R scope stack next k → ShowsRest context E Q More scope stack next k
rest-weaker context scope stack next k says h = record { rest = λ so_far store world start. h.rest so_far store world (shows-weaken start (λ first own second other both. (both.0, says own other both.1)) (λ own other e. e)) }

-- ---- the law

module _ (world : List Header) (members : List ClassMembers) (parts : Parts) (own : ℕ) (knows : IsKnown world members) (strict : IsStrict world parts.typed) (whole : is_whole world parts.typed.code.class ≡ true) (lone : IsLone parts) (some : parts.typed.code.instructions ≢ [])
    (are : AreVars parts.typed parts.starts parts.vars) (says : SaysReferences parts.typed) (constructor : IsConstructor parts.typed.code) (acts : OthersDo world members parts own) (calls : CallsOwn world members parts.typed.code own)
    (headers : List Header) (may : MayRun world headers) (arguments : List Value) (fit : AreArgumentsOf headers parts.typed.code arguments) where
  abbrev code : Code
  code = uncaught parts.typed.code

  abbrev known : Surroundings
  known = known_in world members parts.typed.code

  abbrev context : Context
  context = context_of headers members (head_of parts.typed.code) arguments

  abbrev n : ℕ
  n = fresh_from parts

  abbrev most : ℕ
  most = parts.typed.code.max_locals

  abbrev scope : Scope
  scope = method_scope (head_of parts.typed.code) parts

  abbrev ways : Ways
  ways = lone_ways known parts

  abbrev own_of : Var → ℕ
  own_of = owner parts are

  abbrev starts : ℕ → Bool
  starts = is_start parts.starts

  abbrev others : Instructions
  others = without own parts.typed.code.instructions

  abbrev End : Place → Locals → Completion → Store → Type 0
  End = Left world members parts knows.core strict lone some are says n headers may arguments fit

  past-code : length parts.vars.kinds ≤ n
  past-code = omega arith

  wide : Widens world headers
  wide = record { others = may.others; first = may.first; distinct = may.loadable.distinct; no_circle = may.loadable.no_circle; roots = roots world headers knows.core may; object = knows.core.object }

  runs : Runs world context
  runs = record { wide = wide; paired = le_of_eq knows.lawful.paired; whole = whole }

  formed : AreFormed context n scope (opening_name parts.typed.code)
  formed slot type atom e = opening-entries parts context refl slot type atom (opening-at parts.typed.code slot type atom e)

  -- ---- as the code begins

  module _ (no_frame : is_none (frame_in 0 parts.typed.code.frames) ≡ true) (stack : List Value) (state : State Locals) (store : Store) (meets : Meets headers parts context.this 0 stack state.store store) where
    first_frame : IsEntered world parts.typed
    first_frame = entered world parts.typed strict some no_frame

    frame-is : meets.stands.frame ≡ entry parts.typed.code
    frame-is =
        some-is meets.stands.frame (entry parts.typed.code) (sym meets.stands.there
        ∙ ap (λ (place : ℕ). slice_get (table_of parts.typed) place) (stands-first world members parts knows.core strict lone some are says n headers may arguments fit stack state store meets) ∙ first_frame.there)

    unborn-at : slot_tag parts.typed.code meets.stands.frame 0 ≡ Some UnbornThis
    unborn-at =
        let at = own-slot parts.typed.code constructor.instance constructor.unborn in
        let less = slice_get_within (entry parts.typed.code).locals 0 UnbornThis at in
        let room = first_frame.room in
        ap (λ (frame : Working). slot_tag parts.typed.code frame 0) frame-is
        ∙ ap (λ (test : Bool). if test then slice_get (entry parts.typed.code).locals 0 else from_bottom (entry parts.typed.code).stack (0 - most)) (lt-ltb 0 most (omega (arith, less, room))) ∙ at

    this-at : context.this ≡ slice_index_or state.store 0 None
    this-at = meets.agrees.unborn constructor.instance unborn-at

    parameters-at : HasParameters parts.typed.code state.store store
    parameters-at = meets.agrees.parameters constructor.instance unborn-at

    locals-hold : (slot : ℕ) → IsLocal (classes headers parts.typed.code) (or_top (slice_get (entry parts.typed.code).locals slot)) (slice_index_or state.store slot None)
    locals-hold slot = subst (λ (frame : Working). IsLocal (classes headers parts.typed.code) (or_top (slice_get frame.locals slot)) (slice_index_or state.store slot None)) frame-is (meets.stands.describes.in_locals slot)

    opening-named : AreNamed context most (opening_name parts.typed.code) state.store store
    opening-named = record {
      room = meets.stands.describes.room;
      has = λ slot type atom e. has slot type atom (opening-at parts.typed.code slot type atom e);
      present = λ slot type atom e. there slot type atom (opening-at parts.typed.code slot type atom e);
      kept = λ slot type atom e. kept slot type atom (opening-at parts.typed.code slot type atom e);
    }
      where
        has : (slot : ℕ) (type : JType) (atom : Atom) → OpeningAt parts.typed.code slot type atom → slice_index_or state.store slot None ≡ atom_value context atom store
        has slot type atom (by_own first) = ap (λ (at : ℕ). slice_index_or state.store at None) first ∙ sym this-at
        has slot type atom (by_parameter is) =
            sym (parameters-at.has is.number slot is.slot_is) ∙ ap (λ (one : Atom). atom_value context one store) (ap (λ (number : ℕ). Named (parameter_variable number)) (omega arith) ∙ is.atom_is)

        there : (slot : ℕ) (type : JType) (atom : Atom) → OpeningAt parts.typed.code slot type atom → IsSome (slice_index_or state.store slot None)
        there slot type atom (by_own first) =
            subst IsSome (this-at ∙ ap (λ (at : ℕ). slice_index_or state.store at None) (sym first))
            (this-there headers parts.typed.code.class (is_static parts.typed.code.flags) (parameters_of parts.typed.code.descriptor) arguments fit constructor.instance)
        there slot type atom (by_parameter is) = parameter-there headers parts.typed.code state.store locals-hold slot type atom is

        kept : (slot : ℕ) (type : JType) (atom : Atom) → OpeningAt parts.typed.code slot type atom → (one : Value) → atom_value context atom store ≡ Some one → is_kept headers (atom_type type atom) one ≡ true
        kept slot type atom (by_own first) one e =
            this-passes headers parts.typed.code.class one (this-is headers parts.typed.code.class (is_static parts.typed.code.flags) (parameters_of parts.typed.code.descriptor) arguments fit constructor.instance one e)
        kept slot type atom (by_parameter is) one e =
            let same : Named (parameter_variable is.number) ≡ atom = ap (λ (number : ℕ). Named (parameter_variable number)) (omega arith) ∙ is.atom_is in
            subst (λ (name : Atom). is_kept headers (atom_type type name) one ≡ true) same
            (parameter-kept headers parts.typed.code state.store locals-hold slot type atom is one (has slot type atom (by_parameter is) ∙ e))

  -- ---- from its beginning on

  ready : IsReady context n scope n scope []
  ready = begins-ready parts are n past-code context refl

  later : AreNames context n most scope own_of (first_name parts)
  later = names-lawful parts are n past-code context refl

  settled : Settled {A = Place} n NothingCaught End
  settled = located-settled context n most scope own_of code no_entries

  hold : (turns : ℕ) → MembersHold context turns (record code { instructions = others }) ways
  hold turns = let member = acts headers may arguments fit turns in record { goes = member.goes; constants = member.constants; nodes = member.nodes; effects = member.effects; births = member.births }

  -- up to the call
  abbrev ComesTo : ℕ → Opened → Type 0
  ComesTo turns call =
      AtCall context turns n settled local_slots code refl starts ways scope (BothNamed context most (first_name parts)) (AreFormed context n scope) others own
      (before-show context turns n most scope settled code refl starts ways own_of (first_name parts) later others (hold turns)) (opening_name parts.typed.code) [] parts.typed.code.instructions call

  comes-to : (turns : ℕ) (call : Opened) → opened world parts.typed.code.class ways starts own n (opening_name parts.typed.code) [] parts.typed.code.instructions ≡ Some call → ComesTo turns call
  comes-to turns call opens =
      walks context turns n settled local_slots code refl starts ways scope (BothNamed context most (first_name parts)) (AreFormed context n scope) others own
      (before-show context turns n most scope settled code refl starts ways own_of (first_name parts) later others (hold turns)) parts.typed.code.instructions (still-there own parts.typed.code.instructions)
      (opening_name parts.typed.code) formed [] ready call (opened-alike headers world parts.typed.code.class ways starts own n (opening_name parts.typed.code) [] parts.typed.code.instructions ∙ opens)

  module _ (turns : ℕ) (call : Opened) (given : may_be_given world call.1 (parameters_of call.0.descriptor) ≡ true) (rest : Stms) (follows : rebuilt world parts.typed.code.class ways starts (first_name parts) n [] call.2 ≡ Some rest) (comes : ComesTo turns call)
      (found : IsOwnCall comes.instruction comes.pending call.0 call.1) where
    listed : Contains parts.typed.code.instructions (own, op.InvokeSpecial call.0)
    listed = subst (λ (one : Instruction). Contains parts.typed.code.instructions (own, one)) found.is (listed-at (own, comes.instruction) call.2 parts.typed.code.instructions comes.after comes.here)

    abbrev means : IsOfConstruct world (map view_members members) parts.typed.code.class call.0
    means = calls.means call.0 listed found.named

    -- ---- behind the call

    there : drop (suc comes.after) parts.typed.code.instructions ≡ call.2
    there = drop-next parts.typed.code.instructions comes.after (own, comes.instruction) call.2 comes.here

    apart : (one : ℕ × Instruction) → Contains call.2 one → (one.0 == own) ≡ false
    apart one has =
        apart-told one.0 own (apart-behind parts.typed.code.instructions strict.rising comes.after (own, comes.instruction) call.2 comes.here call.2 (suc comes.after) there (omega arith) one has)

    leaving : Leaving context turns n most scope settled code refl starts ways own_of others (hold turns)
    leaving = record {
      falls = never-falls world members parts knows.core strict lone some are says n headers may arguments fit;
      leaves = last-leaves world members parts knows.core strict lone some are says n headers may arguments fit turns;
    }

    abbrev last : Meaning Completion
    last = run_then context scope turns rest (pure Normal)

    rest-shows : ShowsRest context NothingCaught End (AreNamed context most (first_name parts)) scope [] (block headers local_slots code starts call.2) last
    rest-shows =
        behind-shows context turns n most scope settled code refl starts ways own_of others (hold turns) leaving call.2
        (subst (AllStandIn code) there (rests-are-own world parts.typed strict (suc comes.after))) (all-own parts are n past-code world strict ways (λ pc. refl) call.2 (suc comes.after) there)
        (λ one in_code has. still-there own parts.typed.code.instructions one in_code (apart one has)) (first_name parts) later n scope [] ready rest
        (rebuilt_alike headers world parts.typed.code.class ways starts (first_name parts) n [] call.2 ∙ follows)

    further : ShowsRest context NothingCaught End (BothNamed context most (first_name parts) comes.held) scope [] (past headers local_slots code starts call.2) last
    further =
        goes-shows context turns n settled local_slots code refl starts call.2 comes.on scope [] last
        (rest-weaker context scope [] (block headers local_slots code starts call.2) last (λ mine store both. both.1) rest-shows)

    -- ---- the call

    abbrev count : ℕ
    count = length (parameters_of call.0.descriptor)

    abbrev wanted : AreAllWhole world (map Of (parameters_of call.0.descriptor))
    wanted = calls.whole call.0 listed

    abbrev does : List Value → Reply (Option Value)
    does = operation known context runs refl may constructor.named n scope call.0 means wanted

    abbrev opening : Stm
    opening = statement known context runs refl may constructor.named n scope call.0 means wanted call.1

    operands : OwnOperands context n count scope [] comes.pending call.1
    operands = own-are context n count scope [] comes.pending call.1 tt comes.ready.entries found.operands

    called : ShowsRest context NothingCaught End (BothNamed context most (first_name parts) comes.held) scope comes.pending (λ values state. bind (outside headers (machine.strict (suc count) does values) state) (past headers local_slots code starts call.2))
        (run context scope turns First opening >>= sequence last)
    called =
        own-shows context scope n count does comes.pending call.1 operands
        (construct-nothing known context runs refl may constructor.named n scope call.0 means wanted (constructs-nothing world parts.typed strict own call.0 listed found.named)) n
        (both-stay context n most scope own_of (first_name parts) later comes.held comes.lawful) (run context scope turns First opening)
        (construct-done known context runs refl may constructor.named n scope call.0 means wanted call.1 given operands.typed turns) (past headers local_slots code starts call.2) last further

    meaning-is : meaning_of headers code.class comes.instruction ≡ Strict (suc count) does
    meaning-is = ap (λ (one : Instruction). meaning_of headers code.class one) found.is ∙ ap (λ (more : ℕ). Strict more does) (omega arith)

    whole-shows : ShowsRest context NothingCaught End (BothNamed context most (first_name parts) (opening_name parts.typed.code)) scope [] (block headers local_slots code starts parts.typed.code.instructions) (run context scope turns First opening >>= sequence last)
    whole-shows =
        comes.law (run context scope turns First opening >>= sequence last)
        (subst (λ next. ShowsRest context NothingCaught End (BothNamed context most (first_name parts) comes.held) scope comes.pending next (run context scope turns First opening >>= sequence last))
        (λ i values state. sym (inner-is headers local_slots code starts refl own comes.instruction call.2 (Strict (suc count) does) meaning-is refl values state) i) called)

  shows-tree : (tree : Stms) → IsMade known parts own tree → (turns : ℕ) (stack : List Value) (state : State Locals) (store : Store) (meets : Meets headers parts context.this 0 stack state.store store)
      → Leaves parts context.this 0 (block headers local_slots code starts (code_from meets.start parts.typed.code.instructions) stack state) (run_tree context scope turns First tree (record { store = store; world = state.world }))
  shows-tree tree made turns stack state store meets =
      let comes = comes-to turns made.call made.opens in
      let found = own-call-is comes.instruction comes.pending made.call.0 made.call.1 comes.call in
      let listed_there = listed turns made.call made.given made.rest made.follows comes found in
      let shows = whole-shows turns made.call made.given made.rest made.follows comes found in
      subst (λ (one : Stms). Leaves parts context.this 0 (block headers local_slots code starts (code_from meets.start parts.typed.code.instructions) stack state) (run_tree context scope turns First one (record { store = store; world = state.world })))
      (ap (λ (mine : Bool). And (Construct mine (given_to known made.call.0 (codes "<init>") (constructed_class world parts.typed.code.class mine) made.call.1)) made.rest) (calls.told made.call.0 listed_there found.named) ∙ made.is)
      (leaves-so world members parts knows.core strict lone some are says n headers may arguments fit stack state store meets
      (shows.rest (Is stack state) store state.world
      (begins-so world members parts knows.core strict lone some are says n headers may arguments fit stack state store meets
      (opening-named made.no_frame stack state store meets, named world members parts knows.core strict lone some are says n headers may arguments fit stack state store meets))))

pub constructor-trees-show : ConstructorTreesShow
constructor-trees-show world members parts own knows strict whole lone some are says constructor acts calls tree e =
    let known = known_in world members parts.typed.code in
    let made = made-is known parts own tree e in
    let flat = rest-flat known parts (first_name parts) (fresh_from parts) [] made.call.2 made.rest made.follows in
    record {
      one = lone.one;
      uncaught = lone.uncaught;
      shows = λ headers may arguments fit. record { shows = λ turns stack state store meets. shows-tree world members parts own knows strict whole lone some are says constructor acts calls headers may arguments fit tree made turns stack state store meets };
      closed = λ label. subst (λ (one : Stms). (all_ways one).jumps label ≡ false) made.is (flat.closed label);
    }
