-- A method that does nothing but return comes from its code by a graph of one node.
use Rattle.std.proofs.Common.{◌≡◌, ℕ, zero, suc, ◌-◌, inl, Bool, true, false, List, [], ◌∷◌, drop, Option, Some, None, codes, refl, sym, ap, ◌∙◌, subst, arith}
use Rattle.std.specs.Prelude.{if◌then◌else◌, nat_lt, option_map, slice_get}
use Rattle.std.specs.List.{Contains}
use Rattle.dj_names.specs.declared.header.Header.{Header}
use Rattle.dj_names.specs.declared.members.ClassMembers.{ClassMembers}
use Rattle.dj_names.specs.Types as types
use Rattle.dj_names.specs.Types.{JType, Method}
use Rattle.dj_syntax.specs.declared.variable.VarKind.{VarKind}
use Rattle.dj_syntax.specs.declared.variable.VarKind.TheVariants as kind
use Rattle.dj_syntax.specs.Trees as trees
use Rattle.dj_syntax.specs.Trees.{Body, Stms, Empty, And}
use Rattle.dj_values.specs.Values.{Value}
use Rattle.dj_values.specs.Outcomes.{State}
use Rattle.dj_instructions.specs.Instructions.{Instruction, Instructions, Return}
use Rattle.dj_frames.specs.Frames.{Tag, Object}
use Rattle.dj_code.specs.MethodCode.{Code, Typed}
use Rattle.dj_tags.specs.Goes.{Working}
use Rattle.dj_meaning.specs.StaticTypes.{Context, Scope}
use Rattle.dj_meaning.specs.Runs.{Store}
use Rattle.dj_meaning.specs.Meaning.{context_of}
use Rattle.dj_graph.specs.Graphs.{Node, Graph, node_at}
use Rattle.dj_graph.specs.GraphRuns.{run_tree, place_of, Suits}
use Rattle.dj_bytecode.specs.Machine.{Locals, local_slots, code_from}
use Rattle.dj_blocks.specs.Blocks.{block}
use Rattle.dj_vars.specs.Slots.{from_bottom, slot_tag, type_of_slot}
use Rattle.dj_vars.specs.Naming.{Vars, Writes, HasType, at_start, by_write, AreVars, SaysReferences}
use Rattle.dj_blocks_shown.specs.Leaving.{Parts, is_start, uncaught, Leaves}
use Rattle.dj_blocks_shown.specs.Catching.{as_covered, none_left}
use Rattle.dj_blocks_shown.specs.Keeping.{Runs, KeepsSomehow}
use Rattle.dj_blocks_shown.specs.Composing.{IsBlockNode, runs_of, IsMadeOf}

-- ---- code that returns

abbrev code : Code
code = record { class = codes "C"; name = codes "f"; flags = 8; interface = false; descriptor = Method [] None; thrown = []; max_stack = 0; max_locals = 0; instructions = (0, Return None) ∷ []; handlers = []; frames = [] }

abbrev typed : Typed
typed = record { code = code; frames = record { locals = []; stack = []; unborn_this = false } ∷ [] }

-- with no variable
abbrev vars : Vars
vars = record { of = λ block slot. None; after = λ pc. None; kinds = [] }

abbrev parts : Parts
parts = record { typed = typed; starts = 0 ∷ []; vars = vars }

abbrev at_return : ℕ × Instruction
at_return = (0, Return None)

abbrev no_instructions : Instructions
no_instructions = []

abbrev no_tags : List Tag
no_tags = []

-- its frame says nothing of any slot
no-slot : (place slot : ℕ) (frame : Working) → slice_get (record { locals = []; stack = []; unborn_this = false } ∷ []) place ≡ Some frame → slot_tag code frame slot ≡ None
no-slot zero slot frame e = subst (λ (found : Working). slot_tag code found slot ≡ None) (same e) (by (nat_lt slot 0))
  where
    same : Some (record { locals = []; stack = []; unborn_this = false }) ≡ Some frame → record { locals = []; stack = []; unborn_this = false } ≡ frame
    same e = cc

    by : (test : Bool) → (if test then slice_get no_tags slot else from_bottom no_tags (slot - 0)) ≡ None
    by true = refl
    by false = refl
no-slot (suc place) slot frame e = absurd (no e)
  where
    no : None ≡ Some frame → ⊥
    no e = cc

drop-nothing : (place : ℕ) → drop place no_instructions ≡ []
drop-nothing zero = refl
drop-nothing (suc place) = refl

no-write : (place pc slot : ℕ) (instruction : Instruction) (rest : Instructions) (frame : Working) (tag : Tag) → drop place ((0, Return None) ∷ []) ≡ (pc, instruction) ∷ rest → Writes frame instruction slot tag → ⊥
no-write zero pc slot instruction rest frame tag e writes = returns (subst (λ (one : Instruction). Writes frame one slot tag) (sym (same e)) writes)
  where
    first_same : at_return ∷ [] ≡ (pc, instruction) ∷ rest → at_return ≡ (pc, instruction)
    first_same e = cc

    same : (0, Return None) ∷ [] ≡ (pc, instruction) ∷ rest → Return None ≡ instruction
    same e = ap (λ (at : ℕ × Instruction). at.1) (first_same e)

    returns : Writes frame (Return None) slot tag → ⊥
    returns writes = elim writes [ ]
no-write (suc place) pc slot instruction rest frame tag e writes = no (sym (drop-nothing place) ∙ e)
  where
    no : [] ≡ (pc, instruction) ∷ rest → ⊥
    no e = cc

some-none : {A P : Type 0} (one : A) → None ≡ Some one → P
some-none one e = absurd (no one e)
  where
    no : {A : Type 0} (one : A) → None ≡ Some one → ⊥
    no one e = cc

no-type : (slot : ℕ) (type : JType) → HasType typed (0 ∷ []) slot type → ⊥
no-type slot type (at_start {frame = frame} begins e) = some-none type (sym (ap type_of_slot (no-slot begins.at.place slot frame begins.at.there)) ∙ e)
no-type slot type (by_write {pc = pc} writes) = no-write writes.at.place pc slot writes.instruction writes.at.rest writes.frame writes.tag writes.at.here writes.writes

are-vars : AreVars typed (0 ∷ []) vars
are-vars = record {
  number = λ slot type. 0;
  first = λ block frame begins slot. sym (ap (λ (found : Option Tag). option_map (λ (type : JType). 0) (type_of_slot found)) (no-slot begins.at.place slot frame begins.at.there));
  of_type = λ block slot variable e. some-none variable e;
  written = λ pc slot type writes. absurd (no-type slot type (by_write writes));
  unwritten = λ pc none. refl;
  kinds = λ slot type has. absurd (no-type slot type has);
  apart = λ one other has having same. absurd (no-type one.slot one.type has);
  each = λ variable less. absurd (omega arith);
}

says : SaysReferences typed
says = record { says = λ place slot frame type there e. some-none (Object type) (sym (no-slot place slot frame there) ∙ e) }

-- ---- its graph and its body

abbrev tree : Stms
tree = And (trees.Return None) Empty

abbrev node : Node
node = record { tree = tree; handlers = []; monitors = [] }

abbrev graph : Graph
graph = record { nodes = Some node ∷ []; catchers = []; kinds = [] }

abbrev body : Body
body = record { class = codes "C"; flags = 8; name = codes "f"; descriptor = Method [] None; thrown = []; statements = tree }

-- in scope are the variables of state loops alone
abbrev of_state : VarKind → Option JType
of_state kind.Param = None
of_state kind.Local = None
of_state kind.Caught = None
of_state kind.State = Some types.Int

abbrev scope : Scope
scope variable = of_state variable.kind

suits : Suits graph scope
suits = record {
  kinds = λ number one e. some-none one e;
  monitors = λ number other monitor there has. absurd (no-monitor number other monitor there has);
  states = λ number. refl;
  caught = λ number. refl;
}
  where
    no-monitor : (number : ℕ) (other : Node) (monitor : ℕ) → node_at graph number ≡ Some other → Contains other.monitors monitor → ⊥
    no-monitor zero other monitor there has = none (subst (λ (one : Node). Contains one.monitors monitor) (sym (same there)) has)
      where
        same : Some node ≡ Some other → node ≡ other
        same e = cc

        none : Contains {X = ℕ} [] monitor → ⊥
        none has = let less = has.1 in omega arith
    no-monitor (suc number) other monitor there has = some-none other there

keeps : (runs : Runs) → KeepsSomehow runs graph graph
keeps runs = record {
  forth = λ limits. (limits, λ headers may arguments fit answers. inl refl);
  back = λ limits. (limits, λ headers may arguments fit answers. inl refl);
}

abbrev empty_store : List Value → Store
empty_store arguments = record { variables = λ variable. None; held = [] }

module _ (headers : List Header) (members : List ClassMembers) (arguments : List Value) where
  abbrev context : Context
  context = context_of headers members body arguments

  leaves : (turns start : ℕ) (stack : List Value) (state : State Locals) (store : Store) → 0 ≡ start
      → Leaves parts context.this 0 (block headers local_slots (uncaught code) (is_start (0 ∷ [])) (code_from start code.instructions) stack state) (run_tree context scope turns (place_of 0) tree (record { store = store; world = state.world }))
  leaves turns start stack state store e =
      subst (λ (at : ℕ). Leaves parts context.this 0 (block headers local_slots (uncaught code) (is_start (0 ∷ [])) (code_from at code.instructions) stack state) (run_tree context scope turns (place_of 0) tree (record { store = store; world = state.world }))) e
      (record { after = record { store = store; world = state.world }; is = refl; world = refl })

  block-node : (number start : ℕ) → slice_get (0 ∷ []) number ≡ Some start → IsBlockNode context scope parts graph number start
  block-node zero start listed = subst (IsBlockNode context scope parts graph 0) (same listed) (record {
    node = node;
    there = refl;
    free = refl;
    shows = record { shows = λ turns stack state store meets. leaves turns meets.start stack state store (same meets.listed) };
    even = (λ handler has. absurd (let less = has.1 in omega arith), λ off goes. tt);
    catchers = as_covered none_left;
  })
    where
      same : {start : ℕ} → Some 0 ≡ Some start → 0 ≡ start
      same e = cc
  block-node (suc number) start listed = some-none start listed

-- the body comes from the code, whatever the world and its members
pub returning : (world : List Header) (members : List ClassMembers) → IsMadeOf world members parts body
returning world members = record {
  parted = record {
    first = refl;
    begins = refl;
    handlers = λ handler has empty. let less = has.1 in omega arith;
    vars = are-vars;
    says = says;
  };
  of_code = record { class = refl; name = refl; flags = refl; descriptor = refl; thrown = refl };
  scope = scope;
  before = graph;
  after = graph;
  suits = suits;
  rebuilt = λ headers may arguments fit. record { nodes = block-node headers members arguments };
  start = empty_store;
  keeps = keeps (runs_of world members parts body scope empty_store);
  node = node;
  tree = record { alone = refl; only = λ number. refl; uncaught = refl; free = refl; closed = λ label. refl };
  begins = λ headers may arguments fit. record { slots = λ slot variable e. some-none variable e; parameters = record { has = λ number slot e. some-none slot e }; free = refl };
  declared = λ headers may arguments fit answers turns. refl;
}
