-- When the statements of a block show it: locals are the values of variables, before it and wherever it leads.
use Rattle.std.specs.Prelude.{◌≡◌, ℕ, ◌<◌, ◌≤◌, Bool, true, false, if◌then◌else◌, ℤ, length, List, [], ◌∷◌, Contains, Option, Some, None, slice_index_or, IsSome}
use Rattle.dj_names.specs.declared.header.Header.{Header}
use Rattle.dj_names.specs.Headers.{Name}
use Rattle.dj_names.specs.Types.{JType, Class, StaticType, Of}
use Rattle.dj_syntax.specs.declared.variable.Var.{Var}
use Rattle.dj_syntax.specs.Trees.{Exp, Stms}
use Rattle.dj_instructions.specs.declared.kinds.Kind.{Kind}
use Rattle.dj_instructions.specs.Instructions.{Instruction, Instructions}
use Rattle.dj_code.specs.MethodCode.{Code}
use Rattle.dj_starts.specs.Control.{control_of, falls_through}
use Rattle.dj_values.specs.Values.{RefValue, Value, Ref}
use Rattle.dj_values.specs.Outcomes.{Reply, State, Outcome, Is}
use Rattle.dj_meaning.specs.StaticTypes.{Context, Scope}
use Rattle.dj_meaning.specs.Runs.{Store, pure}
use Rattle.dj_meaning.specs.Completions.{Completion, Normal, Break, Return}
use Rattle.dj_meaning.specs.Meaning.{run_then}
use Rattle.dj_bytecode.specs.Meanings.{Strict, meaning_of}
use Rattle.dj_bytecode.specs.Machine.{Slots, Locals, local_slots, Place, Before, Returned, code_from, pc_of}
use Rattle.dj_blocks.specs.Blocks.{block}
use Rattle.dj_rebuilding.specs.Pending.{Atom, Named, exp_of, Pending, Typed, is_kept, is_kept_by}
use Rattle.dj_rebuilding.specs.Agreeing.{IsClear, SameTypes, IsEntry, AreEntries, atom_value, Holds, IsBelow}
use Rattle.dj_rebuilding.specs.Rest.{ShowsRest}
use Rattle.dj_meaning.specs.Variables.{EachInStm}
use Rattle.dj_rebuilt.specs.Sorts.{Sort, Storing, Counting, sort_of}
use Rattle.dj_rebuilt.specs.Rebuilding.{Names, atom_type, Plain, Ways, continues}
use Rattle.dj_rebuilt.specs.Standing.{AreOperands, IsNoded, IsConstant, IsEffect, IsBirth}

-- behind an instruction: the block ends where another starts, and goes on elsewhere
abbrev pub past : {S : Type 0} → List Header → Slots S → Code → (ℕ → Bool) → Instructions → List Value → State S → Outcome S Place
past headers slots code starts rest stack state = if starts (pc_of rest) then Is (Before rest stack) state else block headers slots code starts rest stack state

-- where a block is rebuilt: fresh variables from a number on aren't in scope, those below the first of them have their types, and the entries are well formed
pub record IsReady (context : Context) (base : ℕ) (first_scope : Scope) (n : ℕ) (scope : Scope) (stack : List Pending) : Type 0 where
  pub low : base ≤ n
  pub clear : IsClear n scope
  pub same : SameTypes base first_scope scope
  pub entries : AreEntries context n scope stack

-- an instruction writes a slot
pub data WritesTo : Sort → ℕ → Type 0 where
  by_store : {of : Kind} {slot : ℕ} → WritesTo (Storing of slot) slot
  by_count : {slot : ℕ} {by : ℤ} → WritesTo (Counting slot by) slot

-- ---- locals and variables

-- each named slot is there, and is what its atom is, which has a value of its type, by the headers that run
pub record AreNamed (context : Context) (most : ℕ) (names : Names) (locals : Locals) (store : Store) : Type 0 where
  pub room : most ≤ length locals
  pub has : (slot : ℕ) (type : JType) (atom : Atom) → names slot ≡ Some (type, atom) → slice_index_or locals slot None ≡ atom_value context atom store
  pub present : (slot : ℕ) (type : JType) (atom : Atom) → names slot ≡ Some (type, atom) → IsSome (slice_index_or locals slot None)
  pub kept : (slot : ℕ) (type : JType) (atom : Atom) → names slot ≡ Some (type, atom) → (one : Value) → atom_value context atom store ≡ Some one → is_kept context.headers (atom_type type atom) one ≡ true

-- names that a method has: of its slots, each by an atom that is well formed, and by variables of the slot alone
pub record AreNames (context : Context) (base most : ℕ) (scope : Scope) (owner : Var → ℕ) (names : Names) : Type 0 where
  pub within : (slot : ℕ) (type : JType) (atom : Atom) → names slot ≡ Some (type, atom) → slot < most
  pub entries : (slot : ℕ) (type : JType) (atom : Atom) → names slot ≡ Some (type, atom) → IsEntry context base scope (atom_type type atom) (exp_of atom)
  pub owned : (slot : ℕ) (type : JType) (variable : Var) → names slot ≡ Some (type, Named variable) → owner variable ≡ slot

-- a slot that an instruction writes is there, and the variable that it writes at an offset is one of that slot
pub record Owns (base most : ℕ) (scope : Scope) (owner : Var → ℕ) (ways : Ways) (pc : ℕ) (instruction : Instruction) : Type 0 where
  pub within : (slot : ℕ) → WritesTo (sort_of instruction) slot → slot < most
  pub owns : (slot : ℕ) → WritesTo (sort_of instruction) slot → (target : Var) (type : JType) → ways.target pc ≡ Some (target, type) → (slot < most) × (target.number < base) × (scope target ≡ Some type) × (owner target ≡ slot)

abbrev pub AllOwn : ℕ → ℕ → Scope → (Var → ℕ) → Ways → Instructions → Type 0
AllOwn base most scope owner ways [] = Unit {0}
AllOwn base most scope owner ways (first ∷ rest) = Owns base most scope owner ways first.0 first.1 × AllOwn base most scope owner ways rest

-- ---- the code's own rests

-- where control may go on behind an instruction, what stands behind it is the code from there on
abbrev pub IsBehind : Code → Instruction → Instructions → Type 0
IsBehind code instruction rest = falls_through (control_of instruction) ≡ true → code_from (pc_of rest) code.instructions ≡ rest

-- each is an instruction of the code, and what stands behind it is the code's
abbrev pub AllStandIn : Code → Instructions → Type 0
AllStandIn code [] = Unit {0}
AllStandIn code (first ∷ rest) = Contains code.instructions first × IsBehind code first.1 rest × AllStandIn code rest

-- ---- how a block is left

-- how the blocks of a method begin, by their numbers: the offset, the names of the slots, and the entries of the stack
pub record Entries : Type 0 where
  pub start : ℕ → ℕ
  pub names : ℕ → Names
  pub stack : ℕ → List Pending

-- a jump to a block, where the variables have what the locals and the stack have
pub record Enters (context : Context) (base most : ℕ) (scope : Scope) (owner : Var → ℕ) (code : Code) (entries : Entries) (rest : Instructions) (values : List Value) (locals : Locals) (done : Completion) (store : Store) : Type 0 where
  pub number : ℕ
  pub jumps : done ≡ Break number
  pub there : rest ≡ code_from (entries.start number) code.instructions
  pub lawful : AreNames context base most scope owner (entries.names number)
  pub named : AreNamed context most (entries.names number) locals store
  pub formed : AreEntries context base scope (entries.stack number)
  pub holds : Holds context store (entries.stack number) values

-- the block is left alike: to another one, or with the same result
abbrev pub LeavesAlike : Context → ℕ → ℕ → Scope → (Var → ℕ) → Code → Entries → Place → Locals → Completion → Store → Type 0
LeavesAlike context base most scope owner code entries (Before rest values) locals done store = Enters context base most scope owner code entries rest values locals done store
LeavesAlike context base most scope owner code entries (Returned value) locals done store = done ≡ Return value

-- nothing is asked of an exception that leaves a block that no handler covers
abbrev pub NothingCaught : Locals → Store → Type 0
NothingCaught locals store = Unit {0}

-- ---- what rebuilding rests on

-- what stands for the code's instructions does what they do, and the statements by which a block is left lead where it leads
pub record WaysHold (context : Context) (bound base most : ℕ) (scope : Scope) (owner : Var → ℕ) (code : Code) (starts : ℕ → Bool) (ways : Ways) (entries : Entries) : Type 0 where
  pub goes : (static : StaticType) (type : JType) → ways.goes static type ≡ true → (reference : RefValue) → is_kept context.headers static (Ref reference) ≡ true → is_kept_by context.headers type (Ref reference) ≡ true
  pub constants : (instruction : Instruction) (found : StaticType × Atom) → ways.constant instruction ≡ Some found → (count : ℕ) (operation : List Value → Reply (Option Value)) → meaning_of context.headers code.class instruction ≡ Strict count operation → IsConstant context count operation found
  pub nodes : (pc : ℕ) (instruction : Instruction) → Contains code.instructions (pc, instruction) → (are : List Typed) (found : Typed) → ways.node instruction are ≡ Some found → (count : ℕ) (operation : List Value → Reply (Option Value)) → meaning_of context.headers code.class instruction ≡ Strict count operation
      → (n : ℕ) (inner : Scope) → AreOperands context n inner are → IsNoded context n inner operation are found
  pub effects : (pc : ℕ) (instruction : Instruction) → Contains code.instructions (pc, instruction) → (are : List Typed) (found : Plain) → ways.effect instruction are ≡ Some found → (count : ℕ) (operation : List Value → Reply (Option Value)) → meaning_of context.headers code.class instruction ≡ Strict count operation
      → (n : ℕ) (inner : Scope) → AreOperands context n inner are → IsEffect context bound inner operation are found.0 × EachInStm (IsBelow n) found.0
  pub births : (pc : ℕ) (instruction : Instruction) → Contains code.instructions (pc, instruction) → (made : Name) (are : List Typed) (exp : Exp) → ways.birth instruction made are ≡ Some exp → (count : ℕ) (operation : List Value → Reply (Option Value)) → meaning_of context.headers code.class instruction ≡ Strict count operation
      → (n : ℕ) (inner : Scope) → AreOperands context n inner are → IsBirth context inner made operation are exp × IsEntry context n inner (Of (Class made)) exp
  pub falls : (names : Names) → AreNames context base most scope owner names → (n : ℕ) (inner : Scope) (stack : List Pending) → IsReady context base scope n inner stack → (rest : Instructions) → code_from (pc_of rest) code.instructions ≡ rest → starts (pc_of rest) ≡ true → (statements : Stms) → ways.fall names n stack rest ≡ Some statements
      → ShowsRest context NothingCaught (LeavesAlike context base most scope owner code entries) (AreNamed context most names) inner stack (past context.headers local_slots code starts rest) (run_then context inner bound statements (pure Normal))
  pub leaves : (names : Names) → AreNames context base most scope owner names → (n : ℕ) (inner : Scope) (stack : List Pending) → IsReady context base scope n inner stack → (pc : ℕ) (instruction : Instruction) (rest : Instructions) → Contains code.instructions (pc, instruction) → IsBehind code instruction rest
      → continues (sort_of instruction) (meaning_of context.headers code.class instruction) ≡ false
      → (statements : Stms) → ways.leave names n stack ((pc, instruction) ∷ rest) ≡ Some statements
      → ShowsRest context NothingCaught (LeavesAlike context base most scope owner code entries) (AreNamed context most names) inner stack (block context.headers local_slots code starts ((pc, instruction) ∷ rest)) (run_then context inner bound statements (pure Normal))
