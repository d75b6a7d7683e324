-- A whole method of five instructions shows what its statements show, by the law: what the law asks of its ways is met. `static void f(int a, int b) { b = a - b; }`.
use Rattle.std.proofs.Common.{◌≡◌, ℕ, zero, suc, ◌<◌, ◌≤◌, ◌==◌, Bool, true, false, List, [], ◌∷◌, Option, Some, None, codes, refl, sym, ap, ◌∙◌, subst, arith}
use Rattle.std.proofs.lemmas.Bool.{false≢true}
use Rattle.dj_names.specs.declared.header.Header.{Header}
use Rattle.dj_names.specs.Types as types
use Rattle.dj_names.specs.Types.{JType, Boolean, Byte, Char, Short, Float, Double, Class, Array, StaticType, Of, Method, result_of}
use Rattle.dj_syntax.specs.declared.variable.Var.{Var}
use Rattle.dj_syntax.specs.declared.operator.Op.TheVariants as operator
use Rattle.dj_syntax.specs.Trees as trees
use Rattle.dj_syntax.specs.Trees.{Stms, Empty, And}
use Rattle.dj_instructions.specs.declared.kinds.Calc.TheVariants as calcs
use Rattle.dj_instructions.specs.declared.kinds.Kind.TheVariants as kinds
use Rattle.dj_instructions.specs.Instructions.{Instruction, Instructions, Load, Store, Calc, Return}
use Rattle.dj_values.specs.Values.{RefValue, Ref}
use Rattle.dj_code.specs.MethodCode.{Code}
use Rattle.dj_meaning.specs.StaticTypes.{Context, Scope, typed}
use Rattle.dj_meaning.specs.Declarations.{joined}
use Rattle.dj_meaning.specs.Runs.{pure}
use Rattle.dj_meaning.specs.Completions.{Normal}
use Rattle.dj_meaning.specs.Meaning.{run_then}
use Rattle.dj_loaded.specs.Loaded.{MayRun, HasCore}
use Rattle.dj_bytecode.specs.Machine.{local_slots}
use Rattle.dj_blocks.specs.Blocks.{block}
use Rattle.dj_rebuilding.specs.Agreeing.{IsEntry}
use Rattle.dj_rebuilding.specs.Pending.{Atom, Named, exp_of, Built, fresh, and_then, is_kept}
use Rattle.dj_rebuilding.specs.Rest.{ShowsRest}
use Rattle.dj_rebuilt.specs.Nodes.{is_whole}
use Rattle.dj_rebuilt.specs.Known.{constant_of, own_nodes}
use Rattle.dj_rebuilt.specs.Sorts.{Loading, Storing, Other, sort_of}
use Rattle.dj_rebuilt.specs.Rebuilding.{Names, atom_type, Ways}
use Rattle.dj_rebuilt.specs.Located.{IsReady, AreNamed, AreNames, WritesTo, by_store, Owns, AllOwn, AllStandIn, Entries, LeavesAlike, NothingCaught, WaysHold}
use Rattle.dj_rebuilt.proofs.Known.{constants-hold, nodes-hold}
use Rattle.dj_rebuilt.proofs.Located.{located-settled, located-shows}
use Rattle.dj_strict_entries.proofs.Keeping.{strings, tested-of}
use Rattle.dj_exits.specs.Exits.{leave, fall}
use Rattle.dj_exits.specs.Ways.{before, after}
use Rattle.dj_exits.proofs.Shown.{leaves-shown}
use Rattle.dj_exits.proofs.Located.{named-stays, enters-breaks}
use Rattle.dj_lone_exits.specs.Lone.{lone_edges}
use Rattle.dj_lone_exits.proofs.Lone.{lone-exits-mean}

-- ---- the code, and its variables

abbrev listing : Instructions
listing = (0, Load kinds.Int 0) ∷ (1, Load kinds.Int 1) ∷ (2, Calc calcs.Sub kinds.Int) ∷ (3, Store kinds.Int 1) ∷ (4, Return None) ∷ []

abbrev code : Code
code = record {
  class = codes "C";
  name = codes "f";
  flags = 8;
  interface = false;
  descriptor = Method (types.Int ∷ types.Int ∷ []) None;
  thrown = [];
  max_stack = 2;
  max_locals = 2;
  instructions = listing;
  handlers = [];
  frames = [];
}

-- only the offset 0 is a start
abbrev starts : ℕ → Bool
starts pc = 0 == pc

abbrev name_at : ℕ → Option (JType × Atom)
name_at number = Some (types.Int, Named (fresh number))

abbrev names : Names
names zero = name_at 0
names (suc zero) = name_at 1
names (suc (suc slot)) = None

abbrev type_at : ℕ → Option JType
type_at zero = Some types.Int
type_at (suc zero) = Some types.Int
type_at (suc (suc number)) = None

abbrev scope : Scope
scope variable = type_at variable.number

abbrev owner : Var → ℕ
owner variable = variable.number

abbrev target_at : Bool → Option (Var × JType)
target_at true = Some (fresh 1, types.Int)
target_at false = None

abbrev ways : List Header → Ways
ways world = record {
  constant = constant_of;
  node = own_nodes;
  effect = λ instruction are. None;
  target = λ pc. target_at (pc == 3);
  leave = λ names n stack list. leave world None (lone_edges world) names n stack list;
  fall = λ names n stack rest. fall (lone_edges world) names n stack rest;
  birth = λ instruction class are. None;
  before = before;
  after = after;
  goes = λ static type. is_whole static;
}

-- ---- what the law asks

some-same : {A : Type 0} (one other : A) → Some one ≡ Some other → one ≡ other
some-same one other e = cc

named-same : (one variable : Var) (atom : Atom) → Named one ≡ atom → atom ≡ Named variable → one ≡ variable
named-same one variable atom e f = let same : Named one ≡ Named variable = e ∙ f in cc

no-reference : (headers : List Header) (static : StaticType) → is_whole static ≡ true → (reference : RefValue) → is_kept headers static (Ref reference) ≡ true → ⊥
no-reference headers types.Null whole reference kept = false≢true whole
no-reference headers (Of Boolean) whole reference kept = (tested-of headers Boolean reference kept).wanted
no-reference headers (Of Byte) whole reference kept = (tested-of headers Byte reference kept).wanted
no-reference headers (Of Char) whole reference kept = (tested-of headers Char reference kept).wanted
no-reference headers (Of Short) whole reference kept = (tested-of headers Short reference kept).wanted
no-reference headers (Of types.Int) whole reference kept = (tested-of headers types.Int reference kept).wanted
no-reference headers (Of types.Long) whole reference kept = false≢true whole
no-reference headers (Of Float) whole reference kept = false≢true whole
no-reference headers (Of Double) whole reference kept = false≢true whole
no-reference headers (Of (Class name)) whole reference kept = false≢true whole
no-reference headers (Of (Array element)) whole reference kept = false≢true whole

no-jump : (found : Option Built) (statements : Stms) (next : Stms → Built → Option Stms) → and_then found (λ so_far. and_then None (λ last. next last so_far)) ≡ Some statements → ⊥
no-jump None statements next e = cc
no-jump (Some built) statements next e = cc

module _ (world : List Header) (context : Context) (core : HasCore world) (may : MayRun world context.headers) (result : context.result ≡ None) (bound : ℕ) (entries : Entries) where
  holds : WaysHold context bound 2 2 scope owner code starts (ways world) entries
  holds = record {
    goes = λ static type whole reference kept. absurd (no-reference context.headers static whole reference kept);
    constants = λ instruction found e. constants-hold context (strings context.headers) code.class instruction found e;
    nodes = λ pc instruction has are found e. nodes-hold context code.class instruction are found e;
    effects = λ pc instruction has are found e. absurd (cc);
    births = λ pc instruction has class are exp e. absurd (cc);
    falls = λ names lawful n inner stack ready rest listed at_start statements e. absurd (no-jump _ statements (λ last so_far. Some (joined so_far.emitted last)) e);
    leaves = λ names lawful n inner stack ready pc instruction rest has behind off statements e.
        leaves-shown world context bound 2 scope code refl starts (lone_edges world) (AreNames context 2 2 scope owner) (AreNamed context 2) (LeavesAlike context 2 2 scope owner code entries) (located-settled context 2 2 scope owner code entries)
        (named-stays context 2 2 scope owner) (λ found lawful one own store r. refl) (enters-breaks context 2 2 scope owner code entries) (lone-exits-mean world context core may code result bound 2 2 scope owner entries)
        names lawful n inner stack ready pc instruction rest behind off statements (λ is. refl) e;
  }

  in-code : AllStandIn code listing
  in-code = (
    (0, omega arith, refl),
    λ on. refl,
    (
      (1, omega arith, refl),
      λ on. refl,
      (
        (2, omega arith, refl),
        λ on. refl,
        (
          (3, omega arith, refl),
          λ on. refl,
          (
            (4, omega arith, refl),
            λ on. absurd (false≢true on),
            tt,
          ),
        ),
      ),
    ),
  )

  none-written : (pc : ℕ) (instruction : Instruction) → ((slot : ℕ) → WritesTo (sort_of instruction) slot → ⊥) → Owns 2 2 scope owner (ways world) pc instruction
  none-written pc instruction none = record { within = λ slot writes. absurd (none slot writes); owns = λ slot writes. absurd (none slot writes) }

  loads-none : (slot other : ℕ) → WritesTo (Loading kinds.Int other) slot → ⊥
  loads-none slot other writes = elim writes [ ]

  others-none : (slot : ℕ) → WritesTo Other slot → ⊥
  others-none slot writes = elim writes [ ]

  stores-one : {slot : ℕ} → WritesTo (Storing kinds.Int 1) slot → 1 ≡ slot
  stores-one by_store = refl

  owns : AllOwn 2 2 scope owner (ways world) listing
  owns = (
    none-written 0 (Load kinds.Int 0) (λ slot writes. loads-none slot 0 writes),
    (
      none-written 1 (Load kinds.Int 1) (λ slot writes. loads-none slot 1 writes),
      (
        none-written 2 (Calc calcs.Sub kinds.Int) others-none,
        (
          record { within = λ slot writes. subst (λ s. s < 2) (stores-one writes) (omega arith); owns = λ slot writes target type e. owned slot (stores-one writes) target type e },
          (
            none-written 4 (Return None) others-none,
            tt,
          ),
        ),
      ),
    ),
  )
    where
      owned : (slot : ℕ) → 1 ≡ slot → (target : Var) (type : JType) → target_at true ≡ Some (target, type) → (slot < 2) × (target.number < 2) × (scope target ≡ Some type) × (owner target ≡ slot)
      owned slot same target type e =
          let target_is : fresh 1 ≡ target = ap (λ (one : Var × JType). one.0) (some-same (fresh 1, types.Int) (target, type) e) in
          let type_is : types.Int ≡ type = ap (λ (one : Var × JType). one.1) (some-same (fresh 1, types.Int) (target, type) e) in
          (omega (arith, same), subst (λ (one : Var). one.number < 2) target_is (omega arith), subst (λ (one : Var). scope one ≡ Some type) target_is (ap (λ one. Some one) type_is), ap owner (sym target_is) ∙ same)

  lawful : AreNames context 2 2 scope owner names
  lawful = record { within = within; entries = are-entries; owned = are-owned }
    where
      within : (slot : ℕ) (type : JType) (atom : Atom) → names slot ≡ Some (type, atom) → slot < 2
      within zero type atom e = omega arith
      within (suc zero) type atom e = omega arith
      within (suc (suc slot)) type atom e = absurd (cc)

      named : (number : ℕ) → number < 2 → type_at number ≡ Some types.Int → (type : JType) (atom : Atom) → name_at number ≡ Some (type, atom) → IsEntry context 2 scope (atom_type type atom) (exp_of atom)
      named number less is type atom e =
          let type_is : types.Int ≡ type = ap (λ (one : JType × Atom). one.0) (some-same (types.Int, Named (fresh number)) (type, atom) e) in
          let atom_is : Named (fresh number) ≡ atom = ap (λ (one : JType × Atom). one.1) (some-same (types.Int, Named (fresh number)) (type, atom) e) in
          subst (λ (one : JType). IsEntry context 2 scope (atom_type one atom) (exp_of atom)) type_is
          (subst (λ (one : Atom). IsEntry context 2 scope (atom_type types.Int one) (exp_of one)) atom_is (record { small = less; typed = ap (λ found. typed found) is }))

      are-entries : (slot : ℕ) (type : JType) (atom : Atom) → names slot ≡ Some (type, atom) → IsEntry context 2 scope (atom_type type atom) (exp_of atom)
      are-entries zero type atom e = named 0 (omega arith) refl type atom e
      are-entries (suc zero) type atom e = named 1 (omega arith) refl type atom e
      are-entries (suc (suc slot)) type atom e = absurd (cc)

      are-owned : (slot : ℕ) (type : JType) (variable : Var) → names slot ≡ Some (type, Named variable) → owner variable ≡ slot
      are-owned zero type variable e = ap owner (sym (named-same (fresh 0) variable (Named variable) (ap (λ (one : JType × Atom). one.1) (some-same (types.Int, Named (fresh 0)) (type, Named variable) e)) refl))
      are-owned (suc zero) type variable e = ap owner (sym (named-same (fresh 1) variable (Named variable) (ap (λ (one : JType × Atom). one.1) (some-same (types.Int, Named (fresh 1)) (type, Named variable) e)) refl))
      are-owned (suc (suc slot)) type variable e = absurd (cc)

  ready : IsReady context 2 scope 2 scope []
  ready = record { low = omega arith; clear = clear; same = λ variable less. refl; entries = tt }
    where
      clear : (k : ℕ) → 2 ≤ k → scope (fresh k) ≡ None
      clear zero less = absurd (omega (arith, less))
      clear (suc zero) less = absurd (omega (arith, less))
      clear (suc (suc k)) less = refl

  abbrev statements : Stms
  statements = And (trees.Set (fresh 1) (trees.Binary operator.Sub (trees.Variable (fresh 0)) (trees.Variable (fresh 1)))) (And (trees.Return None) Empty)

  -- its statements show what its instructions show
  shows : ShowsRest context NothingCaught (LeavesAlike context 2 2 scope owner code entries) (AreNamed context 2 names) scope [] (block context.headers local_slots code starts listing) (run_then context scope bound statements (pure Normal))
  shows = located-shows context bound 2 2 scope owner code starts (ways world) entries refl holds listing in-code owns names lawful 2 scope [] ready statements refl
