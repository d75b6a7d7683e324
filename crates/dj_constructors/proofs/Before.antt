-- Up to the call of another constructor, what rebuilding rests on holds: the names of slots stay, and so does what they hold.
use Rattle.std.proofs.Common.{ℕ, ◌≡◌, Bool, true, [], Some, sym, ◌∙◌}
use Rattle.std.proofs.lemmas.Bool.{false≢true, true≢false}
use Rattle.dj_names.specs.Types.{JType}
use Rattle.dj_syntax.specs.declared.variable.Var.{Var}
use Rattle.dj_instructions.specs.Instructions.{Instructions}
use Rattle.dj_code.specs.MethodCode.{Code}
use Rattle.dj_meaning.specs.StaticTypes.{Context, Scope}
use Rattle.dj_meaning.specs.Runs.{Store}
use Rattle.dj_meaning.specs.Completions.{Completion}
use Rattle.dj_bytecode.specs.Machine.{Locals, local_slots, Place}
use Rattle.dj_rebuilding.specs.Pending.{Atom, exp_of}
use Rattle.dj_rebuilding.specs.Agreeing.{Agree, IsEntry}
use Rattle.dj_rebuilding.proofs.Spills.{Settled, atom-agrees}
use Rattle.dj_rebuilding.proofs.Ways.{Stays}
use Rattle.dj_rebuilt.specs.Sorts.{Sort}
use Rattle.dj_rebuilt.specs.Rebuilding.{Names, atom_type, Ways}
use Rattle.dj_rebuilt.specs.Located.{AreNamed, AreNames, NothingCaught, WritesTo, by_store, by_count}
use Rattle.dj_rebuilt.proofs.Located.{named-agree}
use Rattle.dj_rebuilt.proofs.Rebuilt.{WaysShow}
use Rattle.dj_member_ways.specs.Holding.{MembersHold}
use Rattle.dj_constructors.specs.Opening.{is_still}
use Rattle.dj_constructors.proofs.Walk.{StandsStill}

-- no such instruction writes a local
still-writes : {B : Type 0} {sort : Sort} {slot : ℕ} → WritesTo sort slot → is_still sort ≡ true → B
still-writes by_store e = absurd (false≢true e)
still-writes by_count e = absurd (false≢true e)

-- names that are formed
abbrev pub AreFormed : Context → ℕ → Scope → Names → Type 0
AreFormed context n scope names = (slot : ℕ) (type : JType) (atom : Atom) → names slot ≡ Some (type, atom) → IsEntry context n scope (atom_type type atom) (exp_of atom)

-- slots are named both by these names and by those of the code behind the call
abbrev pub BothNamed : Context → ℕ → Names → Names → Locals → Store → Type 0
BothNamed context most later names own store = AreNamed context most names own store × AreNamed context most later own store

module _ (context : Context) (n most : ℕ) (scope : Scope) (owner : Var → ℕ) (later : Names) (formed : AreNames context n most scope owner later) where
  formed-agree : (names : Names) → AreFormed context n scope names → (own : Locals) (store other : Store) → Agree n store other → AreNamed context most names own store → AreNamed context most names own other
  formed-agree names entries own store other agree h = record {
    room = h.room;
    present = h.present;
    has = λ slot type atom e. h.has slot type atom e ∙ atom-agrees context n atom store other (entries slot type atom e).small agree;
    kept = λ slot type atom e one is. h.kept slot type atom e one (atom-agrees context n atom store other (entries slot type atom e).small agree ∙ is);
  }

  pub both-stay : (names : Names) → AreFormed context n scope names → Stays n (BothNamed context most later names) NothingCaught
  both-stay names entries = record {
    related = λ own store other agree h. (formed-agree names entries own store other agree h.0, named-agree context n most scope owner later formed own store other agree h.1);
    enough = λ own store h. tt;
  }

module _ (context : Context) (bound n most : ℕ) (scope : Scope) {Q : Place → Locals → Completion → Store → Type 0} (settled : Settled n NothingCaught Q) (code : Code) (none : code.handlers ≡ []) (starts : ℕ → Bool) (ways : Ways)
    (owner : Var → ℕ) (later : Names) (formed : AreNames context n most scope owner later) (others : Instructions) (hold : MembersHold context bound (record code { instructions = others }) ways) where
  pub before-show : WaysShow context bound n settled local_slots code none starts ways scope (BothNamed context most later) (AreFormed context n scope) (StandsStill context.headers code starts others)
  before-show = record {
    stays = both-stay context n most scope owner later formed;
    reads = λ names entries. record { reads = λ own store h slot type atom e. h.0.has slot type atom e; kept = λ own store h slot type atom e one is. h.0.kept slot type atom e one is };
    atoms = λ names entries slot type atom e. entries slot type atom e;
    nulls = λ names entries pc instruction rest stands slot writes. still-writes writes stands.1;
    targets = λ names entries pc instruction rest stands slot writes target type at_pc. still-writes writes stands.1;
    goes = hold.goes;
    constants = λ instruction found is count operation means. let c = hold.constants instruction found is count operation means in (c.nothing, c.noded);
    nodes = λ pc instruction rest stands. hold.nodes pc instruction stands.0;
    effects = λ pc instruction rest stands. hold.effects pc instruction stands.0;
    births = λ pc instruction rest stands. hold.births pc instruction stands.0;
    falls = λ names entries k inner stack ready pc instruction rest stands on at_start. absurd (true≢false (sym at_start ∙ stands.3));
    leaves = λ names entries k inner stack ready pc instruction rest stands off. absurd (true≢false (sym stands.2 ∙ off));
  }
