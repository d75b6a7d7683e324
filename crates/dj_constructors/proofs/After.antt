-- Behind the call of another constructor the statements of the code show what its instructions show.
use Rattle.std.proofs.Common.{arith, ℕ, suc, ◌≡◌, Bool, false, List, [], ◌∷◌, Contains, Some, refl}
use Rattle.dj_syntax.specs.declared.variable.Var.{Var}
use Rattle.dj_syntax.specs.Trees.{Stms}
use Rattle.dj_instructions.specs.Instructions.{Instruction, Instructions}
use Rattle.dj_code.specs.MethodCode.{Code}
use Rattle.dj_meaning.specs.StaticTypes.{Context, Scope}
use Rattle.dj_meaning.specs.Runs.{Store, pure}
use Rattle.dj_meaning.specs.Completions.{Completion, Normal}
use Rattle.dj_meaning.specs.Meaning.{run_then}
use Rattle.dj_bytecode.specs.Meanings.{meaning_of}
use Rattle.dj_bytecode.specs.Machine.{Locals, local_slots, Place}
use Rattle.dj_blocks.specs.Blocks.{block}
use Rattle.dj_rebuilding.specs.Pending.{Pending}
use Rattle.dj_rebuilding.specs.Rest.{ShowsRest}
use Rattle.dj_rebuilding.proofs.Spills.{Settled}
use Rattle.dj_rebuilt.specs.Sorts.{sort_of}
use Rattle.dj_rebuilt.specs.Rebuilding.{Names, Ways, continues, rebuilt}
use Rattle.dj_rebuilt.specs.Located.{IsReady, AreNamed, AreNames, Owns, AllOwn, IsBehind, AllStandIn, NothingCaught}
use Rattle.dj_rebuilt.proofs.Located.{named-agree}
use Rattle.dj_rebuilt.proofs.Rebuilt.{WaysShow, AllStand, block-shows}
use Rattle.dj_member_ways.specs.Holding.{MembersHold}
use Rattle.dj_constructors.proofs.Writing.{renamed-lawful, located-writes, null-lawful, null-writes}

module _ (context : Context) (bound n most : ℕ) (scope : Scope) {Q : Place → Locals → Completion → Store → Type 0} (settled : Settled n NothingCaught Q) (code : Code) (none : code.handlers ≡ []) (starts : ℕ → Bool) (ways : Ways)
    (owner : Var → ℕ) (others : Instructions) (hold : MembersHold context bound (record code { instructions = others }) ways) where
  -- an instruction of the code that is one of the others, what is behind it, and the slots that it writes
  abbrev StandsBehind : ℕ → Instruction → Instructions → Type 0
  StandsBehind pc instruction rest = Contains code.instructions (pc, instruction) × IsBehind code instruction rest × Owns n most scope owner ways pc instruction × Contains others (pc, instruction)

  -- from here on the rest of the code shows what comes of these statements
  abbrev pub Shown : Names → Scope → List Pending → Instructions → Stms → Type 0
  Shown names inner stack list statements = ShowsRest context NothingCaught Q (AreNamed context most names) inner stack (block context.headers local_slots code starts list) (run_then context inner bound statements (pure Normal))

  -- how control leaves the block
  pub record Leaving : Type 0 where
    pub falls : (names : Names) (k : ℕ) (stack : List Pending) (rest : Instructions) (statements : Stms) → ¬ (ways.fall names k stack rest ≡ Some statements)
    pub leaves : (names : Names) → AreNames context n most scope owner names → (k : ℕ) (inner : Scope) (stack : List Pending) → IsReady context n scope k inner stack → (pc : ℕ) (instruction : Instruction) (rest : Instructions) → Contains code.instructions (pc, instruction) → IsBehind code instruction rest
        → continues (sort_of instruction) (meaning_of context.headers code.class instruction) ≡ false → (statements : Stms) → ways.leave names k stack ((pc, instruction) ∷ rest) ≡ Some statements → Shown names inner stack ((pc, instruction) ∷ rest) statements

  module _ (leaving : Leaving) where
    show : WaysShow context bound n settled local_slots code none starts ways scope (AreNamed context most) (AreNames context n most scope owner) StandsBehind
    show = record {
      stays = λ names lawful. record { related = λ own store other agree h. named-agree context n most scope owner names lawful own store other agree h; enough = λ own store h. tt };
      reads = λ names lawful. record { reads = λ own store h slot type atom e. h.has slot type atom e; kept = λ own store h slot type atom e one is. h.kept slot type atom e one is };
      atoms = λ names lawful slot type atom e. lawful.entries slot type atom e;
      nulls = λ names lawful pc instruction rest stands slot writes. let within = stands.2.within slot writes in (null-lawful context n most scope owner names lawful slot within, null-writes context most names slot within);
      targets = λ names lawful pc instruction rest stands slot writes target type at_pc.
          let o = stands.2.owns slot writes target type at_pc in
          record { old = o.1; known = o.2; lawful = renamed-lawful context n most scope owner names lawful slot target type o.0 o.1 o.2 o.3; writes = located-writes context n most scope owner names lawful slot target type o.0 o.3 };
      goes = hold.goes;
      constants = λ instruction found is count operation means. let c = hold.constants instruction found is count operation means in (c.nothing, c.noded);
      nodes = λ pc instruction rest stands. hold.nodes pc instruction stands.3;
      effects = λ pc instruction rest stands. hold.effects pc instruction stands.3;
      births = λ pc instruction rest stands. hold.births pc instruction stands.3;
      falls = λ names lawful k inner stack ready pc instruction rest stands on at_start statements e. absurd (leaving.falls names k stack rest statements e);
      leaves = λ names lawful k inner stack ready pc instruction rest stands off statements e. leaving.leaves names lawful k inner stack ready pc instruction rest stands.0 stands.1 off statements e;
    }

    all-stand : (left : Instructions) → AllStandIn code left → AllOwn n most scope owner ways left → ((one : ℕ × Instruction) → Contains code.instructions one → Contains left one → Contains others one)
        → AllStand context bound n settled local_slots code none starts ways scope (AreNamed context most) (AreNames context n most scope owner) StandsBehind show left
    all-stand [] k h member = tt
    all-stand (first ∷ rest) k h member = ((k.0, k.1, h.0, member first k.0 (0, omega arith, refl)), all-stand rest k.2 h.1 (λ one listed has. member one listed (suc has.0, omega (arith, has.1), has.2)))

    pub behind-shows : (left : Instructions) → AllStandIn code left → AllOwn n most scope owner ways left → ((one : ℕ × Instruction) → Contains code.instructions one → Contains left one → Contains others one)
        → (names : Names) → AreNames context n most scope owner names → (k : ℕ) (inner : Scope) (stack : List Pending) → IsReady context n scope k inner stack → (statements : Stms)
        → rebuilt context.headers code.class ways starts names k stack left ≡ Some statements → Shown names inner stack left statements
    behind-shows left k h member names lawful number inner stack ready statements e =
        block-shows context bound n settled local_slots code none starts ways scope (AreNamed context most) (AreNames context n most scope owner) StandsBehind show left (all-stand left k h member) names lawful number inner stack ready statements e
