-- A block's statements show it over the locals of the machine: what is asked of locals and variables holds of slots that are named.
use Rattle.std.proofs.Common.{ℕ, ◌<◌, ◌≡◌, ◌≢◌, Bool, true, false, eqb, List, [], ◌∷◌, length-set, Contains, get_or-set_same, get_or-set_other, Some, None, ⊎_elim, refl, sym, ap, ◌∙◌, subst, arith, IsSome}
use Rattle.std.proofs.lemmas.Bool.Decides.{eqb_tells}
use Rattle.std.specs.Prelude.{if◌then◌else◌, slice_index_or, slice_set}
use Rattle.dj_names.specs.Types.{JType}
use Rattle.dj_syntax.specs.declared.variable.Var.{Var}
use Rattle.dj_syntax.specs.Trees.{Stms}
use Rattle.dj_instructions.specs.Instructions.{Instruction, Instructions}
use Rattle.dj_code.specs.MethodCode.{Code}
use Rattle.dj_values.specs.Values.{Value, Null}
use Rattle.dj_meaning.specs.StaticTypes.{Context, Scope, is_same_variable, typed}
use Rattle.dj_meaning.specs.Runs.{Store, pure, with_value}
use Rattle.dj_meaning.specs.Completions.{Completion, Normal}
use Rattle.dj_meaning.specs.Meaning.{run_then}
use Rattle.dj_bytecode.specs.Machine.{Locals, local_slots, Place, Before, Returned}
use Rattle.dj_blocks.specs.Blocks.{block}
use Rattle.dj_rebuilding.specs.Pending.{Atom, Number, Wide, Units, Nothing, Own, Named, exp_of, Pending, is_kept, is_kept_by, is_null}
use Rattle.dj_rebuilding.specs.Agreeing.{Agree, IsEntry, AreEntries, atom_value, Holds, no_more, one_more}
use Rattle.dj_rebuilding.specs.Rest.{ShowsRest}
use Rattle.dj_rebuilding.proofs.Names.{same-itself, one-variable}
use Rattle.dj_rebuilding.proofs.Spills.{Settled, atom-agrees}
use Rattle.dj_rebuilt.specs.Rebuilding.{Names, atom_type, renamed, nothing_there, static_of, Ways, rebuilt}
use Rattle.dj_rebuilt.specs.Located.{IsReady, AreNamed, AreNames, Owns, AllOwn, IsBehind, AllStandIn, Entries, LeavesAlike, NothingCaught, WaysHold}
use Rattle.dj_rebuilt.proofs.Behind.{goes-behind}
use Rattle.dj_rebuilt.proofs.Blocks.{Writes, WritesNull}
use Rattle.dj_rebuilt.proofs.Rebuilt.{WaysShow, AllStand, block-shows}

-- ---- other variables

holds-agree : (context : Context) (n : ℕ) (scope : Scope) {store other : Store} {stack : List Pending} {values : List Value} → AreEntries context n scope stack → Agree n store other → Holds context store stack values → Holds context other stack values
holds-agree context n scope entries agree no_more = no_more
holds-agree context n scope {store} {other} entries agree (one_more {atom = atom} e kept rest) =
    one_more (sym (atom-agrees context n atom store other entries.0.small agree) ∙ e) kept (holds-agree context n scope entries.1 agree rest)

pub named-agree : (context : Context) (base most : ℕ) (scope : Scope) (owner : Var → ℕ) (names : Names) → AreNames context base most scope owner names → (own : Locals) (store other : Store) → Agree base store other → AreNamed context most names own store → AreNamed context most names own other
named-agree context base most scope owner names lawful own store other agree h = record {
  room = h.room;
  present = h.present;
  has = λ slot type atom e. h.has slot type atom e ∙ atom-agrees context base atom store other (lawful.entries slot type atom e).small agree;
  kept = λ slot type atom e one is. h.kept slot type atom e one (atom-agrees context base atom store other (lawful.entries slot type atom e).small agree ∙ is);
}

leaves-agree : (context : Context) (base most : ℕ) (scope : Scope) (owner : Var → ℕ) (code : Code) (entries : Entries) (place : Place) (own : Locals) (done : Completion) (store other : Store) → Agree base store other
    → LeavesAlike context base most scope owner code entries place own done store → LeavesAlike context base most scope owner code entries place own done other
leaves-agree context base most scope owner code entries (Before rest values) own done store other agree h = record {
  number = h.number;
  jumps = h.jumps;
  there = h.there;
  lawful = h.lawful;
  named = named-agree context base most scope owner (entries.names h.number) h.lawful own store other agree h.named;
  formed = h.formed;
  holds = holds-agree context base scope h.formed agree h.holds;
}
leaves-agree context base most scope owner code entries (Returned value) own done store other agree h = h

pub located-settled : (context : Context) (base most : ℕ) (scope : Scope) (owner : Var → ℕ) (code : Code) (entries : Entries) → Settled {A = Place} base NothingCaught (LeavesAlike context base most scope owner code entries)
located-settled context base most scope owner code entries = record {
  thrown = λ own store other agree h. tt;
  results = λ place own done store other agree h. leaves-agree context base most scope owner code entries place own done store other agree h;
}

-- ---- a store

-- an atom of another slot isn't the variable that is written
atom-elsewhere : (context : Context) (owner : Var → ℕ) (slot other : ℕ) (target : Var) (one : Value) (store : Store) → owner target ≡ slot → other ≢ slot → (atom : Atom) → ((variable : Var) → atom ≡ Named variable → owner variable ≡ other)
    → atom_value context atom (with_value target (Some one) store) ≡ atom_value context atom store
atom-elsewhere context owner slot other target one store owns differ (Number number) mine = refl
atom-elsewhere context owner slot other target one store owns differ (Wide number) mine = refl
atom-elsewhere context owner slot other target one store owns differ (Units units) mine = refl
atom-elsewhere context owner slot other target one store owns differ Nothing mine = refl
atom-elsewhere context owner slot other target one store owns differ Own mine = refl
atom-elsewhere context owner slot other target one store owns differ (Named variable) mine = by (is_same_variable variable target) refl
  where
    by : (test : Bool) → is_same_variable variable target ≡ test → (if test then Some one else store.variables variable) ≡ store.variables variable
    by true same = absurd (differ (sym (mine variable refl) ∙ ap owner (one-variable variable target same) ∙ owns))
    by false same = refl

-- a name after a store: that of the slot written, or another one
named-after : {B : Type 0} (slot other : ℕ) (found : JType × Atom) (names : Names) (type : JType) (atom : Atom) → renamed slot found names other ≡ Some (type, atom) → (other ≡ slot → found ≡ (type, atom) → B) → (other ≢ slot → names other ≡ Some (type, atom) → B) → B
named-after {B} slot other found names type atom e h k = ⊎_elim (λ both. here both.0 both.1) (λ both. there both.0 both.1) (eqb_tells other slot)
  where
    here : eqb other slot ≡ true → other ≡ slot → B
    here test same = h same (let some : Some found ≡ Some (type, atom) = sym (ap (λ (t : Bool). if t then Some found else names other) test) ∙ e in cc)

    there : eqb other slot ≡ false → other ≢ slot → B
    there test differ = k differ (sym (ap (λ (t : Bool). if t then Some found else names other) test) ∙ e)

renamed-lawful : (context : Context) (base most : ℕ) (scope : Scope) (owner : Var → ℕ) (names : Names) → AreNames context base most scope owner names → (slot : ℕ) (target : Var) (type : JType) → slot < most → target.number < base → scope target ≡ Some type → owner target ≡ slot
    → AreNames context base most scope owner (renamed slot (type, Named target) names)
renamed-lawful context base most scope owner names h slot target type within old known owns = record {
  within = λ other t atom e. named-after slot other (type, Named target) names t atom e (λ same found. subst (λ s. s < most) (sym same) within) (λ differ found. h.within other t atom found);
  entries = λ other t atom e. named-after slot other (type, Named target) names t atom e
      (λ same found. subst (λ (f : JType × Atom). IsEntry context base scope (static_of f) (exp_of f.1)) found (record { small = old; typed = ap typed known })) (λ differ found. h.entries other t atom found);
  owned = λ other t variable e. named-after slot other (type, Named target) names t (Named variable) e
      (λ same found. let both : Named target ≡ Named variable = ap (λ (f : JType × Atom). f.1) found in let is : target ≡ variable = cc in sym (ap owner is) ∙ owns ∙ sym same) (λ differ found. h.owned other t variable found);
}

located-writes : (context : Context) (base most : ℕ) (scope : Scope) (owner : Var → ℕ) (names : Names) → AreNames context base most scope owner names → (slot : ℕ) (target : Var) (type : JType) → slot < most → owner target ≡ slot
    → Writes context.headers local_slots slot target type (AreNamed context most names) (AreNamed context most (renamed slot (type, Named target) names))
located-writes context base most scope owner names lawful slot target type within owns = record {
  writes = λ own store h one kept. record {
    room = (let same = length-set own slot (Some one) in let room = h.room in omega arith);
    has = λ other t atom e. named-after slot other (type, Named target) names t atom e
        (λ same found. subst (λ s. slice_index_or (slice_set own slot (Some one)) s None ≡ atom_value context atom (with_value target (Some one) store)) (sym same)
        (get_or-set_same own slot (Some one) None (let room = h.room in omega arith)
        ∙ sym (ap (λ (test : Bool). if test then Some one else store.variables target) (same-itself target))
        ∙ ap (λ (f : JType × Atom). atom_value context f.1 (with_value target (Some one) store)) found))
        (λ differ found. get_or-set_other own slot other (Some one) None differ ∙ h.has other t atom found
        ∙ sym (atom-elsewhere context owner slot other target one store owns differ atom (λ variable is. lawful.owned other t variable (found ∙ ap (λ a. Some (t, a)) is))));
    present = λ other t atom e. named-after slot other (type, Named target) names t atom e
        (λ same found. subst (λ s. IsSome (slice_index_or (slice_set own slot (Some one)) s None)) (sym same) (subst IsSome (sym (get_or-set_same own slot (Some one) None (let room = h.room in omega arith))) refl))
        (λ differ found. subst IsSome (sym (get_or-set_other own slot other (Some one) None differ)) (h.present other t atom found));
    kept = λ other t atom e held is. named-after slot other (type, Named target) names t atom e
        (λ same found. subst (λ (f : JType × Atom). atom_value context f.1 (with_value target (Some one) store) ≡ Some held → is_kept context.headers (atom_type f.0 f.1) held ≡ true) found
        (λ holds. let one_is : Some one ≡ Some held = sym (ap (λ (test : Bool). if test then Some one else store.variables target) (same-itself target)) ∙ holds in
        subst (λ v. is_kept_by context.headers type v ≡ true) (let same_value : one ≡ held = cc in same_value) kept) is)
        (λ differ found. h.kept other t atom found held
        (sym (atom-elsewhere context owner slot other target one store owns differ atom (λ variable is. lawful.owned other t variable (found ∙ ap (λ a. Some (t, a)) is))) ∙ is));
  };
}

-- null in a slot
null-lawful : (context : Context) (base most : ℕ) (scope : Scope) (owner : Var → ℕ) (names : Names) → AreNames context base most scope owner names → (slot : ℕ) → slot < most → AreNames context base most scope owner (renamed slot nothing_there names)
null-lawful context base most scope owner names h slot within = record {
  within = λ other t atom e. named-after slot other nothing_there names t atom e (λ same found. subst (λ s. s < most) (sym same) within) (λ differ found. h.within other t atom found);
  entries = λ other t atom e. named-after slot other nothing_there names t atom e
      (λ same found. subst (λ (f : JType × Atom). IsEntry context base scope (static_of f) (exp_of f.1)) found (record { small = tt; typed = refl })) (λ differ found. h.entries other t atom found);
  owned = λ other t variable e. named-after slot other nothing_there names t (Named variable) e
      (λ same found. let both : Nothing ≡ Named variable = ap (λ (f : JType × Atom). f.1) found in absurd (cc)) (λ differ found. h.owned other t variable found);
}

null-writes : (context : Context) (most : ℕ) (names : Names) (slot : ℕ) → slot < most → WritesNull local_slots slot (AreNamed context most names) (AreNamed context most (renamed slot nothing_there names))
null-writes context most names slot within = record {
  writes = λ own store h. record {
    room = (let same = length-set own slot (Some Null) in let room = h.room in omega arith);
    has = λ other t atom e. named-after slot other nothing_there names t atom e
        (λ same found. subst (λ s. slice_index_or (slice_set own slot (Some Null)) s None ≡ atom_value context atom store) (sym same)
        (get_or-set_same own slot (Some Null) None (let room = h.room in omega arith) ∙ ap (λ (f : JType × Atom). atom_value context f.1 store) found))
        (λ differ found. get_or-set_other own slot other (Some Null) None differ ∙ h.has other t atom found);
    present = λ other t atom e. named-after slot other nothing_there names t atom e
        (λ same found. subst (λ s. IsSome (slice_index_or (slice_set own slot (Some Null)) s None)) (sym same) (subst IsSome (sym (get_or-set_same own slot (Some Null) None (let room = h.room in omega arith))) refl))
        (λ differ found. subst IsSome (sym (get_or-set_other own slot other (Some Null) None differ)) (h.present other t atom found));
    kept = λ other t atom e held is. named-after slot other nothing_there names t atom e
        (λ same found. subst (λ (f : JType × Atom). atom_value context f.1 store ≡ Some held → is_kept context.headers (atom_type f.0 f.1) held ≡ true) found
        (λ holds. subst (λ v. is_null v ≡ true) (let same_value : Null ≡ held = cc in same_value) refl) is)
        (λ differ found. h.kept other t atom found held is);
  };
}

-- ---- the law

-- from locals that variables have, the statements of a block show what its instructions show, and leave it alike
pub located-shows : (context : Context) (bound base most : ℕ) (scope : Scope) (owner : Var → ℕ) (code : Code) (starts : ℕ → Bool) (ways : Ways) (entries : Entries) → code.handlers ≡ [] → WaysHold context bound base most scope owner code starts ways entries
    → (code_left : Instructions) → AllStandIn code code_left → AllOwn base most scope owner ways code_left → (names : Names) → AreNames context base most scope owner names → (n : ℕ) (inner : Scope) (stack : List Pending) → IsReady context base scope n inner stack
    → (statements : Stms) → rebuilt context.headers code.class ways starts names n stack code_left ≡ Some statements
    → ShowsRest context NothingCaught (LeavesAlike context base most scope owner code entries) (AreNamed context most names) inner stack (block context.headers local_slots code starts code_left) (run_then context inner bound statements (pure Normal))
located-shows context bound base most scope owner code starts ways entries none hold code_left in_code own names lawful n inner stack ready statements e =
    block-shows context bound base settled local_slots code none starts ways scope (AreNamed context most) (AreNames context base most scope owner) Stands show code_left (all-stand code_left in_code own) names lawful n inner stack ready statements e
  where
    -- an instruction of the code, what is behind it, and the slots that it writes
    Stands : ℕ → Instruction → Instructions → Type 0
    Stands pc instruction rest = Contains code.instructions (pc, instruction) × IsBehind code instruction rest × Owns base most scope owner ways pc instruction

    settled : Settled {A = Place} base NothingCaught (LeavesAlike context base most scope owner code entries)
    settled = located-settled context base most scope owner code entries

    show : WaysShow context bound base settled local_slots code none starts ways scope (AreNamed context most) (AreNames context base most scope owner) Stands
    show = record {
      stays = λ names lawful. record { related = λ own store other agree h. named-agree context base most scope owner names lawful own store other agree h; enough = λ own store h. tt };
      reads = λ names lawful. record { reads = λ own store h slot type atom e. h.has slot type atom e; kept = λ own store h slot type atom e one is. h.kept slot type atom e one is };
      atoms = λ names lawful slot type atom e. lawful.entries slot type atom e;
      nulls = λ names lawful pc instruction rest stands slot writes. let within = stands.2.within slot writes in (null-lawful context base most scope owner names lawful slot within, null-writes context most names slot within);
      targets = λ names lawful pc instruction rest stands slot writes target type at_pc.
          let o = stands.2.owns slot writes target type at_pc in
          record { old = o.1; known = o.2; lawful = renamed-lawful context base most scope owner names lawful slot target type o.0 o.1 o.2 o.3; writes = located-writes context base most scope owner names lawful slot target type o.0 o.3 };
      goes = hold.goes;
      constants = λ instruction found is count operation means. let c = hold.constants instruction found is count operation means in (c.nothing, c.noded);
      nodes = λ pc instruction rest stands. hold.nodes pc instruction stands.0;
      effects = λ pc instruction rest stands. hold.effects pc instruction stands.0;
      births = λ pc instruction rest stands. hold.births pc instruction stands.0;
      falls = λ names lawful n scope' stack ready pc instruction rest stands on. hold.falls names lawful n scope' stack ready rest (stands.1 (goes-behind context.headers code.class instruction on));
      leaves = λ names lawful n scope' stack ready pc instruction rest stands on statements is. hold.leaves names lawful n scope' stack ready pc instruction rest stands.0 stands.1 on statements is;
    }

    all-stand : (left : Instructions) → AllStandIn code left → AllOwn base most scope owner ways left → AllStand context bound base settled local_slots code none starts ways scope (AreNamed context most) (AreNames context base most scope owner) Stands show left
    all-stand [] k h = tt
    all-stand (first ∷ rest) k h = ((k.0, k.1, h.0), all-stand rest k.2 h.1)
