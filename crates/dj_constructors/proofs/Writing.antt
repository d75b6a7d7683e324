-- What is stored in a slot and in its variable leads from names to names.
use Rattle.std.proofs.Common.{ℕ, ◌<◌, ◌≡◌, ◌≢◌, Bool, true, false, eqb, length-set, get_or-set_same, get_or-set_other, Some, None, ⊎_elim, refl, sym, ap, ◌∙◌, subst, arith, IsSome}
use Rattle.std.proofs.lemmas.Bool.Decides.{eqb_tells}
use Rattle.std.specs.Prelude.{if◌then◌else◌, slice_index_or, slice_set}
use Rattle.dj_names.specs.Types.{JType}
use Rattle.dj_syntax.specs.declared.variable.Var.{Var}
use Rattle.dj_values.specs.Values.{Value, Null}
use Rattle.dj_meaning.specs.StaticTypes.{Context, Scope, is_same_variable, typed}
use Rattle.dj_meaning.specs.Runs.{Store, with_value}
use Rattle.dj_bytecode.specs.Machine.{local_slots}
use Rattle.dj_rebuilding.specs.Pending.{Atom, Number, Wide, Units, Nothing, Own, Named, exp_of, is_kept, is_kept_by, is_null}
use Rattle.dj_rebuilding.specs.Agreeing.{IsEntry, atom_value}
use Rattle.dj_rebuilding.proofs.Names.{same-itself, one-variable}
use Rattle.dj_rebuilt.specs.Rebuilding.{Names, atom_type, renamed, nothing_there, static_of}
use Rattle.dj_rebuilt.specs.Located.{AreNamed, AreNames}
use Rattle.dj_rebuilt.proofs.Blocks.{Writes, WritesNull}

-- ---- a store

-- an atom of another slot isn't the variable that is written
atom-elsewhere : (context : Context) (owner : Var → ℕ) (slot other : ℕ) (target : Var) (one : Value) (store : Store) → owner target ≡ slot → other ≢ slot → (atom : Atom) → ((variable : Var) → atom ≡ Named variable → owner variable ≡ other)
    → atom_value context atom (with_value target (Some one) store) ≡ atom_value context atom store
atom-elsewhere context owner slot other target one store owns differ (Number number) mine = refl
atom-elsewhere context owner slot other target one store owns differ (Wide number) mine = refl
atom-elsewhere context owner slot other target one store owns differ (Units units) mine = refl
atom-elsewhere context owner slot other target one store owns differ Nothing mine = refl
atom-elsewhere context owner slot other target one store owns differ Own mine = refl
atom-elsewhere context owner slot other target one store owns differ (Named variable) mine = by (is_same_variable variable target) refl
  where
    by : (test : Bool) → is_same_variable variable target ≡ test → (if test then Some one else store.variables variable) ≡ store.variables variable
    by true same = absurd (differ (sym (mine variable refl) ∙ ap owner (one-variable variable target same) ∙ owns))
    by false same = refl

-- a name after a store: that of the slot written, or another one
pub named-after : {B : Type 0} (slot other : ℕ) (found : JType × Atom) (names : Names) (type : JType) (atom : Atom) → renamed slot found names other ≡ Some (type, atom) → (other ≡ slot → found ≡ (type, atom) → B) → (other ≢ slot → names other ≡ Some (type, atom) → B) → B
named-after {B} slot other found names type atom e h k = ⊎_elim (λ both. here both.0 both.1) (λ both. there both.0 both.1) (eqb_tells other slot)
  where
    here : eqb other slot ≡ true → other ≡ slot → B
    here test same = h same (let some : Some found ≡ Some (type, atom) = sym (ap (λ (t : Bool). if t then Some found else names other) test) ∙ e in cc)

    there : eqb other slot ≡ false → other ≢ slot → B
    there test differ = k differ (sym (ap (λ (t : Bool). if t then Some found else names other) test) ∙ e)

pub renamed-lawful : (context : Context) (base most : ℕ) (scope : Scope) (owner : Var → ℕ) (names : Names) → AreNames context base most scope owner names → (slot : ℕ) (target : Var) (type : JType) → slot < most → target.number < base → scope target ≡ Some type → owner target ≡ slot
    → AreNames context base most scope owner (renamed slot (type, Named target) names)
renamed-lawful context base most scope owner names h slot target type within old known owns = record {
  within = λ other t atom e. named-after slot other (type, Named target) names t atom e (λ same found. subst (λ s. s < most) (sym same) within) (λ differ found. h.within other t atom found);
  entries = λ other t atom e. named-after slot other (type, Named target) names t atom e
      (λ same found. subst (λ (f : JType × Atom). IsEntry context base scope (static_of f) (exp_of f.1)) found (record { small = old; typed = ap typed known })) (λ differ found. h.entries other t atom found);
  owned = λ other t variable e. named-after slot other (type, Named target) names t (Named variable) e
      (λ same found. let both : Named target ≡ Named variable = ap (λ (f : JType × Atom). f.1) found in let is : target ≡ variable = cc in sym (ap owner is) ∙ owns ∙ sym same) (λ differ found. h.owned other t variable found);
}

pub located-writes : (context : Context) (base most : ℕ) (scope : Scope) (owner : Var → ℕ) (names : Names) → AreNames context base most scope owner names → (slot : ℕ) (target : Var) (type : JType) → slot < most → owner target ≡ slot
    → Writes context.headers local_slots slot target type (AreNamed context most names) (AreNamed context most (renamed slot (type, Named target) names))
located-writes context base most scope owner names lawful slot target type within owns = record {
  writes = λ own store h one kept. record {
    room = (let same = length-set own slot (Some one) in let room = h.room in omega arith);
    has = λ other t atom e. named-after slot other (type, Named target) names t atom e
        (λ same found. subst (λ s. slice_index_or (slice_set own slot (Some one)) s None ≡ atom_value context atom (with_value target (Some one) store)) (sym same)
        (get_or-set_same own slot (Some one) None (let room = h.room in omega arith)
        ∙ sym (ap (λ (test : Bool). if test then Some one else store.variables target) (same-itself target))
        ∙ ap (λ (f : JType × Atom). atom_value context f.1 (with_value target (Some one) store)) found))
        (λ differ found. get_or-set_other own slot other (Some one) None differ ∙ h.has other t atom found
        ∙ sym (atom-elsewhere context owner slot other target one store owns differ atom (λ variable is. lawful.owned other t variable (found ∙ ap (λ a. Some (t, a)) is))));
    present = λ other t atom e. named-after slot other (type, Named target) names t atom e
        (λ same found. subst (λ s. IsSome (slice_index_or (slice_set own slot (Some one)) s None)) (sym same) (subst IsSome (sym (get_or-set_same own slot (Some one) None (let room = h.room in omega arith))) refl))
        (λ differ found. subst IsSome (sym (get_or-set_other own slot other (Some one) None differ)) (h.present other t atom found));
    kept = λ other t atom e held is. named-after slot other (type, Named target) names t atom e
        (λ same found. subst (λ (f : JType × Atom). atom_value context f.1 (with_value target (Some one) store) ≡ Some held → is_kept context.headers (atom_type f.0 f.1) held ≡ true) found
        (λ holds. let one_is : Some one ≡ Some held = sym (ap (λ (test : Bool). if test then Some one else store.variables target) (same-itself target)) ∙ holds in
        subst (λ v. is_kept_by context.headers type v ≡ true) (let same_value : one ≡ held = cc in same_value) kept) is)
        (λ differ found. h.kept other t atom found held
        (sym (atom-elsewhere context owner slot other target one store owns differ atom (λ variable is. lawful.owned other t variable (found ∙ ap (λ a. Some (t, a)) is))) ∙ is));
  };
}

-- null in a slot
pub null-lawful : (context : Context) (base most : ℕ) (scope : Scope) (owner : Var → ℕ) (names : Names) → AreNames context base most scope owner names → (slot : ℕ) → slot < most → AreNames context base most scope owner (renamed slot nothing_there names)
null-lawful context base most scope owner names h slot within = record {
  within = λ other t atom e. named-after slot other nothing_there names t atom e (λ same found. subst (λ s. s < most) (sym same) within) (λ differ found. h.within other t atom found);
  entries = λ other t atom e. named-after slot other nothing_there names t atom e
      (λ same found. subst (λ (f : JType × Atom). IsEntry context base scope (static_of f) (exp_of f.1)) found (record { small = tt; typed = refl })) (λ differ found. h.entries other t atom found);
  owned = λ other t variable e. named-after slot other nothing_there names t (Named variable) e
      (λ same found. let both : Nothing ≡ Named variable = ap (λ (f : JType × Atom). f.1) found in absurd (cc)) (λ differ found. h.owned other t variable found);
}

pub null-writes : (context : Context) (most : ℕ) (names : Names) (slot : ℕ) → slot < most → WritesNull local_slots slot (AreNamed context most names) (AreNamed context most (renamed slot nothing_there names))
null-writes context most names slot within = record {
  writes = λ own store h. record {
    room = (let same = length-set own slot (Some Null) in let room = h.room in omega arith);
    has = λ other t atom e. named-after slot other nothing_there names t atom e
        (λ same found. subst (λ s. slice_index_or (slice_set own slot (Some Null)) s None ≡ atom_value context atom store) (sym same)
        (get_or-set_same own slot (Some Null) None (let room = h.room in omega arith) ∙ ap (λ (f : JType × Atom). atom_value context f.1 store) found))
        (λ differ found. get_or-set_other own slot other (Some Null) None differ ∙ h.has other t atom found);
    present = λ other t atom e. named-after slot other nothing_there names t atom e
        (λ same found. subst (λ s. IsSome (slice_index_or (slice_set own slot (Some Null)) s None)) (sym same) (subst IsSome (sym (get_or-set_same own slot (Some Null) None (let room = h.room in omega arith))) refl))
        (λ differ found. subst IsSome (sym (get_or-set_other own slot other (Some Null) None differ)) (h.present other t atom found));
    kept = λ other t atom e held is. named-after slot other nothing_there names t atom e
        (λ same found. subst (λ (f : JType × Atom). atom_value context f.1 store ≡ Some held → is_kept context.headers (atom_type f.0 f.1) held ≡ true) found
        (λ holds. subst (λ v. is_null v ≡ true) (let same_value : Null ≡ held = cc in same_value) refl) is)
        (λ differ found. h.kept other t atom found held is);
  };
}
