-- What the passes have read is the class of the bytes, or their fault.
use Rattle.std.proofs.Common.{◌≡◌, ℕ, List, [], length, Err, refl, sym, ap, subst, ◌∙◌, inr}
use Rattle.dj_layout.specs.declared.fault.Fault.{Fault}
use Rattle.dj_layout.specs.declared.fault.Stop.{Stop}
use Rattle.dj_layout.specs.declared.fault.Stop.TheVariants as stop
use Rattle.dj_layout.specs.Layout.{SpellsSome, Stops}
use Rattle.dj_layout.proofs.Laws.{unique, whole_spells}
use Rattle.dj_pool.specs.declared.fault.BrokenKind.{BrokenKind}
use Rattle.dj_class.specs.declared.fault.ClassFault.{ClassFault}
use Rattle.dj_pool.specs.declared.entry.Entry.{Entry}
use Rattle.dj_class.specs.declared.front.Front.{Front}
use Rattle.dj_class.specs.declared.own.OwnNames.{OwnNames}
use Rattle.dj_class.specs.FileFormat.{Raw, file, sound}
use Rattle.dj_class.specs.Described.{ClassOf, SpellsClass, HasFault}
use Rattle.dj_class.specs.FaultOf.{IsFaultOf, shown_place}
use Rattle.dj_class.specs.FileParts.{HasFront, MembersOf, DescribesRest}
use Rattle.dj_class.specs.Views.{IsBroken, GivesClass, GivesFault}
use Rattle.dj_class.proofs.FileIsExact.{exact-file}
use Rattle.dj_class.proofs.FileIsFiner.{sound_is_laid_out}
use Rattle.dj_class.proofs.FileIsUnique.{file_has_no_fault, one_file_fault}

-- the pool of the file is the one that is known
known : (bytes : List ℕ) (oldest : ℕ) (front : Front) (pool : List Entry) (h : HasFront bytes oldest front) → pool ≡ front.pool → h.raw.front.pool ≡ pool
known bytes oldest front pool h is = ap (λ (f : Front). f.pool) h.front_is ∙ sym is

-- where the last passes stop is the fault of the bytes
pub sound_stop : (bytes : List ℕ) (oldest : ℕ) (front : Front) (pool : List Entry) (why : Stop BrokenKind) → HasFront bytes oldest front → pool ≡ front.pool → Stops (sound oldest pool).Halts (length bytes) bytes why
    → Stops (λ _ _. HasFault bytes oldest) 0 bytes why
sound_stop bytes oldest front pool stop.Memory h is halts = tt
sound_stop bytes oldest front pool (stop.Fault found) h is halts =
    inr (h.raw, h.laid_out, subst (λ (p : List Entry). (sound oldest p).Halts (length bytes) bytes found) (sym (known bytes oldest front pool h is)) halts)

-- what all passes have read is the class of the bytes
pub file_read : (bytes : List ℕ) (oldest : ℕ) (front : Front) (pool : List Entry) (own : OwnNames) (members : MembersOf) (rest : List ℕ) → HasFront bytes oldest front → pool ≡ front.pool
    → SpellsSome (sound oldest pool) (λ raw these. DescribesRest pool raw.rest these) bytes (own, members) rest
    → SpellsClass bytes oldest (record { minor = front.minor; major = front.major; pool = pool; flags = own.flags; this_class = own.this_class; super_class = own.super_class; interfaces = members.interfaces; fields = members.fields; methods = members.methods })
file_read bytes oldest front pool own members rest h is s =
    let same : h.raw ≡ s.value = (unique (file oldest) (exact-file oldest) bytes h.raw s.value [] rest (whole_spells (file oldest) bytes h.raw h.laid_out) (record { fits = sound_is_laid_out oldest pool s.value s.spells.fits; text = s.spells.text })).0 in
    let pool_is = known bytes oldest front pool h is in
    let fits = subst (λ (r : Raw). (sound oldest pool).Fits r) (sym same) s.spells.fits in
    let lawful = subst (λ (p : List Entry). (sound oldest p).Fits h.raw) (sym pool_is) fits in
    let described = subst (λ (r : Raw). DescribesRest pool r.rest (own, members)) (sym same) s.means in
    let means = subst (λ (p : List Entry). DescribesRest p h.raw.rest (own, members)) (sym pool_is) described in
    record {
      raw = h.raw;
      laid_out = h.laid_out;
      lawful = lawful;
      described = record {
        minor = sym (ap (λ (f : Front). f.minor) h.front_is);
        major = sym (ap (λ (f : Front). f.major) h.front_is);
        pool = sym pool_is;
        flags = means.own.flags;
        this_class = means.own.this_class;
        super_class = means.own.super_class;
        interfaces = means.listed.interfaces;
        fields = means.listed.fields;
        methods = means.listed.methods;
      };
    }

-- ---- the answer

-- no fault is answered but that of the bytes
pub broken_so : (bytes : List ℕ) (oldest : ℕ) (why : Stop BrokenKind) (answer : ClassFault) → Stops (λ _ _. HasFault bytes oldest) 0 bytes why → IsFaultOf why answer → IsBroken bytes oldest answer
broken_so bytes oldest stop.Memory answer halts is = rw is tt
broken_so bytes oldest (stop.Fault found) answer halts is = rw is (found, halts, refl, refl)

-- a class is answered where the bytes have one
pub gives_class : (bytes : List ℕ) (oldest : ℕ) (why : Stop BrokenKind) (answer : ClassFault) → Stops (λ _ _. HasFault bytes oldest) 0 bytes why → IsFaultOf why answer → (class : ClassOf) → SpellsClass bytes oldest class
    → GivesClass (Err answer) class
gives_class bytes oldest stop.Memory answer halts is class spells = rw is tt
gives_class bytes oldest (stop.Fault found) answer halts is class spells = absurd (file_has_no_fault bytes oldest class found spells halts)

-- a fault is answered where the bytes have one
pub gives_fault : (bytes : List ℕ) (oldest : ℕ) (why : Stop BrokenKind) (answer : ClassFault) → Stops (λ _ _. HasFault bytes oldest) 0 bytes why → IsFaultOf why answer → (found : Fault BrokenKind) → HasFault bytes oldest found
    → GivesFault (Err answer) found
gives_fault bytes oldest stop.Memory answer halts is found has = rw is tt
gives_fault bytes oldest (stop.Fault other) answer halts is found has = let same = one_file_fault bytes oldest other found halts has in rw is (ap (λ (f : Fault BrokenKind). f.kind) same, ap (λ (f : Fault BrokenKind). shown_place f.offset) same)
