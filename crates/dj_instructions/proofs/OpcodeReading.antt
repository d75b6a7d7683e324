-- Reading an instruction: its opcode, and then what stands behind it.
use Rattle.std.proofs.Common.{◌≡◌, ℕ, List, [], ◌++◌, Option, None, Result, Ok, Err, append_assoc, refl, sym, ap, inl, inr}
use Rattle.std.proofs.lemmas.List.{append-nil}
use Rattle.dj_layout.specs.declared.fault.Stop.{Stop}
use Rattle.dj_layout.specs.declared.fault.Stop.TheVariants as stop
use Rattle.dj_layout.specs.Layout.{Layout, Spells, SpellsSome, ReadsAs}
use Rattle.dj_layout.specs.Parts.{exactly, headed}
use Rattle.dj_pool.specs.declared.entry.Entry.{Entry}
use Rattle.dj_instructions.specs.declared.kinds.BadKind.{BadKind}
use Rattle.dj_instructions.specs.declared.form.Form.{Form}
use Rattle.dj_instructions.specs.declared.form.Form.TheVariants as form
use Rattle.dj_instructions.specs.Instructions.{Instruction}
use Rattle.dj_instructions.specs.RawInstructions.{Raw, Plain, form_of, opcode_of, behind, opcode}
use Rattle.dj_instructions.specs.AloneOpcodes.{alone}
use Rattle.dj_instructions.specs.Reads.{HasAnswer}
use Rattle.dj_instructions.proofs.Meant.{known}
use Rattle.dj_instructions.proofs.PartTexts.{one_part}

-- ---- behind an opcode

-- an opcode that none is means nothing
pub unknown_read : (pool : List Entry) (pc op : ℕ) (bytes : List ℕ) → form_of op ≡ form.Unknown → SpellsSome (behind pc op (form_of op)) (HasAnswer pool pc) bytes None bytes
unknown_read pool pc op bytes is = rw is record { value = Plain op 0 0; spells = record { fits = refl; text = refl }; means = rw is (known pool None) }

-- an opcode that stands alone
pub alone_read : (pool : List Entry) (pc op : ℕ) (bytes : List ℕ) (found : Option Instruction) → form_of op ≡ form.Alone → found ≡ alone op → SpellsSome (behind pc op (form_of op)) (HasAnswer pool pc) bytes found bytes
alone_read pool pc op bytes found is means = rw is record { value = Plain op 0 0; spells = record { fits = refl; text = refl }; means = rw (is, means) (known pool (alone op)) }

-- operands of a form of their own
pub own_form : {A X : Type 0} (pool : List Entry) (pc : ℕ) (part : Layout BadKind A) (of : Raw → A) (to : A → Raw) (meant : A → Option Instruction) (view : X → Option Instruction × List ℕ) (end : ℕ) (bytes : List ℕ) (result : Result X (Stop BadKind))
    → ((a : A) → of (to a) ≡ a) → ((a : A) → HasAnswer pool pc (to a) (meant a)) → ReadsAs part (λ a found. found ≡ meant a) view end bytes result
    → ReadsAs (headed of part (λ a. exactly (to a))) (HasAnswer pool pc) view end bytes result
own_form pool pc part of to meant view end bytes (Ok x) same answers reads = record {
  value = to reads.value;
  spells = record { fits = (rw (same reads.value) reads.spells.fits, ap to (sym (same reads.value))); text = rw (same reads.value) (one_part (part.spell reads.value) bytes (view x).1 reads.spells.text) };
  means = rw reads.means (answers reads.value);
}
own_form pool pc part of to meant view end bytes (Err stop.Memory) same answers reads = tt
own_form pool pc part of to meant view end bytes (Err (stop.Fault fault)) same answers reads = inl reads

-- ---- an opcode and what stands behind it

-- what stands behind an opcode is of that opcode
opcode_is : (pc op : ℕ) (of : Form) (raw : Raw) → (behind pc op of).Fits raw → opcode_of raw ≡ op
opcode_is pc op form.Unknown raw fits = ap opcode_of fits
opcode_is pc op form.Alone raw fits = ap opcode_of fits
opcode_is pc op form.Byte raw fits = ap opcode_of fits.1
opcode_is pc op form.Short raw fits = ap opcode_of fits.1
opcode_is pc op form.Word raw fits = ap opcode_of fits.1
opcode_is pc op form.Step raw fits = ap opcode_of fits.1.1
opcode_is pc op form.Counted raw fits = ap opcode_of fits.1.1
opcode_is pc op form.Sizes raw fits = ap opcode_of fits.1.1
opcode_is pc op form.Table raw fits = ap opcode_of fits.1
opcode_is pc op form.Lookup raw fits = ap opcode_of fits.1
opcode_is pc op form.Wide raw fits = ap opcode_of fits.1

-- two parts
two_texts : (a b bytes mid rest : List ℕ) → bytes ≡ a ++ mid → mid ≡ b ++ rest → bytes ≡ (a ++ b) ++ rest
two_texts a b bytes mid rest p q = rw (p, q) (simp append_assoc)

pub parts_read : {X : Type 0} (pool : List Entry) (pc op : ℕ) (view : X → Option Instruction × List ℕ) (end : ℕ) (bytes rest : List ℕ) (result : Result X (Stop BadKind)) → Spells opcode bytes op rest
    → ReadsAs (behind pc op (form_of op)) (HasAnswer pool pc) view end rest result → ReadsAs (headed opcode_of opcode (λ op. behind pc op (form_of op))) (HasAnswer pool pc) view end bytes result
parts_read pool pc op view end bytes rest (Ok x) spells reads =
    let is = opcode_is pc op (form_of op) reads.value reads.spells.fits in
    record {
      value = reads.value;
      spells = record { fits = (rw is spells.fits, rw is reads.spells.fits); text = rw is (two_texts (opcode.spell op) ((behind pc op (form_of op)).spell reads.value) bytes rest (view x).1 spells.text reads.spells.text) };
      means = reads.means;
    }
parts_read pool pc op view end bytes rest (Err stop.Memory) spells reads = tt
parts_read pool pc op view end bytes rest (Err (stop.Fault fault)) spells reads = inr (op, rest, spells, reads)
