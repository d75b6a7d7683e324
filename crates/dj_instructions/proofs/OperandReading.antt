-- Reading what stands behind opcodes.
use Rattle.std.proofs.Common.{◌≡◌, ℕ, ◌==◌, ℤ, Bool, true, false, if◌then◌else◌, List, [], ◌++◌, Option, Some, append_assoc, refl, sym, ap, ◌∙◌}
use Rattle.std.specs.Int.{w8, w16, cast_signed, cast_unsigned}
use Rattle.std.proofs.Math.Facts.{sfits_to_z, sfits_widen, Fits-of_lt}
use Rattle.std.proofs.lemmas.Int.{of_z-to_z, to_z-of_z}
use Rattle.std.proofs.lemmas.List.{append-nil}
use Rattle.dj_layout.specs.Layout.{Layout, Spells, SpellsSome}
use Rattle.dj_layout.specs.Parts.{number, exactly, tested, choice}
use Rattle.dj_pool.specs.declared.entry.Entry.{Entry}
use Rattle.dj_instructions.specs.declared.kinds.BadKind.{BadKind}
use Rattle.dj_instructions.specs.declared.kinds.BadKind.TheVariants.{Opcode}
use Rattle.dj_instructions.specs.declared.form.Form.{Form}
use Rattle.dj_instructions.specs.Instructions.{Instruction, Iinc}
use Rattle.dj_instructions.specs.RawInstructions.{Plain, form_of, can_be_wide, widened, one, two, u1, u2}
use Rattle.dj_instructions.specs.PoolNames.{Finds}
use Rattle.dj_instructions.specs.PoolMeanings.{IsMeant}
use Rattle.dj_instructions.specs.Meanings.{plain, widened_load, wide}
use Rattle.dj_instructions.specs.Reads.{HasAnswer}
use Rattle.dj_instructions.proofs.PartTexts.{one_part, two_parts}

-- a number behind an opcode is there
pub one_read : (pool : List Entry) (pc op : ℕ) (of : Form) (part : Layout BadKind ℕ) (x : ℕ) (bytes rest : List ℕ) (found : Option Instruction) → form_of op ≡ of → Spells part bytes x rest
    → Finds (IsMeant pool (plain pool pc of op x 0)) found → SpellsSome (one op part) (HasAnswer pool pc) bytes found rest
one_read pool pc op of part x bytes rest found is spells meant = record {
  value = Plain op x 0;
  spells = record { fits = (spells.fits, refl); text = one_part (part.spell x) bytes rest spells.text };
  means = rw is meant;
}

-- two numbers behind an opcode are there
pub two_read : (pool : List Entry) (pc op : ℕ) (of : Form) (part other : Layout BadKind ℕ) (x y : ℕ) (bytes mid rest : List ℕ) (found : Option Instruction) → form_of op ≡ of → Spells part bytes x mid → Spells other mid y rest
    → Finds (IsMeant pool (plain pool pc of op x y)) found → SpellsSome (two op part other) (HasAnswer pool pc) bytes found rest
two_read pool pc op of part other x y bytes mid rest found is first second meant = record {
  value = Plain op x y;
  spells = record { fits = (first.fits, (second.fits, refl)); text = two_parts (part.spell x) (other.spell y) bytes mid rest first.text second.text };
  means = rw is meant;
}

-- ---- signs

-- a number of one byte keeps its sign in two
pub step_by : (bytes rest : List ℕ) (y : ℕ) (s z : ℤ) → Spells u1 bytes y rest → s ≡ cast_signed w8 y → z ≡ cast_signed w8 (cast_unsigned w8 s) → cast_signed w16 (cast_unsigned w16 z) ≡ cast_signed w8 y
unfolding number
step_by bytes rest y s z spells s_is z_is =
    let same : z ≡ cast_signed w8 y = z_is ∙ rw s_is (ap (cast_signed w8) (of_z-to_z w8 y spells.fits)) in
    rw same (to_z-of_z w16 (cast_signed w8 y) (sfits_widen {w = w8} {w' = w16} tt (sfits_to_z {w = w8} (Fits-of_lt {w = w8} spells.fits))))

-- a number of two bytes keeps its sign
pub wide_by : (bytes rest : List ℕ) (y : ℕ) (z : ℤ) → Spells u2 bytes y rest → z ≡ cast_signed w16 y → cast_signed w16 (cast_unsigned w16 z) ≡ cast_signed w16 y
unfolding number
wide_by bytes rest y z spells is = rw is (ap (cast_signed w16) (of_z-to_z w16 y spells.fits))

-- ---- `wide`

three_parts : (a b c bytes behind_a behind_b rest : List ℕ) → bytes ≡ a ++ behind_a → behind_a ≡ b ++ behind_b → behind_b ≡ c ++ rest → bytes ≡ (a ++ (b ++ (c ++ []))) ++ rest
three_parts a b c bytes behind_a behind_b rest p q r = rw (p, q, r) (simp (append_assoc, append-nil))

-- `iinc` behind `wide`
pub wide_step : (bytes behind_op behind_slot rest : List ℕ) (op slot by : ℕ) (z : ℤ) → Spells (tested u1 can_be_wide Opcode) bytes op behind_op → Spells u2 behind_op slot behind_slot → op ≡ 132 → Spells u2 behind_slot by rest
    → z ≡ cast_signed w16 by → SpellsSome widened (λ w found. found ≡ wide w) bytes (Some (Iinc slot (cast_signed w16 (cast_unsigned w16 z)))) rest
wide_step bytes behind_op behind_slot rest op slot by z p q is r z_is = record {
  value = record { opcode = op; slot = slot; by = by };
  spells = rw is record { fits = (rw is at p.fits, (q.fits, (r.fits, refl))); text = three_parts (u1.spell 132) (u2.spell slot) (u2.spell by) bytes behind_op behind_slot rest (rw is at p.text) q.text r.text };
  means = rw (is, wide_by behind_slot rest by z r z_is) refl;
}

-- nothing is added where no `iinc` is made wide
nothing_added : (b : Bool) → b ≡ false → (choice b u2 (exactly 0)).Fits 0 × ((choice b u2 (exactly 0)).spell 0 ≡ [])
nothing_added true is = absurd cc
nothing_added false is = (refl, refl)

not_so : {A : Type 0} (b : Bool) (x y : A) → b ≡ false → y ≡ (if b then x else y)
not_so true x y is = absurd cc
not_so false x y is = refl

-- a load or a store behind `wide`
pub wide_load : (bytes behind_op rest : List ℕ) (op slot : ℕ) (found : Option Instruction) → Spells (tested u1 can_be_wide Opcode) bytes op behind_op → Spells u2 behind_op slot rest → (op == 132) ≡ false
    → found ≡ widened_load op slot → SpellsSome widened (λ w found. found ≡ wide w) bytes found rest
wide_load bytes behind_op rest op slot found p q isnt is =
    let none = nothing_added (op == 132) isnt in
    let by = (choice (op == 132) u2 (exactly 0)).spell 0 in
    record {
      value = record { opcode = op; slot = slot; by = 0 };
      spells = record { fits = (p.fits, (q.fits, (none.0, refl))); text = three_parts (u1.spell op) (u2.spell slot) by bytes behind_op rest rest p.text q.text (ap (λ (t : List ℕ). t ++ rest) (sym none.1)) };
      means = is ∙ not_so (op == 132) (Some (Iinc slot (cast_signed w16 0))) (widened_load op slot) isnt;
    }
