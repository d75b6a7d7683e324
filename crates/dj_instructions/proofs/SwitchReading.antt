-- Reading the operands of instructions, front to back.
use Rattle.std.proofs.Common.{◌≡◌, ℕ, ◌+◌, ℤ, List, [], ◌∷◌, ◌++◌, map, length, Option, append_assoc, refl, sym, ap, ◌∙◌}
use Rattle.std.specs.List.{flat_map}
use Rattle.std.specs.Int.{w32, cast_signed, cast_unsigned}
use Rattle.std.proofs.lemmas.Int.{of_z-to_z}
use Rattle.std.proofs.lemmas.List.{append-nil, map_push}
use Rattle.dj_layout.specs.Layout.{Layout, Spells, SpellsSome}
use Rattle.dj_layout.specs.Parts.{number, times}
use Rattle.dj_layout.proofs.Loops.{times_more}
use Rattle.dj_instructions.specs.Instructions.{Instruction}
use Rattle.dj_instructions.specs.RawInstructions.{u4, padding, count_keys, pair, table, lookup}
use Rattle.dj_instructions.specs.Jumps.{target, table_with, table_switch, lookup_with, lookup_switch}
use Rattle.dj_instructions.specs.Reads.{target_of, case_of}
use Rattle.dj_instructions.proofs.PartTexts.{two_parts, five_parts}

-- one item more, of which is kept what a function makes of it
pub made_more : {K A B : Type 0} (item : Layout K A) (f : A → B) (n : ℕ) (bytes rest after : List ℕ) (found pushed : List B) (x : B) → SpellsSome (times n item) (λ xs ys. ys ≡ map f xs) bytes found rest
    → SpellsSome item (λ a b. b ≡ f a) rest x after → pushed ≡ found ++ x ∷ [] → SpellsSome (times (n + 1) item) (λ xs ys. ys ≡ map f xs) bytes pushed after
made_more item f n bytes rest after found pushed x so_far next is =
    record {
      value = so_far.value ++ next.value ∷ [];
      spells = times_more item n bytes rest after so_far.value next.value so_far.spells next.spells;
      means = is ∙ rw (so_far.means, next.means) (sym (map_push f so_far.value next.value));
    }

-- a number of four bytes keeps its sign as it is passed on
pub kept : (bytes rest : List ℕ) (x : ℕ) (z : ℤ) → Spells u4 bytes x rest → z ≡ cast_signed w32 x → cast_signed w32 (cast_unsigned w32 z) ≡ cast_signed w32 x
unfolding number
kept bytes rest x z spells is = rw is (ap (cast_signed w32) (of_z-to_z w32 x spells.fits))

-- a key and its offset are there
pub case_read : (pc key offset to : ℕ) (k o : ℤ) (bytes mid rest : List ℕ) → Spells u4 bytes key mid → Spells u4 mid offset rest → k ≡ cast_signed w32 key → o ≡ cast_signed w32 offset
    → to ≡ target pc (cast_signed w32 (cast_unsigned w32 o)) → SpellsSome pair (λ p case. case ≡ case_of pc p) bytes (cast_signed w32 (cast_unsigned w32 k), to) rest
case_read pc key offset to k o bytes mid rest first second k_is o_is to_is =
    let same = kept bytes mid key k first k_is in
    let there : to ≡ target_of pc offset = to_is ∙ ap (target pc) (kept mid rest offset o second o_is) in
    record {
      value = (key, offset);
      spells = record { fits = (first.fits, (second.fits, refl)); text = two_parts (u4.spell key) (u4.spell offset) bytes mid rest first.text second.text };
      means = λ i. (same i, there i);
    }

-- ---- switches

-- the number of keys is that of the numbers as they stand
pub count_is : (bytes mid rest : List ℕ) (low high n : ℕ) (l h : ℤ) → Spells u4 bytes low mid → Spells u4 mid high rest → l ≡ cast_signed w32 low → h ≡ cast_signed w32 high
    → n ≡ count_keys (cast_signed w32 (cast_unsigned w32 l)) (cast_signed w32 (cast_unsigned w32 h)) → n ≡ count_keys (cast_signed w32 low) (cast_signed w32 high)
count_is bytes mid rest low high n l h first second l_is h_is is =
    let lows = kept bytes mid low l first l_is in
    let highs = kept mid rest high h second h_is in
    is ∙ ap (λ (z : ℤ). count_keys z (cast_signed w32 (cast_unsigned w32 h))) lows ∙ ap (count_keys (cast_signed w32 low)) highs

-- the operands of a table are there
pub table_read : (pc : ℕ) (bytes behind_padding behind_other behind_low behind_high rest pad : List ℕ) (other low high n : ℕ) (targets : List ℕ) (found : Option Instruction)
    → Spells (padding pc) bytes pad behind_padding → Spells u4 behind_padding other behind_other → Spells u4 behind_other low behind_low → Spells u4 behind_low high behind_high
    → n ≡ count_keys (cast_signed w32 low) (cast_signed w32 high) → SpellsSome (times n u4) (λ offsets there. there ≡ map (target_of pc) offsets) behind_high targets rest
    → found ≡ table_with pc other low high targets → SpellsSome (table pc) (λ t answer. answer ≡ table_switch pc t) bytes found rest
table_read pc bytes behind_padding behind_other behind_low behind_high rest pad other low high n targets found p q r s n_is t is =
    record {
      value = record { padding = pad; other = other; low = low; high = high; offsets = t.value };
      spells = record {
        fits = (p.fits, (q.fits, (r.fits, (s.fits, (rw (← n_is) t.spells.fits, refl)))));
        text = five_parts pad (u4.spell other) (u4.spell low) (u4.spell high) (flat_map u4.spell t.value) bytes behind_padding behind_other behind_low behind_high rest p.text q.text r.text s.text t.spells.text;
      };
      means = is ∙ ap (table_with pc other low high) t.means;
    }

four_parts : (a b c d bytes behind_a behind_b behind_c rest : List ℕ) → bytes ≡ a ++ behind_a → behind_a ≡ b ++ behind_b → behind_b ≡ c ++ behind_c → behind_c ≡ d ++ rest
    → bytes ≡ (a ++ (b ++ ((c ++ d) ++ []))) ++ rest
four_parts a b c d bytes behind_a behind_b behind_c rest p q r s = rw (p, q, r, s) (simp (append_assoc, append-nil))

-- the operands of a lookup are there
pub lookup_read : (pc : ℕ) (bytes behind_padding behind_other behind_count rest pad : List ℕ) (other n : ℕ) (cases : List (ℤ × ℕ)) (found : Option Instruction)
    → Spells (padding pc) bytes pad behind_padding → Spells u4 behind_padding other behind_other → Spells u4 behind_other n behind_count
    → SpellsSome (times n pair) (λ pairs there. there ≡ map (case_of pc) pairs) behind_count cases rest
    → found ≡ lookup_with pc other cases → SpellsSome (lookup pc) (λ l answer. answer ≡ lookup_switch pc l) bytes found rest
lookup_read pc bytes behind_padding behind_other behind_count rest pad other n cases found p q r s is =
    let count : n ≡ length s.value = sym s.spells.fits.0 in
    record {
      value = record { padding = pad; other = other; pairs = s.value };
      spells = record {
        fits = (p.fits, (q.fits, ((rw count at r.fits, (refl, s.spells.fits.1)), refl)));
        text = four_parts pad (u4.spell other) (u4.spell (length s.value)) (flat_map pair.spell s.value) bytes behind_padding behind_other behind_count rest p.text q.text (rw (← count) r.text) s.spells.text;
      };
      means = is ∙ ap (lookup_with pc other) s.means;
    }
