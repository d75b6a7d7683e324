-- What stores write, one instruction after another.
use Rattle.std.proofs.Common.{◌≡◌, ◌≢◌, ◌⊎◌, inl, inr, ◌↔◌, ℕ, zero, suc, ◌+◌, ◌<◌, ◌≤◌, Bool, true, false, List, [], ◌∷◌, ◌++◌, length, map, Option, Some, None, refl, sym, ap, ◌∙◌, subst, arith}
use Rattle.std.specs.Prelude.{slice_get, slice_index_or, option_map, IsSome, ◌==◌, if◌then◌else◌}
use Rattle.std.proofs.lemmas.Bool.{cases_lt, cases_eq, eq-eqb}
use Rattle.std.proofs.lemmas.Option.{slice_get_within, slice_get-map, none-some, same_Some}
use Rattle.std.proofs.lemmas.List.{length-map}
use Rattle.dj_names.specs.Types.{JType}
use Rattle.dj_instructions.specs.Instructions.{Instruction, Instructions, IsRising, instruction_at, view_instruction, view_instructions}
use Rattle.dj_instructions.specs.declared.instruction.Instruction as declared
use Rattle.dj_frames.specs.declared.frame.Frame as code_frame
use Rattle.dj_frames.specs.Frames.{Frame, view_frame}
use Rattle.dj_code.specs.declared.method_code.Typed as code_typed
use Rattle.dj_code.specs.MethodCode.{Typed, view_code, view_typed}
use Rattle.dj_code.specs.Targets.{IsStart}
use Rattle.dj_tags.specs.Goes.{Working, top_down}
use Rattle.dj_starts.specs.Edges.{Reaches}
use Rattle.dj_starts.specs.Marks.{IsMarked}
use Rattle.dj_numbers.specs.Numbers.{Typing, number_of, with_new, AreDistinct}
use Rattle.dj_numbers.proofs.Numbering.{number-found, pushed, at-end}
use Rattle.dj_vars.specs.Naming.{Writes, WritesAt}
use Rattle.dj_numbering.specs.Numbered.{HasNumber}
use Rattle.dj_numbering.proofs.Numbered.{kept-push}
use Rattle.dj_code_variables.specs.Stores.{write_of, typing_of, written_at, with_typing, number_of_typing, IsStep, WritesBelow, AreStoredTo, AreStored}
use Rattle.dj_code_variables.proofs.Places.{one-place, is-at, here-at, frame-at}
use Rattle.dj_code_variables.proofs.Writing.{writes-is, is-writes}

-- ---- one more that is numbered

kept-with : (variables : List Typing) (write : Option Typing) → AreDistinct (with_typing variables write) → (slot : ℕ) (type : JType) (number : ℕ) → number_of variables slot type ≡ Some number → number_of (with_typing variables write) slot type ≡ Some number
kept-with variables None distinct slot type number e = e
kept-with variables (Some typing) distinct slot type number e = by (number_of variables typing.slot typing.type) distinct
  where
    by : (found : Option ℕ) → AreDistinct (with_new variables typing.slot typing.type found) → number_of (with_new variables typing.slot typing.type found) slot type ≡ Some number
    by None distinct = kept-push variables (record { slot = typing.slot; type = typing.type }) slot type number distinct e
    by (Some found) distinct = e

has-with : (variables : List Typing) (typing : Typing) → AreDistinct (with_typing variables (Some typing)) → HasNumber (with_typing variables (Some typing)) typing.slot typing.type
has-with variables typing distinct = by (number_of variables typing.slot typing.type) refl distinct
  where
    by : (found : Option ℕ) → number_of variables typing.slot typing.type ≡ found → AreDistinct (with_new variables typing.slot typing.type found) → HasNumber (with_new variables typing.slot typing.type found) typing.slot typing.type
    by None e distinct = record {
      number = length variables;
      is = number-found (variables ++ record { slot = typing.slot; type = typing.type } ∷ []) distinct typing.slot typing.type (length variables) (at-end variables (record { slot = typing.slot; type = typing.type }));
    }
    by (Some found) e distinct = record { number = found; is = e }

only-with : (variables : List Typing) (write : Option Typing) (number : ℕ) (typing : Typing) → slice_get (with_typing variables write) number ≡ Some typing → (slice_get variables number ≡ Some typing) ⊎ (write ≡ Some typing)
only-with variables None number typing e = inl e
only-with variables (Some one) number typing e = by (number_of variables one.slot one.type) e
  where
    by : (found : Option ℕ) → slice_get (with_new variables one.slot one.type found) number ≡ Some typing → (slice_get variables number ≡ Some typing) ⊎ (Some one ≡ Some typing)
    by None e = elim (pushed variables (record { slot = one.slot; type = one.type }) number typing e) [ inl old ↦ inl old | inr last ↦ inr (ap Some last.1) ]
    by (Some found) e = inl e

-- ---- what is noted

past : (list : List (Option ℕ)) (place : ℕ) → length list ≤ place → slice_index_or list place None ≡ None
past [] place over = refl
past (first ∷ more) zero over = absurd (omega (arith, over))
past (first ∷ more) (suc place) over = past more place (omega (arith, over))

unmarked : (marks : List Bool) (place : ℕ) → length marks ≤ place → slice_index_or marks place false ≡ false
unmarked [] place over = refl
unmarked (first ∷ more) zero over = absurd (omega (arith, over))
unmarked (first ∷ more) (suc place) over = unmarked more place (omega (arith, over))

-- ---- one instruction

below-or : (other place : ℕ) → other < suc place → (other < place) ⊎ (other ≡ place)
below-or other place less = elim (cases_lt other place) [ inl lower ↦ inl lower | inr over ↦ inr (omega (arith, less, over)) ]

either : (test : Bool) (one : Instruction) (other : Option Instruction) → (test ≡ false → IsSome other) → IsSome (if test then Some one else other)
either true one other h = refl
either false one other h = h refl

starts-at : (list : Instructions) (place : ℕ) (at : ℕ × Instruction) → slice_get list place ≡ Some at → IsStart list at.0
starts-at [] place at e = absurd (none-some at e)
starts-at (first ∷ more) zero at e = either (first.0 == at.0) first.1 (instruction_at more at.0) (λ no. absurd (never (sym (eq-eqb first.0 at.0 (ap (λ (found : ℕ × Instruction). found.0) (same_Some first at e))) ∙ no)))
  where
    never : true ≡ false → ⊥
    never e = cc
starts-at (first ∷ more) (suc place) at e = either (first.0 == at.0) first.1 (instruction_at more at.0) (λ no. starts-at more place at e)

module _ (typed : Typed) (rising : IsRising typed.code.instructions) (seen : List Bool) (exact : (pc : ℕ) → IsStart typed.code.instructions pc → IsMarked seen pc ↔ Reaches typed.code pc)
    (place pc : ℕ) (instruction : Instruction) (here : slice_get typed.code.instructions place ≡ Some (pc, instruction)) where
  -- what the instruction writes
  abbrev write : Option Typing
  write = written_at (slice_index_or seen pc false) instruction (slice_get typed.frames place)

  -- what it writes, is written there
  written-here : (typing : Typing) → write ≡ Some typing → WritesBelow typed (suc place) pc typing.slot typing.type
  written-here typing e = by (slice_index_or seen pc false) refl (slice_get typed.frames place) refl e
    where
      by : (mark : Bool) → slice_index_or seen pc false ≡ mark → (frame : Option Frame) → slice_get typed.frames place ≡ frame → written_at mark instruction frame ≡ Some typing → WritesBelow typed (suc place) pc typing.slot typing.type
      by false m frame f e = absurd (none-some typing e)
      by true m None f e = absurd (none-some typing e)
      by true m (Some frame) f e =
          let has = is-writes frame instruction typing e in
          record {
            writes = record {
              instruction = instruction;
              frame = top_down frame;
              at = is-at typed place pc instruction frame here f;
              reached = (exact pc (starts-at typed.code.instructions place (pc, instruction) here)).0 m;
              tag = has.tag;
              writes = has.writes;
              born = has.born;
            };
            below = omega arith;
          }

  -- what is written at the place is written by it
  here-written : (slot : ℕ) (type : JType) → (writes : WritesAt typed pc slot type) → write ≡ Some (record { slot = slot; type = type })
  here-written slot type writes =
      let placed = one-place typed.code.instructions writes.at.place place (pc, writes.instruction) (pc, instruction) rising refl (here-at typed pc writes.instruction writes.frame writes.at) here in
      let frames = frame-at typed pc writes.instruction writes.frame writes.at in
      let listed = ap (slice_get typed.frames) (sym placed) ∙ frames.listed in
      let same = same_Some (pc, writes.instruction) (pc, instruction) (sym (here-at typed pc writes.instruction writes.frame writes.at) ∙ ap (slice_get typed.code.instructions) placed ∙ here) in
      let marked : slice_index_or seen pc false ≡ true = (exact pc (starts-at typed.code.instructions place (pc, instruction) here)).1 writes.reached in
      ap (λ (mark : Bool). written_at mark instruction (slice_get typed.frames place)) marked
      ∙ ap (written_at true instruction) listed
      ∙ ap (λ (one : ℕ × Instruction). typing_of (write_of one.1) frames.seen) (sym same)
      ∙ writes-is frames.seen writes.instruction slot writes.tag type (subst (λ (frame : Working). Writes frame writes.instruction slot writes.tag) (sym frames.is) writes.writes) writes.born

  -- two instructions write at two offsets
  apart : (other slot : ℕ) (type : JType) → (writes : WritesAt typed other slot type) → writes.at.place < place → other ≢ pc
  apart other slot type writes less same =
      let placed = one-place typed.code.instructions writes.at.place place (other, writes.instruction) (pc, instruction) rising same (here-at typed other writes.instruction writes.frame writes.at) here in
      omega (arith, less, placed)

  here-offset : (other slot : ℕ) (type : JType) → (writes : WritesAt typed other slot type) → writes.at.place ≡ place → other ≡ pc
  here-offset other slot type writes same =
      ap (λ (found : ℕ × Instruction). found.0) (same_Some (other, writes.instruction) (pc, instruction) (sym (here-at typed other writes.instruction writes.frame writes.at) ∙ ap (slice_get typed.code.instructions) same ∙ here))

  -- what is written below, is below the next place too
  wider : (other slot : ℕ) (type : JType) → WritesBelow typed place other slot type → WritesBelow typed (suc place) other slot type
  wider other slot type below = record { writes = below.writes; below = (let less = below.below in omega (arith, less)) }

  pub next-stored : (old middle new : List Typing) (before after : List (Option ℕ)) → length before ≡ length seen → AreDistinct new → AreStoredTo typed place old middle before → IsStep pc write middle new before after
      → AreStoredTo typed (suc place) old new after
  next-stored old middle new before after room distinct stored step = record {
    kept = λ slot type number e. kept slot type number (stored.kept slot type number e);
    each = λ other slot type below. each other slot type below (below-or below.writes.at.place place below.below);
    only = λ number typing e. elim (only-with middle write number typing (subst (λ (list : List Typing). slice_get list number ≡ Some typing) step.variables e)) [
      | inl earlier ↦ stored.only number typing earlier
      | inr last ↦ inr (record { pc = pc; writes = (written-here typing last).writes })
    ];
    noted = λ other slot type below. noted-at other slot type below (below-or below.writes.at.place place below.below);
    not_noted = unwritten;
  }
    where
      kept : (slot : ℕ) (type : JType) (number : ℕ) → number_of middle slot type ≡ Some number → number_of new slot type ≡ Some number
      kept slot type number e =
          ap (λ (list : List Typing). number_of list slot type) step.variables ∙ kept-with middle write (subst AreDistinct step.variables distinct) slot type number e

      has : (typing : Typing) → write ≡ Some typing → HasNumber new typing.slot typing.type
      has typing e =
          let equal : new ≡ with_typing middle (Some typing) = step.variables ∙ ap (with_typing middle) e in
          subst (λ (list : List Typing). HasNumber list typing.slot typing.type) (sym equal) (has-with middle typing (subst AreDistinct equal distinct))

      earlier-has : (other slot : ℕ) (type : JType) → WritesBelow typed place other slot type → HasNumber new slot type
      earlier-has other slot type below = let found = stored.each other slot type below in record { number = found.number; is = kept slot type found.number found.is }

      own : (other slot : ℕ) (type : JType) → (writes : WritesAt typed other slot type) → writes.at.place ≡ place → write ≡ Some (record { slot = slot; type = type })
      own other slot type writes same = here-written slot type (subst (λ (n : ℕ). WritesAt typed n slot type) (here-offset other slot type writes same) writes)

      each : (other slot : ℕ) (type : JType) → (below : WritesBelow typed (suc place) other slot type) → (below.writes.at.place < place) ⊎ (below.writes.at.place ≡ place) → HasNumber new slot type
      each other slot type below (inl less) = earlier-has other slot type (record { writes = below.writes; below = less })
      each other slot type below (inr same) = has (record { slot = slot; type = type }) (own other slot type below.writes same)

      marked-within : (typing : Typing) → write ≡ Some typing → pc < length before
      marked-within typing e = by (slice_index_or seen pc false) refl e
        where
          by : (mark : Bool) → slice_index_or seen pc false ≡ mark → written_at mark instruction (slice_get typed.frames place) ≡ Some typing → pc < length before
          by false m e = absurd (none-some typing e)
          by true m e = elim (cases_lt pc (length before)) [ inl less ↦ less | inr over ↦ absurd (never (sym (unmarked seen pc (omega (arith, over, room))) ∙ m)) ]
            where
              never : false ≡ true → ⊥
              never e = cc

      noted-at : (other slot : ℕ) (type : JType) → (below : WritesBelow typed (suc place) other slot type) → (below.writes.at.place < place) ⊎ (below.writes.at.place ≡ place) → slice_index_or after other None ≡ number_of new slot type
      noted-at other slot type below (inl less) =
          let lower : WritesBelow typed place other slot type = record { writes = below.writes; below = less } in
          let found = stored.each other slot type lower in
          step.noted.others other (apart other slot type below.writes less) ∙ stored.noted other slot type lower ∙ found.is ∙ sym (kept slot type found.number found.is)
      noted-at other slot type below (inr same) =
          let typing : Typing = record { slot = slot; type = type } in
          let is = own other slot type below.writes same in
          ap (λ (n : ℕ). slice_index_or after n None) (here-offset other slot type below.writes same) ∙ step.noted.here (marked-within typing is) ∙ ap (number_of_typing new) is

      unwritten : (other : ℕ) → ((slot : ℕ) (type : JType) → ¬ WritesBelow typed (suc place) other slot type) → slice_index_or after other None ≡ None
      unwritten other none = elim (cases_eq other pc) [
        | inl same ↦ here-none (subst (λ (n : ℕ). (slot : ℕ) (type : JType) → ¬ WritesBelow typed (suc place) n slot type) same none) same
        | inr differ ↦ step.noted.others other differ ∙ stored.not_noted other (λ slot type below. none slot type (wider other slot type below))
      ]
        where
          nothing : ((slot : ℕ) (type : JType) → ¬ WritesBelow typed (suc place) pc slot type) → (found : Option Typing) → write ≡ found → number_of_typing new found ≡ None
          nothing none None e = refl
          nothing none (Some typing) e = absurd (none typing.slot typing.type (written-here typing e))

          here-none : ((slot : ℕ) (type : JType) → ¬ WritesBelow typed (suc place) pc slot type) → other ≡ pc → slice_index_or after other None ≡ None
          here-none none same = ap (λ (n : ℕ). slice_index_or after n None) same ∙ elim (cases_lt pc (length before)) [
            | inl less ↦ step.noted.here less ∙ nothing none write refl
            | inr over ↦ past after pc (let rooms = step.noted.room in omega (arith, over, rooms))
          ]

-- ---- all instructions

-- nothing is written by none of them
pub none-stored : (typed : Typed) (old : List Typing) (after : List (Option ℕ)) → ((pc : ℕ) → slice_index_or after pc None ≡ None) → AreStoredTo typed 0 old old after
none-stored typed old after none = record {
  kept = λ slot type number e. e;
  each = λ pc slot type below. absurd (let less = below.below in omega (arith, less));
  only = λ number typing e. inl e;
  noted = λ pc slot type below. absurd (let less = below.below in omega (arith, less));
  not_noted = λ pc all. none pc;
}

-- and all is, by all
pub all-stored : (typed : Typed) (bound : ℕ) (old new : List Typing) (after : List (Option ℕ)) → length typed.code.instructions ≤ bound → AreStoredTo typed bound old new after → AreStored typed old new after
all-stored typed bound old new after over stored = record {
  kept = stored.kept;
  each = λ pc slot type writes. stored.each pc slot type (below pc slot type writes);
  only = stored.only;
  noted = λ pc slot type writes. stored.noted pc slot type (below pc slot type writes);
  not_noted = λ pc none. stored.not_noted pc (λ slot type lower. none slot type lower.writes);
}
  where
    below : (pc slot : ℕ) (type : JType) → WritesAt typed pc slot type → WritesBelow typed bound pc slot type
    below pc slot type writes =
        let within = slice_get_within typed.code.instructions writes.at.place (pc, writes.instruction) (here-at typed pc writes.instruction writes.frame writes.at) in
        record { writes = writes; below = omega (arith, within, over) }

-- ---- instructions of the code

pub next-store : (typed : code_typed.Typed) → IsRising (view_instructions typed.code.instructions) → (marks seen : List Bool) → marks ≡ seen
    → ((pc : ℕ) → IsStart (view_instructions typed.code.instructions) pc → IsMarked seen pc ↔ Reaches (view_code typed.code) pc) → (place : ℕ) (at : ℕ × declared.Instruction) → slice_get typed.code.instructions place ≡ Some at
    → (found : Option code_frame.Frame) → found ≡ slice_get typed.frames place → (old middle new : List Typing) (before after : List (Option ℕ)) → length before ≡ length marks → AreDistinct new
    → AreStoredTo (view_typed typed) place old middle before → IsStep at.0 (written_at (slice_index_or marks at.0 false) (view_instruction at.1) (option_map view_frame found)) middle new before after
    → AreStoredTo (view_typed typed) (place + 1) old new after
next-store typed rising marks seen same exact place at e found f old middle new before after room distinct stored step =
    subst (λ (bound : ℕ). AreStoredTo (view_typed typed) bound old new after) one
    (next-stored (view_typed typed) rising marks reached place at.0 (view_instruction at.1) here old middle new before after room distinct stored
    (subst (λ (frame : Option Frame). IsStep at.0 (written_at (slice_index_or marks at.0 false) (view_instruction at.1) frame) middle new before after) viewed step))
  where
    one : suc place ≡ place + 1
    one = omega arith

    reached : (pc : ℕ) → IsStart (view_instructions typed.code.instructions) pc → IsMarked marks pc ↔ Reaches (view_code typed.code) pc
    reached = subst (λ (list : List Bool). (pc : ℕ) → IsStart (view_instructions typed.code.instructions) pc → IsMarked list pc ↔ Reaches (view_code typed.code) pc) (sym same) exact

    here : slice_get (view_instructions typed.code.instructions) place ≡ Some (at.0, view_instruction at.1)
    here = slice_get-map (λ (one : ℕ × declared.Instruction). (one.0, view_instruction one.1)) typed.code.instructions place ∙ ap (option_map (λ (one : ℕ × declared.Instruction). (one.0, view_instruction one.1))) e

    viewed : option_map view_frame found ≡ slice_get (map view_frame typed.frames) place
    viewed = ap (option_map view_frame) f ∙ sym (slice_get-map view_frame typed.frames place)

pub all-seen : (typed : code_typed.Typed) (bound : ℕ) (old new : List Typing) (after : List (Option ℕ)) → length typed.code.instructions ≤ bound → AreStoredTo (view_typed typed) bound old new after → AreStored (view_typed typed) old new after
all-seen typed bound old new after over stored =
    all-stored (view_typed typed) bound old new after (let long = length-map {B = ℕ × Instruction} typed.code.instructions (λ (one : ℕ × declared.Instruction). (one.0, view_instruction one.1)) in omega (arith, long, over)) stored
