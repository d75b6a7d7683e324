-- Instructions that are looked at one behind another.
use Rattle.std.proofs.Common.{◌≡◌, ℕ, ◌+◌, ◌<◌, Bool, true, false, List, length, reverse, Option, Some, None, refl, sym, ap, subst, ◌∙◌, arith}
use Rattle.std.specs.Prelude.{slice_index_or, IsSome}
use Rattle.dj_instructions.specs.declared.instruction.Instruction as declared
use Rattle.dj_instructions.specs.declared.instruction.Instruction.TheVariants as variant
use Rattle.dj_instructions.specs.Instructions.{Instruction, Instructions, IsRising, instruction_at, view_instruction, view_instructions}
use Rattle.dj_instructions.specs.Places.{IsPlaceOf, IsNoPlace}
use Rattle.dj_instructions.proofs.PlaceLemmas.{at_no_place}
use Rattle.dj_code.specs.MethodCode.{Typed}
use Rattle.dj_code.specs.Targets.{IsStart}
use Rattle.dj_starts.specs.declared.ways.Edge.{Edge}
use Rattle.dj_starts.specs.Edges.{plain}
use Rattle.dj_starts.specs.Marks.{IsMarked}
use Rattle.dj_receivers.specs.declared.marking.Marking.{Marking}
use Rattle.dj_receivers.specs.Receivers.{height_at, marks_out, marks_along}
use Rattle.dj_receivers.specs.Steps.{IsAt, IsLow, AreJoins}
use Rattle.dj_receivers.specs.Walks.{kept, IsSound, Falls, Keeps, Serves, IsFallenTo, Done, ends, falls_on, Cuts, Restores, Visits, Runs, Finishes}
use Rattle.dj_receivers.proofs.Sources.{at_fitted}
use Rattle.dj_receivers.proofs.Lowering.{low_goes, low_above}
use Rattle.dj_receivers.proofs.Falling.{falls_refl, falls_then, falls_here, sound_here, below_then}
use Rattle.dj_receivers.proofs.Visiting.{any_default}
use Rattle.dj_receivers.proofs.Ways.{falls_only, falls_there}

abbrev Listed : Type 0
Listed = List (ℕ × declared.Instruction)

-- ---- what falls stays done

pub falls_keeps : (typed : Typed) (a b : Marking) → Falls typed a b → Keeps a b
falls_keeps typed a b falls = record { table = falls.table; calls = falls.calls; room = falls.room; numbers = falls.numbers }

serves_keeps : (typed : Typed) (joins : List Bool) (a b : Marking) (pc : ℕ) (marks : List Bool) → Keeps a b → Serves typed joins a pc marks → Serves typed joins b pc marks
serves_keeps typed joins a b pc marks keeps serves = record {
  call = λ method at within marked. serves.call method at (let size = keeps.numbers in omega (arith, size, within)) (keeps.calls pc marked);
  ways = λ edge has jumped within. (
      let before = serves.ways edge has jumped (let room = keeps.room in omega (arith, room, within)) in
      below_then b.table edge.target (reverse before.found) (marks_along typed pc marks edge) (keeps.table edge.target before.found before.is) before.below
      );
}

pub done_keeps : (typed : Typed) (joins : List Bool) (a b : Marking) (pc : ℕ) (marks : List Bool) → Keeps a b → Done typed joins a pc marks → Done typed joins b pc marks
done_keeps typed joins a b pc marks keeps (ends serves none) = ends (serves_keeps typed joins a b pc marks keeps serves) none
done_keeps typed joins a b pc marks keeps (falls_on {next = next} {behind = behind} serves only more) = falls_on (serves_keeps typed joins a b pc marks keeps serves) only (done_keeps typed joins a b next behind keeps more)

serves_falls : (typed : Typed) (joins : List Bool) (a b : Marking) (pc : ℕ) (marks : List Bool) → Falls typed a b → Serves typed joins a pc marks → Serves typed joins b pc marks
serves_falls typed joins a b pc marks falls serves = serves_keeps typed joins a b pc marks (falls_keeps typed a b falls) serves

-- ---- along the instructions

abbrev pub At : Listed → ℕ → ℕ × declared.Instruction → Type 0
At l place x = x ≡ slice_index_or l place x

same_item : (l : Listed) (place : ℕ) (x y : ℕ × declared.Instruction) → place < length l → At l place x → At l place y → x ≡ y
same_item l place x y within at also = at ∙ any_default l place x y within ∙ sym also

pub item_at : (l : Listed) (place : ℕ) (d : ℕ × declared.Instruction) → place < length l → At l place (slice_index_or l place d)
item_at l place d within = any_default l place d (slice_index_or l place d) within

-- from the instruction at a pc control fell to the one at a place
pub record IsWalkingFrom (typed : Typed) (l : Listed) (joins : List Bool) (old now : Marking) (pc place : ℕ) : Type 0 where
  pub within : place < length l
  pub falls : Falls typed old now
  pub sound : IsSound typed old → IsLow typed pc (reverse old.now) → IsSound typed now
  pub low : IsLow typed pc (reverse old.now) → (y : ℕ × declared.Instruction) → At l place y → IsLow typed y.0 (reverse now.now)
  pub closes : (later : Marking) → Falls typed now later → (y : ℕ × declared.Instruction) → At l place y → Done typed joins later y.0 (reverse now.now) → Done typed joins later pc (reverse old.now)

module _ (typed : Typed) (l : Listed) (is_code : typed.code.instructions ≡ view_instructions l) (rising : IsRising (view_instructions l)) (joins : List Bool) (are : AreJoins typed.code joins) where
  pub walking_first : (old : Marking) (place : ℕ) (x : ℕ × declared.Instruction) → place < length l → At l place x → IsWalkingFrom typed l joins old old x.0 place
  walking_first old place x within at = record {
    within = within;
    falls = falls_refl typed old;
    sound = λ sound low. sound;
    low = λ low y also. subst (λ (z : ℕ × declared.Instruction). IsLow typed z.0 (reverse old.now)) (same_item l place x y within at also) low;
    closes = λ later falls y also done. subst (λ (z : ℕ × declared.Instruction). Done typed joins later z.0 (reverse old.now)) (same_item l place y x within also at) done;
  }

  module _ (old now : Marking) (pc place : ℕ) (walking : IsWalkingFrom typed l joins old now pc place) (y : ℕ × declared.Instruction) (at : At l place y) (visited : Marking) (visits : Visits typed joins now visited y.0) where
    pub walking_ends : ((x z : ℕ × declared.Instruction) → At l place x → place + 1 < length l → At l (place + 1) z → ¬ IsFallenTo joins (view_instruction x.1) z.0) → Runs typed joins old visited pc
    walking_ends off = record {
      falls = falls_then typed old now visited walking.falls visits.falls;
      sound = λ sound low. visits.sound (walking.sound sound low) (walking.low low y at);
      done = walking.closes visited visits.falls y at (ends visits.serves (λ edge fall.
          let only = falls_only typed l is_code rising joins are place walking.within y at edge fall in
          let z = slice_index_or l (place + 1) y in
          let there = item_at l (place + 1) y only.1 in
          off y z at only.1 there (record { falls = only.0; plain = subst (λ (n : ℕ). ¬ IsMarked joins n) (only.3 z there) fall.plain })));
    }

    module _ (cutted : Marking) (height : ℕ) (cuts : Cuts visited cutted height) (below : place + 1 < length l) (z : ℕ × declared.Instruction) (there : At l (place + 1) z) (high : height ≡ height_at typed.code.instructions typed.frames z.0)
        (fallen : IsFallenTo joins (view_instruction y.1) z.0) where
      -- the marks that are left are those that the way leads to
      left_is : (edge : Edge) → edge.target ≡ z.0 → edge.caught ≡ false → (p : ℕ) → (IsAt (reverse cutted.now) p → IsAt (marks_along typed y.0 (reverse now.now) edge) p) × (IsAt (marks_along typed y.0 (reverse now.now) edge) p → IsAt (reverse cutted.now) p)
      left_is edge target caught p =
          let tall : height ≡ height_at typed.code.instructions typed.frames edge.target = high ∙ ap (λ (n : ℕ). height_at typed.code.instructions typed.frames n) (sym target) in
          let out : marks_out typed y.0 (reverse now.now) edge.caught ≡ reverse visited.now = ap (λ (b : Bool). marks_out typed y.0 (reverse now.now) b) caught ∙ sym visits.now in
          let fits = at_fitted (height_at typed.code.instructions typed.frames edge.target) (marks_out typed y.0 (reverse now.now) edge.caught) p in (
            λ is. fits.1 (let held = (cuts.cut p).0 is in let low = held.0 in (omega (arith, low, tall), subst (λ (marks : List Bool). IsAt marks p) (sym out) held.1)),
            λ is. (cuts.cut p).1 (let held = fits.0 is in let low = held.0 in (omega (arith, low, tall), subst (λ (marks : List Bool). IsAt marks p) out held.1)),
          )

      pub walking_next : IsWalkingFrom typed l joins old cutted pc (place + 1)
      walking_next = record {
        within = below;
        falls = falls_then typed old now cutted walking.falls (falls_then typed now visited cutted visits.falls (falls_here typed visited cutted cuts.table cuts.waiting cuts.calls));
        sound = λ sound low. sound_here typed visited cutted cuts.table cuts.calls (visits.sound (walking.sound sound low) (walking.low low y at));
        low = λ low x also. subst (λ (q : ℕ × declared.Instruction). IsLow typed q.0 (reverse cutted.now)) (same_item l (place + 1) z x below there also)
            (low_above typed z.0 (marks_along typed y.0 (reverse now.now) (plain z.0)) (reverse cutted.now)
            (low_goes typed y.0 (reverse now.now) (plain z.0) (walking.low low y at) (falls_there typed l is_code rising joins are place walking.within y at z below there fallen.falls))
            (λ p is. (left_is (plain z.0) refl refl p).1 is));
        closes = λ later falls x also done. (
            let from_visited = falls_then typed visited cutted later (falls_here typed visited cutted cuts.table cuts.waiting cuts.calls) falls in
            walking.closes later (falls_then typed now visited later visits.falls from_visited) y at
            (falls_on (serves_falls typed joins visited later y.0 (reverse now.now) from_visited visits.serves)
            (λ edge fall. (
            let only = falls_only typed l is_code rising joins are place walking.within y at edge fall in
            (only.3 z there, λ p is. (left_is edge (only.3 z there) only.2 p).0 is)
            ))
            (subst (λ (q : ℕ × declared.Instruction). Done typed joins later q.0 (reverse cutted.now)) (same_item l (place + 1) x z below also there) done))
            );
      }

-- ---- from the marks that are kept

module _ (typed : Typed) (l : Listed) (is_code : typed.code.instructions ≡ view_instructions l) (rising : IsRising (view_instructions l)) (joins : List Bool) (old restored : Marking) (pc : ℕ) (done : Bool) (restores : Restores old restored pc done) where
  restored_falls : Falls typed old restored
  restored_falls = falls_here typed old restored restores.table restores.waiting restores.calls

  some_same : (first second : List Bool) → Some first ≡ Some second → first ≡ second
  some_same first second same = cc

  -- the instruction there is looked at
  pub finishes_run : done ≡ true → (place : ℕ) → IsPlaceOf l pc place → (new : Marking) → ((x : ℕ × declared.Instruction) → At l place x → Runs typed joins restored new x.0) → Finishes typed joins old new pc
  finishes_run some place is new runs =
      let d : ℕ × declared.Instruction = (0, variant.Nop) in
      let x = slice_index_or l place d in
      let run = subst (λ (n : ℕ). Runs typed joins restored new n) (is.here d) (runs x (item_at l place d is.within)) in
      record {
        falls = falls_then typed old restored new restored_falls run.falls;
        sound = λ sound. run.sound (sound_here typed old restored restores.table restores.calls sound) (sound.table pc restored.now (restores.some some));
        done = λ found start at. subst (λ (marks : List Bool). Done typed joins new pc (reverse marks)) (some_same restored.now found (sym (restores.some some) ∙ at)) run.done;
      }

  finishes_none : ((found : List Bool) → IsStart typed.code.instructions pc → kept old.table pc ≡ Some found → ⊥) → Finishes typed joins old restored pc
  finishes_none none = record {
    falls = restored_falls;
    sound = λ sound. sound_here typed old restored restores.table restores.calls sound;
    done = λ found start at. absurd (none found start at);
  }

  -- no instruction is there
  pub finishes_past : IsNoPlace l pc → Finishes typed joins old restored pc
  finishes_past is = finishes_none (λ found start at. nothing (subst (λ (o : Option Instruction). IsSome o) (ap (λ (list : Instructions). instruction_at list pc) is_code ∙ sym (at_no_place l pc is)) start))
    where
      nothing : IsSome {T = Instruction} None → ⊥
      nothing some = cc

  -- no marks are kept
  pub finishes_empty : done ≡ false → Finishes typed joins old restored pc
  finishes_empty none = finishes_none (λ found start at. let empty = restores.none none in cc)
