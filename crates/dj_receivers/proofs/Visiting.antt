-- One instruction that is looked at.
use Rattle.std.proofs.Common.{◌≡◌, ℕ, zero, suc, ◌<◌, Bool, true, false, List, [], ◌∷◌, length, reverse, set, Option, Some, None, refl, sym, ap, subst, inl, inr, ◌∙◌, arith}
use Rattle.std.specs.Prelude.{slice_get, slice_index_or, unwrap_or}
use Rattle.std.proofs.lemmas.List.{length-set, get_or-set_same, get_or-set_other}
use Rattle.std.proofs.lemmas.Option.{unwrap_or-slice_get}
use Rattle.dj_names.specs.Types.{parameters_of}
use Rattle.dj_instructions.specs.declared.instruction.Instruction as declared
use Rattle.dj_instructions.specs.Instructions.{MethodRef, Instruction, InvokeSpecial, IsRising, instruction_at, view_instruction, view_instructions}
use Rattle.dj_instructions.proofs.PlaceLemmas.{at_place}
use Rattle.dj_code.specs.MethodCode.{Typed}
use Rattle.dj_starts.specs.declared.ways.Edge.{Edge}
use Rattle.dj_starts.specs.Edges.{edges}
use Rattle.dj_starts.specs.Marks.{IsMarked}
use Rattle.dj_receivers.specs.declared.marking.Marking.{Marking}
use Rattle.dj_receivers.specs.OwnCalls.{special_of}
use Rattle.dj_receivers.specs.Receivers.{marks_at, marks_along}
use Rattle.dj_receivers.specs.Steps.{IsAt, IsLow, Misses}
use Rattle.dj_receivers.specs.Walks.{kept, IsKeptBelow, IsCallAt, IsSound, Falls, sent, SendsAll, IsOff, IsOn, Notes, stays, lost, Visits}
use Rattle.dj_receivers.proofs.Lowering.{low_goes}
use Rattle.dj_receivers.proofs.Falling.{falls_refl, falls_then, falls_here, sound_here, same_or_not}

-- none is kept past the end of a table
pub kept_past : (table : List (Option (List Bool))) (pc : ℕ) → None ≡ slice_get table pc → kept table pc ≡ None
kept_past table pc is = sym (unwrap_or-slice_get table pc None) ∙ ap (λ (o : Option (Option (List Bool))). unwrap_or o None) (sym is)

pub any_default : {A : Type 0} (xs : List A) (i : ℕ) (d e : A) → i < length xs → slice_index_or xs i d ≡ slice_index_or xs i e
any_default [] i d e within = absurd (omega arith)
any_default (x ∷ xs) zero d e within = refl
any_default (x ∷ xs) (suc i) d e within = any_default xs i d e (omega arith)

-- what a way leads to
pub sent_along : (typed : Typed) (pc : ℕ) (marks : List Bool) (edge : Edge) → sent typed (marks_at typed.code.instructions typed.frames pc marks) edge ≡ marks_along typed pc marks edge
sent_along typed pc marks edge = by_caught edge.caught refl
  where
    by_caught : (caught : Bool) → edge.caught ≡ caught → sent typed (marks_at typed.code.instructions typed.frames pc marks) edge ≡ marks_along typed pc marks edge
    by_caught true is = rw is refl
    by_caught false is = rw is refl

-- the instruction that stands at a pc
pub called_at : (l : List (ℕ × declared.Instruction)) (place : ℕ) (x : ℕ × declared.Instruction) (method : MethodRef) → IsRising (view_instructions l) → place < length l → x ≡ slice_index_or l place x
    → instruction_at (view_instructions l) x.0 ≡ Some (InvokeSpecial method) → special_of (view_instruction x.1) ≡ Some method
called_at l place x method rising within is here =
    let d : (other : ℕ × declared.Instruction) → (slice_index_or l place other).0 ≡ x.0 = λ other. ap (λ (y : ℕ × declared.Instruction). y.0) (any_default l place other x within ∙ sym is) in
    let found = at_place l x.0 place x rising (record { within = within; here = d }) in
    let same : Some (view_instruction x.1) ≡ Some (InvokeSpecial method) = ap (λ (y : ℕ × declared.Instruction). Some (view_instruction y.1)) is ∙ found ∙ here in
    special_is (view_instruction x.1) method same
  where
    special_is : (instruction : Instruction) (method : MethodRef) → Some instruction ≡ Some (InvokeSpecial method) → special_of instruction ≡ Some method
    special_is instruction method same = let is : instruction ≡ InvokeSpecial method = cc in ap special_of is

module _ (typed : Typed) (old noted : Marking) (pc : ℕ) (called : Option MethodRef) (notes : Notes called old noted pc) where
  unmarked : (calls : List Bool) (at other : ℕ) → IsMarked (set calls at false) other → IsMarked calls other
  unmarked [] at other marked = marked
  unmarked (x ∷ calls) zero zero marked = absurd cc
  unmarked (x ∷ calls) zero (suc other) marked = marked
  unmarked (x ∷ calls) (suc at) zero marked = marked
  unmarked (x ∷ calls) (suc at) (suc other) marked = unmarked calls at other marked

  noted_now : Notes called old noted pc → noted.now ≡ old.now
  noted_now (stays same on) = ap (λ (m : Marking). m.now) same
  noted_now (lost within off table waiting calls now) = now

  falls_noted : Notes called old noted pc → Falls typed old noted
  falls_noted (stays same on) = subst (λ (m : Marking). Falls typed old m) (sym same) (falls_refl typed old)
  falls_noted (lost within off table waiting calls now) =
      let here : Falls typed old (record { table = noted.table; waiting = noted.waiting; calls = old.calls; now = noted.now }) = falls_here typed old (record { table = noted.table; waiting = noted.waiting; calls = old.calls; now = noted.now }) table waiting refl in
      record {
        table = here.table;
        same = here.same;
        waits = here.waits;
        calls = λ other marked. unmarked old.calls pc other (subst (λ (list : List Bool). IsMarked list other) calls marked);
        room = here.room;
        numbers = ap (λ (list : List Bool). length list) calls ∙ length-set old.calls pc false;
        less = here.less;
      }

  sound_noted : ((method : MethodRef) → IsCallAt typed pc method → called ≡ Some method) → Notes called old noted pc → IsSound typed old → IsLow typed pc (reverse old.now) → IsSound typed noted
  sound_noted call (stays same on) sound low = subst (λ (m : Marking). IsSound typed m) (sym same) sound
  sound_noted call (lost within off table waiting calls now) sound low = record {
    table = λ other found is. sound.table other found (sym (ap (λ (t : List (Option (List Bool))). kept t other) table) ∙ is);
    calls = λ other method few at none. elim (same_or_not other pc) [
      | inl same ↦ (let gone = subst (λ (o : Option MethodRef). IsOff o (reverse old.now)) (call method (subst (λ (n : ℕ). IsCallAt typed n method) same at)) off in
          subst (λ (n : ℕ). Misses typed n (length (parameters_of method.descriptor))) (sym same) (low (length (parameters_of method.descriptor)) gone))
      | inr apart ↦ sound.calls other method (let size = ap (λ (list : List Bool). length list) calls ∙ length-set old.calls pc false in omega (arith, few, size)) at
          (λ marked. none (subst (λ (list : List Bool). IsMarked list other) (sym calls) (get_or-set_other old.calls pc other false false apart ∙ marked)))
    ];
  }

  told_noted : (method : MethodRef) → called ≡ Some method → Notes called old noted pc → pc < length noted.calls → IsMarked noted.calls pc → IsAt (reverse old.now) (length (parameters_of method.descriptor))
  told_noted method is (stays same on) within marked = subst (λ (o : Option MethodRef). IsOn o (reverse old.now)) is (on (subst (λ (m : Marking). pc < length m.calls) same within))
  told_noted method is (lost few off table waiting calls now) within marked = absurd (let gone = get_or-set_same old.calls pc false false few in let at = subst (λ (list : List Bool). IsMarked list pc) calls marked in cc)

  module _ (call : (method : MethodRef) → IsCallAt typed pc method → called ≡ Some method) (joins : List Bool) (passed new : Marking) (table : passed.table ≡ noted.table) (waiting : passed.waiting ≡ noted.waiting) (calls : passed.calls ≡ noted.calls)
      (passes : reverse passed.now ≡ marks_at typed.code.instructions typed.frames pc (reverse noted.now)) (sends : SendsAll typed joins passed new (edges typed.code pc)) where
    behind : reverse passed.now ≡ marks_at typed.code.instructions typed.frames pc (reverse old.now)
    behind = passes ∙ ap (λ (marks : List Bool). marks_at typed.code.instructions typed.frames pc (reverse marks)) (noted_now notes)

    along : (edge : Edge) → sent typed (reverse passed.now) edge ≡ marks_along typed pc (reverse old.now) edge
    along edge = ap (λ (marks : List Bool). sent typed marks edge) behind ∙ sent_along typed pc (reverse old.now) edge

    pub visits_made : Visits typed joins old new pc
    visits_made = record {
      falls = falls_then typed old noted new (falls_noted notes) (falls_then typed noted passed new (falls_here typed noted passed table waiting calls) sends.falls);
      sound = λ sound low. sends.sound (sound_here typed noted passed table calls (sound_noted call notes sound low))
          (λ edge has. subst (λ (marks : List Bool). IsLow typed edge.target marks) (sym (along edge)) (low_goes typed pc (reverse old.now) edge low has));
      serves = record {
        call = λ method at within marked. told_noted method (call method at) notes
            (let size = sends.falls.numbers in let same = ap (λ (list : List Bool). length list) calls in omega (arith, size, same, within))
            (subst (λ (list : List Bool). IsMarked list pc) calls (sends.falls.calls pc marked));
        ways = λ edge has jumped within. subst (λ (marks : List Bool). IsKeptBelow new.table edge.target marks) (along edge) (sends.arrives edge has jumped (let room = sends.falls.room in omega (arith, room, within)));
      };
      now = ap (λ (marks : List Bool). reverse marks) sends.now ∙ behind;
    }
