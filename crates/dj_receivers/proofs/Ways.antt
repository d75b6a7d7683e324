-- To where control falls: to the instruction behind alone, where none jumps.
use Rattle.std.proofs.Common.{◌≡◌, ◌⊎◌, ℕ, zero, suc, ◌+◌, ◌<◌, Bool, true, false, List, [], ◌∷◌, ◌++◌, Contains, length, drop, map, refl, sym, ap, subst, inl, inr, ◌∙◌, arith}
use Rattle.std.specs.Prelude.{if◌then◌else◌, slice_index_or, is_none}
use Rattle.std.proofs.lemmas.Bool.{cases_lt}
use Rattle.dj_instructions.specs.declared.instruction.Instruction as declared
use Rattle.dj_instructions.specs.Instructions.{Instruction, Instructions, IsRising, view_instruction, view_instructions}
use Rattle.dj_code.specs.declared.method_code.Handler.{Handler}
use Rattle.dj_code.specs.MethodCode.{Typed}
use Rattle.dj_code.specs.Targets.{IsStart, targets_of}
use Rattle.dj_starts.specs.declared.ways.Edge.{Edge}
use Rattle.dj_starts.specs.Control.{control_of, falls_through, can_throw}
use Rattle.dj_starts.specs.Edges.{edges, first_edges, from_pc, first_pc, fallen_to, plain, caught_edges, thrown_edges, covers}
use Rattle.dj_starts.specs.Marks.{IsMarked, IsRoom}
use Rattle.dj_starts.proofs.PcLemmas.{from_place, none_starts}
use Rattle.dj_receivers.specs.Steps.{IsJumpedTo, IsHandlerOf, AreJoins}
use Rattle.dj_receivers.specs.Walks.{IsFall}
use Rattle.dj_receivers.proofs.Joining.{from_item}
use Rattle.dj_receivers.proofs.Visiting.{any_default}

abbrev Listed : Type 0
Listed = List (ℕ × declared.Instruction)

-- ---- items of lists

either_part : {A : Type 0} (xs ys : List A) (x : A) → Contains (xs ++ ys) x → Contains xs x ⊎ Contains ys x
either_part [] ys x has = inr has
either_part (y ∷ xs) ys x (zero, within, is) = inl (zero, omega arith, is)
either_part (y ∷ xs) ys x (suc i, within, is) = elim (either_part xs ys x (i, omega (arith, within), is)) [
  | inl first ↦ inl (suc first.0, (let low = first.1 in omega (arith, low)), first.2)
  | inr second ↦ inr second
]

pub in_second : {A : Type 0} (xs ys : List A) (x : A) → Contains ys x → Contains (xs ++ ys) x
in_second [] ys x has = has
in_second (y ∷ xs) ys x has = let more = in_second xs ys x has in (suc more.0, (let low = more.1 in omega (arith, low)), more.2)

pub in_first : {A : Type 0} (xs ys : List A) (x : A) → Contains xs x → Contains (xs ++ ys) x
in_first [] ys x has = absurd (let low = has.1 in omega (arith, low))
in_first (y ∷ xs) ys x (zero, within, is) = (zero, omega arith, is)
in_first (y ∷ xs) ys x (suc i, within, is) = let more = in_first xs ys x (i, omega (arith, within), is) in (suc more.0, (let low = more.1 in omega (arith, low)), more.2)

plain_item : (targets : List ℕ) (edge : Edge) → Contains (map plain targets) edge → (target : ℕ) × Contains targets target × (edge ≡ plain target)
plain_item [] edge has = absurd (let low = has.1 in omega (arith, low))
plain_item (target ∷ rest) edge (zero, within, is) = (target, (zero, omega arith, refl), sym is)
plain_item (target ∷ rest) edge (suc i, within, is) = let more = plain_item rest edge (i, omega (arith, within), is) in (more.0, (suc more.1.0, (let low = more.1.1 in omega (arith, low)), more.1.2), more.2)

-- ---- jumps and handlers

caught_item : (handlers : List Handler) (pc : ℕ) (edge : Edge) → Contains (caught_edges handlers pc) edge → IsHandlerOf handlers edge.target
caught_item [] pc edge has = absurd (let low = has.1 in omega (arith, low))
caught_item (handler ∷ rest) pc edge has = by_test (covers handler pc) (is_none handler.class) has (caught_item rest pc edge)
  where
    by_head : (class : Bool) (list : List Edge) → Contains (record { target = handler.target; caught = true } ∷ list) edge → (Contains list edge → IsHandlerOf rest edge.target) → IsHandlerOf (handler ∷ rest) edge.target
    by_head class list (zero, within, is) more = inl (ap (λ (e : Edge). e.target) (sym is))
    by_head class list (suc i, within, is) more = inr (more (i, omega (arith, within), is))

    by_class : (class : Bool) → Contains (record { target = handler.target; caught = true } ∷ (if class then [] else caught_edges rest pc)) edge → (Contains (caught_edges rest pc) edge → IsHandlerOf rest edge.target) → IsHandlerOf (handler ∷ rest) edge.target
    by_class true has more = by_head true [] has (λ none. absurd (let low = none.1 in omega (arith, low)))
    by_class false has more = by_head false (caught_edges rest pc) has more

    by_test : (test class : Bool) → Contains (if test then record { target = handler.target; caught = true } ∷ (if class then [] else caught_edges rest pc) else caught_edges rest pc) edge → (Contains (caught_edges rest pc) edge → IsHandlerOf rest edge.target)
        → IsHandlerOf (handler ∷ rest) edge.target
    by_test true class has more = by_class class has more
    by_test false class has more = inr (more has)

thrown_item : (handlers : List Handler) (pc : ℕ) (instruction : Instruction) (edge : Edge) → Contains (thrown_edges handlers pc instruction) edge → IsHandlerOf handlers edge.target
thrown_item handlers pc instruction edge has = by_test (can_throw instruction) has
  where
    by_test : (test : Bool) → Contains (if test then caught_edges handlers pc else []) edge → IsHandlerOf handlers edge.target
    by_test true has = caught_item handlers pc edge has
    by_test false has = absurd (let low = has.1 in omega (arith, low))

jumped_item : (l : Listed) (place : ℕ) (x : ℕ × declared.Instruction) (target : ℕ) → place < length l → x ≡ slice_index_or l place x → Contains (targets_of (view_instruction x.1)) target → IsJumpedTo (view_instructions l) target
jumped_item [] place x target within is has = absurd (omega arith)
jumped_item (y ∷ l) zero x target within is has = inl (subst (λ (z : ℕ × declared.Instruction). Contains (targets_of (view_instruction z.1)) target) is has)
jumped_item (y ∷ l) (suc place) x target within is has = inr (jumped_item l place x target (omega arith) is has)

-- instructions begin where there is room
pub start_within : (instructions : Instructions) (room pc : ℕ) → IsRoom instructions room → IsStart instructions pc → pc < room
start_within instructions room pc is start = elim (cases_lt pc room) [ inl below ↦ below | inr past ↦ absurd (none_starts instructions pc (is.within pc past) start) ]

-- ---- falls

-- the first of some instructions
first_item : (rest : Listed) (target : ℕ) → Contains (first_pc (view_instructions rest)) target → (0 < length rest) × ((y : ℕ × declared.Instruction) → y ≡ slice_index_or rest 0 y → target ≡ y.0)
first_item [] target has = absurd (let low = has.1 in omega (arith, low))
first_item (y ∷ rest) target (zero, within, is) = (omega arith, λ z same. sym is ∙ ap (λ (p : ℕ × declared.Instruction). p.0) (sym same))
first_item (y ∷ rest) target (suc i, within, is) = absurd (omega (arith, within))

fallen_item : (instruction : Instruction) (rest : Listed) (target : ℕ) → Contains (fallen_to instruction (view_instructions rest)) target → (falls_through (control_of instruction) ≡ true) × Contains (first_pc (view_instructions rest)) target
fallen_item instruction rest target has = by_test (falls_through (control_of instruction)) refl has
  where
    by_test : (test : Bool) → falls_through (control_of instruction) ≡ test → Contains (if test then first_pc (view_instructions rest) else []) target → (falls_through (control_of instruction) ≡ true) × Contains (first_pc (view_instructions rest)) target
    by_test true is has = (is, has)
    by_test false is has = absurd (let low = has.1 in omega (arith, low))

drop_some : (l : Listed) (n : ℕ) → 0 < length (drop n l) → n < length l
drop_some [] zero some = absurd (omega (arith, some))
drop_some [] (suc n) some = absurd (omega (arith, some))
drop_some (x ∷ l) zero some = omega arith
drop_some (x ∷ l) (suc n) some = let more = drop_some l n some in omega (arith, more)

drop_first : (l : Listed) (n : ℕ) (d : ℕ × declared.Instruction) → slice_index_or (drop n l) 0 d ≡ slice_index_or l n d
drop_first [] zero d = refl
drop_first [] (suc n) d = refl
drop_first (x ∷ l) zero d = refl
drop_first (x ∷ l) (suc n) d = drop_first l n d

first_there : (l : Listed) (n : ℕ) (y : ℕ × declared.Instruction) → n < length l → y ≡ slice_index_or l n y → Contains (map plain (first_pc (view_instructions (drop n l)))) (plain y.0)
first_there [] n y within at = absurd (omega arith)
first_there (x ∷ l) zero y within at = (zero, omega arith, ap (λ (p : ℕ × declared.Instruction). plain p.0) (sym at))
first_there (x ∷ l) (suc n) y within at = first_there l n y (omega arith) at

fallen_is : (instruction : Instruction) (rest : Instructions) → falls_through (control_of instruction) ≡ true → fallen_to instruction rest ≡ first_pc rest
fallen_is instruction rest falls = rw falls refl

module _ (typed : Typed) (l : Listed) (is_code : typed.code.instructions ≡ view_instructions l) (rising : IsRising (view_instructions l)) (joins : List Bool) (are : AreJoins typed.code joins) (place : ℕ) (within : place < length l) (x : ℕ × declared.Instruction)
    (is : x ≡ slice_index_or l place x) where
  -- the ways from it
  ways_are : edges typed.code x.0 ≡ first_edges typed.code.handlers ((x.0, view_instruction x.1) ∷ view_instructions (drop (place + 1) l))
  ways_are =
      ap (λ (list : Instructions). first_edges typed.code.handlers (from_pc x.0 list)) is_code
      ∙ ap (λ (list : Instructions). first_edges typed.code.handlers list)
      (sym (from_place l x.0 place x rising (record { within = within; here = λ d. ap (λ (y : ℕ × declared.Instruction). y.0) (any_default l place d x within ∙ sym is) }))
      ∙ ap view_instructions (from_item l place x within is))

  -- one to where control falls leads to the instruction behind
  pub falls_only : (edge : Edge) → IsFall typed joins x.0 edge → (falls_through (control_of (view_instruction x.1)) ≡ true) × (place + 1 < length l) × (edge.caught ≡ false) × ((y : ℕ × declared.Instruction) → y ≡ slice_index_or l (place + 1) y → edge.target ≡ y.0)
  falls_only edge fall = elim (either_part (map plain (fallen_to (view_instruction x.1) (view_instructions (drop (place + 1) l))) ++ map plain (targets_of (view_instruction x.1))) (thrown_edges typed.code.handlers x.0 (view_instruction x.1)) edge
      (subst (λ (list : List Edge). Contains list edge) ways_are fall.way)) [
        | inl some ↦ elim (either_part (map plain (fallen_to (view_instruction x.1) (view_instructions (drop (place + 1) l)))) (map plain (targets_of (view_instruction x.1))) edge some) [
          | inl first ↦ fallen (plain_item (fallen_to (view_instruction x.1) (view_instructions (drop (place + 1) l))) edge first)
          | inr jump ↦ absurd (fall.plain (jumped (plain_item (targets_of (view_instruction x.1)) edge jump)))
        ]
        | inr throws ↦ absurd (fall.plain (are.handlers edge.target room (thrown_item typed.code.handlers x.0 (view_instruction x.1) edge throws)))
      ]
    where
      room : edge.target < length joins
      room = start_within typed.code.instructions (length joins) edge.target are.room fall.start

      jumped : (target : ℕ) × Contains (targets_of (view_instruction x.1)) target × (edge ≡ plain target) → IsMarked joins edge.target
      jumped one = are.jumps edge.target room (subst (λ (list : Instructions). IsJumpedTo list edge.target) (sym is_code) (subst (λ (n : ℕ). IsJumpedTo (view_instructions l) n) (ap (λ (e : Edge). e.target) (sym one.2)) (jumped_item l place x one.0 within is one.1)))

      fallen : (target : ℕ) × Contains (fallen_to (view_instruction x.1) (view_instructions (drop (place + 1) l))) target × (edge ≡ plain target)
          → (falls_through (control_of (view_instruction x.1)) ≡ true) × (place + 1 < length l) × (edge.caught ≡ false) × ((y : ℕ × declared.Instruction) → y ≡ slice_index_or l (place + 1) y → edge.target ≡ y.0)
      fallen one =
          let item = fallen_item (view_instruction x.1) (drop (place + 1) l) one.0 one.1 in
          let first = first_item (drop (place + 1) l) one.0 item.1 in
          (item.0, drop_some l (place + 1) first.0, ap (λ (e : Edge). e.caught) one.2, λ y at. ap (λ (e : Edge). e.target) one.2 ∙ first.1 y (at ∙ sym (drop_first l (place + 1) y)))

  -- and there is one, where control falls there
  pub falls_there : (y : ℕ × declared.Instruction) → place + 1 < length l → y ≡ slice_index_or l (place + 1) y → falls_through (control_of (view_instruction x.1)) ≡ true → Contains (edges typed.code x.0) (plain y.0)
  falls_there y below at falls =
      subst (λ (list : List Edge). Contains list (plain y.0)) (sym ways_are)
      (in_first (map plain (fallen_to (view_instruction x.1) (view_instructions (drop (place + 1) l))) ++ map plain (targets_of (view_instruction x.1))) (thrown_edges typed.code.handlers x.0 (view_instruction x.1)) (plain y.0)
      (in_first (map plain (fallen_to (view_instruction x.1) (view_instructions (drop (place + 1) l)))) (map plain (targets_of (view_instruction x.1))) (plain y.0)
      (subst (λ (list : List ℕ). Contains (map plain list) (plain y.0)) (sym (fallen_is (view_instruction x.1) (view_instructions (drop (place + 1) l)) falls)) (first_there l (place + 1) y below at))))
