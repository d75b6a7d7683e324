-- The list of births.
use Rattle.std.proofs.Common.{◌≡◌, ℕ, zero, suc, ◌+◌, ◌<◌, ◌≤◌, ◌⊎◌, ◌↔◌, Bool, true, false, List, [], ◌∷◌, length, drop, get_or, map, Option, Some, None, refl, sym, ap, ◌∙◌, subst, inl, inr, arith, ne_eqb}
use Rattle.std.specs.Prelude.{slice_index_or, MatchOption}
use Rattle.std.specs.List.{Contains, AllPairs}
use Rattle.std.proofs.lemmas.Bool.{cases_Bool, cases_lt}
use Rattle.std.proofs.lemmas.Bool.Decides.{eqb_tells}
use Rattle.std.proofs.lemmas.Option.{none-some, same_Some}
use Rattle.std.proofs.lemmas.List.{drop_all, get_or-map, length-map}
use Rattle.dj_instructions.specs.declared.instruction.Instruction as declared
use Rattle.dj_instructions.specs.Instructions.{Instructions, New, instruction_at, view_instruction, view_instructions, IsRisingFrom}
use Rattle.dj_stack_map.specs.Reading.{IsNew}
use Rattle.dj_stack_map.specs.StackMap.{IsNewAt}
use Rattle.dj_code.specs.MethodCode.{Typed}
use Rattle.dj_code.specs.Targets.{IsStart}
use Rattle.dj_starts.specs.declared.birth.Birth.{Birth}
use Rattle.dj_starts.specs.declared.calls.Met.{Met}
use Rattle.dj_starts.specs.Births.{IsOnlyCall, IsWritten, IsBirth}
use Rattle.dj_starts.specs.Marks.{IsMarked, IsRoom, MarksMore, IsBothMarked}
use Rattle.dj_starts.specs.Walking.{IsTable, IsNewIn, birth_of, end_of, only_call}
use Rattle.dj_starts.proofs.Asking.{from_item}
use Rattle.dj_starts.proofs.Marking.{none_more, both_more, said_more}
use Rattle.dj_starts.proofs.PcLemmas.{none_starts}
use Rattle.dj_starts.proofs.Walks.{only_tells, only_is}

abbrev Listed : Type 0
Listed = List (ℕ × declared.Instruction)

-- ---- the pcs of `new`

module _ (all : Listed) (i : ℕ) (x : ℕ × declared.Instruction) (within : i < length all) (is : x ≡ get_or all i x) where
  pub news_step : IsNew (view_instruction x.1) → (a b after : List Bool) → MarksMore a b (λ pc. pc ≡ x.0) → MarksMore b after (IsNewIn (view_instructions (drop (i + 1) all))) → MarksMore a after (IsNewIn (view_instructions (drop i all)))
  news_step new a b after here more =
      let rest = IsNewIn (view_instructions (drop (i + 1) all)) in
      subst (λ tail. MarksMore a after (IsNewIn (view_instructions tail))) (sym (from_item all i x within is))
      (both_more a b after (λ pc. (pc ≡ x.0) × IsNew (view_instruction x.1)) rest (said_more a b (λ pc. pc ≡ x.0) (λ pc. (pc ≡ x.0) × IsNew (view_instruction x.1)) (λ pc same. (same, new)) (λ pc both. both.0) here) more)

  pub news_skip : (IsNew (view_instruction x.1) → ⊥) → (a after : List Bool) → MarksMore a after (IsNewIn (view_instructions (drop (i + 1) all))) → MarksMore a after (IsNewIn (view_instructions (drop i all)))
  news_skip not a after more =
      let rest = IsNewIn (view_instructions (drop (i + 1) all)) in
      subst (λ tail. MarksMore a after (IsNewIn (view_instructions tail))) (sym (from_item all i x within is))
      (said_more a after rest (λ pc. ((pc ≡ x.0) × IsNew (view_instruction x.1)) ⊎ rest pc) (λ pc by. inr by) (λ pc by. elim by [ inl here ↦ absurd (not here.1) | inr later ↦ later ]) more)

pub news_end : (all : Listed) (i : ℕ) (marks : List Bool) → length all ≤ i → MarksMore marks marks (IsNewIn (view_instructions (drop i all)))
news_end all i marks past = rw (drop_all i all past) (none_more marks (IsNewIn []) (λ pc within asked. asked))

-- a `new` among instructions isn't below them
new_low : (least : ℕ) (l : Instructions) (pc : ℕ) → IsRisingFrom least l → IsNewIn l pc → least ≤ pc
new_low least [] pc rising new = absurd new
new_low least (x ∷ l) pc rising (inl here) = omega (arith, rising.0, here.0)
new_low least (x ∷ l) pc rising (inr later) = omega (arith, rising.0, new_low (x.0 + 1) l pc rising.1 later)

new_at : (least : ℕ) (l : Instructions) (pc : ℕ) → IsRisingFrom least l → IsNewIn l pc → IsNewAt l pc
new_at least [] pc rising new = absurd new
new_at least (x ∷ l) pc rising (inl here) = elim (eqb_tells x.0 pc) [
  | inl same ↦ record { class = here.1.class; here = rw same.0 (ap Some here.1.is) }
  | inr differ ↦ absurd (differ.1 (sym here.0))
]
new_at least (x ∷ l) pc rising (inr later) =
    let low = new_low (x.0 + 1) l pc rising.1 later in
    let n = new_at (x.0 + 1) l pc rising.1 later in
    record { class = n.class; here = rw (ne_eqb x.0 pc (λ same. omega (arith, same, low))) n.here }

new_in : (l : Instructions) (pc : ℕ) (class : List ℕ) → instruction_at l pc ≡ Some (New class) → IsNewIn l pc
new_in [] pc class is = absurd (none-some (New class) is)
new_in (x ∷ l) pc class is = elim (eqb_tells x.0 pc) [
  | inl same ↦ inl (sym same.1, record { class = class; is = same_Some x.1 (New class) (rw same.0 at is) })
  | inr differ ↦ inr (new_in l pc class (rw differ.0 at is))
]

-- the pcs that are marked in both lists are those of `new`
pub news_are : (instructions : Instructions) (none marks : List Bool) (news : List ℕ) → IsRisingFrom 0 instructions → IsRoom instructions (length none) → ((pc : ℕ) → IsMarked none pc → ⊥) → MarksMore none marks (IsNewIn instructions) → ((pc : ℕ) → Contains news pc ↔ IsBothMarked instructions marks marks pc) → (pc : ℕ) → Contains news pc ↔ IsNewAt instructions pc
news_are instructions none marks news rising room unmarked more both pc = (
  λ h. elim (more.only pc ((both pc).0 h).one) [ inl old ↦ absurd (unmarked pc old) | inr new ↦ new_at 0 instructions pc rising new ],
  λ new.
      let at : IsStart instructions pc = rw new.here refl in
      let within : pc < length none = elim (cases_lt pc (length none)) [ inl within ↦ within | inr past ↦ absurd (none_starts instructions pc (room.within pc past) at) ] in
      let marked = more.these pc within (new_in instructions pc new.class new.here) in
      (both pc).1 record { at = at; one = marked; other = marked },
)

-- ---- births

contains_map : {A B : Type 0} (f : A → B) (xs : List A) (y : B) → Contains (map f xs) y → (x : A) × Contains xs x × (f x ≡ y)
contains_map f [] y h = absurd (omega (arith, h.1))
contains_map f (x ∷ xs) y (zero, within, is) = (x, (zero, omega arith, refl), is)
contains_map f (x ∷ xs) y (suc k, within, is) = let rest = contains_map f xs y (k, omega (arith, within), is) in (rest.0, (suc rest.1.0, omega (arith, rest.1.1), rest.1.2), rest.2)

map_contains : {A B : Type 0} (f : A → B) (xs : List A) (x : A) → Contains xs x → Contains (map f xs) (f x)
map_contains f [] x h = absurd (omega (arith, h.1))
map_contains f (z ∷ xs) x (zero, within, is) = (zero, omega arith, ap f is)
map_contains f (z ∷ xs) x (suc k, within, is) = let rest = map_contains f xs x (k, omega (arith, within), is) in (suc rest.0, omega (arith, rest.1), rest.2)

module _ (typed : Typed) (calls : List Met) (written : List Bool) (rising : IsRisingFrom 0 typed.code.instructions) (table : IsTable typed.code.instructions typed.frames calls) (exact : (start : ℕ) → IsNewAt typed.code.instructions start → IsMarked written start ↔ ((call : ℕ) × IsWritten typed start call)) where
  end_is : (start : ℕ) (o : Option ℕ) → MatchOption o ((call : ℕ) → IsOnlyCall typed start call → ⊥) (IsOnlyCall typed start) → IsOnlyCall typed start (end_of start o) ⊎ ((end_of start o ≡ start) × ((call : ℕ) → IsOnlyCall typed start call → ⊥))
  end_is start None none = inr (refl, none)
  end_is start (Some call) only = inl only

  is_end : (start end : ℕ) (o : Option ℕ) → MatchOption o ((call : ℕ) → IsOnlyCall typed start call → ⊥) (IsOnlyCall typed start) → IsOnlyCall typed start end ⊎ ((end ≡ start) × ((call : ℕ) → IsOnlyCall typed start call → ⊥)) → end ≡ end_of start o
  is_end start end None none (inl only) = absurd (none end only)
  is_end start end None none (inr without) = without.0
  is_end start end (Some call) is (inl only) = is.only end only.meets
  is_end start end (Some call) is (inr without) = absurd (without.1 call is)

  written_end : (start end : ℕ) → end ≡ end_of start (only_call calls start) → (call : ℕ) → IsWritten typed start call → IsWritten typed start end
  written_end start end is call w = subst (λ n. IsWritten typed start n) (sym (is ∙ ap (end_of start) (only_is typed calls rising table start call w.call))) w

  birth_is : (start : ℕ) → IsNewAt typed.code.instructions start → IsBirth typed (birth_of calls written start)
  birth_is start new = record {
    new = new;
    end = end_is start (only_call calls start) (only_tells typed calls rising table start);
    written = (
      λ marked. let w = (exact start new).0 marked in written_end start (end_of start (only_call calls start)) refl w.0 w.1,
      λ w. (exact start new).1 (end_of start (only_call calls start), w),
    );
  }

  same_bool : (a b : Bool) → (a ≡ true → b ≡ true) → (b ≡ true → a ≡ true) → a ≡ b
  same_bool true b there back = sym (there refl)
  same_bool false b there back = elim (cases_Bool b) [ inl holds ↦ back holds ∙ sym holds | inr fails ↦ sym fails ]

  is_birth : (birth : Birth) → IsBirth typed birth → birth ≡ birth_of calls written birth.start
  is_birth birth is =
      let end = is_end birth.start birth.end (only_call calls birth.start) (only_tells typed calls rising table birth.start) is.end in
      let mark = same_bool birth.written (slice_index_or written birth.start false)
      (λ said. (exact birth.start is.new).1 (birth.end, is.written.0 said))
      (λ marked. let w = (exact birth.start is.new).0 marked in is.written.1 (written_end birth.start birth.end end w.0 w.1)) in
      ap (λ e. record { start = birth.start; end = e; written = birth.written }) end ∙ ap (λ w. record { start = birth.start; end = end_of birth.start (only_call calls birth.start); written = w }) mark

  pub births_are : (news : List ℕ) (births : List Birth) → ((pc : ℕ) → Contains news pc ↔ IsNewAt typed.code.instructions pc) → births ≡ map (birth_of calls written) news → (birth : Birth) → Contains births birth ↔ IsBirth typed birth
  births_are news births news_is are birth = rw are (
    λ h. let from = contains_map (birth_of calls written) news birth h in subst (λ b. IsBirth typed b) from.2 (birth_is from.0 ((news_is from.0).0 from.1)),
    λ is. subst (λ b. Contains (map (birth_of calls written) news) b) (sym (is_birth birth is)) (map_contains (birth_of calls written) news birth.start ((news_is birth.start).1 is.new)),
  )

-- births of rising pcs rise
pub births_rise : (calls : List Met) (written : List Bool) (news : List ℕ) (births : List Birth) → AllPairs (λ x y. x < y) news → births ≡ map (birth_of calls written) news → AllPairs (λ x y. x.start < y.start) births
births_rise calls written news births rising are = rw are (λ i j d less within.
    let count = length-map news (birth_of calls written) in
    let one = get_or-map (birth_of calls written) news i 0 d (omega (arith, count)) in
    let other = get_or-map (birth_of calls written) news j 0 d (omega (arith, count)) in
    rw (one, other) (rising i j 0 less (omega (arith, count))))
