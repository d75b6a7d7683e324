-- The StackMapTables of a method have one list of frames, or one fault, and never both.
use Rattle.std.proofs.Common.{◌≡◌, ℕ, List, [], ◌∷◌, length, Option, Some, None, Result, Ok, Err, refl, sym, ap, subst, ◌∙◌, inl, inr, arith}
use Rattle.std.specs.List.{AllZip}
use Rattle.dj_layout.specs.declared.fault.Fault.{Fault}
use Rattle.dj_layout.specs.declared.fault.Stop.{Stop}
use Rattle.dj_layout.specs.declared.fault.Stop.TheVariants as stop
use Rattle.dj_layout.specs.Layout.{Layout}
use Rattle.dj_layout.specs.Exact.{IsExact}
use Rattle.dj_layout.specs.Whole.{IsWhole, Gives}
use Rattle.dj_layout.proofs.Laws.{unique, whole_unique, whole_spells, halts_is_no_spelling}
use Rattle.dj_layout.proofs.PartsAreExact.{exact-number, exact-exactly, exact-headed, exact-times, exact-tested, exact-choice}
use Rattle.dj_layout.proofs.PassesAreExact.{exact-asked, exact-sequence}
use Rattle.dj_instructions.proofs.ListingIsOne.{one_type}
use Rattle.dj_pool.specs.declared.entry.Entry.{Entry}
use Rattle.dj_instructions.specs.declared.kinds.BadKind.{BadKind}
use Rattle.dj_instructions.specs.declared.kinds.BadKind.TheVariants as kind
use Rattle.dj_instructions.specs.Instructions.{Instructions}
use Rattle.dj_stack_map.specs.declared.form.Count.{Count}
use Rattle.dj_stack_map.specs.declared.form.Count.TheVariants as count
use Rattle.dj_stack_map.proofs.FrameReading.{spelled_alike}
use Rattle.dj_frames.specs.declared.frame.Frame as code_frame
use Rattle.dj_frames.specs.Frames.{Tag, Object, Frame, view_frames}
use Rattle.dj_stack_map.specs.StackMap.{RawTag, RawFrame, Item, u2, raw_tag, many, delta, form_of, tag, frame_with, IsTagOf, plain, object, unborn, plain_tag, IsItemOf, last_offset, told_at, frame_behind, spell_frame, table, frames_from, HasFrames, BreaksAt, AreFrames, BreaksFrames, broken, second, ReadsFrames}

exact-u2 : IsExact u2
exact-u2 = exact-number 2 kind.Frame

exact-raw : IsExact raw_tag
exact-raw =
    exact-headed (λ t. t.tag) _ _ (exact-tested _ _ _ (exact-number 1 kind.Frame)) (λ of. exact-headed (λ t. t.number) _ _ (exact-choice _ _ _ exact-u2 (exact-exactly 0)) (λ behind. exact-exactly (record { tag = of; number = behind })))

exact-many : {A : Type 0} (n : Count) (item : Layout BadKind A) → IsExact item → IsExact (many n item)
exact-many (count.Given n) item exact = exact-times n item exact
exact-many count.Counted item exact = exact-headed _ _ _ exact-u2 (λ n. exact-times n item exact)

exact-delta : (given : Option ℕ) → IsExact (delta given)
exact-delta (Some given) = exact-exactly given
exact-delta None = exact-u2

exact-frame : (item : Layout BadKind RawTag) → IsExact item → IsExact (frame_with item)
exact-frame item exact =
    exact-headed (λ f. f.kind) _ _ (exact-tested _ _ _ (exact-number 1 kind.Frame)) (λ of. exact-headed (λ f. f.delta) _ _ (exact-delta (form_of of).delta) (λ by.
    exact-headed (λ f. f.locals) _ _ (exact-many (form_of of).locals item exact) (λ locals. exact-headed (λ f. f.stack) _ _ (exact-many (form_of of).stack item exact) (λ stack.
    exact-exactly (record { kind = of; delta = by; locals = locals; stack = stack })))))

exact-told : {A : Type 0} (part : Layout BadKind A) (offset : ℕ) → IsExact part → IsExact (told_at part offset)
exact-told part offset exact = record {
  unique = exact.unique;
  apart = λ end x rest fault fits (inner, halts, is). exact.apart end x rest inner fits halts;
  one_fault = λ end bytes f g (a, p, f_is) (b, q, g_is). f_is ∙ sym g_is;
}

abbrev item_with : ℕ → ℕ → List Tag → List Tag → Item
item_with of by locals stack = record { kind = of; delta = by; locals = locals; stack = stack }

abbrev fault_with : BadKind → ℕ → Fault BadKind
fault_with of at = record { kind = of; offset = at }

item_alike : (k l d e : ℕ) (a b s t : List Tag) → k ≡ l → d ≡ e → a ≡ b → s ≡ t → item_with k d a s ≡ item_with l e b t
item_alike k l d e a b s t p q r u = rw (p, q, r, u) refl

fault_alike : (k l : BadKind) (a b : ℕ) → k ≡ l → a ≡ b → fault_with k a ≡ fault_with l b
fault_alike k l a b p q = rw (p, q) refl

module _ (pool : List Entry) (instructions : Instructions) where
  exact-tag : IsExact (tag pool instructions)
  exact-tag = exact-asked _ _ _ exact-raw

  exact-behind : (entry : ℕ) (before : List RawFrame) → IsExact (frame_behind pool instructions entry before)
  exact-behind entry before = exact-told _ (last_offset before) (exact-asked _ _ _ (exact-frame (tag pool instructions) exact-tag))

  pub exact-table : (entry : ℕ) → IsExact (table pool instructions entry)
  exact-table entry = exact-headed length _ _ (exact-told u2 0 exact-u2) (λ n. exact-sequence spell_frame _ (frame_behind pool instructions entry) (exact-behind entry) (λ before x. spelled_alike pool instructions x))

  -- ---- one meaning

  none_at_seven : (raw : RawTag) (t : Tag) → plain_tag raw.tag ≡ Some t → raw.tag ≡ 7 → ⊥
  none_at_seven raw t is at = let e : plain_tag 7 ≡ Some t = subst (λ (n : ℕ). plain_tag n ≡ Some t) at is in absurd cc

  none_at_eight : (raw : RawTag) (t : Tag) → plain_tag raw.tag ≡ Some t → raw.tag ≡ 8 → ⊥
  none_at_eight raw t is at = let e : plain_tag 8 ≡ Some t = subst (λ (n : ℕ). plain_tag n ≡ Some t) at is in absurd cc

  one_tag : (raw : RawTag) (a b : Tag) → IsTagOf pool instructions raw a → IsTagOf pool instructions raw b → a ≡ b
  one_tag raw a b (plain p) (plain q) = cc
  one_tag raw a b (plain p) (object type at named is) = absurd (none_at_seven raw a p at)
  one_tag raw a b (plain p) (unborn at new is) = absurd (none_at_eight raw a p at)
  one_tag raw a b (object type at named is) (plain q) = absurd (none_at_seven raw b q at)
  one_tag raw a b (object type at named is) (object other there its so) = is ∙ ap Object (one_type pool raw.number type other named its) ∙ sym so
  one_tag raw a b (object type at named is) (unborn there new so) = absurd (omega (arith, at, there))
  one_tag raw a b (unborn at new is) (plain q) = absurd (none_at_eight raw b q at)
  one_tag raw a b (unborn at new is) (object type there named so) = absurd (omega (arith, at, there))
  one_tag raw a b (unborn at new is) (unborn there its so) = is ∙ sym so

  one_list : {A B : Type 0} (R : A → B → Type 0) → ((x : A) (a b : B) → R x a → R x b → a ≡ b) → (xs : List A) (ys zs : List B) → AllZip R xs ys → AllZip R xs zs → ys ≡ zs
  one_list R one [] [] [] p q = refl
  one_list R one [] [] (y ∷ b) p q = absurd q
  one_list R one [] (x ∷ a) b p q = absurd p
  one_list R one (m ∷ xs) [] b p q = absurd p
  one_list R one (m ∷ xs) (x ∷ a) [] p q = absurd q
  one_list R one (m ∷ xs) (x ∷ a) (y ∷ b) p q = let head = one m x y p.0 q.0 in let tail = one_list R one xs a b p.1 q.1 in rw (head, tail) refl

  one_item : (raw : RawFrame) (a b : Item) → IsItemOf pool instructions raw a → IsItemOf pool instructions raw b → a ≡ b
  one_item raw a b p q =
      item_alike a.kind b.kind a.delta b.delta a.locals b.locals a.stack b.stack (p.kind ∙ sym q.kind) (p.delta ∙ sym q.delta)
      (one_list (IsTagOf pool instructions) one_tag raw.locals a.locals b.locals p.locals q.locals) (one_list (IsTagOf pool instructions) one_tag raw.stack a.stack b.stack p.stack q.stack)

  one_table : (values : List Tag) (content : List ℕ) (a b : List (ℕ × Frame)) → HasFrames pool instructions values content a → HasFrames pool instructions values content b → a ≡ b
  one_table values content a b p q =
      let raws = whole_unique (table pool instructions (length values)) (exact-table (length values)) content q.raws p.raws q.laid_out p.laid_out in
      let items = one_list (IsItemOf pool instructions) one_item p.raws p.items q.items p.meant (subst (λ (t : List RawFrame). AllZip (IsItemOf pool instructions) t q.items) raws q.meant) in
      p.frames_are ∙ ap (frames_from 0 values) items ∙ sym q.frames_are

  -- ---- no frames where there is a fault, and one fault

  whole_breaks : (entry : ℕ) (content : List ℕ) (raws : List RawFrame) (pc : ℕ) → IsWhole (table pool instructions entry) content raws → BreaksAt pool instructions entry content pc → ⊥
  whole_breaks entry content raws pc whole (inl halts) =
      halts_is_no_spelling (table pool instructions entry) (exact-table entry) (length content) content raws [] _ (whole_spells (table pool instructions entry) content raws whole) halts
  whole_breaks entry content raws pc whole (inr (others, rest, spells, some, at)) =
      some (sym (unique (table pool instructions entry) (exact-table entry) content raws others [] rest (whole_spells (table pool instructions entry) content raws whole) spells).1)

  one_break : (entry : ℕ) (content : List ℕ) (a b : ℕ) → BreaksAt pool instructions entry content a → BreaksAt pool instructions entry content b → a ≡ b
  one_break entry content a b (inl p) (inl q) = ap (λ (f : Fault BadKind). f.offset) ((exact-table entry).one_fault (length content) content _ _ p q)
  one_break entry content a b (inl p) (inr (raws, rest, spells, some, at)) = absurd (halts_is_no_spelling (table pool instructions entry) (exact-table entry) (length content) content raws rest _ spells p)
  one_break entry content a b (inr (raws, rest, spells, some, at)) (inl q) = absurd (halts_is_no_spelling (table pool instructions entry) (exact-table entry) (length content) content raws rest _ spells q)
  one_break entry content a b (inr (raws, rest, p, some, a_at)) (inr (others, behind, q, more, b_at)) =
      a_at ∙ ap last_offset (unique (table pool instructions entry) (exact-table entry) content raws others rest behind p q).0 ∙ sym b_at

  pub one_frames : (values : List Tag) (contents : List (List ℕ)) (a b : List (ℕ × Frame)) → AreFrames pool instructions values contents a → AreFrames pool instructions values contents b → a ≡ b
  one_frames values [] a b p q = p ∙ sym q
  one_frames values (content ∷ []) a b p q = one_table values content a b p q
  one_frames values (content ∷ other ∷ others) a b p q = absurd p

  pub frames_dont_break : (values : List Tag) (contents : List (List ℕ)) (frames : List (ℕ × Frame)) (pc : ℕ) → AreFrames pool instructions values contents frames → BreaksFrames pool instructions values contents pc → ⊥
  frames_dont_break values [] frames pc are breaks = elim breaks [ ]
  frames_dont_break values (content ∷ []) frames pc are (broken at) = whole_breaks (length values) content are.raws pc are.laid_out at
  frames_dont_break values (content ∷ other ∷ others) frames pc are breaks = absurd are

  pub one_fault : (values : List Tag) (contents : List (List ℕ)) (a b : ℕ) → BreaksFrames pool instructions values contents a → BreaksFrames pool instructions values contents b → a ≡ b
  one_fault values [] a b p q = elim p [ ]
  one_fault values (content ∷ []) a b (broken p) (broken q) = one_break (length values) content a b p q
  one_fault values (content ∷ other ∷ others) a b (broken p) (broken q) = one_break (length values) content a b p q
  one_fault values (content ∷ other ∷ others) a b (broken p) (second raws whole at) = absurd (whole_breaks (length values) content raws a whole p)
  one_fault values (content ∷ other ∷ others) a b (second raws whole at) (broken q) = absurd (whole_breaks (length values) content raws b whole q)
  one_fault values (content ∷ other ∷ others) a b (second raws p a_at) (second more q b_at) =
      a_at ∙ ap last_offset (whole_unique (table pool instructions (length values)) (exact-table (length values)) content raws more p q) ∙ sym b_at

  -- ---- what is answered

  pub gives_frames : (values : List Tag) (contents : List (List ℕ)) (result : Result (List (ℕ × code_frame.Frame)) (Stop BadKind)) → ReadsFrames pool instructions values contents result
      → (frames : List (ℕ × Frame)) → AreFrames pool instructions values contents frames → Gives view_frames result (Ok frames)
  gives_frames values contents (Ok found) reads frames are = ap Ok (one_frames values contents frames (view_frames found) are reads)
  gives_frames values contents (Err stop.Memory) reads frames are = tt
  gives_frames values contents (Err (stop.Fault fault)) reads frames are = absurd (frames_dont_break values contents frames fault.offset are reads.1)

  pub gives_fault : (values : List Tag) (contents : List (List ℕ)) (result : Result (List (ℕ × code_frame.Frame)) (Stop BadKind)) → ReadsFrames pool instructions values contents result
      → (pc : ℕ) → BreaksFrames pool instructions values contents pc → Gives view_frames result (Err (record { kind = kind.Frame; offset = pc }))
  gives_fault values contents (Ok found) reads pc breaks = absurd (frames_dont_break values contents (view_frames found) pc reads breaks)
  gives_fault values contents (Err stop.Memory) reads pc breaks = tt
  gives_fault values contents (Err (stop.Fault fault)) reads pc breaks = ap Err (fault_alike kind.Frame fault.kind pc fault.offset (sym reads.0) (one_fault values contents pc fault.offset breaks reads.1))
