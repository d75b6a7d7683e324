-- Locals and entries by their places.
use Rattle.std.proofs.Common.{◌≡◌, ◌↔◌, ◌⊎◌, inl, inr, ℕ, zero, suc, ◌+◌, ◌<◌, List, [], ◌∷◌, ◌++◌, length, get_or, slice_get, None, refl, sym, subst, arith}
use Rattle.std.proofs.lemmas.Bool.{cases_order}
use Rattle.dj_frames.specs.declared.tag.Tag as declared
use Rattle.dj_frames.specs.declared.tag.Tag.TheVariants as code
use Rattle.dj_frames.specs.Frames.{Tag, Top, Int, Float, Double, Long, Null, UnbornThis, Object, Unborn, view_tag, view_tags}
use Rattle.dj_tags.specs.Goes.{Assignability, LocalGoes, EntryGoes, LocalsGo, EntriesGo, reversed}

-- ---- slots

-- nothing is known of a local that isn't there
pub none_local : (list : List declared.Tag) (slot : ℕ) → slice_get list slot ≡ None → get_or (view_tags list) slot Top ≡ Top
none_local [] slot none = refl
none_local (tag ∷ list) zero none = absurd (cc)
none_local (tag ∷ list) (suc slot) none = none_local list slot none

top_is : (tag : declared.Tag) → view_tag tag ≡ Top → tag ≡ code.Top
top_is code.Top is = refl
top_is code.Int is = absurd (cc)
top_is code.Float is = absurd (cc)
top_is code.Double is = absurd (cc)
top_is code.Long is = absurd (cc)
top_is code.Null is = absurd (cc)
top_is code.UnbornThis is = absurd (cc)
top_is (code.Object type) is = absurd (cc)
top_is (code.Unborn pc) is = absurd (cc)

module _ (Goes : Assignability) where
  -- a Top goes into a Top alone
  top_goes : (to : Tag) → LocalGoes Goes Top to → to ≡ Top
  top_goes Top goes = refl
  top_goes Int goes = absurd (cc)
  top_goes Float goes = absurd (cc)
  top_goes Double goes = absurd (cc)
  top_goes Long goes = absurd (cc)
  top_goes Null goes = absurd (cc)
  top_goes UnbornThis goes = absurd (cc)
  top_goes (Object type) goes = absurd goes
  top_goes (Unborn pc) goes = absurd (cc)

  pub none_goes : (list : List declared.Tag) (slot : ℕ) (to : declared.Tag) → slice_get list slot ≡ None → (to ≡ code.Top → ⊥) → LocalGoes Goes (get_or (view_tags list) slot Top) (view_tag to) → ⊥
  none_goes list slot to none other goes =
      other (top_is to (top_goes (view_tag to) (subst (λ tag. LocalGoes Goes tag (view_tag to)) (none_local list slot none) goes)))

  -- ---- one by one

  pub record EachLocal (froms tos : List Tag) (count : ℕ) : Type 0 where
    pub each : (k : ℕ) → k < count → LocalGoes Goes (get_or froms k Top) (get_or tos k Top)

  pub locals_each : (froms tos : List Tag) → LocalsGo Goes froms tos → EachLocal froms tos (length tos)
  locals_each froms [] go = record { each = λ k within. absurd (omega arith) }
  locals_each [] (to ∷ tos) go = let later = locals_each [] tos go.1 in record { each = at later }
    where
      at : EachLocal [] tos (length tos) → (k : ℕ) → k < suc (length tos) → LocalGoes Goes (get_or [] k Top) (get_or (to ∷ tos) k Top)
      at later zero within = go.0
      at later (suc k) within = later.each k (omega arith)
  locals_each (from ∷ froms) (to ∷ tos) go = let later = locals_each froms tos go.1 in record { each = at later }
    where
      at : EachLocal froms tos (length tos) → (k : ℕ) → k < suc (length tos) → LocalGoes Goes (get_or (from ∷ froms) k Top) (get_or (to ∷ tos) k Top)
      at later zero within = go.0
      at later (suc k) within = later.each k (omega arith)

  pub locals_go : (froms tos : List Tag) → EachLocal froms tos (length tos) → LocalsGo Goes froms tos
  locals_go froms [] each = tt
  locals_go [] (to ∷ tos) each = (each.each 0 (omega arith), locals_go [] tos (record { each = λ k within. each.each (suc k) (omega arith) }))
  locals_go (from ∷ froms) (to ∷ tos) each = (each.each 0 (omega arith), locals_go froms tos (record { each = λ k within. each.each (suc k) (omega arith) }))

  pub record EachEntry (froms tos : List Tag) (count : ℕ) : Type 0 where
    pub each : (k : ℕ) → k < count → EntryGoes Goes (get_or froms k Top) (get_or tos k Top)

  entries_snoc : (froms tos : List Tag) (from to : Tag) → length froms ≡ length tos → EntriesGo Goes (froms ++ from ∷ []) (tos ++ to ∷ []) ↔ (EntriesGo Goes froms tos × EntryGoes Goes from to)
  entries_snoc [] [] from to same = (λ go. (tt, go.0), λ go. (go.1, tt))
  entries_snoc [] (t ∷ tos) from to same = absurd (omega (arith, same))
  entries_snoc (f ∷ froms) [] from to same = absurd (omega (arith, same))
  entries_snoc (f ∷ froms) (t ∷ tos) from to same =
      let later = entries_snoc froms tos from to (omega (arith, same)) in
      (λ go. let l = later.0 go.1 in ((go.0, l.0), l.1), λ go. (go.0.0, later.1 (go.0.1, go.1)))

pub length_snoc : {A : Type 0} (list : List A) (last : A) → length (list ++ last ∷ []) ≡ length list + 1
length_snoc [] last = refl
length_snoc (first ∷ list) last = let e = length_snoc list last in omega (arith, e)

pub length_reversed : {A : Type 0} (list : List A) → length (reversed list) ≡ length list
length_reversed [] = refl
length_reversed (first ∷ list) = let e = length_reversed list in let s = length_snoc (reversed list) first in omega (arith, e, s)

module _ (Goes : Assignability) where
  entries_many : (froms tos : List Tag) → EntriesGo Goes froms tos → length froms ≡ length tos
  entries_many [] [] go = refl
  entries_many [] (to ∷ tos) go = absurd go
  entries_many (from ∷ froms) [] go = absurd go
  entries_many (from ∷ froms) (to ∷ tos) go = let e = entries_many froms tos go.1 in omega (arith, e)

  pub reversed_many : (froms tos : List Tag) → EntriesGo Goes (reversed froms) (reversed tos) → length froms ≡ length tos
  reversed_many froms tos go = let e = entries_many (reversed froms) (reversed tos) go in let f = length_reversed froms in let t = length_reversed tos in omega (arith, e, f, t)

  pub entries_each : (froms tos : List Tag) → length froms ≡ length tos → EntriesGo Goes (reversed froms) (reversed tos) → EachEntry Goes froms tos (length tos)
  entries_each [] [] same go = record { each = λ k within. absurd (omega arith) }
  entries_each [] (to ∷ tos) same go = absurd (omega (arith, same))
  entries_each (from ∷ froms) [] same go = absurd (omega (arith, same))
  entries_each (from ∷ froms) (to ∷ tos) same go =
      let many : length (reversed froms) ≡ length (reversed tos) = omega (arith, same, length_reversed froms, length_reversed tos) in
      let both = (entries_snoc Goes (reversed froms) (reversed tos) from to many).0 go in
      let later = entries_each froms tos (omega (arith, same)) both.0 in
      record { each = at both.1 later }
    where
      at : EntryGoes Goes from to → EachEntry Goes froms tos (length tos) → (k : ℕ) → k < suc (length tos) → EntryGoes Goes (get_or (from ∷ froms) k Top) (get_or (to ∷ tos) k Top)
      at here later zero within = here
      at here later (suc k) within = later.each k (omega arith)

  pub entries_go : (froms tos : List Tag) → length froms ≡ length tos → EachEntry Goes froms tos (length tos) → EntriesGo Goes (reversed froms) (reversed tos)
  entries_go [] [] same each = tt
  entries_go [] (to ∷ tos) same each = absurd (omega (arith, same))
  entries_go (from ∷ froms) [] same each = absurd (omega (arith, same))
  entries_go (from ∷ froms) (to ∷ tos) same each =
      let many : length (reversed froms) ≡ length (reversed tos) = omega (arith, same, length_reversed froms, length_reversed tos) in
      (entries_snoc Goes (reversed froms) (reversed tos) from to many).1
      (entries_go froms tos (omega (arith, same)) (record { each = λ k within. each.each (suc k) (omega arith) }), each.each 0 (omega arith))

  -- one place more
  pub local_more : (froms tos : List Tag) (count : ℕ) → EachLocal Goes froms tos count → LocalGoes Goes (get_or froms count Top) (get_or tos count Top) → EachLocal Goes froms tos (count + 1)
  local_more froms tos count before here = record { each = λ k within. at k within (cases_order k count) }
    where
      at : (k : ℕ) → k < count + 1 → (k ≡ count) ⊎ ((k < count) ⊎ (count < k)) → LocalGoes Goes (get_or froms k Top) (get_or tos k Top)
      at k within (inl same) = subst (λ n. LocalGoes Goes (get_or froms n Top) (get_or tos n Top)) (sym same) here
      at k within (inr (inl below)) = before.each k below
      at k within (inr (inr above)) = absurd (omega arith)

  pub entry_more : (froms tos : List Tag) (count : ℕ) → EachEntry Goes froms tos count → EntryGoes Goes (get_or froms count Top) (get_or tos count Top) → EachEntry Goes froms tos (count + 1)
  entry_more froms tos count before here = record { each = λ k within. at k within (cases_order k count) }
    where
      at : (k : ℕ) → k < count + 1 → (k ≡ count) ⊎ ((k < count) ⊎ (count < k)) → EntryGoes Goes (get_or froms k Top) (get_or tos k Top)
      at k within (inl same) = subst (λ n. EntryGoes Goes (get_or froms n Top) (get_or tos n Top)) (sym same) here
      at k within (inr (inl below)) = before.each k below
      at k within (inr (inr above)) = absurd (omega arith)
