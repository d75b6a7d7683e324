-- What is wanted of a stack, entry by entry.
use Rattle.std.proofs.Common.{◌≡◌, ◌↔◌, ◌⊎◌, ℕ, zero, suc, ◌+◌, ◌-◌, ◌<◌, List, [], ◌∷◌, ◌++◌, length, map, drop, get_or, slice_get, Some, refl, sym, ap, subst, ◌∙◌, arith, inl, inr}
use Rattle.std.specs.Prelude.{IsSomeAnd, replicate}
use Rattle.std.proofs.lemmas.Bool.{cases_order}
use Rattle.std.proofs.lemmas.List.{length-map, drop-map}
use Rattle.std.proofs.lemmas.Option.{slice_get-map, slice_get-get_or}
use Rattle.std.specs.Option.{option_map}
use Rattle.dj_names.specs.Types.{JType}
use Rattle.dj_frames.specs.declared.tag.Tag as code
use Rattle.dj_frames.specs.Frames.{Tag, tag_of, view_tag, view_tags}
use Rattle.dj_tags.specs.Goes.{Assignability}
use Rattle.dj_tags.proofs.SlotLemmas.{length_reversed}
use Rattle.dj_effects.specs.Works.{Want, Of}
use Rattle.dj_effects.specs.Rows.{arguments}
use Rattle.dj_effects.specs.Operands.{IsWanted, AreWanted, enough, there}
use Rattle.dj_effects.proofs.Stacking.{get_reversed}

module _ (Goes : Assignability) where
  -- the want with so many before it is met by the entry with so many on top of it
  abbrev IsMet : List Want → List Tag → ℕ → Type 0
  IsMet wants stack k = IsSomeAnd (slice_get wants k) (λ want. IsSomeAnd (slice_get stack k) (IsWanted Goes want))

  -- so many wants are met
  pub record AreMet (wants : List Want) (stack : List Tag) (count : ℕ) : Type 0 where
    pub each : (k : ℕ) → k < count → IsSomeAnd (slice_get wants k) (λ want. IsSomeAnd (slice_get stack k) (IsWanted Goes want))

  pub met_none : (wants : List Want) (stack : List Tag) → AreMet wants stack 0
  met_none wants stack = record { each = λ k within. absurd (omega arith) }

  pub met_more : (wants : List Want) (stack : List Tag) (count : ℕ) (want : Want) → slice_get wants count ≡ Some want → AreMet wants stack count → IsSomeAnd (slice_get stack count) (IsWanted Goes want) → AreMet wants stack (count + 1)
  met_more wants stack count want is before here = record { each = λ k within. at k within (cases_order k count) }
    where
      at : (k : ℕ) → k < count + 1 → (k ≡ count) ⊎ ((k < count) ⊎ (count < k)) → IsMet wants stack k
      at k within (inl same) = rw (same, is) here
      at k within (inr (inl below)) = before.each k below
      at k within (inr (inr above)) = absurd (omega arith)

  wanted_met : (wants : List Want) (stack : List Tag) → AreWanted Goes wants stack → (k : ℕ) → k < length wants → IsMet wants stack k
  wanted_met [] stack wanted k within = absurd (omega arith)
  wanted_met (want ∷ wants) [] wanted k within = elim wanted [ ]
  wanted_met (want ∷ wants) (top ∷ below) (there is more) zero within = is
  wanted_met (want ∷ wants) (top ∷ below) (there is more) (suc k) within = wanted_met wants below more k (omega arith)

  pub are_met : (wants : List Want) (stack : List Tag) → AreWanted Goes wants stack → AreMet wants stack (length wants)
  are_met wants stack wanted = record { each = wanted_met wants stack wanted }

  pub are_wanted : (wants : List Want) (stack : List Tag) → AreMet wants stack (length wants) → AreWanted Goes wants stack
  are_wanted [] stack met = enough
  are_wanted (want ∷ wants) [] met = absurd (met.each 0 (omega arith))
  are_wanted (want ∷ wants) (top ∷ below) met = there (met.each 0 (omega arith)) (are_wanted wants below (record { each = λ k within. met.each (suc k) (omega arith) }))

  -- one of the wants isn't met
  pub not_wanted : (wants : List Want) (stack : List Tag) (count : ℕ) (want : Want) → count < length wants → slice_get wants count ≡ Some want → (IsSomeAnd (slice_get stack count) (IsWanted Goes want) → ⊥) → AreWanted Goes wants stack → ⊥
  not_wanted wants stack count want within is none wanted =
      none (subst (λ found. IsSomeAnd found (λ want. IsSomeAnd (slice_get stack count) (IsWanted Goes want))) is ((are_met wants stack wanted).each count within))

  -- first these, and then those
  pub wanted_split : (front back : List Want) (stack : List Tag) → AreWanted Goes (front ++ back) stack ↔ (AreWanted Goes front stack × AreWanted Goes back (drop (length front) stack))
  wanted_split [] back stack = (λ all. (enough, all), λ both. both.1)
  wanted_split (want ∷ front) back [] = (λ all. absurd (elim all [ ]), λ both. absurd (elim both.0 [ ]))
  wanted_split (want ∷ front) back (top ∷ below) = let later = wanted_split front back below in (split later.0, λ both. join later.1 both.0 both.1)
    where
      split : (AreWanted Goes (front ++ back) below → AreWanted Goes front below × AreWanted Goes back (drop (length front) below)) → AreWanted Goes (want ∷ (front ++ back)) (top ∷ below) → AreWanted Goes (want ∷ front) (top ∷ below) × AreWanted Goes back (drop (length front) below)
      split later (there is more) = let both = later more in (there is both.0, both.1)

      join : (AreWanted Goes front below × AreWanted Goes back (drop (length front) below) → AreWanted Goes (front ++ back) below) → AreWanted Goes (want ∷ front) (top ∷ below) → AreWanted Goes back (drop (length front) below) → AreWanted Goes (want ∷ (front ++ back)) (top ∷ below)
      join later (there is more) other = there is (later (more, other))

drop_none : {A : Type 0} (n : ℕ) → drop {A = A} n [] ≡ []
drop_none zero = refl
drop_none (suc n) = refl

pub drop_twice : {A : Type 0} (m n : ℕ) (list : List A) → drop n (drop m list) ≡ drop (m + n) list
drop_twice zero n list = ap (λ k. drop k list) (omega arith)
drop_twice (suc m) n [] = drop_none n ∙ sym (drop_none (suc m + n))
drop_twice (suc m) n (x ∷ list) = let e : suc m + n ≡ suc (m + n) = omega arith in rw e (drop_twice m n list)

-- ---- arguments

pub many_arguments : (parameters : List JType) → length (arguments parameters) ≡ length parameters
many_arguments parameters = length_reversed (map (λ type. Of (tag_of type)) parameters) ∙ length-map parameters (λ type. Of (tag_of type))

pub argument_at : (parameters : List JType) (depth : ℕ) (type : JType) → depth < length parameters → slice_get parameters (length parameters - 1 - depth) ≡ Some type → slice_get (arguments parameters) depth ≡ Some (Of (tag_of type))
argument_at parameters depth type within is =
    let wants = map (λ type. Of (tag_of type)) parameters in
    let many : length wants ≡ length parameters = length-map parameters (λ type. Of (tag_of type)) in
    let place : length wants - 1 - depth ≡ length parameters - 1 - depth = omega (arith, many) in
    get_reversed wants depth (omega (arith, many)) ∙ ap (slice_get wants) place ∙ slice_get-map (λ type. Of (tag_of type)) parameters (length parameters - 1 - depth) ∙ ap (option_map (λ type. Of (tag_of type))) is

-- ---- places of lists of the code

pub seen_at : {A B : Type 0} (f : A → B) (list : List A) (k : ℕ) (x : A) → k < length list → x ≡ get_or list k x → slice_get (map f list) k ≡ Some (f x)
seen_at f list k x within is = slice_get-map f list k ∙ ap (option_map f) (slice_get-get_or list k x within ∙ ap Some (sym is))

-- what is left of a stack, seen plainly
pub left_behind : (old new : List code.Tag) (m n : ℕ) → m ≡ n → new ≡ drop m old → view_tags new ≡ drop n (view_tags old)
left_behind old new m n same left = ap view_tags left ∙ sym (drop-map view_tag m old) ∙ ap (λ k. drop k (view_tags old)) same

-- ---- the same want again and again

pub many_same : {A : Type 0} (n : ℕ) (x : A) → length (replicate n x) ≡ n
many_same zero x = refl
many_same (suc n) x = ap suc (many_same n x)

pub same_at : {A : Type 0} (n k : ℕ) (x : A) → k < n → slice_get (replicate n x) k ≡ Some x
same_at zero k x within = absurd (omega arith)
same_at (suc n) zero x within = refl
same_at (suc n) (suc k) x within = same_at n k x (omega arith)
