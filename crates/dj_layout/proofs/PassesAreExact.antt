-- Parts of which more is asked, two passes, and sequences read in one way.
use Rattle.std.proofs.Common.{◌≡◌, ℕ, Bool, List, [], ◌∷◌, ◌++◌, refl, sym, ap, subst, ◌∙◌, append_assoc, inl, inr}
use Rattle.std.specs.Prelude.{IsTrue, IsFalse}
use Rattle.std.specs.List.{flat_map}
use Rattle.std.proofs.lemmas.List.{append-nil}
use Rattle.dj_layout.specs.declared.fault.Fault.{Fault}
use Rattle.dj_layout.specs.Layout.{Layout, Spells, fault_of}
use Rattle.dj_layout.specs.Passes.{asked, again, sequence, told_in_front, HaltsOrIsnt, HaltsAgain, HaltsInFront, HaltsInSequence, IsSequence}
use Rattle.dj_layout.specs.Exact.{IsExact}

asked_apart : {K A : Type 0} (part : Layout K A) (Asked : A → Type 0) (kind : K) → IsExact part
    → (end : ℕ) (x : A) (rest : List ℕ) (fault : Fault K) → part.Fits x → Asked x → HaltsOrIsnt part Asked kind end (part.spell x ++ rest) fault → ⊥
asked_apart part Asked kind exact end x rest fault fits is (inl p) = exact.apart end x rest fault fits p
asked_apart part Asked kind exact end x rest fault fits is (inr (y, s, y_is, isnt, at)) =
    let same = exact.unique x y rest s fits y_is.fits y_is.text in
    isnt (rw (← same.0) is)

asked_one : {K A : Type 0} (part : Layout K A) (Asked : A → Type 0) (kind : K) → IsExact part
    → (end : ℕ) (bytes : List ℕ) (f g : Fault K) → HaltsOrIsnt part Asked kind end bytes f → HaltsOrIsnt part Asked kind end bytes g → f ≡ g
asked_one part Asked kind exact end bytes f g (inl p) (inl q) = exact.one_fault end bytes f g p q
asked_one part Asked kind exact end bytes f g (inl p) (inr (x, rest, is, fails, at)) = absurd (exact.apart end x rest f is.fits (rw (← is.text) p))
asked_one part Asked kind exact end bytes f g (inr (x, rest, is, fails, at)) (inl q) = absurd (exact.apart end x rest g is.fits (rw (← is.text) q))
asked_one part Asked kind exact end bytes f g (inr (x, r, x_is, x_fails, f_at)) (inr (y, s, y_is, y_fails, g_at)) = f_at ∙ sym g_at

pub exact-asked : {K A : Type 0} (part : Layout K A) (Asked : A → Type 0) (kind : K) → IsExact part → IsExact (asked part Asked kind)
exact-asked part Asked kind exact = record {
  unique = λ x y r s x_fits y_fits e. exact.unique x y r s x_fits.0 y_fits.0 e;
  apart = λ end x rest fault fits halts. asked_apart part Asked kind exact end x rest fault fits.0 fits.1 halts;
  one_fault = λ end bytes f g f_halts g_halts. asked_one part Asked kind exact end bytes f g f_halts g_halts;
}

again_apart : {K A : Type 0} (first : Layout K A) (second : A → Layout K A) → IsExact first → ((x : A) → IsExact (second x)) → ((x y : A) → (second x).spell y ≡ first.spell y)
    → (end : ℕ) (x : A) (rest : List ℕ) (fault : Fault K) → first.Fits x → (second x).Fits x → HaltsAgain first second end (first.spell x ++ rest) fault → ⊥
again_apart {A = A} first second exact exacts same end x rest fault fits again_fits (inl p) = exact.apart end x rest fault fits p
again_apart {A = A} first second exact exacts same end x rest fault fits again_fits (inr (y, s, y_is, halts)) =
    let e = exact.unique x y rest s fits y_is.fits y_is.text in
    let here : (second x).Halts end (first.spell x ++ rest) fault = subst (λ (t : A). (second t).Halts end (first.spell x ++ rest) fault) (sym e.0) halts in
    (exacts x).apart end x rest fault again_fits (rw (same x x) here)

again_one : {K A : Type 0} (first : Layout K A) (second : A → Layout K A) → IsExact first → ((x : A) → IsExact (second x))
    → (end : ℕ) (bytes : List ℕ) (f g : Fault K) → HaltsAgain first second end bytes f → HaltsAgain first second end bytes g → f ≡ g
again_one first second exact exacts end bytes f g (inl p) (inl q) = exact.one_fault end bytes f g p q
again_one first second exact exacts end bytes f g (inl p) (inr (x, rest, is, q)) = absurd (exact.apart end x rest f is.fits (rw (← is.text) p))
again_one first second exact exacts end bytes f g (inr (x, rest, is, p)) (inl q) = absurd (exact.apart end x rest g is.fits (rw (← is.text) q))
again_one first second exact exacts end bytes f g (inr (x, r, x_is, p)) (inr (y, s, y_is, q)) =
    let same = exact.unique x y r s x_is.fits y_is.fits (sym x_is.text ∙ y_is.text) in
    (exacts x).one_fault end bytes f g p (rw same.0 q)

pub exact-again : {K A : Type 0} (first : Layout K A) (second : A → Layout K A) → IsExact first → ((x : A) → IsExact (second x))
    → ((x y : A) → (second x).spell y ≡ first.spell y) → IsExact (again first second)
exact-again first second exact exacts same = record {
  unique = λ x y r s x_fits y_fits e. exact.unique x y r s x_fits.0 y_fits.0 e;
  apart = λ end x rest fault fits halts. again_apart first second exact exacts same end x rest fault fits.0 fits.1 halts;
  one_fault = λ end bytes f g f_halts g_halts. again_one first second exact exacts end bytes f g f_halts g_halts;
}

in_front_apart : {K A : Type 0} (part : Layout K A) → IsExact part → (end : ℕ) (x : A) (rest : List ℕ) (fault : Fault K) → part.Fits x → HaltsInFront part end (part.spell x ++ rest) fault → ⊥
in_front_apart part exact end x rest fault fits (inner, halts, at) = exact.apart end x rest inner fits halts

in_front_one : {K A : Type 0} (part : Layout K A) → IsExact part → (end : ℕ) (bytes : List ℕ) (f g : Fault K) → HaltsInFront part end bytes f → HaltsInFront part end bytes g → f ≡ g
in_front_one {K = K} part exact end bytes f g (first, f_halts, f_at) (second, g_halts, g_at) =
    f_at ∙ ap (λ (t : Fault K). fault_of end bytes t.kind) (exact.one_fault end bytes first second f_halts g_halts) ∙ sym g_at

pub exact-told_in_front : {K A : Type 0} (part : Layout K A) → IsExact part → IsExact (told_in_front part)
exact-told_in_front part exact = record {
  unique = exact.unique;
  apart = λ end x rest fault fits halts. in_front_apart part exact end x rest fault fits halts;
  one_fault = λ end bytes f g f_halts g_halts. in_front_one part exact end bytes f g f_halts g_halts;
}

module _ {K A : Type 0} (spell : A → List ℕ) (enough : List A → Bool) (next : List A → Layout K A) (exact : (before : List A) → IsExact (next before))
    (same : (before : List A) (x : A) → (next before).spell x ≡ spell x) where
  -- one step into both lists
  step : (before : List A) (x y : A) (r s front_r front_s : List ℕ) → (next before).Fits x → (next before).Fits y
      → (spell x ++ front_r) ++ r ≡ (spell y ++ front_s) ++ s → (x ≡ y) × (front_r ++ r ≡ front_s ++ s)
  step before x y r s front_r front_s x_fits y_fits e =
      (exact before).unique x y (front_r ++ r) (front_s ++ s) x_fits y_fits
      (rw (same before x, same before y) (sym (append_assoc (spell x) front_r r) ∙ e ∙ append_assoc (spell y) front_s s))

  unique : (before xs ys : List A) (r s : List ℕ) → IsSequence enough next before xs → IsTrue (enough (before ++ xs)) → IsSequence enough next before ys → IsTrue (enough (before ++ ys))
      → flat_map spell xs ++ r ≡ flat_map spell ys ++ s → (xs ≡ ys) × (r ≡ s)
  unique before [] [] r s xs_are xs_enough ys_are ys_enough e = (refl, e)
  unique before [] (y ∷ ys) r s xs_are xs_enough ys_are ys_enough e = let here : IsTrue (enough before) = rw (← append-nil before) xs_enough in absurd (cc (here, ys_are.0))
  unique before (x ∷ xs) [] r s xs_are xs_enough ys_are ys_enough e = let here : IsTrue (enough before) = rw (← append-nil before) ys_enough in absurd (cc (here, xs_are.0))
  unique before (x ∷ xs) (y ∷ ys) r s xs_are xs_enough ys_are ys_enough e =
      let first = step before x y r s (flat_map spell xs) (flat_map spell ys) xs_are.1 ys_are.1 e in
      let others = unique (before ++ x ∷ []) xs ys r s xs_are.2 (rw (append_assoc before (x ∷ []) xs) xs_enough) (rw first.0 ys_are.2) (rw (append_assoc before (x ∷ []) ys, first.0) ys_enough) first.1 in
      (cc, others.1)

  apart : (end : ℕ) (before xs ys : List A) (r s : List ℕ) (fault : Fault K) → IsSequence enough next before xs → IsTrue (enough (before ++ xs)) → IsSequence enough next before ys → IsFalse (enough (before ++ ys))
      → flat_map spell xs ++ r ≡ flat_map spell ys ++ s → (next (before ++ ys)).Halts end s fault → ⊥
  apart end before [] [] r s fault xs_are xs_enough ys_are ys_few e halts = absurd (cc (xs_enough, ys_few))
  apart end before [] (y ∷ ys) r s fault xs_are xs_enough ys_are ys_few e halts = let here : IsTrue (enough before) = rw (← append-nil before) xs_enough in absurd (cc (here, ys_are.0))
  apart end before (x ∷ xs) [] r s fault xs_are xs_enough ys_are ys_few e halts =
      let here : (next before).Halts end s fault = rw (← append-nil before) halts in
      let text : s ≡ (next before).spell x ++ (flat_map spell xs ++ r) = rw (same before x) (sym e ∙ append_assoc (spell x) (flat_map spell xs) r) in
      (exact before).apart end x (flat_map spell xs ++ r) fault xs_are.1 (rw (← text) here)
  apart end before (x ∷ xs) (y ∷ ys) r s fault xs_are xs_enough ys_are ys_few e halts =
      let first = step before x y r s (flat_map spell xs) (flat_map spell ys) xs_are.1 ys_are.1 e in
      apart end (before ++ x ∷ []) xs ys r s fault xs_are.2 (rw (append_assoc before (x ∷ []) xs) xs_enough) (rw first.0 ys_are.2) (rw (append_assoc before (x ∷ []) ys, first.0) ys_few) first.1 (rw (append_assoc before (x ∷ []) ys, first.0) halts)

  one : (end : ℕ) (before xs ys : List A) (r s : List ℕ) (f g : Fault K) → IsSequence enough next before xs → IsSequence enough next before ys
      → flat_map spell xs ++ r ≡ flat_map spell ys ++ s → (next (before ++ xs)).Halts end r f → (next (before ++ ys)).Halts end s g → f ≡ g
  one end before [] [] r s f g xs_go ys_go e f_halts g_halts = (exact (before ++ [])).one_fault end s f g (rw (← e) f_halts) g_halts
  one end before [] (y ∷ ys) r s f g xs_go ys_go e f_halts g_halts =
      let here : (next before).Halts end r f = rw (← append-nil before) f_halts in
      let text : r ≡ (next before).spell y ++ (flat_map spell ys ++ s) = rw (same before y) (e ∙ append_assoc (spell y) (flat_map spell ys) s) in
      absurd ((exact before).apart end y (flat_map spell ys ++ s) f ys_go.1 (rw (← text) here))
  one end before (x ∷ xs) [] r s f g xs_go ys_go e f_halts g_halts =
      let here : (next before).Halts end s g = rw (← append-nil before) g_halts in
      let text : s ≡ (next before).spell x ++ (flat_map spell xs ++ r) = rw (same before x) (sym e ∙ append_assoc (spell x) (flat_map spell xs) r) in
      absurd ((exact before).apart end x (flat_map spell xs ++ r) g xs_go.1 (rw (← text) here))
  one end before (x ∷ xs) (y ∷ ys) r s f g xs_go ys_go e f_halts g_halts =
      let first = step before x y r s (flat_map spell xs) (flat_map spell ys) xs_go.1 ys_go.1 e in
      one end (before ++ x ∷ []) xs ys r s f g xs_go.2 (rw first.0 ys_go.2) first.1
      (rw (append_assoc before (x ∷ []) xs) f_halts) (rw (append_assoc before (x ∷ []) ys, first.0) g_halts)

  sequence_one : (end : ℕ) (bytes : List ℕ) (f g : Fault K) → HaltsInSequence spell enough next end bytes f → HaltsInSequence spell enough next end bytes g → f ≡ g
  sequence_one end bytes f g (xs, r, xs_go, xs_few, xs_text, f_halts) (ys, s, ys_go, ys_few, ys_text, g_halts) =
      one end [] xs ys r s f g xs_go ys_go (sym xs_text ∙ ys_text) f_halts g_halts

  sequence_apart : (end : ℕ) (xs : List A) (rest : List ℕ) (fault : Fault K) → IsSequence enough next [] xs → IsTrue (enough xs) → HaltsInSequence spell enough next end (flat_map spell xs ++ rest) fault → ⊥
  sequence_apart end xs rest fault are all (ys, s, ys_go, few, text, halts) = apart end [] xs ys rest s fault are all ys_go few text halts

pub exact-sequence : {K A : Type 0} (spell : A → List ℕ) (enough : List A → Bool) (next : List A → Layout K A) → ((before : List A) → IsExact (next before))
    → ((before : List A) (x : A) → (next before).spell x ≡ spell x) → IsExact (sequence spell enough next)
exact-sequence spell enough next exact same = record {
  unique = λ xs ys r s xs_are ys_are e. unique spell enough next exact same [] xs ys r s xs_are.0 xs_are.1 ys_are.0 ys_are.1 e;
  apart = λ end xs rest fault are halts. sequence_apart spell enough next exact same end xs rest fault are.0 are.1 halts;
  one_fault = λ end bytes f g p q. sequence_one spell enough next exact same end bytes f g p q;
}

-- what two passes read is what the first read
pub again_spells : {K A : Type 0} (first : Layout K A) (second : A → Layout K A) → IsExact first → ((x y : A) → (second x).spell y ≡ first.spell y)
    → ((x y : A) → (second x).Fits y → first.Fits y) → (bytes r s : List ℕ) (x y : A) → Spells first bytes x r → Spells (second x) bytes y s → Spells (again first second) bytes y s
again_spells {A = A} first second exact same finer bytes r s x y x_is y_is =
    let text : bytes ≡ first.spell y ++ s = rw (← same x y) y_is.text in
    let e = exact.unique x y r s x_is.fits (finer x y y_is.fits) (sym x_is.text ∙ text) in
    record { fits = (finer x y y_is.fits, subst (λ (t : A). (second t).Fits y) e.0 y_is.fits); text = text }
