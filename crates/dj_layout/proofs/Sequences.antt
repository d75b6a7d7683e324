-- Reading a sequence: items one after the other, each as those before it ask.
use Rattle.std.proofs.Common.{◌≡◌, ℕ, Bool, List, [], ◌∷◌, ◌++◌, refl, ap, ◌∙◌, append_assoc}
use Rattle.std.specs.Prelude.{IsTrue, IsFalse}
use Rattle.std.specs.List.{flat_map}
use Rattle.std.proofs.lemmas.List.{append-nil}
use Rattle.dj_layout.specs.declared.fault.Stop.{Stop}
use Rattle.dj_layout.specs.declared.fault.Stop.TheVariants as stop
use Rattle.dj_layout.specs.Layout.{Layout, Spells, Stops}
use Rattle.dj_layout.specs.Passes.{sequence, IsSequence}
use Rattle.dj_layout.proofs.Loops.{regroup}

-- these items are read, and this rest is left
pub record IsRead {K A : Type 0} (spell : A → List ℕ) (enough : List A → Bool) (next : List A → Layout K A) (bytes : List ℕ) (items : List A) (rest : List ℕ) : Type 0 where
  pub stand : IsSequence enough next [] items
  pub text : bytes ≡ flat_map spell items ++ rest

-- one more item stands in a sequence
IsSequence-push : {K A : Type 0} (enough : List A → Bool) (next : List A → Layout K A) (before xs : List A) (x : A) → IsSequence enough next before xs
    → IsFalse (enough (before ++ xs)) → (next (before ++ xs)).Fits x → IsSequence enough next before (xs ++ x ∷ [])
IsSequence-push enough next before [] x are few fits = (rw (← append-nil before) few, rw (← append-nil before) fits, tt)
IsSequence-push enough next before (y ∷ ys) x are few fits =
    (are.0, are.1, IsSequence-push enough next (before ++ y ∷ []) ys x are.2 (rw (append_assoc before (y ∷ []) ys) few) (rw (append_assoc before (y ∷ []) ys) fits))

-- nothing is read
pub read_none : {K A : Type 0} (spell : A → List ℕ) (enough : List A → Bool) (next : List A → Layout K A) (bytes : List ℕ) → IsRead spell enough next bytes [] bytes
read_none spell enough next bytes = record { stand = tt; text = refl }

-- one more item is read
pub read_more : {K A : Type 0} (spell : A → List ℕ) (enough : List A → Bool) (next : List A → Layout K A) (bytes rest after : List ℕ) (xs : List A) (x : A)
    → (next xs).spell x ≡ spell x → IsRead spell enough next bytes xs rest → IsFalse (enough xs) → Spells (next xs) rest x after → IsRead spell enough next bytes (xs ++ x ∷ []) after
read_more spell enough next bytes rest after xs x same so_far few one = record {
  stand = IsSequence-push enough next [] xs x so_far.stand few one.fits;
  text = so_far.text ∙ ap (λ (t : List ℕ). flat_map spell xs ++ t) (one.text ∙ ap (λ (t : List ℕ). t ++ after) same) ∙ regroup spell xs x after;
}

-- the next item isn't there
pub read_stop : {K A : Type 0} (spell : A → List ℕ) (enough : List A → Bool) (next : List A → Layout K A) (end : ℕ) (bytes rest : List ℕ) (xs : List A) (why : Stop K)
    → IsRead spell enough next bytes xs rest → IsFalse (enough xs) → Stops (next xs).Halts end rest why → Stops (sequence spell enough next).Halts end bytes why
read_stop spell enough next end bytes rest xs stop.Memory so_far few halts = tt
read_stop spell enough next end bytes rest xs (stop.Fault fault) so_far few halts = (xs, rest, so_far.stand, few, so_far.text, halts)

-- the items are enough
pub read_all : {K A : Type 0} (spell : A → List ℕ) (enough : List A → Bool) (next : List A → Layout K A) (bytes rest : List ℕ) (xs : List A)
    → IsRead spell enough next bytes xs rest → IsTrue (enough xs) → Spells (sequence spell enough next) bytes xs rest
read_all spell enough next bytes rest xs so_far all = record { fits = (so_far.stand, all); text = so_far.text }
