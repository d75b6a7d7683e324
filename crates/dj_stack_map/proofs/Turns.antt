-- Reading so many items in turn, each as those before it ask, of which something is kept.
use Rattle.std.proofs.Common.{◌≡◌, ℕ, ◌+◌, ◌<◌, ◌==◌, List, [], ◌∷◌, ◌++◌, length, IsTrue, IsFalse, refl, arith, length-append}
use Rattle.std.proofs.lemmas.Bool.Decides.{nat_tests}
use Rattle.dj_layout.specs.declared.fault.Stop.{Stop}
use Rattle.dj_layout.specs.Layout.{Layout, SpellsSome, Stops}
use Rattle.dj_layout.specs.Passes.{sequence}
use Rattle.dj_layout.proofs.Sequences.{IsRead, read_none, read_more, read_stop, read_all}

few : (n k : ℕ) → k < n → IsFalse (k == n)
few n k lt = grind (arith, nat_tests)

all : (n k : ℕ) → k ≡ n → IsTrue (k == n)
all n k e = grind (arith, nat_tests)

pub same_length : (k n : ℕ) → IsTrue (k == n) → k ≡ n
same_length k n is = grind (arith, nat_tests)

-- so many items are read, and what they mean is found
pub record IsInTurn {K A B : Type 0} (spell : A → List ℕ) (next : List A → Layout K A) (Means : List A → B → Type 0) (count : ℕ) (bytes : List ℕ) (found : B) (rest : List ℕ) (counter : ℕ) : Type 0 where
  pub items : List A
  pub read : IsRead spell (λ xs. length xs == count) next bytes items rest
  pub long : length items ≡ counter
  pub means : Means items found

pub turn_none : {K A B : Type 0} (spell : A → List ℕ) (next : List A → Layout K A) (Means : List A → B → Type 0) (count : ℕ) (bytes : List ℕ) (found : B) → Means [] found → IsInTurn spell next Means count bytes found bytes 0
turn_none {A = A} spell next Means count bytes found means = record { items = []; read = read_none spell (λ (xs : List A). length xs == count) next bytes; long = refl; means = means }

pub turn_more : {K A B : Type 0} (spell : A → List ℕ) (next : List A → Layout K A) (Means : List A → B → Type 0) (count i : ℕ) (bytes rest after : List ℕ) (found now : B)
    → ((before : List A) (x : A) → (next before).spell x ≡ spell x) → (h : IsInTurn spell next Means count bytes found rest i) → i < count
    → SpellsSome (next h.items) (λ this meant. Means (h.items ++ this ∷ []) meant) rest now after → IsInTurn spell next Means count bytes now after (i + 1)
turn_more {A = A} spell next Means count i bytes rest after found now same h lt one =
    let long = length-append h.items (one.value ∷ []) in
    record {
      items = h.items ++ one.value ∷ [];
      read = read_more spell (λ (xs : List A). length xs == count) next bytes rest after h.items one.value (same h.items one.value) h.read (few count (length h.items) (omega (arith, h.long))) one.spells;
      long = omega (arith, long, h.long);
      means = one.means;
    }

pub turn_stop : {K A B : Type 0} (spell : A → List ℕ) (next : List A → Layout K A) (Means : List A → B → Type 0) (count i end : ℕ) (bytes rest : List ℕ) (found : B) (why : Stop K)
    → (h : IsInTurn spell next Means count bytes found rest i) → i < count → Stops (next h.items).Halts end rest why → Stops (sequence spell (λ (xs : List A). length xs == count) next).Halts end bytes why
turn_stop {A = A} spell next Means count i end bytes rest found why h lt halts =
    read_stop spell (λ (xs : List A). length xs == count) next end bytes rest h.items why h.read (few count (length h.items) (omega (arith, h.long))) halts

pub turn_all : {K A B : Type 0} (spell : A → List ℕ) (next : List A → Layout K A) (Means : List A → B → Type 0) (count i : ℕ) (bytes rest : List ℕ) (found : B)
    → IsInTurn spell next Means count bytes found rest i → i ≡ count → SpellsSome (sequence spell (λ (xs : List A). length xs == count) next) Means bytes found rest
turn_all {A = A} spell next Means count i bytes rest found h is = record {
  value = h.items;
  spells = read_all spell (λ (xs : List A). length xs == count) next bytes rest h.items h.read (all count (length h.items) (omega (arith, h.long)));
  means = h.means;
}
