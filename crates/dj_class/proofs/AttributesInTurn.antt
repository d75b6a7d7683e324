-- Lists of attributes read in turn.
use Rattle.std.proofs.Common.{◌≡◌, ℕ, ◌+◌, ◌<◌, ◌==◌, List, [], ◌∷◌, ◌++◌, length, IsTrue, IsFalse, refl, arith, length-append}
use Rattle.std.proofs.lemmas.Bool.Decides.{nat_tests}
use Rattle.dj_layout.specs.declared.fault.Stop.{Stop}
use Rattle.dj_layout.specs.Layout.{Layout, Spells, SpellsSome, Stops}
use Rattle.dj_layout.specs.Passes.{sequence}
use Rattle.dj_layout.proofs.PartsAreTotal.{together}
use Rattle.dj_layout.proofs.Sequences.{IsRead, read_none, read_more, read_stop, read_all}
use Rattle.dj_pool.specs.declared.fault.BrokenKind.{BrokenKind}
use Rattle.dj_pool.specs.declared.raw.Attribute.{Attribute}
use Rattle.dj_pool.specs.SharedParts.{u2, attribute}
use Rattle.dj_class.specs.FileFormat.{counted_in_turn}

-- so many attributes are read, each as those before it ask, and what they mean is found
pub record IsInTurn {B : Type 0} (next : List Attribute → Layout BrokenKind Attribute) (Means : List Attribute → B → Type 0) (count : ℕ) (bytes : List ℕ) (found : B) (rest : List ℕ) (counter : ℕ) : Type 0 where
  pub items : List Attribute
  pub read : IsRead attribute.spell (λ xs. length xs == count) next bytes items rest
  pub long : length items ≡ counter
  pub means : Means items found

pub turn_none : {B : Type 0} (next : List Attribute → Layout BrokenKind Attribute) (Means : List Attribute → B → Type 0) (count : ℕ) (bytes : List ℕ) (found : B) → Means [] found → IsInTurn next Means count bytes found bytes 0
turn_none next Means count bytes found means = record { items = []; read = read_none attribute.spell (λ (xs : List Attribute). length xs == count) next bytes; long = refl; means = means }

few : (n k : ℕ) → k < n → IsFalse (k == n)
few n k lt = grind (arith, nat_tests)

all : (n k : ℕ) → k ≡ n → IsTrue (k == n)
all n k e = grind (arith, nat_tests)

pub turn_more : {B : Type 0} (next : List Attribute → Layout BrokenKind Attribute) (Means : List Attribute → B → Type 0) (count i : ℕ) (bytes rest after : List ℕ) (found now : B)
    → ((before : List Attribute) (x : Attribute) → (next before).spell x ≡ attribute.spell x) → (h : IsInTurn next Means count bytes found rest i) → i < count
    → SpellsSome (next h.items) (λ this meant. Means (h.items ++ this ∷ []) meant) rest now after → IsInTurn next Means count bytes now after (i + 1)
turn_more next Means count i bytes rest after found now same h lt one =
    let long = length-append h.items (one.value ∷ []) in
    record {
      items = h.items ++ one.value ∷ [];
      read = read_more attribute.spell (λ (xs : List Attribute). length xs == count) next bytes rest after h.items one.value (same h.items one.value) h.read (few count (length h.items) (omega (arith, h.long))) one.spells;
      long = omega (arith, long, h.long);
      means = one.means;
    }

pub turn_stop : {B : Type 0} (next : List Attribute → Layout BrokenKind Attribute) (Means : List Attribute → B → Type 0) (count i end : ℕ) (bytes rest : List ℕ) (found : B) (why : Stop BrokenKind)
    → (h : IsInTurn next Means count bytes found rest i) → i < count → Stops (next h.items).Halts end rest why → Stops (sequence attribute.spell (λ (xs : List Attribute). length xs == count) next).Halts end bytes why
turn_stop next Means count i end bytes rest found why h lt halts =
    read_stop attribute.spell (λ (xs : List Attribute). length xs == count) next end bytes rest h.items why h.read (few count (length h.items) (omega (arith, h.long))) halts

pub turn_all : {B : Type 0} (next : List Attribute → Layout BrokenKind Attribute) (Means : List Attribute → B → Type 0) (count i : ℕ) (bytes rest : List ℕ) (found : B)
    → IsInTurn next Means count bytes found rest i → i ≡ count → SpellsSome (sequence attribute.spell (λ (xs : List Attribute). length xs == count) next) Means bytes found rest
turn_all next Means count i bytes rest found h is = record {
  value = h.items;
  spells = read_all attribute.spell (λ (xs : List Attribute). length xs == count) next bytes rest h.items h.read (all count (length h.items) (omega (arith, h.long)));
  means = h.means;
}

same_length : (k n : ℕ) → IsTrue (k == n) → k ≡ n
same_length k n is = grind (arith, nat_tests)

-- attributes in turn behind their number
pub turn_counted : {B : Type 0} (next : List Attribute → Layout BrokenKind Attribute) (Means : List Attribute → B → Type 0) (n : ℕ) (bytes r s : List ℕ) (found : B) → Spells u2 bytes n r
    → SpellsSome (sequence attribute.spell (λ (xs : List Attribute). length xs == n) next) Means r found s → SpellsSome (counted_in_turn next) Means bytes found s
turn_counted next Means n bytes r s found count items =
    let e = same_length (length items.value) n items.spells.fits.1 in
    record {
      value = items.value;
      spells = together length u2 (λ (k : ℕ). sequence attribute.spell (λ (xs : List Attribute). length xs == k) next) n items.value bytes r s e count items.spells;
      means = items.means;
    }
