-- Indices that are found in the tables of a pool.
use Rattle.std.proofs.Common.{◌≡◌, ℕ, zero, suc, ◌<◌, List, [], ◌∷◌, length, Option, Some, None, is_some, slice_get, refl, sym, ap, ◌∙◌, arith}
use Rattle.std.specs.Option.{option_map, option_and_then}
use Rattle.std.proofs.lemmas.Bool.{false≢true}
use Rattle.std.proofs.lemmas.Option.{none-some, same_Some}
use Rattle.dj_names.specs.declared.members.Constant.{Constant}
use Rattle.dj_names.specs.declared.members.Constant.TheVariants as constant
use Rattle.dj_pool.specs.declared.entry.Entry.{Entry}
use Rattle.dj_pool.specs.PoolFormat.{class_at, first_with, text_at, text_of}
use Rattle.dj_class.specs.Described.{constant_of}
use Rattle.dj_write.specs.declared.constants.ConstantKey.{ConstantKey}
use Rattle.dj_write.specs.declared.constants.ConstantKey.TheVariants as key
use Rattle.dj_write.specs.Found.{Finds, IsLed, constant_at, key_at, key_of}

-- what an index leads to has an index
pub is_found : {A : Type 0} (led : ℕ → Option A) (so_many : ℕ) (index_of : A → Option ℕ) (found : A) → Finds led so_many index_of → IsLed led found
    → ((index : ℕ) → led index ≡ Some found → index < so_many) → index_of found ≡ None → ⊥
is_found led so_many index_of found finds there within none = false≢true (sym (ap is_some none) ∙ finds.each found there.index (within there.index there.leads) there.leads)

pub inside : {A B : Type 0} (f : A → Option B) (xs : List A) (index : ℕ) (x : B) → option_and_then f (slice_get xs index) ≡ Some x → index < length xs
inside f [] zero x is = absurd (none-some x is)
inside f [] (suc index) x is = absurd (none-some x is)
inside f (y ∷ xs) zero x is = omega arith
inside f (y ∷ xs) (suc index) x is = let h = inside f xs index x is in omega arith

pub text_inside : (pool : List Entry) (units : List ℕ) (index : ℕ) → text_at pool index ≡ Some units → index < length pool
text_inside pool units index is = inside text_of pool index units is

first_some : {A B : Type 0} (f : A → Option B) (o : Option A) (x : B) → option_and_then f o ≡ Some x → (a : A) × (o ≡ Some a)
first_some f None x is = absurd (none-some x is)
first_some f (Some a) x is = (a, refl)

pub class_inside : (pool : List Entry) (name : List ℕ) (index : ℕ) → class_at pool index ≡ Some name → index < length pool
class_inside pool name index is =
    let inner = first_some (text_at pool) (option_and_then (first_with 7) (slice_get pool index)) name is in
    inside (first_with 7) pool index inner.0 inner.1

first_mapped : {A B : Type 0} (f : A → B) (o : Option A) (x : B) → option_map f o ≡ Some x → (a : A) × (o ≡ Some a) × (f a ≡ x)
first_mapped f None x is = absurd (none-some x is)
first_mapped f (Some a) x is = (a, refl, same_Some (f a) x is)

pub key_inside : (pool : List Entry) (sought : ConstantKey) (index : ℕ) → key_at pool index ≡ Some sought → index < length pool
key_inside pool sought index is =
    let inner = first_mapped key_of (constant_at pool index) sought is in
    inside (constant_of pool) pool index inner.0 inner.1

-- the constant that is found by a key
abbrev keyed : ConstantKey → Constant
keyed (key.Int number) = constant.Int number
keyed (key.Long number) = constant.Long number
keyed (key.Text units) = constant.Text units
keyed (key.Float bits) = constant.Float bits
keyed (key.Double bits) = constant.Double bits

keyed_is : (one : Constant) → keyed (key_of one) ≡ one
keyed_is (constant.Int number) = refl
keyed_is (constant.Long number) = refl
keyed_is (constant.Text units) = refl
keyed_is (constant.Float bits) = refl
keyed_is (constant.Double bits) = refl

pub key_led : (pool : List Entry) (one : Constant) → IsLed (constant_at pool) one → IsLed (key_at pool) (key_of one)
key_led pool one there = record { index = there.index; leads = ap (option_map key_of) there.leads }

pub key_leads : (pool : List Entry) (index : ℕ) (one : Constant) → key_at pool index ≡ Some (key_of one) → constant_at pool index ≡ Some one
key_leads pool index one is =
    let inner = first_mapped key_of (constant_at pool index) (key_of one) is in
    inner.1 ∙ ap Some (sym (keyed_is inner.0) ∙ ap keyed inner.2 ∙ keyed_is one)
