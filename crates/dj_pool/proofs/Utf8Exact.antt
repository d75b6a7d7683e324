-- Units in so many bytes read in one way.
use Rattle.std.proofs.Common.{◌≡◌, ◌≢◌, ℕ, ◌≤◌, List, [], ◌∷◌, ◌++◌, length, take, drop, sym, ap, ◌∙◌, append_assoc, arith, length-append, length-take, inl, inr}
use Rattle.std.specs.List.{AllByRecursion}
use Rattle.std.proofs.lemmas.List.{take_at, drop_at, take-append-drop}
use Rattle.std.proofs.lemmas.List.Elements.{recursion_from_All}
use Rattle.dj_layout.specs.declared.fault.Fault.{Fault}
use Rattle.dj_layout.specs.Layout.{fault_of}
use Rattle.dj_layout.specs.Exact.{IsExact}
use Rattle.dj_names.specs.Utf8.{IsUnit, AreNoUnits, encode, spell_units}
use Rattle.dj_names.proofs.Utf8Lemmas.{one_unit, one_list}
use Rattle.dj_pool.specs.declared.fault.BrokenKind.{BrokenKind}
use Rattle.dj_pool.specs.declared.fault.BrokenKind.TheVariants as kind
use Rattle.dj_pool.specs.PoolFormat.{utf8}

-- units that stand where others end in no unit end there too, or before
not_behind : (xs ys r s : List ℕ) → AllByRecursion IsUnit ys → spell_units xs ++ r ≡ spell_units ys ++ s → ((unit : ℕ) (rest : List ℕ) → IsUnit unit → encode unit ++ rest ≢ r)
    → length (spell_units ys) ≤ length (spell_units xs)
not_behind xs [] r s are same wrong = omega arith
not_behind [] (y ∷ ys) r s are same wrong = absurd (wrong y (spell_units ys ++ s) are.0 (sym (same ∙ append_assoc (encode y) (spell_units ys) s)))
not_behind (x ∷ xs) (y ∷ ys) r s are same wrong =
    let first = one_unit x y (spell_units xs ++ r) (spell_units ys ++ s) (sym (append_assoc (encode x) (spell_units xs) r) ∙ same ∙ append_assoc (encode y) (spell_units ys) s) in
    let later = not_behind xs ys r s are.1 first.1 wrong in
    let alike : length (encode x) ≡ length (encode y) = ap (λ (u : ℕ). length (encode u)) first.0 in
    omega (arith, later, alike, length-append (encode x) (spell_units xs), length-append (encode y) (spell_units ys))

-- how long the units before a wrong sequence are
long : (bytes : List ℕ) (a : ℕ) (p : AreNoUnits bytes a) → length (spell_units p.before) ≡ a
long bytes a p = omega (arith, ap length p.spelled, length-take a bytes, p.within)

-- one wrong sequence isn't behind another
before : (bytes : List ℕ) (a b : ℕ) → AreNoUnits bytes a → AreNoUnits bytes b → b ≤ a
before bytes a b p q =
    let parts : spell_units p.before ++ drop a bytes ≡ spell_units q.before ++ drop b bytes =
    ap (λ (t : List ℕ). t ++ drop a bytes) p.spelled ∙ take-append-drop a bytes ∙ sym (ap (λ (t : List ℕ). t ++ drop b bytes) q.spelled ∙ take-append-drop b bytes) in
    let le = not_behind p.before q.before (drop a bytes) (drop b bytes) (recursion_from_All IsUnit q.before q.before_are) parts p.wrong in
    omega (arith, le, long bytes a p, long bytes b q)

-- the first wrong sequence is at one place
pub one_place : (bytes : List ℕ) (a b : ℕ) → AreNoUnits bytes a → AreNoUnits bytes b → a ≡ b
one_place bytes a b p q = let le = before bytes a b p q in let ge = before bytes b a q p in omega arith

same_units : (n : ℕ) (x y r s : List ℕ) → length (spell_units x) ≡ n → length (spell_units y) ≡ n → spell_units x ++ r ≡ spell_units y ++ s → (x ≡ y) × (r ≡ s)
same_units n x y r s x_len y_len e = (
  one_list x y (sym (take_at (spell_units x) r n x_len) ∙ ap (λ (t : List ℕ). take n t) e ∙ take_at (spell_units y) s n y_len),
  sym (drop_at (spell_units x) r n x_len) ∙ ap (λ (t : List ℕ). drop n t) e ∙ drop_at (spell_units y) s n y_len,
)

utf8_apart : (n end : ℕ) (x rest : List ℕ) (fault : Fault BrokenKind) → (utf8 n).Fits x → (utf8 n).Halts end (spell_units x ++ rest) fault → ⊥
utf8_apart n end x rest fault fits (inl short) = omega (arith, short.0, fits.1, length-append (spell_units x) rest)
utf8_apart n end x rest fault fits (inr (at, there, none, is)) = none.unspelled x fits.0 (sym (take_at (spell_units x) rest n fits.1))

utf8_one_fault : (n end : ℕ) (bytes : List ℕ) (f g : Fault BrokenKind) → (utf8 n).Halts end bytes f → (utf8 n).Halts end bytes g → f ≡ g
utf8_one_fault n end bytes f g (inl p) (inl q) = p.1 ∙ sym q.1
utf8_one_fault n end bytes f g (inl p) (inr (at, there, none, is)) = absurd (omega (arith, p.0, there))
utf8_one_fault n end bytes f g (inr (at, there, none, is)) (inl q) = absurd (omega (arith, q.0, there))
utf8_one_fault n end bytes f g (inr (a, a_there, p, f_is)) (inr (b, b_there, q, g_is)) =
    f_is ∙ ap (λ (k : ℕ). fault_of end (drop k bytes) kind.Units) (one_place (take n bytes) a b p q) ∙ sym g_is

pub exact-utf8 : (n : ℕ) → IsExact (utf8 n)
exact-utf8 n = record {
  unique = λ x y r s x_fits y_fits e. same_units n x y r s x_fits.1 y_fits.1 e;
  apart = λ end x rest fault fits halts. utf8_apart n end x rest fault fits halts;
  one_fault = λ end bytes f g p q. utf8_one_fault n end bytes f g p q;
}
