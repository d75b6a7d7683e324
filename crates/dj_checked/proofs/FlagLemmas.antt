-- A class's flags by its header.
use Rattle.std.proofs.Common.{◌≡◌, ℕ, suc, ◌<◌, ◌==◌, Bool, true, false, not, ◌||◌, List, [], ◌∷◌, Contains, slice_get, length, get_or, Option, Some, refl, sym, ap, ◌∙◌, arith}
use Rattle.std.specs.Prelude.{bit_and}
use Rattle.dj_names.specs.declared.header.Header.{Header}
use Rattle.dj_names.specs.Headers.{Name, names, HasDistinctNames}
use Rattle.dj_values.specs.Deciding.{is_name}
use Rattle.dj_values.proofs.Deciding.{Decides-name}
use Rattle.dj_kinds.specs.Search.{header_of}
use Rattle.dj_kinds.proofs.HeaderLemmas.{header_of-at}
use Rattle.dj_checked.specs.Flags.{has_flag, flag_in}

or_false : (b : Bool) → (b || false) ≡ b
or_false true = refl
or_false false = refl

-- no header is of the class
flag_none : (flag : ℕ) (headers : List Header) (class : Name) (d : Header) → ((j : ℕ) → j < length headers → (get_or headers j d).name ≡ class → ⊥) → has_flag flag headers class ≡ false
flag_none flag [] class d none = refl
flag_none flag (header ∷ headers) class d none = by (is_name header.name class) refl (flag_none flag headers class d (λ j within same. none (suc j) (omega (arith, within)) same))
  where
    by : (b : Bool) → is_name header.name class ≡ b → has_flag flag headers class ≡ false → has_flag flag (header ∷ headers) class ≡ false
    by true is rest = absurd (none 0 (omega arith) ((Decides-name header.name class).0 is))
    by false is rest = rw is rest

pub flag_absent : (flag : ℕ) (headers : List Header) (class : Name) → ¬ Contains (names headers) class → has_flag flag headers class ≡ false
flag_absent flag [] class none = refl
flag_absent flag (header ∷ headers) class none =
    by (is_name header.name class) refl (flag_absent flag headers class (λ there. none (suc there.0, omega (arith, there.1), there.2)))
  where
    by : (b : Bool) → is_name header.name class ≡ b → has_flag flag headers class ≡ false → has_flag flag (header ∷ headers) class ≡ false
    by true is rest = absurd (none (0, omega arith, (Decides-name header.name class).0 is))
    by false is rest = rw is rest

-- the header of the class is the only one of its name
flag_of : (flag : ℕ) (headers : List Header) (class : Name) → HasDistinctNames headers → has_flag flag headers class ≡ flag_in flag (header_of headers class)
flag_of flag [] class distinct = refl
flag_of flag (header ∷ headers) class distinct =
    by (is_name header.name class) refl (flag_of flag headers class (λ i j d below within. distinct (suc i) (suc j) d (omega (arith, below)) (omega (arith, within))))
  where
    by : (b : Bool) → is_name header.name class ≡ b → has_flag flag headers class ≡ flag_in flag (header_of headers class) → has_flag flag (header ∷ headers) class ≡ flag_in flag (header_of (header ∷ headers) class)
    by true is more =
        let named : header.name ≡ class = (Decides-name header.name class).0 is in
        let rest = flag_none flag headers class header (λ j within same. distinct 0 (suc j) header (omega arith) (omega (arith, within)) (named ∙ sym same)) in
        rw is (ap (λ b. not (bit_and header.flags flag == 0) || b) rest ∙ or_false (not (bit_and header.flags flag == 0)))
    by false is more = rw is more

pub flag_at : (flag : ℕ) (headers : List Header) (at : ℕ) (class : Name) (found : Option Header) → HasDistinctNames headers → slice_get (names headers) at ≡ Some class → found ≡ slice_get headers at
    → flag_in flag found ≡ has_flag flag headers class
flag_at flag headers at class found distinct there is =
    ap (flag_in flag) (is ∙ sym (header_of-at headers at class distinct there)) ∙ sym (flag_of flag headers class distinct)
