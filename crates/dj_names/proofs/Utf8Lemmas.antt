-- The spelling of a unit begins no other, so bytes spell one list of units or none.
use Rattle.std.proofs.Common.{◌≡◌, ◌≢◌, ℕ, ◌+◌, ◌-◌, ◌*◌, ◌/◌, ◌%◌, ◌<◌, ◌≤◌, ◌⊎◌, List, [], ◌∷◌, ◌++◌, length, take, drop, get_or, true, false, nat_lt, if◌then◌else◌, Option, Some, None, All, refl, sym, ap, subst, inl, inr, ◌∙◌, arith}
use Rattle.std.proofs.lemmas.List.{append_assoc, append-nil, take-append-drop, length-drop, take_more}
use Rattle.std.proofs.Math.Seq.{take-add}
use Rattle.std.proofs.lemmas.Bool.{cases_lt}
use Rattle.std.proofs.lemmas.List.Concat.{flat_map-append}
use Rattle.std.proofs.lemmas.List.Elements.{All-head, All-tail}
use Rattle.std.proofs.lemmas.Bool.Decides.{nat_tests}
use Rattle.dj_names.specs.Utf8.{encode, spell_units, IsUnit, AreNoUnits}

-- the unit that is spelled at the front, and what follows it
abbrev two : ℕ → List ℕ → Option (ℕ × List ℕ)
two first [] = None
two first (second ∷ rest) = Some ((first - 192) * 64 + (second - 128), rest)

abbrev three : ℕ → List ℕ → Option (ℕ × List ℕ)
three first [] = None
three first (second ∷ []) = None
three first (second ∷ third ∷ rest) = Some ((first - 224) * 4096 + (second - 128) * 64 + (third - 128), rest)

abbrev decode : List ℕ → Option (ℕ × List ℕ)
decode [] = None
decode (first ∷ rest) = if nat_lt first 192 then Some (first, rest) else (if nat_lt first 224 then two first rest else three first rest)

encode-one : (unit : ℕ) → 1 ≤ unit → unit ≤ 127 → encode unit ≡ unit ∷ []
encode-one unit low high = grind (arith, nat_tests)

encode-two : (unit : ℕ) → 128 ≤ unit → unit ≤ 2047 → encode unit ≡ (192 + unit / 64) ∷ (128 + unit % 64) ∷ []
encode-two unit low high = grind (arith, nat_tests)

encode-three : (unit : ℕ) → 2048 ≤ unit → encode unit ≡ (224 + unit / 4096) ∷ (128 + unit / 64 % 64) ∷ (128 + unit % 64) ∷ []
encode-three unit low = grind (arith, nat_tests)

test_holds : (m n : ℕ) → m < n → nat_lt m n ≡ true
test_holds m n l = grind (arith, nat_tests)

test_fails : (m n : ℕ) → n ≤ m → nat_lt m n ≡ false
test_fails m n l = grind (arith, nat_tests)

decode-one : (unit : ℕ) (rest : List ℕ) → unit ≤ 127 → decode (unit ∷ rest) ≡ Some (unit, rest)
decode-one unit rest high = let l : unit < 192 = omega arith in rw (test_holds unit 192 l) refl

two_value : (unit : ℕ) → (192 + unit / 64 - 192) * 64 + (128 + unit % 64 - 128) ≡ unit
two_value unit = omega arith

three_value : (unit : ℕ) → (224 + unit / 4096 - 224) * 4096 + (128 + unit / 64 % 64 - 128) * 64 + (128 + unit % 64 - 128) ≡ unit
three_value unit = omega arith

decode-two : (unit : ℕ) (rest : List ℕ) → unit ≤ 2047 → decode ((192 + unit / 64) ∷ (128 + unit % 64) ∷ rest) ≡ Some (unit, rest)
decode-two unit rest high =
    let low : 192 ≤ 192 + unit / 64 = omega arith in
    let under : 192 + unit / 64 < 224 = omega arith in
    rw (test_fails (192 + unit / 64) 192 low, test_holds (192 + unit / 64) 224 under) (ap (λ (u : ℕ). Some (u, rest)) (two_value unit))

decode-three : (unit : ℕ) (rest : List ℕ) → decode ((224 + unit / 4096) ∷ (128 + unit / 64 % 64) ∷ (128 + unit % 64) ∷ rest) ≡ Some (unit, rest)
decode-three unit rest =
    let low : 192 ≤ 224 + unit / 4096 = omega arith in
    let above : 224 ≤ 224 + unit / 4096 = omega arith in
    rw (test_fails (224 + unit / 4096) 192 low, test_fails (224 + unit / 4096) 224 above) (ap (λ (u : ℕ). Some (u, rest)) (three_value unit))

sizes : (unit : ℕ) → (unit ≡ 0) ⊎ ((1 ≤ unit) × (unit ≤ 127)) ⊎ ((128 ≤ unit) × (unit ≤ 2047)) ⊎ (2048 ≤ unit)
sizes unit = elim (cases_lt unit 1) [
  | inl none ↦ inl (omega arith)
  | inr some ↦ elim (cases_lt unit 128) [
    | inl one ↦ inr (inl (some, omega arith))
    | inr more ↦ elim (cases_lt unit 2048) [ inl two_bytes ↦ inr (inr (inl (more, omega arith))) | inr many ↦ inr (inr (inr many)) ]
  ]
]

decode-encode : (unit : ℕ) (rest : List ℕ) → decode (encode unit ++ rest) ≡ Some (unit, rest)
decode-encode unit rest = elim (sizes unit) [
  | inl none ↦ subst (λ u. decode (encode u ++ rest) ≡ Some (u, rest)) (sym none) refl
  | inr (inl one) ↦ ap (λ bytes. decode (bytes ++ rest)) (encode-one unit one.0 one.1) ∙ decode-one unit rest one.1
  | inr (inr (inl some)) ↦ ap (λ bytes. decode (bytes ++ rest)) (encode-two unit some.0 some.1) ∙ decode-two unit rest some.1
  | inr (inr (inr many)) ↦ ap (λ bytes. decode (bytes ++ rest)) (encode-three unit many) ∙ decode-three unit rest
]

pub one_unit : (unit other : ℕ) (rest more : List ℕ) → encode unit ++ rest ≡ encode other ++ more → (unit ≡ other) × (rest ≡ more)
one_unit unit other rest more same =
    let e : ◌≡◌ {A = Option (ℕ × List ℕ)} (Some (unit, rest)) (Some (other, more)) = sym (decode-encode unit rest) ∙ ap decode same ∙ decode-encode other more in
    let pair : ◌≡◌ {A = ℕ × List ℕ} (unit, rest) (other, more) = cc in
    (ap (λ (p : ℕ × List ℕ). p.0) pair, ap (λ (p : ℕ × List ℕ). p.1) pair)

no_bytes : (unit : ℕ) (rest : List ℕ) → encode unit ++ rest ≢ []
no_bytes unit rest same =
    let e : ◌≡◌ {A = Option (ℕ × List ℕ)} (Some (unit, rest)) None = sym (decode-encode unit rest) ∙ ap decode same in
    (let none : ⊥ = cc in none)

-- bytes spell one list of units
pub one_list : (units others : List ℕ) → spell_units units ≡ spell_units others → units ≡ others
one_list [] [] same = refl
one_list [] (other ∷ others) same = absurd (no_bytes other (spell_units others) (sym same))
one_list (unit ∷ units) [] same = absurd (no_bytes unit (spell_units units) same)
one_list (unit ∷ units) (other ∷ others) same =
    let first = one_unit unit other (spell_units units) (spell_units others) same in
    let later = one_list units others first.1 in
    (let f : unit ∷ units ≡ other ∷ others = cc (first.0, later) in f)

-- what spells the bytes is the one list that does
pub only_units : (made bytes : List ℕ) → spell_units made ≡ bytes → (units : List ℕ) → All IsUnit units → spell_units units ≡ bytes → made ≡ units
only_units made bytes spelled units are same = one_list made units (spelled ∙ sym same)

-- what goes on with no unit isn't spelled
no_units : (before units left : List ℕ) → left ≢ [] → ((unit : ℕ) (rest : List ℕ) → IsUnit unit → encode unit ++ rest ≢ left) → All IsUnit units → spell_units units ≢ spell_units before ++ left
no_units [] [] left some wrong are same = some (sym same)
no_units [] (unit ∷ units) left some wrong are same = wrong unit (spell_units units) (All-head IsUnit unit units are) same
no_units (first ∷ before) [] left some wrong are same = no_bytes first (spell_units before ++ left) (sym (append_assoc (encode first) (spell_units before) left) ∙ sym same)
no_units (first ∷ before) (unit ∷ units) left some wrong are same =
    no_units before units left some wrong (All-tail IsUnit unit units are)
    (one_unit unit first (spell_units units) (spell_units before ++ left) (same ∙ append_assoc (encode first) (spell_units before) left)).1

-- where the bytes go on with no unit
pub no_units_at : (bytes before : List ℕ) (at : ℕ) → All IsUnit before → spell_units before ≡ take at bytes → at < length bytes → ((unit : ℕ) (rest : List ℕ) → IsUnit unit → encode unit ++ rest ≢ drop at bytes) → AreNoUnits bytes at
no_units_at bytes before at are spelled within wrong = record {
  unspelled = λ units units_are same. no_units before units (drop at bytes)
      (λ none. absurd (omega (arith, ap length none, length-drop at bytes))) wrong units_are (same ∙ sym (take-append-drop at bytes) ∙ ap (λ u. u ++ drop at bytes) (sym spelled));
  before = before;
  before_are = are;
  spelled = spelled;
  within = within;
  wrong = wrong;
}

-- the spelling of one unit more
pub spell_units-push : (units bytes : List ℕ) (unit at size : ℕ) → spell_units units ≡ take at bytes → encode unit ≡ take size (drop at bytes) → spell_units (units ++ unit ∷ []) ≡ take (at + size) bytes
spell_units-push units bytes unit at size before next =
    flat_map-append encode units (unit ∷ []) ∙ ap (λ u. spell_units units ++ u) (append-nil (encode unit)) ∙ (let f : spell_units units ++ encode unit ≡ take at bytes ++ take size (drop at bytes) = cc (before, next) in f) ∙ sym (take-add at size bytes)

-- the spelling of one unit more of a list
pub spelled_more : (units : List ℕ) (i unit : ℕ) (before after : List ℕ) → i < length units → unit ≡ get_or units i 0 → before ≡ spell_units (take i units) → after ≡ before ++ encode unit → after ≡ spell_units (take (i + 1) units)
spelled_more units i unit before after within is spelled pushed =
    pushed ∙ ap (λ bytes. bytes ++ encode unit) spelled ∙ ap (λ last. spell_units (take i units) ++ encode last) is
    ∙ sym (ap spell_units (take_more units i 0 within) ∙ flat_map-append encode (take i units) (get_or units i 0 ∷ []) ∙ ap (λ last. spell_units (take i units) ++ last) (append-nil (encode (get_or units i 0))))
