-- What the text of names, indentations and lists is, piece by piece.
use Rattle.std.proofs.Common.{◌≡◌, ◌≢◌, ◌⊎◌, inl, inr, ne_eqb, ℕ, ℤ, suc, pos, negsuc, ◌+◌, ◌*◌, ◌<◌, ◌≤◌, ◌==◌, if◌then◌else◌, Bool, true, false, List, [], ◌∷◌, ◌++◌, map, length, take, drop, get_or, refl, sym, ap, ◌∙◌, subst, arith, append_assoc, append-nil, length-drop, ◌-◌}
use Rattle.std.specs.Prelude.{replicate, codes, min, Some, None, All}
use Rattle.std.specs.List.{flat_map}
use Rattle.std.proofs.lemmas.List.{at_drop_all, drop-map, drop_more, get_or-map, length-map, replicate-append-replicate, take_all}
use Rattle.std.specs.List.{AllByRecursion}
use Rattle.std.specs.Fmt.{decimal, signed_decimal}
use Rattle.std.proofs.lemmas.List.{map-append}
use Rattle.std.proofs.lemmas.List.Elements.{All-drop, All-weaker, recursion_from_All}
use Rattle.dj_names.specs.Identifiers.{IsLetter, IsDigit, IsIdentifierChars, IsIdentifier}
use Rattle.std.proofs.lemmas.Grind.{flat_map-append}
use Rattle.dj_names.specs.ClassNames.{segments, in_front}
use Rattle.dj_names.proofs.SegmentLemmas.{some_segment}
use Rattle.dj_print.specs.Spelled.{dot}
use Rattle.dj_syntax.specs.declared.variable.Var.{Var}
use Rattle.dj_syntax.specs.Items.{Item, Line, Space, item_text, render, separated}
use Rattle.dj_syntax.specs.UnitText.{Spellings, dotted, modifiers, modifiers_items, modifier_items, sign, word, long_items, parenthesised, rethrow_items, variable_name}

-- ---- names

-- the text of parts with dots between them
abbrev joined : List (List ℕ) → List ℕ
joined parts = render (separated (sign (codes ".") ∷ []) (map (λ segment. word segment ∷ []) parts))

in_front_joined : (unit : ℕ) (parts : List (List ℕ)) → joined (in_front unit parts) ≡ unit ∷ joined parts
in_front_joined unit [] = refl
in_front_joined unit (first ∷ rest) = refl

after_dot : (parts : List (List ℕ)) → 0 < length parts → joined ([] ∷ parts) ≡ 46 ∷ joined parts
after_dot [] some = absurd (omega arith)
after_dot (first ∷ rest) some = refl

choice_joined : (slash : Bool) (unit : ℕ) (parts : List (List ℕ)) → 0 < length parts → joined (if slash then [] ∷ parts else in_front unit parts) ≡ (if slash then 46 else unit) ∷ joined parts
choice_joined true unit parts some = after_dot parts some
choice_joined false unit parts some = in_front_joined unit parts

-- a class's name in full has a dot for each slash, and is else as it is
pub dotted_text : (name : List ℕ) → render (dotted name) ≡ map dot name
dotted_text [] = refl
dotted_text (unit ∷ rest) =
    choice_joined (unit == 47) unit (segments rest) (some_segment rest) ∙ ap (λ text. dot unit ∷ text) (dotted_text rest)

-- the text of a class's name behind its package
pub dotted_joined : (front last : List ℕ) → render (dotted (front ++ 47 ∷ last)) ≡ render (dotted front) ++ (codes "." ++ render (dotted last))
dotted_joined front last =
    let e1 = dotted_text (front ++ 47 ∷ last) in
    let e2 = dotted_text front in
    let e3 = dotted_text last in
    let joined : map dot (front ++ 47 ∷ last) ≡ map dot front ++ (46 ∷ map dot last) = map-append dot front (47 ∷ last) in
    cc

-- a name without slashes is its text
same_dots : (name : List ℕ) → AllByRecursion (λ unit. unit ≢ 47) name → map dot name ≡ name
same_dots [] plain = refl
same_dots (unit ∷ rest) plain = let e = ne_eqb unit 47 plain.0 in rw (e, same_dots rest plain.1) refl

letter_plain : (unit : ℕ) → IsLetter unit ⊎ IsDigit unit → unit ≢ 47
letter_plain unit (inl (inl h)) e = omega arith
letter_plain unit (inl (inr (inl h))) e = omega arith
letter_plain unit (inl (inr (inr (inl h)))) e = omega arith
letter_plain unit (inl (inr (inr (inr h)))) e = omega arith
letter_plain unit (inr h) e = omega arith

plain_chars : (name : List ℕ) → IsIdentifierChars name → AllByRecursion (λ unit. unit ≢ 47) name
plain_chars [] h = absurd h
plain_chars (first ∷ rest) (letter, others) =
    (letter_plain first (inl letter), recursion_from_All (λ unit. unit ≢ 47) rest (All-weaker (λ unit. IsLetter unit ⊎ IsDigit unit) (λ unit. unit ≢ 47) letter_plain rest others))

-- the text of a simple name as that of a class
pub dotted_simple : (name : List ℕ) → IsIdentifier name → render (dotted name) ≡ name
dotted_simple name h = dotted_text name ∙ same_dots name (plain_chars name h.chars)

-- ---- numbers

-- a long literal is its digits behind their sign, and `L`
pub long_text : (value : ℤ) → render (long_items value) ≡ signed_decimal value ++ codes "L"
long_text (pos n) = append-nil (decimal n ++ codes "L")
long_text (negsuc n) = ap (λ text. 45 ∷ text) (append-nil (decimal (suc n) ++ codes "L"))

-- ---- lines

-- one more level is four more spaces
pub indented_more : (n : ℕ) → replicate {A = ℕ} (4 * (n + 1)) 32 ≡ replicate (4 * n) 32 ++ (32 ∷ 32 ∷ 32 ∷ 32 ∷ [])
indented_more n = let e : 4 * (n + 1) ≡ 4 * n + 4 = omega arith in rw e (sym (replicate-append-replicate (4 * n) 4 32))

-- ---- lists

-- what stands behind the first element
rest_of : {A : Type 0} (xs : List A) → take (length xs - 1) (drop 1 xs) ≡ drop 1 xs
rest_of xs = let short : length (drop 1 xs) ≤ length xs - 1 = omega (arith, length-drop 1 xs) in take_all (length xs - 1) (drop 1 xs) short

-- what holds of each element holds of each behind the first
pub all_tail : {A : Type 0} (P : A → Type 0) (xs : List A) → All P xs → All P (take (length xs - 1) (drop 1 xs))
all_tail P xs all = subst (All P) (sym (rest_of xs)) (All-drop P 1 xs all)

-- a list that isn't empty is its first element and the rest
pub first_rest : {A : Type 0} (xs : List A) (x : A) → 1 ≤ length xs → x ≡ get_or xs 0 x → xs ≡ x ∷ take (length xs - 1) (drop 1 xs)
first_rest xs x some is =
    drop_more xs 0 x (omega arith) ∙ ap (λ head. head ∷ drop 1 xs) (sym is) ∙ ap (λ tail. x ∷ tail) (sym (rest_of xs))

-- ---- the helper

-- a throw through the helper
pub rethrow_text : (names : Spellings) (variable : Var) → render (rethrow_items names variable)
    ≡ codes "throw " ++ (render (names.class_name names.class) ++ (codes ".<java.lang.RuntimeException>" ++ (names.helper ++ (codes "(" ++ (variable_name variable ++ codes ");")))))
rethrow_text names variable =
    ap (λ text. codes "throw " ++ text)
    (flat_map-append item_text (names.class_name names.class) (sign (codes ".") ∷ sign (codes "<") ∷ (dotted (codes "java/lang/RuntimeException") ++ sign (codes ">") ∷ word names.helper ∷ (parenthesised (word (variable_name variable) ∷ []) ++ sign (codes ";") ∷ []))))

-- ---- modifiers

modifier_split : (bits : ℕ) (modifier : ℕ × List ℕ) (rest : List (ℕ × List ℕ))
    → render (flat_map (modifier_items bits) (modifier ∷ rest)) ≡ render (modifier_items bits modifier) ++ render (flat_map (modifier_items bits) rest)
modifier_split bits modifier rest = flat_map-append item_text (modifier_items bits modifier) (flat_map (modifier_items bits) rest)

-- ten modifiers, one after another
pub modifiers_text : (bits : ℕ) → render (modifiers_items bits)
    ≡ render (modifier_items bits (0x0001, codes "public"))
    ++ (render (modifier_items bits (0x0004, codes "protected"))
    ++ (render (modifier_items bits (0x0002, codes "private"))
    ++ (render (modifier_items bits (0x0400, codes "abstract"))
    ++ (render (modifier_items bits (0x0008, codes "static"))
    ++ (render (modifier_items bits (0x0010, codes "final"))
    ++ (render (modifier_items bits (0x0020, codes "synchronized"))
    ++ (render (modifier_items bits (0x0100, codes "native"))
    ++ (render (modifier_items bits (0x0080, codes "transient"))
    ++ (render (modifier_items bits (0x0040, codes "volatile")))))))))))
modifiers_text bits =
    modifier_split bits (0x0001, codes "public") (drop 1 modifiers) ∙ ap (λ text. render (modifier_items bits (0x0001, codes "public")) ++ text)
    (modifier_split bits (0x0004, codes "protected") (drop 2 modifiers) ∙ ap (λ text. render (modifier_items bits (0x0004, codes "protected")) ++ text)
    (modifier_split bits (0x0002, codes "private") (drop 3 modifiers) ∙ ap (λ text. render (modifier_items bits (0x0002, codes "private")) ++ text)
    (modifier_split bits (0x0400, codes "abstract") (drop 4 modifiers) ∙ ap (λ text. render (modifier_items bits (0x0400, codes "abstract")) ++ text)
    (modifier_split bits (0x0008, codes "static") (drop 5 modifiers) ∙ ap (λ text. render (modifier_items bits (0x0008, codes "static")) ++ text)
    (modifier_split bits (0x0010, codes "final") (drop 6 modifiers) ∙ ap (λ text. render (modifier_items bits (0x0010, codes "final")) ++ text)
    (modifier_split bits (0x0020, codes "synchronized") (drop 7 modifiers) ∙ ap (λ text. render (modifier_items bits (0x0020, codes "synchronized")) ++ text)
    (modifier_split bits (0x0100, codes "native") (drop 8 modifiers) ∙ ap (λ text. render (modifier_items bits (0x0100, codes "native")) ++ text)
    (modifier_split bits (0x0080, codes "transient") (drop 9 modifiers) ∙ ap (λ text. render (modifier_items bits (0x0080, codes "transient")) ++ text)
    (modifier_split bits (0x0040, codes "volatile") [] ∙ append-nil (render (modifier_items bits (0x0040, codes "volatile"))))))))))))
