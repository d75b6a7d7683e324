-- The words of modifiers give back the bits that they show.
use Rattle.std.proofs.Common.{◌≡◌, ℕ, ◌^◌, ◌==◌, Bool, true, false, List, [], ◌∷◌, ◌++◌, ◌⊎◌, inl, inr, bit_and, bit_or, refl, sym, ap, ◌∙◌, subst, append_assoc, Some, None, eqb-true}
use Rattle.std.specs.Prelude.{if◌then◌else◌, codes}
use Rattle.std.proofs.lemmas.Bool.{eqb-false}
use Rattle.std.specs.Int.Bits.{and_zero_r}
use Rattle.std.specs.List.{AllByRecursion, flat_map}
use Rattle.std.proofs.lemmas.Grind.{flat_map-append}
use Rattle.dj_syntax.specs.Items.{render, item_text}
use Rattle.dj_syntax.specs.UnitText.{modifiers, modifier_items, modifiers_items}
use Rattle.dj_tokens.specs.Words.{Words, words, first_word, comes}
use Rattle.dj_grammar.specs.Members.{modifier_of, read_modifiers, ends_members}
use Rattle.dj_grammar.proofs.MaskLemmas.{and_and, and_or, or-zero, one_bit}

-- the word of a modifier, where its bit is among these
abbrev pub modifier_words : ℕ → ℕ × List ℕ → Words
modifier_words bits modifier = if bit_and bits modifier.0 == 0 then [] else modifier.1 ∷ []

-- the words of the modifiers whose bits are among these
abbrev pub modifiers_words : ℕ → Words
modifiers_words bits = flat_map (modifier_words bits) modifiers

-- a modifier's word gives its bit, and a blank ends it
record IsModifier (modifier : ℕ × List ℕ) : Type 0 where
  place : ℕ
  bit : modifier.0 ≡ 2 ^ place
  given : modifier_of modifier.1 ≡ Some modifier.0
  word : (text : List ℕ) → words (modifier.1 ++ 32 ∷ text) ≡ modifier.1 ∷ words text

of_bit : {modifier : ℕ × List ℕ} (place : ℕ) → modifier.0 ≡ 2 ^ place → modifier_of modifier.1 ≡ Some modifier.0 → ((text : List ℕ) → words (modifier.1 ++ 32 ∷ text) ≡ modifier.1 ∷ words text) → IsModifier modifier
of_bit place bit given word = record { place = place; bit = bit; given = given; word = word }

-- the places of the modifiers' bits, in the order in which they are written
modifiers_are : AllByRecursion IsModifier modifiers
modifiers_are =
    (of_bit 0 refl refl (λ text. refl), (of_bit 2 refl refl (λ text. refl), (of_bit 1 refl refl (λ text. refl), (of_bit 10 refl refl (λ text. refl), (of_bit 3 refl refl (λ text. refl), (of_bit 4 refl refl (λ text. refl), (of_bit 5 refl refl (λ text. refl), (of_bit 8 refl refl (λ text. refl), (of_bit 7 refl refl (λ text. refl), (of_bit 6 refl refl (λ text. refl), tt))))))))))

-- ---- as text

modifier_text : (bits : ℕ) (modifier : ℕ × List ℕ) (text : List ℕ) → IsModifier modifier → words (render (modifier_items bits modifier) ++ text) ≡ modifier_words bits modifier ++ words text
modifier_text bits modifier text is = go (bit_and bits modifier.0 == 0) refl
  where
    go : (none : Bool) → (bit_and bits modifier.0 == 0) ≡ none → words (render (modifier_items bits modifier) ++ text) ≡ modifier_words bits modifier ++ words text
    go true e = rw e
    go false e = rw (e, append_assoc modifier.1 (32 ∷ []) text) (is.word text)

modifiers_text : (bits : ℕ) (list : List (ℕ × List ℕ)) (text : List ℕ) → AllByRecursion IsModifier list → words (render (flat_map (modifier_items bits) list) ++ text) ≡ flat_map (modifier_words bits) list ++ words text
modifiers_text bits [] text are = refl
modifiers_text bits (modifier ∷ rest) text are =
    rw (flat_map-append item_text (modifier_items bits modifier) (flat_map (modifier_items bits) rest), append_assoc (render (modifier_items bits modifier)) (render (flat_map (modifier_items bits) rest)) text, append_assoc (modifier_words bits modifier) (flat_map (modifier_words bits) rest) (words text))
    (modifier_text bits modifier (render (flat_map (modifier_items bits) rest) ++ text) are.0 ∙ ap (λ rest. modifier_words bits modifier ++ rest) (modifiers_text bits rest text are.1))

-- modifiers are spelled as their words
pub modifiers_are_words : (bits : ℕ) (text : List ℕ) → words (render (modifiers_items bits) ++ text) ≡ modifiers_words bits ++ words text
modifiers_are_words bits text = modifiers_text bits modifiers text modifiers_are

-- ---- as words

-- none of a bit, or all of it
abbrev IsOneOf : ℕ → ℕ → Type 0
IsOneOf bits bit = (bit_and bits bit ≡ 0) ⊎ (bit_and bits bit ≡ bit)

modifier_reads : (bits mask : ℕ) (modifier : ℕ × List ℕ) (list : Words) → IsModifier modifier
    → read_modifiers (bit_and bits mask) (modifier_words bits modifier ++ list) ≡ read_modifiers (bit_and bits (bit_or mask modifier.0)) list
modifier_reads bits mask modifier list is = go (bit_and bits modifier.0 == 0) refl (subst (IsOneOf bits) (sym is.bit) (one_bit bits is.place))
  where
    go : (none : Bool) → (bit_and bits modifier.0 == 0) ≡ none → IsOneOf bits modifier.0 → read_modifiers (bit_and bits mask) (modifier_words bits modifier ++ list) ≡ read_modifiers (bit_and bits (bit_or mask modifier.0)) list
    go true e one =
        let with : bit_and bits (bit_or mask modifier.0) ≡ bit_and bits mask = sym (and_or bits mask modifier.0) ∙ ap (bit_or (bit_and bits mask)) (eqb-true _ 0 e) ∙ or-zero (bit_and bits mask) in
        rw (e, with)
    go false e (inl none) = absurd (eqb-false _ 0 e none)
    go false e (inr one) =
        let with : bit_and bits (bit_or mask modifier.0) ≡ bit_or (bit_and bits mask) modifier.0 = sym (and_or bits mask modifier.0) ∙ ap (bit_or (bit_and bits mask)) one in
        rw (e, is.given, with)

-- the bits of modifiers, with these
abbrev bits_of : ℕ → List (ℕ × List ℕ) → ℕ
bits_of mask [] = mask
bits_of mask (modifier ∷ rest) = bits_of (bit_or mask modifier.0) rest

modifiers_read : (bits mask : ℕ) (all : List (ℕ × List ℕ)) (list : Words) → AllByRecursion IsModifier all
    → read_modifiers (bit_and bits mask) (flat_map (modifier_words bits) all ++ list) ≡ read_modifiers (bit_and bits (bits_of mask all)) list
modifiers_read bits mask [] list are = refl
modifiers_read bits mask (modifier ∷ rest) list are =
    rw (append_assoc (modifier_words bits modifier) (flat_map (modifier_words bits) rest) list)
    (modifier_reads bits mask modifier (flat_map (modifier_words bits) rest ++ list) are.0 ∙ modifiers_read bits (bit_or mask modifier.0) rest list are.1)

-- modifiers end where no modifier comes
pub modifiers_end : (bits : ℕ) (list : Words) → modifier_of (first_word list) ≡ None → read_modifiers bits list ≡ (bits, list)
modifiers_end bits [] other = refl
modifiers_end bits (word ∷ rest) other = rw other

-- the bits of all modifiers
abbrev pub modifier_bits : ℕ
modifier_bits = 0x05ff

-- modifiers are read as far as their words go
pub modifiers_begin : (flags mask : ℕ) (list : Words) → bit_and mask modifier_bits ≡ mask → read_modifiers 0 (modifiers_words (bit_and flags mask) ++ list) ≡ read_modifiers (bit_and flags mask) list
modifiers_begin flags mask list within =
    let bits = bit_and flags mask in
    ap (λ none. read_modifiers none (modifiers_words bits ++ list)) (sym (and_zero_r bits))
    ∙ modifiers_read bits 0 modifiers list modifiers_are
    ∙ ap (λ bits. read_modifiers bits list) (and_and flags mask modifier_bits ∙ ap (bit_and flags) within)

-- modifiers are read from their words
pub modifiers_are_read : (flags mask : ℕ) (list : Words) → bit_and mask modifier_bits ≡ mask → modifier_of (first_word list) ≡ None
    → read_modifiers 0 (modifiers_words (bit_and flags mask) ++ list) ≡ (bit_and flags mask, list)
modifiers_are_read flags mask list within other = modifiers_begin flags mask list within ∙ modifiers_end (bit_and flags mask) list other

-- ---- the first word

-- a test fails at each of these modifiers
abbrev FailsAt : (Words → Bool) → List (ℕ × List ℕ) → Type 0
FailsAt test = AllByRecursion (λ modifier. (rest : Words) → test (modifier.1 ∷ rest) ≡ false)

first_fails : (test : Words → Bool) (bits : ℕ) (all : List (ℕ × List ℕ)) (list : Words) → FailsAt test all → test list ≡ false → test (flat_map (modifier_words bits) all ++ list) ≡ false
first_fails test bits [] list fails other = other
first_fails test bits (modifier ∷ rest) list fails other =
    go (bit_and bits modifier.0 == 0) (flat_map (modifier_words bits) rest) (fails.0 (flat_map (modifier_words bits) rest ++ list)) (first_fails test bits rest list fails.1 other)
  where
    go : (none : Bool) (more : Words) → test (modifier.1 ∷ (more ++ list)) ≡ false → test (more ++ list) ≡ false → test (((if none then [] else modifier.1 ∷ []) ++ more) ++ list) ≡ false
    go true more here there = there
    go false more here there = here

-- modifiers don't end members
pub modifiers_last : (bits : ℕ) (list : Words) → ends_members list ≡ false → ends_members (modifiers_words bits ++ list) ≡ false
modifiers_last bits list =
    first_fails ends_members bits modifiers list (λ rest. refl, (λ rest. refl, (λ rest. refl, (λ rest. refl, (λ rest. refl, (λ rest. refl, (λ rest. refl, (λ rest. refl, (λ rest. refl, (λ rest. refl, tt))))))))))

-- modifiers don't name a package
pub modifiers_no_package : (bits : ℕ) (list : Words) → comes (codes "package") list ≡ false → comes (codes "package") (modifiers_words bits ++ list) ≡ false
modifiers_no_package bits list =
    first_fails (comes (codes "package")) bits modifiers list (λ rest. refl, (λ rest. refl, (λ rest. refl, (λ rest. refl, (λ rest. refl, (λ rest. refl, (λ rest. refl, (λ rest. refl, (λ rest. refl, (λ rest. refl, tt))))))))))
