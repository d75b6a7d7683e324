-- The contents of the attributes of a name, one attribute after the other.
use Rattle.std.proofs.Common.{◌≡◌, ℕ, ◌+◌, ◌<◌, Bool, true, false, List, [], ◌∷◌, ◌++◌, map, filter, length, take, drop, get_or, Option, Some, None, refl, sym, ap, ◌∙◌}
use Rattle.std.specs.Str.{bytes_eq}
use Rattle.std.proofs.lemmas.List.{take_more, take-append-drop, map-append, append-nil}
use Rattle.std.proofs.lemmas.List.Elements.{filter-append}
use Rattle.std.proofs.lemmas.Slice.Eq.{bytes_eq-Decides}
use Rattle.dj_pool.specs.declared.raw.Attribute.{Attribute}
use Rattle.dj_pool.specs.declared.entry.Entry.{Entry}
use Rattle.dj_pool.specs.PoolFormat.{text_at}
use Rattle.dj_pool.specs.Attributes.{is_name, contents}

contents-append : (pool : List Entry) (name : List ℕ) (xs ys : List Attribute) → contents pool name (xs ++ ys) ≡ contents pool name xs ++ contents pool name ys
contents-append pool name xs ys =
    ap (λ (t : List Attribute). map (λ (a : Attribute). a.content) t) (filter-append (λ (a : Attribute). is_name name (text_at pool a.name)) xs ys)
    ∙ map-append (λ (a : Attribute). a.content) (filter (λ (a : Attribute). is_name name (text_at pool a.name)) xs) (filter (λ (a : Attribute). is_name name (text_at pool a.name)) ys)

is_name_same : (name : List ℕ) (found : Option (List ℕ)) → found ≡ Some name → is_name name found ≡ true
is_name_same name found is = rw is ((bytes_eq-Decides name name).1 refl)

false_unless : (b : Bool) → (b ≡ true → ⊥) → b ≡ false
false_unless true refuted = absurd (refuted refl)
false_unless false refuted = refl

is_name_other : (name : List ℕ) (found : Option (List ℕ)) → (found ≡ Some name → ⊥) → is_name name found ≡ false
is_name_other name None other = refl
is_name_other name (Some units) other = false_unless (bytes_eq units name) (λ same. other (ap Some ((bytes_eq-Decides units name).0 same)))

-- one more attribute, of the name
pub contents_named : (pool : List Entry) (name : List ℕ) (before : List Attribute) (a : Attribute) → text_at pool a.name ≡ Some name → contents pool name (before ++ a ∷ []) ≡ contents pool name before ++ a.content ∷ []
contents_named pool name before a is =
    let one : contents pool name (a ∷ []) ≡ a.content ∷ [] = rw (is_name_same name (text_at pool a.name) is) refl in
    contents-append pool name before (a ∷ []) ∙ ap (λ (t : List (List ℕ)). contents pool name before ++ t) one

-- one more attribute, of another
pub contents_other : (pool : List Entry) (name : List ℕ) (before : List Attribute) (a : Attribute) → (text_at pool a.name ≡ Some name → ⊥) → contents pool name (before ++ a ∷ []) ≡ contents pool name before
contents_other pool name before a other =
    let none : contents pool name (a ∷ []) ≡ [] = rw (is_name_other name (text_at pool a.name) other) refl in
    contents-append pool name before (a ∷ []) ∙ ap (λ (t : List (List ℕ)). contents pool name before ++ t) none ∙ append-nil (contents pool name before)

-- ---- attributes at hand

-- what is at hand, and one attribute more
taken_more : (xs : List Attribute) (i : ℕ) (a : Attribute) → i < length xs → a ≡ get_or xs i a → take (i + 1) xs ≡ take i xs ++ a ∷ []
taken_more xs i a within is = take_more xs i a within ∙ ap (λ (t : Attribute). take i xs ++ t ∷ []) (sym is)

-- an attribute of another name
pub taken_other : (pool : List Entry) (name : List ℕ) (xs : List Attribute) (i : ℕ) (a : Attribute) → i < length xs → a ≡ get_or xs i a → (text_at pool a.name ≡ Some name → ⊥)
    → contents pool name (take (i + 1) xs) ≡ contents pool name (take i xs)
taken_other pool name xs i a within is other = ap (contents pool name) (taken_more xs i a within is) ∙ contents_other pool name (take i xs) a other

-- the first attribute of the name
pub named_is_there : (pool : List Entry) (name : List ℕ) (xs : List Attribute) (i : ℕ) (a : Attribute) → i < length xs → a ≡ get_or xs i a → text_at pool a.name ≡ Some name
    → contents pool name (take i xs) ≡ [] → contents pool name xs ≡ a.content ∷ contents pool name (drop (i + 1) xs)
named_is_there pool name xs i a within is named none =
    ap (contents pool name) (sym (take-append-drop (i + 1) xs)) ∙ contents-append pool name (take (i + 1) xs) (drop (i + 1) xs)
    ∙ ap (λ (t : List (List ℕ)). t ++ contents pool name (drop (i + 1) xs)) (ap (contents pool name) (taken_more xs i a within is) ∙ contents_named pool name (take i xs) a named ∙ ap (λ (t : List (List ℕ)). t ++ a.content ∷ []) none)
