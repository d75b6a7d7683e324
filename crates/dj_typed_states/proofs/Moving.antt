-- Shuffles move values as they move their tags.
use Rattle.std.proofs.Common.{◌≡◌, ◌⊎◌, ℕ, zero, suc, ◌<◌, ◌≤◌, ◌==◌, ◌&&◌, ◌||◌, not, nat_lt, Bool, true, false, List, [], ◌∷◌, ◌++◌, length, map, take, drop, Option, Some, None, IsSome, refl, sym, ap, ◌∙◌, subst, arith, inl, inr}
use Rattle.std.specs.Prelude.{if◌then◌else◌, slice_index_or}
use Rattle.std.specs.List.{list_all}
use Rattle.std.proofs.lemmas.Bool.{true≢false, false≢true}
use Rattle.std.proofs.lemmas.Bool.Decides.{Decides-eqb, nat_tests}
use Rattle.dj_names.specs.declared.header.Header.{Header}
use Rattle.dj_values.specs.Values.{Value, Null}
use Rattle.dj_values.specs.Outcomes.{there}
use Rattle.dj_frames.specs.Frames.{Tag}
use Rattle.dj_effects.specs.Works as works
use Rattle.dj_effects.specs.Operands.{moved_words, begins, form_of}
use Rattle.dj_effects.specs.Effects as effects
use Rattle.dj_bytecode.specs.Shuffles.{Form, value_words, has_words, moved, shuffled}
use Rattle.dj_typed_states.specs.Facts.{Facts}
use Rattle.dj_typed_states.specs.Held.{IsHeld, unknown, int, long, null, unborn_this, no_object, object, unborn, AllAre, none, more}
use Rattle.dj_typed_states.proofs.Replies.{Replies}

-- ---- lists of values and of tags

module _ {A B : Type 0} {Is : A → B → Type 0} where
  pub all_append : {ones ones' : List A} {others others' : List B} → AllAre Is ones others → AllAre Is ones' others' → AllAre Is (ones ++ ones') (others ++ others')
  all_append none behind = behind
  all_append (more is are) behind = more is (all_append are behind)

  pub all_drop : (n : ℕ) {ones : List A} {others : List B} → AllAre Is ones others → AllAre Is (drop n ones) (drop n others)
  all_drop zero are = are
  all_drop (suc n) none = none
  all_drop (suc n) (more is are) = all_drop n are

and_both : (first second : Bool) → first && second ≡ true → (first ≡ true) × (second ≡ true)
and_both true true is = (refl, refl)
and_both true false is = absurd (false≢true is)
and_both false second is = absurd (false≢true is)

-- ---- words

-- no number is 0
abbrev are_positive : List ℕ → Bool
are_positive [] = true
are_positive (first ∷ rest) = not (first == 0) && are_positive rest

-- two lists differ in a place that both have
abbrev are_apart : List ℕ → List ℕ → Bool
are_apart [] second = false
are_apart (first ∷ rest) [] = false
are_apart (first ∷ rest) (other ∷ others) = not (first == other) || are_apart rest others

-- a value has the words of its tag, where these are known
held_words : {facts : Facts} {held : Tag} {value : Value} → IsHeld facts held value → (moved_words held ≡ 0) ⊎ (value_words value ≡ moved_words held)
held_words unknown = inl refl
held_words int = inr refl
held_words long = inr refl
held_words null = inr refl
held_words (unborn_this is) = inr refl
held_words no_object = inr refl
held_words (object is) = inr refl
held_words (unborn is) = inr refl

one_word : (wanted words found : ℕ) → not (wanted == 0) ≡ true → wanted == words ≡ true → (words ≡ 0) ⊎ (found ≡ words) → found == wanted ≡ true
one_word wanted words found some is (inl zero_words) = grind (arith, nat_tests)
one_word wanted words found some is (inr same) = grind (arith, nat_tests)

-- values have the words that their tags begin with
words_found : {facts : Facts} (wanted : List ℕ) {tags : List Tag} {stack : List Value} → are_positive wanted ≡ true → AllAre (IsHeld facts) tags stack → begins wanted (map moved_words tags) ≡ true → has_words wanted stack ≡ true
words_found [] some are is = refl
words_found (first ∷ rest) some none is = absurd (false≢true is)
words_found (first ∷ rest) some (more {first = held} {other = value} {ones = tags} one are) is =
    let positive = and_both (not (first == 0)) (are_positive rest) some in
    let parts = and_both (first == moved_words held) (begins rest (map moved_words tags)) is in
    rw (one_word first (moved_words held) (value_words value) positive.0 parts.0 (held_words one)) (words_found rest positive.1 are parts.1)

apart_here : (other wanted found : ℕ) (later : Bool) → not (other == wanted) || later ≡ true → found == wanted ≡ true → found == other ≡ true → later ≡ true
apart_here other wanted found later apart is also = go (other == wanted) refl apart
  where
    go : (test : Bool) → other == wanted ≡ test → not test || later ≡ true → later ≡ true
    go true same rest = rest
    go false differ rest =
        let e : other ≡ wanted = grind (arith, nat_tests) in
        absurd (true≢false (sym ((Decides-eqb other wanted).1 e) ∙ differ))

-- and not words that are apart from these
words_apart : (other wanted : List ℕ) (stack : List Value) → are_apart other wanted ≡ true → has_words wanted stack ≡ true → has_words other stack ≡ false
words_apart [] wanted stack apart is = absurd (false≢true apart)
words_apart (first ∷ rest) [] stack apart is = absurd (false≢true apart)
words_apart (first ∷ rest) (word ∷ words) [] apart is = absurd (false≢true is)
words_apart (first ∷ rest) (word ∷ words) (top ∷ below) apart is =
    let parts = and_both (value_words top == word) (has_words words below) is in
    go (value_words top == first) refl (λ same. words_apart rest words below (apart_here first word (value_words top) (are_apart rest words) apart parts.0 same) parts.1)
  where
    go : (test : Bool) → value_words top == first ≡ test → (value_words top == first ≡ true → has_words rest below ≡ false) → test && has_words rest below ≡ false
    go false differ later = refl
    go true same later = later same

-- ---- forms

-- a form as the machine has it
abbrev pub as_moved : works.Form → Form
as_moved form = record { takes = form.takes; gives = form.gives }

-- places are below a number
abbrev are_below : ℕ → List ℕ → Bool
are_below count [] = true
are_below count (place ∷ places) = nat_lt place count && are_below count places

-- a form takes values that are known, and gives those that it takes
abbrev is_lawful : works.Form → Bool
is_lawful form = are_positive form.takes && are_below (length form.takes) form.gives

-- forms that are lawful, of which no two fit one stack
abbrev pub are_lawful : List works.Form → Bool
are_lawful [] = true
are_lawful (form ∷ forms) = is_lawful form && (list_all (λ other. are_apart form.takes other.takes) forms && are_lawful forms)

-- the form that fits, and what is known of it
record IsFit (words : List ℕ) (form : works.Form) : Type 0 where
  fits : begins form.takes words ≡ true
  lawful : is_lawful form ≡ true

fit_passes : (test : works.Form → Bool) (forms : List works.Form) (words : List ℕ) (form : works.Form) → list_all test forms ≡ true → form_of forms words ≡ Some form → test form ≡ true
fit_passes test [] words form all is = absurd (cc)
fit_passes test (first ∷ rest) words form all is =
    let parts = and_both (test first) (list_all test rest) all in
    go (begins first.takes words) is parts.0 (fit_passes test rest words form parts.1)
  where
    go : (fits : Bool) → (if fits then Some first else form_of rest words) ≡ Some form → test first ≡ true → (form_of rest words ≡ Some form → test form ≡ true) → test form ≡ true
    go true same here later = let e : first ≡ form = cc in subst (λ f. test f ≡ true) e here
    go false same here later = later same

form_fits : (forms : List works.Form) (words : List ℕ) (form : works.Form) → are_lawful forms ≡ true → form_of forms words ≡ Some form → IsFit words form
form_fits [] words form all is = absurd (cc)
form_fits (first ∷ rest) words form all is =
    let parts = and_both (is_lawful first) (list_all (λ other. are_apart first.takes other.takes) rest && are_lawful rest) all in
    let others = and_both (list_all (λ other. are_apart first.takes other.takes) rest) (are_lawful rest) parts.1 in
    go (begins first.takes words) refl is parts.0 (form_fits rest words form others.1)
  where
    go : (fits : Bool) → begins first.takes words ≡ fits → (if fits then Some first else form_of rest words) ≡ Some form → is_lawful first ≡ true → (form_of rest words ≡ Some form → IsFit words form) → IsFit words form
    go true fits same lawful later = let e : first ≡ form = cc in subst (IsFit words) e (record { fits = fits; lawful = lawful })
    go false fits same lawful later = later same

-- values are moved in the form that fits their tags
shuffled_so : (forms : List works.Form) (words : List ℕ) (stack : List Value) (form : works.Form) → are_lawful forms ≡ true → form_of forms words ≡ Some form → ((wanted : List ℕ) → are_positive wanted ≡ true → begins wanted words ≡ true → has_words wanted stack ≡ true) → has_words form.takes stack ≡ true
    → shuffled (map as_moved forms) stack ≡ Some (moved (as_moved form) stack)
shuffled_so [] words stack form all is found has = absurd (cc)
shuffled_so (first ∷ rest) words stack form all is found has =
    let parts = and_both (is_lawful first) (list_all (λ other. are_apart first.takes other.takes) rest && are_lawful rest) all in
    let others = and_both (list_all (λ other. are_apart first.takes other.takes) rest) (are_lawful rest) parts.1 in
    go (begins first.takes words) refl is (and_both (are_positive first.takes) (are_below (length first.takes) first.gives) parts.0).0
    (λ later. words_apart first.takes form.takes stack (fit_passes (λ other. are_apart first.takes other.takes) rest words form others.0 later) has) (λ later. shuffled_so rest words stack form others.1 later found has)
  where
    go : (fits : Bool) → begins first.takes words ≡ fits → (if fits then Some first else form_of rest words) ≡ Some form → are_positive first.takes ≡ true → (form_of rest words ≡ Some form → has_words first.takes stack ≡ false) → (form_of rest words ≡ Some form → shuffled (map as_moved rest) stack ≡ Some (moved (as_moved form) stack))
        → shuffled (map as_moved (first ∷ rest)) stack ≡ Some (moved (as_moved form) stack)
    go true fits same positive apart later =
        let e : first ≡ form = cc in
        rw (found first.takes positive fits) (ap (λ f. Some (moved (as_moved f) stack)) e)
    go false fits same positive apart later = rw (apart same) (later same)

-- ---- what is moved

picked_one : {facts : Facts} (place : ℕ) {tags : List Tag} {stack : List Value} {ones : List Tag} {others : List Value} → place < length tags → AllAre (IsHeld facts) tags stack → AllAre (IsHeld facts) ones others → AllAre (IsHeld facts) (take 1 (drop place tags) ++ ones) (slice_index_or stack place Null ∷ others)
picked_one place within none behind = absurd (omega arith)
picked_one zero within (more held are) behind = more held behind
picked_one (suc place) within (more held are) behind = picked_one place (omega arith) are behind

picked_all : {facts : Facts} (count : ℕ) (places : List ℕ) {tags : List Tag} {stack : List Value} → count ≤ length tags → are_below count places ≡ true → AllAre (IsHeld facts) tags stack → AllAre (IsHeld facts) (effects.picked places tags) (map (λ place. slice_index_or stack place Null) places)
picked_all count [] many below are = none
picked_all count (place ∷ places) {tags} many below are =
    let parts = and_both (nat_lt place count) (are_below count places) below in
    let within : place < length tags = grind (arith, nat_tests) in
    picked_one place within are (picked_all count places many parts.1 are)

begins_long : (wanted words : List ℕ) → begins wanted words ≡ true → length wanted ≤ length words
begins_long [] words is = omega arith
begins_long (first ∷ rest) [] is = absurd (false≢true is)
begins_long (first ∷ rest) (word ∷ words) is = let later = begins_long rest words (and_both (first == word) (begins rest words) is).1 in omega arith

moved_words_length : (tags : List Tag) → length (map moved_words tags) ≡ length tags
moved_words_length [] = refl
moved_words_length (first ∷ rest) = ap suc (moved_words_length rest)

pub moves_replies : (facts : Facts) (headers : List Header) (forms : List works.Form) {tags : List Tag} {stack : List Value} → are_lawful forms ≡ true → IsSome (form_of forms (map moved_words tags)) → AllAre (IsHeld facts) tags stack
    → Replies facts headers (AllAre (IsHeld facts) (effects.moved (form_of forms (map moved_words tags)) tags)) (there (shuffled (map as_moved forms) stack))
moves_replies facts headers forms {tags} {stack} lawful some are = go (form_of forms (map moved_words tags)) refl some
  where
    go : (found : Option works.Form) → form_of forms (map moved_words tags) ≡ found → IsSome found → Replies facts headers (AllAre (IsHeld facts) (effects.moved found tags)) (there (shuffled (map as_moved forms) stack))
    go None is some = absurd (false≢true some)
    go (Some form) is some =
        let fit = form_fits forms (map moved_words tags) form lawful is in
        let parts = and_both (are_positive form.takes) (are_below (length form.takes) form.gives) fit.lawful in
        let has = words_found form.takes parts.0 are fit.fits in
        let many : length form.takes ≤ length tags = let long = begins_long form.takes (map moved_words tags) fit.fits in let same = moved_words_length tags in omega arith in
        let e : shuffled (map as_moved forms) stack ≡ Some (moved (as_moved form) stack) = shuffled_so forms (map moved_words tags) stack form lawful is (λ wanted positive fits. words_found wanted positive are fits) has in
        rw e (all_append (picked_all (length form.takes) form.gives many parts.1 are) (all_drop (length form.takes) are))
