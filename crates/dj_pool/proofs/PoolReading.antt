-- Reading a pool: entries one after the other, each with the indices that it takes.
use Rattle.std.proofs.Common.{◌≡◌, ℕ, ◌+◌, ◌-◌, ◌≤◌, ◌<◌, ◌==◌, nat_le, Bool, true, false, List, [], ◌∷◌, ◌++◌, filter, length, Option, IsTrue, IsFalse, if◌then◌else◌, ◌||◌, refl, sym, ap, ◌∙◌, arith, length-append}
use Rattle.std.specs.List.{flat_map}
use Rattle.std.proofs.lemmas.Bool.Decides.{nat_tests}
use Rattle.std.proofs.lemmas.List.{append-nil}
use Rattle.std.proofs.lemmas.List.Elements.{filter-append}
use Rattle.std.proofs.lemmas.List.Sums.{sum_by_push, sum_by-cons}
use Rattle.std.proofs.lemmas.Grind.{flat_map-append}
use Rattle.dj_layout.specs.declared.fault.Stop.{Stop}
use Rattle.dj_layout.specs.Layout.{Layout, Spells, SpellsSome, SpellsAny, Stops}
use Rattle.dj_layout.specs.Parts.{exactly, tested}
use Rattle.dj_layout.proofs.PartsAreTotal.{together}
use Rattle.dj_layout.proofs.Sequences.{IsRead, read_none, read_more, read_stop, read_all}
use Rattle.dj_pool.specs.declared.fault.BrokenKind.{BrokenKind}
use Rattle.dj_pool.specs.declared.fault.BrokenKind.TheVariants as kind
use Rattle.dj_pool.specs.declared.entry.Entry.{Entry}
use Rattle.dj_pool.specs.declared.entry.Entry.TheVariants as entry
use Rattle.dj_pool.specs.SharedParts.{u2}
use Rattle.dj_pool.specs.PoolFormat.{tag_of, units_of, text, behind, content_of, tag_within, places, is_tag, spread, isnt_skip, places_of, spell_entry, entry_within, entries, pool}
use Rattle.dj_pool.proofs.PoolIsExact.{spelled_alike}

-- entries that take all of so many indices
abbrev enough : ℕ → List Entry → Bool
enough n xs = places_of xs == n

-- the entry that comes next
abbrev next : Option (List Entry) → ℕ → List Entry → Layout BrokenKind Entry
next given n before = entry_within given (n - places_of before)

-- these entries are read by index, and so many indices are left
pub record IsPoolRead (given : Option (List Entry)) (n : ℕ) (bytes : List ℕ) (found : List Entry) (rest : List ℕ) (room : ℕ) : Type 0 where
  pub read : IsRead spell_entry (enough n) (next given n) bytes (filter isnt_skip found) rest
  pub shape : found ≡ entry.Skip ∷ flat_map spread (filter isnt_skip found)
  pub left : places_of (filter isnt_skip found) + room ≡ n

pub none_read : (given : Option (List Entry)) (n : ℕ) (bytes : List ℕ) → IsPoolRead given n bytes (entry.Skip ∷ []) bytes n
none_read given n bytes = record { read = read_none spell_entry (enough n) (next given n) bytes; shape = refl; left = omega arith }

few : (n taken room : ℕ) → taken + room ≡ n → 0 < room → IsFalse (taken == n)
few n taken room left some = grind (arith, nat_tests)

all : (n taken room : ℕ) → taken + room ≡ n → room ≤ 0 → IsTrue (taken == n)
all n taken room left none = grind (arith, nat_tests)

small : (a b : ℕ) → IsTrue (nat_le a b) → a ≤ b
small a b is = grind (arith, nat_tests)

tag_is_some : (tag : ℕ) → IsTrue (is_tag tag) → IsTrue (nat_le 1 tag)
tag_is_some tag is = grind (arith, nat_tests)

-- of an entry and the indices that it takes the entry stays
kept : (two : Bool) (x : Entry) → IsTrue (isnt_skip x) → filter isnt_skip (if two then x ∷ entry.Skip ∷ [] else x ∷ []) ≡ x ∷ []
kept true x is = rw is refl
kept false x is = rw is refl

spread_length : (two : Bool) (x : Entry) → length (if (if two then 2 else 1) == 2 then x ∷ entry.Skip ∷ [] else x ∷ []) ≡ (if two then 2 else 1)
spread_length true x = refl
spread_length false x = refl

length-spread : (xs : List Entry) → length (flat_map spread xs) ≡ places_of xs
length-spread [] = refl
length-spread (x ∷ xs) = length-append (spread x) (flat_map spread xs) ∙ (let one = spread_length ((tag_of x == 5) || (tag_of x == 6)) x in let more = length-spread xs in let sum = sum_by-cons (λ (y : Entry). places (tag_of y)) x xs in omega (arith, one, more, sum))

-- how long what is read is
pub length_read : (given : Option (List Entry)) (n : ℕ) (bytes rest : List ℕ) (found : List Entry) (room : ℕ) → IsPoolRead given n bytes found rest room → length found + room ≡ n + 1
length_read given n bytes rest found room r = let long = ap length r.shape in let spread_long = length-spread (filter isnt_skip found) in omega (arith, long, spread_long, r.left)

-- one more entry
pub pool_more : (given : Option (List Entry)) (n : ℕ) (bytes rest after : List ℕ) (found pushed : List Entry) (room : ℕ) (x : Entry) → IsPoolRead given n bytes found rest room → 0 < room
    → Spells (entry_within given room) rest x after → pushed ≡ found ++ spread x → IsPoolRead given n bytes pushed after (room - places (tag_of x))
pool_more given n bytes rest after found pushed room x r some spells is =
    let here : n - places_of (filter isnt_skip found) ≡ room = omega (arith, r.left) in
    let alone = kept (places (tag_of x) == 2) x (tag_is_some (tag_of x) spells.fits.0.0.1) in
    let filtered : filter isnt_skip pushed ≡ filter isnt_skip found ++ x ∷ [] = ap (filter isnt_skip) is ∙ filter-append isnt_skip found (spread x) ∙ ap (λ (t : List Entry). filter isnt_skip found ++ t) alone in
    let more = sum_by_push (λ (y : Entry). places (tag_of y)) (filter isnt_skip found) x in
    let most = small (places (tag_of x)) room spells.fits.0.1 in
    record {
      read = rw filtered (read_more spell_entry (enough n) (next given n) bytes rest after (filter isnt_skip found) x (spelled_alike given (n - places_of (filter isnt_skip found)) x) r.read (few n (places_of (filter isnt_skip found)) room r.left some) (rw here spells));
      shape = rw filtered (is ∙ ap (λ (t : List Entry). t ++ spread x) r.shape ∙ ap (λ (t : List Entry). entry.Skip ∷ t) (sym (flat_map-append spread (filter isnt_skip found) (x ∷ []) ∙ ap (λ (t : List Entry). flat_map spread (filter isnt_skip found) ++ t) (append-nil (spread x)))));
      left = rw filtered (omega (arith, more, most, r.left));
    }

-- the next entry isn't there
pub pool_stop : (given : Option (List Entry)) (n end : ℕ) (bytes rest : List ℕ) (found : List Entry) (room : ℕ) (why : Stop BrokenKind) → IsPoolRead given n bytes found rest room → 0 < room
    → Stops (entry_within given room).Halts end rest why → Stops (entries given n).Halts end bytes why
pool_stop given n end bytes rest found room why r some halts =
    let here : n - places_of (filter isnt_skip found) ≡ room = omega (arith, r.left) in
    read_stop spell_entry (enough n) (next given n) end bytes rest (filter isnt_skip found) why r.read (few n (places_of (filter isnt_skip found)) room r.left some) (rw here halts)

-- no index is left
pub pool_all : (given : Option (List Entry)) (n : ℕ) (bytes rest : List ℕ) (found : List Entry) (room : ℕ) → IsPoolRead given n bytes found rest room → room ≤ 0 → Spells (entries given n) bytes found rest
pool_all given n bytes rest found room r none =
    let spells = read_all spell_entry (enough n) (next given n) bytes rest (filter isnt_skip found) r.read (all n (places_of (filter isnt_skip found)) room r.left none) in
    record { fits = (spells.fits, sym r.shape); text = spells.text }

-- ---- where the entries aren't kept

-- some entries are read by index, and so many indices are left
pub record IsPoolPassed (given : Option (List Entry)) (n : ℕ) (bytes rest : List ℕ) (room : ℕ) : Type 0 where
  pub found : List Entry
  pub read : IsPoolRead given n bytes found rest room

pub none_passed : (given : Option (List Entry)) (n : ℕ) (bytes : List ℕ) → IsPoolPassed given n bytes bytes n
none_passed given n bytes = record { found = entry.Skip ∷ []; read = none_read given n bytes }

-- one more entry
pub passed_more : (given : Option (List Entry)) (n : ℕ) (bytes rest after : List ℕ) (room taken : ℕ) → IsPoolPassed given n bytes rest room → 0 < room
    → SpellsSome (entry_within given room) (λ x count. places (tag_of x) ≡ count) rest taken after → IsPoolPassed given n bytes after (room - taken)
passed_more given n bytes rest after room taken r some one =
    record { found = r.found ++ spread one.value; read = rw (← one.means) (pool_more given n bytes rest after r.found (r.found ++ spread one.value) room one.value r.read some one.spells refl) }

-- no index is left
pub passed_all : (given : Option (List Entry)) (n : ℕ) (bytes rest : List ℕ) (room : ℕ) → IsPoolPassed given n bytes rest room → room ≤ 0 → SpellsAny (entries given n) bytes rest
passed_all given n bytes rest room r none = record { value = r.found; spells = pool_all given n bytes rest r.found room r.read none }

-- ---- the parts of an entry and of a pool

-- a text is what stands behind the tag 1
pub text_behind : (given : Option (List Entry)) (tag : ℕ) (bytes rest : List ℕ) → tag ≡ 1 → SpellsAny text bytes rest → SpellsSome (behind given tag (content_of tag)) (λ x of. tag_of x ≡ of) bytes tag rest
text_behind given tag bytes rest is found = rw is (record {
  value = entry.Utf8 found.value;
  spells = together units_of text (λ x. exactly (entry.Utf8 x)) found.value (entry.Utf8 found.value) bytes rest rest refl found.spells (record { fits = refl; text = refl });
  means = refl;
})

-- a tag, and what stands behind it
pub entry_there : (given : Option (List Entry)) (room tag : ℕ) (bytes mid rest : List ℕ) → Spells (tag_within room) bytes tag mid → SpellsSome (behind given tag (content_of tag)) (λ x of. tag_of x ≡ of) mid tag rest
    → SpellsSome (entry_within given room) (λ x count. places (tag_of x) ≡ count) bytes (places tag) rest
entry_there given room tag bytes mid rest first others = record {
  value = others.value;
  spells = together tag_of (tag_within room) (λ t. behind given t (content_of t)) tag others.value bytes mid rest others.means first others.spells;
  means = ap places others.means;
}

one_more : (count places_taken : ℕ) → IsTrue (nat_le 1 count) → IsTrue (places_taken == (count - 1)) → 1 + places_taken ≡ count
one_more count places_taken some is = grind (arith, nat_tests)

-- a count, and the entries that it counts
pub pool_there : (given : Option (List Entry)) (count : ℕ) (bytes mid rest : List ℕ) → Spells (tested u2 (λ count. nat_le 1 count) kind.Index) bytes count mid → SpellsAny (entries given (count - 1)) mid rest → SpellsAny (pool given) bytes rest
pool_there given count bytes mid rest first others =
    let shape = ap length others.spells.fits.1 in
    let spread_long = length-spread (filter isnt_skip others.value) in
    let counted = one_more count (places_of (filter isnt_skip others.value)) first.fits.1 others.spells.fits.0.1 in
    let long : length others.value ≡ count = omega (arith, shape, spread_long, counted) in
    record { value = others.value; spells = together length (tested u2 (λ count. nat_le 1 count) kind.Index) (λ n. entries given (n - 1)) count others.value bytes mid rest long first others.spells }
