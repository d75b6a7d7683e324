-- A pool reads in one way, whether a pool is given or none.
use Rattle.std.proofs.Common.{◌≡◌, ℕ, ◌-◌, List, ◌∷◌, Option, filter, length, refl}
use Rattle.std.specs.List.{flat_map}
use Rattle.dj_layout.specs.Exact.{IsExact}
use Rattle.dj_layout.proofs.PartsAreExact.{exact-number, exact-exactly, exact-headed, exact-tested, exact-viewed}
use Rattle.dj_layout.proofs.PassesAreExact.{exact-asked, exact-sequence}
use Rattle.dj_pool.specs.declared.fault.BrokenKind.TheVariants as kind
use Rattle.dj_pool.specs.declared.entry.Entry.{Entry}
use Rattle.dj_pool.specs.declared.entry.Entry.TheVariants as entry
use Rattle.dj_pool.specs.declared.entry.Ask.{Ask}
use Rattle.dj_pool.specs.PoolFormat.{Content, Characters, One, Two, asked_number, behind, content_of, tag_of, first_of, second_of, units_of, text, tag_within, entry_within, spell_entry, plain_entries, entries, places_of, entry_with, isnt_skip, spread, pool}
use Rattle.dj_pool.proofs.SharedAreExact.{exact-u2}
use Rattle.dj_pool.proofs.Utf8Exact.{exact-utf8}

exact-text : IsExact text
exact-text = exact-headed _ _ _ exact-u2 exact-utf8

exact-asked_number : (given : Option (List Entry)) (n : ℕ) (what : Ask) → IsExact (asked_number given n what)
exact-asked_number given n what = exact-asked _ _ _ (exact-asked _ _ _ (exact-number n kind.Short))

exact-behind : (given : Option (List Entry)) (tag : ℕ) (content : Content) → IsExact (behind given tag content)
exact-behind given tag Characters = exact-headed units_of text _ exact-text (λ x. exact-exactly (entry.Utf8 x))
exact-behind given tag (One n what) = exact-headed first_of _ _ (exact-asked_number given n what) (λ x. exact-exactly (entry_with tag x 0))
exact-behind given tag (Two n what m other) =
    exact-headed first_of _ _ (exact-asked_number given n what) (λ x. exact-headed second_of _ _ (exact-asked_number given m other) (λ y. exact-exactly (entry_with tag x y)))

exact-tag_within : (room : ℕ) → IsExact (tag_within room)
exact-tag_within room = exact-tested _ _ _ (exact-tested _ _ _ (exact-number 1 kind.Short))

exact-entry_within : (given : Option (List Entry)) (room : ℕ) → IsExact (entry_within given room)
exact-entry_within given room = exact-headed tag_of _ _ (exact-tag_within room) (λ tag. exact-behind given tag (content_of tag))

-- an entry is spelled alike whatever is given
pub spelled_alike : (given : Option (List Entry)) (room : ℕ) (x : Entry) → (entry_within given room).spell x ≡ spell_entry x
spelled_alike given room entry.Skip = refl
spelled_alike given room (entry.Utf8 units) = refl
spelled_alike given room (entry.Integer number) = refl
spelled_alike given room (entry.Float bits) = refl
spelled_alike given room (entry.Long number) = refl
spelled_alike given room (entry.Double bits) = refl
spelled_alike given room (entry.Class name) = refl
spelled_alike given room (entry.Text units) = refl
spelled_alike given room (entry.FieldRef class other) = refl
spelled_alike given room (entry.MethodRef class other) = refl
spelled_alike given room (entry.InterfaceMethodRef class other) = refl
spelled_alike given room (entry.NameAndType name descriptor) = refl
spelled_alike given room (entry.MethodHandle kind reference) = refl
spelled_alike given room (entry.MethodType descriptor) = refl
spelled_alike given room (entry.InvokeDynamic bootstrap other) = refl

exact-plain_entries : (given : Option (List Entry)) (n : ℕ) → IsExact (plain_entries given n)
exact-plain_entries given n = exact-sequence spell_entry _ _ (λ before. exact-entry_within given (n - places_of before)) (λ before x. spelled_alike given (n - places_of before) x)

exact-entries : (given : Option (List Entry)) (n : ℕ) → IsExact (entries given n)
exact-entries given n = exact-viewed (filter isnt_skip) (λ xs. entry.Skip ∷ flat_map spread xs) _ (exact-plain_entries given n)

pub exact-pool : (given : Option (List Entry)) → IsExact (pool given)
exact-pool given = exact-headed length _ _ (exact-tested _ _ _ exact-u2) (λ count. exact-entries given (count - 1))
