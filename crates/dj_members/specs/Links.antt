-- Chains through the places of each name.
use Rattle.std.specs.Prelude.{◌≡◌, ℕ, List, map, Some, length, slice_get}
use Rattle.std.specs.Ordering.{nat_cmp}
use Rattle.std.specs.Cmp.Lexicographic.{slice_cmp}
use Rattle.std.specs.BTreeMap as tree
use Rattle.std.specs.BTreeMap.{BTreeMap}
use Rattle.dj_names.specs.Headers.{Name}
use Rattle.dj_members.specs.declared.name_table.Link.{Link}
use Rattle.dj_members.specs.Names.{IsLast}

-- the names of links
abbrev pub linked_names : List Link → List Name
linked_names = map (λ link. link.name)

-- where each name stands last, and for each place where its name stood last before
pub record KeepsNames (links : List Link) (last : BTreeMap Name ℕ) : Type 0 where
  pub ends : (name : Name) → IsLast (linked_names links) name (length links) (tree.get (slice_cmp nat_cmp) last name)
  pub chain : (at : ℕ) (link : Link) → slice_get links at ≡ Some link → IsLast (linked_names links) link.name at link.before
