-- A table of which class stands above which: a place for each name, and for each place a row with a bit for each place.
use Rattle.std.specs.Prelude.{◌≡◌, ◌≢◌, ℕ, ◌+◌, ◌*◌, ◌%◌, ◌^◌, ◌<◌, ◌⊎◌, List, [], fold, map, if◌then◌else◌, nat_eq, Option, None, Some, Contains, slice_get}
use Rattle.std.specs.Ordering.{nat_cmp}
use Rattle.std.specs.Cmp.Lexicographic.{slice_cmp}
use Rattle.std.specs.Str.{bytes_eq}
use Rattle.std.specs.BTreeMap as tree
use Rattle.std.specs.BTreeMap.{btree_map_len}
use Rattle.indexmap.specs.IndexMap.{get, index_map_len}
use Rattle.dj_names.specs.declared.header.Header.{Header}
use Rattle.dj_names.specs.Headers.{Name, HasDistinctNames, Implements}
use Rattle.dj_headers.specs.declared.places.Placed.{Placed}
use Rattle.dj_headers.specs.declared.places.Places.{Places}
use Rattle.dj_headers.specs.declared.roots.Roots.{Roots}
use Rattle.dj_headers.specs.Roots.{KnowsRoots}
use Rattle.dj_headers.specs.Rows.{IsSet, row_at}

-- ---- places

-- a number below 2 ^ 16 that is mostly one name's alone
unfoldable pub digest : Name → ℕ
digest name = fold (λ sum unit. ((sum * 40503) % 2 ^ 16 + unit) % 2 ^ 16) 0 name

-- the place of a name where this one is the first of its digest, and what the others have is this
abbrev pub place_by : Option Placed → Name → Option ℕ → Option ℕ
place_by None name other = other
place_by (Some first) name other = if bytes_eq first.name name then Some first.at else other

-- the place of a name, if it has one: by the first name of its digest, or by the others
unfoldable pub place_of : Places → Name → Option ℕ
place_of places name = place_by (get nat_eq places.firsts (digest name)) name (tree.get (slice_cmp nat_cmp) places.others name)

-- how many names have a place
unfoldable pub count : Places → ℕ
count places = index_map_len places.firsts + btree_map_len places.others

-- another name had this digest first
pub record IsBehind (places : Places) (at : ℕ) (name : Name) : Type 0 where
  pub first : Placed
  pub is : get nat_eq places.firsts at ≡ Some first
  pub differs : first.name ≢ name

-- a name has a place
pub record HasPlace (places : Places) (name : Name) : Type 0 where
  pub at : ℕ
  pub is : place_of places name ≡ Some at

-- a place is one name's, and below the number of names
pub record IsIndex (places : Places) : Type 0 where
  pub one_name : (first second : Name) (at : ℕ) → place_of places first ≡ Some at → place_of places second ≡ Some at → first ≡ second
  pub below : (name : Name) (at : ℕ) → place_of places name ≡ Some at → at < count places

-- the new places are the old ones, and maybe more
abbrev pub Extends : Places → Places → Type 0
Extends old new = (name : Name) (at : ℕ) → place_of old name ≡ Some at → place_of new name ≡ Some at

-- each name keeps its place, and none gets one
pub record Keeps (old new : Places) : Type 0 where
  pub places : (name : Name) → place_of new name ≡ place_of old name
  pub count : count new ≡ count old

-- one name gets a place, and each other keeps its own; there is one name more if it had none
pub record Gains (old new : Places) (name : Name) (at : ℕ) : Type 0 where
  pub here : place_of new name ≡ Some at
  pub apart : (other : Name) → name ≢ other → place_of new other ≡ place_of old other
  pub more : place_of old name ≡ None → count new ≡ count old + 1

-- no name has a place
abbrev pub HasNone : Places → Type 0
HasNone places = (name : Name) → place_of places name ≡ None

-- each header's name has the place of the header in the list
pub record HasPlaces (headers : List Header) (places : Places) : Type 0 where
  pub each : (at : ℕ) (header : Header) → slice_get headers at ≡ Some header → place_of places header.name ≡ Some at

-- ---- the table

-- the names at two places, the second of which is reached from the first
pub record IsReached (headers : List Header) (places : Places) (from to : ℕ) : Type 0 where
  pub lower : Name
  pub upper : Name
  pub lower_at : place_of places lower ≡ Some from
  pub upper_at : place_of places upper ≡ Some to
  pub reached : Implements headers lower upper

-- the bit for two names is set
pub record IsMarked (places : Places) (rows : List (List ℕ)) (lower upper : Name) : Type 0 where
  pub from : ℕ
  pub to : ℕ
  pub lower_at : place_of places lower ≡ Some from
  pub upper_at : place_of places upper ≡ Some to
  pub is_set : IsSet (row_at rows from) to

-- a bit is set only for two names of which the second is reached from the first, and for any two such names that differ one is set
pub record IsTable (headers : List Header) (places : Places) (rows : List (List ℕ)) : Type 0 where
  pub sound : (from to : ℕ) → IsSet (row_at rows from) to → IsReached headers places from to
  pub whole : (lower upper : Name) → Implements headers lower upper → (lower ≡ upper) ⊎ IsMarked places rows lower upper

-- a header without its interfaces: what is reached over such headers is reached by superclasses
abbrev pub bare : Header → Header
bare header = record header { interfaces = [] }

-- a table of what is above by superclasses and interfaces, and one by superclasses alone
pub record AreTables (headers : List Header) (places : Places) (by_parents by_superclasses : List (List ℕ)) : Type 0 where
  pub index : IsIndex places
  pub above : IsTable headers places by_parents
  pub lines : IsTable (map bare headers) places by_superclasses

-- what headers keep beside the list: distinct names, their places in the list, the tables, and the names of their roots
pub record KeepsTables (headers : List Header) (heads places : Places) (above lines : List (List ℕ)) (roots : Option Roots) : Type 0 where
  pub distinct : HasDistinctNames headers
  pub in_list : HasPlaces headers heads
  pub tables : AreTables headers places above lines
  pub known : KnowsRoots headers roots

-- ---- what is above a header

-- a name is the superclass or among the interfaces
abbrev pub IsParent : Option Name → List Name → Name → Type 0
IsParent superclass interfaces name = (superclass ≡ Some name) ⊎ Contains interfaces name

-- a name is reached from one of these
pub record IsAbove (headers : List Header) (P : Name → Type 0) (upper : Name) : Type 0 where
  pub parent : Name
  pub is_parent : P parent
  pub reached : Implements headers parent upper

-- a name with its place is reached from one of these
pub record IsPlaced (headers : List Header) (P : Name → Type 0) (places : Places) (at : ℕ) : Type 0 where
  pub upper : Name
  pub upper_at : place_of places upper ≡ Some at
  pub reached : IsAbove headers P upper

-- a name's place is set in a row
pub record IsIn (places : Places) (row : List ℕ) (upper : Name) : Type 0 where
  pub at : ℕ
  pub upper_at : place_of places upper ≡ Some at
  pub is_set : IsSet row at

-- a row has the places of all that is reached from these names, and no other
pub record IsUp (headers : List Header) (P : Name → Type 0) (places : Places) (row : List ℕ) : Type 0 where
  pub sound : (at : ℕ) → IsSet row at → IsPlaced headers P places at
  pub whole : (upper : Name) → IsAbove headers P upper → IsIn places row upper

-- all is ready for a header: the tables hold, its name has this place, and these rows have what is above it
pub record IsReady (headers : List Header) (header : Header) (places : Places) (at : ℕ) (by_parents by_superclasses : List (List ℕ)) (above lines : List ℕ) : Type 0 where
  pub tables : AreTables headers places by_parents by_superclasses
  pub named : place_of places header.name ≡ Some at
  pub all : IsUp headers (IsParent header.superclass header.interfaces) places above
  pub line : IsUp (map bare headers) (IsParent header.superclass []) places lines
