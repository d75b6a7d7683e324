-- A walk up the classes that have no field of a name themselves: which places of headers it met, where it still has to look,
-- and the places of the classes whose field it found.
use Rattle.std.specs.Prelude.{◌≡◌, ℕ, suc, Bool, true, false, ◌++◌, List, [], ◌∷◌, Option, Some, None, option_map, option_and_then, map, filter, find, slice_get, slice_set, ◌==◌, if◌then◌else◌}
use Rattle.std.specs.List.{list_all}
use Rattle.dj_names.specs.declared.header.Header.{Header}
use Rattle.dj_names.specs.declared.members.ClassMembers.{ClassMembers}
use Rattle.dj_names.specs.declared.members.Field.{Field}
use Rattle.dj_names.specs.declared.members.Member.{Member}
use Rattle.dj_names.specs.Headers.{Name, names}
use Rattle.dj_values.specs.Deciding.{is_name, parents_of}
use Rattle.dj_kinds.specs.Search.{enough}
use Rattle.dj_meaning.specs.Members.{view_members}
use Rattle.dj_meaning.specs.Visible.{is_inherited}
use Rattle.dj_meaning.specs.Fields.{field_owners, has_from, once}
use Rattle.dj_static.specs.declared.walks.Walk.{Walk}

-- the place of the header of a class
abbrev pub place_of : List Header → Name → Option ℕ
place_of [] class = None
place_of (header ∷ headers) class = if is_name header.name class then Some 0 else option_map suc (place_of headers class)

-- the first field of a name that the class at a place declares
abbrev pub own_at : List ClassMembers → Name → ℕ → Option Field
own_at members name at = option_and_then (λ (declared : ClassMembers). find (λ (field : Field). is_name field.name name) declared.fields) (slice_get members at)

-- a place is met, if it is there and wasn't before
abbrev pub meet : ℕ → Walk → Walk
meet at walk = by_met (slice_get walk.met at)
  where
    by_met : Option Bool → Walk
    by_met None = walk
    by_met (Some true) = walk
    by_met (Some false) = record { met = slice_set walk.met at true; waiting = walk.waiting ++ at ∷ []; owners = walk.owners }

-- the place of a class is met, if there is one
abbrev pub meet_named : List Header → Name → Walk → Walk
meet_named headers class walk = by_place (place_of headers class)
  where
    by_place : Option ℕ → Walk
    by_place None = walk
    by_place (Some at) = meet at walk

-- the places of classes are met
abbrev pub meet_all : List Header → List Name → Walk → Walk
meet_all headers [] walk = walk
meet_all headers (class ∷ classes) walk = meet_all headers classes (meet_named headers class walk)

-- a place is looked at: its class is an owner where it has the field itself and the class in which the name stands has it too, and else its parents are met
abbrev pub look : List Header → List ClassMembers → Name → Name → ℕ → Walk → Walk
look headers members class name at walk = by_own (own_at members name at) (slice_get headers at)
  where
    by_own : Option Field → Option Header → Walk
    by_own own None = walk
    by_own None (Some header) = meet_all headers (parents_of header) walk
    by_own (Some field) (Some header) = if is_inherited headers class header.name field.flags then record { met = walk.met; waiting = walk.waiting; owners = walk.owners ++ at ∷ [] } else walk

-- the only place among these
abbrev pub only : List ℕ → Option ℕ
only [] = None
only (first ∷ rest) = if list_all (λ place. place == first) rest then Some first else None

-- how many places aren't met yet
abbrev pub unmet : List Bool → ℕ
unmet [] = 0
unmet (true ∷ rest) = unmet rest
unmet (false ∷ rest) = suc (unmet rest)

-- the member is this field
pub record IsFieldAt (members : List ClassMembers) (member : Member) (field : Field) : Type 0 where
  pub declared : ClassMembers
  pub class : slice_get members member.class ≡ Some declared
  pub is_field : member.method ≡ false
  pub there : slice_get declared.fields member.number ≡ Some field

-- the place of the class that is the only one
pub record IsSole (headers : List Header) (wanted : Option Name) (place : ℕ) : Type 0 where
  pub owner : Name
  pub named : slice_get (names headers) place ≡ Some owner
  pub is : wanted ≡ Some owner

-- the classes whose field a name may mean in a class
abbrev pub owners_of : List Header → List ClassMembers → Name → Name → List Name
owners_of headers members class name =
    filter (has_from headers (map view_members members) name class) (once (field_owners (enough headers) headers (map view_members members) name class))
