-- Which names headers want as superclasses and which as interfaces, and the sets of them that are kept.
use Rattle.std.specs.Prelude.{◌≡◌, ◌⊎◌, ◌↔◌, ℕ, ◌≤◌, List, Some, Any, Contains, IsBitSet, length, take}
use Rattle.std.specs.BTreeSet.{BTreeSet}
use Rattle.dj_names.specs.declared.header.Header.{Header}
use Rattle.dj_names.specs.Headers.{Name}
use Rattle.dj_world.specs.Worlds.{WorldOf, IsWorld}
use Rattle.dj_world.specs.Learning.{Has}
use Rattle.dj_world.specs.declared.wanted.Wanted.{Wanted}

-- a header names a class as its superclass
abbrev pub WantsAsSuperclass : Name → Header → Type 0
WantsAsSuperclass name header = header.superclass ≡ Some name

-- a header lists a class among its interfaces
abbrev pub WantsAsInterface : Name → Header → Type 0
WantsAsInterface name header = Contains header.interfaces name

-- some header wants a class of this header's name to be of the other kind
abbrev pub IsWantedOtherwise : List Header → Header → Type 0
IsWantedOtherwise headers header =
    (IsBitSet header.flags 9 × Any (WantsAsSuperclass header.name) headers)
    ⊎ (¬ IsBitSet header.flags 9 × Any (WantsAsInterface header.name) headers)

-- one of the headers wants each name of the set, and what the first of them want is there
pub record KnowsSome (Wants : Name → Header → Type 0) (headers : List Header) (read : ℕ) (known : BTreeSet Name) : Type 0 where
  pub sound : (name : Name) → Has known name → Any (Wants name) headers
  pub whole : (name : Name) → Any (Wants name) (take read headers) → Has known name

-- what is kept: as many headers as were read told what they want
pub record KeepsWanted (headers : List Header) (wanted : Wanted) : Type 0 where
  pub superclasses : KnowsSome WantsAsSuperclass headers wanted.read wanted.superclasses
  pub interfaces : KnowsSome WantsAsInterface headers wanted.read wanted.interfaces
  pub within : wanted.read ≤ length headers

-- all headers were read: the sets are what they want
pub record KnowsAll (headers : List Header) (wanted : Wanted) : Type 0 where
  pub superclasses : (name : Name) → Has wanted.superclasses name ↔ Any (WantsAsSuperclass name) headers
  pub interfaces : (name : Name) → Has wanted.interfaces name ↔ Any (WantsAsInterface name) headers

-- what a world keeps: its lists are a world, and beside them stands what their headers want
pub record KeepsWorld (world : WorldOf) (wanted : Wanted) : Type 0 where
  pub is_world : IsWorld world
  pub keeps : KeepsWanted world.headers wanted
