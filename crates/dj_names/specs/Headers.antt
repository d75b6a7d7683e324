-- Which classes stand above which, by a list of their headers (JVMS 4.1; JLS 8.1.4, 8.1.5, 9.1.3).
use Rattle.std.specs.Prelude.{◌≡◌, ◌≢◌, ℕ, ◌⊎◌, List, [], ◌∷◌, map, Some, Any, AllPairs, Contains, IsBitSet, ◌≤◌, length}
use Rattle.dj_names.specs.declared.header.Header.{Header}

-- the units of a class's name, with `/` between its segments
abbrev pub Name : Type 0
Name = List ℕ

-- the classes that have a header, in order
abbrev pub names : List Header → List Name
names = map (λ header. header.name)

-- no two headers are of one class
abbrev pub HasDistinctNames : List Header → Type 0
HasDistinctNames = AllPairs (λ first second. first.name ≢ second.name)

-- a class has a header with ACC_INTERFACE, 0x0200 (JVMS table 4.1-A)
abbrev pub IsInterface : List Header → Name → Type 0
IsInterface headers class = Any (λ header. (header.name ≡ class) × IsBitSet header.flags 9) headers

-- the header of `lower` names `upper` as its superclass
abbrev pub HasSuperclass : List Header → Name → Name → Type 0
HasSuperclass headers lower upper =
    Any (λ header. (header.name ≡ lower) × (header.superclass ≡ Some upper)) headers

-- the header of `lower` names `upper` among its interfaces
abbrev pub HasInterface : List Header → Name → Name → Type 0
HasInterface headers lower upper =
    Any (λ header. (header.name ≡ lower) × Contains header.interfaces upper) headers

-- the header of `lower` names `upper` as its superclass or among its interfaces
abbrev pub HasParent : List Header → Name → Name → Type 0
HasParent headers lower upper = HasSuperclass headers lower upper ⊎ HasInterface headers lower upper

-- a path from `lower` to `upper`: the names after `lower`, each a step from the one before
abbrev pub IsPath : (Name → Name → Type 0) → Name → List Name → Name → Type 0
IsPath Step lower [] upper = lower ≡ upper
IsPath Step lower (next ∷ path) upper = Step lower next × IsPath Step next path upper

-- `upper` is `lower`, or is reached from it by superclasses
pub record IsSubclass (headers : List Header) (lower upper : Name) : Type 0 where
  pub path : List Name
  pub is_path : IsPath (HasSuperclass headers) lower path upper

-- `upper` is `lower`, or is reached from it by superclasses and interfaces
pub record Implements (headers : List Header) (lower upper : Name) : Type 0 where
  pub path : List Name
  pub is_path : IsPath (HasParent headers) lower path upper

-- a path from `lower` to `upper` has at most so many steps
pub record HasShortPath (Step : Name → Name → Type 0) (most : ℕ) (lower upper : Name) : Type 0 where
  pub path : List Name
  pub is_path : IsPath Step lower path upper
  pub short : length path ≤ most
