-- Which names of classes the text of a class can say (JLS 6.3, 6.4.2, 6.5.2).
use Rattle.std.specs.Prelude.{◌≡◌, ℕ, ◌==◌, List, ◌∷◌, ◌++◌, Contains, codes}
use Rattle.std.specs.List.{before_first}
use Rattle.dj_names.specs.declared.header.Header.{Header}
use Rattle.dj_names.specs.declared.members.ClassMembers.{ClassMembers}
use Rattle.dj_names.specs.Headers.{Name, names, Implements}
use Rattle.dj_names.specs.Sayable.{IsSayable}
use Rattle.dj_members.specs.Tables.{field_names}
use Rattle.dj_kinds.specs.Access.{package_of}
use Rattle.dj_kinds.specs.Own.{IsClassAt}

-- the units of a name up to its first slash, or all of them
abbrev pub first_segment : Name → List ℕ
first_segment name = before_first (λ unit. unit == 47) name

-- a name of two segments or more: its class is in a package
abbrev pub HasPackage : Name → Type 0
HasPackage name = Contains name 47

-- a class declares a field of this name (JLS 8.3, 9.3)
pub record DeclaresField (headers : List Header) (members : List ClassMembers) (field class : Name) : Type 0 where
  pub at : ℕ
  pub declared : ClassMembers
  pub there : IsClassAt headers members class at declared
  pub named : Contains (field_names declared.fields) field

-- a class, or a class or interface above it, declares a field of this name
pub record HasFieldInScope (headers : List Header) (members : List ClassMembers) (class field : Name) : Type 0 where
  pub owner : Name
  pub above : Implements headers class owner
  pub declares : DeclaresField headers members field owner

-- a front of a name, of two segments or more but not of all, is the name of a class: what stands behind it would be a member of that class (JLS 6.5.2,
-- 6.5.4.2), and no package has that name (JLS 7.1)
pub record HasClassInFront (headers : List Header) (name : Name) : Type 0 where
  pub front : Name
  pub rest : List ℕ
  pub parts : name ≡ front ++ 47 ∷ rest
  pub packaged : HasPackage front
  pub there : Contains (names headers) front

-- each segment is an identifier, the first isn't taken for a printed variable or for a field in scope, and no package in front for a class (JLS 6.4.2)
pub record IsUnobscured (headers : List Header) (members : List ClassMembers) (class name : Name) : Type 0 where
  pub sayable : IsSayable name
  pub no_field : ¬ HasFieldInScope headers members class (first_segment name)
  pub no_class : ¬ HasClassInFront headers name

-- the first segment isn't taken for a class: neither for one in the package of this class nor for one in java/lang (JLS 6.3, 6.5.2, 7.3)
pub record IsTakenForPackage (headers : List Header) (class name : Name) : Type 0 where
  pub none_beside : ¬ Contains (names headers) (package_of class ++ first_segment name)
  pub none_of_core : ¬ Contains (names headers) (codes "java/lang/" ++ first_segment name)

-- the text of a class can say the name: in full, and where the name has one segment only in a class that has no package either (JLS 7.4.2)
pub record CanBeSaid (headers : List Header) (members : List ClassMembers) (class name : Name) : Type 0 where
  pub unobscured : IsUnobscured headers members class name
  pub packaged : HasPackage name → IsTakenForPackage headers class name
  pub unpackaged : ¬ HasPackage name → ¬ HasPackage class
