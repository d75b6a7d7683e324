-- Which members a class has by inheritance (JLS 8.2, 8.4.8, 9.2, 9.4).
use Rattle.std.specs.Prelude.{◌≡◌, ◌⊎◌, ℕ, List, IsBitSet}
use Rattle.dj_names.specs.declared.header.Header.{Header}
use Rattle.dj_names.specs.Headers.{Name, HasSuperclass, IsPath, IsSubclass}
use Rattle.dj_kinds.specs.Access.{package_of}

-- the superclass of a class that is of the same package as this one
abbrev pub HasSuperclassInPackage : List Header → Name → Name → Name → Type 0
HasSuperclassInPackage headers owner lower upper = HasSuperclass headers lower upper × (package_of lower ≡ package_of owner)

-- a class has what its superclass has with package access, where it is of the package of the class that declares it
pub record InheritsInPackage (headers : List Header) (owner class : Name) : Type 0 where
  pub path : List Name
  pub is_path : IsPath (HasSuperclassInPackage headers owner) class path owner

-- a class has a member that a class or interface above it declares with these flags: what it declares itself, and what is public;
-- of classes, and of no interface, also what is protected, and what isn't private as long as the package stays
abbrev pub IsInherited : List Header → Name → Name → ℕ → Type 0
IsInherited headers class owner flags =
    (class ≡ owner)
    ⊎ IsBitSet flags 0
    ⊎ (IsBitSet flags 2 × IsSubclass headers class owner)
    ⊎ (¬ IsBitSet flags 1 × InheritsInPackage headers owner class)
