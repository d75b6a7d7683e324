-- Which class may be added to others (JVMS 4.1, 4.10, 5.3.5).
use Rattle.std.specs.Prelude.{◌≡◌, ℕ, ◌≤◌, List, [], ◌∷◌, ◌++◌, Any, Contains, IsBitSet, ◌⊎◌}
use Rattle.dj_names.specs.declared.header.Header.{Header}
use Rattle.dj_names.specs.Headers.{Name, names, HasDistinctNames, IsInterface, HasSuperclass, HasInterface, HasParent, Implements}
use Rattle.dj_world.specs.CoreKinds.{BreaksCore}
use Rattle.dj_world.specs.declared.fault.ClashKind.{ClashKind}
use Rattle.dj_world.specs.declared.fault.ClashKind.TheVariants as clash

-- some class stands above itself: it is reached from its superclass or one of its interfaces (JVMS 5.3.5)
pub record HasCircle (headers : List Header) : Type 0 where
  pub lower : Name
  pub upper : Name
  pub is_parent : HasParent headers lower upper
  pub back : Implements headers upper lower

-- a class has a header with ACC_FINAL, 0x0010 (JVMS table 4.1-A)
abbrev pub IsFinal : List Header → Name → Type 0
IsFinal headers class = Any (λ header. (header.name ≡ class) × IsBitSet header.flags 4) headers

-- a class has a header, and is no interface by it
abbrev pub IsClass : List Header → Name → Type 0
IsClass headers class = Contains (names headers) class × ¬ IsInterface headers class

-- some class has a final superclass (JVMS 4.10)
pub record HasFinalSuper (headers : List Header) : Type 0 where
  pub lower : Name
  pub upper : Name
  pub is_superclass : HasSuperclass headers lower upper
  pub is_final : IsFinal headers upper

-- some class has a superclass that is an interface (JVMS 5.3.5)
pub record HasInterfaceAbove (headers : List Header) : Type 0 where
  pub lower : Name
  pub upper : Name
  pub is_superclass : HasSuperclass headers lower upper
  pub is_interface : IsInterface headers upper

-- some class lists a class among its interfaces (JVMS 5.3.5)
pub record HasClassListed (headers : List Header) : Type 0 where
  pub lower : Name
  pub upper : Name
  pub is_listed : HasInterface headers lower upper
  pub is_class : IsClass headers upper

-- some superclass is an interface, or some listed interface is a class
abbrev pub HasMismatch : List Header → Type 0
HasMismatch headers = HasInterfaceAbove headers ⊎ HasClassListed headers

-- so it is, or some header says of a core class what isn't so
abbrev pub HasWrongKind : List Header → Type 0
HasWrongKind headers = HasMismatch headers ⊎ Any BreaksCore headers

-- headers of which none clashes with another
pub record IsLawful (headers : List Header) : Type 0 where
  pub distinct : HasDistinctNames headers
  pub no_circle : ¬ HasCircle headers
  pub no_final_super : ¬ HasFinalSuper headers
  pub no_wrong_kind : ¬ HasWrongKind headers

-- what would be wrong once a class of this header is added
abbrev pub Clashes : List Header → Header → ClashKind → Type 0
Clashes headers header clash.Twice = Contains (names headers) header.name
Clashes headers header clash.Cycle = HasCircle (headers ++ header ∷ [])
Clashes headers header clash.SuperIsFinal = HasFinalSuper (headers ++ header ∷ [])
Clashes headers header clash.SuperKind = HasWrongKind (headers ++ header ∷ [])

-- the number of a clash
abbrev pub number_of : ClashKind → ℕ
number_of clash.Twice = 1
number_of clash.Cycle = 2
number_of clash.SuperIsFinal = 3
number_of clash.SuperKind = 4

-- the clash of the least number that applies
pub record IsLeastClash (headers : List Header) (header : Header) (kind : ClashKind) : Type 0 where
  pub applies : Clashes headers header kind
  pub least : (other : ClashKind) → Clashes headers header other → number_of kind ≤ number_of other

-- a class of this header clashes with none
abbrev pub MayBeAdded : List Header → Header → Type 0
MayBeAdded headers header = (kind : ClashKind) → ¬ Clashes headers header kind
