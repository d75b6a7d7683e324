-- Which methods of a class can't stand in one text with its others, by name, parameters and flags (JVMS 4.6; JLS 8.4.2, 8.7, 8.8, 9.4).
use Rattle.std.specs.Prelude.{◌≡◌, ◌≢◌, ◌⊎◌, ◌↔◌, ℕ, Bool, List, [], length, map, None, Some, IsTrue, IsBitSet, slice_get}
use Rattle.dj_names.specs.Headers.{Name}
use Rattle.dj_names.specs.Types.{Method, parameters_of, result_of}
use Rattle.dj_names.specs.MethodNames.{is_constructor, is_initialiser}
use Rattle.dj_class.specs.Described.{ClassOf, MethodOf}
use Rattle.dj_kinds.specs.Own.{IsFirst}

-- the names of methods, in order
abbrev pub method_names : List MethodOf → List Name
method_names = map (λ (method : MethodOf). method.name)

-- two methods have one name and one descriptor
pub record IsTwin (method other : MethodOf) : Type 0 where
  pub name : other.name ≡ method.name
  pub descriptor : other.descriptor ≡ method.descriptor

-- two methods have one name and the same parameter types, whatever their results (JLS 8.4.2)
pub record IsAlike (method other : MethodOf) : Type 0 where
  pub name : other.name ≡ method.name
  pub parameters : parameters_of other.descriptor ≡ parameters_of method.descriptor

-- such a method that no compiler made to stand for another (ACC_BRIDGE, 0x0040)
abbrev pub IsAlikeAndPlain : MethodOf → MethodOf → Type 0
IsAlikeAndPlain method other = IsAlike method other × ¬ IsBitSet other.flags 6

-- of the methods alike the one that counts: the first that is no bridge, and where all are bridges the first
abbrev pub Counts : List MethodOf → MethodOf → ℕ → Type 0
Counts methods method at =
    IsFirst (IsAlikeAndPlain method) methods at
    ⊎ (((other : ℕ) → ¬ IsFirst (IsAlikeAndPlain method) methods other) × IsFirst (IsAlike method) methods at)

-- another method has the name and the descriptor of the one at a place
pub record HasTwin (methods : List MethodOf) (at : ℕ) (method : MethodOf) : Type 0 where
  pub other : ℕ
  pub elsewhere : other ≢ at
  pub found : MethodOf
  pub there : slice_get methods other ≡ Some found
  pub twin : IsTwin method found

-- of the methods alike with the one at a place another counts
pub record IsUncounted (methods : List MethodOf) (at : ℕ) (method : MethodOf) : Type 0 where
  pub other : ℕ
  pub elsewhere : other ≢ at
  pub counts : Counts methods method other

-- the method at a place can't stand beside another of its name
abbrev pub HasRival : List MethodOf → ℕ → MethodOf → Type 0
HasRival methods at method = HasTwin methods at method ⊎ IsUncounted methods at method

-- whether each of the methods has a rival, in order
pub record TellsRivals (methods : List MethodOf) (rivals : List Bool) : Type 0 where
  pub size : length rivals ≡ length methods
  pub each : (at : ℕ) (method : MethodOf) (rival : Bool) → slice_get methods at ≡ Some method → slice_get rivals at ≡ Some rival → IsTrue rival ↔ HasRival methods at method

-- what a constructor mustn't be
abbrev pub BreaksConstructor : MethodOf → Type 0
BreaksConstructor method = (result_of method.descriptor ≢ None) ⊎ IsBitSet method.flags 3

-- what a static initialiser mustn't be
abbrev pub BreaksInitialiser : MethodOf → Type 0
BreaksInitialiser method = (method.descriptor ≢ Method [] None) ⊎ ¬ IsBitSet method.flags 3 ⊎ (method.thrown ≢ []) ⊎ (method.code ≡ None)

-- what a method of an interface mustn't be
abbrev pub BreaksInterface : MethodOf → Type 0
BreaksInterface method = IsTrue (is_initialiser method.name) ⊎ IsTrue (is_constructor method.name) ⊎ ¬ IsBitSet method.flags 0

-- the method at this place can't stand in the text of its class beside the others
abbrev pub BreaksSignature : ClassOf → ℕ → MethodOf → Type 0
BreaksSignature class at method =
    HasTwin class.methods at method
    ⊎ IsUncounted class.methods at method
    ⊎ (IsBitSet class.flags 9 × BreaksInterface method)
    ⊎ (IsTrue (is_initialiser method.name) × BreaksInitialiser method)
    ⊎ (IsTrue (is_constructor method.name) × BreaksConstructor method)
