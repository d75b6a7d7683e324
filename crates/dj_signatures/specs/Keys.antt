-- What tells the methods of a class from each other, as numbers.
use Rattle.std.specs.Prelude.{◌≡◌, ◌↔◌, ℕ, List, Some, IsTrue, IsBitSet, length, slice_get}
use Rattle.dj_class.specs.Described.{MethodOf}
use Rattle.dj_signatures.specs.Numbers.{Numbers, number_of, AreNumbers}
use Rattle.dj_signatures.specs.declared.keys.Key.{Key}
use Rattle.dj_signatures.specs.Spelled.{spelled_parameters, spelled_descriptor}

-- the key of a method: the numbers of its name, its parameters and its descriptor, and whether it is a bridge (ACC_BRIDGE, 0x0040)
pub record IsKey (numbers : Numbers) (method : MethodOf) (key : Key) : Type 0 where
  pub name : number_of numbers method.name ≡ Some key.name
  pub parameters : number_of numbers (spelled_parameters method.descriptor) ≡ Some key.parameters
  pub descriptor : number_of numbers (spelled_descriptor method.descriptor) ≡ Some key.descriptor
  pub bridge : IsTrue key.bridge ↔ IsBitSet method.flags 6

-- the keys of methods, by numbers of which each is one name's or one spelling's
pub record AreKeys (methods : List MethodOf) (keys : List Key) : Type 0 where
  pub numbers : Numbers
  pub index : AreNumbers numbers
  pub size : length keys ≡ length methods
  pub each : (at : ℕ) (method : MethodOf) (key : Key) → slice_get methods at ≡ Some method → slice_get keys at ≡ Some key → IsKey numbers method key
