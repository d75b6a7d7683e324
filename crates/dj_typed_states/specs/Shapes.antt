-- What a type says of a reference, whatever classes there are: how far it is an array, and of which primitive elements (JVMS 2.4, 4.10.1.2).
use Rattle.std.specs.Prelude.{◌≡◌, IsSomeAnd}
use Rattle.dj_names.specs.Types.{JType, Boolean, Byte, Char, Short, Int, Long, Float, Double, Class, Array}
use Rattle.dj_names.specs.Assignable.{IsReference}
use Rattle.dj_values.specs.Fits.{element_of}

-- a type found where another is said has its shape: the same primitive type; some reference where a class is said; an array whose elements have the shape of the other's
abbrev pub HasShape : JType → JType → Type 0
HasShape Boolean found = found ≡ Boolean
HasShape Byte found = found ≡ Byte
HasShape Char found = found ≡ Char
HasShape Short found = found ≡ Short
HasShape Int found = found ≡ Int
HasShape Long found = found ≡ Long
HasShape Float found = found ≡ Float
HasShape Double found = found ≡ Double
HasShape (Class name) found = IsReference found
HasShape (Array element) found = IsSomeAnd (element_of found) (HasShape element)
