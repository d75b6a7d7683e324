-- What a header may say of the core classes, whatever else there is (JVMS 4.1, 5.3.5).
use Rattle.std.specs.Prelude.{◌≡◌, ◌≢◌, ◌⊎◌, List, [], ◌∷◌, Some, None, IsSomeAnd, Any, Contains, IsBitSet, codes}
use Rattle.dj_names.specs.declared.header.Header.{Header}
use Rattle.dj_names.specs.Headers.{Name}
use Rattle.dj_names.specs.Assignable.{object_name, above_arrays}

-- the core classes that are interfaces
unfoldable pub core_interfaces : List Name
core_interfaces = codes "java/lang/Cloneable" ∷ codes "java/io/Serializable" ∷ codes "java/lang/Comparable" ∷ codes "java/lang/CharSequence" ∷ []

-- the core classes that are none
unfoldable pub core_plain : List Name
core_plain =
    codes "java/lang/Object" ∷
    codes "java/lang/Class" ∷
    codes "java/lang/String" ∷
    codes "java/lang/StringBuilder" ∷
    codes "java/lang/Throwable" ∷
    codes "java/lang/Exception" ∷
    codes "java/lang/RuntimeException" ∷
    codes "java/lang/Error" ∷
    codes "java/lang/ArithmeticException" ∷
    codes "java/lang/IndexOutOfBoundsException" ∷
    codes "java/lang/ArrayStoreException" ∷
    codes "java/lang/ClassCastException" ∷
    codes "java/lang/NegativeArraySizeException" ∷
    codes "java/lang/NullPointerException" ∷
    codes "java/lang/IllegalMonitorStateException" ∷
    codes "java/lang/IllegalArgumentException" ∷
    codes "java/lang/ArrayIndexOutOfBoundsException" ∷
    codes "java/lang/CloneNotSupportedException" ∷
    codes "java/lang/InterruptedException" ∷
    codes "java/io/IOException" ∷
    []

-- a core class that is no interface is one here, or the other way round (JLS 4.3.2, 4.10.3, 11.1.1)
abbrev pub IsOtherKind : Header → Type 0
IsOtherKind header = (Contains core_plain header.name × IsBitSet header.flags 9) ⊎ (Contains core_interfaces header.name × ¬ IsBitSet header.flags 9)

-- the superclass is a core interface, or a listed interface is a core class that is none (JVMS 5.3.5)
abbrev pub NamesOtherKind : Header → Type 0
NamesOtherKind header = IsSomeAnd header.superclass (Contains core_interfaces) ⊎ Any (Contains core_plain) header.interfaces

-- Object, Cloneable or Serializable lists an interface (JLS 4.10.3), or Object has a superclass (JLS 8.1.4)
abbrev pub StandsLow : Header → Type 0
StandsLow header = (Contains above_arrays header.name × header.interfaces ≢ []) ⊎ ((header.name ≡ object_name) × header.superclass ≢ None)

-- an interface has another superclass than Object, or none (JVMS 4.1)
abbrev pub ExtendsOther : Header → Type 0
ExtendsOther header = IsBitSet header.flags 9 × header.superclass ≢ Some object_name

-- a header says of a core class what isn't so
abbrev pub BreaksCore : Header → Type 0
BreaksCore header = (IsOtherKind header ⊎ NamesOtherKind header) ⊎ (StandsLow header ⊎ ExtendsOther header)
