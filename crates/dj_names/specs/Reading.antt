-- What the functions that read descriptors promise each other: what they read, and where they stop.
use Rattle.std.specs.Prelude.{◌≡◌, ◌≢◌, ℕ, ◌≤◌, ◌⊎◌, Bool, true, List, [], ◌∷◌, ◌++◌, Option, All, Contains, IfSome, flat_map, sum_by, codes}
use Rattle.dj_names.specs.Types.{JType, Descriptor}
use Rattle.dj_names.specs.ClassNames.{IsClassName}
use Rattle.dj_names.specs.Descriptors.{spell_type, spell_result, dimensions, words, HasClassName, IsType, SpellsDescriptor}
use Rattle.dj_names.specs.declared.descriptors.Stop.{Stop}
use Rattle.dj_names.specs.declared.descriptors.Stop.TheVariants.{Here, Memory}

-- some list of a language begins so
pub record Begins (Language : List ℕ → Type 0) (front : List ℕ) : Type 0 where
  pub rest : List ℕ
  pub whole : Language (front ++ rest)

-- no list of the language goes on with the next unit
abbrev pub IsStuck : (List ℕ → Type 0) → List ℕ → List ℕ → Type 0
IsStuck Language front [] = Unit {0}
IsStuck Language front (unit ∷ left) = ¬ Begins Language (front ++ unit ∷ [])

-- what stands before `left` begins a list of the language, isn't one, and nothing longer begins one
pub record StopsIn (Language : List ℕ → Type 0) (units left : List ℕ) : Type 0 where
  pub front : List ℕ
  pub split : front ++ left ≡ units
  pub begins : Begins Language front
  pub stuck : IsStuck Language front left
  pub unfinished : ¬ Language front

-- where a reader stops that doesn't want for memory
abbrev pub StopsAt : Stop → (List ℕ → Type 0) → List ℕ → List ℕ → Type 0
StopsAt Here Language units left = StopsIn Language units left
StopsAt (Memory error) Language units left = Unit {0}

-- a type with at most so many dimensions, that takes at most so many words
pub record IsTypeWithin (depth room : ℕ) (type : JType) : Type 0 where
  pub class_name : HasClassName type
  pub dimensions_fit : dimensions type ≤ depth
  pub words_fit : words type ≤ room

-- a letter that is a type by itself
abbrev pub IsPrimitiveLetter : ℕ → Type 0
IsPrimitiveLetter unit = Contains (codes "ZBCSIJFD") unit

-- a reader stops since the unit is no primitive type that takes at most so many words
abbrev pub IsNoPrimitive : Stop → ℕ → ℕ → Type 0
IsNoPrimitive Here room unit = (type : JType) → spell_type type ≡ unit ∷ [] → ¬ (words type ≤ room)
IsNoPrimitive (Memory error) room unit = ⊥

-- the units are such a type
pub record SpellsType (depth room : ℕ) (units : List ℕ) : Type 0 where
  pub type : JType
  pub type_is : IsTypeWithin depth room type
  pub spelled : spell_type type ≡ units

-- the units are what follows the `L` of a class
pub record SpellsClassName (units : List ℕ) : Type 0 where
  pub name : List ℕ
  pub name_is : IsClassName name
  pub spelled : name ++ codes ";" ≡ units

-- a unit may stand in a class's name or end it, where the segment at hand has a unit (`started`) or none
abbrev pub MayFollow : Bool → ℕ → Type 0
MayFollow started unit = (unit ≢ 46) × (unit ≢ 91) × ((unit ≡ 59) ⊎ (unit ≡ 47) → started ≡ true)

-- the units are a result
pub record SpellsResult (units : List ℕ) : Type 0 where
  pub result : Option JType
  pub result_is : IfSome result IsType
  pub spelled : spell_result result ≡ units

-- types that parameters may have, in so many words
pub record AreParameters (room : ℕ) (parameters : List JType) : Type 0 where
  pub types : All IsType parameters
  pub words_fit : sum_by words parameters ≤ room

-- the units are what follows in a method descriptor, with room for so many words of parameters
pub record SpellsRest (room : ℕ) (units : List ℕ) : Type 0 where
  pub parameters : List JType
  pub result : Option JType
  pub parameters_are : AreParameters room parameters
  pub result_is : IfSome result IsType
  pub spelled : flat_map spell_type parameters ++ (codes ")" ++ spell_result result) ≡ units

-- the units are a descriptor
pub record SpellsSome (units : List ℕ) : Type 0 where
  pub descriptor : Descriptor
  pub spells : SpellsDescriptor units descriptor

-- the units are no descriptor, and what stands before `left` is all of them that begins one
pub record HaltsUnspelled (units left : List ℕ) : Type 0 where
  pub front : List ℕ
  pub split : front ++ left ≡ units
  pub begins : Begins SpellsSome front
  pub stuck : IsStuck SpellsSome front left
  pub unspelled : ¬ SpellsSome units

-- where the reader of a whole descriptor stops that doesn't want for memory
abbrev pub HaltsAt : Stop → List ℕ → List ℕ → Type 0
HaltsAt Here units left = HaltsUnspelled units left
HaltsAt (Memory error) units left = Unit {0}
