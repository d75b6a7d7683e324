-- Modified UTF-8 (JVMS 4.4.7).
use Rattle.std.specs.Prelude.{◌≡◌, ◌≢◌, ℕ, ◌+◌, ◌/◌, ◌%◌, ◌^◌, ◌<◌, List, [], ◌∷◌, ◌++◌, length, take, drop, All, flat_map, nat_le, ◌&&◌, if◌then◌else◌}

-- the bytes of a unit: one for 1 to 127, two for 0 and for 128 to 2,047, else three
abbrev pub encode : ℕ → List ℕ
encode unit =
    if nat_le 1 unit && nat_le unit 127 then unit ∷ []
    else (if nat_le unit 2047 then (192 + unit / 64) ∷ (128 + unit % 64) ∷ []
    else (224 + unit / 4096) ∷ (128 + unit / 64 % 64) ∷ (128 + unit % 64) ∷ [])

-- the bytes of units, in order
abbrev pub spell_units : List ℕ → List ℕ
spell_units = flat_map encode

-- a number of 16 bits
abbrev pub IsUnit : ℕ → Type 0
IsUnit unit = unit < 2 ^ 16

-- the bytes spell no units: those before this place do, and what begins there begins with no unit
pub record AreNoUnits (bytes : List ℕ) (at : ℕ) : Type 0 where
  pub unspelled : (units : List ℕ) → All IsUnit units → spell_units units ≢ bytes
  pub before : List ℕ
  pub before_are : All IsUnit before
  pub spelled : spell_units before ≡ take at bytes
  pub within : at < length bytes
  pub wrong : (unit : ℕ) (rest : List ℕ) → IsUnit unit → encode unit ++ rest ≢ drop at bytes
