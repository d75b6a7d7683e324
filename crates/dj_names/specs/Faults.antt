-- Which answer and which fault the readers of names give, and at which place.
use Rattle.std.specs.Prelude.{◌≡◌, ℕ, ◌-◌, ◌^◌, min, List, Result, Ok, Err}
use Rattle.dj_names.specs.declared.fault.NameFault.{NameFault}
use Rattle.dj_names.specs.declared.fault.NameFault.TheVariants.{BadDescriptor, BadUnits, Memory}
use Rattle.dj_names.specs.Descriptors.{IsNoDescriptor}
use Rattle.dj_names.specs.Utf8.{AreNoUnits}

-- how a place is given: one above 4,294,967,295 as that number
abbrev pub place : ℕ → ℕ
place at = min at (2 ^ 32 - 1)

-- the fault of units that are no descriptor, if memory isn't out
abbrev pub IsDescriptorFault : List ℕ → NameFault → Type 0
IsDescriptorFault units (BadDescriptor shown) = (at : ℕ) × (shown ≡ place at) × IsNoDescriptor units at
IsDescriptorFault units (BadUnits shown) = ⊥
IsDescriptorFault units (Memory error) = Unit {0}

-- the fault of bytes that spell no units, if memory isn't out
abbrev pub IsUnitsFault : List ℕ → NameFault → Type 0
IsUnitsFault bytes (BadDescriptor shown) = ⊥
IsUnitsFault bytes (BadUnits shown) = (at : ℕ) × (shown ≡ place at) × AreNoUnits bytes at
IsUnitsFault bytes (Memory error) = Unit {0}

-- memory is out
abbrev pub IsMemory : NameFault → Type 0
IsMemory (BadDescriptor shown) = ⊥
IsMemory (BadUnits shown) = ⊥
IsMemory (Memory error) = Unit {0}

-- the answer is Ok with this value, as the view shows it, unless memory is out
abbrev pub GivesOnly : {A B : Type 0} → (A → B) → Result A NameFault → B → Type 0
GivesOnly view (Ok read) value = view read ≡ value
GivesOnly view (Err fault) value = IsMemory fault
