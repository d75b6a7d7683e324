-- Parts of which more is asked than their spelling, bytes that are looked at twice, and items that depend on those before them.
use Rattle.std.specs.Prelude.{◌≡◌, ◌⊎◌, ℕ, List, [], ◌∷◌, ◌++◌, Bool, IsTrue, IsFalse, ⊤}
use Rattle.std.specs.List.{flat_map}
use Rattle.dj_layout.specs.declared.fault.Fault.{Fault}
use Rattle.dj_layout.specs.Layout.{Layout, Spells, fault_of}

-- the part isn't there, or it is and isn't what is asked
abbrev pub HaltsOrIsnt : {K A : Type 0} → Layout K A → (A → Type 0) → K → ℕ → List ℕ → Fault K → Type 0
HaltsOrIsnt {A = A} part Asked kind end bytes fault =
    part.Halts end bytes fault ⊎ ((x : A) × (rest : List ℕ) × Spells part bytes x rest × (¬ Asked x) × (fault ≡ fault_of end bytes kind))

-- a part of which more is asked; the fault lies where the part begins
abbrev pub asked : {K A : Type 0} → Layout K A → (A → Type 0) → K → Layout K A
asked part Asked kind = record {
  spell = part.spell;
  Fits = λ x. part.Fits x × Asked x;
  Halts = HaltsOrIsnt part Asked kind;
}

-- the first pass stops, or it passes and the second, which the value chooses, stops
abbrev pub HaltsAgain : {K A : Type 0} → Layout K A → (A → Layout K A) → ℕ → List ℕ → Fault K → Type 0
HaltsAgain {A = A} first second end bytes fault =
    first.Halts end bytes fault ⊎ ((x : A) × (rest : List ℕ) × Spells first bytes x rest × (second x).Halts end bytes fault)

-- the same bytes in two passes
abbrev pub again : {K A : Type 0} → Layout K A → (A → Layout K A) → Layout K A
again first second = record {
  spell = first.spell;
  Fits = λ x. first.Fits x × (second x).Fits x;
  Halts = HaltsAgain first second;
}

-- the part isn't there; whatever of it is wrong lies where the part begins
abbrev pub HaltsInFront : {K A : Type 0} → Layout K A → ℕ → List ℕ → Fault K → Type 0
HaltsInFront {K = K} part end bytes fault = (inner : Fault K) × part.Halts end bytes inner × (fault ≡ fault_of end bytes inner.kind)

-- a part all of whose faults are told where it begins
abbrev pub told_in_front : {K A : Type 0} → Layout K A → Layout K A
told_in_front part = record { spell = part.spell; Fits = part.Fits; Halts = HaltsInFront part }

-- each item is asked for, since those before it aren't enough, and is as they ask
abbrev pub IsSequence : {K A : Type 0} → (List A → Bool) → (List A → Layout K A) → List A → List A → Type 0
IsSequence enough next before [] = ⊤
IsSequence enough next before (x ∷ xs) = IsFalse (enough before) × (next before).Fits x × IsSequence enough next (before ++ x ∷ []) xs

-- some items are there, not enough, and then not the next
abbrev pub HaltsInSequence : {K A : Type 0} → (A → List ℕ) → (List A → Bool) → (List A → Layout K A) → ℕ → List ℕ → Fault K → Type 0
HaltsInSequence {A = A} spell enough next end bytes fault =
    (items : List A) × (rest : List ℕ) × IsSequence enough next [] items × IsFalse (enough items) × (bytes ≡ flat_map spell items ++ rest) × (next items).Halts end rest fault

-- items up to where they are enough, each as those before it ask
abbrev pub sequence : {K A : Type 0} → (A → List ℕ) → (List A → Bool) → (List A → Layout K A) → Layout K (List A)
sequence spell enough next = record {
  spell = flat_map spell;
  Fits = λ xs. IsSequence enough next [] xs × IsTrue (enough xs);
  Halts = HaltsInSequence spell enough next;
}
