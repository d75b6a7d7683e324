-- Which keys stand more than once, and which place counts of those alike.
use Rattle.std.specs.Prelude.{◌≡◌, ◌≢◌, ℕ, Bool, true, false, List, Option, Some, None, IsTrue, IsSomeAnd, slice_get}
use Rattle.std.specs.declared.cmp.Ordering.{Ordering}
use Rattle.std.specs.Ordering.{nat_cmp, ordering_then}
use Rattle.std.specs.BTreeMap.{BTreeMap, get}
use Rattle.dj_members.specs.Picks.{IsFirstPick}
use Rattle.dj_signatures.specs.declared.keys.Key.{Key}
use Rattle.dj_signatures.specs.declared.standing.Leader.{Leader}

-- the order of pairs
abbrev pub pair_cmp : ℕ × ℕ → ℕ × ℕ → Ordering
pair_cmp first second = ordering_then (nat_cmp first.0 second.0) (nat_cmp first.1 second.1)

-- the numbers of a key's name and descriptor
abbrev pub twin_of : Key → ℕ × ℕ
twin_of key = (key.name, key.descriptor)

-- the numbers of a key's name and parameters
abbrev pub alike_of : Key → ℕ × ℕ
alike_of key = (key.name, key.parameters)

-- this holds of the item at a place
abbrev pub At : {A : Type 0} → (A → Type 0) → List A → ℕ → Type 0
At Holds items at = IsSomeAnd (slice_get items at) Holds

-- two places of which this holds
pub record AreTwo (Picked : ℕ → Type 0) : Type 0 where
  pub first : ℕ
  pub second : ℕ
  pub apart : first ≢ second
  pub one : Picked first
  pub other : Picked second

-- one place of which this holds, and no other
pub record IsOne (Picked : ℕ → Type 0) : Type 0 where
  pub at : ℕ
  pub here : Picked at
  pub only : (other : ℕ) → Picked other → other ≡ at

-- no key has the name and the descriptor, or one has, or more have
abbrev pub Repeats : List Key → ℕ × ℕ → Option Bool → Type 0
Repeats keys pair None = (at : ℕ) → ¬ At (λ key. twin_of key ≡ pair) keys at
Repeats keys pair (Some false) = IsOne (At (λ key. twin_of key ≡ pair) keys)
Repeats keys pair (Some true) = AreTwo (At (λ key. twin_of key ≡ pair) keys)

-- the key has the name and the parameters, and is no bridge's
abbrev pub IsPlain : ℕ × ℕ → Key → Type 0
IsPlain pair key = (alike_of key ≡ pair) × ¬ IsTrue key.bridge

-- of the keys of a name and parameters the first that is no bridge's, or where all are the first
abbrev pub LeadsBy : List Key → ℕ × ℕ → ℕ → Bool → Type 0
LeadsBy keys pair at true = IsFirstPick (At (IsPlain pair) keys) at
LeadsBy keys pair at false = ((other : ℕ) → ¬ At (IsPlain pair) keys other) × IsFirstPick (At (λ key. alike_of key ≡ pair) keys) at

-- the place that counts of the keys of a name and parameters, or that there is none
abbrev pub Leads : List Key → ℕ × ℕ → Option Leader → Type 0
Leads keys pair None = (at : ℕ) → ¬ At (λ key. alike_of key ≡ pair) keys at
Leads keys pair (Some leader) = LeadsBy keys pair leader.at leader.plain

-- the table tells of each name and descriptor whether keys repeat it
abbrev pub TellsRepeats : List Key → BTreeMap (ℕ × ℕ) Bool → Type 0
TellsRepeats keys table = (pair : ℕ × ℕ) → Repeats keys pair (get pair_cmp table pair)

-- the table tells of each name and parameters the place that counts
abbrev pub TellsLeaders : List Key → BTreeMap (ℕ × ℕ) Leader → Type 0
TellsLeaders keys table = (pair : ℕ × ℕ) → Leads keys pair (get pair_cmp table pair)
