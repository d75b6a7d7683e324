-- Values, actions and answers: what a run shows, and what the outside tells it (JVMS 2.2 to 2.4).
use Rattle.std.specs.Prelude.{◌≡◌, ℕ, ℤ, ◌⊎◌, List, Option, ◌++◌}
use Rattle.dj_names.specs.Types.{JType, Descriptor}

-- what tells references apart: a number, or the characters of a string constant
pub data RefId : Type 0 where
  Numbered : ℕ → RefId
  Text : List ℕ → RefId

-- a reference to an object or array, with what never changes: its class, and an array's length
pub record RefValue : Type 0 where
  pub id : RefId
  pub class : JType
  pub length : ℕ

-- what a local, a stack entry or a variable holds; a boolean is the int 0 or 1
pub data Value : Type 0 where
  Int : ℤ → Value
  Long : ℤ → Value
  Null : Value
  Ref : RefValue → Value

-- how a call finds its method
pub data InvokeKind : Type 0 where
  Virtual : InvokeKind
  Interface : InvokeKind
  Static : InvokeKind
  Special : InvokeKind

-- what a run does to the outside, with what it names and the values that it uses
pub data Action : Type 0 where
  New : List ℕ → Action
  NewArray : JType → List ℤ → Action
  GetField : RefValue → JType → List ℕ → JType → Action
  PutField : RefValue → JType → List ℕ → JType → Value → Action
  GetStatic : JType → List ℕ → JType → Action
  PutStatic : JType → List ℕ → JType → Value → Action
  ArrayLoad : RefValue → ℤ → Action
  ArrayStore : RefValue → ℤ → Value → Action
  Invoke : InvokeKind → JType → List ℕ → Descriptor → List Value → Action
  ClassConstant : JType → Action
  Enter : RefValue → Action
  Exit : RefValue → Action
  Trap : List ℕ → Action

-- what the outside tells of an action: a value, that it is done, or an exception
pub data Answer : Type 0 where
  Given : Value → Answer
  Done : Answer
  Thrown : RefValue → Answer

-- how far a run has come: it goes on, has returned, or has left by an exception
pub data End : Type 0 where
  More : End
  Return : Option Value → End
  Throw : RefValue → End

-- the observable trace of a bounded run
pub record Show : Type 0 where
  pub actions : List Action
  pub end : End

-- the first show is the second, or goes on where the second may have come further
abbrev pub IsBelow : Show → Show → Type 0
IsBelow first second =
    (first ≡ second) ⊎ ((first.end ≡ More) × ((rest : List Action) × (second.actions ≡ first.actions ++ rest)))
