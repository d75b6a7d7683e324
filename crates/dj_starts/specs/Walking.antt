-- What is known of births while their code is walked.
use Rattle.std.specs.Prelude.{◌≡◌, ◌⊎◌, ◌↔◌, ℕ, ◌+◌, ◌-◌, ◌<◌, ◌≤◌, ◌∷◌, [], List, length, slice_index, slice_index_or, Bool, false, Option, Some, None, nat_lt, if◌then◌else◌, IsSome}
use Rattle.std.specs.List.{Contains, AllPairs}
use Rattle.dj_instructions.specs.Instructions.{Instruction, Instructions}
use Rattle.dj_frames.specs.Frames.{Frame}
use Rattle.dj_stack_map.specs.Reading.{IsNew}
use Rattle.dj_stack_map.specs.StackMap.{IsNewAt}
use Rattle.dj_code.specs.MethodCode.{Code, Typed}
use Rattle.dj_code.specs.Targets.{IsStart}
use Rattle.dj_starts.specs.declared.birth.Birth.{Birth}
use Rattle.dj_starts.specs.declared.calls.Met.{Met}
use Rattle.dj_starts.specs.declared.calls.Met.TheVariants as met
use Rattle.dj_starts.specs.declared.roles.Role.{Role}
use Rattle.dj_starts.specs.declared.roles.Role.TheVariants as role
use Rattle.dj_starts.specs.declared.walk.Walk.{Walk}
use Rattle.dj_starts.specs.Births.{role_of, ConstructsFirst, Meets, IsOnlyCall, IsAllowed, IsFree, Between, IsWritten, IsBound}
use Rattle.dj_starts.specs.Starts.{IsGiven}
use Rattle.dj_starts.specs.Marks.{IsMarked, IsRoom, MarksMore}

-- ---- constructor calls

-- the object that the instruction constructs, by the first of these frames
abbrev pub IsConstructed : Instruction → List Frame → Option ℕ → Type 0
IsConstructed instruction frames None = (start : ℕ) → ConstructsFirst instruction frames start → ⊥
IsConstructed instruction frames (Some start) = ConstructsFirst instruction frames start

-- two of the calls
pub record AreTwo (Call : ℕ → Type 0) : Type 0 where
  pub one : ℕ
  pub other : ℕ
  pub meets : Call one
  pub also : Call other
  pub differ : one < other

-- the one call
pub record IsOne (Call : ℕ → Type 0) (call : ℕ) : Type 0 where
  pub meets : Call call
  pub only : (other : ℕ) → Call other → other ≡ call

-- which of the calls there are
abbrev pub Tells : Met → (ℕ → Type 0) → Type 0
Tells met.No Call = (call : ℕ) → Call call → ⊥
Tells (met.Once call) Call = IsOne Call call
Tells met.Often Call = AreTwo Call

-- for each pc the calls that the object of a `new` there meets
pub record IsTable (instructions : Instructions) (frames : List Frame) (calls : List Met) : Type 0 where
  pub room : IsRoom instructions (length calls)
  pub tells : (start : ℕ) → start < length calls → Tells (slice_index_or calls start met.No) (Meets instructions frames start)

-- what is known with one call more
abbrev pub once_more : Met → ℕ → Met
once_more met.No call = met.Once call
once_more (met.Once before) call = met.Often
once_more met.Often call = met.Often

-- the call at `pc` is noted for the object that it constructs, where there is room, and nothing else
pub record IsNoted (pc : ℕ) (instruction : Instruction) (frames : List Frame) (old new : List Met) : Type 0 where
  pub room : length new ≡ length old
  pub this : (start : ℕ) → start < length old → ConstructsFirst instruction frames start → slice_index_or new start met.No ≡ once_more (slice_index_or old start met.No) pc
  pub others : (start : ℕ) → (ConstructsFirst instruction frames start → ⊥) → slice_index_or new start met.No ≡ slice_index_or old start met.No

-- the one call, where it stands behind the `new`
abbrev pub call_behind : ℕ → Met → Option ℕ
call_behind start met.No = None
call_behind start (met.Once call) = if nat_lt start call then Some call else None
call_behind start met.Often = None

-- the end of the birth that begins at `start`, by the table of calls
abbrev pub only_call : List Met → ℕ → Option ℕ
only_call calls start = call_behind start (slice_index_or calls start met.No)

-- the birth that ends with the instruction at `pc`, by the table of calls
abbrev pub IsEnded : List Met → ℕ → Instruction → List Frame → Option ℕ → Type 0
IsEnded calls pc instruction frames None = (start : ℕ) → ConstructsFirst instruction frames start → only_call calls start ≡ Some pc → ⊥
IsEnded calls pc instruction frames (Some start) = ConstructsFirst instruction frames start × (only_call calls start ≡ Some pc)

-- ---- numbers of which the last are taken away

-- the numbers that are left are those below one
pub record IsCut (old new : List ℕ) (low : ℕ) : Type 0 where
  pub left : (number : ℕ) → Contains new number ↔ (Contains old number × (number < low))

-- there are numbers, and the last is `low` or above
pub record IsLastFrom (numbers : List ℕ) (low : ℕ) : Type 0 where
  pub some : 0 < length numbers
  pub above : low ≤ slice_index numbers (length numbers - 1)

-- ---- one step

-- from which `new` on births can't go on behind a `dup`
abbrev pub barred_dup : Role → Option ℕ
barred_dup role.Plain = Some 0
barred_dup role.Never = Some 0
barred_dup role.New = None
barred_dup role.Dup = Some 0
barred_dup role.Silent = Some 0

-- likewise behind a `new`, by what follows it
abbrev pub barred_new : Role → Option ℕ
barred_new role.Plain = Some 0
barred_new role.Never = Some 0
barred_new role.New = Some 0
barred_new role.Dup = None
barred_new role.Silent = Some 0

-- likewise behind a call without a result, by the birth that ends with it
abbrev pub barred_call : Option ℕ → Option ℕ
barred_call None = Some 0
barred_call (Some start) = Some start

-- from which `new` on births can't go on behind an instruction, None where all can; by the roles of the one before, its own and of the one behind, and the birth that ends with it
abbrev pub barred_from : Role → Role → Role → Option ℕ → Option ℕ
barred_from before role.Plain behind ended = None
barred_from before role.Never behind ended = Some 0
barred_from before role.New behind ended = barred_new behind
barred_from before role.Dup behind ended = barred_dup before
barred_from before role.Silent behind ended = barred_call ended

-- a birth that begins at `start` goes on behind an instruction
abbrev pub GoesBy : Option ℕ → ℕ → Type 0
GoesBy None start = Unit {0}
GoesBy (Some low) start = start < low

-- a birth ends with an instruction of this role
abbrev pub IsEnd : Role → Option ℕ → Type 0
IsEnd role.Plain ended = ⊥
IsEnd role.Never ended = ⊥
IsEnd role.New ended = ⊥
IsEnd role.Dup ended = ⊥
IsEnd role.Silent ended = IsSome ended

-- the walk behind an instruction that isn't fenced, but for the births that begin with it
pub record IsOver (here behind : Role) (ended : Option ℕ) (old new : Walk) : Type 0 where
  pub before : new.before ≡ old.before
  pub rising : AllPairs (λ x y. x < y) new.unborn
  pub unborn : (start : ℕ) → Contains new.unborn start ↔ (Contains old.unborn start × GoesBy (barred_from old.before here behind ended) start)
  pub written : MarksMore old.written new.written (λ start. (here ≡ role.Silent) × (ended ≡ Some start) × Contains old.unborn start)

-- a `new` at this pc begins a birth
abbrev pub Begins : Role → ℕ → ℕ → Type 0
Begins role.Plain pc start = ⊥
Begins role.Never pc start = ⊥
Begins role.New pc start = start ≡ pc
Begins role.Dup pc start = ⊥
Begins role.Silent pc start = ⊥

-- the walk behind an instruction at `pc`: births go on there that may, and where one ends that was going on, it is marked
pub record IsStep (fenced : Bool) (pc : ℕ) (here behind : Role) (ended : Option ℕ) (old new : Walk) : Type 0 where
  pub before : new.before ≡ here
  pub rising : AllPairs (λ x y. x < y) new.unborn
  pub unborn : (start : ℕ) → Contains new.unborn start ↔ ((Contains old.unborn start × (fenced ≡ false) × GoesBy (barred_from old.before here behind ended) start) ⊎ Begins here pc start)
  pub written : MarksMore old.written new.written (λ start. (here ≡ role.Silent) × (ended ≡ Some start) × (fenced ≡ false) × Contains old.unborn start)

-- ---- the walk

-- the role of the last of these instructions, where another stands before them
abbrev pub last_role : Role → Instructions → Role
last_role before [] = before
last_role before (at ∷ rest) = last_role (role_of at.1) rest

-- the first pc that is behind all of these
abbrev pub behind_all : ℕ → Instructions → ℕ
behind_all least [] = least
behind_all least (at ∷ rest) = behind_all (at.0 + 1) rest

-- a birth that begins at `start` goes on up to `end`
pub record GoesOnTo (typed : Typed) (end start : ℕ) : Type 0 where
  pub new : IsNewAt typed.code.instructions start
  pub begun : start < end
  pub allowed : Between (IsAllowed typed start) start end role.Plain typed.code.instructions
  pub free : Between (IsFree typed.code) start end role.Plain typed.code.instructions

-- a birth that begins at `start` is written, and ends before `end`
pub record IsWrittenTo (typed : Typed) (end start : ℕ) : Type 0 where
  pub new : IsNewAt typed.code.instructions start
  pub call : ℕ
  pub ended : call < end
  pub written : IsWritten typed start call

-- the birth that ends with the instruction at this pc
abbrev pub IsEndedAt : Typed → ℕ → Option ℕ → Type 0
IsEndedAt typed pc None = (start : ℕ) → IsOnlyCall typed start pc → ⊥
IsEndedAt typed pc (Some start) = IsOnlyCall typed start pc

-- a frame is given at the pc, or a range begins or ends there
abbrev pub IsFenced : Code → ℕ → Type 0
IsFenced code pc = IsGiven code.frames pc ⊎ IsBound code.handlers pc

-- what is known behind these instructions
pub record IsWalked (typed : Typed) (done : Instructions) (walk : Walk) : Type 0 where
  pub before : walk.before ≡ last_role role.Plain done
  pub rising : AllPairs (λ x y. x < y) walk.unborn
  pub unborn : (start : ℕ) → Contains walk.unborn start ↔ GoesOnTo typed (behind_all 0 done) start
  pub room : IsRoom typed.code.instructions (length walk.written)
  pub written : (start : ℕ) → IsMarked walk.written start ↔ IsWrittenTo typed (behind_all 0 done) start

-- ---- the list

-- where a birth ends, by the one call behind it
abbrev pub end_of : ℕ → Option ℕ → ℕ
end_of start None = start
end_of start (Some call) = call

-- the birth of the object of a `new`, by the table of calls and the marks of those that can be written
abbrev pub birth_of : List Met → List Bool → ℕ → Birth
birth_of calls written start = record { start = start; end = end_of start (only_call calls start); written = slice_index_or written start false }

-- one of these instructions is a `new` at the pc
abbrev pub IsNewIn : Instructions → ℕ → Type 0
IsNewIn [] pc = ⊥
IsNewIn (at ∷ rest) pc = ((pc ≡ at.0) × IsNew at.1) ⊎ IsNewIn rest pc

-- the marks are those of the pcs of instructions that are fenced
pub record IsFences (code : Code) (marks : List Bool) : Type 0 where
  pub marked : (pc : ℕ) → IsMarked marks pc → IsFenced code pc
  pub fenced : (pc : ℕ) → IsStart code.instructions pc → IsFenced code pc → IsMarked marks pc
