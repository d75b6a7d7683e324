-- The code of a constructor up to its call of another one: what no cause against it gives.
use Rattle.std.proofs.Common.{◌≡◌, ℕ, zero, suc, ◌+◌, ◌<◌, ◌≤◌, ◌==◌, Bool, true, false, List, [], ◌∷◌, ◌++◌, map, Contains, Option, Some, None, inl, inr, refl, sym, ap, subst, arith}
use Rattle.std.specs.Prelude.{◌&&◌, if◌then◌else◌, flat_map, slice_get, bit_and, IfSome, option_map, not}
use Rattle.std.proofs.lemmas.Bool.{false≢true, and_parts, eqb-true}
use Rattle.dj_names.specs.declared.header.Header.{Header}
use Rattle.dj_names.specs.Types.{Class, parameters_of}
use Rattle.dj_instructions.specs.Instructions.{Instruction, Instructions, IsRising, IsRisingFrom}
use Rattle.dj_values.specs.Fits.{is_static}
use Rattle.dj_frames.specs.Frames.{Tag, Top, Int, Float, Double, Long, Null, UnbornThis, Object, Unborn, Frame, slots_of, tag_of, has_unborn_this}
use Rattle.dj_code.specs.MethodCode.{Code, Typed}
use Rattle.dj_tags.specs.Goes.{Assignability, Working, FrameGoes, LocalGoes, LocalsGo, top_down}
use Rattle.dj_effects.specs.Effects.{effect, or_top}
use Rattle.dj_effects.specs.Rows.{work}
use Rattle.dj_starts.specs.declared.roles.Role.{Role}
use Rattle.dj_starts.specs.declared.roles.Role.TheVariants as role
use Rattle.dj_starts.specs.Births.{role_of}
use Rattle.dj_starts.specs.Starts.{IsGiven}
use Rattle.dj_receivers.specs.Passing.{pass_of}
use Rattle.dj_receivers.specs.OwnCalls.{calls_own}
use Rattle.dj_birth_causes.specs.OwnCalls.{StandsAt}
use Rattle.dj_birth_causes.specs.Beginning.{MayNotStand, begins_with_receiver, calls_on_first, is_on_first, is_own, spares_first}
use Rattle.dj_verify.specs.Rules.{entry, falls, frame_in, given, padded}
use Rattle.dj_verify.specs.Table.{AreFrames, or_else}
use Rattle.dj_verify.specs.Verified.{IsTyped}
use Rattle.dj_constructors_given.proofs.Spares.{IsInFirst, MayBeThis}
use Rattle.dj_constructors_given.proofs.Sole.{Opens, flowing, loads_first, never_loaded}

-- ---- the way to the call

-- an offset that lists no frame has none
given_none : (code : Code) (pc : ℕ) → ¬ IsGiven code.frames pc → given code pc ≡ None
given_none code pc none = ap (option_map (λ frame. padded code.max_locals (top_down frame))) (listed code.frames none)
  where
    listed : (frames : List (ℕ × Frame)) → ¬ IsGiven frames pc → frame_in pc frames ≡ None
    listed [] none = refl
    listed (first ∷ rest) none = by (first.0 == pc) refl (listed rest (λ later. none (inr later)))
      where
        by : (test : Bool) → first.0 == pc ≡ test → frame_in pc rest ≡ None → (if test then Some first.1 else frame_in pc rest) ≡ None
        by true same later = absurd (none (inl (sym (eqb-true first.0 pc same))))
        by false other later = later

-- what comes before the first call on `this`, which is at one offset, may stand in its arguments
opens_all : (typed : Typed) (own : ℕ) (part : Instructions) (frames : List Frame) (before : Role) (least : ℕ) → ((pc : ℕ) → StandsAt calls_own part frames pc → pc ≡ own)
    → ((pc : ℕ) → pc < own → ¬ MayNotStand typed before part pc) → IsRisingFrom least part → calls_on_first part frames ≡ true → Opens own part frames × (least ≤ own)
opens_all typed own [] frames before least only inside rising e = absurd (false≢true e)
opens_all typed own (at ∷ rest) [] before least only inside rising e = absurd (false≢true e)
opens_all typed own (at ∷ rest) (frame ∷ frames) before least only inside rising e =
    by (calls_own at.1 frame) refl e (opens_all typed own rest frames (role_of at.1) (at.0 + 1) (λ pc stands. only pc (inr stands)) (λ pc less may. inside pc less (inr may)) rising.1)
  where
    by : (test : Bool) → calls_own at.1 frame ≡ test → (if test then is_on_first at.1 frame else spares_first at.1 frame && calls_on_first rest frames) ≡ true
        → (calls_on_first rest frames ≡ true → Opens own rest frames × (at.0 + 1 ≤ own)) → Opens own (at ∷ rest) (frame ∷ frames) × (least ≤ own)
    by true calls e later = let low = rising.0 in let same = only at.0 (inl (refl, calls)) in (inl (same, calls, e), omega (arith, low, same))
    by false other e later =
        let both = and_parts (spares_first at.1 frame) (calls_on_first rest frames) e in
        let behind = later both.1 in let low = rising.0 in let above = behind.1 in
        let less : at.0 < own = omega (arith, above) in
        (inr (less, other, both.0, λ never. inside at.0 less (inl (refl, λ allowed. allowed.never never)), behind.0), omega (arith, low, above))

-- ---- the beginning

-- what `this` goes to that isn't constructed
goes_this : (Goes : Assignability) (tag : Tag) → LocalGoes Goes UnbornThis tag → MayBeThis tag
goes_this Goes Top goes = inr refl
goes_this Goes Int goes = absurd (cc)
goes_this Goes Float goes = absurd (cc)
goes_this Goes Double goes = absurd (cc)
goes_this Goes Long goes = absurd (cc)
goes_this Goes Null goes = absurd (cc)
goes_this Goes UnbornThis goes = inl refl
goes_this Goes (Object type) goes = absurd goes
goes_this Goes (Unborn pc) goes = absurd (cc)

goes_first : (Goes : Assignability) (froms tos : List Tag) → or_top (slice_get froms 0) ≡ UnbornThis → LocalsGo Goes froms tos → MayBeThis (or_top (slice_get tos 0))
goes_first Goes froms [] same goes = inr refl
goes_first Goes [] (to ∷ tos) same goes = absurd (cc)
goes_first Goes (from ∷ froms) (to ∷ tos) same goes = goes_this Goes to (subst (λ (tag : Tag). LocalGoes Goes tag to) same goes.0)

-- a constructor begins with `this` in local 0
entry_first : (code : Code) → is_static code.flags ≡ false → has_unborn_this code.class code.name ≡ true → or_top (slice_get (entry code).locals 0) ≡ UnbornThis
entry_first code instance unborn = by (bit_and code.flags 0x0008 == 0) (has_unborn_this code.class code.name) _ instance unborn
  where
    by : (has_this begun : Bool) (more : List Tag) → not has_this ≡ false → begun ≡ true
        → or_top (slice_get (flat_map slots_of ((if has_this then (if begun then UnbornThis else Object (Class code.class)) ∷ [] else []) ++ map tag_of (parameters_of code.descriptor)) ++ more) 0) ≡ UnbornThis
    by true true more e f = refl
    by true false more e f = absurd (false≢true f)
    by false begun more e f = absurd (false≢true (sym e))

module _ (Goes : Assignability) (headers : List Header) (typed : Typed) (own : ℕ) (table : IsTyped Goes headers typed) (rising : IsRising typed.code.instructions)
    (instance : is_static typed.code.flags ≡ false) (unborn : has_unborn_this typed.code.class typed.code.name ≡ true)
    (only : (pc : ℕ) → StandsAt calls_own typed.code.instructions typed.frames pc → pc ≡ own) (receiver : begins_with_receiver typed.code.instructions typed.frames ≡ true)
    (inside : (pc : ℕ) → pc < own → ¬ MayNotStand typed role.Plain typed.code.instructions pc) (given_there : (pc : ℕ) → 0 < pc → pc ≤ own → ¬ IsGiven typed.code.frames pc) where
  abbrev code : Code
  code = typed.code

  arrived : (found : Option Working) (frame : Working) → or_else found (Some (entry code)) ≡ Some frame → IfSome found (λ other. FrameGoes Goes (entry code) other) → IsInFirst frame
  arrived None frame same goes = subst IsInFirst (let e : entry code ≡ frame = cc in e) (inl (entry_first code instance unborn))
  arrived (Some other) frame same goes = subst IsInFirst (let e : other ≡ frame = cc in e) (goes_first Goes (entry code).locals other.locals (entry_first code instance unborn) goes.locals)

  -- `this` is loaded once
  pub sole : (pc : ℕ) (instruction : Instruction) → Contains typed.code.instructions (pc, instruction) → 0 < pc → pc < own → is_own (pass_of instruction) ≡ false
  sole pc instruction has above less = by typed.code.instructions typed.frames table.are rising only receiver inside has
    where
      by : (list : Instructions) (frames : List Frame) → AreFrames Goes headers code (Some (entry code)) list (map top_down frames) → IsRising list → ((pc : ℕ) → StandsAt calls_own list frames pc → pc ≡ own)
          → begins_with_receiver list frames ≡ true → ((pc : ℕ) → pc < own → ¬ MayNotStand typed role.Plain list pc) → Contains list (pc, instruction) → is_own (pass_of instruction) ≡ false
      by [] frames are rising only begins inside has = absurd (false≢true begins)
      by (first ∷ rest) [] are rising only begins inside has = absurd (false≢true begins)
      by (first ∷ rest) (frame ∷ frames) are rising only begins inside (zero, within, is) =
          absurd (let here = rising.0 in let same = ap (λ (one : ℕ × Instruction). one.0) is in omega (arith, here, same, above))
      by (first ∷ rest) (frame ∷ frames) are rising only begins inside (suc k, within, is) =
          let both = and_parts (is_own (pass_of first.1)) (calls_on_first rest frames) begins in
          let opens = opens_all typed own rest frames (role_of first.1) 1 (λ pc stands. only pc (inr stands)) (λ pc less may. inside pc less (inr may)) rising.1 both.1 in
          never_loaded Goes headers code own (λ pc above less. given_none code pc (given_there pc above less)) rest frames _ 1 are.2 opens.0 rising.1 (omega arith)
          (flowing IsInFirst (falls first.1) (effect code first.0 (work code first.1) (top_down frame)) (loads_first Goes headers code first.0 frame first.1 both.0 (arrived (given code first.0) (top_down frame) are.0 are.1.1.0)))
          k pc instruction (omega (arith, within)) is less
