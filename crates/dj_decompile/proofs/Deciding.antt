-- What tests decide.
use Rattle.std.proofs.Common.{◌≡◌, ◌↔◌, ℕ, ◌<◌, ◌≤◌, Bool, true, false, not, List, [], ◌∷◌, None, Contains, AllPairs, MatchBool, IsTrue, length, zero, suc, refl, sym, ap, subst, inl, inr, ◌∙◌, arith}
use Rattle.std.proofs.lemmas.Bool.{false≢true}
use Rattle.dj_names.specs.Types.{JType, Boolean, Byte, Char, Short, Int, Long, Float, Double, Class, Array}
use Rattle.dj_names.specs.Descriptors.{words}
use Rattle.dj_names.specs.MethodNames.{is_constructor}
use Rattle.dj_frames.specs.Frames.{slots_of, tag_of}
use Rattle.dj_world.specs.Worlds.{WorldOf}
use Rattle.dj_code.specs.MethodCode.{Typed}
use Rattle.dj_starts.specs.Starts.{IsBlockStart}
use Rattle.dj_places.specs.declared.kind.TypeKind.{TypeKind}
use Rattle.dj_places.specs.Rules.{Rules, NoRule, Rule, ◌and◌, Holds, Breaks}
use Rattle.dj_faults.specs.declared.fault.Fault.{Fault}
use Rattle.dj_faults.specs.FirstFault.{IsFirstFault}
use Rattle.dj_known_world.specs.Known.{is_known_world}
use Rattle.dj_given.specs.Given.{CallsNoOwn}
use Rattle.dj_decompiled.specs.Decompiled.{first_barred, IsCandidate, IsOneBlock, IsOpen, owned}

-- ---- rules

-- rules of which one is broken don't hold
broken : (at : ℕ) (kind : TypeKind) (rules : Rules) → Breaks at kind rules → ¬ Holds rules
broken at kind NoRule breaks holds = breaks
broken at kind (Rule place own kept) breaks holds = false≢true (sym breaks.0 ∙ holds)
broken at kind (first and second) (inl breaks) holds = broken at kind first breaks holds.0
broken at kind (first and second) (inr breaks) holds = broken at kind second breaks holds.1

-- nor do rules that have a fault
pub faulty : (rules : Rules) (fault : Fault) → IsFirstFault rules fault → IsTrue false ↔ Holds rules
faulty rules fault is = (λ yes. absurd (false≢true yes), λ holds. absurd (broken is.at fault.kind rules is.broken holds))

-- ---- slots

-- a value takes as many slots as words
pub wide_as : (type : JType) → words type ≡ length (slots_of (tag_of type))
wide_as Boolean = refl
wide_as Byte = refl
wide_as Char = refl
wide_as Short = refl
wide_as Int = refl
wide_as Long = refl
wide_as Float = refl
wide_as Double = refl
wide_as (Class name) = refl
wide_as (Array element) = refl

-- ---- candidates

-- what isn't so is false
pub untrue : (test : Bool) → not test ≡ true → test ≡ false
untrue true is = absurd (false≢true is)
untrue false is = refl

-- code with all that a candidate has but the calls is one, or calls a constructor on `this`
pub calls_decide : (world : WorldOf) (typed : Typed) (unowned : Bool) → is_known_world world.headers world.members ≡ true → first_barred typed.code.handlers typed.code.instructions ≡ None → typed.code.handlers ≡ []
    → is_constructor typed.code.name ≡ false → typed.code.max_locals ≤ 65535 → IsTrue unowned ↔ CallsNoOwn typed → MatchBool unowned (IsCandidate world typed) (IsOpen world typed)
calls_decide world typed true known straight uncaught plain locals calls = record { known = known; straight = straight; uncaught = uncaught; plain = plain; unowned = calls.0 refl; locals = locals }
calls_decide world typed false known straight uncaught plain locals calls = owned (λ none. false≢true (calls.1 none))

-- ---- blocks

-- what 0 alone has is 0
zero-of : (start : ℕ) → Contains (0 ∷ []) start → 0 ≡ start
zero-of start (zero, less, is) = is
zero-of start (suc place, less, is) = absurd (omega (arith, less))

-- a rising list that has what 0 alone has is that
one_only : (starts : List ℕ) → AllPairs (λ x y. x < y) starts → ((pc : ℕ) → Contains (0 ∷ []) pc ↔ Contains starts pc) → starts ≡ 0 ∷ []
one_only [] rise same = (let found = (same 0).0 (0, omega arith, refl) in absurd (omega (arith, found.1)))
one_only (first ∷ []) rise same = ap (λ (start : ℕ). start ∷ []) (sym (zero-of first ((same first).1 (0, omega arith, refl))))
one_only (first ∷ second ∷ rest) rise same =
    let least : 0 ≡ first = zero-of first ((same first).1 (0, omega arith, refl)) in
    let next : 0 ≡ second = zero-of second ((same second).1 (1, omega arith, refl)) in
    let below : first < second = rise 0 1 0 (omega arith) (omega arith) in
    absurd (omega (arith, least, next, below))

-- where one block begins, at 0, the list of what begins blocks is 0 alone
pub one_listed : (typed : Typed) (starts : List ℕ) → AllPairs (λ x y. x < y) starts → ((pc : ℕ) → Contains starts pc ↔ IsBlockStart typed pc) → IsOneBlock typed → starts ≡ 0 ∷ []
one_listed typed starts rise exact one = one_only starts rise (λ pc. (λ here. (exact pc).1 ((one pc).0 here), λ listed. (one pc).1 ((exact pc).0 listed)))

-- and where the list is that, one block begins, at 0
pub one_begins : (typed : Typed) (starts : List ℕ) → ((pc : ℕ) → Contains starts pc ↔ IsBlockStart typed pc) → starts ≡ 0 ∷ [] → IsOneBlock typed
one_begins typed starts exact is = subst (λ (list : List ℕ). (pc : ℕ) → Contains list pc ↔ IsBlockStart typed pc) is exact
