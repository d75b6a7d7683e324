-- What breaks a rule in a constructor, by what breaks one up to its first call of another constructor.
use Rattle.std.proofs.Common.{◌≡◌, ◌⊎◌, ◌&&◌, ℕ, ◌<◌, ◌≤◌, Bool, true, false, List, [], ◌∷◌, Option, IsTrue, refl, inl, inr, arith}
use Rattle.std.specs.Prelude.{if◌then◌else◌}
use Rattle.dj_instructions.specs.Instructions.{Instructions}
use Rattle.dj_frames.specs.Frames.{Frame}
use Rattle.dj_code.specs.MethodCode.{Typed}
use Rattle.dj_code.specs.Targets.{IsLeast}
use Rattle.dj_world.specs.Worlds.{WorldOf}
use Rattle.dj_names.specs.MethodNames.{is_constructor}
use Rattle.dj_receivers.specs.Passing.{pass_of}
use Rattle.dj_receivers.specs.OwnCalls.{calls_own}
use Rattle.dj_birth_causes.specs.OwnCalls.{StandsAt, IsOwnCall}
use Rattle.dj_birth_causes.specs.Beginning.{is_own, is_on_first, spares_first, calls_on_first, begins_with_receiver, MayNotStand, IsCovered, BreaksBefore, receiver, inside, given, range, thrown, compares, HasBeforeSuperAt}
use Rattle.dj_starts.specs.declared.roles.Role.TheVariants as role
use Rattle.dj_birth_causes.specs.Comparisons.{ComparesMore}
use Rattle.dj_birth_causes.specs.Leasts.{IsFirst, IsGivenBehind, EscapesUpTo, IsBrokenUpTo, lesser, up_to, before}
use Rattle.dj_birth_causes.proofs.Firsts.{first_map, first_up_to, first_before, first_either}

-- a constructor that begins with the receiver calls another one
and_first : (a b : Bool) → (a && b) ≡ true → b ≡ true
and_first true b both = both
and_first false b both = absurd cc

calls_one : (instructions : Instructions) (frames : List Frame) → calls_on_first instructions frames ≡ true → (pc : ℕ) × StandsAt calls_own instructions frames pc
calls_one [] frames calls = absurd cc
calls_one (at ∷ rest) [] calls = absurd cc
calls_one (at ∷ rest) (frame ∷ frames) calls = by_test (calls_own at.1 frame) refl calls (λ more. calls_one rest frames more)
  where
    by_test : (test : Bool) → calls_own at.1 frame ≡ test → (if test then is_on_first at.1 frame else spares_first at.1 frame && calls_on_first rest frames) ≡ true → (calls_on_first rest frames ≡ true → (pc : ℕ) × StandsAt calls_own rest frames pc)
        → (pc : ℕ) × StandsAt calls_own (at ∷ rest) (frame ∷ frames) pc
    by_test true is first below = (at.0, inl (refl, is))
    by_test false is more below = let one = below (and_first (spares_first at.1 frame) (calls_on_first rest frames) more) in (one.0, inr one.1)

pub begins_one : (instructions : Instructions) (frames : List Frame) → begins_with_receiver instructions frames ≡ true → (pc : ℕ) × StandsAt calls_own instructions frames pc
begins_one [] frames begins = absurd cc
begins_one (at ∷ rest) [] begins = absurd cc
begins_one (at ∷ rest) (frame ∷ frames) begins = let one = calls_one rest frames (and_first (is_own (pass_of at.1)) (calls_on_first rest frames) begins) in (one.0, inr one.1)

module _ (world : WorldOf) (typed : Typed) where
  -- without the receiver the first rule is broken at 0
  pub no_receiver : IsTrue (is_constructor typed.code.name) → begins_with_receiver typed.code.instructions typed.frames ≡ false → IsLeast (HasBeforeSuperAt world typed) 0
  no_receiver constructs none = record { here = record { constructor = constructs; breaks = receiver refl none }; least = λ other has. omega arith }

  -- with it the rules are broken up to the first call
  module _ (constructs : IsTrue (is_constructor typed.code.name)) (begins : begins_with_receiver typed.code.instructions typed.frames ≡ true) (call : ℕ) (least : IsLeast (IsOwnCall typed) call) where
    to : (pc : ℕ) → IsBrokenUpTo world typed call pc → HasBeforeSuperAt world typed pc
    to pc (inl broken) = record { constructor = constructs; breaks = inside (λ other is. (let low = least.least other is in let less = broken.0 in omega (arith, low, less))) broken.1 }
    to pc (inr (inl broken)) = record { constructor = constructs; breaks = given (λ other is. (let low = least.least other is in let le = broken.0 in omega (arith, low, le))) broken.1.0 broken.1.1 }
    to pc (inr (inr (inl broken))) = record { constructor = constructs; breaks = range (λ other is. (let low = least.least other is in let le = broken.0 in omega (arith, low, le))) broken.1 }
    to pc (inr (inr (inr (inl broken)))) = record { constructor = constructs; breaks = thrown (λ other is. (let low = least.least other is in let le = broken.0 in omega (arith, low, le))) broken.1 }
    to pc (inr (inr (inr (inr broken)))) = record { constructor = constructs; breaks = compares (λ other is. (let low = least.least other is in let le = broken.0 in omega (arith, low, le))) broken.1 }

    breaks_to : (pc : ℕ) → BreaksBefore world typed pc → IsBrokenUpTo world typed call pc
    breaks_to pc (receiver same none) = absurd (let a = begins in let b = none in cc)
    breaks_to pc (inside before misplaced) = inl (before call least.here, misplaced)
    breaks_to pc (given up behind is) = inr (inl (up call least.here, (behind, is)))
    breaks_to pc (range up covered) = inr (inr (inl (up call least.here, covered)))
    breaks_to pc (thrown up escapes) = inr (inr (inr (inl (up call least.here, escapes))))
    breaks_to pc (compares up deep) = inr (inr (inr (inr (up call least.here, deep))))

    pub broken_first : (found : Option ℕ) → IsFirst (IsBrokenUpTo world typed call) found → IsFirst (HasBeforeSuperAt world typed) found
    broken_first found = first_map (IsBrokenUpTo world typed call) (HasBeforeSuperAt world typed) to (λ pc has. breaks_to pc has.breaks) found

  -- each rule by itself
  pub broken_parts : (call : ℕ) (a b c d e : Option ℕ) → IsFirst (MayNotStand typed role.Plain typed.code.instructions) a → IsFirst (IsGivenBehind typed.code.frames) b → IsFirst (IsCovered typed) c → IsFirst (EscapesUpTo world typed call) d
      → IsFirst (ComparesMore 0 typed.code.instructions) e → IsFirst (IsBrokenUpTo world typed call) (lesser (before call a) (lesser (up_to call b) (lesser (up_to call c) (lesser d (up_to call e)))))
  broken_parts call a b c d e placed behind covered escaping deep =
      let A : ℕ → Type 0 = λ pc. (pc < call) × MayNotStand typed role.Plain typed.code.instructions pc in
      let B : ℕ → Type 0 = λ pc. (pc ≤ call) × IsGivenBehind typed.code.frames pc in
      let C : ℕ → Type 0 = λ pc. (pc ≤ call) × IsCovered typed pc in
      let E : ℕ → Type 0 = λ pc. (pc ≤ call) × ComparesMore 0 typed.code.instructions pc in
      first_either A (λ pc. B pc ⊎ (C pc ⊎ (EscapesUpTo world typed call pc ⊎ E pc))) (before call a) (lesser (up_to call b) (lesser (up_to call c) (lesser d (up_to call e)))) (first_before (MayNotStand typed role.Plain typed.code.instructions) call a placed)
      (first_either B (λ pc. C pc ⊎ (EscapesUpTo world typed call pc ⊎ E pc)) (up_to call b) (lesser (up_to call c) (lesser d (up_to call e))) (first_up_to (IsGivenBehind typed.code.frames) call b behind)
      (first_either C (λ pc. EscapesUpTo world typed call pc ⊎ E pc) (up_to call c) (lesser d (up_to call e)) (first_up_to (IsCovered typed) call c covered)
      (first_either (EscapesUpTo world typed call) E d (up_to call e) escaping (first_up_to (ComparesMore 0 typed.code.instructions) call e deep))))
