-- Where instructions stand that call a constructor on `this`, in another one (JVMS 4.10.1.9, invokespecial; JLS 8.8.7.1).
use Rattle.std.specs.Prelude.{◌≡◌, ◌⊎◌, ℕ, Bool, List, [], ◌∷◌, IsTrue}
use Rattle.dj_instructions.specs.Instructions.{Instruction, Instructions}
use Rattle.dj_frames.specs.Frames.{Frame}
use Rattle.dj_code.specs.MethodCode.{Typed}
use Rattle.dj_receivers.specs.OwnCalls.{calls_own}

-- of these instructions, with these frames before them, one at this offset passes the test
abbrev pub StandsAt : (Instruction → Frame → Bool) → Instructions → List Frame → ℕ → Type 0
StandsAt test [] frames pc = ⊥
StandsAt test (at ∷ rest) [] pc = ⊥
StandsAt test (at ∷ rest) (frame ∷ frames) pc = ((pc ≡ at.0) × IsTrue (test at.1 frame)) ⊎ StandsAt test rest frames pc

-- one stands at this offset
abbrev pub IsOwnCall : Typed → ℕ → Type 0
IsOwnCall typed = StandsAt calls_own typed.code.instructions typed.frames
