-- Where a frame goes.
use Rattle.std.proofs.Common.{◌≡◌, ◌↔◌, ℕ, Bool, Option, Some, sym, subst}
use Rattle.std.specs.Prelude.{IsTrue, IsSomeAnd, option_map}
use Rattle.dj_frames.specs.Frames.{Frame}
use Rattle.dj_code.specs.MethodCode.{Code}
use Rattle.dj_code.specs.Targets.{IsStart}
use Rattle.dj_tags.specs.Goes.{Assignability, Working, top_down, FrameGoes}
use Rattle.dj_verify.specs.Rules.{padded, frame_in, Reaches}
use Rattle.dj_verify.proofs.PaddedFrames.{goes_padded}

module _ (Goes : Assignability) (code : Code) (from : Working) (pc : ℕ) (target : Frame) (is : Some target ≡ frame_in pc code.frames) where
  abbrev given_by : Option Frame → Type 0
  given_by frame = IsSomeAnd (option_map (λ f. padded code.max_locals (top_down f)) frame) (FrameGoes Goes from)

  -- the frame given there needs no Tops to be compared
  pub reaches_given : (goes : Bool) → IsStart code.instructions pc → (IsTrue goes ↔ FrameGoes Goes from (top_down target)) → IsTrue goes ↔ Reaches Goes code from pc
  reaches_given goes start tells =
      let both = goes_padded Goes code.max_locals from (top_down target) in
      (λ yes. record { instruction = start; given = subst given_by is (both.0 (tells.0 yes)) }, λ reaches. tells.1 (both.1 (subst given_by (sym is) reaches.given)))
