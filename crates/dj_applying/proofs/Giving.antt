-- Operands that were there, and what was done to the frame.
use Rattle.std.proofs.Common.{◌≡◌, ℕ, List, Option, true, refl, ap}
use Rattle.dj_names.specs.declared.header.Header.{Header}
use Rattle.dj_frames.specs.Frames.{Tag}
use Rattle.dj_code.specs.MethodCode.{Code}
use Rattle.dj_tags.specs.Goes.{Assignability, Working}
use Rattle.dj_effects.specs.Works.{Want, Plain}
use Rattle.dj_effects.specs.Operands.{AreWanted, under}
use Rattle.dj_effects.specs.Effects.{pushed}
use Rattle.dj_applying.specs.Done.{Did}

pub plain_did : (Goes : Assignability) (headers : List Header) (code : Code) (pc : ℕ) (wants : List Want) (gives : Option Tag) (old : Working) (stack : List Tag) → AreWanted Goes wants old.stack → stack ≡ pushed gives (under wants old.stack) → Did Goes headers code pc (Plain wants gives) old true (record old { stack = stack })
plain_did Goes headers code pc wants gives old stack wanted is =
    record { operands = (λ yes. wanted, λ all. refl); effect = λ yes. ap (λ now. record old { stack = now }) is }
