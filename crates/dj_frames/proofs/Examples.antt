-- Worked frames: entries of methods by hand (JVMS 4.10.1.6).
use Rattle.std.proofs.Common.{◌≡◌, ℕ, List, [], ◌∷◌, None, true, false, codes, refl}
use Rattle.dj_names.specs.Assignable.{object_name}
use Rattle.dj_names.specs.Types as type
use Rattle.dj_class.specs.Described.{MethodOf}
use Rattle.dj_frames.specs.Frames.{Int, Long, Top, UnbornThis, Object, entry_values, entry_frame}

abbrev method : ℕ → List ℕ → List type.JType → MethodOf
method flags name parameters = record { flags = flags; name = name; descriptor = type.Method parameters None; thrown = []; code = None }

-- ---- the entry of a method of a class C

-- static: the parameters alone
static_entry : entry_values (codes "C") (method 9 (codes "f") (type.Int ∷ type.Boolean ∷ [])) ≡ Int ∷ Int ∷ []
static_entry = refl

-- a constructor: `this` isn't constructed yet, and a long takes two locals
constructor_entry : entry_frame (codes "C") (method 1 (codes "<init>") (type.Long ∷ [])) ≡ record { locals = UnbornThis ∷ Long ∷ Top ∷ []; stack = []; unborn_this = true }
constructor_entry = refl

-- java/lang/Object has no constructor to call
object_entry : entry_frame object_name (method 1 (codes "<init>") []) ≡ record { locals = Object (type.Class object_name) ∷ []; stack = []; unborn_this = false }
object_entry = refl
