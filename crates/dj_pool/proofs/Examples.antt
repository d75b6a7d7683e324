-- The definitions of pools on worked values.
use Rattle.std.proofs.Common.{◌≡◌, List, [], ◌∷◌, Some, None, refl}
use Rattle.std.specs.Prelude.{codes}
use Rattle.std.specs.Int.{w64, cast_signed}
use Rattle.dj_layout.specs.Parts.{number}
use Rattle.dj_pool.specs.declared.entry.Entry.{Entry}
use Rattle.dj_pool.specs.declared.entry.Entry.TheVariants as entry
use Rattle.dj_pool.specs.declared.entry.Ask.TheVariants as ask
use Rattle.dj_pool.specs.PoolFormat.{pool, descriptor_behind, class_at, LeadsRight, IsMethodText, HasTag}

-- a Long takes two indices, and the second is no entry
long_pool : List Entry
long_pool = entry.Skip ∷ entry.Long (cast_signed w64 5) ∷ entry.Skip ∷ entry.Utf8 (codes "C") ∷ entry.Class 3 ∷ []

two_places : (pool None).spell long_pool ≡ 0 ∷ 5 ∷ 5 ∷ 0 ∷ 0 ∷ 0 ∷ 0 ∷ 0 ∷ 0 ∷ 0 ∷ 5 ∷ 1 ∷ 0 ∷ 1 ∷ 67 ∷ 7 ∷ 0 ∷ 3 ∷ []
unfolding long_pool number
two_places = refl

no_entry : HasTag long_pool 2 5 → ⊥
unfolding long_pool
no_entry h = cc

class_there : class_at long_pool 4 ≡ Some (codes "C")
unfolding long_pool
class_there = refl

-- a reference that stands in front of its NameAndType, whose descriptor is none
broken_pool : List Entry
broken_pool = entry.Skip ∷ entry.MethodRef 4 2 ∷ entry.NameAndType 3 3 ∷ entry.Utf8 (codes "C") ∷ entry.Class 3 ∷ []

behind_is : descriptor_behind broken_pool 2 ≡ Some (codes "C")
unfolding broken_pool
behind_is = refl

told_at_reference : LeadsRight ask.MethodMember (Some broken_pool) 2 ≡ IsMethodText (codes "C")
unfolding broken_pool
told_at_reference = refl
