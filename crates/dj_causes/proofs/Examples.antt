-- Causes at worked examples: a wrong definition is refused here.
use Rattle.std.proofs.Common.{ℕ, pos, List, [], ◌∷◌, Option, Some, None, inl, inr, refl, arith}
use Rattle.std.specs.Prelude.{codes}
use Rattle.dj_names.specs.declared.members.Constant.{Constant}
use Rattle.dj_names.specs.declared.members.Constant.TheVariants as constant
use Rattle.dj_names.specs.Headers.{Name}
use Rattle.dj_names.specs.Types.{JType, Int, Byte, Long}
use Rattle.dj_class.specs.Described.{FieldOf}
use Rattle.dj_causes.specs.ClassCauses.{DescribesPackage, IsFirstUnset}
use Rattle.dj_causes.specs.FieldCauses.{IsRepeated, IsShowable, HasWrongConstant, field_names}

a_package : DescribesPackage (codes "a/b/package-info")
a_package = inl refl

a_module : DescribesPackage (codes "module-info")
a_module = inr refl

-- ---- fields

abbrev field : ℕ → Name → JType → Option Constant → FieldOf
field flags name type value = record { flags = flags; name = name; descriptor = type; constant = value }

-- the fields `static final int a = 5;` and `int a;`, and `b`, which is an interface's without a value
abbrev fields : List FieldOf
fields =
    field 0x0019 (codes "a") Int (Some (constant.Int (pos 5)))
    ∷ field 0x0000 (codes "a") Int None
    ∷ field 0x0019 (codes "b") Int None
    ∷ []

-- a second field of a name
a_field_twice : IsRepeated (field_names fields) 1
a_field_twice = record { name = codes "a"; here = refl; earlier = 0; before = omega arith; there = refl }

-- a constant of a field that isn't static counts as none
not_static : IsFirstUnset (field 0x0010 (codes "a") Int (Some (constant.Int (pos 5))) ∷ []) (codes "a")
not_static = record { field = field 0x0010 (codes "a") Int (Some (constant.Int (pos 5))); first = inl (λ has. has.0 refl, refl); named = refl }

-- 200 is no byte
too_large : ¬ IsShowable Byte (constant.Int (pos 200))
too_large range = omega (arith, range.1)

-- a static constant that isn't final
not_final : HasWrongConstant (field 0x0009 (codes "a") Int (Some (constant.Int (pos 5))))
not_final = (λ none. absurd cc, inl (λ final. final refl))

-- a long in a field of type long
a_long : IsShowable Long (constant.Long (pos 5))
a_long = refl
