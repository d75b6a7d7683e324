-- The flags that a text gives back are given back by the text with them.
use Rattle.std.proofs.Common.{◌≡◌, ℕ, zero, suc, ◌≤◌, ◌==◌, Bool, true, false, not, ◌&&◌, Option, is_some, bit_and, bit_or, refl, sym, ap, ◌∙◌, arith}
use Rattle.std.specs.Prelude.{if◌then◌else◌}
use Rattle.std.specs.Int.Bits.{and_self, and_zero_r, or_zero_r}
use Rattle.std.proofs.lemmas.Nat.{and_assoc, and_or_apart, and_le_r}
use Rattle.dj_syntax.specs.Trees.{Body, FieldText, MethodText}
use Rattle.dj_syntax.specs.UnitText.{is_initialiser, is_interface, class_bits, field_bits, method_bits}
use Rattle.dj_syntax.specs.WellFormed.{held_class, held_field, held_method}

-- what a mask leaves, with bits apart from it
held_again : (flags mask bits : ℕ) → bit_and bits mask ≡ 0 → bit_or (bit_and flags mask) bits ≡ bit_or (bit_and (bit_or (bit_and flags mask) bits) mask) bits
held_again flags mask bits apart =
    ap (λ (shown : ℕ). bit_or shown bits) (sym (and_or_apart mask (bit_and flags mask) bits apart ∙ and_assoc mask flags mask ∙ ap (bit_and flags) (and_self mask)))

-- ---- classes

small : (b : ℕ) → b ≤ 1 → not (bit_and (bit_or b 0x0600) 0x0200 == 0) ≡ true
small zero within = refl
small (suc zero) within = refl
small (suc (suc b)) within = absurd (omega (arith, within))

abbrev held_as : Bool → ℕ → ℕ
held_as interface flags = bit_or (bit_and flags (class_bits interface)) (if interface then 0x0600 else 0)

interface_kept : (flags : ℕ) (interface : Bool) → is_interface (held_as interface flags) ≡ interface
interface_kept flags true = small (bit_and flags 0x0001) (and_le_r flags 0x0001)
interface_kept flags false =
    ap (λ (bits : ℕ). not (bits == 0)) (ap (λ (bits : ℕ). bit_and bits 0x0200) (or_zero_r (bit_and flags 0x0411)) ∙ and_assoc 0x0200 flags 0x0411 ∙ and_zero_r flags)

held_as_again : (flags : ℕ) (interface : Bool) → held_as interface flags ≡ held_as interface (held_as interface flags)
held_as_again flags true = held_again flags 0x0001 0x0600 refl
held_as_again flags false = held_again flags 0x0411 0 refl

pub class_kind_kept : (flags : ℕ) → is_interface (held_class flags) ≡ is_interface flags
class_kind_kept flags = interface_kept flags (is_interface flags)

pub class_flags_kept : (flags : ℕ) → held_class flags ≡ held_class (held_class flags)
class_flags_kept flags = held_as_again flags (is_interface flags) ∙ ap (λ (interface : Bool). held_as interface (held_class flags)) (sym (class_kind_kept flags))

-- ---- fields

abbrev with_field_flags : FieldText → ℕ → FieldText
with_field_flags field flags = record field { flags = flags }

pub field_flags_kept : (interface : Bool) (field : FieldText) → held_field interface field ≡ held_field interface (with_field_flags field (held_field interface field))
field_flags_kept interface field = go interface (is_some field.value)
  where
    go : (i v : Bool) → bit_or (bit_and field.flags (field_bits i v)) (if i then (if v then 0x0011 else 0x0001) else 0)
        ≡ bit_or (bit_and (bit_or (bit_and field.flags (field_bits i v)) (if i then (if v then 0x0011 else 0x0001) else 0)) (field_bits i v)) (if i then (if v then 0x0011 else 0x0001) else 0)
    go true true = held_again field.flags 0x0008 0x0011 refl
    go true false = held_again field.flags 0x0008 0x0001 refl
    go false true = held_again field.flags 0x00df 0 refl
    go false false = held_again field.flags 0x00cf 0 refl

-- ---- methods

abbrev with_flags : MethodText → ℕ → MethodText
with_flags method flags = record method { flags = flags }

static_kept : (flags : ℕ) (none : Bool) → bit_and (bit_or (bit_and flags 0x0008) (if none then 0x0401 else 0x0001)) 0x0008 ≡ bit_and flags 0x0008
static_kept flags true = and_or_apart 0x0008 (bit_and flags 0x0008) 0x0401 refl ∙ and_assoc 0x0008 flags 0x0008
static_kept flags false = and_or_apart 0x0008 (bit_and flags 0x0008) 0x0001 refl ∙ and_assoc 0x0008 flags 0x0008

abbrev bare : Option Body → Bool → ℕ → ℕ → ℕ
bare body interface shown static = bit_or shown (if interface then (if not (is_some body) && (static == 0) then 0x0401 else 0x0001) else 0)

abbrev held_by : Option Body → Bool → Bool → ℕ → ℕ
held_by body interface initialiser flags = if initialiser then 0x0008 else bare body interface (bit_and flags (method_bits interface)) (bit_and flags 0x0008)

held_by_again : (body : Option Body) (flags : ℕ) (interface initialiser : Bool) → held_by body interface initialiser flags ≡ held_by body interface initialiser (held_by body interface initialiser flags)
held_by_again body flags interface true = refl
held_by_again body flags true false = ap (λ (static : ℕ). bare body true static static) (sym (static_kept flags (not (is_some body) && (bit_and flags 0x0008 == 0))))
held_by_again body flags false false = held_again flags 0x053f 0 refl

pub method_flags_kept : (interface : Bool) (method : MethodText) → held_method interface method ≡ held_method interface (with_flags method (held_method interface method))
method_flags_kept interface method = held_by_again method.body method.flags interface (is_initialiser method.name)
