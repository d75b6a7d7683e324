-- A field or a method as it is laid out (JVMS 4.5, 4.6).
use Rattle.std.specs.Prelude.{ℕ, List}
use Rattle.dj_layout.specs.Layout.{Layout}
use Rattle.dj_layout.specs.Parts.{exactly, headed}
use Rattle.dj_pool.specs.declared.fault.BrokenKind.{BrokenKind}
use Rattle.dj_pool.specs.declared.raw.Attribute.{Attribute}
use Rattle.dj_pool.specs.SharedParts.{u2, counted, attribute}

-- a field or a method: the indices of its name and its descriptor
pub record RawMember : Type 0 where
  pub flags : ℕ
  pub name : ℕ
  pub descriptor : ℕ
  pub attributes : List Attribute

-- a field or a method (JVMS 4.5, 4.6)
abbrev pub member : Layout BrokenKind RawMember
member =
    headed (λ m. m.flags) u2 (λ flags.
    headed (λ m. m.name) u2 (λ name.
    headed (λ m. m.descriptor) u2 (λ descriptor.
    headed (λ m. m.attributes) (counted attribute) (λ attributes.
    exactly (record { flags = flags; name = name; descriptor = descriptor; attributes = attributes })))))
