-- A field and a method, from their parts.
use Rattle.std.proofs.Common.{◌≡◌, ℕ, List, [], Option, Some, None, IsSomeAnd, refl}
use Rattle.std.specs.Option.{unwrap_or}
use Rattle.dj_layout.specs.Layout.{Spells, SpellsSome}
use Rattle.dj_layout.specs.Passes.{asked}
use Rattle.dj_names.specs.declared.members.Constant.{Constant}
use Rattle.dj_names.specs.Headers.{Name}
use Rattle.dj_names.specs.Types.{JType, Descriptor, Field}
use Rattle.dj_names.specs.Descriptors.{SpellsDescriptor}
use Rattle.std.specs.Prelude.{codes}
use Rattle.dj_pool.specs.declared.fault.BrokenKind.TheVariants as kind
use Rattle.dj_pool.specs.declared.raw.Attribute.{Attribute}
use Rattle.dj_pool.specs.declared.entry.Entry.{Entry}
use Rattle.dj_pool.specs.SharedParts.{u2, counted, attribute}
use Rattle.dj_pool.specs.PoolFormat.{text_at, IsFieldText, IsMethodText}
use Rattle.dj_class.specs.FileFormat.{HasFieldFlags, HasOneAccess, member_name, counted_in_turn, lawful_in_field, method_attributes, field, method}
use Rattle.dj_pool.specs.Attributes.{contents}
use Rattle.dj_class.specs.Described.{IsConstant, IsThrown, DescribesField, DescribesMethod}
use Rattle.dj_class.specs.FileParts.{HasExceptions, HasFound}
use Rattle.dj_class.proofs.RestParts.{four_texts}

pub field_read : (pool : List Entry) (bytes r s t u : List ℕ) (flags index descriptor : ℕ) (name : List ℕ) (type : JType) (constant : Option Constant)
    → Spells (asked u2 HasFieldFlags kind.Flags) bytes flags r → Spells (member_name pool) r index s → Spells (asked u2 (λ i. IsSomeAnd (text_at pool i) IsFieldText) kind.Descriptor) s descriptor t
    → SpellsSome (counted_in_turn (lawful_in_field pool descriptor)) (λ attributes found. IsConstant pool (contents pool (codes "ConstantValue") attributes) found) t constant u
    → text_at pool index ≡ Some name → IsSomeAnd (text_at pool descriptor) (λ units. SpellsDescriptor units (Field type))
    → SpellsSome (field pool) (DescribesField pool) bytes (record { flags = flags; name = name; descriptor = type; constant = constant }) u
field_read pool bytes r s t u flags index descriptor name type constant p q w z named spelled = record {
  value = record { flags = flags; name = index; descriptor = descriptor; attributes = z.value };
  spells = record { fits = (p.fits, (q.fits, (w.fits, (z.spells.fits, refl)))); text = four_texts bytes r s t u (u2.spell flags) (u2.spell index) (u2.spell descriptor) ((counted attribute).spell z.value) p.text q.text w.text z.spells.text };
  means = record { flags = refl; name = named; descriptor = spelled; constant = z.means };
}

thrown_are : (pool : List Entry) (attributes : List Attribute) (thrown : Option (List Name)) → HasExceptions pool attributes thrown → IsThrown pool (contents pool (codes "Exceptions") attributes) (unwrap_or thrown [])
thrown_are pool attributes None has = rw has refl
thrown_are pool attributes (Some thrown) (content, one, is) = rw one is

pub method_read : (pool : List Entry) (bytes r s t u : List ℕ) (flags index place : ℕ) (name : List ℕ) (descriptor : Descriptor) (code : Option (List ℕ)) (thrown : Option (List Name))
    → Spells (asked u2 HasOneAccess kind.Flags) bytes flags r → Spells (member_name pool) r index s → Spells (asked u2 (λ i. IsSomeAnd (text_at pool i) IsMethodText) kind.Descriptor) s place t
    → SpellsSome (method_attributes pool flags) (HasFound pool) t (code, thrown) u → text_at pool index ≡ Some name → IsSomeAnd (text_at pool place) (λ units. SpellsDescriptor units descriptor)
    → SpellsSome (method pool) (DescribesMethod pool) bytes (record { flags = flags; name = name; descriptor = descriptor; thrown = unwrap_or thrown []; code = code }) u
method_read pool bytes r s t u flags index place name descriptor code thrown p q w z named spelled = record {
  value = record { flags = flags; name = index; descriptor = place; attributes = z.value };
  spells = record { fits = (p.fits, (q.fits, (w.fits, (z.spells.fits, refl)))); text = four_texts bytes r s t u (u2.spell flags) (u2.spell index) (u2.spell place) ((counted attribute).spell z.value) p.text q.text w.text z.spells.text };
  means = record { flags = refl; name = named; descriptor = spelled; code = z.means.code_is; thrown = thrown_are pool z.value thrown z.means.thrown_are };
}
