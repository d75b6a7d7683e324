-- The pool of a class file as a layout, and what is asked of the numbers in it once the whole pool is known (JVMS 4.4).
use Rattle.std.specs.Prelude.{◌≡◌, ◌⊎◌, ℕ, ◌-◌, ◌≤◌, List, [], ◌∷◌, length, take, drop, All, Bool, ◌||◌, ◌&&◌, ◌==◌, nat_le, if◌then◌else◌, filter, sum_by, flat_map, slice_get, Option, Some, None, IfSome, IsSomeAnd, ⊤}
use Rattle.std.specs.Int.{w32, w64, cast_signed, cast_unsigned}
use Rattle.std.specs.Option.{option_and_then}
use Rattle.dj_layout.specs.declared.fault.Fault.{Fault}
use Rattle.dj_layout.specs.Layout.{Layout, fault_of}
use Rattle.dj_layout.specs.Parts.{number, exactly, headed, tested, viewed, IsShort}
use Rattle.dj_layout.specs.Passes.{asked, sequence}
use Rattle.dj_names.specs.Types.{JType, Array, Field, Method}
use Rattle.dj_names.specs.ClassNames.{IsClassName}
use Rattle.dj_names.specs.Descriptors.{SpellsDescriptor}
use Rattle.dj_names.specs.Utf8.{IsUnit, AreNoUnits, spell_units}
use Rattle.dj_pool.specs.declared.fault.BrokenKind.{BrokenKind}
use Rattle.dj_pool.specs.declared.fault.BrokenKind.TheVariants as kind
use Rattle.dj_pool.specs.declared.entry.Entry.{Entry}
use Rattle.dj_pool.specs.declared.entry.Entry.TheVariants as entry
use Rattle.dj_pool.specs.declared.entry.Ask.{Ask}
use Rattle.dj_pool.specs.declared.entry.Ask.TheVariants as ask
use Rattle.dj_pool.specs.SharedParts.{u2}

-- ---- what an entry is made of

-- the tag of an entry (JVMS table 4.4-A), 0 at an index without one
abbrev pub tag_of : Entry → ℕ
tag_of entry.Skip = 0
tag_of (entry.Utf8 units) = 1
tag_of (entry.Integer number) = 3
tag_of (entry.Float bits) = 4
tag_of (entry.Long number) = 5
tag_of (entry.Double bits) = 6
tag_of (entry.Class name) = 7
tag_of (entry.Text units) = 8
tag_of (entry.FieldRef class member) = 9
tag_of (entry.MethodRef class member) = 10
tag_of (entry.InterfaceMethodRef class member) = 11
tag_of (entry.NameAndType name descriptor) = 12
tag_of (entry.MethodHandle kind reference) = 15
tag_of (entry.MethodType descriptor) = 16
tag_of (entry.InvokeDynamic bootstrap member) = 18

-- the characters of a text, none of any other entry
abbrev pub units_of : Entry → List ℕ
units_of entry.Skip = []
units_of (entry.Utf8 units) = units
units_of (entry.Integer number) = []
units_of (entry.Float bits) = []
units_of (entry.Long number) = []
units_of (entry.Double bits) = []
units_of (entry.Class name) = []
units_of (entry.Text units) = []
units_of (entry.FieldRef class member) = []
units_of (entry.MethodRef class member) = []
units_of (entry.InterfaceMethodRef class member) = []
units_of (entry.NameAndType name descriptor) = []
units_of (entry.MethodHandle kind reference) = []
units_of (entry.MethodType descriptor) = []
units_of (entry.InvokeDynamic bootstrap member) = []

-- the first number behind a tag, in two's complement where it has a sign
abbrev pub first_of : Entry → ℕ
first_of entry.Skip = 0
first_of (entry.Utf8 units) = 0
first_of (entry.Integer number) = cast_unsigned w32 number
first_of (entry.Float bits) = bits
first_of (entry.Long number) = cast_unsigned w64 number
first_of (entry.Double bits) = bits
first_of (entry.Class name) = name
first_of (entry.Text units) = units
first_of (entry.FieldRef class member) = class
first_of (entry.MethodRef class member) = class
first_of (entry.InterfaceMethodRef class member) = class
first_of (entry.NameAndType name descriptor) = name
first_of (entry.MethodHandle kind reference) = kind
first_of (entry.MethodType descriptor) = descriptor
first_of (entry.InvokeDynamic bootstrap member) = bootstrap

-- the second number behind a tag, 0 where there is none
abbrev pub second_of : Entry → ℕ
second_of entry.Skip = 0
second_of (entry.Utf8 units) = 0
second_of (entry.Integer number) = 0
second_of (entry.Float bits) = 0
second_of (entry.Long number) = 0
second_of (entry.Double bits) = 0
second_of (entry.Class name) = 0
second_of (entry.Text units) = 0
second_of (entry.FieldRef class member) = member
second_of (entry.MethodRef class member) = member
second_of (entry.InterfaceMethodRef class member) = member
second_of (entry.NameAndType name descriptor) = descriptor
second_of (entry.MethodHandle kind reference) = reference
second_of (entry.MethodType descriptor) = 0
second_of (entry.InvokeDynamic bootstrap member) = member

-- the entry of this tag, which isn't that of a text, with these numbers
abbrev pub entry_with : ℕ → ℕ → ℕ → Entry
entry_with tag x y =
    if tag == 3 then entry.Integer (cast_signed w32 x)
    else (if tag == 4 then entry.Float x
    else (if tag == 5 then entry.Long (cast_signed w64 x)
    else (if tag == 6 then entry.Double x
    else (if tag == 7 then entry.Class x
    else (if tag == 8 then entry.Text x
    else (if tag == 9 then entry.FieldRef x y
    else (if tag == 10 then entry.MethodRef x y
    else (if tag == 11 then entry.InterfaceMethodRef x y
    else (if tag == 12 then entry.NameAndType x y
    else (if tag == 15 then entry.MethodHandle x y
    else (if tag == 16 then entry.MethodType x
    else entry.InvokeDynamic x y)))))))))))

-- the tags that there are (JVMS table 4.4-A)
abbrev pub is_tag : ℕ → Bool
is_tag tag = (tag == 1) || (nat_le 3 tag && nat_le tag 12) || (tag == 15) || (tag == 16) || (tag == 18)

-- how many indices an entry of this tag takes (JVMS 4.4.5)
abbrev pub places : ℕ → ℕ
places tag = if (tag == 5) || (tag == 6) then 2 else 1

-- what stands behind a tag: characters, one number or two, each of so many bytes and with what is asked of it
pub data Content : Type 0 where
  Characters : Content
  One : ℕ → Ask → Content
  Two : ℕ → Ask → ℕ → Ask → Content

-- the table of what stands behind a tag (JVMS 4.4.1 to 4.4.10)
abbrev pub content_of : ℕ → Content
content_of tag =
    if tag == 1 then Characters
    else (if tag == 3 then One 4 ask.Free
    else (if tag == 4 then One 4 ask.Free
    else (if tag == 5 then One 8 ask.Free
    else (if tag == 6 then One 8 ask.Free
    else (if tag == 7 then One 2 ask.ClassText
    else (if tag == 8 then One 2 ask.Text
    else (if tag == 9 then Two 2 ask.Class 2 ask.FieldMember
    else (if tag == 10 then Two 2 ask.Class 2 ask.MethodMember
    else (if tag == 11 then Two 2 ask.Class 2 ask.MethodMember
    else (if tag == 12 then Two 2 ask.Text 2 ask.AnyText
    else (if tag == 15 then Two 1 ask.Free 2 ask.Reference
    else (if tag == 16 then One 2 ask.MethodText
    else Two 2 ask.Free 2 ask.MethodMember))))))))))))

-- ---- what indices lead to

-- the characters of an entry, where it is a text
abbrev pub text_of : Entry → Option (List ℕ)
text_of entry.Skip = None
text_of (entry.Utf8 units) = Some units
text_of (entry.Integer number) = None
text_of (entry.Float bits) = None
text_of (entry.Long number) = None
text_of (entry.Double bits) = None
text_of (entry.Class name) = None
text_of (entry.Text units) = None
text_of (entry.FieldRef class member) = None
text_of (entry.MethodRef class member) = None
text_of (entry.InterfaceMethodRef class member) = None
text_of (entry.NameAndType name descriptor) = None
text_of (entry.MethodHandle kind reference) = None
text_of (entry.MethodType descriptor) = None
text_of (entry.InvokeDynamic bootstrap member) = None

-- the units of the Utf8 entry at an index
abbrev pub text_at : List Entry → ℕ → Option (List ℕ)
text_at pool index = option_and_then text_of (slice_get pool index)

-- an entry of this tag is at the index
abbrev pub HasTag : List Entry → ℕ → ℕ → Type 0
HasTag pool index tag = IsSomeAnd (slice_get pool index) (λ found. tag_of found ≡ tag)

-- the first number of the entry at an index, if it has this tag
abbrev pub first_with : ℕ → Entry → Option ℕ
first_with tag found = if tag_of found == tag then Some (first_of found) else None

-- the second number of the entry at an index, if it has this tag
abbrev pub second_with : ℕ → Entry → Option ℕ
second_with tag found = if tag_of found == tag then Some (second_of found) else None

-- the units that the Class entry at an index leads to (JVMS 4.4.1)
abbrev pub class_at : List Entry → ℕ → Option (List ℕ)
class_at pool index = option_and_then (text_at pool) (option_and_then (first_with 7) (slice_get pool index))

-- the index is that of a class, no array (JVMS 4.4.1)
abbrev pub IsClassIndex : List Entry → ℕ → Type 0
IsClassIndex pool index = IsSomeAnd (class_at pool index) IsClassName

-- the units of the descriptor that the NameAndType entry at an index leads to (JVMS 4.4.6)
abbrev pub descriptor_behind : List Entry → ℕ → Option (List ℕ)
descriptor_behind pool index = option_and_then (text_at pool) (option_and_then (second_with 12) (slice_get pool index))

-- the units are the descriptor of a field
pub record IsFieldText (units : List ℕ) : Type 0 where
  pub type : JType
  pub spelled : SpellsDescriptor units (Field type)

-- the units are the descriptor of a method
pub record IsMethodText (units : List ℕ) : Type 0 where
  pub parameters : List JType
  pub result : Option JType
  pub spelled : SpellsDescriptor units (Method parameters result)

-- the units are the descriptor of an array type (JVMS 4.3.2)
pub record IsArrayText (units : List ℕ) : Type 0 where
  pub element : JType
  pub spelled : SpellsDescriptor units (Field (Array element))

-- the units are the descriptor of a field or a method
abbrev pub IsDescriptorText : List ℕ → Type 0
IsDescriptorText units = IsFieldText units ⊎ IsMethodText units

-- what a Class entry may lead to (JVMS 4.4.1)
abbrev pub IsClassText : List ℕ → Type 0
IsClassText units = IsClassName units ⊎ IsArrayText units

-- a Fieldref, a Methodref or an InterfaceMethodref is at the index
abbrev pub HasReference : List Entry → ℕ → Type 0
HasReference pool index = HasTag pool index 9 ⊎ HasTag pool index 10 ⊎ HasTag pool index 11

-- at the index is an entry of the tag that is asked, once the pool is known
abbrev pub IsFound : Ask → Option (List Entry) → ℕ → Type 0
IsFound ask.Free given index = ⊤
IsFound ask.Text given index = IfSome given (λ pool. HasTag pool index 1)
IsFound ask.ClassText given index = IfSome given (λ pool. HasTag pool index 1)
IsFound ask.AnyText given index = IfSome given (λ pool. HasTag pool index 1)
IsFound ask.MethodText given index = IfSome given (λ pool. HasTag pool index 1)
IsFound ask.Class given index = IfSome given (λ pool. HasTag pool index 7)
IsFound ask.FieldMember given index = IfSome given (λ pool. HasTag pool index 12)
IsFound ask.MethodMember given index = IfSome given (λ pool. HasTag pool index 12)
IsFound ask.Reference given index = IfSome given (λ pool. HasReference pool index)

-- the text that the index leads to, if it leads to one, is of the kind that is asked, once the pool is known
abbrev pub LeadsRight : Ask → Option (List Entry) → ℕ → Type 0
LeadsRight ask.Free given index = ⊤
LeadsRight ask.Text given index = ⊤
LeadsRight ask.ClassText given index = IfSome given (λ pool. IfSome (text_at pool index) IsClassText)
LeadsRight ask.AnyText given index = IfSome given (λ pool. IfSome (text_at pool index) IsDescriptorText)
LeadsRight ask.MethodText given index = IfSome given (λ pool. IfSome (text_at pool index) IsMethodText)
LeadsRight ask.Class given index = ⊤
LeadsRight ask.FieldMember given index = IfSome given (λ pool. IfSome (descriptor_behind pool index) IsFieldText)
LeadsRight ask.MethodMember given index = IfSome given (λ pool. IfSome (descriptor_behind pool index) IsMethodText)
LeadsRight ask.Reference given index = ⊤

-- ---- the layout; the first pass is given no pool, the second is given the pool that the first has read

-- n bytes are there, and they are no units from some place on
abbrev pub HaltsInUtf8 : ℕ → ℕ → List ℕ → Fault BrokenKind → Type 0
HaltsInUtf8 n end bytes fault =
    IsShort n kind.Short end bytes fault
    ⊎ ((at : ℕ) × (n ≤ length bytes) × AreNoUnits (take n bytes) at × (fault ≡ fault_of end (drop at bytes) kind.Units))

-- units in n bytes of modified UTF-8 (JVMS 4.4.7)
abbrev pub utf8 : ℕ → Layout BrokenKind (List ℕ)
utf8 n = record {
  spell = spell_units;
  Fits = λ x. All IsUnit x × (length (spell_units x) ≡ n);
  Halts = HaltsInUtf8 n;
}

-- units behind the number of their bytes
abbrev pub text : Layout BrokenKind (List ℕ)
text = headed (λ x. length (spell_units x)) u2 utf8

-- a number of n bytes, and what is asked of it
abbrev pub asked_number : Option (List Entry) → ℕ → Ask → Layout BrokenKind ℕ
asked_number given n what = asked (asked (number n kind.Short) (IsFound what given) kind.Index) (LeadsRight what given) kind.Descriptor

-- what stands behind a tag
abbrev pub behind : Option (List Entry) → ℕ → Content → Layout BrokenKind Entry
behind given tag Characters = headed units_of text (λ x. exactly (entry.Utf8 x))
behind given tag (One n what) = headed first_of (asked_number given n what) (λ x. exactly (entry_with tag x 0))
behind given tag (Two n what m other) = headed first_of (asked_number given n what) (λ x. headed second_of (asked_number given m other) (λ y. exactly (entry_with tag x y)))

-- a tag of an entry that has room in so many indices
abbrev pub tag_within : ℕ → Layout BrokenKind ℕ
tag_within room = tested (tested (number 1 kind.Short) is_tag kind.Tag) (λ tag. nat_le (places tag) room) kind.Index

-- an entry that has room in so many indices
abbrev pub entry_within : Option (List Entry) → ℕ → Layout BrokenKind Entry
entry_within given room = headed tag_of (tag_within room) (λ tag. behind given tag (content_of tag))

-- the one spelling of an entry
abbrev pub spell_entry : Entry → List ℕ
spell_entry = (entry_within None 0).spell

-- an entry and the indices that it takes
abbrev pub spread : Entry → List Entry
spread found = if places (tag_of found) == 2 then found ∷ entry.Skip ∷ [] else found ∷ []

-- there is an entry
abbrev pub isnt_skip : Entry → Bool
isnt_skip found = nat_le 1 (tag_of found)

-- how many indices entries take
abbrev pub places_of : List Entry → ℕ
places_of found = sum_by (λ x. places (tag_of x)) found

-- entries that take so many indices
abbrev pub plain_entries : Option (List Entry) → ℕ → Layout BrokenKind (List Entry)
plain_entries given n = sequence spell_entry (λ xs. places_of xs == n) (λ before. entry_within given (n - places_of before))

-- the pool from index 0 on, where no entry is, with one item an index
abbrev pub entries : Option (List Entry) → ℕ → Layout BrokenKind (List Entry)
entries given n = viewed (filter isnt_skip) (λ xs. entry.Skip ∷ flat_map spread xs) (plain_entries given n)

-- the pool behind its count, which counts index 0
abbrev pub pool : Option (List Entry) → Layout BrokenKind (List Entry)
pool given = headed length (tested u2 (λ count. nat_le 1 count) kind.Index) (λ count. entries given (count - 1))
