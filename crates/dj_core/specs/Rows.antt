-- The table of the code, seen as plain data: a descriptor is spelled there.
use Rattle.std.specs.Prelude.{◌≡◌, ℕ, List, [], ◌∷◌, ◌++◌, Option, map, option_map, flat_map, All}
use Rattle.std.specs.Borrow.{Bor}
use Rattle.dj_names.specs.declared.header.Header.{Header}
use Rattle.dj_names.specs.declared.members.MethodHead.{MethodHead}
use Rattle.dj_names.specs.declared.members.ClassMembers.{ClassMembers}
use Rattle.dj_names.specs.Headers.{Name}
use Rattle.dj_names.specs.Types.{Descriptor}
use Rattle.dj_names.specs.Descriptors.{spell_descriptor, SpellsDescriptor, IsDescriptor}
use Rattle.dj_core.specs.declared.rows.Group.{Group}
use Rattle.dj_core.specs.declared.rows.Row.{Row}
use Rattle.dj_core.specs.CoreClass.{CoreMethod, CoreClass, view_head}

-- a method whose descriptor is spelled
pub record Line : Type 0 where
  pub flags : ℕ
  pub name : List ℕ
  pub descriptor : List ℕ
  pub thrown : List Name

-- a class of such methods
pub record Lines : Type 0 where
  pub name : Name
  pub flags : ℕ
  pub superclass : Option Name
  pub interfaces : List Name
  pub methods : List Line

-- what references to texts refer to
abbrev pub texts : List (Bor (List ℕ)) → List (List ℕ)
texts = map (λ text. text.now)

-- a name and a descriptor of a group
abbrev pub line : Group → Bor (List ℕ) × Bor (List ℕ) → Line
line group pair = record { flags = group.flags; name = pair.0.now; descriptor = pair.1.now; thrown = texts group.thrown.now }

-- the methods of a group
abbrev pub group_lines : Group → List Line
group_lines group = map (line group) group.methods.now

-- a class of the table
abbrev pub row_lines : Row → Lines
row_lines row = record {
  name = row.name.now;
  flags = row.flags;
  superclass = option_map (λ text. text.now) row.superclass;
  interfaces = texts row.interfaces.now;
  methods = flat_map group_lines row.groups.now;
}

-- a method with its descriptor spelled
abbrev pub spell_method : CoreMethod → Line
spell_method core = record { flags = core.flags; name = core.name; descriptor = spell_descriptor core.descriptor; thrown = core.thrown }

-- a class with its descriptors spelled
abbrev pub spell_class : CoreClass → Lines
spell_class core = record { name = core.name; flags = core.flags; superclass = core.superclass; interfaces = core.interfaces; methods = map spell_method core.methods }

-- a text is the descriptor of something
pub record IsSpelling (text : List ℕ) : Type 0 where
  pub descriptor : Descriptor
  pub spelled : SpellsDescriptor text descriptor

-- a method has a descriptor that a method may have
abbrev pub IsSound : CoreMethod → Type 0
IsSound core = IsDescriptor core.descriptor

-- each method has a spelled descriptor
abbrev pub HasSpellings : List Line → Type 0
HasSpellings = All (λ line. IsSpelling line.descriptor)

-- the new methods are the old ones and those of the lines, each with a descriptor that a method may have
pub record AddsLines (old new : List MethodHead) (lines : List Line) : Type 0 where
  pub spelled : map (λ head. spell_method (view_head head)) new ≡ map (λ head. spell_method (view_head head)) old ++ lines
  pub sound : All (λ head. IsSound (view_head head)) old → All (λ head. IsSound (view_head head)) new

-- the header of a class of the table
abbrev pub row_header : Row → Header
row_header row = record { name = row.name.now; superclass = option_map (λ text. text.now) row.superclass; interfaces = texts row.interfaces.now; flags = row.flags }

-- the members of a class of the table
pub record AreRowMembers (row : Row) (members : ClassMembers) : Type 0 where
  pub fields : members.fields ≡ []
  pub methods : AddsLines [] members.methods (row_lines row).methods
  pub named : members.named ≡ row.name.now ∷ []
