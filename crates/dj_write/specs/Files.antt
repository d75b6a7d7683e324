-- A class file by its indices, as the layout of class files sees it, and when its counts have room for it (JVMS 4.1).
use Rattle.std.specs.Prelude.{◌<◌, ◌^◌, ℕ, List, [], length, map, All, if◌then◌else◌}
use Rattle.dj_names.specs.Utf8.{spell_units}
use Rattle.dj_pool.specs.declared.entry.Entry.{Entry}
use Rattle.dj_pool.specs.declared.raw.Attribute.{Attribute}
use Rattle.dj_pool.specs.PoolFormat.{isnt_skip, spell_entry, units_of}
use Rattle.dj_class.specs.Members as plain
use Rattle.dj_class.specs.FileFormat.{Raw}
use Rattle.dj_write.specs.declared.members.RawMember.{RawMember}
use Rattle.dj_write.specs.declared.file.RawFile.{RawFile}

-- a field or a method, as its layout sees it
abbrev pub view_member : RawMember → plain.RawMember
view_member member = record { flags = member.flags; name = member.name; descriptor = member.descriptor; attributes = member.attributes }

-- members, as the layout of a class file sees them
abbrev pub view_members : List RawMember → List plain.RawMember
view_members members = map view_member members

-- a class file, as its layout sees it
abbrev pub view_file : RawFile → Raw
view_file file = record {
  front = record { minor = file.minor; major = file.major; pool = file.pool };
  rest = record {
    own = record { flags = file.flags; this_class = file.this_class; super_class = file.super_class };
    listed = record { interfaces = file.interfaces; fields = view_members file.fields; methods = view_members file.methods; attributes = file.attributes };
  };
}

-- the length of a text has two bytes (JVMS 4.4.7)
abbrev pub HasRoomForText : Entry → Type 0
HasRoomForText found = length (spell_units (units_of found)) < 2 ^ 16

-- the length of an attribute has four (JVMS 4.7)
abbrev pub HasRoomForContent : Attribute → Type 0
HasRoomForContent attribute = length attribute.content < 2 ^ 32

-- the attributes of a member are counted in two
pub record HasRoomForMember (member : plain.RawMember) : Type 0 where
  pub few : length member.attributes < 2 ^ 16
  pub contents : All HasRoomForContent member.attributes

-- the items of each list are counted in two, and each has room for what it holds
pub record HasRoom (file : Raw) : Type 0 where
  pub pool : length file.front.pool < 2 ^ 16
  pub texts : All HasRoomForText file.front.pool
  pub interfaces : length file.rest.listed.interfaces < 2 ^ 16
  pub fields : length file.rest.listed.fields < 2 ^ 16
  pub each_field : All HasRoomForMember file.rest.listed.fields
  pub methods : length file.rest.listed.methods < 2 ^ 16
  pub each_method : All HasRoomForMember file.rest.listed.methods
  pub attributes : length file.rest.listed.attributes < 2 ^ 16
  pub each_attribute : All HasRoomForContent file.rest.listed.attributes

-- what stands in a file for an index of the pool: nothing where no entry is
abbrev pub slot_bytes : Entry → List ℕ
slot_bytes found = if isnt_skip found then spell_entry found else []
