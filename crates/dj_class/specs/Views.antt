-- What the code keeps of a class file, seen as plain data, and what `read_class` answers.
use Rattle.std.specs.Prelude.{◌≡◌, ℕ, List, map, Result, Ok, Err, ⊤}
use Rattle.dj_layout.specs.declared.fault.Fault.{Fault}
use Rattle.dj_names.specs.declared.members.Field as code_field
use Rattle.dj_names.specs.Types.{view_type, view_descriptor}
use Rattle.dj_pool.specs.declared.fault.BrokenKind.{BrokenKind}
use Rattle.dj_class.specs.declared.fault.ClassFault.{ClassFault}
use Rattle.dj_class.specs.declared.fault.ClassFault.TheVariants as fault
use Rattle.dj_class.specs.declared.method.Method as code_method
use Rattle.dj_class.specs.declared.class.ClassFile as code_class
use Rattle.dj_class.specs.Described.{FieldOf, MethodOf, ClassOf, HasFault}
use Rattle.dj_class.specs.FaultOf.{shown_place}

-- a field of the code, seen as plain data
abbrev pub view_field : code_field.Field → FieldOf
view_field field = record { flags = field.flags; name = field.name; descriptor = view_type field.descriptor; constant = field.constant }

-- a method of the code, seen as plain data
abbrev pub view_method : code_method.Method → MethodOf
view_method method = record {
  flags = method.flags;
  name = method.name;
  descriptor = view_descriptor method.descriptor;
  thrown = method.thrown;
  code = method.code;
}

-- a class of the code, seen as plain data
abbrev pub view_class : code_class.ClassFile → ClassOf
view_class class = record {
  minor = class.minor;
  major = class.major;
  pool = class.pool;
  flags = class.flags;
  this_class = class.this_class;
  super_class = class.super_class;
  interfaces = class.interfaces;
  fields = map view_field class.fields;
  methods = map view_method class.methods;
}

-- the fault is that of the bytes, or memory ran out
abbrev pub IsBroken : List ℕ → ℕ → ClassFault → Type 0
IsBroken bytes oldest (fault.Broken kind offset) = (found : Fault BrokenKind) × HasFault bytes oldest found × (kind ≡ found.kind) × (offset ≡ shown_place found.offset)
IsBroken bytes oldest (fault.Memory error) = ⊤

-- the answer is this class, unless memory ran out
abbrev pub GivesClass : Result code_class.ClassFile ClassFault → ClassOf → Type 0
GivesClass (Ok read) class = class ≡ view_class read
GivesClass (Err (fault.Broken kind offset)) class = ⊥
GivesClass (Err (fault.Memory error)) class = ⊤

-- the answer is this fault, unless memory ran out
abbrev pub GivesFault : Result code_class.ClassFile ClassFault → Fault BrokenKind → Type 0
GivesFault (Ok read) found = ⊥
GivesFault (Err (fault.Broken kind offset)) found = (kind ≡ found.kind) × (offset ≡ shown_place found.offset)
GivesFault (Err (fault.Memory error)) found = ⊤
