-- The checked classes that escape from what an instruction calls (JLS 8.4.6, 8.8.5, 11.2.1).
use Rattle.std.specs.Prelude.{Bool, not, if◌then◌else◌, List, [], map, Option, Some, None}
use Rattle.std.specs.List.{list_any}
use Rattle.dj_names.specs.Headers.{Name}
use Rattle.dj_names.specs.Types.{StaticType, Of, parameters_of}
use Rattle.dj_names.specs.MethodNames.{is_constructor}
use Rattle.dj_values.specs.Fits.{class_of}
use Rattle.dj_values.specs.Deciding.{is_name}
use Rattle.dj_instructions.specs.Instructions.{MethodRef, Instruction, Nop, PushNull, Push, PushClass, PushHandle, PushMethodType, Load, Store, ArrayLoad, ArrayStore, Pop, Pop2, Dup, DupX1, DupX2, Dup2, Dup2X1, Dup2X2, Swap, Calc, Iinc, Convert, Compare, IfZero, IfInts, IfRefs, IfNull, Goto, TableSwitch, LookupSwitch, Return, GetStatic, PutStatic, GetField, PutField, InvokeVirtual, InvokeSpecial, InvokeStatic, InvokeInterface, InvokeDynamic, New, NewArray, MultiNewArray, ArrayLength, Throw, CheckCast, InstanceOf, MonitorEnter, MonitorExit}
use Rattle.dj_frames.specs.Frames.{Frame}
use Rattle.dj_code.specs.MethodCode.{Code}
use Rattle.dj_thrown.specs.Settings.{Setting}
use Rattle.dj_thrown.specs.Listed.{object_listed, class_listed, new_listed, construct_listed}
use Rattle.dj_thrown.specs.Catching.{may_escape}
use Rattle.dj_world.specs.Worlds.{WorldOf}
use Rattle.dj_receivers.specs.OwnCalls.{is_on_begun}

-- arguments of just the types of a method's parameters
abbrev pub exactly : MethodRef → Option (List StaticType)
exactly method = Some (map Of (parameters_of method.descriptor))

-- what the throws clause of the method lists that a call of an object's method means
abbrev pub virtual_listed : Setting → MethodRef → List Name
virtual_listed setting method = object_listed setting method.name (Some method.owner) (exactly method)

-- likewise of a static method
abbrev pub static_listed : Setting → MethodRef → List Name
static_listed setting method = listed_in_class (class_of method.owner)
  where
    listed_in_class : Option Name → List Name
    listed_in_class None = []
    listed_in_class (Some class) = class_listed setting class method.name (exactly method)

-- likewise of a constructor, on `this` or on a new object
abbrev pub constructor_listed : Setting → MethodRef → Bool → List Name
constructor_listed setting method begun = listed_for (class_of method.owner)
  where
    listed_for : Option Name → List Name
    listed_for None = []
    listed_for (Some class) = if begun then construct_listed setting (is_name class setting.class) (exactly method) else new_listed setting class (exactly method)

-- likewise of the method that an instruction calls, by the frame before it
abbrev pub listed_by : Setting → Instruction → Frame → List Name
listed_by setting Nop frame = []
listed_by setting PushNull frame = []
listed_by setting (Push constant) frame = []
listed_by setting (PushClass class) frame = []
listed_by setting (PushHandle kind interface owner name descriptor) frame = []
listed_by setting (PushMethodType descriptor) frame = []
listed_by setting (Load kind slot) frame = []
listed_by setting (Store kind slot) frame = []
listed_by setting (ArrayLoad element) frame = []
listed_by setting (ArrayStore element) frame = []
listed_by setting Pop frame = []
listed_by setting Pop2 frame = []
listed_by setting Dup frame = []
listed_by setting DupX1 frame = []
listed_by setting DupX2 frame = []
listed_by setting Dup2 frame = []
listed_by setting Dup2X1 frame = []
listed_by setting Dup2X2 frame = []
listed_by setting Swap frame = []
listed_by setting (Calc operation kind) frame = []
listed_by setting (Iinc slot by) frame = []
listed_by setting (Convert from to) frame = []
listed_by setting (Compare kind greater) frame = []
listed_by setting (IfZero test target) frame = []
listed_by setting (IfInts test target) frame = []
listed_by setting (IfRefs equal target) frame = []
listed_by setting (IfNull null target) frame = []
listed_by setting (Goto target) frame = []
listed_by setting (TableSwitch low targets other) frame = []
listed_by setting (LookupSwitch cases other) frame = []
listed_by setting (Return kind) frame = []
listed_by setting (GetStatic field) frame = []
listed_by setting (PutStatic field) frame = []
listed_by setting (GetField field) frame = []
listed_by setting (PutField field) frame = []
listed_by setting (InvokeVirtual method) frame = virtual_listed setting method
listed_by setting (InvokeSpecial method) frame =
    if is_constructor method.name then constructor_listed setting method (is_on_begun method frame) else virtual_listed setting method
listed_by setting (InvokeStatic method) frame = static_listed setting method
listed_by setting (InvokeInterface method) frame = virtual_listed setting method
listed_by setting (InvokeDynamic bootstrap name descriptor) frame = []
listed_by setting (New class) frame = []
listed_by setting (NewArray element) frame = []
listed_by setting (MultiNewArray class sizes) frame = []
listed_by setting ArrayLength frame = []
listed_by setting Throw frame = []
listed_by setting (CheckCast class) frame = []
listed_by setting (InstanceOf class) frame = []
listed_by setting MonitorEnter frame = []
listed_by setting MonitorExit frame = []

-- the classes as code sees them
abbrev pub setting_for : WorldOf → Code → Setting
setting_for world code = record { headers = world.headers; members = world.members; class = code.class }

-- a class that is checked, and below none that the method declares to throw, is among them
abbrev pub lets_escape : WorldOf → Code → Instruction → Frame → Bool
lets_escape world code instruction frame =
    list_any (λ class. not (may_escape world.headers code.thrown class)) (listed_by (setting_for world code) instruction frame)
