-- In which order the classes above a class are searched for a member (JVMS 5.4.3.2 to 5.4.3.4).
use Rattle.std.specs.Prelude.{ℕ, zero, suc, ◌+◌, List, [], ◌∷◌, ◌++◌, Option, Some, None, MatchOption, flat_map, ◌⊎◌, if◌then◌else◌, length}
use Rattle.std.specs.Str.{bytes_eq}
use Rattle.dj_names.specs.declared.header.Header.{Header}
use Rattle.dj_names.specs.Headers.{Name}
use Rattle.dj_names.specs.MethodNames.{is_constructor}

-- the header of a class, if there is one
abbrev pub header_of : List Header → Name → Option Header
header_of [] class = None
header_of (header ∷ headers) class = if bytes_eq header.name class then Some header else header_of headers class

-- the superclass that a header names
abbrev pub superclass_in : Option Header → Option Name
superclass_in None = None
superclass_in (Some header) = header.superclass

-- the interfaces that a header names
abbrev pub interfaces_in : Option Header → List Name
interfaces_in None = []
interfaces_in (Some header) = header.interfaces

-- the interfaces that the header of a class names
abbrev pub interfaces_of : List Header → Name → List Name
interfaces_of headers class = interfaces_in (header_of headers class)

-- a class and its superclasses upward, in at most so many steps
abbrev pub upward : ℕ → List Header → Option Name → List Name
upward zero headers class = []
upward (suc most) headers None = []
upward (suc most) headers (Some class) = class ∷ upward most headers (superclass_in (header_of headers class))

-- an interface and what it extends, in order of listing, depth first
abbrev pub depth_first : ℕ → List Header → Name → List Name
depth_first zero headers interface = []
depth_first (suc most) headers interface = interface ∷ flat_map (depth_first most headers) (interfaces_of headers interface)

-- the interfaces of a class and what they extend
abbrev pub beside : ℕ → List Header → Name → List Name
beside most headers class = flat_map (depth_first most headers) (interfaces_of headers class)

-- without circles a path has at most as many steps as there are headers, and more steps add nothing
abbrev pub enough : List Header → ℕ
enough headers = length headers + 1

-- a class, its superclasses upward, and then the interfaces of these (JVMS 5.4.3.3, 5.4.3.4)
abbrev pub classes_then_interfaces : List Header → Name → List Name
classes_then_interfaces headers class =
    upward (enough headers) headers (Some class) ++ flat_map (beside (enough headers) headers) (upward (enough headers) headers (Some class))

-- where a method is searched for: a constructor in the class alone (JLS 8.8; JVMS 6.5, invokespecial)
abbrev pub method_order : List Header → Name → Name → List Name
method_order headers name class = if is_constructor name then class ∷ [] else classes_then_interfaces headers class

-- where a field is searched for: in a class, in its interfaces, and then in the same way from its superclass (JVMS 5.4.3.2)
abbrev pub field_order : List Header → Name → List Name
field_order headers class = flat_map (λ one. one ∷ beside (enough headers) headers one) (upward (enough headers) headers (Some class))

-- the first of these classes that has such a member itself
abbrev pub IsFirstIn : {A : Type 0} → (Name → A → Type 0) → List Name → A → Type 0
IsFirstIn Own [] member = ⊥
IsFirstIn {A} Own (class ∷ classes) member = Own class member ⊎ (((other : A) → ¬ Own class other) × IsFirstIn Own classes member)

-- the one that there is, or that there is none
abbrev pub FindsOne : {A : Type 0} → (A → Type 0) → Option A → Type 0
FindsOne {A} P found = MatchOption found ((one : A) → ¬ P one) P
