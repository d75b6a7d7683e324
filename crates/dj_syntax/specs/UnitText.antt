-- The one text of a unit, as items: the lines of members, with their statements and expressions (JLS 3, 6 to 9, 14, 15).
use Rattle.std.specs.Prelude.{ℕ, ◌+◌, ◌==◌, Bool, not, ◌&&◌, if◌then◌else◌, nat_eq, List, [], ◌∷◌, ◌++◌, map, Option, Some, None, is_some, bit_and, codes}
use Rattle.std.specs.List.{flat_map}
use Rattle.std.specs.Fmt.{decimal}
use lib.Pointwise.{pointwise}
use Rattle.dj_names.specs.Types.{JType, parameters_of, result_of}
use Rattle.dj_syntax.specs.Trees.{Body, FieldText, MethodText, CompilationUnit}
use Rattle.dj_syntax.specs.Items.{Item, Space, Line, render, separated}
pub use Rattle.dj_syntax.specs.NameText.{word, sign, Spellings, dotted, letter, variable_name, label_name, type_items, result_items}
pub use Rattle.dj_syntax.specs.ExpText.{operator_text, number_shape, shape, is_atom, is_receiver, is_negated, parenthesised, operand, int_items, long_items, truth_text, super_items, pairs_items, exp_items, arguments_items, more_arguments, sizes_items}
pub use Rattle.dj_syntax.specs.StmText.{deeper, stored_items, value_items, answer_items, braced, headed, is_empty, else_items, case_items, rethrow_items, stm_items, stms_items, groups_items, catches_items}

-- ---- modifiers

-- the modifiers in the order in which they are written, each with its bit (JVMS 4.1, 4.5, 4.6)
abbrev pub modifiers : List (ℕ × List ℕ)
modifiers =
    (0x0001, codes "public") ∷ (0x0004, codes "protected") ∷ (0x0002, codes "private") ∷ (0x0400, codes "abstract")
    ∷ (0x0008, codes "static") ∷ (0x0010, codes "final") ∷ (0x0020, codes "synchronized") ∷ (0x0100, codes "native")
    ∷ (0x0080, codes "transient") ∷ (0x0040, codes "volatile") ∷ []

-- one modifier and a space, where its bit is among these
abbrev pub modifier_items : ℕ → ℕ × List ℕ → List Item
modifier_items bits modifier = if bit_and bits modifier.0 == 0 then [] else word modifier.1 ∷ Space ∷ []

-- the modifiers whose bits are among these
abbrev pub modifiers_items : ℕ → List Item
modifiers_items bits = flat_map (modifier_items bits) modifiers

-- whether class flags are those of an interface
abbrev pub is_interface : ℕ → Bool
is_interface flags = not (bit_and flags 0x0200 == 0)

-- the bits that a class shows: public, abstract and final; an interface shows public
abbrev pub class_bits : Bool → ℕ
class_bits interface = if interface then 0x0001 else 0x0411

-- the bits that a field shows, given whether its unit is an interface and whether it has a value
abbrev pub field_bits : Bool → Bool → ℕ
field_bits interface valued = if interface then 0x0008 else (if valued then 0x00df else 0x00cf)

-- the bits that a method shows, given whether its unit is an interface
abbrev pub method_bits : Bool → ℕ
method_bits interface = if interface then 0x0008 else 0x053f

-- whether a method is a constructor (JVMS 2.9)
abbrev pub is_constructor : List ℕ → Bool
is_constructor name = pointwise nat_eq name (codes "<init>")

-- whether a method is a static initialiser (JVMS 2.9)
abbrev pub is_initialiser : List ℕ → Bool
is_initialiser name = pointwise nat_eq name (codes "<clinit>")

-- ---- members, each on lines of its own at level 1 with the line end before it

-- a field: modifiers, type, name and value
abbrev pub field_items : Spellings → Bool → FieldText → List Item
field_items names interface field =
    Line 1 ∷ (modifiers_items (bit_and field.flags (field_bits interface (is_some field.value)))
    ++ (type_items names field.kind ++ Space ∷ word field.name ∷ value_items names field.value))

-- the helper: it throws its argument, past Java's rule on checked exceptions; it names classes in full, however the unit writes names
abbrev pub helper_items : Option (List ℕ) → List Item
helper_items None = []
helper_items (Some name) =
    Line 1 ∷ word (codes "static") ∷ Space ∷ sign (codes "<") ∷ word (codes "T") ∷ Space ∷ word (codes "extends") ∷ Space
    ∷ (dotted (codes "java/lang/Throwable") ++ sign (codes ">") ∷ Space
    ∷ (dotted (codes "java/lang/RuntimeException") ++ Space ∷ word name ∷ sign (codes "(")
    ∷ (dotted (codes "java/lang/Throwable") ++ Space ∷ word (codes "t") ∷ sign (codes ")") ∷ Space
    ∷ word (codes "throws") ∷ Space ∷ word (codes "T") ∷ Space ∷ sign (codes "{")
    ∷ Line 2 ∷ word (codes "throw") ∷ Space ∷ sign (codes "(") ∷ word (codes "T") ∷ sign (codes ")") ∷ Space
    ∷ word (codes "t") ∷ sign (codes ";") ∷ Line 1 ∷ sign (codes "}") ∷ [])))

-- parameters from this number on, each with the comma before it
abbrev pub more_parameters : Spellings → ℕ → List JType → List Item
more_parameters names number [] = []
more_parameters names number (kind ∷ rest) =
    sign (codes ",") ∷ Space ∷ (type_items names kind ++ Space ∷ word (112 ∷ decimal number) ∷ more_parameters names (number + 1) rest)

-- the parameters of a method, `p0` and so on
abbrev pub parameters_items : Spellings → List JType → List Item
parameters_items names [] = []
parameters_items names (kind ∷ rest) = type_items names kind ++ Space ∷ word (112 ∷ decimal 0) ∷ more_parameters names 1 rest

-- a list of classes behind a keyword, where it isn't empty
abbrev pub classes_items : Spellings → List ℕ → List (List ℕ) → List Item
classes_items names keyword [] = []
classes_items names keyword (first ∷ rest) =
    Space ∷ word keyword ∷ Space ∷ separated (sign (codes ",") ∷ Space ∷ []) (map names.class_name (first ∷ rest))

-- a body in braces, or the semicolon of a method without one
abbrev pub body_items : Spellings → Option Body → List Item
body_items names None = sign (codes ";") ∷ []
body_items names (Some body) =
    Space ∷ sign (codes "{") ∷ (stms_items names 2 body.statements ++ Line 1 ∷ sign (codes "}") ∷ [])

-- `default`, which a method with a body that isn't static has in an interface
abbrev pub default_items : Bool → MethodText → List Item
default_items interface method =
    if interface && (is_some method.body && (bit_and method.flags 0x0008 == 0)) then word (codes "default") ∷ Space ∷ [] else []

-- a method's result and name; a constructor has its class's simple name alone
abbrev pub name_items : Spellings → MethodText → List Item
name_items names method =
    if is_constructor method.name then word names.own ∷ []
    else result_items names (result_of method.descriptor) ++ Space ∷ word method.name ∷ []

-- the head of a method, up to its body
abbrev pub head_items : Spellings → Bool → MethodText → List Item
head_items names interface method =
    modifiers_items (bit_and method.flags (method_bits interface)) ++ (default_items interface method
    ++ (name_items names method ++ sign (codes "(") ∷ (parameters_items names (parameters_of method.descriptor)
    ++ sign (codes ")") ∷ classes_items names (codes "throws") method.thrown)))

-- a method, a constructor, or a static initialiser
abbrev pub method_items : Spellings → Bool → MethodText → List Item
method_items names interface method =
    Line 1 ∷ ((if is_initialiser method.name then word (codes "static") ∷ [] else head_items names interface method)
    ++ body_items names method.body)

-- ---- the unit

-- the line that names the package, where there is one
abbrev pub package_items : Option (List ℕ) → List Item
package_items None = []
package_items (Some name) = word (codes "package") ∷ Space ∷ (dotted name ++ sign (codes ";") ∷ Line 0 ∷ [])

-- the superclass, where the text names it
abbrev pub superclass_items : Spellings → Option (List ℕ) → List Item
superclass_items names None = []
superclass_items names (Some name) = Space ∷ word (codes "extends") ∷ Space ∷ names.class_name name

-- the head of a class, or of an interface, whose superinterfaces stand behind `extends`
abbrev pub unit_head_items : Spellings → CompilationUnit → List Item
unit_head_items names unit =
    let interface = is_interface unit.flags in
    modifiers_items (bit_and unit.flags (class_bits interface))
    ++ word (if interface then codes "interface" else codes "class") ∷ Space ∷ word unit.name
    ∷ (superclass_items names unit.superclass
    ++ (classes_items names (if interface then codes "extends" else codes "implements") unit.interfaces ++ Space ∷ sign (codes "{") ∷ []))

-- fields, the helper, then methods and constructors
abbrev pub members_items : Spellings → CompilationUnit → List Item
members_items names unit =
    flat_map (field_items names (is_interface unit.flags)) unit.fields
    ++ (helper_items unit.helper ++ flat_map (method_items names (is_interface unit.flags)) unit.methods)

-- a unit, given how it writes names
abbrev pub unit_items : Spellings → CompilationUnit → List Item
unit_items names unit =
    package_items unit.«package» ++ (unit_head_items names unit ++ (members_items names unit ++ Line 0 ∷ sign (codes "}") ∷ Line 0 ∷ []))

-- the name of a unit's class: its package's segments and its own
abbrev pub class_name : CompilationUnit → List ℕ
class_name unit = in_package unit.«package» unit.name
  where
    in_package : Option (List ℕ) → List ℕ → List ℕ
    in_package None name = name
    in_package (Some package_name) name = package_name ++ 47 ∷ name

-- the name of a unit's helper, empty where it has none
abbrev pub helper_name : Option (List ℕ) → List ℕ
helper_name None = []
helper_name (Some name) = name

-- every class's name in full
abbrev pub full_names : CompilationUnit → Spellings
full_names unit = record { class_name = dotted; own = unit.name; class = class_name unit; helper = helper_name unit.helper }

-- the one text of a unit, as characters
unfoldable pub unit_text : CompilationUnit → List ℕ
unit_text unit = render (unit_items (full_names unit) unit)
