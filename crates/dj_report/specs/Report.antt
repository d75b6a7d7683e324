-- The lines of the report.
use Rattle.std.specs.Prelude.{ℕ, List, [], ◌∷◌, ◌++◌, codes}
use Rattle.std.specs.List.{flat_map}
use Rattle.std.specs.Str.{chars}
use Rattle.std.specs.Char.Escape.{encode_utf16}
use Rattle.std.specs.Fmt.{decimal}
use Rattle.dj_names.specs.Types.{Descriptor, JType}
use Rattle.dj_names.specs.Descriptors.{spell_descriptor, spell_type}
use Rattle.dj_names.specs.Shown.{show_units}
use Rattle.dj_pool.specs.declared.fault.BrokenKind.{BrokenKind}
use Rattle.dj_pool.specs.declared.fault.BrokenKind.TheVariants as broken
use Rattle.dj_instructions.specs.declared.kinds.BadKind.{BadKind}
use Rattle.dj_instructions.specs.declared.kinds.BadKind.TheVariants as bad
use Rattle.dj_verify.specs.declared.rule.Rule.{Rule}
use Rattle.dj_verify.specs.declared.rule.Rule.TheVariants as rule
use Rattle.dj_world.specs.declared.fault.ClashKind.{ClashKind}
use Rattle.dj_world.specs.declared.fault.ClashKind.TheVariants as clash
use Rattle.dj_causes.specs.declared.cause.ClassCause.{ClassCause}
use Rattle.dj_causes.specs.declared.cause.ClassCause.TheVariants as class_cause
use Rattle.dj_causes.specs.declared.cause.FieldCause.{FieldCause}
use Rattle.dj_causes.specs.declared.cause.FieldCause.TheVariants as field_cause
use Rattle.dj_causes.specs.declared.cause.Cause.{Cause}
use Rattle.dj_causes.specs.declared.cause.Cause.TheVariants as cause
use Rattle.dj_words.specs.declared.order.UsageKind.{UsageKind}
use Rattle.dj_words.specs.declared.order.UsageKind.TheVariants as kind

-- a line of the report: on a class by its name, on a method by its class's name, its own name and its
-- descriptor, with an offset in its code and, where its code is bad or not verified, with what is wrong there,
-- on a field by its class's name, its own name and its type, on each of these that is refused with the cause,
-- on a file that is broken by its path, with what is wrong and an offset, on one whose class clashes with others
-- by its path, with how, on a list of library files that isn't UTF-8 by its path, on the words, and on a file by
-- its place
pub data Line : Type 0 where
  NotYetMethod : List ℕ → List ℕ → Descriptor → ℕ → Line
  BadMethod : List ℕ → List ℕ → Descriptor → BadKind → ℕ → Line
  UnverifiedMethod : List ℕ → List ℕ → Descriptor → Rule → ℕ → Line
  RefusedClass : List ℕ → ClassCause → Line
  RefusedField : List ℕ → List ℕ → JType → FieldCause → Line
  RefusedMethod : List ℕ → List ℕ → Descriptor → Cause → Line
  Broken : List ℕ → BrokenKind → ℕ → Line
  Clash : List ℕ → ClashKind → Line
  Unread : List ℕ → Line
  Usage : UsageKind → Line
  Read : ℕ → Line
  Much : ℕ → Line

-- the UTF-16 units of a path
abbrev pub path_units : List ℕ → List ℕ
path_units path = flat_map encode_utf16 (chars path)

-- the word for what is wrong with words
abbrev pub kind_text : UsageKind → List ℕ
kind_text kind.Words = codes "Words"
kind_text kind.NoFile = codes "NoFile"
kind_text kind.TwoOrders = codes "TwoOrders"
kind_text kind.Number = codes "Number"

-- the word for what is wrong with a class file
abbrev pub broken_text : BrokenKind → List ℕ
broken_text broken.Short = codes "Short"
broken_text broken.Magic = codes "Magic"
broken_text broken.Version = codes "Version"
broken_text broken.Tag = codes "Tag"
broken_text broken.Index = codes "Index"
broken_text broken.Units = codes "Units"
broken_text broken.Descriptor = codes "Descriptor"
broken_text broken.Trailing = codes "Trailing"
broken_text broken.Attribute = codes "Attribute"
broken_text broken.Flags = codes "Flags"

-- the word for how a class clashes with others
abbrev pub clash_text : ClashKind → List ℕ
clash_text clash.Twice = codes "Twice"
clash_text clash.Cycle = codes "Cycle"
clash_text clash.SuperIsFinal = codes "SuperIsFinal"
clash_text clash.SuperKind = codes "SuperKind"

-- the word for what is wrong with a method's code
abbrev pub bad_text : BadKind → List ℕ
bad_text bad.Opcode = codes "Opcode"
bad_text bad.CutOff = codes "CutOff"
bad_text bad.Target = codes "Target"
bad_text bad.Range = codes "Range"
bad_text bad.Frame = codes "Frame"

-- the word for a rule of type checking
abbrev pub rule_text : Rule → List ℕ
rule_text rule.NoFrame = codes "NoFrame"
rule_text rule.Into = codes "Into"
rule_text rule.Operands = codes "Operands"
rule_text rule.Room = codes "Room"
rule_text rule.Target = codes "Target"
rule_text rule.Handler = codes "Handler"
rule_text rule.Past = codes "Past"

-- how a line names a field of a class
abbrev pub shown_field : List ℕ → List ℕ → JType → List ℕ
shown_field class name type = show_units class ++ codes "." ++ show_units name ++ codes ":" ++ show_units (spell_type type)

-- how a line names a method of a class
abbrev pub shown_method : List ℕ → List ℕ → Descriptor → List ℕ
shown_method class name descriptor = show_units class ++ codes "." ++ show_units name ++ show_units (spell_descriptor descriptor)

-- the end of the line on a method that isn't straight at this offset of its code
abbrev pub not_yet_tail : ℕ → List ℕ
not_yet_tail pc = codes " notyet " ++ decimal pc ++ 10 ∷ []

-- the end of the line on a method whose code is bad at this offset
abbrev pub bad_tail : BadKind → ℕ → List ℕ
bad_tail kind pc = codes " bad " ++ bad_text kind ++ codes " " ++ decimal pc ++ 10 ∷ []

-- the end of the line on a method whose code isn't verified, by the first rule that it breaks, at this offset
abbrev pub unverified_tail : Rule → ℕ → List ℕ
unverified_tail broken pc = codes " unverified " ++ rule_text broken ++ codes " " ++ decimal pc ++ 10 ∷ []

-- the end of a line by a cause that is a word, by one with a number behind the word, and by one with a name
abbrev pub plain_tail : List ℕ → List ℕ
plain_tail cause = codes " refused " ++ cause ++ 10 ∷ []

-- the end of the line on what is refused, with the number that the cause is about
abbrev pub numbered_tail : List ℕ → ℕ → List ℕ
numbered_tail cause number = codes " refused " ++ cause ++ codes " " ++ decimal number ++ 10 ∷ []

-- the end of the line on what is refused, with the name that the cause is about
abbrev pub named_tail : List ℕ → List ℕ → List ℕ
named_tail cause name = codes " refused " ++ cause ++ codes " " ++ show_units name ++ 10 ∷ []

-- the end of the line on a class that is refused, with the name that the cause is about
abbrev pub refused_class_tail : ClassCause → List ℕ
refused_class_tail class_cause.Enum = plain_tail (codes "Enum")
refused_class_tail class_cause.Annotation = plain_tail (codes "Annotation")
refused_class_tail class_cause.Package = plain_tail (codes "Package")
refused_class_tail class_cause.Root = plain_tail (codes "Root")
refused_class_tail (class_cause.Name name) = named_tail (codes "Name") name
refused_class_tail (class_cause.Constant name) = named_tail (codes "Constant") name

-- the end of the line on a field that is refused, with the name that the cause is about
abbrev pub refused_field_tail : FieldCause → List ℕ
refused_field_tail (field_cause.Name name) = named_tail (codes "Name") name
refused_field_tail field_cause.Signature = plain_tail (codes "Signature")
refused_field_tail field_cause.Constant = plain_tail (codes "Constant")

-- the end of the line on a method that is refused, with the offset in its code, the name or the size that the cause is about
abbrev pub refused_method_tail : Cause → List ℕ
refused_method_tail (cause.Float pc) = numbered_tail (codes "Float") pc
refused_method_tail (cause.Dynamic pc) = numbered_tail (codes "Dynamic") pc
refused_method_tail (cause.Missing class) = named_tail (codes "Missing") class
refused_method_tail (cause.Name name) = named_tail (codes "Name") name
refused_method_tail cause.Signature = plain_tail (codes "Signature")
refused_method_tail (cause.Member pc) = numbered_tail (codes "Member") pc
refused_method_tail (cause.Interface pc) = numbered_tail (codes "Interface") pc
refused_method_tail (cause.Monitor pc) = numbered_tail (codes "Monitor") pc
refused_method_tail (cause.BeforeSuper pc) = numbered_tail (codes "BeforeSuper") pc
refused_method_tail (cause.Unborn pc) = numbered_tail (codes "Unborn") pc
refused_method_tail (cause.Large size) = numbered_tail (codes "Large") size

-- a line with its end
abbrev pub line_text : Line → List ℕ
line_text (NotYetMethod class name descriptor pc) = shown_method class name descriptor ++ not_yet_tail pc
line_text (BadMethod class name descriptor kind pc) = shown_method class name descriptor ++ bad_tail kind pc
line_text (UnverifiedMethod class name descriptor broken pc) = shown_method class name descriptor ++ unverified_tail broken pc
line_text (RefusedClass class reason) = show_units class ++ refused_class_tail reason
line_text (RefusedField class name type reason) = shown_field class name type ++ refused_field_tail reason
line_text (RefusedMethod class name descriptor reason) = shown_method class name descriptor ++ refused_method_tail reason
line_text (Broken path kind offset) =
    show_units (path_units path) ++ codes " broken " ++ broken_text kind ++ codes " " ++ decimal offset ++ 10 ∷ []
line_text (Clash path kind) = show_units (path_units path) ++ codes " clash " ++ clash_text kind ++ 10 ∷ []
line_text (Unread path) = show_units (path_units path) ++ codes " list" ++ 10 ∷ []
line_text (Usage kind) = codes "usage " ++ kind_text kind ++ 10 ∷ []
line_text (Read place) = codes "read " ++ decimal place ++ 10 ∷ []
line_text (Much place) = codes "much " ++ decimal place ++ 10 ∷ []
