-- The lines on fields and methods, as the code keeps them.
use Rattle.std.specs.Prelude.{ℕ, List, ◌++◌, codes, string_bytes}
use Rattle.std.specs.List.{flat_map}
use Rattle.dj_names.specs.Types.{view_descriptor, view_type}
use Rattle.dj_report.specs.Report.{named_tail, shown_field, shown_method}
use Rattle.dj_cli.specs.declared.endings.Ending.{Ending}
use Rattle.dj_cli.specs.declared.endings.Ending.TheVariants as ending
use Rattle.dj_cli.specs.declared.endings.Subject.{Subject}
use Rattle.dj_cli.specs.declared.endings.Subject.TheVariants as subject
use Rattle.dj_cli.specs.declared.endings.MemberLine.{MemberLine}

-- how a line ends
abbrev pub ending_bytes : Ending → List ℕ
ending_bytes (ending.Text tail) = string_bytes tail
ending_bytes (ending.Name name) = named_tail (codes "Name") name

-- how a line names a field or a method of a class
abbrev pub subject_bytes : List ℕ → Subject → List ℕ
subject_bytes class (subject.Field field) = shown_field class field.now.name (view_type field.now.descriptor)
subject_bytes class (subject.Method method) = shown_method class method.now.name (view_descriptor method.now.descriptor)

-- the bytes of a line on a field or a method of a class of this name
abbrev pub line_bytes : List ℕ → MemberLine → List ℕ
line_bytes class line = subject_bytes class line.subject ++ ending_bytes line.ending

-- the bytes of lines, one after another
abbrev pub lines_bytes : List ℕ → List MemberLine → List ℕ
lines_bytes class lines = flat_map (line_bytes class) lines
