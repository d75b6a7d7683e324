-- Entries of the stack and operands, seen as plain data.
use Rattle.std.specs.Prelude.{Option, Some, None}
use Rattle.dj_names.specs.Types.{view_static}
use Rattle.dj_rebuilding.specs.Pending as spec
use Rattle.dj_pending.specs.declared.entry.Atom as code_atom
use Rattle.dj_pending.specs.declared.entry.Atom.TheVariants as atom
use Rattle.dj_pending.specs.declared.entry.Entry as code_entry
use Rattle.dj_pending.specs.declared.entry.Entry.TheVariants as entry
use Rattle.dj_pending.specs.declared.entry.Operand as code_operand
use Rattle.dj_pending.specs.Trees.{view_tree}

-- an atom
abbrev pub view_atom : code_atom.Atom → spec.Atom
view_atom (atom.Number number) = spec.Number number
view_atom (atom.Wide number) = spec.Wide number
view_atom (atom.Units units) = spec.Units units
view_atom atom.Nothing = spec.Nothing
view_atom atom.Own = spec.Own
view_atom (atom.Named variable) = spec.Named variable

-- an entry of the stack
abbrev pub view_entry : code_entry.Entry → spec.Pending
view_entry (entry.Kept kind one) = spec.Kept (view_static kind) (view_atom one)
view_entry (entry.Whole kind tree) = spec.Whole (view_static kind) (view_tree tree)
view_entry (entry.Born class) = spec.Born class
view_entry entry.Again = spec.Again

-- an operand
abbrev pub view_operand : code_operand.Operand → spec.Typed
view_operand operand = (view_static operand.kind, view_tree operand.tree)

-- an entry as an operand, if it is an expression
abbrev pub operand_of : spec.Pending → Option spec.Typed
operand_of (spec.Kept type one) = Some (type, spec.exp_of one)
operand_of (spec.Whole type exp) = Some (type, exp)
operand_of (spec.Born class) = None
operand_of spec.Again = None
