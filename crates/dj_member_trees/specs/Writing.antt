-- What a write of an element takes from a stack, and how it stands in the statement.
use Rattle.std.specs.Prelude.{true, false, List, Option, Some}
use Rattle.dj_names.specs.declared.header.Header.{Header}
use Rattle.dj_names.specs.Types.{JType, Array}
use Rattle.dj_syntax.specs.Trees.{Exp}
use Rattle.dj_instructions.specs.declared.kinds.Element as elements
use Rattle.dj_rebuilding.specs.Pending.{Pending, Typed, and_then}
use Rattle.dj_pending.specs.Trees.{view_tree}
use Rattle.dj_pending.specs.Entries.{view_operand}
use Rattle.dj_member_trees.specs.declared.elements.Written as code_written
use Rattle.dj_member_trees.specs.declared.elements.Put as code_put
use Rattle.dj_member_trees.specs.Fitting.{taken_by, itself, whole, fitted, written_as}

-- an array, an index and a value, as they are taken
abbrev pub Written : Type 0
Written = Typed × (Exp × Typed)

abbrev pub view_written : code_written.Written → Written
view_written written = (view_operand written.array, (view_tree written.index, view_operand written.new))

-- and as they stand in the statement
abbrev pub Put : Type 0
Put = Exp × (Exp × Exp)

abbrev pub view_put : code_put.Put → Put
view_put put = (view_tree put.array, (view_tree put.index, view_tree put.new))

-- they are taken from the top, the value first
abbrev pub written_taken : List Pending → Option (Written × List Pending)
written_taken stack =
    and_then (taken_by itself stack) (λ new. and_then (taken_by whole new.1) (λ index. and_then (taken_by itself index.1) (λ array.
    Some ((array.0, (index.0, new.0)), array.1))))

-- as elements of a type, if array and value go there
abbrev pub put_as : List Header → JType → Written → Option Put
put_as world stored written =
    and_then (fitted world true stored written.1.1) (λ new. and_then (fitted world false (Array stored) written.0) (λ array. Some (array, (written.1.0, new))))

-- if the instruction works on them
abbrev pub put_for : List Header → elements.Element → Written → Option Put
put_for world kind written = and_then (written_as world kind written.0.0 written.1.1.0) (λ stored. put_as world stored written)
