-- The body of a method whose code is one block: its instructions become statements, which are declared as a body.
use Rattle.std.specs.Prelude.{ℕ, ◌==◌, nat_lt, ◌&&◌, if◌then◌else◌, List, [], length, Option, Some, None, slice_get}
use Rattle.dj_names.specs.declared.header.Header.{Header}
use Rattle.dj_names.specs.declared.members.ClassMembers.{ClassMembers}
use Rattle.dj_names.specs.Types.{JType, Class, result_of}
use Rattle.dj_syntax.specs.declared.variable.Var.{Var}
use Rattle.dj_syntax.specs.Trees.{Body, Stms, Empty}
use Rattle.dj_code.specs.MethodCode.{Code}
use Rattle.dj_meaning.specs.Calls.{is_assignable}
use Rattle.dj_places.specs.Constants.{Surroundings}
use Rattle.dj_places.specs.Surroundings.{around_body}
use Rattle.dj_rebuilding.specs.Pending.{Own, Named, and_then}
use Rattle.dj_rebuilt.specs.Known.{constant_of}
use Rattle.dj_rebuilt.specs.Rebuilding.{Names, Ways, rebuilt}
use Rattle.dj_vars.specs.Agreeing.{local_variable}
use Rattle.dj_blocks_shown.specs.Leaving.{Parts, is_start}
use Rattle.dj_edges.specs.Edges.{keeps_this}
use Rattle.dj_exits.specs.Exits.{leave, fall}
use Rattle.dj_exits.specs.Ways.{before, after}
use Rattle.dj_lone_exits.specs.Lone.{lone_edges}
use Rattle.dj_member_nodes.specs.Nodes.{node_of, member_effect, member_birth}
use Rattle.dj_method.specs.Parts.{entry_of}
use Rattle.dj_declaring.specs.Declaring.{declared_body}

-- ---- which methods

-- a variable of the code, with its type
abbrev pub variable_of : List JType → Option ℕ → Option (Var × JType)
variable_of kinds found = and_then found (λ number. and_then (slice_get kinds number) (λ type. Some (local_variable number, type)))

-- the local slots as the code begins: the first is `this` where nothing is stored there, and each other one is its variable
abbrev pub first_name : Parts → Names
first_name parts slot =
    if nat_lt slot parts.typed.code.max_locals
    then (if keeps_this parts.typed.code && slot == 0 then Some (Class parts.typed.code.class, Own) else and_then (variable_of parts.vars.kinds (parts.vars.of 0 slot)) (λ found. Some (found.1, Named found.0)))
    else None

-- ---- the statements

-- what stands for instructions, the variables that stores write, and how control leaves: there is no other block
abbrev pub lone_ways : Surroundings → Parts → Ways
lone_ways known parts = record {
  constant = constant_of;
  node = node_of known;
  effect = member_effect known;
  target = λ pc. variable_of parts.vars.kinds (parts.vars.after pc);
  leave = λ names n stack list. leave known.headers (result_of parts.typed.code.descriptor) (lone_edges known.headers) names n stack list;
  fall = λ names n stack rest. fall (lone_edges known.headers) names n stack rest;
  birth = member_birth known;
  before = before;
  after = after;
  goes = is_assignable known.headers;
}

-- the statements of the one block, where they can be had
abbrev pub lone_tree : Surroundings → Parts → Option Stms
lone_tree known parts =
    rebuilt known.headers parts.typed.code.class (lone_ways known parts) (is_start parts.starts) (first_name parts) (length parts.vars.kinds) [] parts.typed.code.instructions

-- ---- the body

-- the head of the method that code is of, without statements
abbrev pub head_of : Code → Body
head_of code = record { class = code.class; name = code.name; flags = code.flags; descriptor = code.descriptor; thrown = code.thrown; statements = Empty }

-- what stands around the code of a method in a world
abbrev pub known_in : List Header → List ClassMembers → Code → Surroundings
known_in world members code = around_body world members (head_of code)

-- the body, with its variables at the head; the tree has no label, so 0 is a free one
abbrev pub lone_body : List Header → List ClassMembers → Parts → Option Body
lone_body world members parts =
    and_then (lone_tree (known_in world members parts.typed.code) parts) (λ tree. Some (declared_body (known_in world members parts.typed.code) (head_of parts.typed.code) parts.vars.kinds (entry_of parts) 0 tree))
