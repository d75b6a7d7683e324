-- The command of the program: any number of class files, the options `--world` and `--make` with a value each, and
-- the flag `--raw`; no help and no version. What it takes is what `clap` publishes of such commands.
use Rattle.std.specs.Prelude.{◌≡◌, ℕ, Bool, true, List, [], ◌∷◌, Some, codes}
use Rattle.clap.specs.declared.builder.action.ArgAction.TheVariants.{Append, Set, SetTrue}
use Rattle.clap.specs.Walk.{Row, Rule, is_empty}
use Rattle.clap.specs.Simple.{App, matches_of, new_app, new_rule, on_top, with_rule}
use Rattle.clap.specs.Faults.{fault_of}

-- the class files
abbrev pub class_rule : Rule
class_rule = record (new_rule (codes "CLASS")) { action = Some Append }

-- the list of library files
abbrev pub world_rule : Rule
world_rule = record (new_rule (codes "world")) { long = Some (codes "world"); action = Some Set }

-- the number of classes to make
abbrev pub make_rule : Rule
make_rule = record (new_rule (codes "make")) { long = Some (codes "make"); action = Some Set }

-- whether bodies stay as they are rebuilt
abbrev pub raw_rule : Rule
raw_rule = record (new_rule (codes "raw")) { long = Some (codes "raw"); action = Some SetTrue }

-- a command of this name, without help and version
abbrev pub bare_command : App
bare_command = on_top (λ shape. record shape { disable_help_flag = true; disable_version_flag = true }) (new_app (codes "decompile"))

-- the whole command, with its rule on each use
abbrev pub command : App
command = with_rule (with_rule (with_rule (with_rule bare_command class_rule) world_rule) make_rule) raw_rule

-- the command takes the words, the first of which is the program's name
abbrev pub is_taken : List (List ℕ) → Bool
is_taken words = is_empty (fault_of command words)

-- what the command finds in them
abbrev pub found : List (List ℕ) → List Row
found words = matches_of command words
