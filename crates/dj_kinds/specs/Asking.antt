-- A call of the code, seen as plain data.
use Rattle.std.specs.Prelude.{map}
use Rattle.std.specs.Option.{option_copied, option_map}
use Rattle.dj_names.specs.Types.{view_type, view_static}
use Rattle.dj_kinds.specs.Choice.{Call}
use Rattle.dj_kinds.specs.declared.candidates.Asked.{Asked}

-- a call of the code
abbrev pub call_of : Asked → Call
call_of asked = record {
  from = asked.from.now;
  class = asked.class.now;
  through = option_map view_type (option_copied asked.through);
  name = asked.name.now;
  arguments = map view_static asked.arguments.now;
}
