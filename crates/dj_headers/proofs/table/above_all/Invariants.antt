use Rattle.std.proofs.Common.{List, Contains, take}
use Rattle.dj_names.specs.declared.header.Header.{Header}
use Rattle.dj_headers.specs.Table.{IsIndex, IsTable, IsUp}
use Rattle.dj_headers.proofs.table.above_all.Given as goal

abbrev pub invariant-loop-name : goal.invariant-loop-name
invariant-loop-name l = (headers : List Header) → IsIndex l.places → IsTable headers l.places l.rows → IsUp headers (Contains (take l.name-index l.names)) l.places l.up
