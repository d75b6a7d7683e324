use Rattle.dj_headers.proofs.PlaceLemmas.{IsIndex-empty}
use Rattle.dj_headers.proofs.TableLemmas.{IsTable-none}
use Rattle.dj_headers.proofs.tables.Tables.new.Goals as goal

pub returns-clause-empty : goal.returns-clause-empty
returns-clause-empty c = record {
  index = IsIndex-empty c.no_places.result c.no_places.ensures.none;
  above = IsTable-none c.no_places.result c.new.result.items c.new.ensures.items;
  lines = IsTable-none c.no_places.result c.new-2.result.items c.new-2.ensures.items;
}
