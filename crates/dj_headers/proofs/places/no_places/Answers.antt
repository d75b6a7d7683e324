use Rattle.dj_headers.proofs.PlaceLemmas.{HasNone-entries}
use Rattle.dj_headers.proofs.places.no_places.Goals as goal

pub returns : goal.returns
returns c = record { none = HasNone-entries (record { firsts = c.new.result; others = c.new-2.result }) c.new.ensures.empty c.new-2.ensures.empty }
