use Rattle.std.proofs.Common.{◌+◌, List, length, ap}
use Rattle.dj_names.specs.declared.header.Header.{Header}
use Rattle.dj_kinds.proofs.SearchLemmas.{found_by_class}
use Rattle.dj_kinds.proofs.search.find_by_class.Goals as goal

pub returns : goal.returns
returns g c = record {
  found = found_by_class (g.D.Declares.own c.args.declares.now) c.args.headers.now c.args.class.now _ c.find_in_classes.result (ap (λ (hs : List Header). length hs + 1) c.as_slice.ensures.headers) c.find_in_classes.ensures.found;
}
