use Rattle.std.proofs.Common.{◌+◌, List, length, ap}
use Rattle.dj_names.specs.declared.header.Header.{Header}
use Rattle.dj_kinds.proofs.SearchLemmas.{found_first, found_rest}
use Rattle.dj_kinds.proofs.search.find.Goals as goal

pub returns-in-Some : goal.returns-in-Some
returns-in-Some g c = record {
  found = found_first (g.D.Declares.own c.args.declares.now) c.args.headers.now c.args.class.now _ c.in-Some.member (ap (λ (hs : List Header). length hs + 1) c.as_slice.ensures.headers) c.in-Some.ensures.found;
}

pub returns-in-None : goal.returns-in-None
returns-in-None g c = record {
  found = found_rest (g.D.Declares.own c.args.declares.now) c.args.headers.now c.args.class.now _ c.find_in_interfaces.result (ap (λ (hs : List Header). length hs + 1) c.as_slice.ensures.headers)
      c.in-None.ensures.found c.find_in_interfaces.ensures.found;
}
