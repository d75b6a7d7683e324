use Rattle.std.proofs.Common.{rules, tests, nat_eq}
use Rattle.std.specs.List.{slice_split}
use Rattle.std.proofs.lemmas.Iterator.{cases_from_all}
use Rattle.std.proofs.lemmas.Iterator.Splits.{YieldsList-from_slice_split}
use Rattle.dj_names.specs.Identifiers.{IsIdentifier}
use Rattle.dj_names.proofs.SegmentLemmas.{segments-is}
use Rattle.dj_well_formed.proofs.ListTests.{each_found}
use Rattle.dj_well_formed.proofs.names.is_qualified.Goals as goal

pub returns : goal.returns
returns c =
    let name = c.args.name.now in
    let cases = cases_from_all _ _ _ IsIdentifier (λ x. ¬ IsIdentifier x) c.all.ensures.ran (YieldsList-from_slice_split _ _ name c.split.ensures.rest c.split.ensures.done c.split.ensures.closure (λ x r q k. search (rules, tests))) (λ x q k. search (rules, tests)) (λ x q k. search (rules, tests)) in
    let is = segments-is name in
    record { qualified = rw is (each_found IsIdentifier (slice_split (λ unit. nat_eq unit 47) name) c.all.result cases) }
