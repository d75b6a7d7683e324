use Rattle.std.proofs.Common.{rules, tests}
use Rattle.std.specs.List.{zip}
use Rattle.std.proofs.lemmas.Iterator.{YieldsList-from_slice, YieldsList-from_zip, cases_from_all}
use Rattle.dj_names.specs.Types.{view_type}
use Rattle.dj_well_formed.proofs.ListTests.{each_found}
use Rattle.dj_well_formed.proofs.SameLists.{AreSame, same_views}
use Rattle.dj_well_formed.proofs.same.same_types.Goals as goal

pub returns-then-first-second : goal.returns-then-first-second
returns-then-first-second c =
    let first = c.args.first.now in
    let second = c.args.second.now in
    let pairs = zip first second in
    let cases = cases_from_all c.all.new.self _ _ (AreSame view_type) (λ pair. ¬ AreSame view_type pair) c.all.ensures.ran (YieldsList-from_zip (YieldsList-from_slice first cc) (YieldsList-from_slice second cc)) (λ x q k. search (rules, tests)) (λ x q k. search (rules, tests)) in
    record { same = same_views view_type first second c.all.result c.if-first-second.true (each_found (AreSame view_type) pairs c.all.result cases) }
