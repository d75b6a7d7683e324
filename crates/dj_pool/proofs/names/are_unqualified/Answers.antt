use Rattle.std.proofs.Common.{◌↔◌, ◌==◌, ℕ, List, All, IsTrue, sym, subst, rules, tests}
use Rattle.std.specs.List.{slice_split}
use Rattle.std.proofs.lemmas.Iterator.{cases_from_all}
use Rattle.std.proofs.lemmas.Iterator.Splits.{YieldsList-from_slice_split}
use Rattle.dj_names.specs.ClassNames.{IsUnqualifiedName}
use Rattle.dj_names.proofs.SegmentLemmas.{segments-is, all_decides}
use Rattle.dj_pool.proofs.names.are_unqualified.Goals as goal

pub returns : goal.returns
returns c =
    let name = c.args.name.now in
    let parts = slice_split (λ (unit : ℕ). unit == 47) name in
    let each : IsTrue c.all.result ↔ All IsUnqualifiedName parts = all_decides IsUnqualifiedName parts c.all.result (cases_from_all _ _ _ IsUnqualifiedName (λ x. ¬ IsUnqualifiedName x) c.all.ensures.ran (YieldsList-from_slice_split _ _ name c.split.ensures.rest c.split.ensures.done c.split.ensures.closure (λ x r q k. search (rules, tests))) (λ x q k. search (rules, tests)) (λ x q k. search (rules, tests))) in
    record { unqualified = subst (λ (all : List (List ℕ)). IsTrue c.all.result ↔ All IsUnqualifiedName all) (sym (segments-is name)) each }
