use Rattle.std.proofs.Common.{ℕ, refl, subst}
use Rattle.std.proofs.lemmas.Bool.{both_ways}
use Rattle.dj_headers.specs.Table.{IsBehind}
use Rattle.dj_headers.proofs.PlaceLemmas.{on_err, Keeps-entries, Gains-behind, Gains-first}
use Rattle.dj_headers.proofs.places.put.Goals as goal

pub returns-in_err-insert-clause-kept : goal.returns-in_err-insert-clause-kept
returns-in_err-insert-clause-kept c =
    let old = c.args.places.now in
    on_err c.from_residual.result (Keeps-entries old (record { firsts = old.firsts; others = c.insert.new.self }) refl c.in_err-insert.ensures.err)

pub returns-in_err-insert-2-clause-kept : goal.returns-in_err-insert-2-clause-kept
returns-in_err-insert-2-clause-kept c =
    let old = c.args.places.now in
    on_err c.from_residual-in_err-insert-2.result (Keeps-entries old (record { firsts = c.insert-else-is_behind.new.self; others = old.others }) c.in_err-insert-2.ensures.err refl)

pub returns-in_ok-insert-clause-gains : goal.returns-in_ok-insert-clause-gains
returns-in_ok-insert-clause-gains c =
    let old = c.args.places.now in
    let behind = subst (λ (d : ℕ). IsBehind old d c.args.name) c.digest-digest.ensures.digest (c.is_behind.ensures.behind.0 c.if-is_behind.true) in
    let e = c.in_ok-insert.ensures in
    Gains-behind old (record { firsts = old.firsts; others = c.insert.new.self }) c.args.name c.args.at behind refl e.updates c.in_ok-insert.field-0 e.old e.len

pub returns-in_ok-insert-2-clause-gains : goal.returns-in_ok-insert-2-clause-gains
returns-in_ok-insert-2-clause-gains c =
    let old = c.args.places.now in
    let e = c.in_ok-insert-2.ensures in
    Gains-first old (record { firsts = c.insert-else-is_behind.new.self; others = old.others }) c.args.name c.args.at c.digest-digest.result c.digest-digest.ensures.digest
    (λ behind. both_ways c.is_behind.result c.if-is_behind.false (c.is_behind.ensures.behind.1 behind)) refl e.updates c.in_ok-insert-2.field-0 e.old e.len
