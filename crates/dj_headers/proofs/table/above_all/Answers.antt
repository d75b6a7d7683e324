use Rattle.std.proofs.Common.{List, ℕ, ◌+◌, ◌≡◌, ◌⊎◌, [], Contains, take, subst, sym, inl, inr, arith}
use Rattle.std.proofs.lemmas.List.{take_all}
use Rattle.dj_headers.specs.Table.{IsUp}
use Rattle.dj_headers.proofs.PlaceLemmas.{Contains-take_cases, Contains-take_more}
use Rattle.dj_headers.proofs.TableLemmas.{IsUp-none, IsUp-like, IsUp-join}
use Rattle.dj_headers.proofs.table.above_all.Goals as goal

pub loop-name-init : goal.loop-name-init
loop-name-init c = λ headers index table. rw c.new-up.ensures (IsUp-none headers (Contains []) c.args.places.now (λ x there. let h = there.1 in omega arith))

pub loop-name-preserved : goal.loop-name-preserved
loop-name-preserved c = λ headers index table.
    let names = c.args.names.now in
    let i = c.loop-name.name-index in
    let name = c.name-item.result in
    IsUp-like headers (λ x. Contains (take i names) x ⊎ (x ≡ name)) (Contains (take (i + 1) names)) c.args.places.now c.join_row.new.up
    (λ x. (
      λ h. Contains-take_more names i name x (omega arith) c.name-item.is (elim h [ inl before ↦ inl before | inr same ↦ inr (sym same) ]),
      λ h. elim (Contains-take_cases names i name x (omega arith) c.name-item.is h) [ inl before ↦ inl before | inr same ↦ inr (sym same) ],
    ))
    (IsUp-join headers (Contains (take i names)) c.args.places.now c.args.rows.now name c.place_at.result c.loop-name.up c.join_row.new.up index table c.place_at.ensures.place c.in_ok-join_row.ensures.bits
    (c.loop-name.invariant headers index table))

pub returns : goal.returns
returns c = record {
  up = λ headers index table.
      subst (λ (names : List (List ℕ)). IsUp headers (Contains names) c.args.places.now c.loop-name.up) (take_all c.loop-name.name-index c.args.names.now (omega arith)) (c.loop-name.invariant headers index table);
}
