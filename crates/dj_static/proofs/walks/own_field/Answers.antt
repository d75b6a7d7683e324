use Rattle.std.proofs.Common.{sym, ap}
use Rattle.dj_members.specs.declared.member_table.ClassTable.{ClassTable}
use Rattle.dj_static.proofs.WalkLemmas.{own_told_none, own_told, own_there}
use Rattle.dj_static.proofs.walks.own_field.Goals as goal

pub returns-in-None-clause-own : goal.returns-in-None-clause-own
returns-in-None-clause-own c =
    let there = sym c.in-Some.ensures.own in
    sym (own_told_none c.args.classes.now.members.now c.args.place c.in-Some.declared.now c.names_at.result.now.fields c.args.name.now there (ap (λ (t : ClassTable). t.fields) (c.names_at.ensures.names c.in-Some.declared.now there)) c.in-None.ensures.first)

pub returns-in-None-get-clause-own : goal.returns-in-None-get-clause-own
returns-in-None-get-clause-own c =
    let there = sym c.in-Some.ensures.own in
    absurd (own_there c.args.classes.now.members.now c.args.place c.in-Some.declared.now c.names_at.result.now.fields c.args.name.now there (ap (λ (t : ClassTable). t.fields) (c.names_at.ensures.names c.in-Some.declared.now there)) c.in-Some-first_named.number c.in-Some-first_named.ensures.first
    (sym c.in-None-get.ensures.value))

pub returns-in-Some-get-clause-own : goal.returns-in-Some-get-clause-own
returns-in-Some-get-clause-own c =
    let there = sym c.in-Some.ensures.own in
    sym (own_told c.args.classes.now.members.now c.args.place c.in-Some.declared.now c.names_at.result.now.fields c.args.name.now there (ap (λ (t : ClassTable). t.fields) (c.names_at.ensures.names c.in-Some.declared.now there)) c.in-Some-first_named.number c.in-Some-get.field.now
    c.in-Some-first_named.ensures.first (sym c.in-Some-get.ensures.value))
