use Rattle.std.proofs.Common.{sym, ap, ◌∙◌}
use Rattle.std.proofs.lemmas.Option.{slice_get_within}
use Rattle.dj_names.specs.Types.{view_types}
use Rattle.dj_members.specs.Tables.{method_names}
use Rattle.dj_members.specs.declared.member_table.ClassTable.{ClassTable}
use Rattle.dj_alone.proofs.Having.{some-differ, has-nowhere, has-none, has-here, told-by}
use Rattle.dj_alone.proofs.alone.Rivals.has.Goals as goal

pub returns-in-None : goal.returns-in-None
returns-in-None c = record { has = sym (has-nowhere c.args.self.headers.now c.args.self.class.now c.args.self.name.now (view_types c.args.self.parameters.now) c.args.class.now c.args.self.members.now c.in-None.ensures.place) }

pub returns-in-None-at : goal.returns-in-None-at
returns-in-None-at c = record {
  has = sym (has-none c.args.self.headers.now c.args.self.class.now c.args.self.name.now (view_types c.args.self.parameters.now) c.args.class.now c.args.self.members.now c.in-Some.place c.place_of.ensures.distinct c.in-Some.ensures.place c.in-None-at.ensures.own);
}

pub names_at-requires : goal.names_at-requires
names_at-requires c = record { there = slice_get_within c.args.self.members.now c.in-Some.place c.in-Some-at.own.now (sym c.in-Some-at.ensures.own) }

pub returns-in-Some-at : goal.returns-in-Some-at
returns-in-Some-at c = record {
  has = told-by c.args.self.headers.now c.args.self.class.now c.args.self.name.now (view_types c.args.self.parameters.now) c.args.class.now c.as_slice.result.now c.names_at.result.now.methods c.all_named.result
      (ap (λ (names : ClassTable). names.methods) (c.names_at.ensures.names c.in-Some-at.own.now (sym c.in-Some-at.ensures.own)) ∙ ap method_names (sym c.as_slice.ensures)) c.all_named.ensures.all c.all_named.ensures.other
      ∙ ap (some-differ c.args.self.headers.now c.args.self.class.now c.args.self.name.now (view_types c.args.self.parameters.now) c.args.class.now) c.as_slice.ensures
      ∙ sym (has-here c.args.self.headers.now c.args.self.class.now c.args.self.name.now (view_types c.args.self.parameters.now) c.args.class.now c.args.self.members.now c.in-Some.place c.in-Some-at.own.now c.place_of.ensures.distinct c.in-Some.ensures.place (sym c.in-Some-at.ensures.own));
}
