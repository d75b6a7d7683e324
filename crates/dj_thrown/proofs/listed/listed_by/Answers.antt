use Rattle.std.proofs.Common.{map, length, sym, ap, ◌∙◌}
use Rattle.std.proofs.lemmas.Bool.{eqb-true}
use Rattle.std.specs.Option.{option_map, option_copied}
use Rattle.dj_names.specs.Types.{view_type, view_static}
use Rattle.dj_thrown.specs.Settings.{setting_of}
use Rattle.dj_thrown.proofs.ListedLemmas.{listed_empty, listed_none, listed_one}
use Rattle.dj_thrown.proofs.listed.listed_by.Goals as goal

pub returns-then-is_empty : goal.returns-then-is_empty
returns-then-is_empty c = record {
  listed = listed_empty (setting_of c.args.classes.now) c.args.classes.now.from.now (view_type c.args.receiver.now) (option_map view_type (option_copied c.args.through)) c.args.name.now (map view_static c.args.arguments.now) c.as_slice.ensures.distinct
      (ap length (sym c.as_slice.ensures.headers) ∙ eqb-true _ 0 (sym c.is_empty.ensures ∙ c.if-is_empty.true));
}

pub returns-in-None : goal.returns-in-None
returns-in-None c = record {
  listed = listed_none (setting_of c.args.classes.now) c.args.classes.now.from.now (view_type c.args.receiver.now) (option_map view_type (option_copied c.args.through)) c.args.name.now (map view_static c.args.arguments.now) c.as_slice.ensures.distinct c.in-None.ensures.chosen;
}

pub returns-in-Some : goal.returns-in-Some
returns-in-Some c = record {
  listed = listed_one (setting_of c.args.classes.now) c.args.classes.now.from.now (view_type c.args.receiver.now) (option_map view_type (option_copied c.args.through)) c.args.name.now (map view_static c.args.arguments.now) c.as_slice.ensures.distinct
      c.in-Some.member c.clause_of.result.now c.clause_of.ensures.clause c.in-Some.ensures.chosen;
}
