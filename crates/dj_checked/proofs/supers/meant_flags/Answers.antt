use Rattle.std.proofs.Common.{map, length, sym, ap, ◌∙◌}
use Rattle.std.proofs.lemmas.Bool.{eqb-true}
use Rattle.dj_names.specs.Types.{view_type, view_static}
use Rattle.dj_checked.proofs.SuperLemmas.{flags_none, flags_empty, flags_one}
use Rattle.dj_checked.proofs.supers.meant_flags.Goals as goal

pub returns-then-is_empty : goal.returns-then-is_empty
returns-then-is_empty c = record {
  flags = flags_empty c.args.classes.now.headers.now c.args.classes.now.members.now c.args.classes.now.from.now (view_type c.args.receiver.now) c.args.name.now (map view_static c.args.arguments.now) c.as_slice.ensures.distinct
      (ap length (sym c.as_slice.ensures.headers) ∙ eqb-true _ 0 (sym c.is_empty.ensures ∙ c.if-is_empty.true));
}

pub returns-in-None : goal.returns-in-None
returns-in-None c = record {
  flags = flags_none c.args.classes.now.headers.now c.args.classes.now.members.now c.args.classes.now.from.now (view_type c.args.receiver.now) c.args.name.now (map view_static c.args.arguments.now) c.as_slice.ensures.distinct c.in-None.ensures.chosen;
}

pub returns-in-Some : goal.returns-in-Some
returns-in-Some c = record {
  flags = flags_one c.args.classes.now.headers.now c.args.classes.now.members.now c.args.classes.now.from.now (view_type c.args.receiver.now) c.args.name.now (map view_static c.args.arguments.now) c.as_slice.ensures.distinct
      c.in-Some.member c.flags_at.result c.flags_at.ensures.flags c.in-Some.ensures.chosen;
}
