use Rattle.std.proofs.Common.{map}
use Rattle.std.specs.Option.{option_map, option_copied}
use Rattle.dj_names.specs.Types.{view_type, view_static}
use Rattle.dj_static.proofs.TargetLemmas.{none_meant, one_meant}
use Rattle.dj_static.proofs.targets.chosen.Goals as goal

pub returns-in-None : goal.returns-in-None
returns-in-None c = record { chosen = none_meant c.args.classes.now.headers.now c.args.classes.now.members.now c.args.classes.now.from.now (view_type c.args.receiver.now) (option_map view_type (option_copied c.args.through)) c.args.name.now (map view_static c.args.arguments.now) c.as_slice-headers.ensures.distinct c.in-None.ensures.chosen }

pub returns-in-Some : goal.returns-in-Some
returns-in-Some c = record {
  chosen = one_meant c.args.classes.now.headers.now c.args.classes.now.members.now c.args.classes.now.from.now (view_type c.args.receiver.now) (option_map view_type (option_copied c.args.through)) c.args.name.now (map view_static c.args.arguments.now) c.in-Some.member c.in-Some.ensures.chosen c.as_slice-headers.ensures.distinct c.method_of.result
      (rw c.as_slice-headers.ensures.headers at c.method_of.ensures.some) (rw c.as_slice-headers.ensures.headers at c.method_of.ensures.none);
}
