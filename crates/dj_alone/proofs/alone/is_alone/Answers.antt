use Rattle.std.proofs.Common.{not, map, sym, ap, ◌∙◌}
use Rattle.dj_names.specs.Types.{view_types}
use Rattle.dj_meaning.specs.Members.{view_members}
use Rattle.dj_alone.proofs.Apart.{alone-is}
use Rattle.dj_alone.proofs.alone.is_alone.Goals as goal

pub returns : goal.returns
returns c = record {
  alone = ap not c.is_anywhere.ensures.anywhere ∙ sym (alone-is c.args.classes.now.headers.now (map view_members c.args.classes.now.members.now) c.args.class.now c.args.name.now (view_types c.args.parameters.now));
}
