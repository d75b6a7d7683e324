use Rattle.dj_names.specs.Types.{view_type}
use Rattle.dj_kinds.specs.Search.{field_order}
use Rattle.dj_kinds.specs.Own.{HasOwnField}
use Rattle.dj_kinds.proofs.SearchLemmas.{finds_one}
use Rattle.dj_kinds.proofs.find.find_field.Goals as goal

pub returns : goal.returns
returns c = record {
  found = finds_one (HasOwnField c.args.headers.now c.args.members.now c.args.name.now (view_type c.args.kind.now)) (field_order c.args.headers.now c.args.class.now) c.find_by_class.result c.find_by_class.ensures.found;
}
