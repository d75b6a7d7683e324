use Rattle.std.proofs.Common.{List, map, ap, ◌∙◌}
use Rattle.dj_names.specs.Types.{view_type}
use Rattle.dj_syntax.specs.Trees.{view_stm, view_stms}
use Rattle.dj_declare.specs.Heads.{Head, headed}
use Rattle.dj_declaring.specs.Entries.{heads_of}
use Rattle.dj_declarer.specs.Making.{in_front}
use Rattle.dj_declarer.proofs.Making.{with_heads}
use Rattle.dj_declarer.proofs.declaring.other_statements.Goals as goal

pub returns : goal.returns
returns c =
    let heads : List Head = heads_of (map view_type c.args.kinds.now) (map view_type c.args.parameters.now) c.args.entry.now c.args.variables.now in
    record {
      statements = with_heads (map view_stm c.in_ok-made.made) (map view_stm c.new-front.result) heads (map view_stm c.in_ok-list.list) c.in_ok-made.ensures.headed
          ∙ ap (λ front. in_front (map view_stm front) (headed heads (view_stms c.in_ok-list.list))) c.new-front.ensures
          ∙ ap (headed heads) c.in_ok-list.ensures.list;
    }
