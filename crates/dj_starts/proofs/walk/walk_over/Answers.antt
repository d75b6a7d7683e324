use Rattle.std.proofs.Common.{refl, subst}
use Rattle.std.proofs.lemmas.Bool.{false≢true}
use Rattle.std.specs.List.{Contains}
use Rattle.dj_starts.proofs.Stepping.{over_end, over_cut, is_end}
use Rattle.dj_starts.proofs.walk.walk_over.Goals as goal
use Rattle.dj_starts.proofs.walk.walk_over.Goals.{else-drop_from-via-then-drop_from+else-is_end, else-drop_from-via-else-drop_from}

pub returns-then-is_end : goal.returns-then-is_end
returns-then-is_end c = record {
  over = over_end c.args.here c.args.behind c.args.ended c.args.walk.now c.drop_from.new.numbers c.in-Some.low c.in-Some.ensures.barred c.drop_from.ensures.rising c.drop_from.ensures.cut c.mark.new.marks (c.if-drop_from.ensures.found.0 refl) (c.if-is_end.ensures.end.0 refl) c.mark.ensures.more;
}

pub returns-else-drop_from : goal.returns-else-drop_from
returns-else-drop_from c = record {
  over = over_cut c.args.here c.args.behind c.args.ended c.args.walk.now c.drop_from.new.numbers c.in-Some.low c.in-Some.ensures.barred c.drop_from.ensures.rising c.drop_from.ensures.cut
      (λ start same silent is was. elim c.else-drop_from.branch [
        | else-drop_from-via-then-drop_from+else-is_end w ↦ false≢true (w.if-is_end.ensures.end.1 (is_end c.args.here c.args.ended start silent is))
        | else-drop_from-via-else-drop_from w ↦ false≢true (w.if-drop_from.ensures.found.1 (subst (λ n. Contains c.args.walk.now.unborn n) same was))
      ]);
}
