use Rattle.std.proofs.Common.{◌+◌, List, subst, sym}
use Rattle.dj_member_cause.specs.declared.judging.Judgement.{Judgement}
use Rattle.dj_member_cause.specs.Telling.{AreTold}
use Rattle.dj_member_cause.proofs.TellingLemmas.{told_more}
use Rattle.dj_member_cause.proofs.known.tell.Goals as goal

pub returns-clause-known : goal.returns-clause-known
returns-clause-known c =
    let before = subst (λ (told : List Judgement). AreTold c.args.classes.now c.args.typed.now told c.args.place) (sym c.in_ok-found.ensures.told) c.requires.known in
    subst (λ (told : List Judgement). AreTold c.args.classes.now c.args.typed.now told (c.args.place + 1)) (sym c.in_ok-push.ensures.ok)
    (told_more c.args.classes.now c.args.typed.now c.earlier.new.known.told c.args.place before c.in_ok-told.told c.in_ok-told.ensures.judged)
