use Rattle.dj_receivers.proofs.Finishing.{begins_made, some_there}
use Rattle.dj_receivers.proofs.calls.begin.Goals as goal

pub returns-in_ok-push : goal.returns-in_ok-push
returns-in_ok-push c = record {
  begins = rw (c.set.ensures, c.new.ensures, c.in_ok-push.ensures.ok)
      (begins_made c.args.marking.now.table c.args.marking.now.waiting c.args.marking.now.calls c.args.marking.now.now c.requires.none c.requires.size c.requires.all
      (some_there c.args.marking.now.table (λ empty. let is = c.is_empty.ensures.1 empty in let none = c.if-not-is_empty.true in cc)));
}
