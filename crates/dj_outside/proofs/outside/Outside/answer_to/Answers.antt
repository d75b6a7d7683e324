use Rattle.std.proofs.Common.{refl}
use Rattle.dj_values.specs.Views.{view_action, view_answer}
use Rattle.std.proofs.Common.{map}
use Rattle.dj_outside.proofs.Asking.{headed, taken, refused}
use Rattle.dj_outside.proofs.outside.Outside.answer_to.Goals as goal

pub returns-then-not-fits : goal.returns-then-not-fits
returns-then-not-fits c = record {
  told = (refused c.args.headers.now (view_action c.args.action.now) (map view_answer c.args.self.now.answers.now) (view_answer c.first-item.result) _ c.fits.result c.fits.ensures.fits c.if-not-fits.true (headed c.args.self.now.answers.now c.first-item.result c.in-len1-up.len_at_least c.first-item.is), refl);
}

pub returns : goal.returns
returns c = record {
  told = (headed c.args.self.now.answers.now c.first-item.result c.in-len1-up.len_at_least c.first-item.is, taken c.args.headers.now (view_action c.args.action.now) (view_answer c.first-item.result) c.fits.result c.fits.ensures.fits c.if-not-fits.false, refl);
}
