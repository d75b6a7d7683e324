use Rattle.std.proofs.Common.{false, get_or, arith}
use Rattle.std.proofs.lemmas.Option.{slice_get_within, slice_get-get_or}
use Rattle.dj_class.specs.Views.{view_class, view_method}
use Rattle.dj_signatures.proofs.signatures.is_rivalled.Goals as goal

pub returns : goal.returns
returns c =
    let within = slice_get_within (view_class c.args.class.now).methods c.args.at (view_method c.args.method.now) c.requires.there in
    record {
      rival = c.requires.rivals.each c.args.at (view_method c.args.method.now) (get_or c.args.rivals.now c.args.at false) c.requires.there
          (slice_get-get_or c.args.rivals.now c.args.at false (omega (arith, within, c.requires.rivals.size)));
    }
