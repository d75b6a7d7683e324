use Rattle.std.proofs.Common.{sym, subst}
use Rattle.dj_class.specs.Views.{view_class, view_method}
use Rattle.dj_instructions.proofs.ListingReading.{listing_rises}
use Rattle.dj_code.specs.declared.method_code.Code.{Code}
use Rattle.dj_code.specs.MethodCode.{view_code}
use Rattle.dj_code.specs.ReadCode.{SpellsCode}
use Rattle.dj_cli.proofs.methods.find_spelled.Goals as goal

pub verify-requires : goal.verify-requires
verify-requires c =
    let spelled = c.requires.spelled in
    record { rising = listing_rises (view_class c.args.class.now).pool spelled.content.code (view_code c.args.code).instructions spelled.listed }

pub find_verified-requires : goal.find_verified-requires
find_verified-requires c = record {
  made = c.requires.made;
  within = c.requires.within;
  here = c.requires.here;
  spelled = subst (λ (code : Code). SpellsCode (view_class c.args.class.now) (view_method c.args.method.now) (view_code code)) (sym c.in-Ok.ensures.same) c.requires.spelled;
  table = rw c.headers.ensures.headers at c.in-Ok.ensures.typed;
}
