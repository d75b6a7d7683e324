use Rattle.std.proofs.Common.{sym, subst}
use Rattle.std.proofs.lemmas.Bool.{not-false}
use Rattle.dj_names.specs.Types.{view_types}
use Rattle.dj_members.specs.Tables.{Covers}
use Rattle.dj_alone.proofs.Above.{none-above}
use Rattle.dj_alone.proofs.alone.Rivals.has_above.Goals as goal

pub returns : goal.returns
returns c = record {
  nowhere = λ none. none-above c.args.self.headers.now c.args.self.members.now c.args.self.class.now c.args.self.name.now (view_types c.args.self.parameters.now) c.args.class.now c.sites-sites.result.now.names c.as_slice.result.now
      (subst (Covers c.args.self.members.now c.sites-sites.result.now.names) (sym c.as_slice.ensures) c.sites-sites.ensures.covers) (c.all_named.ensures.all (not-false c.all_named.result none));
}
