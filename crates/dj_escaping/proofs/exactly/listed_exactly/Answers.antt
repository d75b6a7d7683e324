use Rattle.std.proofs.Common.{◌≡◌, List, [], refl, sym, subst}
use Rattle.std.specs.Option.{option_map, option_copied}
use Rattle.dj_names.specs.Types.{StaticType, Class, view_type, view_types}
use Rattle.dj_kinds.specs.Choice.{IsCandidate}
use Rattle.dj_static.specs.Targets.{meant_in}
use Rattle.dj_thrown.specs.Listed.{listed_by}
use Rattle.dj_thrown.specs.Settings.{setting_of}
use Rattle.dj_escaping.proofs.ExactlyLemmas.{exactly_listed, unknown_listed}
use Rattle.dj_escaping.proofs.exactly.listed_exactly.Goals as goal

pub returns-then-is_unknown : goal.returns-then-is_unknown
returns-then-is_unknown c = record {
  listed =
      subst (λ (given : List StaticType). [] ≡ listed_by (setting_of c.args.classes.now)
      (meant_in c.args.classes.now.headers.now c.args.classes.now.members.now c.args.classes.now.from.now (Class c.args.class.now) (option_map view_type (option_copied c.args.through)) c.args.name.now given))
      (sym c.requires.exact)
      (unknown_listed (setting_of c.args.classes.now) c.requires.lawful c.args.class.now (option_map view_type (option_copied c.args.through)) c.args.name.now (view_types c.args.parameters.now)
      (sym c.if-is_constructor.ensures.constructor) (c.if-is_unknown.ensures.unknown refl));
}

pub returns-then-is_candidate : goal.returns-then-is_candidate
returns-then-is_candidate c = record {
  listed =
      subst (λ (given : List StaticType). c.clause_of.result.now ≡ listed_by (setting_of c.args.classes.now)
      (meant_in c.args.classes.now.headers.now c.args.classes.now.members.now c.args.classes.now.from.now (Class c.args.class.now) (option_map view_type (option_copied c.args.through)) c.args.name.now given))
      (sym c.requires.exact)
      (exactly_listed (setting_of c.args.classes.now) c.requires.lawful c.args.class.now (option_map view_type (option_copied c.args.through)) c.args.name.now (view_types c.args.parameters.now)
      c.in-Some.member c.in-Some.ensures.found
      (subst (λ (given : List StaticType). IsCandidate c.args.classes.now.headers.now c.args.classes.now.members.now
      (record { from = c.args.classes.now.from.now; class = c.args.class.now; through = option_map view_type (option_copied c.args.through); name = c.args.name.now; arguments = given }) c.in-Some.member)
      c.requires.exact (c.if-is_candidate.ensures.candidate.0 refl))
      c.clause_of.result.now c.clause_of.ensures.clause);
}
