use Rattle.std.proofs.Common.{Option, IsSomeAnd, map, sym, subst}
use Rattle.std.specs.Option.{option_copied, option_map}
use Rattle.dj_names.specs.declared.members.Member.{Member}
use Rattle.dj_names.specs.Headers.{Name}
use Rattle.dj_names.specs.Types.{view_type, view_static}
use Rattle.dj_kinds.specs.Search.{FindsOne}
use Rattle.dj_kinds.specs.Choice.{IsChosen}
use Rattle.dj_kinds.proofs.choice.choose.Goals as goal

pub returns : goal.returns
returns c =
    let chosen : Name → Member → Type 0 = λ class. IsChosen c.args.headers.now c.args.members.now
    (record { from = c.args.from.now; class = class; through = option_map view_type (option_copied c.args.through); name = c.args.name.now; arguments = map view_static c.args.arguments.now }) in
    record {
      chosen = subst (λ (o : Option Name). FindsOne (λ (m : Member). IsSomeAnd o (λ class. chosen class m)) c.choose_among.result) (sym c.in-Some.ensures.some) c.choose_among.ensures.chosen;
    }
