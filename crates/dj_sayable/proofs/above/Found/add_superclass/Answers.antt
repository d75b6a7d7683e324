use Rattle.std.proofs.Common.{◌≡◌, Some, ap, sym, ◌∙◌}
use Rattle.std.proofs.lemmas.Option.{same_Some}
use Rattle.dj_sayable.proofs.GatheringLemmas.{gains_like}
use Rattle.dj_sayable.proofs.above.Found.add_superclass.Goals as goal

pub returns-in_ok-add-in-Some-clause-gains : goal.returns-in_ok-add-in-Some-clause-gains
returns-in_ok-add-in-Some-clause-gains c =
    let name = c.in-Some.name in
    let is : c.args.superclass.now ≡ Some name = c.in-Some.is in
    gains_like c.args.self.now.names c.add.new.self.names (λ other. name ≡ other) (λ other. c.args.superclass.now ≡ Some other)
    (λ other. (λ same. is ∙ ap Some same, λ super. same_Some name other (sym is ∙ super))) c.in_ok-add-in-Some.ensures.gains
