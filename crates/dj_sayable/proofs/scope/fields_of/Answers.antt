use Rattle.std.proofs.Common.{◌⊎◌, ◌+◌, ◌++◌, [], Any, Contains, take, subst}
use Rattle.std.proofs.lemmas.List.{take_all}
use Rattle.dj_members.specs.Tables.{field_names}
use Rattle.dj_sayable.specs.Saying.{DeclaresField}
use Rattle.dj_sayable.specs.Gathering.{Gains}
use Rattle.dj_sayable.proofs.GatheringLemmas.{gains_like, gains_then, gains_behind, any_more}
use Rattle.dj_sayable.proofs.scope.fields_of.Goals as goal

pub loop-class-preserved : goal.loop-class-preserved
loop-class-preserved c =
    let xs = c.args.classes.now in
    let i = c.loop-class.class-index in
    let x = c.class-item.result in
    let Declares = DeclaresField c.args.headers.now c.args.members.now.classes in
    let more = field_names c.fields_in.result.now in
    let old = c.loop-class.names in
    let behind : Gains old (old ++ more) (λ field. Declares field x) =
    gains_like old (old ++ more) (Contains more) (λ field. Declares field x) c.fields_in.ensures.fields (gains_behind old more) in
    rw c.in_ok-add_names.ensures.added (gains_like [] (old ++ more) (λ field. Any (Declares field) (take i xs) ⊎ Declares field x) (λ field. Any (Declares field) (take (i + 1) xs))
    (λ field. any_more xs i x c.loop-class-test.true c.class-item.is (Declares field))
    (gains_then [] old (old ++ more) (λ field. Any (Declares field) (take i xs)) (λ field. Declares field x) c.loop-class.invariant behind))

pub returns : goal.returns
returns c = record {
  gains = subst (λ ys. Gains [] c.loop-class.names (λ field. Any (DeclaresField c.args.headers.now c.args.members.now.classes field) ys)) (take_all c.loop-class.class-index c.args.classes.now c.loop-class-test.false) c.loop-class.invariant;
}
