use Rattle.std.proofs.Common.{Bool, [], ◌∷◌, if◌then◌else◌, sym, subst, ◌∙◌}
use Rattle.dj_kinds.specs.Search.{classes_then_interfaces, method_order, IsFirstIn, FindsOne}
use Rattle.dj_kinds.specs.Own.{HasOwnMethod}
use Rattle.dj_kinds.proofs.SearchLemmas.{finds_one}
use Rattle.dj_kinds.proofs.ChoiceLemmas.{one_found}
use Rattle.dj_kinds.proofs.find.find_picked.Goals as goal

pub returns-then-is_constructor-clause-found : goal.returns-then-is_constructor-clause-found
returns-then-is_constructor-clause-found g c =
    let headers = c.args.headers.now in
    let class = c.args.class.now in
    let own = HasOwnMethod headers c.args.members.now (g.P.MethodPicker.picks c.args.picker.now) class in
    subst (λ (b : Bool). FindsOne (IsFirstIn own (if b then class ∷ [] else classes_then_interfaces headers class)) c.find_upward.result) (sym c.if-is_constructor.true ∙ c.is_constructor.ensures.constructor)
    (finds_one own (class ∷ []) c.find_upward.result c.find_upward.ensures.found)

pub returns-then-is_constructor-clause-one : goal.returns-then-is_constructor-clause-one
returns-then-is_constructor-clause-one g c =
    one_found c.args.headers.now c.args.members.now (g.P.MethodPicker.picks c.args.picker.now) c.args.class.now c.as_slice.ensures.distinct (g.met.P.MethodPicker.one c.args.picker.now c.args.headers.now c.args.class.now)
    (method_order c.args.headers.now c.args.name.now c.args.class.now)

pub returns-else-is_constructor-clause-found : goal.returns-else-is_constructor-clause-found
returns-else-is_constructor-clause-found g c =
    let headers = c.args.headers.now in
    let class = c.args.class.now in
    let own = HasOwnMethod headers c.args.members.now (g.P.MethodPicker.picks c.args.picker.now) class in
    subst (λ (b : Bool). FindsOne (IsFirstIn own (if b then class ∷ [] else classes_then_interfaces headers class)) c.find.result) (sym c.if-is_constructor.false ∙ c.is_constructor.ensures.constructor)
    (finds_one own (classes_then_interfaces headers class) c.find.result c.find.ensures.found)

pub returns-else-is_constructor-clause-one : goal.returns-else-is_constructor-clause-one
returns-else-is_constructor-clause-one g c =
    one_found c.args.headers.now c.args.members.now (g.P.MethodPicker.picks c.args.picker.now) c.args.class.now c.as_slice.ensures.distinct (g.met.P.MethodPicker.one c.args.picker.now c.args.headers.now c.args.class.now)
    (method_order c.args.headers.now c.args.name.now c.args.class.now)
