use Rattle.std.proofs.Common.{◌≡◌, [], ◌∷◌, ◌++◌, length, Some, None, sym, ap, ◌∙◌}
use Rattle.std.specs.Prelude.{slice_index_or}
use Rattle.dj_names.specs.Types.{view_type}
use Rattle.dj_numbers.specs.declared.numbers.Variable.{Variable}
use Rattle.dj_numbers.specs.Numbers.{number_of, view_variables}
use Rattle.dj_numbers.proofs.Numbering.{chained-more, number-more}
use Rattle.dj_numbers.proofs.numbers.Numbers.add.Goals as goal

pub returns-clause-chained : goal.returns-clause-chained
returns-clause-chained c =
    let vs = c.args.self.now.variables in
    let one : Variable = record { slot = c.args.slot; kind = c.in_ok-kind.kind; before = c.last_of-before.result } in
    let new : number_of (view_variables vs) c.args.slot (view_type c.in_ok-kind.kind) ≡ None =
    ap (λ kind. number_of (view_variables vs) c.args.slot (view_type kind)) c.in_ok-kind.ensures.equal
    ∙ ap (λ list. number_of (view_variables list) c.args.slot (view_type c.args.kind.now)) (sym c.as_slice.ensures)
    ∙ sym c.in_default.ensures.number in
    let before = c.last_of-before.ensures.last ∙ ap (λ list. slice_index_or list c.args.slot None) c.as_slice-3.ensures in
    let number : c.in-Ok.number ≡ length vs = c.in-Ok.ensures.1 ∙ c.len.ensures in
    rw (c.in_ok-push.ensures.ok, c.set.ensures, number)
    (chained-more vs c.args.self.now.lasts c.make_room.new.lasts one c.requires.chained c.in_ok-make_room.ensures.same c.in_ok-make_room.ensures.room before new)

pub returns-clause-number : goal.returns-clause-number
returns-clause-number c =
    let vs = c.args.self.now.variables in
    let one : Variable = record { slot = c.args.slot; kind = c.in_ok-kind.kind; before = c.last_of-before.result } in
    let new : number_of (view_variables vs) c.args.slot (view_type c.in_ok-kind.kind) ≡ None =
    ap (λ kind. number_of (view_variables vs) c.args.slot (view_type kind)) c.in_ok-kind.ensures.equal
    ∙ ap (λ list. number_of (view_variables list) c.args.slot (view_type c.args.kind.now)) (sym c.as_slice.ensures)
    ∙ sym c.in_default.ensures.number in
    let before = c.last_of-before.ensures.last ∙ ap (λ list. slice_index_or list c.args.slot None) c.as_slice-3.ensures in
    let number : c.in-Ok.number ≡ length vs = c.in-Ok.ensures.1 ∙ c.len.ensures in
    ap (λ list. number_of (view_variables list) c.args.slot (view_type c.args.kind.now)) c.in_ok-push.ensures.ok
    ∙ ap (λ kind. number_of (view_variables (vs ++ one ∷ [])) c.args.slot (view_type kind)) (sym c.in_ok-kind.ensures.equal)
    ∙ number-more vs c.args.self.now.lasts c.make_room.new.lasts one c.requires.chained c.in_ok-make_room.ensures.same c.in_ok-make_room.ensures.room before new
    ∙ ap Some (sym number)
