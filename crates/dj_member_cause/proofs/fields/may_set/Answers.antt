use Rattle.std.proofs.Common.{◌≡◌, not, Some, slice_get, get_or, sym, ap, ◌∙◌, List}
use Rattle.std.proofs.lemmas.Option.{slice_get-get_or}
use Rattle.dj_names.specs.declared.header.Header.{Header}
use Rattle.dj_member_cause.proofs.StoreLemmas.{an_owner, no_field, field_is, owner_within, owner_is}
use Rattle.dj_member_cause.proofs.fields.may_set.Goals as goal

pub returns-in-None-own_field : goal.returns-in-None-own_field
returns-in-None-own_field c =
    let headers = c.args.classes.now.headers.now in
    let members = c.args.classes.now.members.now in
    let from = c.args.classes.now.from.now in
    let is = an_owner headers members from c.args.class.now c.args.name.now c.in_ok-sole_owner.field-0 c.in-Some.place c.in-Some.is c.in_ok-sole_owner.ensures.owner in
    record { may = no_field headers members from c.args.class.now c.args.name.now c.in-Some.place is c.in_ok-sole_owner.ensures.distinct c.in-None-own_field.ensures.own }

pub returns-in-Some-own_field : goal.returns-in-Some-own_field
returns-in-Some-own_field c =
    let headers = c.args.classes.now.headers.now in
    let members = c.args.classes.now.members.now in
    let from = c.args.classes.now.from.now in
    let place = c.in-Some.place in
    let is = an_owner headers members from c.args.class.now c.args.name.now c.in_ok-sole_owner.field-0 place c.in-Some.is c.in_ok-sole_owner.ensures.owner in
    let header = c.index-as_slice-place.result in
    let there : slice_get headers place ≡ Some header =
    slice_get-get_or headers place header (owner_within headers members from c.args.class.now c.args.name.now place is) ∙ ap Some (sym (c.index-as_slice-place.is ∙ ap (λ (list : List Header). get_or list place header) c.as_slice.ensures.headers)) in
    record {
      may = ap not c.is_fixed.ensures.fixed
          ∙ field_is headers members from c.args.class.now c.args.name.now place is c.in_ok-sole_owner.ensures.distinct c.in-Some-own_field.own.field.now (get_or c.as_slice.result.now place header).name c.in-Some-own_field.ensures.own
          (ap (λ (one : Header). one.name) (sym c.index-as_slice-place.is) ∙ owner_is headers members from c.args.class.now c.args.name.now place is header there);
    }
