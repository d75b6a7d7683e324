use Rattle.std.proofs.Common.{◌∙◌, ap, get_or, List}
use Rattle.dj_names.specs.declared.header.Header.{Header}
use Rattle.dj_machine.proofs.Superclasses.{superclass_at, no_superclass}
use Rattle.dj_machine.proofs.calls.superclass_in.Goals as goal

pub returns-in-Some : goal.returns-in-Some
returns-in-Some c = record {
  superclass = c.as_ref.ensures.value
      ∙ ap (λ (headers : List Header). (get_or headers c.in-Some.place c.index-as_slice-place.result).superclass) c.as_slice.ensures.headers
      ∙ superclass_at c.args.headers.now c.args.class.now c.in-Some.place c.index-as_slice-place.result c.as_slice.ensures.distinct c.in-Some.ensures.place;
}

pub returns-in-None : goal.returns-in-None
returns-in-None c = record { superclass = no_superclass c.args.headers.now c.args.class.now c.in-None.ensures.place }
