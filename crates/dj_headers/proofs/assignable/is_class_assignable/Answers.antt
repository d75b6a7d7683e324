use Rattle.std.proofs.Common.{◌∙◌, sym, inl, inr}
use Rattle.std.proofs.lemmas.Bool.{false≢true}
use Rattle.dj_names.specs.Assignable.{parent}
use Rattle.dj_names.proofs.AssignableLemmas.{class_cases, object_class}
use Rattle.dj_headers.proofs.assignable.is_class_assignable.Goals as goal

pub returns-then-implements : goal.returns-then-implements
returns-then-implements c = record { goes = (λ is. parent (c.implements.ensures.implements.0 is), λ h. c.if-implements.true) }

pub returns-then-is_word : goal.returns-then-is_word
returns-then-is_word c =
    let headers = c.args.headers.now in
    record {
      goes = (
        λ is. object_class headers c.args.from.now c.args.to.now (c.is_word.ensures.word.0 c.if-is_word.true ∙ c.as_slice.ensures.units) (c.is_interface.ensures.interface.0 is),
        λ h. elim (class_cases headers c.args.from.now c.args.to.now h) [
          | inl above ↦ absurd (false≢true (sym c.if-implements.false ∙ c.implements.ensures.implements.1 above))
          | inr interface ↦ c.is_interface.ensures.interface.1 interface.0
        ],
      );
    }
