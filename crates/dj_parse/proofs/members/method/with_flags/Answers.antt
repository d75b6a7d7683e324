use Rattle.std.proofs.Common.{ap, sym, ◌∙◌, option_map}
use Rattle.dj_names.specs.Types.{view_descriptor}
use Rattle.dj_syntax.specs.Trees.{view_body}
use Rattle.dj_grammar.specs.Members.{flagged, head_of}
use Rattle.dj_parse.proofs.members.method.with_flags.Goals as goal

pub returns-in-Some : goal.returns-in-Some
returns-in-Some c =
    let head = c.args.head in
    record {
      method =
          ap (λ body. flagged c.held_method.result head.name (view_descriptor head.descriptor) head.thrown (option_map view_body body)) (sym c.in-Some.is)
          ∙ ap (λ flags. flagged flags head.name (view_descriptor head.descriptor) head.thrown (option_map view_body c.args.body)) c.held_method.ensures.held;
    }

pub returns-in_default : goal.returns-in_default
returns-in_default c =
    let head = c.args.head in
    record {
      method =
          ap (λ body. head_of c.held_method.result head.name (view_descriptor head.descriptor) head.thrown (option_map view_body body)) c.in_default.is
          ∙ ap (λ body. flagged c.held_method.result head.name (view_descriptor head.descriptor) head.thrown (option_map view_body body)) (sym c.in_default.is)
          ∙ ap (λ flags. flagged flags head.name (view_descriptor head.descriptor) head.thrown (option_map view_body c.args.body)) c.held_method.ensures.held;
    }
