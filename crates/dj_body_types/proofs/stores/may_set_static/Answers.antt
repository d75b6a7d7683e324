use Rattle.std.proofs.Common.{◌&&◌, ap, ◌∙◌}
use Rattle.std.specs.Prelude.{is_some}
use Rattle.dj_meaning.specs.Fields.{KnownField, named_field}
use Rattle.dj_checked.specs.Sites.{site_of}
use Rattle.dj_body_types.proofs.TypedLemmas.{some_typed}
use Rattle.dj_body_types.proofs.stores.may_set_static.Goals as goal

pub returns : goal.returns
returns c =
    let site = site_of c.args.site.now in
    let field = named_field site.headers site.members site.class c.args.class.now c.args.name.now in
    record {
      may = c.both.ensures.both
          ∙ ap (λ b. b && c.in_ok-may.may) (c.is_typed.ensures.typed ∙ ap is_some c.in_ok-found.ensures.typed ∙ some_typed (λ (one : KnownField). one.type) field)
          ∙ ap (λ b. is_some field && b) c.in_ok-may.ensures.may;
    }
