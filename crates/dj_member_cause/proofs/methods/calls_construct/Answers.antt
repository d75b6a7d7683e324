use Rattle.std.proofs.Common.{refl, ap, ◌∙◌}
use Rattle.dj_names.specs.Types.{view_type}
use Rattle.dj_headers.proofs.TypeViews.{view-class}
use Rattle.dj_instructions.specs.Instructions.{view_method_ref}
use Rattle.dj_member_cause.proofs.MethodLemmas.{construct_from, construct_means}
use Rattle.dj_member_cause.proofs.methods.calls_construct.Goals as goal

pub returns-in_ok-calls-in-Class : goal.returns-in_ok-calls-in-Class
returns-in_ok-calls-in-Class c =
    let classes = c.args.classes.now in
    let method = view_method_ref c.args.method.now in
    let told = c.in_ok-calls-in-Class.ensures.calls in
    record {
      calls = (
        λ yes. construct_from classes method c.requires.constructs c.in-Class.class (ap view_type c.in-Class.is ∙ view-class c.in-Class.class) (c.if-not-begins_in.ensures.begins.0 refl) (told.0 yes),
        λ is. told.1 (construct_means classes method c.requires.constructs is),
      );
    }
