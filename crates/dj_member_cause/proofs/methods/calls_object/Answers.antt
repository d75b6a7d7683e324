use Rattle.std.proofs.Common.{Some}
use Rattle.std.proofs.lemmas.Bool.{false≢true}
use Rattle.dj_values.specs.Views.{view_kind}
use Rattle.dj_instructions.specs.Instructions.{view_method_ref}
use Rattle.dj_member_cause.proofs.MethodLemmas.{told_none, object_way, object_to}
use Rattle.dj_member_cause.proofs.methods.calls_object.Goals as goal

pub returns-in-None : goal.returns-in-None
returns-in-None c =
    let classes = c.args.classes.now in
    let method = view_method_ref c.args.method.now in
    record {
      calls = (
        λ never. absurd (false≢true never),
        λ is. absurd (told_none classes method method.owner (Some method.owner) (view_kind c.args.kind) (object_way classes method) c.in-None.ensures.means (object_to classes method (view_kind c.args.kind) is)),
      );
    }
