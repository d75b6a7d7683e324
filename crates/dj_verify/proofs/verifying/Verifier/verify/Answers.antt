use Rattle.std.proofs.Common.{length, sym, subst}
use Rattle.dj_tags.specs.Laxly.{Laxly}
use Rattle.dj_code.specs.MethodCode.{view_code}
use Rattle.dj_verify.specs.Table.{IsTableTo}
use Rattle.dj_verify.proofs.verifying.Verifier.verify.Goals as goal

pub returns-in-Ok-clause-typed : goal.returns-in-Ok-clause-typed
returns-in-Ok-clause-typed c =
    let headers = c.args.headers.now in
    let code = view_code c.args.code in
    let made = c.in-Ok.ensures.table in
    subst (IsTableTo (Laxly headers) headers code (length code.instructions)) (sym made.holds) made.table
