use Rattle.std.proofs.Common.{length}
use Rattle.std.proofs.lemmas.Result.{IfOk-weaker}
use Rattle.dj_code.specs.MethodCode.{view_code}
use Rattle.dj_tags.specs.Laxly.{Laxly, Strictly}
use Rattle.dj_verify.specs.Frames.{workings}
use Rattle.dj_verify.proofs.OneTable.{one_table}
use Rattle.dj_verify.proofs.strictly.strict.Goals as goal

pub returns-clause-typed : goal.returns-clause-typed
returns-clause-typed c =
    let headers = c.args.headers.now in
    let code = view_code c.args.typed.now.code in
    let known = c.requires.typed.headers in
    IfOk-weaker c.check_strictly.result _ _ (λ done made. one_table (Strictly headers) (Laxly known) headers known code (length code.instructions) made.frames (workings c.args.typed.now.frames) made.table c.requires.typed.table) c.check_strictly.ensures.table
