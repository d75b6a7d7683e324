use Rattle.std.proofs.Common.{subst}
use Rattle.std.specs.Prelude.{IfErr, OnOk}
use Rattle.dj_code.specs.declared.method_code.Code.{Code}
use Rattle.dj_code.specs.MethodCode.{view_code}
use Rattle.dj_verify.specs.Checking.{HasTableSo}
use Rattle.dj_verify.specs.Verified.{IsVerifyFault}
use Rattle.dj_verify.proofs.verifying.check_code.Goals as goal

pub returns : goal.returns
returns g c =
    let R = g.G.Goes.relation c.args.goes.now in
    let K = g.G.Goes.known c.args.goes.now in
    let same = c.in_ok-subject.ensures.code in
    record {
      table = subst (λ (code : Code). OnOk c.check_subject.result (HasTableSo (g.K.Keeping.keeps c.check_subject.new.kept) R K (view_code code))) same c.check_subject.ensures.table;
      unverified = subst (λ (code : Code). IfErr c.check_subject.result (IsVerifyFault R K (view_code code))) same c.check_subject.ensures.unverified;
    }
