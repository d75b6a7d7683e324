use Rattle.std.proofs.Common.{inl, inr}
use Rattle.std.proofs.lemmas.Result.{err_from_is_err_and}
use Rattle.dj_layout.proofs.Steps.{stops_in}
use Rattle.dj_pool.specs.SharedParts.{u2}
use Rattle.dj_code.specs.CodeContent.{handler}
use Rattle.dj_code.proofs.ContentLayout.{spells_handler}
use Rattle.dj_code.proofs.content.handler_at.Goals as goal

pub returns-in_err-class : goal.returns-in_err-class
returns-in_err-class c =
    let p = err_from_is_err_and c.from_residual-in_err-class.result c.from_residual-in_err-class.ensures.1 in
    rw (p.1, p.2) record { reads = stops_in u2.Halts handler.Halts _ _ c.in_ok-target.rest.now _ c.in_err-class.ensures.reads (λ f h. inr (_, _, c.in_ok-start.ensures.reads, inr (_, _, c.in_ok-stop.ensures.reads, inr (_, _, c.in_ok-target.ensures.reads, inl h)))) }

pub returns : goal.returns
returns c =
    record {
      reads = spells_handler c.args.bytes.now c.in_ok-start.rest.now c.in_ok-stop.rest.now c.in_ok-target.rest.now c.in_ok-class.rest.now (record { start = c.in_ok-start.start; end = c.in_ok-stop.stop; target = c.in_ok-target.target; class = c.in_ok-class.class }) c.in_ok-start.ensures.reads c.in_ok-stop.ensures.reads c.in_ok-target.ensures.reads c.in_ok-class.ensures.reads;
    }
