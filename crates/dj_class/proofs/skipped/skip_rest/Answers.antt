use Rattle.std.proofs.Common.{inl, inr}
use Rattle.std.proofs.lemmas.Result.{err_from_is_err_and}
use Rattle.dj_layout.proofs.Steps.{stops_in}
use Rattle.dj_class.specs.FileFormat.{plain_own, plain_listed, plain_rest}
use Rattle.dj_class.proofs.RestParts.{rest_spelled}
use Rattle.dj_class.proofs.skipped.skip_rest.Goals as goal

pub returns-in_err-rest-2 : goal.returns-in_err-rest-2
returns-in_err-rest-2 c =
    let p = err_from_is_err_and c.from_residual-in_err-rest-2.result c.from_residual-in_err-rest-2.ensures.1 in
    rw (p.1, p.2) record { reads = stops_in (plain_listed).Halts plain_rest.Halts _ _ c.in_ok-rest.rest.now _ c.in_err-rest-2.ensures.reads (λ f h. inr (_, _, c.in_ok-rest.ensures.reads.spells, inl h)) }

pub returns : goal.returns
returns c = record { reads = record { value = record { own = c.in_ok-rest.ensures.reads.value; listed = c.in_ok-rest-2.ensures.reads.value }; spells = rest_spelled plain_own plain_listed c.args.bytes.now c.in_ok-rest.rest.now c.in_ok-rest-2.rest.now c.in_ok-rest.ensures.reads.value c.in_ok-rest-2.ensures.reads.value c.in_ok-rest.ensures.reads.spells c.in_ok-rest-2.ensures.reads.spells } }
