use Rattle.std.proofs.Common.{inl, inr}
use Rattle.std.proofs.lemmas.Result.{err_from_is_err_and}
use Rattle.dj_layout.proofs.Steps.{stops_in}
use Rattle.dj_pool.specs.SharedParts.{counted, attribute}
use Rattle.dj_class.specs.Members.{member}
use Rattle.dj_class.specs.FileFormat.{plain_listed}
use Rattle.dj_class.proofs.RestParts.{listed_spelled}
use Rattle.dj_class.proofs.skipped.skip_listed.Goals as goal

pub returns-in_err-rest-3 : goal.returns-in_err-rest-3
returns-in_err-rest-3 c =
    let p = err_from_is_err_and c.from_residual-in_err-rest-3.result c.from_residual-in_err-rest-3.ensures.1 in
    rw (p.1, p.2) record { reads = stops_in (counted member).Halts plain_listed.Halts _ _ c.in_ok-rest-2.rest.now _ c.in_err-rest-3.ensures.reads (λ f h. inr (_, _, c.in_ok-rest.ensures.reads.spells, inr (_, _, c.in_ok-rest-2.ensures.reads.spells, inl h))) }

pub returns-in_err-rest-4 : goal.returns-in_err-rest-4
returns-in_err-rest-4 c =
    let p = err_from_is_err_and c.from_residual-in_err-rest-4.result c.from_residual-in_err-rest-4.ensures.1 in
    rw (p.1, p.2) record { reads = stops_in (counted attribute).Halts plain_listed.Halts _ _ c.in_ok-rest-3.rest.now _ c.in_err-rest-4.ensures.reads (λ f h. inr (_, _, c.in_ok-rest.ensures.reads.spells, inr (_, _, c.in_ok-rest-2.ensures.reads.spells, inr (_, _, c.in_ok-rest-3.ensures.reads.spells, inl h)))) }

pub returns : goal.returns
returns c = record { reads = record { value = record { interfaces = c.in_ok-rest.ensures.reads.value; fields = c.in_ok-rest-2.ensures.reads.value; methods = c.in_ok-rest-3.ensures.reads.value; attributes = c.in_ok-rest-4.ensures.reads.value }; spells = listed_spelled c.args.bytes.now c.in_ok-rest.rest.now c.in_ok-rest-2.rest.now c.in_ok-rest-3.rest.now c.in_ok-rest-4.rest.now c.in_ok-rest.ensures.reads.value c.in_ok-rest-2.ensures.reads.value c.in_ok-rest-3.ensures.reads.value c.in_ok-rest-4.ensures.reads.value c.in_ok-rest.ensures.reads.spells c.in_ok-rest-2.ensures.reads.spells c.in_ok-rest-3.ensures.reads.spells c.in_ok-rest-4.ensures.reads.spells } }
