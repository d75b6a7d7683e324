use Rattle.std.proofs.Common.{inl, inr}
use Rattle.std.proofs.lemmas.Result.{err_from_is_err_and}
use Rattle.dj_layout.proofs.Steps.{stops_in}
use Rattle.dj_class.specs.FileFormat.{lawful_listed, lawful_rest}
use Rattle.dj_class.specs.FileParts.{view_members}
use Rattle.dj_class.proofs.ListedParts.{rest_read}
use Rattle.dj_class.proofs.listed.rest_at.Goals as goal

pub returns-in_err-members : goal.returns-in_err-members
returns-in_err-members c =
    let p = err_from_is_err_and c.from_residual-in_err-members.result c.from_residual-in_err-members.ensures.1 in
    rw (p.1, p.2) record { reads = stops_in (lawful_listed c.args.pool.now).Halts (lawful_rest c.args.pool.now).Halts _ _ c.in_ok-own.rest.now _ c.in_err-members.ensures.reads (λ f h. inr (_, _, c.in_ok-own.ensures.reads.spells, inl h)) }

pub returns : goal.returns
returns c =
    record { reads = rest_read c.args.pool.now c.args.bytes.now c.in_ok-own.rest.now c.in_ok-members.rest.now c.in_ok-own.own (view_members c.in_ok-members.members) c.in_ok-own.ensures.reads c.in_ok-members.ensures.reads }
