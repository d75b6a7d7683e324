use Rattle.std.proofs.Common.{inl, inr}
use Rattle.std.proofs.lemmas.Result.{err_from_is_err_and}
use Rattle.dj_layout.proofs.Steps.{stops_in}
use Rattle.dj_pool.specs.SharedParts.{counted, attribute}
use Rattle.dj_class.specs.Members.{member}
use Rattle.dj_class.proofs.RestParts.{member_spelled}
use Rattle.dj_class.proofs.skipped.skip_member.Goals as goal

pub returns-in_err-rest : goal.returns-in_err-rest
returns-in_err-rest c =
    let p = err_from_is_err_and c.from_residual-in_err-rest.result c.from_residual-in_err-rest.ensures.1 in
    rw (p.1, p.2) record { reads = stops_in (counted attribute).Halts member.Halts _ _ c.in_ok-_descriptor.rest.now _ c.in_err-rest.ensures.reads (λ f h. inr (_, _, c.in_ok-_flags.ensures.reads, inr (_, _, c.in_ok-_name.ensures.reads, inr (_, _, c.in_ok-_descriptor.ensures.reads, inl h)))) }

pub returns : goal.returns
returns c = record { reads = record { value = record { flags = c.in_ok-_flags._flags; name = c.in_ok-_name._name; descriptor = c.in_ok-_descriptor._descriptor; attributes = c.in_ok-rest.ensures.reads.value }; spells = member_spelled c.args.bytes.now c.in_ok-_flags.rest.now c.in_ok-_name.rest.now c.in_ok-_descriptor.rest.now c.in_ok-rest.rest.now c.in_ok-_flags._flags c.in_ok-_name._name c.in_ok-_descriptor._descriptor c.in_ok-rest.ensures.reads.value c.in_ok-_flags.ensures.reads c.in_ok-_name.ensures.reads c.in_ok-_descriptor.ensures.reads c.in_ok-rest.ensures.reads.spells } }
