use Rattle.std.proofs.Common.{IsSomeAnd, inl, inr}
use Rattle.std.proofs.lemmas.Result.{err_from_is_err_and}
use Rattle.dj_layout.specs.Passes.{asked}
use Rattle.dj_layout.proofs.Steps.{stops_in}
use Rattle.dj_pool.specs.declared.fault.BrokenKind.TheVariants as kind
use Rattle.dj_pool.specs.SharedParts.{u2}
use Rattle.std.specs.Option.{option_copied}
use Rattle.dj_names.specs.Types.{view_descriptor}
use Rattle.dj_pool.specs.PoolFormat.{text_at, IsMethodText}
use Rattle.dj_class.specs.FileFormat.{method_attributes, method}
use Rattle.dj_class.proofs.MemberReading.{method_read}
use Rattle.dj_class.proofs.members.method_at.Goals as goal

pub returns-in_err-_descriptor : goal.returns-in_err-_descriptor
returns-in_err-_descriptor c =
    let p = err_from_is_err_and c.from_residual-in_err-_descriptor.result c.from_residual-in_err-_descriptor.ensures.1 in
    rw (p.1, p.2) record { reads = stops_in (asked u2 (λ i. IsSomeAnd (text_at c.args.pool.now i) IsMethodText) kind.Descriptor).Halts (method c.args.pool.now).Halts _ _ c.in_ok-_index.rest.now _ c.in_err-_descriptor.ensures.reads (λ f h. inr (_, _, c.in_ok-flags.ensures.reads, inr (_, _, c.in_ok-_index.ensures.reads, inl h))) }

pub returns-in_err-found : goal.returns-in_err-found
returns-in_err-found c =
    let p = err_from_is_err_and c.from_residual-in_err-found.result c.from_residual-in_err-found.ensures.1 in
    rw (p.1, p.2) record { reads = stops_in (method_attributes c.args.pool.now c.in_ok-flags.flags).Halts (method c.args.pool.now).Halts _ _ c.in_ok-_descriptor.rest.now _ c.in_err-found.ensures.reads (λ f h. inr (_, _, c.in_ok-flags.ensures.reads, inr (_, _, c.in_ok-_index.ensures.reads, inr (_, _, c.in_ok-_descriptor.ensures.reads, inl h)))) }

pub returns : goal.returns
returns c =
    rw (c.in_ok-name.ensures.equal, c.in_ok-descriptor.ensures.equal, c.in_ok-code.ensures.copied, c.thrown_of-thrown.ensures.thrown) record {
      reads = method_read c.args.pool.now c.args.bytes.now c.in_ok-flags.rest.now c.in_ok-_index.rest.now c.in_ok-_descriptor.rest.now c.in_ok-found.rest.now c.in_ok-flags.flags c.in_ok-_index._index c.in_ok-_descriptor._descriptor
          c.in_ok-_index.name.now (view_descriptor c.in_ok-_descriptor.spelled.now) (option_copied c.in_ok-found.found.code) c.in_ok-found.found.thrown c.in_ok-flags.ensures.reads c.in_ok-_index.ensures.reads c.in_ok-_descriptor.ensures.reads c.in_ok-found.ensures.reads
          c.in_ok-_index.ensures.name c.in_ok-_descriptor.ensures.spelled;
    }
