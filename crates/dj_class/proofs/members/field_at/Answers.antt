use Rattle.std.proofs.Common.{IsSomeAnd, inl, inr}
use Rattle.std.proofs.lemmas.Result.{err_from_is_err_and}
use Rattle.dj_layout.specs.Passes.{asked}
use Rattle.dj_layout.proofs.Steps.{stops_in}
use Rattle.dj_pool.specs.declared.fault.BrokenKind.TheVariants as kind
use Rattle.dj_pool.specs.SharedParts.{u2}
use Rattle.dj_names.specs.Types.{view_type}
use Rattle.dj_pool.specs.PoolFormat.{text_at, IsFieldText}
use Rattle.dj_class.specs.FileFormat.{counted_in_turn, lawful_in_field, field}
use Rattle.dj_class.proofs.MemberReading.{field_read}
use Rattle.dj_class.proofs.members.field_at.Goals as goal

pub returns-in_err-descriptor : goal.returns-in_err-descriptor
returns-in_err-descriptor c =
    let p = err_from_is_err_and c.from_residual-in_err-descriptor.result c.from_residual-in_err-descriptor.ensures.1 in
    rw (p.1, p.2) record { reads = stops_in (asked u2 (λ i. IsSomeAnd (text_at c.args.pool.now i) IsFieldText) kind.Descriptor).Halts (field c.args.pool.now).Halts _ _ c.in_ok-_index.rest.now _ c.in_err-descriptor.ensures.reads (λ f h. inr (_, _, c.in_ok-flags.ensures.reads, inr (_, _, c.in_ok-_index.ensures.reads, inl h))) }

pub returns-in_err-constant : goal.returns-in_err-constant
returns-in_err-constant c =
    let p = err_from_is_err_and c.from_residual-in_err-constant.result c.from_residual-in_err-constant.ensures.1 in
    rw (p.1, p.2) record { reads = stops_in (counted_in_turn (lawful_in_field c.args.pool.now c.in_ok-descriptor.descriptor)).Halts (field c.args.pool.now).Halts _ _ c.in_ok-descriptor.rest.now _ c.in_err-constant.ensures.reads (λ f h. inr (_, _, c.in_ok-flags.ensures.reads, inr (_, _, c.in_ok-_index.ensures.reads, inr (_, _, c.in_ok-descriptor.ensures.reads, inl h)))) }

pub returns : goal.returns
returns c =
    rw (c.in_ok-name.ensures.equal, c.in_ok-descriptor-2.ensures.equal) record {
      reads = field_read c.args.pool.now c.args.bytes.now c.in_ok-flags.rest.now c.in_ok-_index.rest.now c.in_ok-descriptor.rest.now c.in_ok-constant.rest.now c.in_ok-flags.flags c.in_ok-_index._index c.in_ok-descriptor.descriptor
          c.in_ok-_index.name.now (view_type c.in_ok-descriptor.spelled.now) c.in_ok-constant.constant c.in_ok-flags.ensures.reads c.in_ok-_index.ensures.reads c.in_ok-descriptor.ensures.reads c.in_ok-constant.ensures.reads
          c.in_ok-_index.ensures.name c.in_ok-descriptor.ensures.spelled;
    }
