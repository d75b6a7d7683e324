use Rattle.std.proofs.Common.{inl, inr, refl}
use Rattle.std.proofs.lemmas.Result.{err_from_is_err_and}
use Rattle.dj_layout.specs.Passes.{asked}
use Rattle.dj_layout.proofs.Steps.{stops_in}
use Rattle.dj_pool.specs.declared.fault.BrokenKind.TheVariants.{Index}
use Rattle.dj_pool.specs.SharedParts.{u2}
use Rattle.dj_class.specs.FileFormat.{IsSuperIndex, lawful_own}
use Rattle.dj_class.proofs.RestParts.{lawful_own_spelled}
use Rattle.dj_class.proofs.own.own_at.Goals as goal

pub returns-in_err-super_class : goal.returns-in_err-super_class
returns-in_err-super_class c =
    let p = err_from_is_err_and c.from_residual-in_err-super_class.result c.from_residual-in_err-super_class.ensures.1 in
    rw (p.1, p.2) record {
      reads = stops_in (asked u2 (IsSuperIndex c.args.pool.now c.in_ok-flags.flags c.in_ok-this_class.this_class) Index).Halts (lawful_own c.args.pool.now).Halts _ _ c.in_ok-this_class.rest.now _ c.in_err-super_class.ensures.reads
          (λ f h. inr (_, _, c.in_ok-flags.ensures.reads, inr (_, _, c.in_ok-this_class.ensures.reads, inl h)));
    }

pub returns : goal.returns
returns c =
    record {
      reads = record {
        value = record { flags = c.in_ok-flags.flags; this_class = c.in_ok-this_class.this_class; super_class = c.in_ok-super_class.super_class };
        spells = lawful_own_spelled c.args.pool.now c.args.bytes.now c.in_ok-flags.rest.now c.in_ok-this_class.rest.now c.in_ok-super_class.rest.now c.in_ok-flags.flags c.in_ok-this_class.this_class c.in_ok-super_class.super_class c.in_ok-flags.ensures.reads c.in_ok-this_class.ensures.reads c.in_ok-super_class.ensures.reads;
        means = record { flags = refl; this_class = rw (c.new-this_class.ensures.units, c.in_ok-copy.ensures.equal) c.in_ok-this_class.ensures.leads; super_class = c.in_ok-super_class-2.ensures.name };
      };
    }
