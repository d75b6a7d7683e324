use Rattle.std.proofs.Common.{◌-◌, ◌∙◌, length, ap, arith}
use Rattle.dj_names.specs.Types.{view_descriptor}
use Rattle.dj_names.specs.Faults.{place}
use Rattle.dj_names.proofs.DescriptorLemmas.{only_descriptor, halted}
use Rattle.dj_names.proofs.descriptors.read_descriptor.Goals as goal

pub returns-in-Ok-clause-value : goal.returns-in-Ok-clause-value
returns-in-Ok-clause-value c =
    only_descriptor c.args.units.now c.as_slice-all.result.now c.new-unread.result (view_descriptor c.in-Ok.descriptor) c.new-unread.ensures.units c.as_slice-all.ensures.units c.in-Ok.ensures.ok

pub returns-in-Err-Here : goal.returns-in-Err-Here
returns-in-Err-Here c =
    let left = c.read_whole.new.unread in
    let none = halted c.in-Err-Here.field-0 c.args.units.now c.as_slice-all.result.now c.new-unread.result left c.in-Err-Here.field-0-is c.new-unread.ensures.units c.as_slice-all.ensures.units c.in-Err-Here.ensures.halts in
    record {
      ok = tt;
      value = none.unspelled;
      fault = (length c.args.units.now - length left, c.place.ensures.place ∙ ap place (omega (arith, c.len.ensures.left, ap length c.as_slice-all.ensures.units)), none);
    }
