use Rattle.std.proofs.Common.{arith}
use Rattle.dj_class.specs.Described.{DescribesField}
use Rattle.dj_class.specs.FileFormat as layout
use Rattle.dj_class.specs.Views.{view_field}
use Rattle.dj_write.specs.Written.{IsDescribed}
use Rattle.dj_write.proofs.ListParts.{at_hand, raws_all, raws_more}
use Rattle.dj_write.proofs.raws.raw_fields.Goals as goal

pub raw_field-requires : goal.raw_field-requires
raw_field-requires c =
    let pool = c.args.index.now in
    record {
      described = at_hand view_field (IsDescribed (layout.field pool) (DescribesField pool)) c.args.fields.now c.loop-field.field-index c.field-item.result (omega arith) c.field-item.is c.requires.described;
    }

pub loop-field-preserved : goal.loop-field-preserved
loop-field-preserved c =
    let pool = c.args.index.now in
    raws_more (layout.field pool) (DescribesField pool) view_field c.args.fields.now c.loop-field.field-index c.field-item.result _ _ _ (omega arith) c.field-item.is c.loop-field.invariant c.in_ok-raw_field.ensures.raw c.in_ok-push.ensures.ok

pub returns : goal.returns
returns c =
    let pool = c.args.index.now in
    record { raws = raws_all (layout.field pool) (DescribesField pool) view_field c.args.fields.now c.loop-field.field-index c.loop-field.raws (omega arith) c.loop-field.invariant }
