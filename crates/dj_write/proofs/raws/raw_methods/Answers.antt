use Rattle.std.proofs.Common.{arith}
use Rattle.dj_class.specs.Described.{DescribesMethod}
use Rattle.dj_class.specs.FileFormat as layout
use Rattle.dj_class.specs.Views.{view_method}
use Rattle.dj_write.specs.Written.{IsDescribed}
use Rattle.dj_write.proofs.ListParts.{at_hand, raws_all, raws_more}
use Rattle.dj_write.proofs.raws.raw_methods.Goals as goal

pub raw_method-requires : goal.raw_method-requires
raw_method-requires c =
    let pool = c.args.index.now in
    record {
      described = at_hand view_method (IsDescribed (layout.method pool) (DescribesMethod pool)) c.args.methods.now c.loop-method.method-index c.method-item.result (omega arith) c.method-item.is c.requires.described;
    }

pub loop-method-preserved : goal.loop-method-preserved
loop-method-preserved c =
    let pool = c.args.index.now in
    raws_more (layout.method pool) (DescribesMethod pool) view_method c.args.methods.now c.loop-method.method-index c.method-item.result _ _ _ (omega arith) c.method-item.is c.loop-method.invariant c.in_ok-raw_method.ensures.raw c.in_ok-push.ensures.ok

pub returns : goal.returns
returns c =
    let pool = c.args.index.now in
    record { raws = raws_all (layout.method pool) (DescribesMethod pool) view_method c.args.methods.now c.loop-method.method-index c.loop-method.raws (omega arith) c.loop-method.invariant }
