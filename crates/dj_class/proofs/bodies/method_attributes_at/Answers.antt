use Rattle.std.specs.Option.{option_copied}
use Rattle.dj_class.specs.FileParts.{HasFound}
use Rattle.dj_class.proofs.FileIsFiner.{both_passes}
use Rattle.dj_class.proofs.bodies.method_attributes_at.Goals as goal

pub returns : goal.returns
returns c =
    record {
      reads = both_passes c.args.pool.now c.args.flags (HasFound c.args.pool.now) c.args.bytes.now c.in_ok-_behind._behind.now c.in_ok-found.rest.now (option_copied c.in_ok-found.found.code, c.in_ok-found.found.thrown) c.in_ok-_behind.ensures.reads c.in_ok-found.ensures.reads;
    }
