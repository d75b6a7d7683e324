use Rattle.std.specs.Option.{option_copied}
use Rattle.dj_class.specs.FileFormat.{lawful_in_method}
use Rattle.dj_class.specs.FileParts.{HasFound}
use Rattle.dj_class.proofs.AttributesInTurn.{turn_counted}
use Rattle.dj_class.proofs.bodies.lawful_attributes_at.Goals as goal

pub returns : goal.returns
returns c =
    record {
      reads = turn_counted (lawful_in_method c.args.pool.now) (HasFound c.args.pool.now) c.in_ok-count.count c.args.bytes.now c.in_ok-count.rest.now c.in_ok-found.rest.now (option_copied c.in_ok-found.found.code, c.in_ok-found.found.thrown) c.in_ok-count.ensures.reads c.in_ok-found.ensures.reads;
    }
