use Rattle.dj_class.specs.FileFormat.{lawful_in_field}
use Rattle.dj_class.specs.FileParts.{HasConstantIndex}
use Rattle.dj_class.proofs.AttributesInTurn.{turn_counted}
use Rattle.dj_class.proofs.MemberAttributes.{constant_found}
use Rattle.dj_class.proofs.constants.field_attributes_at.Goals as goal

pub returns : goal.returns
returns c =
    let read = turn_counted (lawful_in_field c.args.pool.now c.args.descriptor) (HasConstantIndex c.args.pool.now) c.in_ok-count.count c.args.bytes.now c.in_ok-count.rest.now c.in_ok-found.rest.now c.in_ok-found.found c.in_ok-count.ensures.reads c.in_ok-found.ensures.reads in
    record { reads = record { value = read.value; spells = read.spells; means = constant_found c.args.pool.now read.value c.in_ok-found.found c.in_ok-constant.constant read.means c.in_ok-constant.ensures.constant } }
