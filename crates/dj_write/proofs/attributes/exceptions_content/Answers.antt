use Rattle.std.proofs.Common.{arith}
use Rattle.dj_class.specs.FileFormat.{LeadsTo}
use Rattle.dj_write.proofs.MemberParts.{zip_number}
use Rattle.dj_write.proofs.attributes.exceptions_content.Goals as goal

pub put_indices-requires : goal.put_indices-requires
put_indices-requires c =
    let as_many = zip_number (LeadsTo c.args.index.now) c.in_ok-indices.indices c.args.thrown.now c.in_ok-indices.ensures.lead.lead in
    let few = c.requires.there.few in
    record { few = rw c.as_slice.ensures (omega arith) }
