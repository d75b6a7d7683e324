use Rattle.std.proofs.Common.{◌≡◌, IfOk, subst}
use Rattle.dj_class.specs.FileFormat.{Raw, file}
use Rattle.dj_make.proofs.Room.{made_has_room}
use Rattle.dj_make.proofs.file.make.Goals as goal

pub write_file-requires : goal.write_file-requires
write_file-requires c = record { room = rw c.in_ok-file.ensures.made (made_has_room c.args.k c.requires.few) }

pub returns : goal.returns
returns c = record { made = subst (λ (raw : Raw). IfOk c.write_file.result (λ bytes. bytes.items ≡ (file 52).spell raw)) c.in_ok-file.ensures.made (c.write_file.ensures.written 52) }
