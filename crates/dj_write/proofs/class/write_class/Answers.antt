use Rattle.std.proofs.Common.{arith}
use Rattle.std.proofs.lemmas.Result.{IfOk-weaker}
use Rattle.dj_class.specs.Views.{view_class}
use Rattle.dj_class.proofs.FileIsFiner.{sound_is_laid_out}
use Rattle.dj_class.proofs.FileIsUnique.{one_class}
use Rattle.dj_write.specs.Files.{view_file}
use Rattle.dj_write.proofs.FileParts.{spells_class}
use Rattle.dj_write.proofs.FileRoom.{file_room}
use Rattle.dj_write.proofs.class.write_class.Goals as goal

pub write_file-requires : goal.write_file-requires
write_file-requires c =
    let class = c.args.class.now in
    let raw = view_file c.in_ok-raw.raw in
    record { room = file_room class.major raw (sound_is_laid_out class.major class.pool raw (c.in_ok-raw.ensures.file.lawful class.major (omega arith))) }

pub returns : goal.returns
returns c =
    let class = view_class c.args.class.now in
    let raw = view_file c.in_ok-raw.raw in
    record {
      written = λ oldest le. IfOk-weaker c.write_file.result _ _ (λ bytes text. spells_class class raw oldest bytes.items (c.in_ok-raw.ensures.file.lawful oldest le) c.in_ok-raw.ensures.file.describes text) (c.write_file.ensures.written oldest);
      alone = λ oldest other le. IfOk-weaker c.write_file.result _ _
          (λ bytes text spelled. one_class bytes.items oldest other class spelled (spells_class class raw oldest bytes.items (c.in_ok-raw.ensures.file.lawful oldest le) c.in_ok-raw.ensures.file.describes text)) (c.write_file.ensures.written oldest);
    }
