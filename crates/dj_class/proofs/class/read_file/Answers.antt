use Rattle.std.proofs.lemmas.Result.{err_from_is_err_and}
use Rattle.dj_class.proofs.FileRead.{sound_stop, file_read}
use Rattle.dj_class.specs.FileParts.{view_members}
use Rattle.dj_class.proofs.class.read_file.Goals as goal

pub returns-in_err-own : goal.returns-in_err-own
returns-in_err-own c =
    let p = err_from_is_err_and c.from_residual-in_err-own.result c.from_residual-in_err-own.ensures.1 in
    rw (p.1, p.2) record { reads = sound_stop c.args.bytes.now c.args.oldest c.in_ok-front.front c.in_ok-pool.pool c.in_err-own.field-0.0 c.in_ok-front.ensures.reads c.in_ok-pool.ensures.entries c.in_err-own.ensures.reads }

pub returns : goal.returns
returns c =
    record {
      reads = file_read c.args.bytes.now c.args.oldest c.in_ok-front.front c.in_ok-pool.pool c.in_ok-own.own (view_members c.in_ok-own.members) c.in_ok-own._rest.now c.in_ok-front.ensures.reads c.in_ok-pool.ensures.entries c.in_ok-own.ensures.reads;
    }
