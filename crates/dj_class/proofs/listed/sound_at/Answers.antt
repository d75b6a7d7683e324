use Rattle.std.proofs.Common.{inl, inr}
use Rattle.std.proofs.lemmas.Result.{err_from_is_err_and}
use Rattle.dj_layout.proofs.Steps.{stops_in}
use Rattle.dj_class.specs.FileFormat.{lawful_rest, sound}
use Rattle.dj_class.specs.FileParts.{view_members}
use Rattle.dj_class.proofs.ListedParts.{sound_read}
use Rattle.dj_class.proofs.listed.sound_at.Goals as goal

pub returns-in_err-found : goal.returns-in_err-found
returns-in_err-found c =
    let p = err_from_is_err_and c.from_residual-in_err-found.result c.from_residual-in_err-found.ensures.1 in
    rw (p.1, p.2) record { reads = stops_in (lawful_rest c.args.pool.now).Halts (sound c.args.oldest c.args.pool.now).Halts _ _ c.in_ok-rest.rest.now _ c.in_err-found.ensures.reads (λ f h. inr (_, _, c.in_ok-_magic.ensures.reads, inr (_, _, c.in_ok-rest.ensures.reads.spells, inl h))) }

pub returns : goal.returns
returns c =
    record {
      reads = sound_read c.args.oldest c.args.pool.now c.args.bytes.now c.in_ok-_magic.rest.now c.in_ok-rest.rest.now c.in_ok-found.rest.now c.in_ok-_magic._magic c.in_ok-rest.ensures.reads.value (c.in_ok-found.found.0, view_members c.in_ok-found.found.1)
          c.in_ok-_magic.ensures.reads c.in_ok-rest.ensures.reads.spells c.in_ok-found.ensures.reads;
    }
