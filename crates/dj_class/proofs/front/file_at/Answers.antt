use Rattle.std.proofs.Common.{None, refl, inl, inr}
use Rattle.std.proofs.lemmas.Result.{err_from_is_err_and}
use Rattle.dj_layout.proofs.Steps.{stops_in}
use Rattle.dj_class.specs.FileFormat.{front, plain_rest, file}
use Rattle.dj_class.proofs.RestParts.{file_spelled}
use Rattle.dj_class.proofs.front.file_at.Goals as goal

pub returns-in_err-rest : goal.returns-in_err-rest
returns-in_err-rest c =
    let p = err_from_is_err_and c.from_residual-in_err-rest.result c.from_residual-in_err-rest.ensures.1 in
    rw (p.1, p.2) record { reads = stops_in (plain_rest).Halts (file c.args.oldest).Halts _ _ c.in_ok-front.rest.now _ c.in_err-rest.ensures.reads (λ f h. inr (_, _, c.in_ok-_magic.ensures.reads, inr (_, _, c.in_ok-front.ensures.reads, inl h))) }

pub returns : goal.returns
returns c =
    record {
      reads = record {
        value = record { front = c.in_ok-front.front; rest = c.in_ok-rest.ensures.reads.value };
        spells = file_spelled (front c.args.oldest None) plain_rest c.args.bytes.now c.in_ok-_magic.rest.now c.in_ok-front.rest.now c.in_ok-rest.rest.now c.in_ok-_magic._magic c.in_ok-front.front c.in_ok-rest.ensures.reads.value c.in_ok-_magic.ensures.reads c.in_ok-front.ensures.reads c.in_ok-rest.ensures.reads.spells;
        means = refl;
      };
    }
