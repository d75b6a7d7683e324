use Rattle.std.proofs.Common.{sym, subst, arith}
use Rattle.dj_instructions.specs.Instructions.{view_instructions}
use Rattle.dj_starts.specs.Marks.{IsRoom}
use Rattle.dj_starts.proofs.Calling.{calls_none, calls_step, calls_all}
use Rattle.dj_starts.proofs.calls.calls_met.Goals as goal

pub loop-place-init : goal.loop-place-init
loop-place-init c = record {
  room = subst (λ n. IsRoom (view_instructions c.args.instructions.now) n) (sym c.in_ok-calls.ensures.room) c.room.ensures.room;
  tells = λ start within. calls_none c.args.instructions.now c.args.frames.now c.in_ok-calls.calls start (c.in_ok-calls.ensures.none start);
}

pub loop-place-preserved : goal.loop-place-preserved
loop-place-preserved c =
    let i = c.loop-place.invariant in
    let noted = rw c.frames_from.ensures.from at c.note.ensures.noted in
    record {
      room = subst (λ n. IsRoom (view_instructions c.args.instructions.now) n) (sym noted.room) i.room;
      tells = λ start within. calls_step c.args.instructions.now c.args.frames.now c.loop-place.place c.index-instructions-place.result c.requires.rising c.loop-place-test.true c.index-instructions-place.is c.loop-place.calls c.note.new.calls noted start (omega (arith, noted.room, within)) (i.tells start (omega (arith, noted.room, within)));
    }

pub returns : goal.returns
returns c = record {
  table = record {
    room = c.loop-place.invariant.room;
    tells = λ start within. calls_all c.args.instructions.now c.args.frames.now c.loop-place.place c.loop-place.calls start c.loop-place-test.false (c.loop-place.invariant.tells start within);
  };
}
