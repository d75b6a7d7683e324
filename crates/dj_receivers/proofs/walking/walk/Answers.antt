use Rattle.std.proofs.Common.{ℕ, refl, sym, ap, ◌∙◌, arith}
use Rattle.std.specs.Prelude.{slice_index_or}
use Rattle.dj_instructions.specs.declared.instruction.Instruction as declared
use Rattle.dj_code.specs.MethodCode.{view_typed}
use Rattle.dj_receivers.specs.Receivers.{height_at}
use Rattle.dj_receivers.proofs.Following.{item_at, walking_first, walking_ends, walking_next}
use Rattle.dj_receivers.proofs.walking.walk.Goals as goal

pub returns-then-not-falls_on : goal.returns-then-not-falls_on
returns-then-not-falls_on c = record {
  runs = λ x is.
      let l = c.args.typed.now.code.instructions in
      let place = c.loop-place.place in
      let walking = c.loop-place.invariant x is in
      let y = slice_index_or l place x in
      let at = item_at l place x walking.within in
      walking_ends (view_typed c.args.typed.now) l refl c.requires.rising c.args.joins.now c.requires.joins c.args.marking.now c.loop-place.marking x.0 place walking y at c.visit.new.marking (c.in_ok-visit.ensures.visits y at)
      (λ p z here below there. c.falls_on.ensures.off c.if-not-falls_on.true p z here below there);
}

pub loop-place-preserved : goal.loop-place-preserved
loop-place-preserved c = λ x is.
    let l = c.args.typed.now.code.instructions in
    let place = c.loop-place.place in
    let walking = c.loop-place.invariant x is in
    let y = slice_index_or l place x in
    let at = item_at l place x walking.within in
    let z = c.index-as_slice-place.result in
    let there = rw c.as_slice.ensures at c.index-as_slice-place.is in
    walking_next (view_typed c.args.typed.now) l refl c.requires.rising c.args.joins.now c.requires.joins c.args.marking.now c.loop-place.marking x.0 place walking y at c.visit.new.marking (c.in_ok-visit.ensures.visits y at) c.cut_now.new.marking c.height_at.result
    c.in_ok-cut_now.ensures.cuts (c.falls_on.ensures.behind c.if-not-falls_on.false) z there ((rw c.as_slice.ensures at c.height_at.ensures.height) ∙ ap (λ (q : ℕ × declared.Instruction). height_at (view_typed c.args.typed.now).code.instructions (view_typed c.args.typed.now).frames q.0) (sym there)) (c.falls_on.ensures.on c.if-not-falls_on.false y z at there)

pub loop-place-init : goal.loop-place-init
loop-place-init c = λ x is. walking_first (view_typed c.args.typed.now) c.args.typed.now.code.instructions refl c.requires.rising c.args.joins.now c.requires.joins c.args.marking.now c.args.first x c.requires.within is

pub returns : goal.returns
returns c = record {
  runs = λ x is. absurd (let walking = c.loop-place.invariant x is in let within = walking.within in let past = c.loop-place-test.false in let size = c.len-place-end.ensures in omega (arith, within, past, size));
}
