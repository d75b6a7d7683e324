use Rattle.std.proofs.Common.{◌≡◌, inl, inr, refl, sym, subst, ◌∙◌, arith, ◌++◌, ◌∷◌, [], ℕ}
use Rattle.std.specs.List.{Contains}
use Rattle.std.proofs.lemmas.List.Elements.{Contains-append_left, Contains-push, Contains-push_cases}
use Rattle.dj_code.specs.MethodCode.{view_code}
use Rattle.dj_starts.specs.Edges.{edges}
use Rattle.dj_starts.specs.Marks.{IsMarked, IsRoom, GoesOn}
use Rattle.dj_starts.proofs.Marking.{contains_none}
use Rattle.dj_starts.proofs.Reaching.{all_marked, starts_within, start_at, reach_target}
use Rattle.dj_starts.proofs.reach.reached.Goals as goal

pub loop-pc-init : goal.loop-pc-init
loop-pc-init c =
    let v = c.in_ok-visit.ensures.visits in
    record {
      room = subst (λ n. IsRoom (view_code c.args.code.now).instructions n) (sym v.marks.room) (rw c.as_slice.ensures at c.in_ok-seen.ensures.room);
      first = λ some. v.marks.these 0 (omega (arith, v.marks.room)) refl;
      reached = λ pc h. elim (v.marks.only pc h) [ inl old ↦ absurd (c.in_ok-seen.ensures.none pc old) | inr new ↦ start_at (view_code c.args.code.now) pc new ];
      waiting = λ pc h. elim (v.only pc h) [ inl old ↦ absurd (contains_none pc (rw c.new-pending.ensures at old)) | inr marked ↦ marked ];
      closed = λ pc h. elim (v.fresh pc h) [ inl old ↦ absurd (c.in_ok-seen.ensures.none pc old) | inr waits ↦ inl waits ];
    }

pub loop-pc-preserved : goal.loop-pc-preserved
loop-pc-preserved c =
    let i = c.loop-pc.invariant in
    let v = c.in_ok-visit_all.ensures.visits in
    let ways : c.as_slice-in-Some.result.now ≡ edges (view_code c.args.code.now) c.in-Some.pc = c.as_slice-in-Some.ensures ∙ c.in_ok-ways.ensures.edges in
    let popped : c.loop-pc.pending ≡ c.pop.new.self ++ c.in-Some.pc ∷ [] = c.in-Some.ensures in
    let here : Contains c.loop-pc.pending c.in-Some.pc = rw popped (Contains-push c.pop.new.self c.in-Some.pc) in
    record {
      room = subst (λ n. IsRoom (view_code c.args.code.now).instructions n) (sym v.marks.room) i.room;
      first = λ some. v.marks.kept 0 (i.first (omega (arith, v.marks.room)));
      reached = λ pc h. elim (v.marks.only pc h) [
        | inl old ↦ i.reached pc old
        | inr new ↦ reach_target (view_code c.args.code.now) c.in-Some.pc pc (i.reached _ (i.waiting _ here)) (rw (← ways) new)
      ];
      waiting = λ pc h. elim (v.only pc h) [
        | inl old ↦ v.marks.kept pc (i.waiting pc (rw popped (Contains-append_left c.pop.new.self (c.in-Some.pc ∷ []) pc old)))
        | inr marked ↦ marked
      ];
      closed = λ pc h. elim (v.fresh pc h) [
        | inl old ↦ elim (i.closed pc old) [
          | inl waits ↦ elim (Contains-push_cases c.pop.new.self c.in-Some.pc pc (rw popped at waits)) [
            | inl left ↦ inl (v.kept pc left)
            | inr same ↦ inr (λ way one within. v.marks.these way.target (omega (arith, v.marks.room)) record { way = way; one = rw (ways, same) one; there = refl })
          ]
          | inr on ↦ inr (λ way one within. v.marks.kept _ (on way one (omega (arith, v.marks.room))))
        ]
        | inr waits ↦ inl waits
      ];
    }

pub returns : goal.returns
returns c = record {
  exact = λ pc at.
      let code = view_code c.args.code.now in
      let i = c.loop-pc.invariant in
      let closed : (q : ℕ) → IsMarked c.loop-pc.seen q → GoesOn code c.loop-pc.seen q = λ q h. elim (i.closed q h) [ inl waits ↦ absurd (contains_none q (rw c.in_default.ensures.0 at waits)) | inr on ↦ on ] in
      (i.reached pc, λ reaches. all_marked code c.loop-pc.seen i.room i.first closed pc reaches (starts_within code c.loop-pc.seen i.room pc at));
}
