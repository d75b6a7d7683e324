-- All that is waited for, and what is told then.
use Rattle.std.proofs.Common.{◌≡◌, ℕ, zero, suc, ◌+◌, ◌<◌, ◌==◌, Bool, true, false, List, [], ◌∷◌, ◌++◌, Contains, length, reverse, set, Option, Some, None, refl, sym, ap, subst, inl, inr, ◌∙◌, arith, length-append}
use Rattle.std.specs.Prelude.{if◌then◌else◌, IsSome}
use Rattle.std.proofs.lemmas.List.{length-set, get_or-set_same, get_or-set_other}
use Rattle.std.proofs.lemmas.List.Elements.{Contains-push, Contains-push_cases}
use Rattle.dj_names.specs.Types.{parameters_of}
use Rattle.dj_instructions.specs.Instructions.{Instruction, Instructions, instruction_at}
use Rattle.dj_code.specs.declared.method_code.Handler.{Handler}
use Rattle.dj_code.specs.MethodCode.{Typed}
use Rattle.dj_code.specs.Targets.{IsStart}
use Rattle.dj_starts.specs.declared.ways.Edge.{Edge}
use Rattle.dj_starts.specs.Edges.{edges, first_edges, from_pc}
use Rattle.dj_starts.specs.Marks.{IsMarked}
use Rattle.dj_receivers.specs.declared.marking.Marking.{Marking}
use Rattle.dj_receivers.specs.Receivers.{height_at, fitted, marks_along, Arrives, begins, goes, KeepsThis}
use Rattle.dj_receivers.specs.Marked.{AreOnThis}
use Rattle.dj_receivers.specs.Steps.{IsAt, IsBelow, IsLow, AreJoins}
use Rattle.dj_receivers.specs.Walks.{kept, IsKeptBelow, IsSound, work, Keeps, Serves, Done, ends, falls_on, Finishes, IsClosed, Closes, Begins}
use Rattle.dj_receivers.proofs.Sources.{at_fitted, item_at, at_item}
use Rattle.dj_receivers.proofs.Lowering.{low_begins, low_above, below_goes}
use Rattle.dj_receivers.proofs.Falling.{same_or_not, at_or_not, sound_here, below_then}
use Rattle.dj_receivers.proofs.Following.{done_keeps}
use Rattle.dj_receivers.proofs.Ways.{start_within}

-- ---- at first

pub all_push : (marks : List Bool) (count : ℕ) → length marks ≡ count → ((pc : ℕ) → pc < count → IsMarked marks pc) → (pc : ℕ) → pc < count + 1 → IsMarked (marks ++ true ∷ []) pc
all_push [] count size all zero within = refl
all_push [] count size all (suc pc) within = absurd (omega (arith, size, within))
all_push (x ∷ marks) count size all zero within = all zero (omega (arith, size))
all_push (x ∷ marks) count size all (suc pc) within = all_push marks (length marks) refl (λ other low. all (suc other) (omega (arith, size, low))) pc (omega (arith, size, within))

pub none_push : (table : List (Option (List Bool))) → ((pc : ℕ) → kept table pc ≡ None) → (pc : ℕ) → kept (table ++ None ∷ []) pc ≡ None
none_push [] none zero = refl
none_push [] none (suc pc) = refl
none_push (x ∷ table) none zero = none zero
none_push (x ∷ table) none (suc pc) = none_push table (λ other. none (suc other)) pc

some_same : (first second : List Bool) → Some first ≡ Some second → first ≡ second
some_same first second same = cc

pub some_there : (table : List (Option (List Bool))) → ¬ (table ≡ []) → 0 < length table
some_there [] some = absurd (some refl)
some_there (x ∷ table) some = omega arith

pub begins_made : (table : List (Option (List Bool))) (waiting : List ℕ) (calls now : List Bool) → ((pc : ℕ) → kept table pc ≡ None) → length calls ≡ length table → ((pc : ℕ) → pc < length table → IsMarked calls pc) → 0 < length table
    → Begins (length table) (record { table = set table 0 (Some []); waiting = waiting ++ 0 ∷ []; calls = calls; now = now })
begins_made table waiting calls now none size all some = record {
  room = length-set table 0 (Some []);
  numbers = size;
  all = all;
  first = λ within. get_or-set_same table 0 (Some []) None some;
  only = λ pc found is. elim (same_or_not pc 0) [
    | inl same ↦ (
      same,
      some_same found [] (sym is ∙ ap (λ (n : ℕ). kept (set table 0 (Some [])) n) same ∙ get_or-set_same table 0 (Some []) None some),
      subst (λ (n : ℕ). Contains (waiting ++ 0 ∷ []) n) (sym same) (Contains-push waiting 0),
    )
    | inr apart ↦ absurd (let empty = get_or-set_other table 0 pc (Some []) None apart ∙ none pc in cc)
  ];
}

low_empty : (typed : Typed) → IsLow typed 0 []
low_empty typed = low_above typed 0 (fitted (height_at typed.code.instructions typed.frames 0) []) [] (low_begins typed) (λ place is. ((at_fitted (height_at typed.code.instructions typed.frames 0) [] place).0 is).1)

pub begun_sound : (typed : Typed) (count : ℕ) (marking : Marking) → Begins count marking → IsSound typed marking
begun_sound typed count marking starts = record {
  table = λ pc found is. (let only = starts.only pc found is in
      subst (λ (n : ℕ). IsLow typed n (reverse found)) (sym only.0) (subst (λ (marks : List Bool). IsLow typed 0 (reverse marks)) (sym only.1) (low_empty typed)));
  calls = λ pc method within call none. absurd (none (starts.all pc (let size = starts.numbers in omega (arith, size, within))));
}

pub begun_closed : (typed : Typed) (joins : List Bool) (count : ℕ) (marking : Marking) → Begins count marking → IsClosed typed joins marking
begun_closed typed joins count marking starts = λ pc found start is. inl (starts.only pc found is).2

-- ---- one step more

pub keeps_refl : (marking : Marking) → Keeps marking marking
keeps_refl marking = record { table = λ pc found is. record { found = found; is = is; below = λ place at. at }; calls = λ pc marked. marked; room = refl; numbers = refl }

pub keeps_then : (a b c : Marking) → Keeps a b → Keeps b c → Keeps a c
keeps_then a b c one two = record {
  table = λ pc found is. (let first = one.table pc found is in let second = two.table pc first.found first.is in below_then c.table pc (reverse first.found) (reverse found) second first.below);
  calls = λ pc marked. one.calls pc (two.calls pc marked);
  room = two.room ∙ one.room;
  numbers = two.numbers ∙ one.numbers;
}

module _ (typed : Typed) (joins : List Bool) (now new : Marking) (waiting : List ℕ) (pc : ℕ) (popped : now.waiting ≡ waiting ++ pc ∷ []) where
  abbrev rest : Marking
  rest = record { table = now.table; waiting = waiting; calls = now.calls; now = now.now }

  pub step_keeps : Finishes typed joins rest new pc → Keeps now new
  step_keeps is = record { table = is.falls.table; calls = is.falls.calls; room = is.falls.room; numbers = is.falls.numbers }

  pub step_sound : Finishes typed joins rest new pc → IsSound typed now → IsSound typed new
  step_sound is sound = is.sound (sound_here typed now rest refl refl sound)

  pub step_closed : Finishes typed joins rest new pc → IsClosed typed joins now → IsClosed typed joins new
  step_closed is closed other found start at = elim (is.falls.same other) [
    | inl same ↦ elim (closed other found start (sym same ∙ at)) [
      | inl waits ↦ elim (Contains-push_cases waiting pc other (subst (λ (list : List ℕ). Contains list other) popped waits)) [
        | inl earlier ↦ inl (is.falls.waits other earlier)
        | inr here ↦ inr (subst (λ (n : ℕ). Done typed joins new n (reverse found)) here
            (is.done found (subst (λ (n : ℕ). IsStart typed.code.instructions n) (sym here) start) (subst (λ (n : ℕ). kept now.table n ≡ Some found) (sym here) (sym same ∙ at))))
      ]
      | inr done ↦ inr (done_keeps typed joins now new other (reverse found) (step_keeps is) done)
    ]
    | inr waits ↦ inl waits
  ]

  pub step_less : Finishes typed joins rest new pc → work typed new < work typed now
  step_less is = let less = is.falls.less in let size = ap (λ (list : List ℕ). length list) popped ∙ length-append waiting (pc ∷ []) in omega (arith, less, size)

-- ---- at last

-- ways begin where an instruction does
edges_start : (handlers : List Handler) (l : Instructions) (pc : ℕ) (edge : Edge) → Contains (first_edges handlers (from_pc pc l)) edge → IsStart l pc
edges_start handlers [] pc edge has = absurd (let low = has.1 in omega (arith, low))
edges_start handlers (at ∷ rest) pc edge has = by_test (at.0 == pc) has (edges_start handlers rest pc edge)
  where
    by_test : (test : Bool) → Contains (first_edges handlers (if test then at ∷ rest else from_pc pc rest)) edge → (Contains (first_edges handlers (from_pc pc rest)) edge → IsStart rest pc) → IsSome (if test then Some at.1 else instruction_at rest pc)
    by_test true has more = refl
    by_test false has more = more has

-- marks that are done, and are among those of a path
pub record IsCovered (typed : Typed) (joins : List Bool) (marking : Marking) (pc : ℕ) (found : List Bool) : Type 0 where
  pub marks : List Bool
  pub done : Done typed joins marking pc marks
  pub below : IsBelow marks found

module _ (typed : Typed) (joins : List Bool) (are : AreJoins typed.code joins) (first last : Marking) (starts : Begins (length joins) first) (closes : Closes typed joins first last) where
  -- what is kept is done
  kept_done : (pc : ℕ) (found : List Bool) → IsStart typed.code.instructions pc → kept last.table pc ≡ Some found → Done typed joins last pc (reverse found)
  kept_done pc found start is = elim (closes.closed pc found start is) [
    | inl waits ↦ absurd (let none = subst (λ (list : List ℕ). Contains list pc) closes.none waits in let low = none.1 in omega (arith, low))
    | inr done ↦ done
  ]

  kept_covered : (pc : ℕ) (found : List Bool) → IsStart typed.code.instructions pc → IsKeptBelow last.table pc found → IsCovered typed joins last pc found
  kept_covered pc found start is = record { marks = reverse is.found; done = kept_done pc is.found start is.is; below = is.below }

  -- along a way
  way_covered : (pc : ℕ) (found : List Bool) (edge : Edge) → IsCovered typed joins last pc found → Contains (edges typed.code pc) edge → IsStart typed.code.instructions edge.target → IsCovered typed joins last edge.target (marks_along typed pc found edge)
  way_covered pc found edge covered way start = by_done covered.marks covered.done covered.below
    where
      served : (marks : List Bool) → Serves typed joins last pc marks → IsBelow marks found → IsMarked joins edge.target → IsCovered typed joins last edge.target (marks_along typed pc found edge)
      served marks serves below jumped =
          let within = start_within typed.code.instructions (length joins) edge.target are.room start in
          let size = closes.keeps.room in
          let room = starts.room in
          kept_covered edge.target (marks_along typed pc found edge) start
          (below_then last.table edge.target (marks_along typed pc marks edge) (marks_along typed pc found edge) (serves.ways edge way jumped (omega (arith, within, size, room))) (below_goes typed pc marks found edge below))

      by_done : (marks : List Bool) → Done typed joins last pc marks → IsBelow marks found → IsCovered typed joins last edge.target (marks_along typed pc found edge)
      by_done marks (ends serves none) below = elim (at_or_not joins edge.target) [
        | inl jumped ↦ served marks serves below jumped
        | inr plain ↦ absurd (none edge (record { way = way; plain = plain; start = start }))
      ]
      by_done marks (falls_on {next = next} {behind = behind} serves only more) below = elim (at_or_not joins edge.target) [
        | inl jumped ↦ served marks serves below jumped
        | inr plain ↦ (let falls = only edge (record { way = way; plain = plain; start = start }) in record {
          marks = behind;
          done = subst (λ (n : ℕ). Done typed joins last n behind) (sym falls.0) more;
          below = λ place at. below_goes typed pc marks found edge below place (falls.1 place at);
        })
      ]

  covers : (pc : ℕ) (found : List Bool) → Arrives typed pc found → IsStart typed.code.instructions pc → IsCovered typed joins last pc found
  covers pc found begins start =
      let within = start_within typed.code.instructions (length joins) 0 are.room start in
      let at = closes.keeps.table 0 [] (starts.first within) in
      kept_covered 0 (fitted (height_at typed.code.instructions typed.frames 0) []) start (record { found = at.found; is = at.is; below = λ place is. absurd (let none = at.below place is in cc) })
  covers pc found (goes {pc = before} {marks = marks} {edge = edge} path way) start =
      way_covered before marks edge (covers before marks path (edges_start typed.code.handlers typed.code.instructions before edge way)) way start

  -- which calls are told
  pub told_all : KeepsThis typed.code → AreOnThis typed last.calls
  told_all keeps pc method here =
      let start : IsStart typed.code.instructions pc = subst (λ (o : Option Instruction). IsSome o) (sym here) refl in
      let within : pc < length last.calls = (let room = start_within typed.code.instructions (length joins) pc are.room start in let size = closes.keeps.numbers in let count = starts.numbers in omega (arith, room, size, count)) in (
        λ marked. record {
          keeps = keeps;
          each = λ found path. at_item found (length (parameters_of method.descriptor)) (let covered = covers pc found path start in covered.below (length (parameters_of method.descriptor)) (called covered.marks covered.done marked within));
        },
        λ on. elim (at_or_not last.calls pc) [
          | inl marked ↦ marked
          | inr none ↦ absurd (let lost = closes.sound.calls pc method within here none in lost.misses (item_at lost.found (length (parameters_of method.descriptor)) (on.each lost.found lost.arrives)))
        ],
      )
    where
      called : (marks : List Bool) → Done typed joins last pc marks → IsMarked last.calls pc → pc < length last.calls → IsAt marks (length (parameters_of method.descriptor))
      called marks (ends serves none) marked within = serves.call method here within marked
      called marks (falls_on serves only more) marked within = serves.call method here within marked

-- in a method that doesn't keep its `this` none is
pub none_told : (typed : Typed) (calls : List Bool) → ¬ KeepsThis typed.code → ((pc : ℕ) → ¬ IsMarked calls pc) → AreOnThis typed calls
none_told typed calls lost none pc method here = (λ marked. absurd (none pc marked), λ on. absurd (lost on.keeps))
