-- Marks that fall, one way behind another.
use Rattle.std.proofs.Common.{◌≡◌, ◌⊎◌, ◌↔◌, ℕ, zero, suc, ◌+◌, ◌<◌, ◌≤◌, Bool, true, false, List, [], ◌∷◌, ◌++◌, Contains, length, take, reverse, get_or, set, Option, Some, None, refl, sym, ap, subst, inl, inr, ◌∙◌, arith, length-append}
use Rattle.std.specs.Prelude.{if◌then◌else◌, slice_index_or}
use Rattle.std.proofs.Math.Nat.{eq-or-lt_of_le}
use Rattle.std.proofs.lemmas.Bool.{cases_lt}
use Rattle.std.proofs.lemmas.List.{get_or-set_same, get_or-set_other, length-set, take_more}
use Rattle.std.proofs.lemmas.List.Elements.{Contains-append_left, Contains-push, Contains-push_cases}
use Rattle.dj_code.specs.MethodCode.{Typed}
use Rattle.dj_starts.specs.declared.ways.Edge.{Edge}
use Rattle.dj_starts.specs.Marks.{IsMarked}
use Rattle.dj_receivers.specs.declared.marking.Marking.{Marking}
use Rattle.dj_receivers.specs.Receivers.{height_at}
use Rattle.dj_receivers.specs.Steps.{IsAt, IsBelow, IsHeld, Misses, IsLow}
use Rattle.dj_receivers.specs.Walks.{kept, IsKeptBelow, IsSound, weights, tallest, Falls, IsKnown, IsLowered, put, wait, Lowers, sent, Sends, SendsAll}
use Rattle.dj_receivers.proofs.Sources.{at_fitted}
use Rattle.dj_receivers.proofs.Weights.{weights_set}

-- ---- numbers and marks

pub same_or_not : (m n : ℕ) → (m ≡ n) ⊎ ¬ (m ≡ n)
same_or_not m n = elim (cases_lt m n) [
  | inl less ↦ inr (λ same. omega (arith, same, less))
  | inr above ↦ elim (eq-or-lt_of_le above) [ inl same ↦ inl (sym same) | inr more ↦ inr (λ same. omega (arith, same, more)) ]
]

pub at_or_not : (marks : List Bool) (place : ℕ) → IsAt marks place ⊎ ¬ IsAt marks place
at_or_not marks place = by_value (slice_index_or marks place false) refl
  where
    by_value : (value : Bool) → slice_index_or marks place false ≡ value → IsAt marks place ⊎ ¬ IsAt marks place
    by_value true is = inl is
    by_value false is = inr (λ at. cc)

-- ---- falls

pub falls_refl : (typed : Typed) (marking : Marking) → Falls typed marking marking
falls_refl typed marking = record {
  table = λ pc found is. record { found = found; is = is; below = λ place at. at };
  same = λ pc. inl refl;
  waits = λ pc waits. waits;
  calls = λ pc marked. marked;
  room = refl;
  numbers = refl;
  less = omega arith;
}

pub below_then : (table : List (Option (List Bool))) (pc : ℕ) (first second : List Bool) → IsKeptBelow table pc first → IsBelow first second → IsKeptBelow table pc second
below_then table pc first second is below = record { found = is.found; is = is.is; below = λ place at. below place (is.below place at) }

-- what is kept falls on
pub kept_falls : (typed : Typed) (old new : Marking) (pc : ℕ) (marks : List Bool) → Falls typed old new → IsKeptBelow old.table pc marks → IsKeptBelow new.table pc marks
kept_falls typed old new pc marks falls is = below_then new.table pc (reverse is.found) marks (falls.table pc is.found is.is) is.below

pub falls_then : (typed : Typed) (a b c : Marking) → Falls typed a b → Falls typed b c → Falls typed a c
falls_then typed a b c one two = record {
  table = λ pc found is. kept_falls typed b c pc (reverse found) two (one.table pc found is);
  same = λ pc. elim (two.same pc) [
    | inl same ↦ elim (one.same pc) [ inl before ↦ inl (same ∙ before) | inr waits ↦ inr (two.waits pc waits) ]
    | inr waits ↦ inr waits
  ];
  waits = λ pc waits. two.waits pc (one.waits pc waits);
  calls = λ pc marked. one.calls pc (two.calls pc marked);
  room = two.room ∙ one.room;
  numbers = two.numbers ∙ one.numbers;
  less = (let first = one.less in let second = two.less in omega (arith, first, second));
}

-- where only the marks that hold here change
pub falls_here : (typed : Typed) (old new : Marking) → new.table ≡ old.table → new.waiting ≡ old.waiting → new.calls ≡ old.calls → Falls typed old new
falls_here typed old new table waiting calls = record {
  table = λ pc found is. record { found = found; is = ap (λ (t : List (Option (List Bool))). kept t pc) table ∙ is; below = λ place at. at };
  same = λ pc. inl (ap (λ (t : List (Option (List Bool))). kept t pc) table);
  waits = λ pc waits. subst (λ (list : List ℕ). Contains list pc) (sym waiting) waits;
  calls = λ pc marked. subst (λ (list : List Bool). IsMarked list pc) calls marked;
  room = ap (λ (t : List (Option (List Bool))). length t) table;
  numbers = ap (λ (list : List Bool). length list) calls;
  less = (let w = ap (λ (t : List (Option (List Bool))). weights (tallest typed.frames) t) table in let l = ap (λ (list : List ℕ). length list) waiting in omega (arith, w, l));
}

pub sound_here : (typed : Typed) (old new : Marking) → new.table ≡ old.table → new.calls ≡ old.calls → IsSound typed old → IsSound typed new
sound_here typed old new table calls sound = record {
  table = λ pc found is. sound.table pc found (sym (ap (λ (t : List (Option (List Bool))). kept t pc) table) ∙ is);
  calls = λ pc method within call none. sound.calls pc method (subst (λ (list : List Bool). pc < length list) calls within) call (λ marked. none (subst (λ (list : List Bool). IsMarked list pc) (sym calls) marked));
}

-- ---- one way

module _ (typed : Typed) (old new : Marking) (edge : Edge) (height : ℕ) (low : height ≤ tallest typed.frames) (held : (place : ℕ) → IsAt (sent typed (reverse old.now) edge) place ↔ IsHeld (reverse old.now) height place) where
  abbrev pc : ℕ
  pc = edge.target

  -- no mark falls
  sends_same : new.table ≡ old.table → new.waiting ≡ old.waiting → new.calls ≡ old.calls → new.now ≡ old.now → (pc < length old.table → IsLowered (kept old.table pc) (reverse old.now) height None) → Sends typed old new edge
  sends_same table waiting calls now lowered = record {
    falls = falls_here typed old new table waiting calls;
    sound = λ sound lows. sound_here typed old new table calls sound;
    arrives = λ within. (let l = lowered within in record {
      found = l.0;
      is = ap (λ (t : List (Option (List Bool))). kept t pc) table ∙ l.1;
      below = λ place at. (held place).1 (l.2 place at);
    });
    now = now;
  }

  -- one does
  module _ (found : List Bool) (within : pc < length old.table) (lowered : IsLowered (kept old.table pc) (reverse old.now) height (Some found)) (table : new.table ≡ set old.table pc (Some found)) (waiting : new.waiting ≡ old.waiting ++ pc ∷ [])
      (calls : new.calls ≡ old.calls) (now : new.now ≡ old.now) where
    here : kept new.table pc ≡ Some found
    here = ap (λ (t : List (Option (List Bool))). kept t pc) table ∙ get_or-set_same old.table pc (Some found) None within

    elsewhere : (other : ℕ) → ¬ (other ≡ pc) → kept new.table other ≡ kept old.table other
    elsewhere other apart = ap (λ (t : List (Option (List Bool))). kept t other) table ∙ get_or-set_other old.table pc other (Some found) None apart

    some_same : (first second : List Bool) → Some first ≡ Some second → first ≡ second
    some_same first second same = cc

    known_at : (was : List Bool) (place : ℕ) → kept old.table pc ≡ Some was → IsKnown (kept old.table pc) place → IsAt (reverse was) place
    known_at was place is known = subst (λ (o : Option (List Bool)). IsKnown o place) is known

    -- what isn't known is missing
    unknown : (known : Option (List Bool)) (place : ℕ) → kept old.table pc ≡ known → ¬ IsKnown known place → IsSound typed old → Misses typed pc place
    unknown None place is none sound = absurd (none tt)
    unknown (Some was) place is none sound = sound.table pc was is place none

    sends_fallen : Sends typed old new edge
    sends_fallen = record {
      falls = record {
        table = λ other was is. elim (same_or_not other pc) [
          | inl same ↦ record {
            found = found;
            is = subst (λ (n : ℕ). kept new.table n ≡ Some found) (sym same) here;
            below = λ place at. known_at was place (subst (λ (n : ℕ). kept old.table n ≡ Some was) same is) ((lowered.0 place).0 at).0;
          }
          | inr apart ↦ record { found = was; is = elsewhere other apart ∙ is; below = λ place at. at }
        ];
        same = λ other. elim (same_or_not other pc) [
          | inl same ↦ inr (subst (λ (list : List ℕ). Contains list other) (sym waiting) (subst (λ (n : ℕ). Contains (old.waiting ++ pc ∷ []) n) (sym same) (Contains-push old.waiting pc)))
          | inr apart ↦ inl (elsewhere other apart)
        ];
        waits = λ other waits. subst (λ (list : List ℕ). Contains list other) (sym waiting) (Contains-append_left old.waiting (pc ∷ []) other waits);
        calls = λ other marked. subst (λ (list : List Bool). IsMarked list other) calls marked;
        room = ap (λ (t : List (Option (List Bool))). length t) table ∙ length-set old.table pc (Some found);
        numbers = ap (λ (list : List Bool). length list) calls;
        less = (
            let cap = tallest typed.frames in
            let turned = weights_set cap old.table pc (Some found) within in
            let lighter = lowered.1 cap low in
            let w = ap (λ (t : List (Option (List Bool))). weights cap t) table in
            let l = ap (λ (list : List ℕ). length list) waiting in
            let more = length-append old.waiting (pc ∷ []) in
            omega (arith, turned, lighter, w, l, more)
            );
      };
      sound = λ sound lows. record {
        table = λ other some is place none. elim (same_or_not other pc) [
          | inl same ↦ (let is_here : some ≡ found = some_same some found (sym is ∙ subst (λ (n : ℕ). kept new.table n ≡ Some found) (sym same) here) in
              let gone : ¬ IsAt (reverse found) place = subst (λ (list : List Bool). ¬ IsAt (reverse list) place) is_here none in
              subst (λ (n : ℕ). Misses typed n place) (sym same) (elim (at_or_not (sent typed (reverse old.now) edge) place) [
                | inl at ↦ unknown (kept old.table pc) place refl (λ known. gone ((lowered.0 place).1 (known, (held place).0 at))) sound
                | inr lost ↦ lows place lost
              ]))
          | inr apart ↦ sound.table other some (sym (elsewhere other apart) ∙ is) place none
        ];
        calls = λ other method few call none. sound.calls other method (subst (λ (list : List Bool). other < length list) calls few) call (λ marked. none (subst (λ (list : List Bool). IsMarked list other) (sym calls) marked));
      };
      arrives = λ within. record { found = found; is = here; below = λ place at. (held place).1 ((lowered.0 place).0 at).1 };
      now = now;
    }

  pub sends_from : Lowers old new pc height → Sends typed old new edge
  sends_from is = by_found is.found is.lowered is.past is.table is.waiting
    where
      by_found : (found : Option (List Bool)) → (pc < length old.table → IsLowered (kept old.table pc) (reverse old.now) height found) → (length old.table ≤ pc → found ≡ None) → new.table ≡ put old.table pc found → new.waiting ≡ wait old.waiting pc found → Sends typed old new edge
      by_found None lowered past table waiting = sends_same table waiting is.calls is.now lowered
      by_found (Some found) lowered past table waiting = elim (cases_lt pc (length old.table)) [
        | inl within ↦ sends_fallen found within (lowered within) table waiting is.calls is.now
        | inr beyond ↦ absurd (let wrong = past beyond in cc)
      ]

nothing_at : (place : ℕ) → ¬ IsAt (false ∷ []) place
nothing_at zero at = cc
nothing_at (suc place) at = cc

-- the marks that count along a way
pub sent_caught : (typed : Typed) (behind : List Bool) (edge : Edge) → edge.caught ≡ true → (place : ℕ) → IsAt (sent typed behind edge) place ↔ IsHeld behind 0 place
sent_caught typed behind edge caught place = (
  λ at. absurd (none place ((at_fitted (height_at typed.code.instructions typed.frames edge.target) (if edge.caught then false ∷ [] else behind) place).0 at).1),
  λ held. absurd (let low = held.0 in omega (arith, low)),
)
  where
    none : (place : ℕ) → ¬ IsAt (if edge.caught then false ∷ [] else behind) place
    none place at = nothing_at place (subst (λ (b : Bool). IsAt (if b then false ∷ [] else behind) place) caught at)

pub sent_plain : (typed : Typed) (behind : List Bool) (edge : Edge) → edge.caught ≡ false → (place : ℕ) → IsAt (sent typed behind edge) place ↔ IsHeld behind (height_at typed.code.instructions typed.frames edge.target) place
sent_plain typed behind edge plain place =
    subst (λ (b : Bool). IsAt (sent typed behind edge) place ↔ IsHeld (if b then false ∷ [] else behind) (height_at typed.code.instructions typed.frames edge.target) place) plain
    (at_fitted (height_at typed.code.instructions typed.frames edge.target) (if edge.caught then false ∷ [] else behind) place)

-- ---- all ways

module _ (typed : Typed) (joins : List Bool) (old : Marking) (ways : List Edge) where
  pub all_first : SendsAll typed joins old old []
  all_first = record { falls = falls_refl typed old; sound = λ sound lows. sound; arrives = λ edge has. absurd (let none = has.1 in omega (arith, none)); now = refl }

  -- one way more
  pub all_more : (mid new : Marking) (done : List Edge) (way : Edge) → SendsAll typed joins old mid done → Sends typed mid new way → SendsAll typed joins old new (done ++ way ∷ [])
  all_more mid new done way were sends = record {
    falls = falls_then typed old mid new were.falls sends.falls;
    sound = λ sound lows. sends.sound (were.sound sound (λ edge has. lows edge (Contains-append_left done (way ∷ []) edge has)))
        (subst (λ (marks : List Bool). IsLow typed way.target (sent typed (reverse marks) way)) (sym were.now) (lows way (Contains-push done way)));
    arrives = λ edge has jumped within. elim (Contains-push_cases done way edge has) [
      | inl earlier ↦ kept_falls typed mid new edge.target (sent typed (reverse old.now) edge) sends.falls (were.arrives edge earlier jumped within)
      | inr same ↦ subst (λ (e : Edge). IsKeptBelow new.table e.target (sent typed (reverse old.now) e)) same
          (subst (λ (marks : List Bool). IsKeptBelow new.table way.target (sent typed (reverse marks) way)) were.now
          (sends.arrives (let room = were.falls.room in let there = subst (λ (e : Edge). e.target < length old.table) (sym same) within in omega (arith, room, there))))
    ];
    now = sends.now ∙ were.now;
  }

  -- or one that doesn't count
  pub all_skip : (mid : Marking) (done : List Edge) (way : Edge) → ¬ IsMarked joins way.target → SendsAll typed joins old mid done → SendsAll typed joins old mid (done ++ way ∷ [])
  all_skip mid done way none were = record {
    falls = were.falls;
    sound = λ sound lows. were.sound sound (λ edge has. lows edge (Contains-append_left done (way ∷ []) edge has));
    arrives = λ edge has jumped within. elim (Contains-push_cases done way edge has) [
      | inl earlier ↦ were.arrives edge earlier jumped within
      | inr same ↦ absurd (none (subst (λ (e : Edge). IsMarked joins e.target) (sym same) jumped))
    ];
    now = were.now;
  }

  pub take_one : (i : ℕ) (way : Edge) → i < length ways → way ≡ get_or ways i way → take (i + 1) ways ≡ take i ways ++ way ∷ []
  take_one i way within is = take_more ways i way within ∙ ap (λ (e : Edge). take i ways ++ e ∷ []) (sym is)
