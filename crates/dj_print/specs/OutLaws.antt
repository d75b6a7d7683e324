-- Texts printed one after another are printed as one.
use Rattle.std.proofs.Common.{◌≡◌, ℕ, Bool, true, false, List, [], ◌++◌, refl, sym, ap, ◌∙◌, subst, append_assoc, append-nil, arith}
use Rattle.std.proofs.lemmas.List.{append_cancel_left}
use Rattle.std.specs.Prelude.{Option}
use Rattle.std.proofs.lemmas.Bool.{false≢true}
use Rattle.dj_outer.specs.Sink.{Puts}
use Rattle.dj_outer.proofs.PutsLemmas.{puts-nothing, puts-then, puts-stop}
use Rattle.dj_print.specs.Outs.{Compares, Grows, outcome, Tells}

-- ---- memory

-- a text to which nothing was added grew by nothing
pub grows-nothing : (full : Bool) (held : List ℕ) → Grows full full held held []
grows-nothing full held = record { room = λ is. is; grown = λ is. sym (append-nil held) }

-- a text that grew by a first part and then by a second grew by both
pub grows-then : {full_old full_between full_new : Bool} {old between new first second : List ℕ}
    → Grows full_old full_between old between first → Grows full_between full_new between new second → Grows full_old full_new old new (first ++ second)
grows-then {old = old} {between = between} {new = new} {first = first} {second = second} one two = record {
  room = λ is. one.room (two.room is);
  grown = λ is. two.grown is ∙ ap (λ held. held ++ second) (one.grown (two.room is)) ∙ append_assoc old first second;
}

-- ---- a sink

-- a sink that took nothing more was told nothing
pub tells-nothing : (stopped : Bool) (taken : Option (List ℕ)) (faults : ℕ) → Tells stopped stopped taken taken faults faults []
tells-nothing true taken faults = record { going = λ is. absurd (false≢true (sym is)); stopped = λ is. (refl, refl, refl) }
tells-nothing false taken faults = record { going = λ is. puts-nothing taken faults; stopped = λ is. absurd (false≢true is) }

going-then : (between new : Bool) {taken_old taken_between taken_new : Option (List ℕ)} {faults_old faults_between faults_new : ℕ} {first second : List ℕ}
    → Puts (outcome between) taken_old taken_between faults_old faults_between first → Tells between new taken_between taken_new faults_between faults_new second
    → Puts (outcome new) taken_old taken_new faults_old faults_new (first ++ second)
going-then false new one two = puts-then one (two.going refl)
going-then true new {taken_old = taken_old} {taken_between = taken_between} {taken_new = taken_new} {faults_old = faults_old} {faults_between = faults_between} {first = first} {second = second} one two =
    let same = two.stopped refl in
    subst (λ faults. Puts (outcome new) taken_old taken_new faults_old faults (first ++ second)) (sym same.2)
    (subst (λ taken. Puts (outcome new) taken_old taken faults_old faults_between (first ++ second)) (sym same.1)
    (puts-stop (ap outcome same.0) second one))

-- a sink that was told a first part and then a second was told both
pub tells-then : {old between new : Bool} {taken_old taken_between taken_new : Option (List ℕ)} {faults_old faults_between faults_new : ℕ} {first second : List ℕ}
    → Tells old between taken_old taken_between faults_old faults_between first → Tells between new taken_between taken_new faults_between faults_new second
    → Tells old new taken_old taken_new faults_old faults_new (first ++ second)
tells-then {between = between} {new = new} one two = record {
  going = λ is. going-then between new (one.going is) two;
  stopped = λ is.
      let first = one.stopped is in
      let second = two.stopped first.0 in
      (second.0, second.1 ∙ first.1, second.2 ∙ first.2);
}

-- a put of a sink that wasn't stopped
pub tells-put : {stopped : Bool} {taken_old taken_new : Option (List ℕ)} {faults_old faults_new : ℕ} {text : List ℕ}
    → Puts (outcome stopped) taken_old taken_new faults_old faults_new text → Tells false stopped taken_old taken_new faults_old faults_new text
tells-put one = record { going = λ is. one; stopped = λ is. absurd (false≢true is) }

-- nothing is put to one that was
pub tells-stopped : (taken : Option (List ℕ)) (faults : ℕ) (text : List ℕ) → Tells true true taken taken faults faults text
tells-stopped taken faults text = record { going = λ is. absurd (false≢true (sym is)); stopped = λ is. (refl, refl, refl) }

-- ---- bytes that are compared

-- bytes of which nothing more was compared begin with nothing
pub compares-nothing : (differs : Bool) (left : List ℕ) → Compares differs differs left left []
compares-nothing differs left = record { same = λ is. (is, refl); other = λ is also. absurd (false≢true (sym is ∙ also)) }

-- what doesn't begin with the first text doesn't begin with both; nor what goes on behind the first with another than the second
other-then : (between : Bool) {old new : Bool} {left_old left_between left_new first second : List ℕ}
    → Compares old between left_old left_between first → Compares between new left_between left_new second
    → old ≡ false → new ≡ true → (rest : List ℕ) → ¬ (left_old ≡ (first ++ second) ++ rest)
other-then true {first = first} {second = second} one two is also rest whole =
    one.other is refl (second ++ rest) (whole ∙ append_assoc first second rest)
other-then false {left_between = left_between} {first = first} {second = second} one two is also rest whole =
    two.other refl also rest
    (append_cancel_left first left_between (second ++ rest) (sym (one.same refl).1 ∙ whole ∙ append_assoc first second rest))

-- bytes that were compared with a first part and then with a second were compared with both
pub compares-then : {old between new : Bool} {left_old left_between left_new first second : List ℕ}
    → Compares old between left_old left_between first → Compares between new left_between left_new second
    → Compares old new left_old left_new (first ++ second)
compares-then {between = between} {left_new = left_new} {first = first} {second = second} one two = record {
  same = λ is.
      let behind = two.same is in
      let before = one.same behind.0 in
      (before.0, before.1 ∙ ap (λ left. first ++ left) behind.1 ∙ sym (append_assoc first second left_new));
  other = λ is also. other-then between one two is also;
}
