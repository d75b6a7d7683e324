-- Pieces put one after another are put as one.
use Rattle.std.proofs.Common.{◌≡◌, ℕ, ◌+◌, ◌≤◌, List, [], ◌++◌, length, take, drop, take-append-drop, Option, Some, None, Result, Ok, Err, refl, sym, ap, ◌∙◌, subst, append_assoc, append-nil, arith, inl, inr}
use Rattle.std.specs.Io.KnownBytes.{append_known}
use Rattle.std.proofs.Math.Seq.{take-append-add}
use lib.Seq.{take-append_seam}
use Rattle.dj_outer.specs.declared.files.Failed.{Failed}
use Rattle.dj_outer.specs.Count.{Rose}
use Rattle.dj_outer.specs.Sink.{TakesPrefix, Puts}

-- ---- what is taken

-- nothing is taken
pub known-nothing : (old : Option (List ℕ)) → old ≡ append_known old []
known-nothing None = refl
known-nothing (Some bytes) = ap Some (sym (append-nil bytes))

-- one piece and then another are one piece
pub known-then : (old between new : Option (List ℕ)) (first second : List ℕ) → between ≡ append_known old first → new ≡ append_known between second → new ≡ append_known old (first ++ second)
known-then None between new first second one other = other ∙ ap (λ known. append_known known second) one
known-then (Some bytes) between new first second one other = other ∙ ap (λ known. append_known known second) one ∙ ap Some (append_assoc bytes first second)

-- a prefix of a second piece is one of both
prefix-then : (old between new : Option (List ℕ)) (first second : List ℕ) → between ≡ append_known old first → TakesPrefix between new second → TakesPrefix old new (first ++ second)
prefix-then old between new first second one prefix =
    (length first + prefix.0, known-then old between new first (take prefix.0 second) one prefix.1 ∙ ap (append_known old) (sym (take-append-add first second prefix.0)))

-- a prefix of a first piece is one of both
prefix-stop : (old new : Option (List ℕ)) (first second : List ℕ) → TakesPrefix old new first → TakesPrefix old new (first ++ second)
prefix-stop old new first second prefix =
    let taken = take prefix.0 first in
    let split : first ≡ taken ++ drop prefix.0 first = sym (take-append-drop prefix.0 first) in
    let whole : first ++ second ≡ taken ++ (drop prefix.0 first ++ second) = ap (λ piece. piece ++ second) split ∙ append_assoc taken (drop prefix.0 first) second in
    (length taken, prefix.1 ∙ ap (append_known old) (sym (ap (take (length taken)) whole ∙ take-append_seam taken (drop prefix.0 first ++ second))))

-- ---- puts

-- nothing was put
pub puts-nothing : (taken : Option (List ℕ)) (faults : ℕ) → Puts (Ok tt) taken taken faults faults []
puts-nothing taken faults = record { ok = known-nothing taken; prefix = tt; calm = refl; failed = tt; never_falls = omega arith }

-- a count that rose from a greater one rose
pub rose-from : (first old new : ℕ) → first ≤ old → Rose old new → Rose first new
rose-from first old new le (inl lt) = inl (omega arith)
rose-from first old new le (inr last) = inr last

-- a piece was put, and then another
pub puts-then : {result : Result (Unit {0}) Failed} {done : Unit {0}} {old between new : Option (List ℕ)} {before amid after : ℕ} {first second : List ℕ}
    → Puts (Ok done) old between before amid first → Puts result between new amid after second → Puts result old new before after (first ++ second)
puts-then {result = Ok other} {old = old} {between = between} {new = new} {first = first} {second = second} one two = record {
  ok = known-then old between new first second one.ok two.ok;
  prefix = tt;
  calm = two.calm ∙ one.calm;
  failed = tt;
  never_falls = omega (arith, one.never_falls, two.never_falls);
}
puts-then {result = Err fault} {old = old} {between = between} {new = new} {before = before} {amid = amid} {after = after} {first = first} {second = second} one two = record {
  ok = tt;
  prefix = prefix-then old between new first second one.ok two.prefix;
  calm = tt;
  failed = rose-from before amid after one.never_falls two.failed;
  never_falls = omega (arith, one.never_falls, two.never_falls);
}

-- a put that failed, whose fault is answered, failed for all that was to follow it
pub puts-stop : {result : Result (Unit {0}) Failed} {fault other : Failed} {old new : Option (List ℕ)} {before after : ℕ} {first : List ℕ} → result ≡ Err other → (second : List ℕ)
    → Puts (Err fault) old new before after first → Puts result old new before after (first ++ second)
puts-stop {other = other} {old = old} {new = new} {before = before} {after = after} {first = first} is second one =
    let stopped : Puts (Err other) old new before after (first ++ second) = record { ok = tt; prefix = prefix-stop old new first second one.prefix; calm = tt; failed = one.failed; never_falls = one.never_falls } in
    subst (λ result. Puts result old new before after (first ++ second)) (sym is) stopped

-- and for what was to follow that
pub puts-on : {result : Result (Unit {0}) Failed} {other : Failed} {old new : Option (List ℕ)} {before after : ℕ} {first : List ℕ} → result ≡ Err other → (second : List ℕ)
    → Puts result old new before after first → Puts result old new before after (first ++ second)
puts-on {old = old} {new = new} {before = before} {after = after} {first = first} is second one =
    puts-stop is second (subst (λ result. Puts result old new before after first) is one)

-- an equal piece
pub puts-as : {result : Result (Unit {0}) Failed} {old new : Option (List ℕ)} {before after : ℕ} {first second : List ℕ} → first ≡ second → Puts result old new before after first → Puts result old new before after second
puts-as {result = result} {old = old} {new = new} {before = before} {after = after} same one = subst (Puts result old new before after) same one
