-- How a reader's stop in what is left is its stop in the whole.
use Rattle.std.proofs.Common.{◌≡◌, ℕ, List, [], ◌∷◌, ◌++◌, refl, sym, ap, subst, ◌∙◌}
use Rattle.std.proofs.lemmas.List.{append_assoc}
use Rattle.dj_names.specs.Reading.{Begins, IsStuck, StopsIn}

-- nothing was read, and the next unit begins nothing
pub stops_here : (L : List ℕ → Type 0) (units : List ℕ) → Begins L [] → ¬ L [] → IsStuck L [] units → StopsIn L units units
stops_here L units begins unfinished stuck = record { front = []; split = refl; begins = begins; stuck = stuck; unfinished = unfinished }

stuck_after : (L M : List ℕ → Type 0) (front read left : List ℕ) → ((u : List ℕ) → L (front ++ u) → M u) → IsStuck M read left → IsStuck L (front ++ read) left
stuck_after L M front read [] out h = tt
stuck_after L M front read (unit ∷ left) out h =
    λ b. h (record {
      rest = b.rest;
      whole = out ((read ++ unit ∷ []) ++ b.rest) (subst L (ap (λ u. u ++ b.rest) (append_assoc front read (unit ∷ [])) ∙ append_assoc front (read ++ unit ∷ []) b.rest) b.whole);
    })

-- after a front that leaves the language M of L, a stop in M is one in L
pub stops_after : (L M : List ℕ → Type 0) (front units left : List ℕ) → ((u : List ℕ) → M u → L (front ++ u)) → ((u : List ℕ) → L (front ++ u) → M u) → StopsIn M units left → StopsIn L (front ++ units) left
stops_after L M front units left into out s = record {
  front = front ++ s.front;
  split = append_assoc front s.front left ∙ ap (λ u. front ++ u) s.split;
  begins = record { rest = s.begins.rest; whole = subst L (sym (append_assoc front s.front s.begins.rest)) (into (s.front ++ s.begins.rest) s.begins.whole) };
  stuck = stuck_after L M front s.front left out s.stuck;
  unfinished = λ is. s.unfinished (out s.front is);
}

stuck_wider : (L A : List ℕ → Type 0) (front left units : List ℕ) → front ++ left ≡ units → ((first : ℕ) (rest u : List ℕ) → units ≡ first ∷ rest → L (first ∷ u) → A (first ∷ u)) → IsStuck A front left → IsStuck L front left
stuck_wider L A front [] units split narrow h = tt
stuck_wider L A [] (unit ∷ left) units split narrow h =
    λ b. h (record { rest = b.rest; whole = narrow unit left b.rest (sym split) b.whole })
stuck_wider L A (x ∷ front) (unit ∷ left) units split narrow h =
    λ b. h (record { rest = b.rest; whole = narrow x (front ++ unit ∷ left) ((front ++ unit ∷ []) ++ b.rest) (sym split) b.whole })

unfinished_wider : (L A : List ℕ → Type 0) (front left units : List ℕ) → front ++ left ≡ units → ¬ L [] → ((first : ℕ) (rest u : List ℕ) → units ≡ first ∷ rest → L (first ∷ u) → A (first ∷ u)) → ¬ A front → ¬ L front
unfinished_wider L A [] left units split empty narrow h = empty
unfinished_wider L A (x ∷ front) left units split empty narrow h = λ is. h (narrow x (front ++ left) front (sym split) is)

-- a stop in a language that is, after the first unit at hand, all of a wider one
pub stops_wider : (L A : List ℕ → Type 0) (units left : List ℕ) → ((u : List ℕ) → A u → L u) → ¬ L [] → ((first : ℕ) (rest u : List ℕ) → units ≡ first ∷ rest → L (first ∷ u) → A (first ∷ u)) → StopsIn A units left → StopsIn L units left
stops_wider L A units left widen empty narrow s = record {
  front = s.front;
  split = s.split;
  begins = record { rest = s.begins.rest; whole = widen (s.front ++ s.begins.rest) s.begins.whole };
  stuck = stuck_wider L A s.front left units s.split narrow s.stuck;
  unfinished = unfinished_wider L A s.front left units s.split empty narrow s.unfinished;
}
