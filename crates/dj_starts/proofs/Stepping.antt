-- One step of the walk over code.
use Rattle.std.proofs.Common.{◌≡◌, ℕ, ◌<◌, ◌⊎◌, ◌↔◌, Bool, false, List, Option, Some, None, refl, sym, ◌∙◌, subst, inl, inr}
use Rattle.std.specs.List.{Contains, AllPairs}
use Rattle.std.proofs.lemmas.Option.{same_Some}
use Rattle.dj_starts.specs.declared.roles.Role.{Role}
use Rattle.dj_starts.specs.declared.roles.Role.TheVariants as role
use Rattle.dj_starts.specs.declared.walk.Walk.{Walk}
use Rattle.dj_starts.specs.Marks.{MarksMore}
use Rattle.dj_starts.specs.Walking.{IsCut, IsEnd, IsOver, IsStep, GoesBy, Begins, barred_from}
use Rattle.dj_starts.proofs.Marking.{none_more, said_more}

-- a birth that ends is barred from its `new` on
pub end_bars : (before here behind : Role) (ended : Option ℕ) (start : ℕ) → here ≡ role.Silent → ended ≡ Some start → barred_from before here behind ended ≡ Some start
end_bars before here behind ended start silent is = rw (silent, is) refl

-- where a birth ends, it is the one from which on all are barred
pub end_is : (before here behind : Role) (ended : Option ℕ) (low : ℕ) → IsEnd here ended → barred_from before here behind ended ≡ Some low → (here ≡ role.Silent) × (ended ≡ Some low)
end_is before role.Plain behind ended low end bars = absurd end
end_is before role.Never behind ended low end bars = absurd end
end_is before role.New behind ended low end bars = absurd end
end_is before role.Dup behind ended low end bars = absurd end
end_is before role.Silent behind None low end bars = absurd (cc)
end_is before role.Silent behind (Some start) low end bars = (refl, bars)

pub is_end : (here : Role) (ended : Option ℕ) (start : ℕ) → here ≡ role.Silent → ended ≡ Some start → IsEnd here ended
is_end here ended start silent is = rw (silent, is) refl

-- ---- over an instruction that isn't fenced

module _ (here behind : Role) (ended : Option ℕ) (old : Walk) (numbers : List ℕ) (low : ℕ) (bars : Some low ≡ barred_from old.before here behind ended) (rising : AllPairs (λ x y. x < y) numbers) (cut : IsCut old.unborn numbers low) where
  left_over : (start : ℕ) → Contains numbers start ↔ (Contains old.unborn start × GoesBy (barred_from old.before here behind ended) start)
  left_over start = subst (λ b. Contains numbers start ↔ (Contains old.unborn start × GoesBy b start)) bars (cut.left start)

  -- the one from which on all are barred
  barred_one : (start : ℕ) → here ≡ role.Silent → ended ≡ Some start → start ≡ low
  barred_one start silent is = sym (same_Some low start (bars ∙ end_bars old.before here behind ended start silent is))

  -- a birth that was going on ends
  pub over_end : (marks : List Bool) → Contains old.unborn low → IsEnd here ended → MarksMore old.written marks (λ other. other ≡ low) → IsOver here behind ended old (record { unborn = numbers; written = marks; before = old.before })
  over_end marks was end more =
      let is = end_is old.before here behind ended low end (sym bars) in
      record {
        before = refl;
        rising = rising;
        unborn = left_over;
        written = said_more old.written marks (λ other. other ≡ low) (λ start. (here ≡ role.Silent) × (ended ≡ Some start) × Contains old.unborn start)
            (λ start same. (is.0, subst (λ n. ended ≡ Some n) (sym same) is.1, subst (λ n. Contains old.unborn n) (sym same) was))
            (λ start asked. barred_one start asked.0 asked.1) more;
      }

  -- none ends
  pub over_cut : ((start : ℕ) → start ≡ low → here ≡ role.Silent → ended ≡ Some start → Contains old.unborn start → ⊥) → IsOver here behind ended old (record { unborn = numbers; written = old.written; before = old.before })
  over_cut none = record {
    before = refl;
    rising = rising;
    unborn = left_over;
    written = none_more old.written (λ start. (here ≡ role.Silent) × (ended ≡ Some start) × Contains old.unborn start) (λ start within asked. none start (barred_one start asked.0 asked.1) asked.0 asked.1 asked.2);
  }

-- ---- the whole step

pub step_is : (fenced : Bool) (pc : ℕ) (here behind : Role) (ended : Option ℕ) (old : Walk) (stopped : List ℕ) (over : Walk) (unborn : List ℕ)
    → ((start : ℕ) → Contains stopped start ↔ (Contains old.unborn start × (fenced ≡ false)))
    → IsOver here behind ended (record { unborn = stopped; written = old.written; before = old.before }) over
    → AllPairs (λ x y. x < y) unborn
    → ((start : ℕ) → Contains unborn start ↔ (Contains over.unborn start ⊎ Begins here pc start))
    → IsStep fenced pc here behind ended old (record { unborn = unborn; written = over.written; before = here })
step_is fenced pc here behind ended old stopped over unborn stops passes rising begun = record {
  before = refl;
  rising = rising;
  unborn = λ start. (
    λ h. elim ((begun start).0 h) [
      | inl was ↦ let by = (passes.unborn start).0 was in let still = (stops start).0 by.0 in inl (still.0, still.1, by.1)
      | inr new ↦ inr new
    ],
    λ h. elim h [
      | inl was ↦ (begun start).1 (inl ((passes.unborn start).1 ((stops start).1 (was.0, was.1), was.2)))
      | inr new ↦ (begun start).1 (inr new)
    ],
  );
  written = said_more old.written over.written (λ start. (here ≡ role.Silent) × (ended ≡ Some start) × Contains stopped start) (λ start. (here ≡ role.Silent) × (ended ≡ Some start) × (fenced ≡ false) × Contains old.unborn start)
      (λ start asked. let still = (stops start).0 asked.2 in (asked.0, asked.1, still.1, still.0))
      (λ start asked. (asked.0, asked.1, (stops start).1 (asked.3, asked.2))) passes.written;
}
