-- What the table of the methods of ints tells, and what it holds after one more method.
use Rattle.std.proofs.Common.{◌≡◌, ℕ, Bool, true, false, cond, not, List, [], ◌∷◌, ◌++◌, length, replicate, refl, sym, ap, ◌∙◌, subst, ◌↔◌, ◌⊎◌, inl, inr, IsTrue, Bor}
use Rattle.std.specs.Prelude.{MatchBool}
use Rattle.std.specs.declared.cmp.Ordering.{Ordering}
use Rattle.std.specs.declared.cmp.Ordering.TheVariants.{Less, Equal, Greater}
use Rattle.std.specs.Ordering.{nat_cmp, ordering_reverse}
use Rattle.std.specs.Cmp.{Equal-is, IsTotalOrder}
use Rattle.std.specs.Cmp.Lexicographic.{slice_cmp}
use Rattle.std.specs.BTreeMap.{is_at}
use Rattle.std.specs.BTreeSet.{contains}
use Rattle.std.proofs.lemmas.Cmp.{nat_cmp_total, nat_list_cmp_total}
use Rattle.std.proofs.lemmas.Map.Lookups.{exact_unsigned, exact_bytes, exact_pairs}
use Rattle.std.proofs.lemmas.List.{length-replicate}
use Rattle.std.proofs.lemmas.List.Elements.{Contains-append_left, Contains-push, Contains-push_cases}
use Rattle.dj_names.specs.Types.{JType, Int}
use Rattle.dj_class.specs.Described.{MethodOf}
use Rattle.dj_straight.specs.declared.declared.Declared.{Declared}
use Rattle.dj_straight.specs.StraightMethod.{HasSignature, IsDeclared}
use Rattle.dj_straight.specs.DeclaredMethods.{entry_cmp, Holds}

-- ---- the keys of the table

self_equal : {K : Type 0} (cmp : K → K → Ordering) → IsTotalOrder cmp → (key : K) → cmp key key ≡ Equal
self_equal cmp total key = reversed (cmp key key) (total.antisymm key key)
  where
    reversed : (order : Ordering) → order ≡ ordering_reverse order → order ≡ Equal
    reversed Less same = absurd cc
    reversed Equal same = refl
    reversed Greater same = absurd cc

-- entries that compare as equal have one number and one name
one_entry : (first second : ℕ × Bor (List ℕ)) → is_at (entry_cmp first) second ≡ true → (first.0 ≡ second.0) × (first.1.now ≡ second.1.now)
one_entry first second at =
    let pair : ℕ × List ℕ = (first.0, first.1.now) in
    let other : ℕ × List ℕ = (second.0, second.1.now) in
    let same : pair ≡ other = exact_pairs nat_cmp (slice_cmp nat_cmp) exact_unsigned exact_bytes pair other ((Equal-is (entry_cmp first second)).0 at) in
    (ap (λ p. p.0) same, ap (λ p. p.1) same)

-- and the other way round
same_entry : (first second : ℕ × Bor (List ℕ)) → first.0 ≡ second.0 → first.1.now ≡ second.1.now → is_at (entry_cmp first) second ≡ true
same_entry first second number name =
    (Equal-is (entry_cmp first second)).1
    (rw (number, name, self_equal nat_cmp nat_cmp_total second.0) (self_equal (slice_cmp nat_cmp) nat_list_cmp_total second.1.now))

-- ---- the methods so far

-- as many ints are as many
pub same_count : (first second : ℕ) → replicate {A = JType} first Int ≡ replicate second Int → first ≡ second
same_count first second same = sym (length-replicate first Int) ∙ ap length same ∙ length-replicate second Int

-- what is declared stays declared
declared_before : (methods : List MethodOf) (method : MethodOf) (name : List ℕ) (parameters : List JType) → IsDeclared methods name parameters → IsDeclared (methods ++ method ∷ []) name parameters
declared_before methods method name parameters (place, one, inside, at, has) =
    let there = Contains-append_left methods (method ∷ []) one (place, inside, at) in
    (there.0, one, there.1, there.2, has)

-- one more method is declared
declared_last : (methods : List MethodOf) (method : MethodOf) (name : List ℕ) (parameters : List JType) → HasSignature name parameters method → IsDeclared (methods ++ method ∷ []) name parameters
declared_last methods method name parameters has =
    let there = Contains-push methods method in
    (there.0, method, there.1, there.2, has)

-- a method declared with one more is that one or was declared before
declared_cases : (methods : List MethodOf) (method : MethodOf) (name : List ℕ) (parameters : List JType) → IsDeclared (methods ++ method ∷ []) name parameters → IsDeclared methods name parameters ⊎ HasSignature name parameters method
declared_cases methods method name parameters (place, one, inside, at, has) =
    elim (Contains-push_cases methods method one (place, inside, at)) [
      | inl there ↦ inl (there.0, one, there.1, there.2, has)
      | inr same ↦ inr (subst (HasSignature name parameters) (sym same) has)
    ]

-- ---- the table

-- what adding an entry tells
pub first_tells : (declared : Declared) (before : List MethodOf) (ints : ℕ) (name : Bor (List ℕ)) (first : Bool) → Holds declared before → first ≡ not (contains entry_cmp declared.entries (ints, name))
    → MatchBool first (¬ IsDeclared before name.now (replicate ints Int)) (IsDeclared before name.now (replicate ints Int))
first_tells declared before ints name first holds is = rw is (tells (contains entry_cmp declared.entries (ints, name)) (holds ints name))
  where
    tells : (there : Bool) → IsTrue there ↔ IsDeclared before name.now (replicate ints Int) → MatchBool (not there) (¬ IsDeclared before name.now (replicate ints Int)) (IsDeclared before name.now (replicate ints Int))
    tells true same = same.0 refl
    tells false same = λ is_declared. absurd (cc (same.1 is_declared))

-- a table with one more entry holds one more method
pub holds_more : (old new : Declared) (before : List MethodOf) (method : MethodOf) (ints : ℕ) (name : Bor (List ℕ)) → Holds old before → HasSignature name.now (replicate ints Int) method
    → ((entry : ℕ × Bor (List ℕ)) → contains entry_cmp new.entries entry ≡ cond (is_at (entry_cmp (ints, name)) entry) true (contains entry_cmp old.entries entry)) → Holds new (before ++ method ∷ [])
holds_more old new before method ints name holds has more = λ count other. (to count other, from count other)
  where
    to : (count : ℕ) (other : Bor (List ℕ)) → IsTrue (contains entry_cmp new.entries (count, other)) → IsDeclared (before ++ method ∷ []) other.now (replicate count Int)
    to count other there = go (is_at (entry_cmp (ints, name)) (count, other)) refl (sym (more (count, other)) ∙ there)
      where
        go : (here : Bool) → is_at (entry_cmp (ints, name)) (count, other) ≡ here → cond here true (contains entry_cmp old.entries (count, other)) ≡ true → IsDeclared (before ++ method ∷ []) other.now (replicate count Int)
        go true is holds_there =
            let same = one_entry (ints, name) (count, other) is in
            declared_last before method other.now (replicate count Int) (record { same_name = has.same_name ∙ same.1; same_parameters = has.same_parameters ∙ ap (λ n. replicate n Int) same.0 })
        go false is holds_there =
            declared_before before method other.now (replicate count Int) ((holds count other).0 holds_there)

    from : (count : ℕ) (other : Bor (List ℕ)) → IsDeclared (before ++ method ∷ []) other.now (replicate count Int) → IsTrue (contains entry_cmp new.entries (count, other))
    from count other is_declared =
        elim (declared_cases before method other.now (replicate count Int) is_declared) [
          | inl earlier ↦ more (count, other) ∙ either (is_at (entry_cmp (ints, name)) (count, other)) ((holds count other).1 earlier)
          | inr this ↦
              let number = same_count ints count (sym has.same_parameters ∙ this.same_parameters) in
              let same = same_entry (ints, name) (count, other) number (sym has.same_name ∙ this.same_name) in
              more (count, other) ∙ ap (λ here. cond here true (contains entry_cmp old.entries (count, other))) same
        ]
      where
        either : (here : Bool) → IsTrue (contains entry_cmp old.entries (count, other)) → cond here true (contains entry_cmp old.entries (count, other)) ≡ true
        either true there = refl
        either false there = there
