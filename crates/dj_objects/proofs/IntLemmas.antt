-- Ints that values are, one after another.
use Rattle.std.proofs.Common.{◌≡◌, ℕ, ℤ, ◌+◌, ◌<◌, ◌≤◌, List, [], ◌∷◌, ◌++◌, length, drop, get_or, refl, sym, ap, ◌∙◌, subst}
use Rattle.std.proofs.lemmas.List.{append-nil, append_assoc, drop_more, drop_all}
use Rattle.dj_values.specs.declared.value.Value as code_value
use Rattle.dj_values.specs.declared.value.Value.TheVariants as values
use Rattle.dj_values.specs.Values.{Value, Int}
use Rattle.dj_values.specs.Views.{view_value, view_values}
use Rattle.dj_values.specs.Outcomes.{Stuck, Reply, Halts}
use Rattle.dj_meaning.specs.Objects.{with_int, with_ints}

-- the values are these ints and then the rest, whatever is made of all of them
pub record Reads (values rest : List Value) (ints : List ℤ) : Type 0 where
  pub whole : (next : List ℤ → Reply Value) → with_ints values next ≡ with_ints rest (λ numbers. next (ints ++ numbers))

pub reads_none : (values : List Value) → Reads values values []
reads_none values = record { whole = λ next. refl }

reads_int : (values rest : List Value) (ints : List ℤ) (number : ℤ) → Reads values (Int number ∷ rest) ints → Reads values rest (ints ++ number ∷ [])
reads_int values rest ints number reads = record { whole = λ next. reads.whole next ∙ ap (with_ints rest) (λ i numbers. next (sym (append_assoc ints (number ∷ []) numbers) i)) }

values_here : (list : List code_value.Value) (k : ℕ) (value : code_value.Value) → k < length list → value ≡ get_or list k value → view_values (drop k list) ≡ view_value value ∷ view_values (drop (k + 1) list)
values_here list k value within is = ap view_values (drop_more list k value within) ∙ ap (λ one. view_value one ∷ view_values (drop (k + 1) list)) (sym is)

-- one int more
pub reads_more : (list : List code_value.Value) (k : ℕ) (value : code_value.Value) (number : ℤ) (ints more : List ℤ) → k < length list → value ≡ get_or list k value → value ≡ values.Int number → more ≡ ints ++ number ∷ []
    → Reads (view_values list) (view_values (drop k list)) ints → Reads (view_values list) (view_values (drop (k + 1) list)) more
reads_more list k value number ints more within is int pushed reads =
    let rest = view_values (drop (k + 1) list) in
    subst (λ all. Reads (view_values list) rest all) (sym pushed)
    (reads_int (view_values list) rest ints number (subst (λ left. Reads (view_values list) left ints) (values_here list k value within is ∙ ap (λ one. view_value one ∷ rest) int) reads))

not_int : (value : code_value.Value) (next : ℤ → Reply Value) → ((number : ℤ) → value ≡ values.Int number → ⊥) → with_int (view_value value) next ≡ Halts Stuck
not_int (values.Int number) next other = absurd (other number refl)
not_int (values.Long number) next other = refl
not_int values.Null next other = refl
not_int (values.Ref reference) next other = refl

-- a value that is none
pub reads_no_int : (list : List code_value.Value) (k : ℕ) (value : code_value.Value) (ints : List ℤ) (next : List ℤ → Reply Value) → k < length list → value ≡ get_or list k value → ((number : ℤ) → value ≡ values.Int number → ⊥)
    → Reads (view_values list) (view_values (drop k list)) ints → with_ints (view_values list) next ≡ Halts Stuck
reads_no_int list k value ints next within is other reads =
    reads.whole next ∙ ap (λ left. with_ints left (λ numbers. next (ints ++ numbers))) (values_here list k value within is) ∙ not_int value _ other

-- the end
pub reads_all : (list : List code_value.Value) (k : ℕ) (ints : List ℤ) (next : List ℤ → Reply Value) → length list ≤ k → Reads (view_values list) (view_values (drop k list)) ints → with_ints (view_values list) next ≡ next ints
reads_all list k ints next past reads =
    reads.whole next ∙ ap (λ left. with_ints (view_values left) (λ numbers. next (ints ++ numbers))) (drop_all k list past) ∙ ap next (append-nil ints)
