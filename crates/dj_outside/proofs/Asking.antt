-- The next answer, and whether it is one that the action can have.
use Rattle.std.proofs.Common.{arith, ◌≡◌, ◌↔◌, Bool, true, false, IsTrue, ◌≤◌, ◌-◌, List, [], ◌∷◌, length, map, take, drop, slice_index_or, sym, ap, ◌∙◌}
use Rattle.std.proofs.Math.Seq.{take-length}
use Rattle.std.proofs.lemmas.Bool.{false≢true}
use Rattle.dj_names.specs.declared.header.Header.{Header}
use Rattle.dj_values.specs.Values.{Action, Answer}
use Rattle.dj_values.specs.Answers.{FitsAction}
use Rattle.dj_values.specs.Deciding.{is_answer}
use Rattle.dj_values.specs.Views.{view_answer}
use Rattle.dj_values.specs.declared.answer.Answer as code_answer
use Rattle.dj_values.proofs.Deciding.{Decides-answer}

same_head : (first other : Answer) (rest more : List Answer) → first ∷ rest ≡ other ∷ more → first ≡ other
same_head first other rest more same = ap (λ answers. slice_index_or answers 0 first) same

-- answers of which one is left begin with it
pub headed : (answers : List code_answer.Answer) (first : code_answer.Answer) → 1 ≤ length answers → first ≡ slice_index_or answers 0 first
    → map view_answer answers ≡ view_answer first ∷ map view_answer (take (length answers - 1) (drop 1 answers))
headed [] first some is = elim some [ ]
headed (answer ∷ rest) first some is = ap (λ it. view_answer it ∷ map view_answer rest) (sym is) ∙ ap (λ list. view_answer first ∷ map view_answer list) (sym (ap (λ count. take count rest) less ∙ take-length rest))
  where
    less : length (answer ∷ rest) - 1 ≡ length rest
    less = omega arith

-- an answer that a test takes, and one that it refuses
pub taken : (headers : List Header) (action : Action) (answer : Answer) (test : Bool) → (IsTrue test ↔ FitsAction headers action answer) → test ≡ true → is_answer headers action answer ≡ true
taken headers action answer test fits is = (Decides-answer headers action answer).1 (fits.0 is)

pub refused : (headers : List Header) (action : Action) (answers : List Answer) (first : Answer) (rest : List Answer) (test : Bool) → (IsTrue test ↔ FitsAction headers action first) → test ≡ false → answers ≡ first ∷ rest → (other : Answer) (more : List Answer)
    → answers ≡ other ∷ more → is_answer headers action other ≡ true → ⊥
refused headers action answers first rest test fits is same other more as_well taken_too = false≢true (sym is ∙ fits.1 ((Decides-answer headers action first).0 (ap (is_answer headers action) (same_head first other rest more (sym same ∙ as_well)) ∙ taken_too)))
