-- Operands taken from a stack, in the order in which they were pushed.
use Rattle.std.proofs.Common.{◌≡◌, ℕ, zero, suc, ◌<◌, List, [], ◌∷◌, ◌++◌, length, refl, sym, ap, ◌∙◌, arith}
use Rattle.std.proofs.lemmas.List.{append-nil}
use Rattle.dj_values.specs.declared.value.Value as code_value
use Rattle.dj_values.specs.Values.{Value}
use Rattle.dj_values.specs.Views.{view_value, view_values}
use Rattle.dj_values.specs.Outcomes.{Stuck, Reply, Halts}
use Rattle.dj_bytecode.specs.Machine.{taken}
use Rattle.dj_operands.specs.Stacks.{top_down}
use Rattle.dj_operands.proofs.StackLemmas.{length-top_down}

-- values put in front of others one after another
abbrev onto : List Value → List Value → List Value
onto [] values = values
onto (top ∷ tops) values = onto tops (top ∷ values)

taken_tops : {A : Type 0} (tops below values : List Value) (next : List Value → List Value → Reply A) → taken (length tops) values (tops ++ below) next ≡ next (onto tops values) below
taken_tops [] below values next = refl
taken_tops (top ∷ tops) below values next = taken_tops tops below (top ∷ values) next

onto-append : (first second values : List Value) → onto (first ++ second) values ≡ onto second (onto first values)
onto-append [] second values = refl
onto-append (top ∷ first) second values = onto-append first second (top ∷ values)

onto_top_down : (operands : List code_value.Value) (values : List Value) → onto (top_down operands) values ≡ view_values operands ++ values
onto_top_down [] values = refl
onto_top_down (value ∷ rest) values = onto-append (top_down rest) (view_value value ∷ []) values ∙ ap (λ list. view_value value ∷ list) (onto_top_down rest values)

pub taken_all : {A : Type 0} (count : ℕ) (operands : List code_value.Value) (stack below : List Value) (next : List Value → List Value → Reply A) → stack ≡ top_down operands ++ below → length operands ≡ count
    → taken count [] stack next ≡ next (view_values operands) below
taken_all count operands stack below next is as_many =
    let counted : count ≡ length (top_down operands) = sym (length-top_down operands ∙ as_many) in
    ap (λ list. taken count [] list next) is ∙ ap (λ number. taken number [] (top_down operands ++ below) next) counted
    ∙ taken_tops (top_down operands) below [] next ∙ ap (λ list. next list below) (onto_top_down operands [] ∙ append-nil (view_values operands))

pub taken_short : {A : Type 0} (count : ℕ) (values stack : List Value) (next : List Value → List Value → Reply A) → length stack < count → taken count values stack next ≡ Halts Stuck
taken_short zero values stack next short = absurd (omega arith)
taken_short (suc count) values [] next short = refl
taken_short (suc count) values (top ∷ below) next short = taken_short count (top ∷ values) below next (omega arith)
