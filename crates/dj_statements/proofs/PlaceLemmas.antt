-- What is read of the next statement, with what is open around it.
use Rattle.std.proofs.Common.{◌≡◌, ℕ, ℤ, Bool, true, false, List, ◌∷◌, reverse, refl, sym, ap, ◌∙◌}
use Rattle.std.specs.Prelude.{Option, Some, None, option_map}
use Rattle.dj_syntax.specs.Trees.{Exp, Stm, Group, view_stm}
use Rattle.dj_grammar.specs.Open.{Kind, InSwitch, Frame, Listed, Clause, no_statements}
use Rattle.dj_grammar.specs.Blocks.{Blocks, ready}
use Rattle.dj_grammar.specs.LastStatements.{goes_on, last_goes_on, is_none_read, label_kind, label_switch}
use Rattle.dj_statements.specs.declared.frames.Last.{Last as code_last}
use Rattle.dj_statements.specs.OpenViews.{Rest, brace, gone_on, labelled, only_before, put, view_last}

on : (blocks : Blocks) (labels : List ℕ) (clause : Option Clause) → put blocks.outer (only_before blocks.list.before) (gone_on clause labels) ≡ goes_on blocks labels clause
on blocks labels None = refl
on blocks labels (Some clause) = refl

-- the last statement goes on, with its labels, where it may
pub last_gone_on : (outer : List Frame) (before : List Stm) (parts : Stm → Option Clause) (last behind : Option code_last) (one : code_last) (place rest : Rest)
    → last ≡ Some one → behind ≡ None → place ≡ gone_on (parts (view_stm one.statement)) (reverse one.labels)
    → put outer (record { before = before; last = option_map view_last behind }) place ≡ last_goes_on (put outer (record { before = before; last = option_map view_last last }) rest) parts (option_map view_last last)
last_gone_on outer before parts last behind one place rest is none read =
    let blocks : Blocks = put outer (record { before = before; last = option_map view_last last }) rest in
    ap (λ l. put outer (record { before = before; last = option_map view_last l }) place) none
    ∙ ap (put outer (only_before before)) read
    ∙ on blocks (reverse one.labels) (parts (view_stm one.statement))
    ∙ sym (ap (λ l. last_goes_on blocks parts (option_map view_last l)) is)

with_label : (blocks : Blocks) (frame : Frame) (outer : List Frame) (label : Option ℤ) (value : Exp) (groups : List Group) (labels : List (Option ℤ)) (none : Bool)
    → ready (brace (labelled value groups labels label blocks.list none) frame.labels frame.before ∷ outer) no_statements ≡ label_switch blocks frame outer label value groups labels none
with_label blocks frame outer label value groups labels true = refl
with_label blocks frame outer label value groups labels false = refl

-- a label more of a switch, which stays open
pub switch_labelled : (blocks : Blocks) (frame : Frame) (outer : List Frame) (label : Option ℤ) (kind made : Kind) (value : Exp) (groups : List Group) (labels : List (Option ℤ)) (around : List Frame) (list : Listed)
    → kind ≡ InSwitch value groups labels → made ≡ labelled value groups labels label blocks.list (is_none_read blocks.list) → around ≡ outer → list ≡ no_statements
    → ready (brace made frame.labels frame.before ∷ around) list ≡ label_kind blocks frame outer label kind
switch_labelled blocks frame outer label kind made value groups labels around list is more same none =
    let again : Kind = labelled value groups labels label blocks.list (is_none_read blocks.list) in
    ap (λ k. ready (brace k frame.labels frame.before ∷ around) list) more
    ∙ ap (λ o. ready (brace again frame.labels frame.before ∷ o) list) same
    ∙ ap (ready (brace again frame.labels frame.before ∷ outer)) none
    ∙ with_label blocks frame outer label value groups labels (is_none_read blocks.list)
    ∙ sym (ap (label_kind blocks frame outer label) is)
