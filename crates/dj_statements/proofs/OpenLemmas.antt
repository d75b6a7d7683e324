-- What pushes and pops make of what is open, seen plainly.
use Rattle.std.proofs.Common.{◌≡◌, Bool, true, false, not, List, [], ◌∷◌, ◌++◌, map, refl, sym, ap, ◌∙◌}
use Rattle.std.specs.Prelude.{Option, Some, None, option_map, is_some, is_none, IsTrue, ◌↔◌, ◌&&◌}
use Rattle.std.proofs.lemmas.List.{reverse-append, map_push}
use Rattle.dj_syntax.specs.declared.statement.Catch.{Catch as code_catch}
use Rattle.dj_syntax.specs.declared.statement.Stm.{Stm as code_stm}
use Rattle.dj_syntax.specs.Trees.{Catch, AndCatch, catches_of, view_catch, view_catches, view_stm}
use Rattle.dj_grammar.specs.Braces.{with_catch}
use Rattle.dj_grammar.specs.LastStatements.{are_none, is_none_read}
use Rattle.dj_statements.specs.declared.frames.Frame.{Frame as code_frame}
use Rattle.dj_statements.specs.declared.frames.Last.{Last as code_last}
use Rattle.dj_statements.specs.declared.frames.Listed.{Listed as code_listed}
use Rattle.dj_statements.specs.OpenViews.{view_frame, view_last, view_listed, view_outer}

-- the braces that are open, with one more, which is the innermost
pub outer_more : (outer : List code_frame) (frame : code_frame) → view_outer (outer ++ frame ∷ []) ≡ view_frame frame ∷ view_outer outer
outer_more outer frame = ap (map view_frame) (reverse-append outer (frame ∷ []))

-- the braces that are open, of which the innermost was taken away
pub outer_less : (outer rest : List code_frame) (frame : code_frame) → outer ≡ rest ++ frame ∷ [] → view_frame frame ∷ view_outer rest ≡ view_outer outer
outer_less outer rest frame is = sym (ap view_outer is ∙ outer_more rest frame)

-- catch clauses of a list, and one more
catches_push : (list : List Catch) (catch : Catch) → catches_of (list ++ catch ∷ []) ≡ with_catch (catches_of list) catch
catches_push [] catch = refl
catches_push (first ∷ rest) catch = ap (AndCatch first.0 first.1 first.2) (catches_push rest catch)

-- the same, of the code
pub catches_more : (list : List code_catch) (catch : code_catch) → view_catches (list ++ catch ∷ []) ≡ with_catch (view_catches list) (view_catch catch)
catches_more list catch = ap catches_of (map_push view_catch list catch) ∙ catches_push (map view_catch list) (view_catch catch)

no_last : (last : Option code_last) → is_some last ≡ false → is_none (option_map view_last last) ≡ true
no_last None some = refl
no_last (Some last) some = cc

no_before : (before : List code_stm) (empty : Bool) → (IsTrue empty ↔ (before ≡ [])) → empty ≡ are_none (map view_stm before)
no_before [] empty same = same.1 refl
no_before (first ∷ rest) true same = let none : first ∷ rest ≡ [] = same.0 refl in cc
no_before (first ∷ rest) false same = refl

-- whether no statement is read, where the last one isn't kept apart
pub none_read : (list : code_listed) (none empty : Bool) → is_some list.last ≡ not none → none ≡ true → (IsTrue empty ↔ (list.before ≡ [])) → empty ≡ is_none_read (view_listed list)
none_read list none empty some is same =
    no_before list.before empty same ∙ sym (ap (λ b. b && are_none (map view_stm list.before)) (no_last list.last (some ∙ ap not is)))
