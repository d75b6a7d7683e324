-- What is open, seen plainly, as something is put on it or taken away.
use Rattle.std.proofs.Common.{◌≡◌, ℕ, ◌<◌, Bool, true, false, Option, Some, None, Result, Ok, Err, List, [], ◌∷◌, ◌++◌, length, map, refl, ap, sym, ◌∙◌, arith, length-append}
use Rattle.std.specs.Prelude.{if◌then◌else◌, option_map, MatchResult}
use Rattle.std.specs.Result.{result_ok, result_err}
use Rattle.std.proofs.lemmas.Bool.{false≢true}
use Rattle.std.proofs.lemmas.List.{reverse-append}
use Rattle.dj_syntax.specs.Trees.{Exp}
use Rattle.dj_expressions.specs.declared.frames.Pending as code_pending
use Rattle.dj_expressions.specs.declared.frames.Pending.TheVariants as pendings
use Rattle.dj_expressions.specs.declared.frames.Joint as code_joint
use Rattle.dj_expressions.specs.declared.frames.Opener as code_opener
use Rattle.dj_grammar.specs.Frames.{Joins, Opens, collapsed, joined, opened, waiting, creating, is_creation, testing, type_tested}
use Rattle.dj_grammar.specs.Brackets.{enclosing, is_parenthesis}
use Rattle.dj_grammar.specs.Steps.{labels_in, starting}
use Rattle.dj_expressions.specs.Views.{view_pending, view_open, view_joint, view_opener}

-- something more is open: it is the innermost
pub view_open-push : (pending : List code_pending.Pending) (frame : code_pending.Pending) → view_open (pending ++ frame ∷ []) ≡ view_pending frame ∷ view_open pending
view_open-push pending frame = ap (map view_pending) (reverse-append pending (frame ∷ []))

-- the same, where the list that has it goes by another name
pub seen_more : (pending pushed : List code_pending.Pending) (frame : code_pending.Pending) → pushed ≡ pending ++ frame ∷ [] → view_open pushed ≡ view_pending frame ∷ view_open pending
seen_more pending pushed frame is = ap view_open is ∙ view_open-push pending frame

-- the innermost waits
pub seen_joins : (pending outer : List code_pending.Pending) (frame : code_pending.Pending) (joint : code_joint.Joint) → pending ≡ outer ++ frame ∷ [] → frame ≡ pendings.Joins joint → view_open pending ≡ Joins (view_joint joint) ∷ view_open outer
seen_joins pending outer frame joint is waits = seen_more outer pending frame is ∙ ap (λ frame. view_pending frame ∷ view_open outer) waits

-- the innermost was opened
pub seen_opens : (pending outer : List code_pending.Pending) (frame : code_pending.Pending) (opener : code_opener.Opener) → pending ≡ outer ++ frame ∷ [] → frame ≡ pendings.Opens opener → view_open pending ≡ Opens (view_opener opener) ∷ view_open outer
seen_opens pending outer frame opener is opens = seen_more outer pending frame is ∙ ap (λ frame. view_pending frame ∷ view_open outer) opens

-- fewer are open
pub fewer_open : (pending outer : List code_pending.Pending) (frame : code_pending.Pending) → pending ≡ outer ++ frame ∷ [] → length outer < length pending
fewer_open pending outer frame is = omega (arith, ap length is, length-append outer (frame ∷ []))

-- a value is joined by what waits for it
pub collapsed-joins : (value made : Exp) (pending outer : List code_pending.Pending) (frame : code_pending.Pending) (joint : code_joint.Joint) → pending ≡ outer ++ frame ∷ [] → frame ≡ pendings.Joins joint → made ≡ joined (view_joint joint) value
    → collapsed made (view_open outer) ≡ collapsed value (view_open pending)
collapsed-joins value made pending outer frame joint is waits joins =
    ap (λ value. collapsed value (view_open outer)) joins ∙ sym (ap (collapsed value) (seen_joins pending outer frame joint is waits))

-- nothing waits for a value in what was opened
pub collapsed-opened : (value : Exp) (pending outer : List code_pending.Pending) (frame : code_pending.Pending) (opener : code_opener.Opener) → pending ≡ outer ++ frame ∷ [] → frame ≡ pendings.Opens opener
    → (value, Opens (view_opener opener) ∷ view_open outer) ≡ collapsed value (view_open pending)
collapsed-opened value pending outer frame opener is opens = sym (ap (collapsed value) (seen_opens pending outer frame opener is opens))

-- nothing is open around a value
pub collapsed-alone : (value : Exp) (pending outer : List code_pending.Pending) → (pending ≡ []) × (outer ≡ []) → (value, view_open outer) ≡ collapsed value (view_open pending)
collapsed-alone value pending outer (is, none) = rw (is, none) refl

-- ---- taken away

-- what was opened is taken away
pub opened-taken : (pending outer : List code_pending.Pending) (frame : code_pending.Pending) (parts : Result code_joint.Joint code_opener.Opener) (taken : Option code_opener.Opener) → pending ≡ outer ++ frame ∷ []
    → MatchResult parts (λ joint. frame ≡ pendings.Joins joint) (λ opener. frame ≡ pendings.Opens opener) → taken ≡ result_err parts
    → option_map (λ opener. (view_opener opener, view_open outer)) taken ≡ opened (view_open pending)
opened-taken pending outer frame (Ok joint) taken is parts at = rw (at, seen_joins pending outer frame joint is parts) refl
opened-taken pending outer frame (Err opener) taken is parts at = rw (at, seen_opens pending outer frame opener is parts) refl

-- what waits is taken away
pub waiting-taken : (pending outer : List code_pending.Pending) (frame : code_pending.Pending) (parts : Result code_joint.Joint code_opener.Opener) (taken : Option code_joint.Joint) → pending ≡ outer ++ frame ∷ []
    → MatchResult parts (λ joint. frame ≡ pendings.Joins joint) (λ opener. frame ≡ pendings.Opens opener) → taken ≡ result_ok parts
    → option_map (λ joint. (view_joint joint, view_open outer)) taken ≡ waiting (view_open pending)
waiting-taken pending outer frame (Ok joint) taken is parts at = rw (at, seen_joins pending outer frame joint is parts) refl
waiting-taken pending outer frame (Err opener) taken is parts at = rw (at, seen_opens pending outer frame opener is parts) refl

-- what was put back is as it was
pub put_back : (pending outer now : List code_pending.Pending) (frame again : code_pending.Pending) (away answer : Bool) → pending ≡ outer ++ frame ∷ [] → frame ≡ again → answer ≡ away → now ≡ (if away then outer else outer ++ again ∷ [])
    → answer ≡ false → now ≡ pending
put_back pending outer now frame again true answer is same told put kept = absurd (false≢true (sym kept ∙ told))
put_back pending outer now frame again false answer is same told put kept = put ∙ sym (ap (λ frame. outer ++ frame ∷ []) same) ∙ sym is

-- a `new` is taken away, where it is one
pub creating-taken : (pending outer now : List code_pending.Pending) (frame : code_pending.Pending) (joint : code_joint.Joint) (away answer : Bool) → pending ≡ outer ++ frame ∷ [] → frame ≡ pendings.Joins joint → away ≡ is_creation (view_joint joint)
    → answer ≡ away → now ≡ (if away then outer else outer ++ pendings.Joins joint ∷ []) → creating (view_open pending) ≡ (if answer then Some (view_open now) else None)
creating-taken pending outer now frame joint true answer is waits created told put = rw (told, put, seen_joins pending outer frame joint is waits, sym created) refl
creating-taken pending outer now frame joint false answer is waits created told put = rw (told, seen_joins pending outer frame joint is waits, sym created) refl

-- a parenthesis is taken away, where it is one
pub enclosing-taken : (pending outer now : List code_pending.Pending) (frame : code_pending.Pending) (opener : code_opener.Opener) (away answer : Bool) → pending ≡ outer ++ frame ∷ [] → frame ≡ pendings.Opens opener → away ≡ is_parenthesis (view_opener opener)
    → answer ≡ away → now ≡ (if away then outer else outer ++ pendings.Opens opener ∷ []) → enclosing (view_open pending) ≡ (if answer then Some (view_open now) else None)
enclosing-taken pending outer now frame opener true answer is opens parenthesis told put = rw (told, put, seen_opens pending outer frame opener is opens, sym parenthesis) refl
enclosing-taken pending outer now frame opener false answer is opens parenthesis told put = rw (told, seen_opens pending outer frame opener is opens, sym parenthesis) refl

-- what was opened is no `new`
pub creating-kept : (pending outer now : List code_pending.Pending) (frame : code_pending.Pending) (opener : code_opener.Opener) (answer : Bool) → pending ≡ outer ++ frame ∷ [] → frame ≡ pendings.Opens opener → answer ≡ false
    → creating (view_open pending) ≡ (if answer then Some (view_open now) else None)
creating-kept pending outer now frame opener answer is opens told = rw (told, seen_opens pending outer frame opener is opens) refl

-- what waits is no parenthesis
pub enclosing-kept : (pending outer now : List code_pending.Pending) (frame : code_pending.Pending) (joint : code_joint.Joint) (answer : Bool) → pending ≡ outer ++ frame ∷ [] → frame ≡ pendings.Joins joint → answer ≡ false
    → enclosing (view_open pending) ≡ (if answer then Some (view_open now) else None)
enclosing-kept pending outer now frame joint answer is waits told = rw (told, seen_joins pending outer frame joint is waits) refl

-- ---- the beginning of a statement

-- what waits is none
pub starting-joins : (pending outer : List code_pending.Pending) (frame : code_pending.Pending) (joint : code_joint.Joint) → pending ≡ outer ++ frame ∷ [] → frame ≡ pendings.Joins joint → starting (view_open pending) ≡ None
starting-joins pending outer frame joint is waits = rw (seen_joins pending outer frame joint is waits) refl

-- what was opened is one, if it has labels
pub starting-opens : (pending outer : List code_pending.Pending) (frame : code_pending.Pending) (opener : code_opener.Opener) (labels : Option (List ℕ)) → pending ≡ outer ++ frame ∷ [] → frame ≡ pendings.Opens opener → labels_in (view_opener opener) ≡ labels
    → starting (view_open pending) ≡ option_map (λ labels. (labels, view_open outer)) labels
starting-opens pending outer frame opener labels is opens has = rw (seen_opens pending outer frame opener is opens, has) refl

-- what was put back under the same name is as it was
pub back_again : (pending outer now : List code_pending.Pending) (frame again : code_pending.Pending) → pending ≡ outer ++ frame ∷ [] → frame ≡ again → now ≡ outer ++ again ∷ [] → now ≡ pending
back_again pending outer now frame again is same back = back ∙ sym (ap (λ frame. outer ++ frame ∷ []) same) ∙ sym is

-- ---- the operand of an `instanceof`

-- what waits is one, if it tests a type
pub testing-joins : (pending outer : List code_pending.Pending) (frame : code_pending.Pending) (joint : code_joint.Joint) (operand : Option Exp) → pending ≡ outer ++ frame ∷ [] → frame ≡ pendings.Joins joint → type_tested (view_joint joint) ≡ operand
    → testing (view_open pending) ≡ option_map (λ operand. (operand, view_open outer)) operand
testing-joins pending outer frame joint operand is waits tests = rw (seen_joins pending outer frame joint is waits, tests) refl

-- what was opened is none
pub testing-opens : (pending outer : List code_pending.Pending) (frame : code_pending.Pending) (opener : code_opener.Opener) → pending ≡ outer ++ frame ∷ [] → frame ≡ pendings.Opens opener → testing (view_open pending) ≡ None
testing-opens pending outer frame opener is opens = rw (seen_opens pending outer frame opener is opens) refl
