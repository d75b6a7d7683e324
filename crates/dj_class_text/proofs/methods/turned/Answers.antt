use Rattle.std.proofs.Common.{◌≡◌, List, ◌∷◌, [], ◌++◌, append_assoc, sym, ap, ◌∙◌}
use Rattle.std.specs.Prelude.{reverse}
use Rattle.std.proofs.lemmas.List.{reverse-append}
use Rattle.dj_syntax.specs.declared.unit.MethodText.{MethodText}
use Rattle.dj_class_text.proofs.methods.turned.Goals as goal

pub loop-text-preserved : goal.loop-text-preserved
loop-text-preserved c =
    let turned = c.loop-text.turned in
    let rest = c.pop.new.self in
    let text = c.in-Some.text in
    let taken : c.loop-text.texts ≡ rest ++ text ∷ [] = rw c.in-Some.is at c.pop.ensures in
    ap (λ (xs : List MethodText). xs ++ reverse rest) c.in_ok-push.ensures.ok ∙ append_assoc turned (text ∷ []) (reverse rest)
    ∙ ap (λ (xs : List MethodText). turned ++ xs) (sym (reverse-append rest (text ∷ [])) ∙ ap reverse (sym taken)) ∙ c.loop-text.invariant
