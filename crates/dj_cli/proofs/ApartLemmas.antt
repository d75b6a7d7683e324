-- The methods of a class that are printed with a body may stand in its text.
use Rattle.std.proofs.Common.{◌≡◌, ℕ, ◌+◌, List, [], ◌∷◌, ◌++◌, Option, Some, None, IfSome, length, slice_get, refl, sym, subst, inl, inr, ◌∙◌, append_assoc}
use Rattle.std.specs.Prelude.{IsSomeAnd}
use Rattle.std.proofs.lemmas.List.{length-append}
use Rattle.dj_class.specs.Described.{ClassOf, MethodOf}
use Rattle.dj_world.specs.Worlds.{WorldOf}
use Rattle.dj_syntax.specs.Trees.{Body}
use Rattle.dj_signatures.specs.Signatures.{BreaksSignature}
use Rattle.dj_signatures.proofs.CountingLemmas.{counted}
use Rattle.dj_class_text.proofs.ApartLemmas.{BodiesLead, MayStand}
use Rattle.dj_cli.specs.Output.{Verdict, Prints, Bare, Refused, Bad, Unverified, NotYet, PrintsMethod, IsVerdict, AreVerdicts, body_of, bodies_of}

here-at : {A : Type 0} (xs ys : List A) (x : A) → slice_get (xs ++ x ∷ ys) (length xs) ≡ Some x
here-at [] ys x = refl
here-at (y ∷ xs) ys x = here-at xs ys x

module _ (world : WorldOf) (class : ClassOf) where
  print-stands : (before rest : List MethodOf) (method : MethodOf) (body : Body) → before ++ method ∷ rest ≡ class.methods → PrintsMethod world class before method body → MayStand class.methods (length before) method
  print-stands before rest method body all prints =
      counted (λ uncounted. prints.free.early.members.signature (subst (λ (found : Option MethodOf). IsSomeAnd found (BreaksSignature class (length before)))
      (sym (subst (λ (methods : List MethodOf). slice_get methods (length before) ≡ Some method) all (here-at before rest method))) (inr (inl uncounted))))

  printed-leads : (before rest : List MethodOf) (method : MethodOf) (verdict : Verdict) → before ++ method ∷ rest ≡ class.methods → IsVerdict world class before method verdict → IfSome (body_of verdict) (λ body. MayStand class.methods (length before) method)
  printed-leads before rest method (Prints body) all is = print-stands before rest method body all is
  printed-leads before rest method Bare all is = tt
  printed-leads before rest method (Refused cause) all is = tt
  printed-leads before rest method (Bad kind pc) all is = tt
  printed-leads before rest method (Unverified rule pc) all is = tt
  printed-leads before rest method (NotYet pc) all is = tt

  lead-first : (at : ℕ) (method : MethodOf) (methods : List MethodOf) (body : Option Body) (bodies : List (Option Body)) → IfSome body (λ one. MayStand class.methods at method) → BodiesLead class.methods (at + 1) methods bodies → BodiesLead class.methods at (method ∷ methods) (body ∷ bodies)
  lead-first at method methods None bodies lead rest = rest
  lead-first at method methods (Some body) bodies lead rest = (lead, rest)

  pub bodies_lead : (before methods : List MethodOf) (verdicts : List Verdict) → before ++ methods ≡ class.methods → AreVerdicts world class before methods verdicts → BodiesLead class.methods (length before) methods (bodies_of verdicts)
  bodies_lead before [] verdicts all each = tt
  bodies_lead before (method ∷ methods) [] all each = tt
  bodies_lead before (method ∷ methods) (verdict ∷ verdicts) all each =
      let count : length (before ++ method ∷ []) ≡ length before + 1 = length-append before (method ∷ []) in
      lead-first (length before) method methods (body_of verdict) (bodies_of verdicts) (printed-leads before methods method verdict all each.0)
      (subst (λ (at : ℕ). BodiesLead class.methods at methods (bodies_of verdicts)) count (bodies_lead (before ++ method ∷ []) methods verdicts (append_assoc before (method ∷ []) methods ∙ all) each.1))
