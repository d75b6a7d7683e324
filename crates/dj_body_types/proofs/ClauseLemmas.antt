-- The heads of catch clauses, of which so many are looked at.
use Rattle.std.proofs.Common.{◌≡◌, ◌&&◌, not, ℕ, ◌+◌, ◌<◌, Bool, true, false, List, length, drop, get_or, refl, sym, ap, ◌∙◌}
use Rattle.std.specs.Prelude.{is_some}
use Rattle.dj_names.specs.declared.header.Header.{Header}
use Rattle.dj_names.specs.Types.{Class, Of}
use Rattle.dj_syntax.specs.declared.statement.Catch as code_catch
use Rattle.dj_syntax.specs.Trees.{view_catches}
use Rattle.dj_syntax.specs.WellFormedTrees.{has_no_catch}
use Rattle.dj_values.specs.Fits.{throwable_name}
use Rattle.dj_meaning.specs.Calls.{is_assignable}
use Rattle.dj_meaning.specs.StaticTypes.{Scope}
use Rattle.dj_typing.specs.Sites.{Site, may_name}
use Rattle.dj_typed.specs.Statements.{are_new_catches, are_exceptions}
use Rattle.dj_body_types.proofs.GroupLemmas.{catches_more}

none : (b : Bool) → (b && false) ≡ false
none true = refl
none false = refl

module _ (site : Site) (scope : Scope) (catches : List code_catch.Catch) (k : ℕ) (catch : code_catch.Catch) (new : Bool) (inside : k < length catches) (is : catch ≡ get_or catches k catch)
    (so : new ≡ (may_name site catch.class && not (is_some (scope catch.variable)))) where
  new_is : are_new_catches site scope (view_catches (drop k catches)) ≡ (new && are_new_catches site scope (view_catches (drop (k + 1) catches)))
  new_is = ap (are_new_catches site scope) (catches_more catches k catch inside is) ∙ ap (λ b. b && are_new_catches site scope (view_catches (drop (k + 1) catches))) (sym so)

  pub not_new : new ≡ false → are_new_catches site scope (view_catches (drop k catches)) ≡ are_new_catches site scope (view_catches catches)
      → false ≡ (not (has_no_catch (view_catches catches)) && are_new_catches site scope (view_catches catches))
  not_new wrong kept =
      let all : are_new_catches site scope (view_catches catches) ≡ false = sym kept ∙ new_is ∙ ap (λ b. b && are_new_catches site scope (view_catches (drop (k + 1) catches))) wrong in
      sym (ap (λ b. not (has_no_catch (view_catches catches)) && b) all ∙ none (not (has_no_catch (view_catches catches))))

  pub new_more : new ≡ true → are_new_catches site scope (view_catches (drop k catches)) ≡ are_new_catches site scope (view_catches catches)
      → are_new_catches site scope (view_catches (drop (k + 1) catches)) ≡ are_new_catches site scope (view_catches catches)
  new_more right kept = sym (new_is ∙ ap (λ b. b && are_new_catches site scope (view_catches (drop (k + 1) catches))) right) ∙ kept

module _ (headers : List Header) (catches : List code_catch.Catch) (k : ℕ) (catch : code_catch.Catch) (thrown : Bool) (inside : k < length catches) (is : catch ≡ get_or catches k catch)
    (so : thrown ≡ is_assignable headers (Of (Class catch.class)) (Class throwable_name)) where
  thrown_is : are_exceptions headers (view_catches (drop k catches)) ≡ (thrown && are_exceptions headers (view_catches (drop (k + 1) catches)))
  thrown_is = ap (are_exceptions headers) (catches_more catches k catch inside is) ∙ ap (λ b. b && are_exceptions headers (view_catches (drop (k + 1) catches))) (sym so)

  pub not_thrown : thrown ≡ false → are_exceptions headers (view_catches (drop k catches)) ≡ are_exceptions headers (view_catches catches) → false ≡ are_exceptions headers (view_catches catches)
  not_thrown wrong kept = sym (sym kept ∙ thrown_is ∙ ap (λ b. b && are_exceptions headers (view_catches (drop (k + 1) catches))) wrong)

  pub thrown_more : thrown ≡ true → are_exceptions headers (view_catches (drop k catches)) ≡ are_exceptions headers (view_catches catches)
      → are_exceptions headers (view_catches (drop (k + 1) catches)) ≡ are_exceptions headers (view_catches catches)
  thrown_more right kept = sym (thrown_is ∙ ap (λ b. b && are_exceptions headers (view_catches (drop (k + 1) catches))) right) ∙ kept
