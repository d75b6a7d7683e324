-- What bytes are that a text was compared with.
use Rattle.std.proofs.Common.{◌≡◌, ◌==◌, ℕ, List, Bool, true, false, [], ◌∷◌, ◌++◌, length, refl, sym, ap, ◌∙◌, append-nil, arith, ne_eqb}
use Rattle.std.proofs.lemmas.Bool.{false≢true}
use Rattle.std.proofs.lemmas.List.{append_cancel_left}
use Rattle.dj_print.specs.Outs.{Compares}

-- bytes of which there are none
no_bytes : (bytes : List ℕ) → (length bytes == 0) ≡ true → bytes ≡ []
no_bytes [] is = refl
no_bytes (first ∷ rest) is = absurd (false≢true (sym (ne_eqb (length (first ∷ rest)) 0 (λ none. omega (arith, none))) ∙ is))

module _ {differs : Bool} {bytes left text : List ℕ} (compared : Compares false differs bytes left text) where
  -- bytes that don't differ from a text, and of which nothing is left, are it
  pub is_whole : differs ≡ false → (length left == 0) ≡ true → text ≡ bytes
  is_whole same none = sym ((compared.same same).1 ∙ ap (λ rest. text ++ rest) (no_bytes left none) ∙ append-nil text)

  -- nothing is left of a text's own bytes
  pub none_left : differs ≡ false → text ≡ bytes → (length left == 0) ≡ true
  none_left same is = ap (λ rest. length rest == 0) (sym (append_cancel_left text [] left (append-nil text ∙ is ∙ (compared.same same).1)))

  -- bytes that differ from a text aren't it
  pub is_other : differs ≡ true → ¬ (text ≡ bytes)
  is_other other is = compared.other refl other [] (sym is ∙ sym (append-nil text))
