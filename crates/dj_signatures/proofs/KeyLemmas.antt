-- What the keys of methods tell of them.
use Rattle.std.proofs.Common.{◌≡◌, ◌↔◌, ℕ, List, [], ◌∷◌, ◌++◌, Some, length, slice_get, refl, sym, ap, subst, inl, inr, ◌∙◌}
use Rattle.std.proofs.lemmas.Option.{same_Some}
use Rattle.dj_names.specs.Headers.{Name}
use Rattle.dj_class.specs.Described.{MethodOf}
use Rattle.dj_signatures.specs.Numbers.{Numbers, number_of, Extends, AreNumbers}
use Rattle.dj_signatures.specs.declared.keys.Key.{Key}
use Rattle.dj_signatures.specs.Signatures.{IsTwin, IsAlike}
use Rattle.std.specs.List.{flat_map}
use Rattle.dj_signatures.specs.Spelled.{spelled_type, spelled_parameters, spelled_descriptor}
use Rattle.dj_signatures.specs.Keys.{IsKey}
use Rattle.dj_signatures.specs.Standing.{twin_of, alike_of}
use Rattle.dj_members.proofs.ChainLemmas.{get-cases}
use Rattle.dj_signatures.proofs.SpelledLemmas.{same_parameters, same_descriptor}

-- a key is one still when there are more numbers
pub key_kept : (old new : Numbers) (method : MethodOf) (key : Key) → Extends old new → IsKey old method key → IsKey new method key
key_kept old new method key more is = record {
  name = more method.name key.name is.name;
  parameters = more (spelled_parameters method.descriptor) key.parameters is.parameters;
  descriptor = more (spelled_descriptor method.descriptor) key.descriptor is.descriptor;
  bridge = is.bridge;
}

-- each key is its method's, with one more
pub keys_more : (methods : List MethodOf) (keys : List Key) (at : ℕ) (old new : Numbers) (method : MethodOf) (key : Key) → length keys ≡ at → slice_get methods at ≡ Some method → Extends old new → IsKey new method key
    → ((k : ℕ) (m : MethodOf) (x : Key) → slice_get methods k ≡ Some m → slice_get keys k ≡ Some x → IsKey old m x)
    → (k : ℕ) (m : MethodOf) (x : Key) → slice_get methods k ≡ Some m → slice_get (keys ++ key ∷ []) k ≡ Some x → IsKey new m x
keys_more methods keys at old new method key size there more is each k m x m_is x_is = elim (get-cases keys key k x x_is) [
  | inl before ↦ key_kept old new m x more (each k m x m_is before)
  | inr last ↦
      let same : method ≡ m = same_Some method m (sym there ∙ ap (slice_get methods) (sym (last.0 ∙ size)) ∙ m_is) in
      subst (λ (o : MethodOf). IsKey new o x) same (subst (IsKey new method) last.1 is)
]

module _ (numbers : Numbers) (index : AreNumbers numbers) (method other : MethodOf) (key other_key : Key) (is : IsKey numbers method key) (other_is : IsKey numbers other other_key) where
  -- one number is of one text
  one_text : (first second : Name) (at place : ℕ) → number_of numbers first ≡ Some at → number_of numbers second ≡ Some place → place ≡ at → second ≡ first
  one_text first second at place one two same = index.one_text second first at (two ∙ ap Some same) one

  one_number : (first second : Name) (at place : ℕ) → number_of numbers first ≡ Some at → number_of numbers second ≡ Some place → second ≡ first → place ≡ at
  one_number first second at place one two same = same_Some place at (sym two ∙ ap (number_of numbers) same ∙ one)

  pub alike_keys : (alike_of other_key ≡ alike_of key) ↔ IsAlike method other
  alike_keys = (
    λ same. record {
      name = one_text method.name other.name key.name other_key.name is.name other_is.name (ap (λ (p : ℕ × ℕ). p.0) same);
      parameters = same_parameters other.descriptor method.descriptor
          (one_text (spelled_parameters method.descriptor) (spelled_parameters other.descriptor) key.parameters other_key.parameters is.parameters other_is.parameters (ap (λ (p : ℕ × ℕ). p.1) same));
    },
    λ alike.
        let name = one_number method.name other.name key.name other_key.name is.name other_is.name alike.name in
        let parameters = one_number (spelled_parameters method.descriptor) (spelled_parameters other.descriptor) key.parameters other_key.parameters is.parameters other_is.parameters
        (ap (flat_map spelled_type) alike.parameters) in
        cc,
  )

  pub twin_keys : (twin_of other_key ≡ twin_of key) ↔ IsTwin method other
  twin_keys = (
    λ same. record {
      name = one_text method.name other.name key.name other_key.name is.name other_is.name (ap (λ (p : ℕ × ℕ). p.0) same);
      descriptor = same_descriptor other.descriptor method.descriptor
          (one_text (spelled_descriptor method.descriptor) (spelled_descriptor other.descriptor) key.descriptor other_key.descriptor is.descriptor other_is.descriptor (ap (λ (p : ℕ × ℕ). p.1) same));
    },
    λ twin.
        let name = one_number method.name other.name key.name other_key.name is.name other_is.name twin.name in
        let descriptor = one_number (spelled_descriptor method.descriptor) (spelled_descriptor other.descriptor) key.descriptor other_key.descriptor is.descriptor other_is.descriptor
        (ap spelled_descriptor twin.descriptor) in
        cc,
  )
