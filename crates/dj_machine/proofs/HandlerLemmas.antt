-- The first handler that takes an exception, in the rest of an exception table.
use Rattle.std.proofs.Common.{◌≡◌, ℕ, zero, suc, ◌<◌, ◌≤◌, true, false, List, [], ◌∷◌, length, drop, get_or, Some, None, refl, sym, ap, subst, arith}
use Rattle.dj_names.specs.declared.header.Header.{Header}
use Rattle.dj_values.specs.Values.{RefValue}
use Rattle.dj_code.specs.declared.method_code.Handler.{Handler}
use Rattle.dj_bytecode.specs.Machine.{takes, handler_for}

module _ (headers : List Header) (pc : ℕ) (reference : RefValue) where
  pub handler_here : (handlers : List Handler) (k : ℕ) (handler : Handler) → k < length handlers → handler ≡ get_or handlers k handler → takes headers pc reference handler ≡ true → handler_for headers pc reference (drop k handlers) ≡ Some handler.target
  handler_here [] k handler within is passes = absurd (omega arith)
  handler_here (first ∷ rest) zero handler within is passes =
      let taken_so : takes headers pc reference first ≡ true = subst (λ one. takes headers pc reference one ≡ true) is passes in
      rw taken_so (ap (λ (one : Handler). Some one.target) (sym is))
  handler_here (first ∷ rest) (suc k) handler within is passes = handler_here rest k handler (omega arith) is passes

  pub handler_next : (handlers : List Handler) (k : ℕ) (handler : Handler) → k < length handlers → handler ≡ get_or handlers k handler → takes headers pc reference handler ≡ false
      → handler_for headers pc reference (drop k handlers) ≡ handler_for headers pc reference (drop (suc k) handlers)
  handler_next [] k handler within is wrong = absurd (omega arith)
  handler_next (first ∷ rest) zero handler within is wrong =
      let not_so : takes headers pc reference first ≡ false = subst (λ one. takes headers pc reference one ≡ false) is wrong in
      rw not_so refl
  handler_next (first ∷ rest) (suc k) handler within is wrong = handler_next rest k handler (omega arith) is wrong

  pub handler_none : (handlers : List Handler) (k : ℕ) → length handlers ≤ k → handler_for headers pc reference (drop k handlers) ≡ None
  handler_none [] zero past = refl
  handler_none [] (suc k) past = refl
  handler_none (first ∷ rest) zero past = absurd (omega arith)
  handler_none (first ∷ rest) (suc k) past = handler_none rest k (omega arith)
