-- The handlers of a block are the catchers of what it throws.
use Rattle.std.proofs.Common.{◌≡◌, ℕ, zero, suc, ◌+◌, ◌==◌, eqb, Bool, true, false, List, [], ◌∷◌, ◌++◌, length, Option, Some, None, refl, sym, ap, ◌∙◌, subst, arith, append_assoc}
use Rattle.std.specs.Prelude.{if◌then◌else◌, slice_get, ◌&&◌, is_none, IsSome}
use Rattle.std.proofs.lemmas.Bool.{eqb-true}
use Rattle.std.proofs.lemmas.List.{length_push}
use Rattle.dj_code.specs.declared.method_code.Handler.{Handler}
use Rattle.dj_starts.specs.Edges.{covers}
use Rattle.dj_graph.specs.declared.graph.Catcher.{Catcher}
use Rattle.dj_rebuilding.specs.Pending.{and_then}
use Rattle.dj_blocks_shown.specs.Leaving.{Parts}
use Rattle.dj_blocks_shown.specs.Catching.{IsCatcherOf, Catches, none_left, passes, catches, catches_all}
use Rattle.dj_edges.specs.Edges.{number_of}
use Rattle.dj_edges.specs.Split.{catcher_of, with_catcher, catchers_of, numbered, handlers_from, HaveCatchers, BlocksHaveCatchers}

some-is : {A : Type 0} (one other : A) → Some one ≡ Some other → one ≡ other
some-is one other e = cc

none-some : {A P : Type 0} (one : A) → None ≡ Some one → P
none-some one e = absurd (no one e)
  where
    no : {A : Type 0} (one : A) → None ≡ Some one → ⊥
    no one e = cc

-- the number of a block is that of its start
number-starts : (starts : List ℕ) (pc number : ℕ) → number_of starts pc ≡ Some number → slice_get starts number ≡ Some pc
number-starts [] pc number e = none-some number e
number-starts (start ∷ rest) pc number e = by (λ at f. number-starts rest pc at f) (eqb start pc) refl e
  where
    later : ((at : ℕ) → number_of rest pc ≡ Some at → slice_get rest at ≡ Some pc) → (found : Option ℕ) → number_of rest pc ≡ found → and_then found (λ number. Some (suc number)) ≡ Some number → slice_get (start ∷ rest) number ≡ Some pc
    later others None f e = none-some number e
    later others (Some at) f e = subst (λ (n : ℕ). slice_get (start ∷ rest) n ≡ Some pc) (some-is (suc at) number e) (others at f)

    by : ((at : ℕ) → number_of rest pc ≡ Some at → slice_get rest at ≡ Some pc) → (test : Bool) → eqb start pc ≡ test → (if test then Some 0 else and_then (number_of rest pc) (λ number. Some (suc number))) ≡ Some number → slice_get (start ∷ rest) number ≡ Some pc
    by others true t e = subst (λ (n : ℕ). slice_get (start ∷ rest) n ≡ Some pc) (some-is 0 number e) (ap Some (eqb-true start pc t))
    by others false t e = later others (number_of rest pc) refl e

-- what an entry's catcher is
record IsItsCatcher (parts : Parts) (handler : Handler) (catcher : Catcher) : Type 0 where
  class : catcher.class ≡ handler.class
  target : slice_get parts.starts catcher.target ≡ Some handler.target
  variable : parts.vars.of catcher.target parts.typed.code.max_locals ≡ Some catcher.variable

its-catcher : (parts : Parts) (handler : Handler) (catcher : Catcher) → catcher_of parts handler ≡ Some catcher → IsItsCatcher parts handler catcher
its-catcher parts handler catcher e = by (number_of parts.starts handler.target) refl e
  where
    on : (number : ℕ) → number_of parts.starts handler.target ≡ Some number → (found : Option ℕ) → parts.vars.of number parts.typed.code.max_locals ≡ found
        → and_then found (λ variable. Some (record { class = handler.class; target = number; variable = variable })) ≡ Some catcher → IsItsCatcher parts handler catcher
    on number n None f e = none-some catcher e
    on number n (Some variable) f e = subst (IsItsCatcher parts handler) (some-is (record { class = handler.class; target = number; variable = variable }) catcher e)
        (record { class = refl; target = number-starts parts.starts handler.target number n; variable = f })

    by : (number : Option ℕ) → number_of parts.starts handler.target ≡ number
        → and_then number (λ number. and_then (parts.vars.of number parts.typed.code.max_locals) (λ variable. Some (record { class = handler.class; target = number; variable = variable }))) ≡ Some catcher → IsItsCatcher parts handler catcher
    by None n e = none-some catcher e
    by (Some number) n e = on number n (parts.vars.of number parts.typed.code.max_locals) refl e

-- what stands behind others
at-end : {A : Type 0} (before : List A) (one : A) (rest : List A) → slice_get (before ++ one ∷ rest) (length before) ≡ Some one
at-end [] one rest = refl
at-end (first ∷ before) one rest = at-end before one rest

at-length : {A : Type 0} (before : List A) (one : A) (rest : List A) (place : ℕ) → length before ≡ place → slice_get (before ++ one ∷ rest) place ≡ Some one
at-length before one rest place e = subst (λ (n : ℕ). slice_get (before ++ one ∷ rest) n ≡ Some one) e (at-end before one rest)

no-class : (class : Option (List ℕ)) → is_none class ≡ true → class ≡ None
no-class None e = refl
no-class (Some name) e = absurd (no e)
  where
    no : false ≡ true → ⊥
    no e = cc

not-some : IsSome {T = Catcher} None → ⊥
not-some e = cc

module _ (parts : Parts) (pc : ℕ) (all : List Catcher) where
  catching : (handlers : List Handler) (before : List Catcher) (next : ℕ) → length before ≡ next → all ≡ before ++ catchers_of parts handlers → HaveCatchers parts pc handlers → Catches parts all pc handlers (handlers_from parts pc handlers next)
  catching [] before next long is have = none_left
  catching (first ∷ rest) before next long is have =
      by (λ before next long is have. catching rest before next long is have) (catcher_of parts first) refl (covers first pc) refl (is_none first.class) refl is have
    where
      here : (catcher : Catcher) → catcher_of parts first ≡ Some catcher → all ≡ before ++ (catcher ∷ catchers_of parts rest) → IsCatcherOf parts all first next
      here catcher e is =
          let its = its-catcher parts first catcher e in
          record { catcher = catcher; there = ap (λ list. slice_get list next) is ∙ at-length before catcher (catchers_of parts rest) next long; class = its.class; target = its.target; variable = its.variable }

      further : (catcher : Catcher) → all ≡ before ++ (catcher ∷ catchers_of parts rest) → all ≡ (before ++ catcher ∷ []) ++ catchers_of parts rest
      further catcher is = is ∙ sym (append_assoc before (catcher ∷ []) (catchers_of parts rest))

      longer : (catcher : Catcher) → length (before ++ catcher ∷ []) ≡ suc next
      longer catcher = let more = length_push before catcher in omega (arith, more, long)

      by : ((before : List Catcher) (next : ℕ) → length before ≡ next → all ≡ before ++ catchers_of parts rest → HaveCatchers parts pc rest → Catches parts all pc rest (handlers_from parts pc rest next))
          → (found : Option Catcher) → catcher_of parts first ≡ found → (covering : Bool) → covers first pc ≡ covering → (takes_all : Bool) → is_none first.class ≡ takes_all
          → all ≡ before ++ with_catcher found (catchers_of parts rest)
          → (covers first pc ≡ true → IsSome (catcher_of parts first)) × ((covers first pc && is_none first.class) ≡ false → HaveCatchers parts pc rest)
          → Catches parts all pc (first ∷ rest) (numbered found covering takes_all next (handlers_from parts pc rest))
      by others None f true c takes_all t is have = absurd (not-some (subst IsSome f (have.0 c)))
      by others None f false c takes_all t is have = passes c (others before next long is (have.1 (ap (λ (test : Bool). test && is_none first.class) c)))
      by others (Some catcher) f false c takes_all t is have = passes c (others (before ++ catcher ∷ []) (suc next) (longer catcher) (further catcher is) (have.1 (ap (λ (test : Bool). test && is_none first.class) c)))
      by others (Some catcher) f true c true t is have = catches_all c (no-class first.class t) (here catcher f is)
      by others (Some catcher) f true c false t is have =
          catches c (here catcher f is) (others (before ++ catcher ∷ []) (suc next) (longer catcher) (further catcher is) (have.1 (ap (λ (test : Bool). test && is_none first.class) c ∙ t)))

pub blocks_have_catchers : BlocksHaveCatchers
blocks_have_catchers parts pc have = catching parts pc (catchers_of parts parts.typed.code.handlers) parts.typed.code.handlers [] 0 refl refl have
