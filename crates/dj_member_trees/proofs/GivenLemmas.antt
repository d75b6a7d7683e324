-- Operands that are taken from the end of the program's list, as arguments and sizes.
use Rattle.std.proofs.Common.{◌≡◌, ◌<◌, ◌≤◌, ◌+◌, ℕ, Bool, true, false, List, [], ◌∷◌, ◌++◌, Option, Some, None, drop, get_or, length, refl, sym, ap, ◌∙◌, arith, suc, length-append}
use Rattle.std.specs.Prelude.{if◌then◌else◌, max}
use Rattle.std.proofs.lemmas.Bool.{and_parts, and_from}
use Rattle.std.proofs.lemmas.List.{drop_more, drop_all}
use Rattle.dj_names.specs.declared.header.Header.{Header}
use Rattle.dj_names.specs.declared.types.JType as code
use Rattle.dj_names.specs.Types.{JType, view_type, view_types}
use Rattle.dj_syntax.specs.declared.expression.Exp.{Exp as code_exp}
use Rattle.dj_syntax.specs.Trees.{Exp, Exps, NoExps, AndExp, view_exp, view_exps}
use Rattle.dj_rebuilding.specs.Pending.{Typed, and_then}
use Rattle.dj_rebuilt.specs.Nodes.{is_whole, as_int}
use Rattle.dj_member_nodes.specs.Nodes.{sizes_of}
use Rattle.dj_pending.specs.declared.entry.Operand.{Operand}
use Rattle.dj_pending.specs.Heights.{height, height_of_all, levels_of, levels_of_all, is_quiet, are_quiet}
use Rattle.dj_pending.specs.Entries.{view_operand}
use Rattle.dj_pending.specs.Operands.{operands_of}
use Rattle.dj_pending.proofs.OperandLemmas.{last-first}
use Rattle.dj_member_trees.specs.Fitting.{whole}
use Rattle.dj_member_trees.specs.Given.{with_last, argument, given}

-- ---- expressions behind others

abbrev pub joined_exps : Exps → Exps → Exps
joined_exps NoExps more = more
joined_exps (AndExp one first) more = AndExp one (joined_exps first more)

abbrev pub behind_exps : Exps → Option Exps → Option Exps
behind_exps first None = None
behind_exps first (Some more) = Some (joined_exps first more)

pub behind-nothing : (found : Option Exps) → behind_exps NoExps found ≡ found
behind-nothing None = refl
behind-nothing (Some more) = refl

joined-nothing : (first : Exps) → joined_exps first NoExps ≡ first
joined-nothing NoExps = refl
joined-nothing (AndExp one first) = ap (AndExp one) (joined-nothing first)

joined-last : (first : Exps) (one : Exp) (more : Exps) → joined_exps (with_last first one) more ≡ joined_exps first (AndExp one more)
joined-last NoExps one more = refl
joined-last (AndExp other first) one more = ap (AndExp other) (joined-last first one more)

behind-last : (first : Exps) (one : Exp) (found : Option Exps) → behind_exps (with_last first one) found ≡ behind_exps first (and_then found (λ more. Some (AndExp one more)))
behind-last first one None = refl
behind-last first one (Some more) = ap Some (joined-last first one more)

-- ---- lists of the program

pub exps-last : (list : List code_exp) (one : code_exp) → view_exps (list ++ one ∷ []) ≡ with_last (view_exps list) (view_exp one)
exps-last [] one = refl
exps-last (first ∷ list) one = ap (AndExp (view_exp first)) (exps-last list one)

heights-last : (exps : Exps) (one : Exp) → height_of_all (with_last exps one) ≡ max (height_of_all exps) (height one)
heights-last NoExps one = omega arith
heights-last (AndExp first rest) one = (let so_far = heights-last rest one in omega arith)

quiet-last : (exps : Exps) (one : Exp) → are_quiet exps ≡ true → is_quiet one ≡ true → are_quiet (with_last exps one) ≡ true
quiet-last NoExps one all is = and_from (is_quiet one) true is refl
quiet-last (AndExp first rest) one all is =
    and_from (is_quiet first) (are_quiet (with_last rest one)) (and_parts (is_quiet first) (are_quiet rest) all).0 (quiet-last rest one (and_parts (is_quiet first) (are_quiet rest) all).1 is)

pub levels-last : (list after : List code_exp) (one : code_exp) (old own new : ℕ) → after ≡ list ++ one ∷ [] → old ≡ levels_of_all (view_exps list) → own ≡ levels_of (view_exp one) → new ≡ max old own → new ≡ levels_of_all (view_exps after)
levels-last list after one old own new is so_far of_one most =
    let high : height_of_all (view_exps after) ≡ max (height_of_all (view_exps list)) (height (view_exp one)) = ap (λ (exps : List code_exp). height_of_all (view_exps exps)) is ∙ ap height_of_all (exps-last list one) ∙ heights-last (view_exps list) (view_exp one) in
    omega arith

pub quiet-after : (list after : List code_exp) (one : code_exp) → after ≡ list ++ one ∷ [] → are_quiet (view_exps list) ≡ true → is_quiet (view_exp one) ≡ true → are_quiet (view_exps after) ≡ true
quiet-after list after one is all own = ap (λ (exps : List code_exp). are_quiet (view_exps exps)) is ∙ ap are_quiet (exps-last list one) ∙ quiet-last (view_exps list) (view_exp one) all own

pub last-taken : (left rest : List Operand) (operand : Operand) → left ≡ rest ++ operand ∷ [] → operands_of left ≡ view_operand operand ∷ operands_of rest
last-taken left rest operand is = ap operands_of is ∙ last-first rest operand

next-type : (types : List code.JType) (i : ℕ) (kind : code.JType) → i < length types → kind ≡ get_or types i kind → view_types (drop i types) ≡ view_type kind ∷ view_types (drop (i + 1) types)
next-type types i kind within is = ap view_types (drop_more types i kind within ∙ ap (λ (one : code.JType). one ∷ drop (i + 1) types) (sym is))

-- no operand is left where none is in the list
pub some-operands : (left : List Operand) → (left ≡ [] → ⊥) → length (operands_of left) ≡ 0 → ⊥
some-operands [] some none = some refl
some-operands (operand ∷ rest) some none = no-nothing (operands_of rest) none
  where
    no-nothing : (list : List Typed) → length (list ++ view_operand operand ∷ []) ≡ 0 → ⊥
    no-nothing [] is = absurd (cc)
    no-nothing (one ∷ more) is = absurd (cc)

pub operand-count : (left : List Operand) → length (operands_of left) ≡ length left
operand-count [] = refl
operand-count (operand ∷ rest) = length-append (operands_of rest) (view_operand operand ∷ []) ∙ ap (λ (n : ℕ). n + 1) (operand-count rest) ∙ one-more rest
  where
    one-more : (list : List Operand) → length list + 1 ≡ suc (length list)
    one-more list = omega arith

-- ---- arguments

module _ (world : List Header) (alone : Bool) (types : List code.JType) (i : ℕ) (left : List Operand) (first : Exps) (all : Option Exps)
    (so_far : behind_exps first (given world alone (operands_of left) (view_types (drop i types))) ≡ all) where
  -- what follows behind an argument
  abbrev follows : List Typed → List JType → Option Exp → Option Exps
  follows rest tos found = and_then found (λ one. and_then (given world alone rest tos) (λ more. Some (AndExp one more)))

  module _ (kind : code.JType) (within : i < length types) (is_kind : kind ≡ get_or types i kind) where
    module _ (rest : List Operand) (operand : Operand) (is : left ≡ rest ++ operand ∷ []) (found : Option Exp) (is_found : found ≡ argument world alone (view_type kind) (view_operand operand)) where
      one-more : behind_exps first (follows (operands_of rest) (view_types (drop (i + 1) types)) found) ≡ all
      one-more =
          ap (λ (one : Option Exp). behind_exps first (follows (operands_of rest) (view_types (drop (i + 1) types)) one)) is_found
          ∙ sym (ap (λ (list : List Typed). behind_exps first (given world alone list (view_types (drop i types)))) (last-taken left rest operand is)
          ∙ ap (λ (list : List JType). behind_exps first (given world alone (view_operand operand ∷ operands_of rest) list)) (next-type types i kind within is_kind))
          ∙ so_far

    pub given-next : (rest : List Operand) (operand : Operand) → left ≡ rest ++ operand ∷ [] → (one : Exp) → Some one ≡ argument world alone (view_type kind) (view_operand operand) → (after : Exps) → after ≡ with_last first one
        → behind_exps after (given world alone (operands_of rest) (view_types (drop (i + 1) types))) ≡ all
    given-next rest operand is one is_one after pushed =
        ap (λ (exps : Exps). behind_exps exps (given world alone (operands_of rest) (view_types (drop (i + 1) types)))) pushed
        ∙ behind-last first one (given world alone (operands_of rest) (view_types (drop (i + 1) types))) ∙ one-more rest operand is (Some one) is_one

    pub given-stops : (rest : List Operand) (operand : Operand) → left ≡ rest ++ operand ∷ [] → None ≡ argument world alone (view_type kind) (view_operand operand) → None ≡ all
    given-stops rest operand is none = one-more rest operand is None none

    pub given-few : left ≡ [] → None ≡ all
    given-few none =
        sym (ap (λ (list : List Operand). behind_exps first (given world alone (operands_of list) (view_types (drop i types)))) none
        ∙ ap (λ (list : List JType). behind_exps first (given world alone [] list)) (next-type types i kind within is_kind))
        ∙ so_far

  module _ (past : length types ≤ i) where
    no-more : behind_exps first (given world alone (operands_of left) []) ≡ all
    no-more = sym (ap (λ (list : List code.JType). behind_exps first (given world alone (operands_of left) (view_types list))) (drop_all i types past)) ∙ so_far

    pub given-done : left ≡ [] → Some first ≡ all
    given-done none = ap Some (sym (joined-nothing first)) ∙ sym (ap (λ (list : List Operand). behind_exps first (given world alone (operands_of list) [])) none) ∙ no-more

    too-many : (list : List Typed) → (length list ≡ 0 → ⊥) → None ≡ behind_exps first (given world alone list [])
    too-many [] some = absurd (some refl)
    too-many (one ∷ rest) some = refl

    pub given-many : (left ≡ [] → ⊥) → None ≡ all
    given-many some = too-many (operands_of left) (some-operands left some) ∙ no-more

-- ---- sizes

size-step : (one : Typed) (rest : List Typed) → sizes_of (one ∷ rest) ≡ and_then (whole one) (λ exp. and_then (sizes_of rest) (λ more. Some (AndExp exp more)))
size-step one rest = by-test (is_whole one.0)
  where
    by-test : (test : Bool)
        → (if test then and_then (sizes_of rest) (λ more. Some (AndExp (as_int one.0 one.1) more)) else None) ≡ and_then (if test then Some (as_int one.0 one.1) else None) (λ exp. and_then (sizes_of rest) (λ more. Some (AndExp exp more)))
    by-test true = refl
    by-test false = refl

module _ (left : List Operand) (first : Exps) (all : Option Exps) (so_far : behind_exps first (sizes_of (operands_of left)) ≡ all) where
  module _ (rest : List Operand) (operand : Operand) (is : left ≡ rest ++ operand ∷ []) (found : Option Exp) (is_found : found ≡ whole (view_operand operand)) where
    size-more : behind_exps first (and_then found (λ exp. and_then (sizes_of (operands_of rest)) (λ more. Some (AndExp exp more)))) ≡ all
    size-more =
        ap (λ (one : Option Exp). behind_exps first (and_then one (λ exp. and_then (sizes_of (operands_of rest)) (λ more. Some (AndExp exp more))))) is_found
        ∙ ap (behind_exps first) (sym (size-step (view_operand operand) (operands_of rest))) ∙ sym (ap (λ (list : List Typed). behind_exps first (sizes_of list)) (last-taken left rest operand is)) ∙ so_far

  pub size-next : (rest : List Operand) (operand : Operand) → left ≡ rest ++ operand ∷ [] → (one : Exp) → Some one ≡ whole (view_operand operand) → (after : Exps) → after ≡ with_last first one
      → behind_exps after (sizes_of (operands_of rest)) ≡ all
  size-next rest operand is one is_one after pushed =
      ap (λ (exps : Exps). behind_exps exps (sizes_of (operands_of rest))) pushed ∙ behind-last first one (sizes_of (operands_of rest)) ∙ size-more rest operand is (Some one) is_one

  pub size-stops : (rest : List Operand) (operand : Operand) → left ≡ rest ++ operand ∷ [] → None ≡ whole (view_operand operand) → None ≡ all
  size-stops rest operand is none = size-more rest operand is None none

  pub size-done : left ≡ [] → Some first ≡ all
  size-done none = ap Some (sym (joined-nothing first)) ∙ sym (ap (λ (list : List Operand). behind_exps first (sizes_of (operands_of list))) none) ∙ so_far
