-- A list of expressions, of which so many are done.
use Rattle.std.proofs.Common.{◌≡◌, ℕ, ◌+◌, ◌<◌, ◌≤◌, Bool, true, false, ◌&&◌, List, [], ◌∷◌, ◌++◌, length, drop, get_or, Option, Some, None, refl, sym, ap, ◌∙◌}
use Rattle.std.proofs.lemmas.List.{append-nil, append_assoc, drop_more, drop_all}
use Rattle.dj_names.specs.Types.{StaticType}
use Rattle.dj_syntax.specs.declared.expression.Exp as code_exp
use Rattle.dj_syntax.specs.Trees.{NoExps, AndExp, view_exp, view_exps}
use Rattle.dj_meaning.specs.StaticTypes.{Scope, type_of, types_of, and_type}
use Rattle.dj_typing.specs.Sites.{Site, context_of}
use Rattle.dj_typing.specs.Expressions.{is_index, are_indexes}
use Rattle.dj_checked.specs.declared.walk.Walk.{Walk}
use Rattle.dj_checked.specs.Walks.{pass_exp, pass_exps, and_last}

exps_more : (exps : List code_exp.Exp) (i : ℕ) (exp : code_exp.Exp) → i < length exps → exp ≡ get_or exps i exp → view_exps (drop i exps) ≡ AndExp (view_exp exp) (view_exps (drop (i + 1) exps))
exps_more exps i exp within is = ap view_exps (drop_more exps i exp within) ∙ ap (λ one. AndExp (view_exp one) (view_exps (drop (i + 1) exps))) (sym is)

exps_none : (exps : List code_exp.Exp) (i : ℕ) → length exps ≤ i → view_exps (drop i exps) ≡ NoExps
exps_none exps i past = ap view_exps (drop_all i exps past)

-- types and more behind them, where there are both
abbrev pub joined : Option (List StaticType) → Option (List StaticType) → Option (List StaticType)
joined None more = None
joined (Some types) None = None
joined (Some types) (Some more) = Some (types ++ more)

joined-more : (types : Option (List StaticType)) (kind : Option StaticType) (rest : Option (List StaticType)) → joined (and_last types kind) rest ≡ joined types (and_type kind rest)
joined-more None kind rest = refl
joined-more (Some types) None rest = refl
joined-more (Some types) (Some kind) None = refl
joined-more (Some types) (Some kind) (Some more) = ap Some (append_assoc types (kind ∷ []) more)

joined-nil : (rest : Option (List StaticType)) → joined (Some []) rest ≡ rest
joined-nil None = refl
joined-nil (Some more) = refl

joined-none : (types : Option (List StaticType)) → joined types (Some []) ≡ types
joined-none None = refl
joined-none (Some types) = ap Some (append-nil types)

and_assoc : (a b c : Bool) → ((a && b) && c) ≡ (a && (b && c))
and_assoc true b c = refl
and_assoc false b c = refl

and_true : (a : Bool) → (a && true) ≡ a
and_true true = refl
and_true false = refl

module _ (site : Site) (scope : Scope) (exps : List code_exp.Exp) where
  abbrev all : Option (List StaticType)
  all = types_of (context_of site) scope (view_exps exps)

  abbrev left : ℕ → Option (List StaticType)
  left i = types_of (context_of site) scope (view_exps (drop i exps))

  -- the walk past them
  pub walk_more : (i : ℕ) (exp : code_exp.Exp) (before after whole : Walk) → i < length exps → exp ≡ get_or exps i exp → after ≡ pass_exp site scope (view_exp exp) before
      → pass_exps site scope (view_exps (drop i exps)) before ≡ whole → pass_exps site scope (view_exps (drop (i + 1) exps)) after ≡ whole
  walk_more i exp before after whole within is passed so_far =
      ap (pass_exps site scope (view_exps (drop (i + 1) exps))) passed ∙ ap (λ list. pass_exps site scope list before) (sym (exps_more exps i exp within is)) ∙ so_far

  pub walk_end : (i : ℕ) (walk whole : Walk) → length exps ≤ i → pass_exps site scope (view_exps (drop i exps)) walk ≡ whole → walk ≡ whole
  walk_end i walk whole past so_far = ap (λ list. pass_exps site scope list walk) (sym (exps_none exps i past)) ∙ so_far

  -- their types
  pub types_begin : all ≡ joined (Some []) all
  types_begin = sym (joined-nil all)

  pub types_more : (i : ℕ) (exp : code_exp.Exp) (types more : Option (List StaticType)) (kind : Option StaticType) → i < length exps → exp ≡ get_or exps i exp
      → kind ≡ type_of (context_of site) scope (view_exp exp) → more ≡ and_last types kind → all ≡ joined types (left i) → all ≡ joined more (left (i + 1))
  types_more i exp types more kind within is typed last so_far =
      so_far ∙ ap (λ list. joined types (types_of (context_of site) scope list)) (exps_more exps i exp within is)
      ∙ ap (λ one. joined types (and_type one (left (i + 1)))) (sym typed) ∙ sym (joined-more types kind (left (i + 1))) ∙ ap (λ some. joined some (left (i + 1))) (sym last)

  pub types_end : (i : ℕ) (types : Option (List StaticType)) → length exps ≤ i → all ≡ joined types (left i) → types ≡ all
  types_end i types past so_far =
      sym (so_far ∙ ap (λ list. joined types (types_of (context_of site) scope list)) (exps_none exps i past) ∙ joined-none types)

  -- sizes, each of which may be one
  pub sizes_more : (i : ℕ) (exp : code_exp.Exp) (indexed more now : Bool) → i < length exps → exp ≡ get_or exps i exp → now ≡ is_index (type_of (context_of site) scope (view_exp exp)) → more ≡ (indexed && now)
      → are_indexes site scope (view_exps exps) ≡ (indexed && are_indexes site scope (view_exps (drop i exps))) → are_indexes site scope (view_exps exps) ≡ (more && are_indexes site scope (view_exps (drop (i + 1) exps)))
  sizes_more i exp indexed more now within is typed last so_far =
      so_far ∙ ap (λ list. indexed && are_indexes site scope list) (exps_more exps i exp within is)
      ∙ ap (λ b. indexed && (b && are_indexes site scope (view_exps (drop (i + 1) exps)))) (sym typed)
      ∙ sym (and_assoc indexed now (are_indexes site scope (view_exps (drop (i + 1) exps)))) ∙ ap (λ b. b && are_indexes site scope (view_exps (drop (i + 1) exps))) (sym last)

  pub sizes_end : (i : ℕ) (indexed : Bool) → length exps ≤ i → are_indexes site scope (view_exps exps) ≡ (indexed && are_indexes site scope (view_exps (drop i exps))) → indexed ≡ are_indexes site scope (view_exps exps)
  sizes_end i indexed past so_far = sym (so_far ∙ ap (λ list. indexed && are_indexes site scope list) (exps_none exps i past) ∙ and_true indexed)
