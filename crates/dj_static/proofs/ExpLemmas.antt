-- The types of lists of expressions.
use Rattle.std.proofs.Common.{◌≡◌, ℕ, suc, ◌+◌, ◌<◌, ◌≤◌, List, [], ◌∷◌, ◌++◌, map, length, drop, get_or, Option, Some, None, refl, sym, ap, ◌∙◌}
use Rattle.std.specs.Prelude.{option_map}
use Rattle.std.proofs.lemmas.List.{append-nil, append_assoc, map_push, drop_more, drop_all}
use Rattle.dj_names.specs.declared.static_type.StaticType as code_static
use Rattle.dj_names.specs.Types.{StaticType, view_static}
use Rattle.dj_syntax.specs.declared.expression.Exp as code_exp
use Rattle.dj_syntax.specs.Trees.{view_exp, view_exps}
use Rattle.dj_meaning.specs.StaticTypes.{Context, Scope, count, type_of, types_of, and_type}

-- as many expressions as there are
pub count_is : (exps : List code_exp.Exp) → count (view_exps exps) ≡ length exps
count_is [] = refl
count_is (exp ∷ exps) = ap suc (count_is exps)

-- types behind others
abbrev pub behind : List code_static.StaticType → Option (List StaticType) → Option (List StaticType)
behind types rest = option_map (λ more. map view_static types ++ more) rest

behind-none : (rest : Option (List StaticType)) → rest ≡ behind [] rest
behind-none None = refl
behind-none (Some more) = refl

behind-push : (types : List code_static.StaticType) (kind : code_static.StaticType) (rest : Option (List StaticType)) → behind types (option_map (λ more. view_static kind ∷ more) rest) ≡ behind (types ++ kind ∷ []) rest
behind-push types kind None = refl
behind-push types kind (Some more) =
    ap Some (sym (append_assoc (map view_static types) (view_static kind ∷ []) more) ∙ ap (λ front. front ++ more) (sym (map_push view_static types kind)))

module _ (context : Context) (scope : Scope) (exps : List code_exp.Exp) where
  abbrev all : Option (List StaticType)
  all = types_of context scope (view_exps exps)

  abbrev left : ℕ → Option (List StaticType)
  left i = types_of context scope (view_exps (drop i exps))

  left-more : (i : ℕ) (exp : code_exp.Exp) → i < length exps → exp ≡ get_or exps i exp → left i ≡ and_type (type_of context scope (view_exp exp)) (left (i + 1))
  left-more i exp within is =
      ap (λ list. types_of context scope (view_exps list)) (drop_more exps i exp within) ∙ ap (λ e. and_type (type_of context scope (view_exp e)) (left (i + 1))) (sym is)

  pub types_begin : all ≡ behind [] all
  types_begin = behind-none all

  pub types_more : (i : ℕ) (exp : code_exp.Exp) (kind : code_static.StaticType) (types : List code_static.StaticType) → i < length exps → exp ≡ get_or exps i exp
      → Some (view_static kind) ≡ type_of context scope (view_exp exp) → all ≡ behind types (left i) → all ≡ behind (types ++ kind ∷ []) (left (i + 1))
  types_more i exp kind types within is typed so_far =
      so_far ∙ ap (behind types) (left-more i exp within is ∙ ap (λ t. and_type t (left (i + 1))) (sym typed)) ∙ behind-push types kind (left (i + 1))

  pub types_none : (i : ℕ) (exp : code_exp.Exp) (types : List code_static.StaticType) → i < length exps → exp ≡ get_or exps i exp
      → None ≡ type_of context scope (view_exp exp) → all ≡ behind types (left i) → None ≡ all
  types_none i exp types within is typed so_far = sym (so_far ∙ ap (behind types) (left-more i exp within is ∙ ap (λ t. and_type t (left (i + 1))) (sym typed)))

  pub types_end : (i : ℕ) (types : List code_static.StaticType) → length exps ≤ i → all ≡ behind types (left i) → Some (map view_static types) ≡ all
  types_end i types past so_far =
      sym (so_far ∙ ap (λ list. behind types (types_of context scope (view_exps list))) (drop_all i exps past) ∙ ap Some (append-nil (map view_static types)))
