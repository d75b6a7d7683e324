-- An expression is passed where its parts are, and its own rules are looked at by their types.
use Rattle.std.proofs.Common.{◌≡◌, ℕ, Bool, List, Option, sym, ap, ◌∙◌}
use Rattle.dj_names.specs.Types.{StaticType}
use Rattle.dj_syntax.specs.declared.expression.Exp as code_exp
use Rattle.dj_syntax.specs.declared.expression.Exp.TheFolds.{fold-roll-Exp}
use Rattle.dj_syntax.specs.declared.expression.Exp.TheOpen as layer
use Rattle.dj_syntax.specs.declared.expression.Exp.TheVariants as variants
use Rattle.dj_syntax.specs.Trees as trees
use Rattle.dj_syntax.specs.Trees.{Exp, Exps, exp_layer, view_exp, view_exps}
use Rattle.dj_meaning.specs.StaticTypes.{Scope, type_of, types_of}
use Rattle.dj_typing.specs.Sites.{Site, context_of}
use Rattle.dj_typing.specs.Expressions.{are_indexes}
use Rattle.dj_checked.specs.declared.walk.Walk.{Walk}
use Rattle.dj_checked.specs.Walks.{step, pass_exp, pass_exps}

-- ---- how the expressions of the code are seen

pub view_field : (object : code_exp.Exp) (name : List ℕ) → view_exp (variants.Field object name) ≡ trees.Field (view_exp object) name
view_field object name = ap view_exp (sym (variants.rolls-Field object name)) ∙ fold-roll-Exp trees.Exp exp_layer (layer.Field object name)

-- ---- parts

module _ (site : Site) (scope : Scope) (before : Walk) where
  -- one part
  pub one_part : (rules : ℕ → Option StaticType → Walk → Walk) (operand : Exp) {start between behind : Walk} {place : ℕ} {kind : Option StaticType}
      → start ≡ step before → place ≡ before.place → between ≡ pass_exp site scope operand start → kind ≡ type_of (context_of site) scope operand → behind ≡ rules place kind between
      → behind ≡ rules before.place (type_of (context_of site) scope operand) (pass_exp site scope operand (step before))
  one_part rules operand begun at passed typed noted = noted ∙ (λ i. rules (at i) (typed i) ((passed ∙ ap (pass_exp site scope operand) begun) i))

  -- arguments
  pub listed_parts : (rules : ℕ → Option (List StaticType) → Walk → Walk) (arguments : Exps) {start between behind : Walk} {place : ℕ} {given : Option (List StaticType)}
      → start ≡ step before → place ≡ before.place → between ≡ pass_exps site scope arguments start → given ≡ types_of (context_of site) scope arguments → behind ≡ rules place given between
      → behind ≡ rules before.place (types_of (context_of site) scope arguments) (pass_exps site scope arguments (step before))
  listed_parts rules arguments begun at passed typed noted = noted ∙ (λ i. rules (at i) (typed i) ((passed ∙ ap (pass_exps site scope arguments) begun) i))

  -- sizes of an array
  pub sized_parts : (rules : ℕ → Bool → Bool → Walk → Walk) (sizes : Exps) (any : Bool) {start between behind : Walk} {place : ℕ} {sized indexed : Bool}
      → start ≡ step before → place ≡ before.place → between ≡ pass_exps site scope sizes start → indexed ≡ are_indexes site scope sizes → sized ≡ any → behind ≡ rules place sized indexed between
      → behind ≡ rules before.place any (are_indexes site scope sizes) (pass_exps site scope sizes (step before))
  sized_parts rules sizes any begun at passed indexes some noted =
      noted ∙ (λ i. rules (at i) (some i) (indexes i) ((passed ∙ ap (pass_exps site scope sizes) begun) i))

  -- an object and arguments
  pub called_parts : (rules : ℕ → Option StaticType → Option (List StaticType) → Walk → Walk) (object : Exp) (arguments : Exps) {start between next behind : Walk} {place : ℕ}
      {kind : Option StaticType} {given : Option (List StaticType)}
      → start ≡ step before → place ≡ before.place → between ≡ pass_exp site scope object start → kind ≡ type_of (context_of site) scope object
      → next ≡ pass_exps site scope arguments between → given ≡ types_of (context_of site) scope arguments → behind ≡ rules place kind given next
      → behind ≡ rules before.place (type_of (context_of site) scope object) (types_of (context_of site) scope arguments) (pass_exps site scope arguments (pass_exp site scope object (step before)))
  called_parts rules object arguments begun at passed typed more also noted =
      noted ∙ (λ i. rules (at i) (typed i) (also i) ((more ∙ ap (pass_exps site scope arguments) (passed ∙ ap (pass_exp site scope object) begun)) i))
