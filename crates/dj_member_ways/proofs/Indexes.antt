-- Operands that are indexes or sizes: each an int, a boolean as 1 or 0.
use Rattle.std.proofs.Common.{◌≡◌, ℕ, suc, pos, true, inl, inr, ◌⊎◌, length, List, [], ◌∷◌, Some, refl, sym, ap, subst, ◌∙◌}
use Rattle.std.specs.Prelude.{replicate}
use Rattle.dj_names.specs.declared.header.Header.{Header}
use Rattle.dj_names.specs.Types as types
use Rattle.dj_names.specs.Types.{JType, Boolean, Byte, Char, Short, Float, Double, Class, Array, StaticType, Of}
use Rattle.dj_syntax.specs.Trees.{Exp, Exps, NoExps, AndExp}
use Rattle.dj_syntax.specs.Trees as trees
use Rattle.dj_values.specs.Values.{Value, Int}
use Rattle.dj_values.specs.Outcomes.{State, Is, bind}
use Rattle.dj_meaning.specs.StaticTypes.{Context, Scope, count}
use Rattle.dj_meaning.specs.Runs.{Store}
use Rattle.dj_meaning.specs.Expressions.{value, tested, either}
use Rattle.dj_meaning.specs.Variables.{EachInExps}
use Rattle.dj_rebuilding.specs.Pending.{Typed, and_then}
use Rattle.dj_rebuilding.specs.Agreeing.{IsBelow}
use Rattle.dj_rebuilt.specs.Nodes.{is_whole, as_int}
use Rattle.dj_rebuilt.specs.Standing.{AreOperands}
use Rattle.dj_rebuilt.proofs.Arithmetic.{int-small}
use Rattle.dj_blocks_formed.proofs.Blocks.{made-if, both-are}
use Rattle.dj_members_shown.specs.Sorts as raw
use Rattle.dj_members_shown.specs.Sorts.{OnIs, IsSort, AreSorted}
use Rattle.dj_members_shown.specs.Operands as operand
use Rattle.dj_members_shown.specs.Operands.{IsOperand}
use Rattle.dj_members_shown.proofs.Binding.{bind-bind, bind-on, bind-is, on-weaker}
use Rattle.dj_members_shown.proofs.Dressing.{sort-of}
use Rattle.dj_member_nodes.specs.Nodes.{sizes_of}
use Rattle.dj_strict_entries.specs.Entries as strict
use Rattle.dj_strict_entries.specs.Entries.{GoesWhere, AllGo}

-- an int goes where an int is wanted
pub goes-int : (world : List Header) (from : StaticType) → is_whole from ≡ true → GoesWhere world from types.Int
goes-int world types.Null e = absurd (cc)
goes-int world (Of Boolean) e = record { kind = refl; goes = λ is. absurd is }
goes-int world (Of Byte) e = record { kind = refl; goes = λ is. absurd is }
goes-int world (Of Char) e = record { kind = refl; goes = λ is. absurd is }
goes-int world (Of Short) e = record { kind = refl; goes = λ is. absurd is }
goes-int world (Of types.Int) e = record { kind = refl; goes = λ is. absurd is }
goes-int world (Of types.Long) e = absurd (cc)
goes-int world (Of Float) e = absurd (cc)
goes-int world (Of Double) e = absurd (cc)
goes-int world (Of (Class name)) e = absurd (cc)
goes-int world (Of (Array element)) e = absurd (cc)

module _ (context : Context) (scope : Scope) where
  -- a boolean as 1 or 0
  boolean-same : (exp : Exp) (state : State Store) → OnIs (λ found after. (found ≡ Int (pos 0)) ⊎ (found ≡ Int (pos 1))) (value context scope exp state) → value context scope (trees.Choice exp (trees.Int (pos 1)) (trees.Int (pos 0))) state ≡ value context scope exp state
  boolean-same exp state is =
      bind-bind (value context scope exp state) (tested context) (λ answer. either answer (value context scope (trees.Int (pos 1))) (value context scope (trees.Int (pos 0))))
      ∙ bind-on (λ found after. (found ≡ Int (pos 0)) ⊎ (found ≡ Int (pos 1))) (value context scope exp state)
      (λ found after. bind (tested context found after) (λ answer. either answer (value context scope (trees.Int (pos 1))) (value context scope (trees.Int (pos 0))))) (λ found. Is found) is
      (λ found after. by found after)
      ∙ bind-is (value context scope exp state)
    where
      by : (found : Value) (after : State Store) → (found ≡ Int (pos 0)) ⊎ (found ≡ Int (pos 1))
          → bind (tested context found after) (λ answer. either answer (value context scope (trees.Int (pos 1))) (value context scope (trees.Int (pos 0)))) ≡ Is found after
      by found after (inl same) = subst (λ found. bind (tested context found after) (λ answer. either answer (value context scope (trees.Int (pos 1))) (value context scope (trees.Int (pos 0)))) ≡ Is found after) (sym same) refl
      by found after (inr same) = subst (λ found. bind (tested context found after) (λ answer. either answer (value context scope (trees.Int (pos 1))) (value context scope (trees.Int (pos 0)))) ≡ Is found after) (sym same) refl

  -- what is written for an int has the operand's value
  pub int-same : (type : StaticType) (exp : Exp) (state : State Store) → is_whole type ≡ true → OnIs (λ found after. IsOperand context.headers type types.Int found) (value context scope exp state) → value context scope (as_int type exp) state ≡ value context scope exp state
  int-same types.Null exp state e is = refl
  int-same (Of Boolean) exp state e is = boolean-same exp state is
  int-same (Of Byte) exp state e is = refl
  int-same (Of Char) exp state e is = refl
  int-same (Of Short) exp state e is = refl
  int-same (Of types.Int) exp state e is = refl
  int-same (Of types.Long) exp state e is = refl
  int-same (Of Float) exp state e is = refl
  int-same (Of Double) exp state e is = refl
  int-same (Of (Class name)) exp state e is = refl
  int-same (Of (Array element)) exp state e is = refl

  -- ---- sizes

  abbrev pub ints : List Typed → List JType
  ints are = replicate (length are) types.Int

  -- what is written for sizes
  pub record AreSizes (n : ℕ) (are : List Typed) (sizes : Exps) : Type 0 where
    pub many : count sizes ≡ length are
    pub go : (world : List Header) → AllGo world are (ints are)
    pub small : EachInExps (IsBelow n) sizes
    pub same : (state : State Store) → operand.AreOperands context scope (strict.exps_of are) (strict.types_of are) (ints are) state → raw.operands context scope sizes state ≡ raw.operands context scope (strict.exps_of are) state
    pub sorted : (state : State Store) → operand.AreOperands context scope (strict.exps_of are) (strict.types_of are) (ints are) state → AreSorted context scope sizes (replicate (count sizes) types.Int) state

  pub are-sizes : (n : ℕ) (are : List Typed) (sizes : Exps) → sizes_of are ≡ Some sizes → AreOperands context n scope are → AreSizes n are sizes
  are-sizes n [] sizes e h = let same : NoExps ≡ sizes = cc in subst (AreSizes n []) same (record { many = refl; go = λ world. tt; small = tt; same = λ state ops. refl; sorted = λ state ops. tt })
  are-sizes n (first ∷ rest) sizes e h =
      let m = made-if (is_whole first.0) (and_then (sizes_of rest) (λ more. Some (AndExp (as_int first.0 first.1) more))) sizes e in
      let b = both-are (sizes_of rest) (λ more. Some (AndExp (as_int first.0 first.1) more)) sizes m.1 in
      let same : AndExp (as_int first.0 first.1) b.one ≡ sizes = (let some = b.then_is in cc) in
      let others = are-sizes n rest b.one b.is h.1 in
      subst (AreSizes n (first ∷ rest)) same (record {
        many = ap suc others.many;
        go = λ world. (goes-int world first.0 m.0, others.go world);
        small = (int-small first.0 first.1 n h.0.small, others.small);
        same = λ state ops. front m.0 b.one others state ops;
        sorted = λ state ops. sorts m.0 b.one others state ops;
      })
    where
      Behind : Value → State Store → Type 0
      Behind one after = IsOperand context.headers first.0 types.Int one × operand.AreOperands context scope (strict.exps_of rest) (strict.types_of rest) (ints rest) after

      itself : is_whole first.0 ≡ true → (state : State Store) → OnIs Behind (value context scope first.1 state) → value context scope (as_int first.0 first.1) state ≡ value context scope first.1 state
      itself whole state ops = int-same first.0 first.1 state whole (on-weaker Behind (λ found after. IsOperand context.headers first.0 types.Int found) (value context scope first.1 state) ops (λ one after holds. holds.0))

      front : is_whole first.0 ≡ true → (more : Exps) → AreSizes n rest more → (state : State Store) → operand.AreOperands context scope (strict.exps_of (first ∷ rest)) (strict.types_of (first ∷ rest)) (ints (first ∷ rest)) state
          → raw.operands context scope (AndExp (as_int first.0 first.1) more) state ≡ raw.operands context scope (strict.exps_of (first ∷ rest)) state
      front whole more others state ops =
          ap (λ run. bind run (λ one after. bind (raw.operands context scope more after) (λ all. Is (one ∷ all)))) (itself whole state ops.1)
          ∙ bind-on Behind (value context scope first.1 state) (λ one after. bind (raw.operands context scope more after) (λ all. Is (one ∷ all))) (λ one after. bind (raw.operands context scope (strict.exps_of rest) after) (λ all. Is (one ∷ all))) ops.1
          (λ one after holds. ap (λ run. bind run (λ all. Is (one ∷ all))) (others.same after holds.1))

      sorts : is_whole first.0 ≡ true → (more : Exps) → AreSizes n rest more → (state : State Store) → operand.AreOperands context scope (strict.exps_of (first ∷ rest)) (strict.types_of (first ∷ rest)) (ints (first ∷ rest)) state
          → OnIs (λ one after. IsSort types.Int one × AreSorted context scope more (replicate (count more) types.Int) after) (value context scope (as_int first.0 first.1) state)
      sorts whole more others state ops =
          subst (OnIs (λ one after. IsSort types.Int one × AreSorted context scope more (replicate (count more) types.Int) after)) (sym (itself whole state ops.1))
          (on-weaker Behind (λ one after. IsSort types.Int one × AreSorted context scope more (replicate (count more) types.Int) after) (value context scope first.1 state) ops.1
          (λ one after holds. (sort-of context.headers first.0 types.Int one ops.0 holds.0, others.sorted after holds.1)))
