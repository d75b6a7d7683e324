-- The rules on what is thrown and caught (JLS 11.2.3): a catch clause of a checked class stands only where that can be thrown.
use Rattle.std.specs.Prelude.{ℕ, ◌+◌, Bool, true, not, ◌&&◌, ◌||◌, List, [], ◌∷◌, ◌++◌, codes}
use Rattle.std.specs.List.{list_any}
use Rattle.dj_names.specs.declared.header.Header.{Header}
use Rattle.dj_names.specs.Headers.{Name}
use Rattle.dj_names.specs.Types.{Class}
use Rattle.dj_syntax.specs.Trees.{Stm, Block, Labelled, Declare, Set, SetField, SetStatic, SetElement, Run, If, While, Switch, Break, Continue, Return, Throw, Rethrow, Try, Synchronized, Construct, Do, For, Finally, Stms, Empty, And, Groups, NoGroups, AndGroup, Catches, NoCatches, AndCatch}
use Rattle.dj_syntax.specs.Weight.{weight_of, weight_of_exp, weight_of_stms}
use Rattle.dj_values.specs.Deciding.{is_name, is_subclass}
use Rattle.dj_values.specs.Fits.{throwable_name}
use Rattle.dj_meaning.specs.StaticTypes.{Scope, with_type}
use Rattle.dj_meaning.specs.Declarations.{declared, within, behind}
use Rattle.dj_places.specs.Rules.{Rules, NoRule, Rule, ◌and◌}
use Rattle.dj_places.specs.declared.kind.TypeKind.TheVariants.{Thrown, Catch}
use Rattle.dj_thrown.specs.declared.throwing.Throwing.{Throwing}
use Rattle.dj_thrown.specs.declared.throwing.Held.{Held}
use Rattle.dj_thrown.specs.Settings.{Setting}
use Rattle.dj_thrown.specs.Throws.{left, holding, list_throws}

-- ---- checked classes

-- a class below Throwable, and below neither RuntimeException nor Error (11.1.1)
abbrev pub is_checked : List Header → Name → Bool
is_checked headers class =
    is_subclass headers class throwable_name
    && (not (is_subclass headers class (codes "java/lang/RuntimeException")) && not (is_subclass headers class (codes "java/lang/Error")))

-- one of these is a class or above it
abbrev pub is_below_one : List Header → Name → List Name → Bool
is_below_one headers class = list_any (λ above. is_subclass headers class above)

-- a class may be thrown out of a method that declares these
abbrev pub may_escape : List Header → List Name → Name → Bool
may_escape headers declared class = not (is_checked headers class) || is_below_one headers class declared

-- ---- catch clauses

-- one of what is thrown is of a class, or of one below or above it
abbrev pub is_met : List Header → Name → List Throwing → Bool
is_met headers class = list_any (λ (thrown : Throwing). is_subclass headers thrown.class class || is_subclass headers class thrown.class)

-- a clause may take this class from a list that throws this: a checked one other than Throwable and Exception only where the list throws such
abbrev pub may_catch : List Header → List Throwing → Name → Bool
may_catch headers thrown class =
    not (is_checked headers class) || (is_name class throwable_name || (is_name class (codes "java/lang/Exception") || is_met headers class thrown))

-- each of these clauses may
abbrev pub may_all_catch : List Header → List Throwing → Catches → Bool
may_all_catch headers thrown NoCatches = true
may_all_catch headers thrown (AndCatch class variable body rest) = may_catch headers thrown class && may_all_catch headers thrown rest

abbrev mutual
  -- the rules on the catch clauses in a statement
  pub catching : Setting → List Held → Scope → ℕ → Stm → Rules
  catching setting held scope place (Block list) = list_catching setting held scope (place + 1) list
  catching setting held scope place (Labelled label statement) = catching setting held scope (place + 1) statement
  catching setting held scope place (Declare variable kind initial) = NoRule
  catching setting held scope place (Set variable new) = NoRule
  catching setting held scope place (SetField object name new) = NoRule
  catching setting held scope place (SetStatic class name new) = NoRule
  catching setting held scope place (SetElement array index new) = NoRule
  catching setting held scope place (Run call) = NoRule
  catching setting held scope place (If test first second) =
      list_catching setting held scope (place + 1 + weight_of_exp test) first
      and list_catching setting held scope (place + 1 + weight_of_exp test + weight_of_stms first) second
  catching setting held scope place (While test body) = list_catching setting held scope (place + 1 + weight_of_exp test) body
  catching setting held scope place (Switch on groups) = groups_catching setting held scope (place + 1 + weight_of_exp on) groups
  catching setting held scope place (Break label) = NoRule
  catching setting held scope place (Continue label) = NoRule
  catching setting held scope place (Return result) = NoRule
  catching setting held scope place (Throw exception) = NoRule
  catching setting held scope place (Rethrow variable) = NoRule
  catching setting held scope place (Try body catches) =
      let thrown = list_throws setting held scope (place + 1) body in
      list_catching setting held scope (place + 1) body and Rule place Catch (may_all_catch setting.headers thrown catches)
      and catches_catching setting held scope thrown (place + 1 + weight_of_stms body) catches
  catching setting held scope place (Synchronized monitor body) = list_catching setting held scope (place + 1 + weight_of_exp monitor) body
  catching setting held scope place (Construct own arguments) = NoRule
  catching setting held scope place (Do body test) = list_catching setting held scope (place + 1) body
  catching setting held scope place (For test variable step body) =
      list_catching setting held scope (place + 1 + weight_of_exp test + weight_of_exp step) body
  catching setting held scope place (Finally body last) =
      list_catching setting held scope (place + 1) body and list_catching setting held scope (place + 1 + weight_of_stms body) last

  pub list_catching : Setting → List Held → Scope → ℕ → Stms → Rules
  list_catching setting held scope place Empty = NoRule
  list_catching setting held scope place (And first rest) =
      catching setting held scope place first and list_catching setting held (within (declared first) scope) (place + weight_of first) rest

  pub catches_catching : Setting → List Held → Scope → List Throwing → ℕ → Catches → Rules
  catches_catching setting held scope thrown place NoCatches = NoRule
  catches_catching setting held scope thrown place (AndCatch class variable body rest) =
      list_catching setting (held ++ holding setting.headers class variable body thrown ∷ []) (with_type variable (Class class) scope) place body
      and catches_catching setting held scope (left setting.headers class thrown) (place + weight_of_stms body) rest

  pub groups_catching : Setting → List Held → Scope → ℕ → Groups → Rules
  groups_catching setting held scope place NoGroups = NoRule
  groups_catching setting held scope place (AndGroup labels body rest) =
      list_catching setting held scope place body and groups_catching setting held (behind body scope) (place + weight_of_stms body) rest

-- ---- what is thrown out of a body

-- each class that is thrown may escape
abbrev pub escaping : List Header → List Name → List Throwing → Rules
escaping headers declared [] = NoRule
escaping headers declared (thrown ∷ rest) = Rule thrown.place Thrown (may_escape headers declared thrown.class) and escaping headers declared rest
