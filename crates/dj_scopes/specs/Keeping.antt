-- What variables were before they were declared, and how they are put back (JLS 6.3).
use Rattle.std.specs.Prelude.{List, [], ◌∷◌, Option, Some, None, option_map, if◌then◌else◌}
use Rattle.dj_names.specs.Types.{JType, view_type}
use Rattle.dj_syntax.specs.declared.variable.Var.{Var}
use Rattle.dj_meaning.specs.StaticTypes.{Scope, is_same_variable}
use Rattle.dj_scopes.specs.declared.keeping.Kept.{Kept}

-- a scope in which a variable has this type, or none
abbrev pub with_kind : Var → Option JType → Scope → Scope
with_kind variable type scope other = if is_same_variable other variable then type else scope other

-- a scope with what variables were, the last one that was kept first
abbrev pub scope_back : List Kept → Scope → Scope
scope_back [] scope = scope
scope_back (one ∷ rest) scope = with_kind one.variable (option_map view_type one.kind) (scope_back rest scope)

-- a scope in which what is declared is what it was before
abbrev pub scope_without : Option (Var × JType) → Scope → Scope → Scope
scope_without None before scope = scope
scope_without (Some one) before scope = with_kind one.0 (before one.0) scope
