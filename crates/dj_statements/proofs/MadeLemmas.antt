-- What is made of values by a semicolon, seen plainly.
use Rattle.std.proofs.Common.{◌≡◌, Bool, Option, List, map, rules}
use Rattle.std.specs.Prelude.{option_map}
use Rattle.dj_names.specs.Types.{view_type}
use Rattle.dj_names.specs.declared.types.JType.{JType as code_type}
use Rattle.dj_syntax.specs.declared.variable.Var.{Var}
use Rattle.dj_syntax.specs.declared.expression.Exp.{Exp as code_exp}
use Rattle.dj_syntax.specs.declared.statement.Stm.{the_lemmas as stm_lemmas}
use Rattle.dj_syntax.specs.declared.statement.Stm.TheVariants as stm
use Rattle.dj_syntax.specs.Trees.{Construct, Declare, Return, Run, exps_of, view_exp, view_stm}

pub view_run : (value : code_exp) → view_stm (stm.Run value) ≡ Run (view_exp value)
view_run value = search (rules, stm_lemmas)

pub view_declare : (variable : Var) (kind : code_type) (value : Option code_exp) → view_stm (stm.Declare variable kind value) ≡ Declare variable (view_type kind) (option_map view_exp value)
view_declare variable kind value = search (rules, stm_lemmas)

pub view_return : (value : Option code_exp) → view_stm (stm.Return value) ≡ Return (option_map view_exp value)
view_return value = search (rules, stm_lemmas)

pub view_construct : (own : Bool) (arguments : List code_exp) → view_stm (stm.Construct own arguments) ≡ Construct own (exps_of (map view_exp arguments))
view_construct own arguments = search (rules, stm_lemmas)
