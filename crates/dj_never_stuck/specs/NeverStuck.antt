-- A typed body never goes wrong: no run of it stops where the rules of the language rule it out.
use Rattle.std.specs.Prelude.{◌≡◌, ◌≤◌, ℕ, true, false, List, map, length}
use Rattle.dj_names.specs.declared.header.Header.{Header}
use Rattle.dj_names.specs.declared.members.ClassMembers.{ClassMembers}
use Rattle.dj_names.specs.MethodNames.{is_constructor}
use Rattle.dj_names.specs.Types.{parameters_of}
use Rattle.dj_syntax.specs.Trees.{Body}
use Rattle.dj_values.specs.Values.{Value, Answer}
use Rattle.dj_values.specs.Fits.{is_static, behind_this, AreArguments}
use Rattle.dj_meaning.specs.Members.{view_members}
use Rattle.dj_meaning.specs.Meaning.{run_body, context_of, entered}
use Rattle.dj_meaning.specs.Preserving.{IsFree}
use Rattle.dj_widened.specs.Widens.{Widens}
use Rattle.dj_held.specs.Running.{AreMembers}
use Rattle.dj_typed.specs.Bodies.{IsTyped}

-- a body is one that a method can have: a constructor isn't static (JVMS 4.6), and its parameters are no more than variables of 32 bits can be
-- (JVMS 4.3.3 allows 255)
pub record IsMethodBody (body : Body) : Type 0 where
  pub constructor : is_constructor body.name ≡ true → is_static body.flags ≡ false
  pub parameters : length (parameters_of body.descriptor) ≤ 4294967295

-- no run of a typed body is stuck: whatever classes run beside those of its world, from arguments that fit its method, whatever the answers, at each bound
abbrev pub TypedIsNeverStuck : Type 0
TypedIsNeverStuck =
    (world headers : List Header) (members : List ClassMembers) (body : Body) → Widens world headers → AreMembers world (map view_members members)
    → IsMethodBody body → IsTyped world members body
    → (arguments : List Value) → AreArguments headers body.class (is_static body.flags) (parameters_of body.descriptor) arguments → (answers : List Answer) (bound : ℕ)
    → IsFree (run_body (context_of headers members body arguments) body bound (entered (behind_this (is_static body.flags) arguments) answers))
