-- What a whole walk finds is what the rules on a body say.
use Rattle.std.proofs.Common.{◌≡◌, List, [], Option, Some, None, sym, ap, ap₂, ◌∙◌}
use Rattle.dj_names.specs.declared.header.Header.{Header}
use Rattle.dj_names.specs.declared.members.ClassMembers.{ClassMembers}
use Rattle.dj_syntax.specs.Trees.{Body}
use Rattle.dj_places.specs.Rules.{Holds}
use Rattle.dj_faults.specs.declared.fault.Fault.{Fault}
use Rattle.dj_faults.specs.Faults.{lower, first_fault}
use Rattle.dj_faults.specs.FirstFault.{IsFirstFault}
use Rattle.dj_faults.proofs.FaultLemmas.{none_broken, first_is}
use Rattle.dj_thrown.specs.declared.walk.Walk.{Walk}
use Rattle.dj_thrown.specs.Settings.{setting_in}
use Rattle.dj_thrown.specs.Bodies.{all_told, scope_in, body_throws, body_thrown}
use Rattle.dj_thrown.specs.Walks.{pass_list, opening, first_escaping}
use Rattle.dj_thrown.proofs.ToldLemmas.{told_escaping}
use Rattle.dj_thrown.proofs.ThrownLaw.{thrown_is, catching_is}

module _ (headers : List Header) (members : List ClassMembers) (body : Body) (ended : Walk)
    (walked : ended ≡ pass_list (setting_in headers members body) [] (scope_in body) body.statements opening) where
  pub body_throws_is : ended.thrown ≡ all_told (body_throws headers members body)
  body_throws_is = ap (λ (walk : Walk). walk.thrown) walked ∙ thrown_is (setting_in headers members body) [] (scope_in body) body.statements

  fault_is : (escaping : Option Fault) → escaping ≡ first_escaping headers body.thrown ended.thrown → lower ended.fault escaping ≡ first_fault (body_thrown headers members body)
  fault_is escaping is =
      ap₂ lower (ap (λ (walk : Walk). walk.fault) walked ∙ catching_is (setting_in headers members body) [] (scope_in body) body.statements)
      (is ∙ ap (first_escaping headers body.thrown) body_throws_is ∙ told_escaping headers body.thrown (body_throws headers members body))

  pub body_kept : (escaping : Option Fault) → escaping ≡ first_escaping headers body.thrown ended.thrown → lower ended.fault escaping ≡ None → Holds (body_thrown headers members body)
  body_kept escaping is none = none_broken (body_thrown headers members body) (sym (fault_is escaping is) ∙ none)

  pub body_broken : (escaping : Option Fault) (fault : Fault) → escaping ≡ first_escaping headers body.thrown ended.thrown → lower ended.fault escaping ≡ Some fault → IsFirstFault (body_thrown headers members body) fault
  body_broken escaping fault is some = first_is (body_thrown headers members body) fault (sym (fault_is escaping is) ∙ some)
