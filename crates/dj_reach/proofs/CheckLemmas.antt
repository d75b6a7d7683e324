-- What the check of a body answers: how the body ends is a rule at place 0, and its statements have theirs.
use Rattle.std.proofs.Common.{◌≡◌, ℕ, true, false, List, Some, None, refl, sym, ap, ◌∙◌, inl, arith}
use Rattle.dj_names.specs.declared.header.Header.{Header}
use Rattle.dj_names.specs.declared.members.ClassMembers.{ClassMembers}
use Rattle.dj_syntax.specs.Trees.{Body, Stms}
use Rattle.dj_places.specs.Rules.{Holds, IsFirstBroken}
use Rattle.dj_places.specs.Places.{told, lower, broken_at, first_broken}
use Rattle.dj_places.specs.declared.kind.TypeKind.TheVariants.{Reach}
use Rattle.dj_places.proofs.RuleLemmas.{none_broken, first_is}
use Rattle.dj_reach.specs.declared.walk.Walk.{Walk}
use Rattle.dj_reach.specs.Reach.{Site, list_completes, list_reach}
use Rattle.dj_reach.specs.Bodies.{ends_well, site_of, body_reach}
use Rattle.dj_reach.specs.Walks.{pass_list, opening}
use Rattle.dj_reach.proofs.ReachLaw.{list_completes_is, list_reach_is}

-- a walk past all statements of a body
record IsWalked (site : Site) (list : Stms) (walk : Walk) : Type 0 where
  alive : walk.alive ≡ list_completes site.around list
  fault : walk.fault ≡ first_broken (list_reach site true 0 list)

walked : (site : Site) (list : Stms) (start walk : Walk) → start ≡ opening → walk ≡ pass_list site list start → IsWalked site list walk
walked site list start walk begins is = record {
  alive = ap (λ (w : Walk). w.alive) (is ∙ ap (pass_list site list) begins) ∙ list_completes_is site list;
  fault = ap (λ (w : Walk). w.fault) (is ∙ ap (pass_list site list) begins) ∙ list_reach_is site list;
}

pub completes_told : (site : Site) (list : Stms) (start walk : Walk) → start ≡ opening → walk ≡ pass_list site list start → walk.alive ≡ list_completes site.around list
completes_told site list start walk begins is = (walked site list start walk begins is).alive

-- it ends well, and nothing else is broken
pub body_kept : (headers : List Header) (members : List ClassMembers) (body : Body) (start walk : Walk) → start ≡ opening → walk ≡ pass_list (site_of headers members body) body.statements start
    → ends_well body walk.alive ≡ true → walk.fault ≡ None → Holds (body_reach headers members body)
body_kept headers members body start walk begins is ends none =
    let x = walked (site_of headers members body) body.statements start walk begins is in
    (sym (ap (ends_well body) x.alive) ∙ ends, none_broken (list_reach (site_of headers members body) true 0 body.statements) (sym x.fault ∙ none))

-- it ends badly
pub body_ends_badly : (headers : List Header) (members : List ClassMembers) (body : Body) (start walk : Walk) → start ≡ opening → walk ≡ pass_list (site_of headers members body) body.statements start
    → ends_well body walk.alive ≡ false → (first : ℕ) × IsFirstBroken (body_reach headers members body) first × (0 ≡ told first)
body_ends_badly headers members body start walk begins is ends =
    let x = walked (site_of headers members body) body.statements start walk begins is in
    (0, record { kind = Reach; broken = inl (sym (ap (ends_well body) x.alive) ∙ ends, refl, refl); least = λ other of broken. omega arith }, refl)

-- it ends well, and a rule of its statements is broken
pub body_broken : (headers : List Header) (members : List ClassMembers) (body : Body) (start walk : Walk) (place : ℕ) → start ≡ opening → walk ≡ pass_list (site_of headers members body) body.statements start
    → ends_well body walk.alive ≡ true → walk.fault ≡ Some place → (first : ℕ) × IsFirstBroken (body_reach headers members body) first × (place ≡ told first)
body_broken headers members body start walk place begins is ends some =
    let x = walked (site_of headers members body) body.statements start walk begins is in
    first_is (body_reach headers members body) place
    (ap (λ kept. lower (broken_at 0 kept) (first_broken (list_reach (site_of headers members body) true 0 body.statements))) (sym (ap (ends_well body) x.alive) ∙ ends) ∙ sym x.fault ∙ some)
