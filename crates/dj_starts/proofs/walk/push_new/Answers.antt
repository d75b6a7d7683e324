use Rattle.std.proofs.Common.{◌<◌, ◌++◌, ◌∷◌, [], get_or, sym, subst, inl, inr}
use Rattle.std.specs.List.{Contains}
use Rattle.std.proofs.lemmas.List.Quantifiers.{all_pairs_push}
use Rattle.std.proofs.lemmas.List.Elements.{Contains-append_left, Contains-push, Contains-push_cases, Contains-get_or}
use Rattle.dj_starts.specs.Walking.{Begins}
use Rattle.dj_starts.proofs.walk.push_new.Goals as goal

pub returns-in_ok-push-in-New-clause-rising : goal.returns-in_ok-push-in-New-clause-rising
returns-in_ok-push-in-New-clause-rising c =
    let xs = c.args.unborn.now in
    rw c.in_ok-push-in-New.ensures.ok (all_pairs_push (λ x y. x < y) xs c.args.pc c.requires.rising (λ k d short. c.requires.below (get_or xs k d) (Contains-get_or xs k d short)))

pub returns-in_ok-push-in-New-clause-begun : goal.returns-in_ok-push-in-New-clause-begun
returns-in_ok-push-in-New-clause-begun c = λ start.
    let xs = c.args.unborn.now in
    rw c.in_ok-push-in-New.ensures.ok (
      λ h. elim (Contains-push_cases xs c.args.pc start h) [ inl old ↦ inl old | inr same ↦ inr (subst (λ r. Begins r c.args.pc start) (sym c.in-New.is) (sym same)) ],
      λ h. elim h [
        | inl old ↦ Contains-append_left xs (c.args.pc ∷ []) start old
        | inr new ↦ subst (λ n. Contains (xs ++ c.args.pc ∷ []) n) (sym (subst (λ r. Begins r c.args.pc start) c.in-New.is new)) (Contains-push xs c.args.pc)
      ],
    )
