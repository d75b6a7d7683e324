use Rattle.std.proofs.Common.{arith}
use Rattle.std.proofs.lemmas.Bool.{false≢true}
use Rattle.std.proofs.lemmas.Bool.Decides.{nat_tests}
use Rattle.dj_effects.proofs.StackWords.{stacked_words}
use Rattle.dj_effects.proofs.stack.Stack.fits.Goals as goal

pub returns-in-Some : goal.returns-in-Some
returns-in-Some c =
    let all = stacked_words c.self.inside.below c.self.inside.top.items in
    let left = rw c.as_slice.ensures at c.in-Some.ensures.left in
    let below = c.words.ensures.words in
    rw (← c.self.view_is) (record { fits = (λ yes. grind (arith, nat_tests, all, left, below, yes), λ few. grind (arith, nat_tests, all, left, below, few)) })

pub returns-in-None : goal.returns-in-None
returns-in-None c =
    let all = stacked_words c.self.inside.below c.self.inside.top.items in
    let none = rw c.as_slice.ensures at c.in-None.ensures.none in
    rw (← c.self.view_is) (record { fits = (λ yes. absurd (false≢true yes), λ few. absurd (omega (arith, all, none, few))) })
