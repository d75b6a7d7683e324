-- Operands that are taken one by one are those that are taken together.
use Rattle.std.proofs.Common.{◌≡◌, ℕ, zero, suc, List, [], ◌∷◌, Option, Some, None, refl, ap, ◌∙◌}
use Rattle.dj_rebuilding.specs.Pending.{Pending, Kept, Whole, Born, Again, Built, Typed, exp_of, and_then, with_operands}
use Rattle.dj_pending.specs.Operands.{taken_from}
use Rattle.dj_member_trees.specs.Fitting.{above, taken_by, itself}

-- what is built of operands and what lies below them
abbrev pub Make : Type 0
Make = List Typed → List Pending → Option Built

-- so many operands together
abbrev pub together : ℕ → List Typed → List Pending → Make → Option Built
together count behind stack make = and_then (taken_from count behind stack) (λ found. make found.0 found.1)

abbrev pub nothing-built : Option Built
nothing-built = None

pub none-behind : {A : Type 0} (found : Option A) → and_then found (λ (one : A). nothing-built) ≡ nothing-built
none-behind None = refl
none-behind (Some one) = refl

-- what was picked, and what is built then
pub on-above : {A : Type 0} (below : List Pending) (found : Option A) (next : A → List Pending → Option Built) → and_then (above below found) (λ (one : A × List Pending). next one.0 one.1) ≡ and_then found (λ one. next one below)
on-above below None next = refl
on-above below (Some one) next = refl

-- the next of those that are picked
abbrev then_taken : {A B : Type 0} → (Typed → Option A) → (A → B → List Pending → Option Built) → B × List Pending → Option Built
then_taken {A} pick next last = and_then (taken_by pick last.1) (λ (one : A × List Pending). next one.0 last.0 one.1)

pub on-two : {A B : Type 0} (pick : Typed → Option A) (second : Option B) (first : Option A) (below rest : List Pending) (next : A → B → List Pending → Option Built) → taken_by pick below ≡ above rest first
    → and_then (above below second) (then_taken pick next) ≡ and_then second (λ last. and_then first (λ one. next one last rest))
on-two pick None first below rest next is = refl
on-two {A} pick (Some last) first below rest next is = ap (λ (found : Option (A × List Pending)). and_then found (λ one. next one.0 last one.1)) is ∙ on-above rest first (λ one. next one last)

pub no-two : {A B : Type 0} (pick : Typed → Option A) (second : Option B) (below : List Pending) (next : A → B → List Pending → Option Built) → taken_by pick below ≡ None → and_then (above below second) (then_taken pick next) ≡ None
no-two pick None below next is = refl
no-two {A} pick (Some last) below next is = ap (λ (found : Option (A × List Pending)). and_then found (λ one. next one.0 last one.1)) is

-- ---- one operand

pub one-by : {A : Type 0} (pick : Typed → Option A) (next : A → List Pending → Option Built) (make : Make) → ((one : Typed) (below : List Pending) → and_then (pick one) (λ found. next found below) ≡ make (one ∷ []) below)
    → (stack : List Pending) → and_then (taken_by pick stack) (λ found. next found.0 found.1) ≡ together 1 [] stack make
one-by pick next make is [] = refl
one-by pick next make is (Kept type atom ∷ below) = on-above below (pick (type, exp_of atom)) next ∙ is (type, exp_of atom) below
one-by pick next make is (Whole type exp ∷ below) = on-above below (pick (type, exp)) next ∙ is (type, exp) below
one-by pick next make is (Born class ∷ below) = refl
one-by pick next make is (Again ∷ below) = refl

-- ---- two

module _ {A B : Type 0} (pick : Typed → Option A) (last_pick : Typed → Option B) (next : A → B → List Pending → Option Built) (behind : List Typed) (make : Make)
    (is : (one last : Typed) (below : List Pending) → and_then (last_pick last) (λ right. and_then (pick one) (λ left. next left right below)) ≡ make (one ∷ last ∷ behind) below) where
  by-first : (last : Typed) (below : List Pending) → and_then (above below (last_pick last)) (then_taken pick next) ≡ together 1 (last ∷ behind) below make
  by-first last [] = no-two pick (last_pick last) [] next refl
  by-first last (Kept type atom ∷ rest) = on-two pick (last_pick last) (pick (type, exp_of atom)) (Kept type atom ∷ rest) rest next refl ∙ is (type, exp_of atom) last rest
  by-first last (Whole type exp ∷ rest) = on-two pick (last_pick last) (pick (type, exp)) (Whole type exp ∷ rest) rest next refl ∙ is (type, exp) last rest
  by-first last (Born class ∷ rest) = no-two pick (last_pick last) (Born class ∷ rest) next refl
  by-first last (Again ∷ rest) = no-two pick (last_pick last) (Again ∷ rest) next refl

  pub two-by : (stack : List Pending) → and_then (taken_by last_pick stack) (λ right. and_then (taken_by pick right.1) (λ left. next left.0 right.0 left.1)) ≡ together 2 behind stack make
  two-by [] = refl
  two-by (Kept type atom ∷ below) = by-first (type, exp_of atom) below
  two-by (Whole type exp ∷ below) = by-first (type, exp) below
  two-by (Born class ∷ below) = refl
  two-by (Again ∷ below) = refl

-- ---- one that is taken as it is, before others

pub first-of : (count : ℕ) (next : Typed → List Pending → Option Built) (behind : List Typed) (make : Make) → ((one : Typed) (below : List Pending) → next one below ≡ together count (one ∷ behind) below make)
    → (stack : List Pending) → and_then (taken_by itself stack) (λ found. next found.0 found.1) ≡ together (suc count) behind stack make
first-of count next behind make is [] = refl
first-of count next behind make is (Kept type atom ∷ below) = is (type, exp_of atom) below
first-of count next behind make is (Whole type exp ∷ below) = is (type, exp) below
first-of count next behind make is (Born class ∷ below) = refl
first-of count next behind make is (Again ∷ below) = refl

-- ---- as the definition takes them

pub operands-taken : (count : ℕ) (behind : List Typed) (stack : List Pending) (make : Make) → with_operands count behind stack make ≡ together count behind stack make
operands-taken zero behind stack make = refl
operands-taken (suc count) behind [] make = refl
operands-taken (suc count) behind (Kept type atom ∷ below) make = operands-taken count _ below make
operands-taken (suc count) behind (Whole type exp ∷ below) make = operands-taken count _ below make
operands-taken (suc count) behind (Born class ∷ below) make = refl
operands-taken (suc count) behind (Again ∷ below) make = refl

-- what is made alike
pub made-alike : (count : ℕ) (behind : List Typed) (stack : List Pending) (make other : Make) → ((are : List Typed) (below : List Pending) → make are below ≡ other are below) → together count behind stack make ≡ together count behind stack other
made-alike count behind stack make other is = by-found (taken_from count behind stack)
  where
    by-found : (found : Option (List Typed × List Pending)) → and_then found (λ (one : List Typed × List Pending). make one.0 one.1) ≡ and_then found (λ (one : List Typed × List Pending). other one.0 one.1)
    by-found None = refl
    by-found (Some one) = is one.0 one.1
