-- The tests by which all that is pending is spilled around an instruction.
use Rattle.std.proofs.Common.{◌≡◌, ℕ, ◌+◌, max, min, nat_lt, Bool, true, false, not, ◌&&◌, List, [], ◌∷◌, Option, Some, None, refl, sym, ap, ◌∙◌, arith}
use Rattle.std.proofs.lemmas.Bool.Decides.{nat_tests}
use Rattle.std.specs.Prelude.{slice_get}
use Rattle.dj_syntax.specs.Trees.{Exp, Text, Truth, This, Variable, ClassOf, Field, Static, Element, Call, StaticCall, SuperCall, New, NewArray, Cast, InstanceOf, Negative, Not, Binary, Choice, Assign, Exps, NoExps, AndExp}
use Rattle.dj_syntax.specs.Trees as trees
use Rattle.dj_rebuilding.specs.Pending.{Pending, Kept, Whole, Born, Again}
use Rattle.dj_exits.specs.Ways as ways
use Rattle.dj_exits.specs.Ways.{levels, most_levels, two_atoms, is_deep}
use Rattle.dj_pending.specs.Heights.{height, height_of_all, levels_of}
use Rattle.dj_pending.specs.Births.{has_birth}
use Rattle.dj_rebuild.specs.Advancing.{is_kept_at}

mutual
  -- levels are counted alike
  pub height-is : (exp : Exp) → height exp ≡ levels exp
  height-is (trees.Int number) = refl
  height-is (trees.Long number) = refl
  height-is (Text units) = refl
  height-is (Truth known) = refl
  height-is trees.Null = refl
  height-is This = refl
  height-is (Variable variable) = refl
  height-is (ClassOf kind) = refl
  height-is (Field object name) = ap (λ (n : ℕ). n + 1) (height-is object)
  height-is (Static class name) = refl
  height-is (Element array index) = ap (λ (n : ℕ). max n (height index) + 1) (height-is array) ∙ ap (λ (n : ℕ). max (levels array) n + 1) (height-is index)
  height-is (Call object name arguments) = ap (λ (n : ℕ). max n (height_of_all arguments) + 1) (height-is object) ∙ ap (λ (n : ℕ). max (levels object) n + 1) (heights-are arguments)
  height-is (StaticCall class name arguments) = ap (λ (n : ℕ). n + 1) (heights-are arguments)
  height-is (SuperCall above name arguments) = ap (λ (n : ℕ). n + 1) (heights-are arguments)
  height-is (New class arguments) = ap (λ (n : ℕ). n + 1) (heights-are arguments)
  height-is (NewArray kind sizes more) = ap (λ (n : ℕ). n + 1) (heights-are sizes)
  height-is (Cast kind operand) = ap (λ (n : ℕ). n + 1) (height-is operand)
  height-is (InstanceOf operand kind) = ap (λ (n : ℕ). n + 1) (height-is operand)
  height-is (Negative operand) = ap (λ (n : ℕ). n + 1) (height-is operand)
  height-is (Not operand) = ap (λ (n : ℕ). n + 1) (height-is operand)
  height-is (Binary operator first second) = ap (λ (n : ℕ). max n (height second) + 1) (height-is first) ∙ ap (λ (n : ℕ). max (levels first) n + 1) (height-is second)
  height-is (Choice test first second) =
      ap (λ (n : ℕ). max n (max (height first) (height second)) + 1) (height-is test) ∙ ap (λ (n : ℕ). max (levels test) (max n (height second)) + 1) (height-is first)
      ∙ ap (λ (n : ℕ). max (levels test) (max (levels first) n) + 1) (height-is second)
  height-is (Assign variable new) = ap (λ (n : ℕ). n + 1) (height-is new)

  heights-are : (exps : Exps) → height_of_all exps ≡ most_levels exps
  heights-are NoExps = refl
  heights-are (AndExp first rest) = ap (λ (n : ℕ). max n (height_of_all rest)) (height-is first) ∙ ap (max (levels first)) (heights-are rest)

-- births are looked for alike
pub birth-is : (stack : List Pending) → has_birth stack ≡ ways.has_birth stack
birth-is [] = refl
birth-is (Kept type atom ∷ below) = birth-is below
birth-is (Whole type exp ∷ below) = birth-is below
birth-is (Born class ∷ below) = refl
birth-is (Again ∷ below) = refl

-- so are atoms
pub atoms-are : (stack : List Pending) → (is_kept_at 0 stack && is_kept_at 1 stack) ≡ two_atoms stack
atoms-are [] = refl
atoms-are (Kept type atom ∷ []) = refl
atoms-are (Kept type atom ∷ Kept other second ∷ below) = refl
atoms-are (Kept type atom ∷ Whole other exp ∷ below) = refl
atoms-are (Kept type atom ∷ Born class ∷ below) = refl
atoms-are (Kept type atom ∷ Again ∷ below) = refl
atoms-are (Whole type exp ∷ below) = refl
atoms-are (Born class ∷ below) = refl
atoms-are (Again ∷ below) = refl

-- more than 64 levels are told from fewer
cut : (n : ℕ) → nat_lt 64 (min n 65) ≡ nat_lt 64 n
cut n = grind (arith, nat_tests)

pub levels-tell : (count : ℕ) (exp : Exp) → count ≡ levels_of exp → nat_lt 64 count ≡ nat_lt 64 (levels exp)
levels-tell count exp e = ap (nat_lt 64) e ∙ cut (height exp) ∙ ap (nat_lt 64) (height-is exp)

-- the topmost entry tells whether it is deep
abbrev is_deep_found : Option Pending → Bool
is_deep_found None = false
is_deep_found (Some entry) = is_deep (entry ∷ [])

pub deep-there : (stack : List Pending) (top : Pending) → Some top ≡ slice_get stack 0 → is_deep (top ∷ []) ≡ is_deep stack
deep-there [] top e = absurd (cc)
deep-there (own ∷ below) top e = ap is_deep_found e ∙ by-entry own
  where
    by-entry : (own : Pending) → is_deep (own ∷ []) ≡ is_deep (own ∷ below)
    by-entry (Kept type atom) = refl
    by-entry (Whole type exp) = refl
    by-entry (Born class) = refl
    by-entry Again = refl

pub deep-nowhere : (stack : List Pending) → None ≡ slice_get stack 0 → false ≡ is_deep stack
deep-nowhere [] e = refl
deep-nowhere (own ∷ below) e = absurd (cc)

-- all is spilled behind what is deep, but inside births
pub after-is : (stack : List Pending) (deep birth : Bool) → deep ≡ is_deep stack → deep ≡ true → birth ≡ has_birth stack → not birth ≡ ways.after stack
after-is stack deep birth is there born = ap not (born ∙ birth-is stack) ∙ ap (λ (test : Bool). test && not (ways.has_birth stack)) (sym there ∙ is)
