-- Operands that are taken, one or two, and what nodes make of them.
use Rattle.std.proofs.Common.{◌≡◌, ℕ, suc, ◌+◌, ◌-◌, ◌<◌, List, [], ◌∷◌, ◌++◌, length, Option, Some, None, refl, sym, ap, ◌∙◌, arith, length-append}
use Rattle.std.proofs.lemmas.Option.{same_Some}
use Rattle.dj_rebuilding.specs.Pending.{Pending, Kept, Whole, Born, Again, Typed, exp_of}
use Rattle.dj_pending.specs.declared.entry.Operand.{Operand}
use Rattle.dj_pending.specs.Entries.{view_operand, operand_of}
use Rattle.dj_pending.specs.Operands.{operands_of, taken_from}

-- what stands last comes first
pub last-first : (rest : List Operand) (last : Operand) → operands_of (rest ++ last ∷ []) ≡ view_operand last ∷ operands_of rest
last-first [] last = refl
last-first (first ∷ rest) last = ap (λ (list : List Typed). list ++ view_operand first ∷ []) (last-first rest last)

-- ---- taking

taken-step : (more : ℕ) (behind : List Typed) (top : Pending) (below : List Pending) (operand : Typed) → Some operand ≡ operand_of top → taken_from (suc more) behind (top ∷ below) ≡ taken_from more (operand ∷ behind) below
taken-step more behind (Kept type atom) below operand e = ap (λ (x : Typed). taken_from more (x ∷ behind) below) (same_Some (type, exp_of atom) operand (sym e))
taken-step more behind (Whole type exp) below operand e = ap (λ (x : Typed). taken_from more (x ∷ behind) below) (same_Some (type, exp) operand (sym e))
taken-step more behind (Born class) below operand e = absurd (cc)
taken-step more behind Again below operand e = absurd (cc)

taken-stops : (more : ℕ) (behind : List Typed) (top : Pending) (below : List Pending) → None ≡ operand_of top → taken_from (suc more) behind (top ∷ below) ≡ None
taken-stops more behind (Kept type atom) below e = absurd (cc)
taken-stops more behind (Whole type exp) below e = absurd (cc)
taken-stops more behind (Born class) below e = refl
taken-stops more behind Again below e = refl

one-less : (count done : ℕ) → done < count → count - done ≡ suc (count - (done + 1))
one-less count done less = omega arith

-- one more is taken
pub one-taken : (count : ℕ) (taken after : List Operand) (stack below : List Pending) (top : Pending) (operand : Operand) (whole : Option (List Typed × List Pending)) → length taken < count → stack ≡ top ∷ below
    → Some (view_operand operand) ≡ operand_of top → after ≡ taken ++ operand ∷ [] → taken_from (count - length taken) (operands_of taken) stack ≡ whole → taken_from (count - length after) (operands_of after) below ≡ whole
one-taken count taken after stack below top operand whole less is found pushed so_far =
    let longer : length after ≡ length taken + 1 = ap length pushed ∙ length-append taken (operand ∷ []) in
    ap (λ (n : ℕ). taken_from (count - n) (operands_of after) below) longer
    ∙ ap (λ (list : List Typed). taken_from (count - (length taken + 1)) list below) (ap operands_of pushed ∙ last-first taken operand)
    ∙ sym (taken-step (count - (length taken + 1)) (operands_of taken) top below (view_operand operand) found)
    ∙ ap (λ (n : ℕ). taken_from n (operands_of taken) (top ∷ below)) (sym (one-less count (length taken) less))
    ∙ ap (taken_from (count - length taken) (operands_of taken)) (sym is) ∙ so_far

-- what is there can't be taken
pub none-taken : (count : ℕ) (taken : List Operand) (stack below : List Pending) (top : Pending) (whole : Option (List Typed × List Pending)) → length taken < count → stack ≡ top ∷ below → None ≡ operand_of top
    → taken_from (count - length taken) (operands_of taken) stack ≡ whole → None ≡ whole
none-taken count taken stack below top whole less is none so_far =
    sym (taken-stops (count - (length taken + 1)) (operands_of taken) top below none) ∙ ap (λ (n : ℕ). taken_from n (operands_of taken) (top ∷ below)) (sym (one-less count (length taken) less))
    ∙ ap (taken_from (count - length taken) (operands_of taken)) (sym is) ∙ so_far

-- nothing is there
pub none-there : (count : ℕ) (taken : List Operand) (stack : List Pending) (whole : Option (List Typed × List Pending)) → length taken < count → stack ≡ [] → taken_from (count - length taken) (operands_of taken) stack ≡ whole → None ≡ whole
none-there count taken stack whole less is so_far =
    ap (λ (n : ℕ). taken_from n (operands_of taken) []) (sym (one-less count (length taken) less)) ∙ ap (taken_from (count - length taken) (operands_of taken)) (sym is) ∙ so_far

-- all are taken
pub all-taken : (count : ℕ) (taken : List Operand) (stack : List Pending) (whole : Option (List Typed × List Pending)) → count - length taken ≡ 0 → taken_from (count - length taken) (operands_of taken) stack ≡ whole → Some (operands_of taken, stack) ≡ whole
all-taken count taken stack whole none so_far = ap (λ (n : ℕ). taken_from n (operands_of taken) stack) (sym none) ∙ so_far
