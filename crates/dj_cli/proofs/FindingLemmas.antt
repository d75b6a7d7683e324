-- What is found of a method, by its code in the world.
use Rattle.std.proofs.Common.{◌≡◌, ℕ, ◌<◌, List, [], ◌∷◌, ◌++◌, false, Some, get_or, length, map, refl, sym, ap, ◌∙◌, subst, inl, inr}
use Rattle.std.specs.Prelude.{option_map, slice_get, ⊤}
use Rattle.std.proofs.lemmas.Option.{slice_get-map, slice_get_read}
use Rattle.std.proofs.lemmas.Bool.{both_ways}
use Rattle.dj_class.specs.Described.{ClassOf, MethodOf}
use Rattle.dj_world.specs.Worlds.{WorldOf, IsWorld}
use Rattle.dj_syntax.specs.Trees.{Exp, Body}
use Rattle.dj_syntax.specs.WellFormed.{IsWellFormedExp}
use Rattle.dj_instructions.specs.declared.kinds.Kind.TheVariants as kind
use Rattle.dj_instructions.specs.Instructions as instruction
use Rattle.dj_instructions.specs.Instructions.{Instruction, Instructions}
use Rattle.dj_frames.specs.Frames.{Frame}
use Rattle.dj_code.specs.MethodCode.{Code}
use Rattle.dj_code.specs.ReadCode.{SpellsCode}
use Rattle.dj_code.proofs.CodeIsOne.{one_code}
use Rattle.dj_tags.specs.Laxly.{Laxly}
use Rattle.dj_verify.specs.Table.{IsFrameTable}
use Rattle.dj_code_causes.specs.Places.{IsOne}
use Rattle.dj_code_causes.specs.Monitors.{is_on_monitor, HasMonitorAt}
use Rattle.dj_method_causes.specs.MethodCauses.{IsCodeAt}
use Rattle.dj_method_causes.specs.Telling.{IsUntold}
use Rattle.dj_method_causes.proofs.Told.{no_cause}
use Rattle.dj_straight.specs.declared.part.Operation.TheVariants.{Add, Sub, Mul}
use Rattle.dj_straight.specs.Straight.{Formula, Number, Parameter, Calculation, postfix, calc_of}
use Rattle.dj_straight.specs.StraightMethod.{IsStraightMethod, IsNotYet}
use Rattle.dj_decompiled.specs.Decompiled.{IsDecompiled, IsNotYetAt}
use Rattle.dj_decompiled.proofs.Decompiled.{bodies-show}
use Rattle.dj_cli.specs.Output.{IsVerified, IsNotYetMethod}
use Rattle.dj_cli.specs.Methods.{IsPrintable, IsPrintOf}
use Rattle.dj_cli.proofs.FittingLemmas.{decompiled_fits}

-- ---- no monitors

-- none of these instructions is on a monitor
abbrev NoMonitor : List Instruction → Type 0
NoMonitor [] = ⊤
NoMonitor (first ∷ rest) = (is_on_monitor first ≡ false) × NoMonitor rest

both_plain : (first second : List Instruction) → NoMonitor first → NoMonitor second → NoMonitor (first ++ second)
both_plain [] second none more = more
both_plain (one ∷ first) second none more = (none.0, both_plain first second none.1 more)

formula_plain : (formula : Formula) → NoMonitor (postfix formula)
formula_plain (Number number) = (refl, tt)
formula_plain (Parameter slot) = (refl, tt)
formula_plain (Calculation Add left right) = both_plain (postfix left) (postfix right ++ instruction.Calc (calc_of Add) kind.Int ∷ []) (formula_plain left) (both_plain (postfix right) (instruction.Calc (calc_of Add) kind.Int ∷ []) (formula_plain right) (refl, tt))
formula_plain (Calculation Sub left right) = both_plain (postfix left) (postfix right ++ instruction.Calc (calc_of Sub) kind.Int ∷ []) (formula_plain left) (both_plain (postfix right) (instruction.Calc (calc_of Sub) kind.Int ∷ []) (formula_plain right) (refl, tt))
formula_plain (Calculation Mul left right) = both_plain (postfix left) (postfix right ++ instruction.Calc (calc_of Mul) kind.Int ∷ []) (formula_plain left) (both_plain (postfix right) (instruction.Calc (calc_of Mul) kind.Int ∷ []) (formula_plain right) (refl, tt))

none_there : (instructions : Instructions) → NoMonitor (map (λ (i : ℕ × Instruction). i.1) instructions) → (pc : ℕ) → ¬ IsOne is_on_monitor instructions pc
none_there [] none pc one = one
none_there (at ∷ rest) none pc (inl here) = both_ways (is_on_monitor at.1) none.0 here.1
none_there (at ∷ rest) none pc (inr there) = none_there rest none.1 pc there

-- ---- what is found

-- what stands at a place, as it is seen
pub seen_at : {X Y : Type 0} (f : X → Y) (xs : List X) (i : ℕ) (x : X) → i < length xs → x ≡ get_or xs i x → slice_get (map f xs) i ≡ Some (f x)
seen_at f xs i x lt is = slice_get-map f xs i ∙ ap (option_map f) (slice_get_read xs (length xs) i x refl lt is)

module _ (world : WorldOf) (class : ClassOf) (before : List MethodOf) (method : MethodOf) where
  -- a straight method has no instruction on a monitor
  straight_plain : (exp : Exp) (straight : IsStraightMethod class before method exp) → (pc : ℕ) → ¬ HasMonitorAt straight.code pc
  straight_plain exp straight =
      none_there straight.code.instructions
      (subst NoMonitor (sym straight.postfix.straight.form) (both_plain (postfix straight.formula) (instruction.Return (Some kind.Int) ∷ []) (formula_plain straight.formula) (refl, tt)))

  -- the code of the method at a place
  pub code_here : (at : ℕ) (code : Code) → slice_get class.methods at ≡ Some method → SpellsCode class method code → IsCodeAt class at code
  code_here at code here spelled = record {
    own = spelled.head.class_is;
    method = method;
    here = here;
    name = spelled.head.name;
    flags = spelled.head.flags;
    descriptor = spelled.head.descriptor;
    thrown = spelled.head.thrown;
  }

  module _ (code : Code) (frames : List Frame) (spelled : SpellsCode class method code) (table : IsFrameTable (Laxly world.headers) world.headers code frames) where
    -- whatever code the method has, it is the one that is verified
    verified_code : (same : Code) → SpellsCode class method same → IsVerified world same
    verified_code same also = subst (IsVerified world) (one_code class method code same spelled also) (record { frames = frames; table = table })

    module _ (is_world : IsWorld world) (here : slice_get class.methods (length before) ≡ Some method) (untold : IsUntold world class (length before) (record { code = code; frames = frames })) where
      -- code without monitors has no cause by the frames by which it is verified
      pub finds_straight : (exp : Exp) → IsStraightMethod class before method exp → IsWellFormedExp exp → IsPrintable world class before method exp
      finds_straight exp straight fits = record {
        is_world = is_world;
        here = here;
        straight = straight;
        typed = record { code = code; frames = frames };
        spelled = spelled;
        table = table;
        free = no_cause world class (length before) (record { code = code; frames = frames }) untold (subst (λ (same : Code). (pc : ℕ) → ¬ HasMonitorAt same pc) (one_code class method straight.code code straight.spelled spelled) (straight_plain exp straight));
        fits = fits;
      }

      -- the body to which code is decompiled is printed
      pub finds_decompiled : (body : Body) → IsDecompiled world (record { code = code; frames = frames }) body → IsPrintOf world class before method body
      finds_decompiled body is =
          let shown = bodies-show world class (length before) (record { code = code; frames = frames }) body (record { is_world = is_world; method = method; here = here; spells = spelled; table = table; untold = untold }) is in
          record {
            prints = record { typed = record { code = code; frames = frames }; spelled = spelled; table = table; free = shown.free; made = inr is; shows = shown.shows; lawful = shown.lawful };
            fits = decompiled_fits world class method (record { code = code; frames = frames }) body spelled is;
          }

      pub finds_not_yet : (other : ℕ) → IsNotYet class before method other → (pc : ℕ) → IsNotYetAt world (record { code = code; frames = frames }) pc → IsNotYetMethod world class before method pc
      finds_not_yet other not_straight pc not_yet = record {
        some = rw spelled.has.body refl;
        other = other;
        not_straight = not_straight;
        verified = verified_code;
        typed = record { code = code; frames = frames };
        spelled = spelled;
        table = table;
        untold = untold;
        not_yet = not_yet;
      }
