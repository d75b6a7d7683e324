-- The unit of a class that no cause refuses is well formed, and with the lines on its members it is the class's piece.
use Rattle.std.proofs.Common.{◌≡◌, ℕ, ◌+◌, List, [], ◌++◌, Option, length, refl, sym, subst, arith}
use Rattle.dj_class.specs.Described.{ClassOf}
use Rattle.dj_world.specs.Worlds.{WorldOf}
use Rattle.dj_syntax.specs.Trees.{Body, CompilationUnit}
use Rattle.dj_syntax.specs.UnitText.{unit_text}
use Rattle.dj_syntax.specs.WellFormed.{IsWellFormed}
use Rattle.dj_grammar.proofs.OneText.{units_have_one_text}
use Rattle.dj_print.specs.Spelled.{IsAsciiName}
use Rattle.dj_print.proofs.NamesAreAscii.{ascii_qualified}
use Rattle.dj_causes.specs.declared.cause.ClassCause.{ClassCause}
use Rattle.dj_causes.specs.ClassCauses.{HasClassCause}
use Rattle.dj_class_text.specs.ClassText.{IsClassText}
use Rattle.dj_class_text.specs.Formed.{IsFromFile}
use Rattle.dj_class_text.proofs.FormedLemmas.{own_qualified, unit_formed}
use Rattle.dj_class_text.proofs.ApartLemmas.{BodiesLead, unit_apart}
use Rattle.dj_cli.specs.Output.{PrintsClass, file_line}
use Rattle.dj_cli.specs.Methods.{AreJudged, HaveLines}
use Rattle.dj_cli.proofs.MethodsLemmas.{counted}
use Rattle.dj_cli.proofs.ApartLemmas.{bodies_lead}

module _ (world : WorldOf) (class : ClassOf) (none : (cause : ClassCause) → ¬ HasClassCause world class cause) where
  -- the class's name is of characters below 128
  pub ascii_name : IsAsciiName class.this_class
  ascii_name = ascii_qualified class.this_class (own_qualified world class none)

  module _ (file : IsFromFile class) (bodies : List (Option Body)) (fields methods : List ℕ) (refused : ℕ) (unit : CompilationUnit) (have : HaveLines world class class.fields fields) (judged : AreJudged world class class.methods bodies methods refused) (text : IsClassText world class bodies unit) where
    pub well_formed : IsWellFormed unit
    well_formed = unit_formed world class bodies unit text none file judged.fit

    -- so many methods are printed, if it is all but those that are refused
    pub prints_class : (printed : ℕ) → printed + refused ≡ length class.methods → PrintsClass world class (record { text = file_line class.this_class ++ unit_text unit; lines = fields ++ methods; printed = printed; refused = refused })
    prints_class printed all = record {
      none = none;
      causes = have.causes;
      are_causes = have.are;
      verdicts = judged.verdicts;
      judged = judged.judged;
      unit = unit;
      class_text = subst (λ these. IsClassText world class these unit) judged.bodies_are text;
      well_formed = well_formed;
      apart = unit_apart world class bodies unit (subst (BodiesLead class.methods 0 class.methods) (sym judged.bodies_are) (bodies_lead world class [] class.methods judged.verdicts refl judged.judged)) text;
      one_reading = λ other formed same. units_have_one_text other unit formed well_formed same;
      text_is = refl;
      lines_are = rw (have.lines_are, judged.lines_are) refl;
      printed_is = omega (arith, all, counted world class class.methods judged.verdicts judged.judged, judged.refused_is);
      refused_is = judged.refused_is;
    }
