-- What is found of one method more.
use Rattle.std.proofs.Common.{◌≡◌, ℕ, ◌+◌, ◌≤◌, Bool, true, false, not, ◌&&◌, List, [], ◌∷◌, ◌++◌, Option, Some, None, length, refl, suc, sym, ap, ◌∙◌, subst, inl, append_assoc, append-nil, arith}
use Rattle.std.specs.Prelude.{IfSome, filter}
use Rattle.std.proofs.lemmas.List.{length-append, length-map, map_push}
use Rattle.std.proofs.lemmas.List.Elements.{filter-append}
use Rattle.std.proofs.lemmas.List.Filters.{length-filter_both}
use Rattle.dj_class.specs.Described.{ClassOf, MethodOf}
use Rattle.dj_world.specs.Worlds.{WorldOf}
use Rattle.dj_syntax.specs.Trees.{Exp, Body}
use Rattle.dj_syntax.specs.UnitText.{is_interface}
use Rattle.dj_syntax.specs.WellFormed.{IsWellFormedExp, HasMethodName}
use Rattle.dj_syntax.proofs.MethodNames.{identifier_is_no_method_keyword, IsMethodDescriptor-ints}
use Rattle.dj_names.specs.Headers.{Name}
use Rattle.dj_names.specs.Identifiers.{IsIdentifier}
use Rattle.dj_instructions.specs.declared.kinds.BadKind.{BadKind}
use Rattle.dj_causes.specs.declared.cause.Cause.{Cause}
use Rattle.dj_class_text.specs.Formed.{FitsBody, FitBodies}
use Rattle.dj_class_text.specs.Methods.{bare_method, method_text}
use Rattle.dj_class_text.proofs.FlagLemmas.{method_flags_kept}
use Rattle.dj_straight.specs.StraightMethod.{IsStraightMethod, IsBodyOf}
use Rattle.dj_straight_shows.proofs.StraightShows.{straight_methods_show}
use Rattle.dj_straight_typed.proofs.StraightTyped.{straight_methods_are_typed}
use Rattle.dj_straight_typed.proofs.Writable.{right_writing, writing_is_right}
use Rattle.dj_code.specs.MethodCode.{Code}
use Rattle.dj_code.proofs.CodeIsOne.{one_code}
use Rattle.dj_bytecode.specs.SameShows.{SameShows}
use Rattle.dj_sayable.specs.Saying.{CanBeSaid}
use Rattle.dj_typing.specs.Sites.{is_whole}
use Rattle.dj_given.specs.Given.{IsFree}
use Rattle.dj_given.proofs.Together.{names_given, classes_given}
use Rattle.dj_verify.specs.declared.rule.Rule.{Rule}
use Rattle.dj_report.specs.Report.{shown_method, bad_tail, unverified_tail, not_yet_tail, refused_method_tail}
use Rattle.dj_cli.specs.Output.{Verdict, Prints, Bare, Refused, Bad, Unverified, NotYet, IsBareMethod, IsRefusedMethod, IsBadMethod, IsUnverifiedMethod, IsNotYetMethod, IsVerdict, AreVerdicts, body_of, is_printed, method_line, method_lines, printed_among, refused_among}
use Rattle.dj_cli.specs.Methods.{AreJudged, IsLineOf, IsPrintable, IsPrintOf}

-- ---- bodies

-- an identifier is a method's name
has_name : (interface : Bool) (method : MethodOf) (body : Body) → IsIdentifier method.name → HasMethodName (method_text interface method (Some body))
has_name interface method body identifier =
    let plain = identifier_is_no_method_keyword method.name identifier in
    rw (plain.0, plain.1) identifier

-- the body of a straight method fits it
straight_fits : (class : ClassOf) (before : List MethodOf) (method : MethodOf) (exp : Exp) (body : Body) → IsStraightMethod class before method exp → IsWellFormedExp exp → IsBodyOf class method exp body
    → FitsBody (is_interface class.flags) class.this_class method body
straight_fits class before method exp body straight fits of_method = λ helper rethrows. record {
  name = has_name (is_interface class.flags) method body straight.candidate.name;
  descriptor = rw straight.candidate.descriptor (IsMethodDescriptor-ints straight.parameters);
  thrown = rw straight.candidate.thrown tt;
  flags = method_flags_kept (is_interface class.flags) (bare_method method (Some body));
  body = record {
    head = record {
      class = of_method.class;
      flags = of_method.flags;
      name = of_method.name;
      descriptor = of_method.descriptor;
      thrown = of_method.thrown;
    };
    statements = rw of_method.returns (fits, tt);
  };
}

-- one body more fits
fit-push : (interface : Bool) (owner : Name) (methods : List MethodOf) (bodies : List (Option Body)) (method : MethodOf) (body : Option Body) → length methods ≡ length bodies → FitBodies interface owner methods bodies → IfSome body (FitsBody interface owner method)
    → FitBodies interface owner (methods ++ method ∷ []) (bodies ++ body ∷ [])
fit-push interface owner [] [] method None number fit this = tt
fit-push interface owner [] [] method (Some body) number fit this = (this, tt)
fit-push interface owner [] (other ∷ bodies) method body number fit this = absurd (omega (arith, number))
fit-push interface owner (first ∷ methods) [] method body number fit this = absurd (omega (arith, number))
fit-push interface owner (first ∷ methods) (None ∷ bodies) method body number fit this = fit-push interface owner methods bodies method body (omega (arith, number)) fit this
fit-push interface owner (first ∷ methods) (Some one ∷ bodies) method body number fit this = (fit.0, fit-push interface owner methods bodies method body (omega (arith, number)) fit.1 this)

first_true : (one other : Bool) → one && other ≡ true → one ≡ true
first_true true other e = refl
first_true false other e = absurd (cc)

-- ---- verdicts

module _ (world : WorldOf) (class : ClassOf) where
  -- a verdict more
  verdicts-more : (before methods : List MethodOf) (verdicts : List Verdict) (method : MethodOf) (verdict : Verdict) → AreVerdicts world class before methods verdicts
      → IsVerdict world class (before ++ methods) method verdict → AreVerdicts world class before (methods ++ method ∷ []) (verdicts ++ verdict ∷ [])
  verdicts-more before [] [] method verdict each this =
      (subst (λ these. IsVerdict world class these method verdict) (append-nil before) this, tt)
  verdicts-more before [] (other ∷ verdicts) method verdict each this = absurd each
  verdicts-more before (other ∷ methods) [] method verdict each this = absurd each
  verdicts-more before (first ∷ methods) (one ∷ verdicts) method verdict each this =
      let here = subst (λ these. IsVerdict world class these method verdict) (sym (append_assoc before (first ∷ []) methods)) this in
      (each.0, verdicts-more (before ++ first ∷ []) methods verdicts method verdict each.1 here)

  -- as many verdicts as methods
  verdicts-number : (before methods : List MethodOf) (verdicts : List Verdict) → AreVerdicts world class before methods verdicts → length methods ≡ length verdicts
  verdicts-number before [] [] each = refl
  verdicts-number before [] (other ∷ verdicts) each = absurd each
  verdicts-number before (other ∷ methods) [] each = absurd each
  verdicts-number before (first ∷ methods) (one ∷ verdicts) each = ap suc (verdicts-number (before ++ first ∷ []) methods verdicts each.1)

  -- the counts, with a verdict more
  refused-push : (verdicts : List Verdict) (verdict : Verdict) → refused_among (verdicts ++ verdict ∷ []) ≡ refused_among verdicts + refused_among (verdict ∷ [])
  refused-push verdicts verdict =
      ap length (filter-append (λ one. not (is_printed one)) verdicts (verdict ∷ [])) ∙ length-append (filter (λ one. not (is_printed one)) verdicts) (filter (λ one. not (is_printed one)) (verdict ∷ []))

  -- the lines, with a verdict more
  lines-more : (before methods : List MethodOf) (verdicts : List Verdict) (method : MethodOf) (verdict : Verdict) → AreVerdicts world class before methods verdicts
      → method_lines class (methods ++ method ∷ []) (verdicts ++ verdict ∷ []) ≡ method_lines class methods verdicts ++ method_line class method verdict
  lines-more before [] [] method verdict each = append-nil (method_line class method verdict)
  lines-more before [] (other ∷ verdicts) method verdict each = absurd each
  lines-more before (other ∷ methods) [] method verdict each = absurd each
  lines-more before (first ∷ methods) (one ∷ verdicts) method verdict each =
      ap (λ lines. method_line class first one ++ lines) (lines-more (before ++ first ∷ []) methods verdicts method verdict each.1)
      ∙ sym (append_assoc (method_line class first one) (method_lines class methods verdicts) (method_line class method verdict))

  -- a straight method whose code is verified is printed with the body that returns its expression
  pub prints_straight : (before : List MethodOf) (method : MethodOf) (exp : Exp) (body : Body) → IsPrintable world class before method exp → IsBodyOf class method exp body → IsPrintOf world class before method body
  prints_straight before method exp body printable of_method = record {
    prints = record {
      typed = printable.typed;
      spelled = printable.spelled;
      table = printable.table;
      free = printable.free;
      made = inl (record { exp = exp; straight = printable.straight; of_method = of_method });
      shows = subst (λ (code : Code). SameShows world.headers world.members code body) (one_code class method printable.straight.code printable.typed.code printable.straight.spelled printable.spelled)
          (straight_methods_show class before method exp body world.headers world.members printable.straight of_method);
      lawful = straight_methods_are_typed class before method exp body world.headers world.members printable.straight of_method whole said;
    };
    fits = straight_fits class before method exp body printable.straight printable.fits of_method;
  }
    where
      given : IsFree world class (length before) printable.typed
      given = record { is_world = printable.is_world; method = method; here = printable.here; spells = printable.spelled; table = printable.table; free = printable.free }

      own : printable.typed.code.class ≡ class.this_class
      own = printable.spelled.head.class_is

      whole : is_whole world.headers class.this_class ≡ true
      whole = subst (λ (name : Name). is_whole world.headers name ≡ true) own (classes_given world class (length before) printable.typed given).whole

      said : CanBeSaid world.headers world.members class.this_class class.this_class
      said =
          let right = writing_is_right world.headers world.members printable.typed.code.class in
          let named = names_given world class (length before) printable.typed (right_writing world.headers world.members printable.typed.code.class) given right in
          subst (λ (name : Name). CanBeSaid world.headers world.members name name) own
          ((right.says printable.typed.code.class).0 (first_true ((right_writing world.headers world.members printable.typed.code.class).can_say printable.typed.code.class) (is_whole world.headers printable.typed.code.class) named.class)).1

  -- ---- methods judged

  -- as many bodies as methods
  pub judged_number : (methods : List MethodOf) (bodies : List (Option Body)) (lines : List ℕ) (refused : ℕ) → AreJudged world class methods bodies lines refused → length methods ≡ length bodies
  judged_number methods bodies lines refused before =
      verdicts-number [] methods before.verdicts before.judged ∙ sym (length-map before.verdicts body_of) ∙ ap length (sym before.bodies_are)

  -- each method is printed or refused
  pub counted : (methods : List MethodOf) (verdicts : List Verdict) → AreVerdicts world class [] methods verdicts → printed_among verdicts + refused_among verdicts ≡ length methods
  counted methods verdicts each =
      length-filter_both is_printed (λ verdict. not (is_printed verdict)) (λ verdict. refl) verdicts ∙ sym (verdicts-number [] methods verdicts each)

  -- no more are refused than there are
  pub few_refused : (methods : List MethodOf) (bodies : List (Option Body)) (lines : List ℕ) (refused : ℕ) → AreJudged world class methods bodies lines refused → refused ≤ length methods
  few_refused methods bodies lines refused before = omega (arith, before.refused_is, counted methods before.verdicts before.judged)

  -- no method
  pub judged_none : AreJudged world class [] [] [] 0
  judged_none = record { verdicts = []; judged = tt; bodies_are = refl; lines_are = refl; refused_is = refl; fit = tt }

  -- and one with this verdict
  judged_more : (methods : List MethodOf) (method : MethodOf) (bodies : List (Option Body)) (lines : List ℕ) (refused : ℕ) (verdict : Verdict) → AreJudged world class methods bodies lines refused → IsVerdict world class methods method verdict
      → IfSome (body_of verdict) (FitsBody (is_interface class.flags) class.this_class method) → AreJudged world class (methods ++ method ∷ []) (bodies ++ body_of verdict ∷ []) (lines ++ method_line class method verdict) (refused + refused_among (verdict ∷ []))
  judged_more methods method bodies lines refused verdict before is_verdict fits =
      let number : length methods ≡ length bodies =
      verdicts-number [] methods before.verdicts before.judged ∙ sym (length-map before.verdicts body_of) ∙ ap length (sym before.bodies_are) in
      record {
        verdicts = before.verdicts ++ verdict ∷ [];
        judged = verdicts-more [] methods before.verdicts method verdict before.judged is_verdict;
        bodies_are = ap (λ these. these ++ body_of verdict ∷ []) before.bodies_are ∙ sym (map_push body_of before.verdicts verdict);
        lines_are = ap (λ these. these ++ method_line class method verdict) before.lines_are ∙ sym (lines-more [] methods before.verdicts method verdict before.judged);
        refused_is = ap (λ count. count + refused_among (verdict ∷ [])) before.refused_is ∙ sym (refused-push before.verdicts verdict);
        fit = fit-push (is_interface class.flags) class.this_class methods bodies method (body_of verdict) number before.fit fits;
      }

  -- no more are refused
  same-refused : (methods : List MethodOf) (bodies : List (Option Body)) (lines : List ℕ) (refused : ℕ) → AreJudged world class methods bodies lines (refused + 0) → AreJudged world class methods bodies lines refused
  same-refused methods bodies lines refused judged = subst (AreJudged world class methods bodies lines) (let same : refused + 0 ≡ refused = omega arith in same) judged

  module _ (methods : List MethodOf) (method : MethodOf) (bodies : List (Option Body)) (lines : List ℕ) (refused : ℕ) (before : AreJudged world class methods bodies lines refused) where
    -- and one that is printed with a body
    pub judged_body : (body : Body) → IsPrintOf world class methods method body → AreJudged world class (methods ++ method ∷ []) (bodies ++ Some body ∷ []) lines refused
    judged_body body print =
        same-refused (methods ++ method ∷ []) (bodies ++ Some body ∷ []) lines refused
        (subst (λ these. AreJudged world class (methods ++ method ∷ []) (bodies ++ Some body ∷ []) these (refused + 0)) (append-nil lines) (judged_more methods method bodies lines refused (Prints body) before print.prints print.fits))

    -- and one that is printed without
    pub judged_bare : IsBareMethod world class (length methods) method → AreJudged world class (methods ++ method ∷ []) (bodies ++ None ∷ []) lines refused
    judged_bare bare =
        same-refused (methods ++ method ∷ []) (bodies ++ None ∷ []) lines refused
        (subst (λ these. AreJudged world class (methods ++ method ∷ []) (bodies ++ None ∷ []) these (refused + 0)) (append-nil lines) (judged_more methods method bodies lines refused Bare before bare tt))

    -- and one that isn't printed
    pub judged_line : (tail : List ℕ) → IsLineOf world class methods method tail → AreJudged world class (methods ++ method ∷ []) (bodies ++ None ∷ []) (lines ++ (shown_method class.this_class method.name method.descriptor ++ tail)) (refused + 1)
    judged_line tail line =
        let fits = subst (λ body. IfSome body (FitsBody (is_interface class.flags) class.this_class method)) (sym line.no_body) tt in
        let judged = judged_more methods method bodies lines refused line.verdict before line.is_verdict fits in
        let one : refused_among (line.verdict ∷ []) ≡ 1 = rw line.not_printed refl in
        subst (AreJudged world class (methods ++ method ∷ []) (bodies ++ None ∷ []) (lines ++ (shown_method class.this_class method.name method.descriptor ++ tail))) (ap (λ count. refused + count) one)
        (subst (λ these. AreJudged world class (methods ++ method ∷ []) (bodies ++ None ∷ []) (lines ++ these) (refused + refused_among (line.verdict ∷ []))) line.line_is
        (subst (λ body. AreJudged world class (methods ++ method ∷ []) (bodies ++ body ∷ []) (lines ++ method_line class method line.verdict) (refused + refused_among (line.verdict ∷ []))) line.no_body judged))

  -- ---- the ends of lines

  module _ (before : List MethodOf) (method : MethodOf) (tail : List ℕ) where
    pub refused_line : (cause : Cause) → IsRefusedMethod world class (length before) method cause → tail ≡ refused_method_tail cause → IsLineOf world class before method tail
    refused_line cause refused is = record { verdict = Refused cause; is_verdict = refused; no_body = refl; not_printed = refl; line_is = rw is refl }

    pub bad_line : (kind : BadKind) (pc : ℕ) → IsBadMethod class method kind pc → tail ≡ bad_tail kind pc → IsLineOf world class before method tail
    bad_line kind pc bad is = record { verdict = Bad kind pc; is_verdict = bad; no_body = refl; not_printed = refl; line_is = rw is refl }

    pub unverified_line : (rule : Rule) (pc : ℕ) → IsUnverifiedMethod world class method rule pc → tail ≡ unverified_tail rule pc → IsLineOf world class before method tail
    unverified_line rule pc unverified is = record { verdict = Unverified rule pc; is_verdict = unverified; no_body = refl; not_printed = refl; line_is = rw is refl }

    pub not_yet_line : (pc : ℕ) → IsNotYetMethod world class before method pc → tail ≡ not_yet_tail pc → IsLineOf world class before method tail
    not_yet_line pc not_yet is = record { verdict = NotYet pc; is_verdict = not_yet; no_body = refl; not_printed = refl; line_is = rw is refl }
