-- The walk finds what the rules of reachability say.
use Rattle.std.proofs.Common.{ℕ, ◌+◌, Bool, true, false, not, ◌&&◌, ◌||◌, List, [], ◌∷◌, ◌++◌, Option, Some, None, ◌≡◌, refl, sym, ap, ◌∙◌, arith}
use Rattle.std.specs.Prelude.{if◌then◌else◌}
use Rattle.dj_syntax.specs.Trees.{Exp, Exps, Stm, Block, Labelled, Declare, Set, SetField, SetStatic, SetElement, Run, If, While, Switch, Return, Throw, Rethrow, Try, Synchronized, Construct, Do, For, Finally, Stms, Empty, And, Groups, NoGroups, AndGroup, Catches, NoCatches, AndCatch}
use Rattle.dj_syntax.specs.Trees as trees
use Rattle.dj_syntax.specs.Weight.{weight_of, weight_of_exp, weight_of_exps, weight_of_value, weight_of_stms, weight_of_groups, weight_of_catches}
use Rattle.dj_meaning.specs.Statements.{is_labelled}
use Rattle.dj_places.specs.Constants.{Surroundings, constant_truth, is_always}
use Rattle.dj_places.specs.Rules.{Rules, NoRule, Rule, ◌and◌}
use Rattle.dj_places.specs.Places.{told, lower, broken_at, first_broken}
use Rattle.dj_places.specs.declared.kind.TypeKind.TheVariants.{Reach}
use Rattle.dj_places.proofs.RuleLemmas.{told_later, lower_none, lower_assoc, lower_then}
use Rattle.dj_reach.specs.declared.jump.Jump.{Jump}
use Rattle.dj_reach.specs.declared.jump.Jump.TheVariants.{Break, Continue}
use Rattle.dj_reach.specs.declared.walk.Walk.{Walk}
use Rattle.dj_reach.specs.Jumps.{is_same_jump, is_jump_to, is_one_of}
use Rattle.dj_reach.specs.Reach.{Site, of_own, are_in_order, completes, list_completes, catches_complete, groups_complete, leaves, list_leaves, catches_leave, groups_leave, stm_reach, list_reach, catches_reach, groups_reach}
use Rattle.dj_reach.specs.Walks.{step, skip_exp, note, with_alive, with_jumps, either, others, end_label, begin_loop, end_do, leave_by, begin_last, end_last, pass, pass_list, pass_groups, pass_catches, opening}
use Rattle.dj_reach.proofs.Truths.{and_or, and_false, and_true, or_false, or_last, or_all, or_join, or_then, and_all, and_both, and_or_also, label_jumps, stopped_jumps, no_jumps}
use Rattle.dj_reach.proofs.JumpLemmas.{one_of-append, one_of-others, one_of-here}

-- ---- how the walk goes on

-- whether it goes on, and the jumps that leave
record Goes (before behind : Walk) (reached completes : Bool) (leaves : Jump → Bool) : Type 0 where
  alive : behind.alive ≡ (reached && completes)
  jumps : (jump : Jump) → is_one_of jump behind.jumps ≡ (is_one_of jump before.jumps || (reached && leaves jump))

goes_on : (walk : Walk) (reached : Bool) → walk.alive ≡ reached → Goes walk walk reached true (λ jump. false)
goes_on walk reached alive = record { alive = alive ∙ and_true reached; jumps = λ jump. or_false (is_one_of jump walk.jumps) reached }

goes_nowhere : (walk behind : Walk) (reached : Bool) → behind.alive ≡ false → behind.jumps ≡ walk.jumps → Goes walk behind reached false (λ jump. false)
goes_nowhere walk behind reached alive jumps = record { alive = alive ∙ and_false reached; jumps = λ jump. ap (is_one_of jump) jumps ∙ or_false (is_one_of jump walk.jumps) reached }

leaves_by : (here : Jump) (walk : Walk) (reached : Bool) → walk.alive ≡ reached → Goes walk (leave_by here walk) reached false (is_same_jump here)
leaves_by here walk reached alive = record {
  alive = and_false reached;
  jumps = λ jump. ap (λ (r : Bool). is_one_of jump (if r then walk.jumps ++ here ∷ [] else walk.jumps)) alive ∙ one_of-here reached here jump walk.jumps;
}

-- one of two parts, each reached
goes_either : (before between behind : Walk) (reached c d : Bool) (f h : Jump → Bool) → Goes before between reached c f → Goes between behind reached d h
    → Goes before (either between.alive behind) reached (c || d) (λ jump. f jump || h jump)
goes_either before between behind reached c d f h x y = record {
  alive = ap (λ a. a || behind.alive) x.alive ∙ ap (λ a. (reached && c) || a) y.alive ∙ and_or reached c d;
  jumps = λ jump. y.jumps jump ∙ ap (λ i. i || (reached && h jump)) (x.jumps jump) ∙ or_join (is_one_of jump before.jumps) reached (f jump) (h jump);
}

-- a part, and where it completes the next
goes_then : (before between behind : Walk) (reached c d : Bool) (f h : Jump → Bool) → Goes before between reached c f → Goes between behind (reached && c) d h
    → Goes before behind reached (c && d) (λ jump. f jump || (c && h jump))
goes_then before between behind reached c d f h x y = record {
  alive = y.alive ∙ and_all reached c d;
  jumps = λ jump. y.jumps jump ∙ ap (λ i. i || ((reached && c) && h jump)) (x.jumps jump) ∙ or_then (is_one_of jump before.jumps) reached c (f jump) (h jump);
}

goes_label : (around : Surroundings) (label : ℕ) (statement : Stm) (before : List Jump) (start behind walk : Walk) (reached : Bool) → start.jumps ≡ [] → walk.jumps ≡ before
    → Goes start behind reached (completes around (Some label) statement) (λ jump. leaves around jump statement)
    → Goes walk (end_label label before behind) reached (completes around (Some label) statement || leaves around (Break label) statement) (λ jump. not (is_jump_to label jump) && leaves around jump statement)
goes_label around label statement before start behind walk reached none same x = record {
  alive = ap (λ a. a || is_one_of (Break label) behind.jumps) x.alive
      ∙ ap (λ a. (reached && completes around (Some label) statement) || a) (x.jumps (Break label) ∙ ap (λ js. is_one_of (Break label) js || (reached && leaves around (Break label) statement)) none)
      ∙ and_or reached (completes around (Some label) statement) (leaves around (Break label) statement);
  jumps = λ jump. one_of-append jump before (others label behind.jumps) ∙ ap (λ b. is_one_of jump before || b) (one_of-others label jump behind.jumps)
      ∙ ap (λ b. is_one_of jump before || (not (is_jump_to label jump) && b)) (x.jumps jump ∙ ap (λ js. is_one_of jump js || (reached && leaves around jump statement)) none)
      ∙ label_jumps (is_one_of jump before) reached (is_jump_to label jump) (leaves around jump statement)
      ∙ ap (λ js. is_one_of jump js || (reached && (not (is_jump_to label jump) && leaves around jump statement))) (sym same);
}

do_alive : (own : Option ℕ) (behind : Walk) (reached c k : Bool) (f : Jump → Bool) → behind.alive ≡ (reached && c) → ((jump : Jump) → is_one_of jump behind.jumps ≡ (reached && f jump))
    → ((behind.alive || of_own own (λ label. is_one_of (Continue label) behind.jumps)) && k) ≡ (reached && ((c || of_own own (λ label. f (Continue label))) && k))
do_alive None behind reached c k f alive jumps = ap (λ a. (a || false) && k) alive ∙ ap (λ a. a && k) (or_last (reached && c)) ∙ and_all reached c k ∙ ap (λ a. reached && (a && k)) (sym (or_last c))
do_alive (Some label) behind reached c k f alive jumps =
    ap (λ a. (a || is_one_of (Continue label) behind.jumps) && k) alive ∙ ap (λ a. ((reached && c) || a) && k) (jumps (Continue label)) ∙ and_or_also reached c (f (Continue label)) k

goes_do : (own : Option ℕ) (known : Option Bool) (before : List Jump) (test : Exp) (start behind walk : Walk) (reached c : Bool) (f : Jump → Bool) → start.jumps ≡ [] → walk.jumps ≡ before
    → Goes start behind reached c f
    → Goes walk (end_do own known before test behind) reached ((c || of_own own (λ label. f (Continue label))) && not (is_always true known)) f
goes_do own known before test start behind walk reached c f none same x =
    let inner : (jump : Jump) → is_one_of jump behind.jumps ≡ (reached && f jump) = λ jump. x.jumps jump ∙ ap (λ js. is_one_of jump js || (reached && f jump)) none in
    record {
      alive = do_alive own behind reached c (not (is_always true known)) f x.alive inner;
      jumps = λ jump. one_of-append jump before behind.jumps ∙ ap (λ b. is_one_of jump before || b) (inner jump) ∙ ap (λ js. is_one_of jump js || (reached && f jump)) (sym same);
    }

last_jumps : (t r cl fb fl : Bool) (jump : Jump) (inner outer : List Jump) → is_one_of jump inner ≡ (r && fb) → is_one_of jump outer ≡ (t || (r && fl))
    → is_one_of jump (if r && cl then outer ++ inner else outer) ≡ (t || (r && ((fb && cl) || fl)))
last_jumps t true true fb fl jump inner outer e f =
    one_of-append jump outer inner ∙ ap (λ b. b || is_one_of jump inner) f ∙ ap (λ b. (t || fl) || b) e ∙ stopped_jumps t fl fb true
last_jumps t true false fb fl jump inner outer e f = f ∙ no_jumps t fl fb
last_jumps t false cl fb fl jump inner outer e f = f

goes_last : (start between second behind walk : Walk) (reached c d : Bool) (f h : Jump → Bool) → start.jumps ≡ [] → second.jumps ≡ walk.jumps
    → Goes start between reached c f → Goes second behind reached d h
    → Goes walk (end_last between.alive between.jumps behind) reached (c && d) (λ jump. (f jump && d) || h jump)
goes_last start between second behind walk reached c d f h none same x y = record {
  alive = ap (λ a. a && behind.alive) x.alive ∙ ap (λ a. (reached && c) && a) y.alive ∙ and_both reached c d;
  jumps = λ jump. ap (λ (a : Bool). is_one_of jump (if a then behind.jumps ++ between.jumps else behind.jumps)) y.alive
      ∙ last_jumps (is_one_of jump walk.jumps) reached d (f jump) (h jump) jump between.jumps behind.jumps
      (x.jumps jump ∙ ap (λ js. is_one_of jump js || (reached && f jump)) none)
      (y.jumps jump ∙ ap (λ js. is_one_of jump js || (reached && h jump)) same);
}

-- the walk past a part tells of it what the definitions say
mutual
  goes : (site : Site) (own : Option ℕ) (statement : Stm) (walk : Walk) (reached : Bool) → walk.alive ≡ reached
      → Goes walk (pass site own statement walk) reached (completes site.around own statement) (λ jump. leaves site.around jump statement)
  goes site own (Block list) walk reached alive = let x = goes_list site list (step walk) reached alive in record { alive = x.alive; jumps = x.jumps }
  goes site own (Labelled label statement) walk reached alive =
      let start = with_jumps [] (step walk) in
      let x = goes site (Some label) statement start reached alive in
      let y = goes_label site.around label statement walk.jumps start (pass site (Some label) statement start) walk reached refl refl x in
      record { alive = y.alive; jumps = y.jumps }
  goes site own (Declare variable kind value) walk reached alive = let x = goes_on walk reached alive in record { alive = x.alive; jumps = x.jumps }
  goes site own (Set variable value) walk reached alive = let x = goes_on walk reached alive in record { alive = x.alive; jumps = x.jumps }
  goes site own (SetField object name value) walk reached alive = let x = goes_on walk reached alive in record { alive = x.alive; jumps = x.jumps }
  goes site own (SetStatic class name value) walk reached alive = let x = goes_on walk reached alive in record { alive = x.alive; jumps = x.jumps }
  goes site own (SetElement array index value) walk reached alive = let x = goes_on walk reached alive in record { alive = x.alive; jumps = x.jumps }
  goes site own (Run call) walk reached alive = let x = goes_on walk reached alive in record { alive = x.alive; jumps = x.jumps }
  goes site own (Construct this arguments) walk reached alive = let x = goes_on walk reached alive in record { alive = x.alive; jumps = x.jumps }
  goes site own (If test first second) walk reached alive =
      let start = skip_exp test (step walk) in
      let between = pass_list site first start in
      let second_start = with_alive walk.alive between in
      let x = goes_list site first start reached alive in
      let y = goes_list site second second_start reached alive in
      let z = goes_either start between (pass_list site second second_start) reached _ _ _ _ x (record { alive = y.alive; jumps = y.jumps }) in
      record { alive = z.alive; jumps = z.jumps }
  goes site own (While test body) walk reached alive =
      let known = constant_truth site.around test in
      let x = goes_list site body (begin_loop known test walk) reached alive in
      record { alive = ap (λ a. a && not (is_always true known)) alive; jumps = x.jumps }
  goes site own (Switch value groups) walk reached alive =
      let start = skip_exp value (step walk) in
      let behind = pass_groups site walk.alive groups start in
      let x = goes_groups site walk.alive reached true groups start alive (alive ∙ and_true reached) in
      record {
        alive = ap (λ a. (walk.alive && not (is_labelled None groups)) || a) x.alive
            ∙ ap (λ a. (a && not (is_labelled None groups)) || (reached && groups_complete site.around true groups)) alive
            ∙ and_or reached (not (is_labelled None groups)) (groups_complete site.around true groups);
        jumps = x.jumps;
      }
  goes site own (trees.Break label) walk reached alive = let x = leaves_by (Break label) walk reached alive in record { alive = x.alive; jumps = x.jumps }
  goes site own (trees.Continue label) walk reached alive = let x = leaves_by (Continue label) walk reached alive in record { alive = x.alive; jumps = x.jumps }
  goes site own (Return value) walk reached alive = let x = goes_nowhere walk (pass site own (Return value) walk) reached refl refl in record { alive = x.alive; jumps = x.jumps }
  goes site own (Throw value) walk reached alive = let x = goes_nowhere walk (pass site own (Throw value) walk) reached refl refl in record { alive = x.alive; jumps = x.jumps }
  goes site own (Rethrow variable) walk reached alive = let x = goes_nowhere walk (pass site own (Rethrow variable) walk) reached refl refl in record { alive = x.alive; jumps = x.jumps }
  goes site own (Try body catches) walk reached alive =
      let start = step (note (are_in_order site.around.headers catches) walk) in
      let between = pass_list site body start in
      let x = goes_list site body start reached alive in
      let y = goes_catches site walk.alive reached (list_completes site.around body) (λ jump. list_leaves site.around jump body) catches start between alive x in
      record { alive = y.alive; jumps = y.jumps }
  goes site own (Synchronized monitor body) walk reached alive =
      let x = goes_list site body (skip_exp monitor (step walk)) reached alive in record { alive = x.alive; jumps = x.jumps }
  goes site own (Do body test) walk reached alive =
      let start = with_jumps [] (step walk) in
      let x = goes_list site body start reached alive in
      let y = goes_do own (constant_truth site.around test) walk.jumps test start (pass_list site body start) walk reached _ _ refl refl x in
      record { alive = y.alive; jumps = y.jumps }
  goes site own (For test variable next body) walk reached alive =
      let known = constant_truth site.around test in
      let x = goes_list site body (skip_exp next (begin_loop known test walk)) reached alive in
      record { alive = ap (λ a. a && not (is_always true known)) alive; jumps = x.jumps }
  goes site own (Finally body last) walk reached alive =
      let start = with_jumps [] (step walk) in
      let between = pass_list site body start in
      let second = begin_last walk.alive walk.jumps between in
      let x = goes_list site body start reached alive in
      let y = goes_list site last second reached alive in
      let z = goes_last start between second (pass_list site last second) walk reached _ _ _ _ refl refl x y in
      record { alive = z.alive; jumps = z.jumps }

  goes_list : (site : Site) (list : Stms) (walk : Walk) (reached : Bool) → walk.alive ≡ reached
      → Goes walk (pass_list site list walk) reached (list_completes site.around list) (λ jump. list_leaves site.around jump list)
  goes_list site Empty walk reached alive = goes_on walk reached alive
  goes_list site (And first rest) walk reached alive =
      let start = note walk.alive walk in
      let between = pass site None first start in
      let x = goes site None first start reached alive in
      let y = goes_list site rest between (reached && completes site.around None first) x.alive in
      let z = goes_then start between (pass_list site rest between) reached _ _ _ _ x y in
      record { alive = z.alive; jumps = z.jumps }

  goes_groups : (site : Site) (alive reached falls : Bool) (groups : Groups) (walk : Walk) → alive ≡ reached → walk.alive ≡ (reached && falls)
      → Goes walk (pass_groups site alive groups walk) reached (groups_complete site.around falls groups) (λ jump. groups_leave site.around jump groups)
  goes_groups site alive reached falls NoGroups walk is comes = record { alive = comes; jumps = λ jump. or_false (is_one_of jump walk.jumps) reached }
  goes_groups site alive reached falls (AndGroup labels body rest) walk is comes =
      let start = with_alive alive walk in
      let between = pass_list site body start in
      let x = goes_list site body start reached is in
      let y = goes_groups site alive reached (list_completes site.around body) rest between is x.alive in
      record {
        alive = y.alive;
        jumps = λ jump. y.jumps jump ∙ ap (λ i. i || (reached && groups_leave site.around jump rest)) (x.jumps jump)
            ∙ or_join (is_one_of jump walk.jumps) reached (list_leaves site.around jump body) (groups_leave site.around jump rest);
      }

  -- behind the clauses, given how it goes up to them
  goes_catches : (site : Site) (alive reached c : Bool) (f : Jump → Bool) (catches : Catches) (before walk : Walk) → alive ≡ reached → Goes before walk reached c f
      → Goes before (pass_catches site alive catches walk) reached (c || catches_complete site.around catches) (λ jump. f jump || catches_leave site.around jump catches)
  goes_catches site alive reached c f NoCatches before walk is x = record {
    alive = x.alive ∙ ap (λ a. reached && a) (sym (or_last c));
    jumps = λ jump. x.jumps jump ∙ ap (λ a. is_one_of jump before.jumps || (reached && a)) (sym (or_last (f jump)));
  }
  goes_catches site alive reached c f (AndCatch class variable body rest) before walk is x =
      let start = with_alive alive walk in
      let u = goes_list site body start reached is in
      let between = either walk.alive (pass_list site body start) in
      let v = goes_either before walk (pass_list site body start) reached _ _ _ _ x (record { alive = u.alive; jumps = u.jumps }) in
      let y = goes_catches site alive reached _ _ rest before between is v in
      record {
        alive = y.alive ∙ or_all reached c (list_completes site.around body) (catches_complete site.around rest);
        jumps = λ jump. y.jumps jump ∙ ap (λ a. is_one_of jump before.jumps || a) (or_all reached (f jump) (list_leaves site.around jump body) (catches_leave site.around jump rest));
      }

-- ---- what is broken

-- to which place it comes, and the first place so far at which a rule is broken
record Passes (before behind : Walk) (end : ℕ) (rules : Rules) : Type 0 where
  place : behind.place ≡ told end
  fault : behind.fault ≡ lower before.fault (first_broken rules)

no_fault : (before behind : Walk) (at place : ℕ) → behind.place ≡ told at → behind.fault ≡ before.fault → at ≡ place → Passes before behind place NoRule
no_fault before behind at place comes same is = record { place = comes ∙ ap told is; fault = same ∙ sym (lower_none before.fault) }

noted : (kept : Bool) (walk : Walk) (place : ℕ) → walk.place ≡ told place → (note kept walk).fault ≡ lower walk.fault (broken_at place kept)
noted kept walk place is = ap (λ (at : ℕ). lower walk.fault (if kept then None else Some at)) is

-- a rule at the place, and then what is behind it
behind_rule : (kept : Bool) (walk behind : Walk) (place end : ℕ) (rules : Rules) → walk.place ≡ told place → Passes (note kept walk) behind end rules
    → Passes walk behind end (Rule place Reach kept and rules)
behind_rule kept walk behind place end rules is x = record {
  place = x.place;
  fault = x.fault ∙ ap (λ f. lower f (first_broken rules)) (noted kept walk place is) ∙ lower_assoc walk.fault (broken_at place kept) (first_broken rules);
}

-- one part behind another
in_turn : (before between behind : Walk) (middle end : ℕ) (first second : Rules) → Passes before between middle first → Passes between behind end second → Passes before behind end (first and second)
in_turn before between behind middle end first second x y = record {
  place = y.place;
  fault = lower_then before.fault between.fault behind.fault (first_broken first) (first_broken second) x.fault y.fault;
}

stepped : (walk : Walk) (place : ℕ) → walk.place ≡ told place → (step walk).place ≡ told (place + 1)
stepped walk place is = told_later place 1 walk.place is

mutual
  passes : (site : Site) (own : Option ℕ) (statement : Stm) (walk : Walk) (place : ℕ) (reached : Bool) → walk.place ≡ told place → walk.alive ≡ reached
      → Passes walk (pass site own statement walk) (place + weight_of statement) (stm_reach site reached place statement)
  passes site own (Block list) walk place reached is alive =
      let x = passes_list site list (step walk) (place + 1) reached (stepped walk place is) alive in
      record { place = x.place ∙ ap told (omega arith); fault = x.fault }
  passes site own (Labelled label statement) walk place reached is alive =
      let x = passes site (Some label) statement (with_jumps [] (step walk)) (place + 1) reached (stepped walk place is) alive in
      record { place = x.place ∙ ap told (omega arith); fault = x.fault }
  passes site own (Declare variable kind value) walk place reached is alive = no_fault walk _ _ _ (told_later (place + 1) (weight_of_value value) _ (stepped walk place is)) refl (omega arith)
  passes site own (Set variable value) walk place reached is alive = no_fault walk _ _ _ (told_later (place + 1) (weight_of_exp value) _ (stepped walk place is)) refl (omega arith)
  passes site own (SetField object name value) walk place reached is alive = no_fault walk _ _ _ (told_later ((place + 1) + weight_of_exp object) (weight_of_exp value) _ (told_later (place + 1) (weight_of_exp object) _ (stepped walk place is))) refl (omega arith)
  passes site own (SetStatic class name value) walk place reached is alive = no_fault walk _ _ _ (told_later (place + 1) (weight_of_exp value) _ (stepped walk place is)) refl (omega arith)
  passes site own (SetElement array index value) walk place reached is alive = no_fault walk _ _ _ (told_later (((place + 1) + weight_of_exp array) + weight_of_exp index) (weight_of_exp value) _ (told_later ((place + 1) + weight_of_exp array) (weight_of_exp index) _ (told_later (place + 1) (weight_of_exp array) _ (stepped walk place is)))) refl (omega arith)
  passes site own (Run call) walk place reached is alive = no_fault walk _ _ _ (told_later (place + 1) (weight_of_exp call) _ (stepped walk place is)) refl (omega arith)
  passes site own (If test first second) walk place reached is alive =
      let start = skip_exp test (step walk) in
      let between = pass_list site first start in
      let x = passes_list site first start (place + 1 + weight_of_exp test) reached (told_later (place + 1) (weight_of_exp test) _ (stepped walk place is)) alive in
      let y = passes_list site second (with_alive walk.alive between) (place + 1 + weight_of_exp test + weight_of_stms first) reached x.place alive in
      record { place = y.place ∙ ap told (omega arith); fault = lower_then walk.fault between.fault _ _ _ x.fault y.fault }
  passes site own (While test body) walk place reached is alive =
      let known = constant_truth site.around test in
      let start = begin_loop known test walk in
      let x = passes_list site body start (place + 1 + weight_of_exp test) reached (told_later (place + 1) (weight_of_exp test) _ (stepped walk place is)) alive in
      let y = behind_rule (not (is_always false known)) walk (pass_list site body start) place (place + 1 + weight_of_exp test + weight_of_stms body)
      (list_reach site reached (place + 1 + weight_of_exp test) body) is (record { place = x.place; fault = x.fault }) in
      record { place = y.place ∙ ap told (omega arith); fault = y.fault }
  passes site own (Switch value groups) walk place reached is alive =
      let x = passes_groups site walk.alive groups (skip_exp value (step walk)) (place + 1 + weight_of_exp value) reached (told_later (place + 1) (weight_of_exp value) _ (stepped walk place is)) alive in
      record { place = x.place ∙ ap told (omega arith); fault = x.fault }
  passes site own (trees.Break label) walk place reached is alive = no_fault walk _ _ _ (stepped walk place is) refl refl
  passes site own (trees.Continue label) walk place reached is alive = no_fault walk _ _ _ (stepped walk place is) refl refl
  passes site own (Return value) walk place reached is alive = record {
    place = told_later (place + 1) (weight_of_value value) _ (stepped walk place is) ∙ ap told (omega arith);
    fault = noted site.may_return walk place is;
  }
  passes site own (Throw value) walk place reached is alive = no_fault walk _ _ _ (told_later (place + 1) (weight_of_exp value) _ (stepped walk place is)) refl (omega arith)
  passes site own (Rethrow variable) walk place reached is alive = no_fault walk _ _ _ (stepped walk place is) refl refl
  passes site own (Try body catches) walk place reached is alive =
      let kept = are_in_order site.around.headers catches in
      let start = step (note kept walk) in
      let between = pass_list site body start in
      let x = passes_list site body start (place + 1) reached (stepped walk place is) alive in
      let y = passes_catches site walk.alive catches between (place + 1 + weight_of_stms body) reached x.place alive in
      let z = in_turn start between (pass_catches site walk.alive catches between) (place + 1 + weight_of_stms body) (place + 1 + weight_of_stms body + weight_of_catches catches)
      (list_reach site reached (place + 1) body) (catches_reach site reached (place + 1 + weight_of_stms body) catches) x y in
      let u = behind_rule kept walk (pass_catches site walk.alive catches between) place (place + 1 + weight_of_stms body + weight_of_catches catches)
      (list_reach site reached (place + 1) body and catches_reach site reached (place + 1 + weight_of_stms body) catches) is (record { place = z.place; fault = z.fault }) in
      record { place = u.place ∙ ap told (omega arith); fault = u.fault }
  passes site own (Synchronized monitor body) walk place reached is alive =
      let x = passes_list site body (skip_exp monitor (step walk)) (place + 1 + weight_of_exp monitor) reached (told_later (place + 1) (weight_of_exp monitor) _ (stepped walk place is)) alive in
      record { place = x.place ∙ ap told (omega arith); fault = x.fault }
  passes site own (Construct this arguments) walk place reached is alive = no_fault walk _ _ _ (told_later (place + 1) (weight_of_exps arguments) _ (stepped walk place is)) refl (omega arith)
  passes site own (Do body test) walk place reached is alive =
      let x = passes_list site body (with_jumps [] (step walk)) (place + 1) reached (stepped walk place is) alive in
      record { place = told_later (place + 1 + weight_of_stms body) (weight_of_exp test) _ x.place ∙ ap told (omega arith); fault = x.fault }
  passes site own (For test variable next body) walk place reached is alive =
      let known = constant_truth site.around test in
      let start = skip_exp next (begin_loop known test walk) in
      let at = told_later (place + 1 + weight_of_exp test) (weight_of_exp next) _ (told_later (place + 1) (weight_of_exp test) _ (stepped walk place is)) in
      let x = passes_list site body start (place + 1 + weight_of_exp test + weight_of_exp next) reached at alive in
      let y = behind_rule (not (is_always false known)) walk (pass_list site body start) place (place + 1 + weight_of_exp test + weight_of_exp next + weight_of_stms body)
      (list_reach site reached (place + 1 + weight_of_exp test + weight_of_exp next) body) is (record { place = x.place; fault = x.fault }) in
      record { place = y.place ∙ ap told (omega arith); fault = y.fault }
  passes site own (Finally body last) walk place reached is alive =
      let start = with_jumps [] (step walk) in
      let between = pass_list site body start in
      let x = passes_list site body start (place + 1) reached (stepped walk place is) alive in
      let y = passes_list site last (begin_last walk.alive walk.jumps between) (place + 1 + weight_of_stms body) reached x.place alive in
      record { place = y.place ∙ ap told (omega arith); fault = lower_then walk.fault between.fault _ _ _ x.fault y.fault }

  passes_list : (site : Site) (list : Stms) (walk : Walk) (place : ℕ) (reached : Bool) → walk.place ≡ told place → walk.alive ≡ reached
      → Passes walk (pass_list site list walk) (place + weight_of_stms list) (list_reach site reached place list)
  passes_list site Empty walk place reached is alive = no_fault walk walk place _ is refl (omega arith)
  passes_list site (And first rest) walk place reached is alive =
      let start = note walk.alive walk in
      let between = pass site None first start in
      let c = completes site.around None first in
      let x = passes site None first start place reached is alive in
      let y = passes_list site rest between (place + weight_of first) (reached && c) x.place (goes site None first start reached alive).alive in
      let later = list_reach site (reached && c) (place + weight_of first) rest in
      let z = in_turn start between (pass_list site rest between) (place + weight_of first) (place + weight_of first + weight_of_stms rest) (stm_reach site reached place first) later x y in
      let u = behind_rule walk.alive walk (pass_list site rest between) place (place + weight_of first + weight_of_stms rest) (stm_reach site reached place first and later) is z in
      record {
        place = u.place ∙ ap told (omega arith);
        fault = u.fault ∙ ap (λ r. lower walk.fault (lower (broken_at place r) (first_broken (stm_reach site reached place first and list_reach site (reached && c) (place + weight_of first) rest)))) alive;
      }

  passes_groups : (site : Site) (alive : Bool) (groups : Groups) (walk : Walk) (place : ℕ) (reached : Bool) → walk.place ≡ told place → alive ≡ reached
      → Passes walk (pass_groups site alive groups walk) (place + weight_of_groups groups) (groups_reach site reached place groups)
  passes_groups site alive NoGroups walk place reached is comes = no_fault walk walk place _ is refl (omega arith)
  passes_groups site alive (AndGroup labels body rest) walk place reached is comes =
      let start = with_alive alive walk in
      let between = pass_list site body start in
      let x = passes_list site body start place reached is comes in
      let y = passes_groups site alive rest between (place + weight_of_stms body) reached x.place comes in
      record { place = y.place ∙ ap told (omega arith); fault = lower_then walk.fault between.fault _ _ _ x.fault y.fault }

  passes_catches : (site : Site) (alive : Bool) (catches : Catches) (walk : Walk) (place : ℕ) (reached : Bool) → walk.place ≡ told place → alive ≡ reached
      → Passes walk (pass_catches site alive catches walk) (place + weight_of_catches catches) (catches_reach site reached place catches)
  passes_catches site alive NoCatches walk place reached is comes = no_fault walk walk place _ is refl (omega arith)
  passes_catches site alive (AndCatch class variable body rest) walk place reached is comes =
      let start = with_alive alive walk in
      let between = pass_list site body start in
      let x = passes_list site body start place reached is comes in
      let y = passes_catches site alive rest (either walk.alive between) (place + weight_of_stms body) reached x.place comes in
      record { place = y.place ∙ ap told (omega arith); fault = lower_then walk.fault between.fault _ _ _ x.fault y.fault }

-- ---- a whole list

pub list_completes_is : (site : Site) (list : Stms) → (pass_list site list opening).alive ≡ list_completes site.around list
list_completes_is site list = (goes_list site list opening true refl).alive

pub list_reach_is : (site : Site) (list : Stms) → (pass_list site list opening).fault ≡ first_broken (list_reach site true 0 list)
list_reach_is site list = (passes_list site list opening 0 true refl refl).fault
