use Rattle.std.proofs.Common.{List, Some, refl, sym, subst, ◌∙◌}
use Rattle.std.specs.Option.{option_map, option_copied}
use Rattle.std.proofs.lemmas.Bool.{false≢true}
use Rattle.std.proofs.lemmas.Option.{none-some, same_Some}
use Rattle.dj_names.specs.Types.{StaticType, view_type, view_types}
use Rattle.dj_kinds.specs.Choice.{IsCandidate}
use Rattle.dj_member_cause.proofs.ExactlyLemmas.{exactly_found, exactly_none}
use Rattle.dj_member_cause.proofs.exactly.chosen_exactly.Goals as goal

pub returns-in_default-find_overload : goal.returns-in_default-find_overload
returns-in_default-find_overload c = record {
  chosen = exactly_none c.args.classes.now c.requires.lawful (view_type c.args.receiver.now) (option_map view_type (option_copied c.args.through)) c.args.name.now (view_types c.args.parameters.now)
      c.in-Some.class.now c.in-Some.ensures.some c.find_overload.result c.find_overload.ensures.found (λ member is. absurd (none-some member (sym c.in_default-find_overload.is ∙ is)));
}

pub returns-then-is_candidate : goal.returns-then-is_candidate
returns-then-is_candidate c = record {
  chosen = exactly_found c.args.classes.now c.requires.lawful (view_type c.args.receiver.now) (option_map view_type (option_copied c.args.through)) c.args.name.now (view_types c.args.parameters.now)
      c.in-Some.class.now c.in-Some-find_overload.member c.in-Some-find_overload.ensures.found c.in-Some.ensures.some
      (subst (λ (given : List StaticType). IsCandidate c.args.classes.now.headers.now c.args.classes.now.members.now
      (record { from = c.args.classes.now.from.now; class = c.in-Some.class.now; through = option_map view_type (option_copied c.args.through); name = c.args.name.now; arguments = given }) c.in-Some-find_overload.member)
      c.requires.exact (c.if-is_candidate.ensures.candidate.0 refl))
      c.method_of.result (rw c.as_slice.ensures.headers at c.method_of.ensures.some) (rw c.as_slice.ensures.headers at c.method_of.ensures.none);
}

pub returns-else-is_candidate : goal.returns-else-is_candidate
returns-else-is_candidate c = record {
  chosen = exactly_none c.args.classes.now c.requires.lawful (view_type c.args.receiver.now) (option_map view_type (option_copied c.args.through)) c.args.name.now (view_types c.args.parameters.now)
      c.in-Some.class.now c.in-Some.ensures.some (Some c.in-Some-find_overload.member) c.in-Some-find_overload.ensures.found
      (λ member is candidate. false≢true (c.if-is_candidate.ensures.candidate.1
      (subst (λ (given : List StaticType). IsCandidate c.args.classes.now.headers.now c.args.classes.now.members.now
      (record { from = c.args.classes.now.from.now; class = c.in-Some.class.now; through = option_map view_type (option_copied c.args.through); name = c.args.name.now; arguments = given }) c.in-Some-find_overload.member)
      (sym c.requires.exact) (subst (IsCandidate c.args.classes.now.headers.now c.args.classes.now.members.now _) (sym (same_Some c.in-Some-find_overload.member member is)) candidate))));
}
