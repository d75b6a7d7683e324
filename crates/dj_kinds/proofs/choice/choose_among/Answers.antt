use Rattle.std.proofs.Common.{Option, IsSomeAnd, sym, subst}
use Rattle.dj_names.specs.declared.members.Member.{Member}
use Rattle.dj_kinds.specs.Asking.{call_of}
use Rattle.dj_kinds.specs.Choice.{IsMostSpecific}
use Rattle.dj_kinds.proofs.ChoiceLemmas.{none_chosen}
use Rattle.dj_kinds.proofs.choice.choose_among.Goals as goal

pub returns-in-None : goal.returns-in-None
returns-in-None c =
    let asked = c.args.asked.now in
    let sites = c.sites-sites.result.now in
    record { chosen = none_chosen asked.headers.now asked.members.now sites.names sites.members c.sites-sites.ensures.covers (call_of asked) (rw c.as_slice-members.ensures at c.in-None.ensures.first) }

pub returns-in-None-listed_at : goal.returns-in-None-listed_at
returns-in-None-listed_at c =
    let asked = c.args.asked.now in
    record {
      chosen = absurd (subst (λ (o : Option Member). IsSomeAnd o (IsMostSpecific asked.headers.now asked.members.now (call_of asked))) (sym c.in-None-listed_at.ensures.listed) c.in-Some.ensures.first.picked.1);
    }

pub returns-then-is_alone : goal.returns-then-is_alone
returns-then-is_alone c =
    let asked = c.args.asked.now in
    record {
      chosen = record {
        most = subst (λ (o : Option Member). IsSomeAnd o (IsMostSpecific asked.headers.now asked.members.now (call_of asked))) (sym c.in-Some-listed_at.ensures.listed) c.in-Some.ensures.first.picked.1;
        only = c.is_alone.ensures.alone c.if-is_alone.true;
      };
    }

pub returns-else-is_alone : goal.returns-else-is_alone
returns-else-is_alone c =
    let asked = c.args.asked.now in
    record {
      chosen = c.is_alone.ensures.two c.if-is_alone.false
          (subst (λ (o : Option Member). IsSomeAnd o (IsMostSpecific asked.headers.now asked.members.now (call_of asked))) (sym c.in-Some-listed_at.ensures.listed) c.in-Some.ensures.first.picked.1);
    }
