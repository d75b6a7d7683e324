use Rattle.std.proofs.Common.{sym, ◌∙◌}
use Rattle.std.proofs.lemmas.Bool.{false≢true}
use Rattle.dj_world.proofs.LearningLemmas.{learns_added}
use Rattle.dj_bodies.proofs.SaidLemmas.{said_more, said_same}
use Rattle.dj_bodies.proofs.said.add_said.Goals as goal

pub returns-in_ok-insert : goal.returns-in_ok-insert
returns-in_ok-insert c =
    let old = c.args.said.now in
    let new = c.insert.new.self in
    let name = c.args.name.now in
    record {
      added = λ members class before scope said. said_more c.args.headers.now members class before name old new
          ((c.in_ok-can_be_said.ensures.said members class scope).0 c.if-branch.true)
          (learns_added old new c.in_ok-copy.field-0 name c.in_ok-copy.ensures.equal c.in_ok-insert.ensures.updates) said;
    }

pub returns-else-branch : goal.returns-else-branch
returns-else-branch c = record {
  added = λ members class before scope said. said_same c.args.headers.now members class before c.args.name.now c.args.said.now
      (λ can. false≢true (sym c.if-branch.false ∙ (c.in_ok-can_be_said.ensures.said members class scope).1 can)) said;
}
