use Rattle.std.proofs.Common.{List, subst}
use Rattle.std.proofs.lemmas.List.{take_all}
use Rattle.dj_names.specs.declared.header.Header.{Header}
use Rattle.dj_names.specs.Headers.{names}
use Rattle.dj_bodies.specs.Said.{HasSaid}
use Rattle.dj_bodies.proofs.SaidLemmas.{right_by}
use Rattle.dj_bodies.proofs.said.said_in.Goals as goal

pub returns : goal.returns
returns c =
    let headers = c.args.headers.now in
    let members = c.args.members.now.classes in
    let class = c.args.class.now in
    let said = c.loop-header.said in
    record {
      right = right_by headers members class said
          (subst (λ (all : List Header). HasSaid headers members class (names all) said)
          (take_all c.loop-header.header-index headers (rw c.as_slice-header-items.ensures.headers at c.loop-header-test.false)) c.loop-header.invariant);
    }
