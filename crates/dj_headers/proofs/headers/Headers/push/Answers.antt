use Rattle.dj_headers.proofs.HeaderLemmas.{HasPlaces-keeps, KeepsTables-stays, KeepsTables-push}
use Rattle.dj_headers.proofs.headers.Headers.push.Goals as goal

pub invariant_of-self-in_err-put : goal.invariant_of-self-in_err-put
invariant_of-self-in_err-put c =
    let headers = c.self.inside.headers in
    let tables = c.prepare.new.self in
    record {
      distinct = c.self.invariant.distinct;
      in_list = HasPlaces-keeps headers c.self.inside.heads c.put.new.places c.in_err-put.ensures.kept c.self.invariant.in_list;
      tables = c.prepare.ensures.kept headers c.self.invariant.tables;
      known = c.prepare.ensures.roots headers c.self.invariant.known;
    }

pub invariant_of-self-in_err-push : goal.invariant_of-self-in_err-push
invariant_of-self-in_err-push c =
    let headers = c.self.inside.headers in
    let tables = c.prepare.new.self in
    rw c.in_err-push.ensures.err
    (KeepsTables-stays headers c.args.header c.self.inside.heads c.put.new.places c.in_ok-name.name c.len.result (rw c.self.view_is c.requires) c.in_ok-name.ensures.equal c.in_ok-put.ensures.gains
    tables.places tables.above.items tables.lines.items tables.roots c.self.invariant.distinct c.self.invariant.in_list (c.prepare.ensures.kept headers c.self.invariant.tables) (c.prepare.ensures.roots headers c.self.invariant.known))

pub invariant_of-self-2 : goal.invariant_of-self-2
invariant_of-self-2 c =
    let headers = c.self.inside.headers in
    let tables = c.add.new.self in
    rw c.in_ok-push.ensures.ok
    (KeepsTables-push headers c.args.header c.self.inside.heads c.put.new.places c.in_ok-name.name c.len.result (rw c.self.view_is c.requires) c.in_ok-name.ensures.equal c.in_ok-put.ensures.gains
    tables.places tables.above.items tables.lines.items c.prepare.new.self.roots tables.roots c.len.ensures c.self.invariant.distinct c.self.invariant.in_list
    (c.add.ensures.tables headers c.args.header (c.in_ok-addition.ensures.ready headers c.self.invariant.tables)) (c.in_ok-addition.ensures.known headers c.self.invariant.known) c.add.ensures.roots)
