use Rattle.dj_names.specs.Types.{view_type}
use Rattle.dj_kinds.proofs.OwnLemmas.{no_field}
use Rattle.dj_kinds.proofs.own.OwnFieldDeclares.own.Goals as goal

pub returns-in-None : goal.returns-in-None
returns-in-None c =
    let o = c.args.self.now in
    record {
      own = no_field o.headers.now o.members.now c.args.class.now c.in-Some.place c.in-Some.ensures.place c.place_of.ensures.one c.in-Some-at.own.now c.in-Some-at.ensures.own o.name.now (view_type o.kind.now) (rw c.as_slice.ensures at c.in-None.ensures.first);
    }
