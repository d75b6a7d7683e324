use Rattle.dj_causes.proofs.tables.Tables.new.Goals as goal

pub returns : goal.returns
returns c =
    let scope = rw (c.headers.ensures.headers, c.members.ensures.members) at c.in_ok-scope.ensures.scope in
    record {
      made = record {
        scope = scope;
        fields = rw c.as_slice.ensures at c.in_ok-fields.ensures.names;
        methods = rw c.as_slice-2.ensures at c.in_ok-methods.ensures.names;
        bare = c.in_ok-bare.ensures.made;
      };
    }
