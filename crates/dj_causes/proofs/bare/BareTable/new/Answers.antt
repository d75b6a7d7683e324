use Rattle.dj_causes.proofs.bare.BareTable.new.Goals as goal

pub returns : goal.returns
returns c = record {
  made = record {
    rivals = rw c.as_slice-2.ensures at c.in_ok-rivals.ensures.rivals;
    common = rw (c.as_slice.ensures, c.in_ok-shared.ensures.names) at (c.in_ok-common.ensures.least c.args.class.now.this_class c.requires.scope);
  };
}
