use Rattle.std.proofs.Common.{sym, ◌∙◌}
use Rattle.dj_tokens.proofs.NamesLemmas.{names_begin, names_fewer, names_go_on, names_on-end}
use Rattle.dj_tokens.proofs.names.read_names.Goals as goal

pub loop-alloc-smaller : goal.loop-alloc-smaller
loop-alloc-smaller c =
    names_fewer c.in_ok-read_name-2.field-0 c.loop-alloc.reader c.advance-in-loop-alloc.new.self c.read_name-in-loop-alloc.new.reader c.loop-alloc-test.ensures.comes c.advance-in-loop-alloc.ensures.rest c.in_ok-read_name-2.ensures.read

pub loop-alloc-preserved : goal.loop-alloc-preserved
loop-alloc-preserved c =
    names_go_on c.loop-alloc.names c.push-in-loop-alloc.new.self c.in_ok-read_name-2.field-0 c.loop-alloc.reader c.advance-in-loop-alloc.new.self c.read_name-in-loop-alloc.new.reader c.loop-alloc-test.ensures.comes c.advance-in-loop-alloc.ensures.rest c.in_ok-read_name-2.ensures.read c.in_ok-push-2.ensures.ok
    ∙ c.loop-alloc.invariant

pub returns : goal.returns
returns c = record {
  read =
      sym (names_on-end c.loop-alloc.names c.loop-alloc.reader c.loop-alloc-test.ensures.comes)
      ∙ c.loop-alloc.invariant
      ∙ names_begin c.args.keyword.now c.new-names.result c.push.new.self c.in_ok-read_name.field-0 c.args.reader.now c.advance.new.self c.read_name.new.reader c.if-not-is_at.ensures.comes c.advance.ensures.rest c.in_ok-read_name.ensures.read c.new-names.ensures c.in_ok-push.ensures.ok;
}
