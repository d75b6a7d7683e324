use Rattle.std.proofs.Common.{rules}
use Rattle.dj_names.specs.Types.{view_descriptor}
use Rattle.dj_syntax.specs.declared.statement.Stm.{the_lemmas}
use Rattle.dj_syntax.specs.Trees.{Body, view_stms}
use Rattle.dj_straight.proofs.straight_method.returning_body.Goals as goal

pub returns : goal.returns
returns c =
    let body : Body = record {
      class = c.in_ok-copy.field-0;
      flags = c.held_flags.result;
      name = c.in_ok-copy-2.field-0;
      descriptor = view_descriptor c.in_ok-copy-3.field-0;
      thrown = c.in_ok-copy_names.field-0;
      statements = view_stms c.push.new.self;
    } in
    record {
      body = record {
        class = search rules;
        flags = c.held_flags.ensures.held body;
        name = search rules;
        descriptor = search rules;
        thrown = search rules;
        returns = search (rules, the_lemmas);
      };
    }
