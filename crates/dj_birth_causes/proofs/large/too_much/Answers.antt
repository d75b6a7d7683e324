use Rattle.std.proofs.Common.{refl, length, arith}
use Rattle.dj_code.specs.MethodCode.{view_typed}
use Rattle.dj_birth_causes.specs.Large.{many_blocks, long_expression}
use Rattle.dj_birth_causes.proofs.Lengthy.{not_much}
use Rattle.dj_birth_causes.proofs.large.too_much.Goals as goal

pub returns-then-blocks-gt-MOST : goal.returns-then-blocks-gt-MOST
returns-then-blocks-gt-MOST c = record {
  much = many_blocks (length c.in_ok-starts.starts) (record { starts = c.in_ok-starts.starts; rising = c.in_ok-starts.ensures.rising; exact = c.in_ok-starts.ensures.exact; number = refl })
      (omega (arith, c.if-blocks-gt-MOST.true, c.len-blocks.ensures)) (rw c.len-blocks.ensures at c.told.ensures.told);
}

pub returns-in-Some : goal.returns-in-Some
returns-in-Some c = record {
  much = long_expression (length c.in_ok-starts.starts) c.in-Some.size (record { starts = c.in_ok-starts.starts; rising = c.in_ok-starts.ensures.rising; exact = c.in_ok-starts.ensures.exact; number = refl })
      (omega (arith, c.if-blocks-gt-MOST.false, c.len-blocks.ensures)) (rw c.in-Some.is at c.in_ok-size.ensures.first) c.told-in-Some.ensures.told;
}

pub returns : goal.returns
returns c = record {
  much = not_much (view_typed c.args.typed.now) (length c.in_ok-starts.starts) c.in_ok-size.field-0 (record { starts = c.in_ok-starts.starts; rising = c.in_ok-starts.ensures.rising; exact = c.in_ok-starts.ensures.exact; number = refl })
      (omega (arith, c.if-blocks-gt-MOST.false, c.len-blocks.ensures)) c.in_ok-size.ensures.first c.in-None.is;
}
