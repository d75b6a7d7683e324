use Rattle.dj_instructions.specs.Instructions.{view_instructions}
use Rattle.dj_stack_map.proofs.TableReading.{next_read, next_halts}
use Rattle.dj_stack_map.proofs.table.next_at.Goals as goal

pub returns-in-Some : goal.returns-in-Some
returns-in-Some c =
    let behind = rw c.in-Some.is at c.in_ok-follow.ensures.behind in
    let can = rw c.in-Some.is at c.in_ok-follow.ensures.can in
    record { reads = λ values before h. next_read c.args.pool.now (view_instructions c.args.instructions.now) values before c.args.listed.now h c.in_ok-written.written c.follow.new.listed c.args.bytes.now c.in_ok-written.rest.now c.in_ok-written.ensures.reads can behind }

pub returns-in-None : goal.returns-in-None
returns-in-None c =
    let cannot = rw c.in-None.is at c.in_ok-follow.ensures.can in
    record { reads = λ values before h. next_halts c.args.pool.now (view_instructions c.args.instructions.now) values before c.args.listed.now h c.in_ok-written.written c.args.end c.args.bytes.now c.in_ok-written.rest.now c.fault_at.result c.in_ok-written.ensures.reads cannot c.fault_at.ensures.fault }
