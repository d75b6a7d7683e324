use Rattle.dj_code.specs.CodeContent.{content}
use Rattle.dj_pool.proofs.SharedAreExact.{faulty_is_no_spelling}
use Rattle.dj_code.proofs.ContentIsExact.{exact-content}
use Rattle.dj_code.proofs.content.read_content.Goals as goal

pub returns-in-Err-Fault : goal.returns-in-Err-Fault
returns-in-Err-Fault c =
    record { read = tt; absent = faulty_is_no_spelling content exact-content c.args.bytes.now c.in-Err-Fault.field-0 c.in-Err-Fault.field-0-0 c.in-Err-Fault.ensures.reads c.in-Err-Fault.field-0-is }
