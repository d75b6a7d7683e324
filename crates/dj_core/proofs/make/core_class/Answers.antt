use Rattle.dj_core.proofs.TableTests.{made, row_spelled}
use Rattle.dj_core.proofs.make.core_class.Goals as goal

pub members_of-requires : goal.members_of-requires
members_of-requires c = record { spellings = row_spelled c.args.at c.row_at-row.result.now c.row_at-row.ensures.row }

pub returns : goal.returns
returns c =
    record { made = made c.args.at c.row_at-row.result.now c.in_ok-header_of.field-0 c.in_ok-members_of.field-0 c.row_at-row.ensures.row c.in_ok-header_of.ensures.header c.in_ok-members_of.ensures.members }
