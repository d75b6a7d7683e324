use Rattle.dj_class.specs.Views.{view_class}
use Rattle.dj_instructions.specs.Instructions.{view_instructions}
use Rattle.dj_instructions.proofs.ListingReading.{listing_rises}
use Rattle.files_check.proofs.methods.code_of.Goals as goal

pub returns : goal.returns
returns c =
    let read = c.in_ok-code.ensures.read in
    record { rising = listing_rises (view_class c.args.class.now).pool read.content.code (view_instructions c.in_ok-code.code.instructions) read.listed }
