use Rattle.dj_class.specs.Views.{view_class}
use Rattle.dj_class.proofs.FileIsUnique.{one_class, file_has_no_fault, one_file_fault}
use Rattle.dj_class.proofs.FileRead.{broken_so, gives_class, gives_fault}
use Rattle.dj_class.proofs.class.read_class.Goals as goal

pub returns-in-Ok-clause-value : goal.returns-in-Ok-clause-value
returns-in-Ok-clause-value c = λ class spells. one_class c.args.bytes.now c.args.oldest class (view_class c.in-Ok.class) spells c.in-Ok.ensures.reads

pub returns-in-Ok-clause-fault : goal.returns-in-Ok-clause-fault
returns-in-Ok-clause-fault c = λ fault has. file_has_no_fault c.args.bytes.now c.args.oldest (view_class c.in-Ok.class) fault c.in-Ok.ensures.reads has

pub returns-in-Ok-clause-one_class : goal.returns-in-Ok-clause-one_class
returns-in-Ok-clause-one_class c = one_class c.args.bytes.now c.args.oldest

pub returns-in-Ok-clause-one_fault : goal.returns-in-Ok-clause-one_fault
returns-in-Ok-clause-one_fault c = one_file_fault c.args.bytes.now c.args.oldest

pub returns-in-Err-clause-broken : goal.returns-in-Err-clause-broken
returns-in-Err-clause-broken c = broken_so c.args.bytes.now c.args.oldest c.in-Err.why c.fault_of.result c.in-Err.ensures.reads c.fault_of.ensures.fault

pub returns-in-Err-clause-value : goal.returns-in-Err-clause-value
returns-in-Err-clause-value c = gives_class c.args.bytes.now c.args.oldest c.in-Err.why c.fault_of.result c.in-Err.ensures.reads c.fault_of.ensures.fault

pub returns-in-Err-clause-fault : goal.returns-in-Err-clause-fault
returns-in-Err-clause-fault c = gives_fault c.args.bytes.now c.args.oldest c.in-Err.why c.fault_of.result c.in-Err.ensures.reads c.fault_of.ensures.fault

pub returns-in-Err-clause-one_class : goal.returns-in-Err-clause-one_class
returns-in-Err-clause-one_class c = one_class c.args.bytes.now c.args.oldest

pub returns-in-Err-clause-one_fault : goal.returns-in-Err-clause-one_fault
returns-in-Err-clause-one_fault c = one_file_fault c.args.bytes.now c.args.oldest
