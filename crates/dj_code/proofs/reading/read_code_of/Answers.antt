use Rattle.dj_class.specs.Views.{view_class, view_method}
use Rattle.dj_code.proofs.CodeReading.{gives_code, gives_fault}
use Rattle.dj_code.proofs.reading.read_code_of.Goals as goal

pub returns-clause-value : goal.returns-clause-value
returns-clause-value c = gives_code (view_class c.args.class.now) (view_method c.args.method.now) c.code_of.result c.code_of.ensures.reads

pub returns-clause-fault : goal.returns-clause-fault
returns-clause-fault c = gives_fault (view_class c.args.class.now) (view_method c.args.method.now) c.code_of.result c.code_of.ensures.reads
