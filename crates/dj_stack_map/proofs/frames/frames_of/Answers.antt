use Rattle.std.proofs.Common.{List, Ok, Err, codes, subst}
use Rattle.std.proofs.lemmas.Result.{err_from_is_err_and}
use Rattle.dj_pool.specs.Attributes.{contents}
use Rattle.dj_class.specs.Views.{view_method}
use Rattle.dj_instructions.specs.Instructions.{view_instructions}
use Rattle.dj_frames.specs.Frames.{Tag, entry_values}
use Rattle.dj_stack_map.specs.Reading.{ReadsTable}
use Rattle.dj_stack_map.proofs.TableReading.{two_tables, first_breaks}
use Rattle.dj_stack_map.proofs.frames.frames_of.Goals as goal

pub returns-in_err-listed : goal.returns-in_err-listed
returns-in_err-listed c =
    let pool = c.args.class.now.pool in
    let p = err_from_is_err_and c.from_residual-in_err-listed.result c.from_residual-in_err-listed.ensures.1 in
    rw (p.1, p.2) record {
      reads = first_breaks pool (view_instructions c.args.instructions.now) (entry_values c.args.class.now.this_class (view_method c.args.method.now)) c.in-Some.content.now (contents pool (codes "StackMapTable") c.args.attributes.now)
          (contents pool (codes "StackMapTable") c.in-Some.others.now) _ c.in-Some.ensures.first (subst (λ (values : List Tag). ReadsTable pool (view_instructions c.args.instructions.now) values c.in-Some.content.now (Err c.in_err-listed.field-0.0)) c.in_ok-entry.ensures.entry c.in_err-listed.ensures.reads);
    }

pub returns-then-has_attribute : goal.returns-then-has_attribute
returns-then-has_attribute c =
    let pool = c.args.class.now.pool in
    record {
      reads = two_tables pool (view_instructions c.args.instructions.now) (entry_values c.args.class.now.this_class (view_method c.args.method.now)) c.in-Some.content.now (contents pool (codes "StackMapTable") c.args.attributes.now)
          (contents pool (codes "StackMapTable") c.in-Some.others.now) c.in_ok-listed.listed c.fault_behind.result c.in-Some.ensures.first c.if-has_attribute.ensures.exact (subst (λ (values : List Tag). ReadsTable pool (view_instructions c.args.instructions.now) values c.in-Some.content.now (Ok c.in_ok-listed.listed)) c.in_ok-entry.ensures.entry c.in_ok-listed.ensures.reads) c.fault_behind.ensures.fault;
    }
