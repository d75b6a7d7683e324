use Rattle.std.proofs.Common.{length, ap, map, refl, ◌∙◌, arith}
use Rattle.std.specs.Prelude.{option_map}
use Rattle.std.proofs.lemmas.List.{length_push}
use Rattle.std.proofs.lemmas.Option.{slice_get_read, slice_get-map}
use Rattle.dj_class.specs.Views.{view_method}
use Rattle.dj_signatures.proofs.KeyLemmas.{keys_more}
use Rattle.dj_signatures.proofs.keys.keys_of.Goals as goal

pub loop-method-preserved : goal.loop-method-preserved
loop-method-preserved c =
    let methods = c.args.methods.now in
    let method = c.method-item.result in
    let keys = c.loop-method.keys.items in
    let there = slice_get-map view_method methods c.loop-method.method-index ∙ ap (option_map view_method) (slice_get_read methods (length methods) c.loop-method.method-index method refl (omega arith) c.method-item.is) in
    record {
      index = c.key_of.ensures.index c.loop-method.invariant.index;
      size = rw c.in_ok-push.ensures.items (omega (arith, length_push keys c.in_ok-key_of.field-0));
      each = rw c.in_ok-push.ensures.items
          (keys_more (map view_method methods) keys c.loop-method.method-index c.loop-method.numbers c.key_of.new.numbers (view_method method) c.in_ok-key_of.field-0 c.loop-method.invariant.size there c.key_of.ensures.extends c.in_ok-key_of.ensures.key c.loop-method.invariant.each);
    }
