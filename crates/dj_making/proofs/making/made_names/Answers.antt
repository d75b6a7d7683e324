use Rattle.std.proofs.Common.{◌≡◌, ◌++◌, ◌∷◌, [], ◌∙◌, ap, map, sym, length, arith}
use Rattle.std.specs.String.{string_bytes}
use Rattle.std.proofs.lemmas.List.{length_push, map_push}
use Rattle.std.proofs.lemmas.List.FromFn.{map-range_with_len_more}
use Rattle.dj_making.specs.MadeFiles.{made_name, made_names}
use Rattle.dj_making.proofs.making.made_names.Goals as goal

pub loop-k-preserved : goal.loop-k-preserved
loop-k-preserved c =
    let k = c.loop-k.k-counter in
    let name = c.in_ok-format.field-0 in
    let before = c.loop-k.names.items in
    let made : string_bytes name ≡ made_name k = c.in_ok-format.ensures.ok in
    record {
      names = ap (map string_bytes) c.in_ok-push.ensures.items ∙ map_push string_bytes before name ∙ ap (λ these. these ++ string_bytes name ∷ []) c.loop-k.invariant.names
          ∙ ap (λ last. made_names k ++ last ∷ []) made ∙ sym (map-range_with_len_more made_name 0 k k (omega arith));
      number = omega (arith, ap length c.in_ok-push.ensures.items, length_push before name, c.loop-k.invariant.number);
    }
