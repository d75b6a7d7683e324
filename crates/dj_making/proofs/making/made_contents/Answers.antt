use Rattle.std.proofs.Common.{◌++◌, ◌∷◌, [], ◌∙◌, ap, sym, length, arith}
use Rattle.std.proofs.lemmas.List.{length_push, map_push}
use Rattle.std.proofs.lemmas.List.FromFn.{map-range_with_len_more}
use Rattle.dj_load.specs.Loading.{contents_of}
use Rattle.dj_make.specs.Made.{made_bytes}
use Rattle.dj_making.specs.MadeFiles.{made_contents}
use Rattle.dj_making.proofs.making.made_contents.Goals as goal

pub loop-k-preserved : goal.loop-k-preserved
loop-k-preserved c =
    let k = c.loop-k.k in
    let bytes = c.in_ok-make.field-0 in
    let before = c.loop-k.contents.items in
    record {
      contents = ap contents_of c.in_ok-push.ensures.items ∙ map_push (λ one. one.items) before bytes ∙ ap (λ these. these ++ bytes.items ∷ []) c.loop-k.invariant.contents
          ∙ ap (λ last. made_contents k ++ last ∷ []) c.in_ok-make.ensures.made ∙ sym (map-range_with_len_more made_bytes 0 k k (omega arith));
      number = omega (arith, ap length c.in_ok-push.ensures.items, length_push before bytes, c.loop-k.invariant.number);
    }
