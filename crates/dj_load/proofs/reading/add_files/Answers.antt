use Rattle.std.proofs.Common.{◌<◌, length, map, take, arith}
use Rattle.std.proofs.lemmas.List.{map_push}
use Rattle.dj_load.specs.Loading.{contents_of, found_of}
use Rattle.dj_load.proofs.LoadingLemmas.{map_take_more}
use Rattle.dj_load.proofs.ReadingLemmas.{classes_more, files_more}
use Rattle.dj_load.proofs.reading.add_files.Goals as goal

pub loop-bytes-preserved : goal.loop-bytes-preserved
loop-bytes-preserved c =
    let contents = c.args.contents.now in
    let i = c.loop-bytes.bytes-index in
    let bytes = c.bytes-item.result.items in
    let found = c.in_ok-read_file.field-0 in
    let old = c.loop-bytes.world in
    let new = c.read_file.new.world in
    let before = c.loop-bytes.invariant in
    let inside : i < length contents = omega arith in
    let is = rw c.as_slice.ensures.value at c.in_ok-read_file.ensures.found in
    record {
      files = rw (map_take_more (λ bytes. bytes.items) contents i c.bytes-item.result inside c.bytes-item.is, c.in_ok-push.ensures.items, map_push found_of c.loop-bytes.found.items found)
          (files_more c.args.oldest c.args.world.now old new (contents_of (take i contents)) (map found_of c.loop-bytes.found.items) bytes (found_of found) before.files is);
      as_many = grind arith;
      few = omega (arith, classes_more c.args.oldest old new bytes (found_of found) is);
    }
