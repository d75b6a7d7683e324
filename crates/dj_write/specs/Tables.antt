-- What a table of a pool keeps to itself.
use Rattle.std.specs.Prelude.{ℕ, List, length}
use Rattle.std.specs.Ordering.{nat_cmp}
use Rattle.std.specs.Cmp.Lexicographic.{slice_cmp}
use Rattle.std.specs.BTreeMap as tree
use Rattle.std.specs.BTreeMap.{BTreeMap}
use Rattle.dj_pool.specs.declared.entry.Entry.{Entry}
use Rattle.dj_pool.specs.PoolFormat.{class_at, text_at}
use Rattle.dj_write.specs.declared.constants.ConstantKey.{ConstantKey}
use Rattle.dj_write.specs.Found.{Finds, key_at, key_cmp}

-- an index of each text, each class and each constant of the pool
pub record AreTables (pool : List Entry) (texts classes : BTreeMap (List ℕ) ℕ) (constants : BTreeMap ConstantKey ℕ) : Type 0 where
  pub by_text : Finds (text_at pool) (length pool) (tree.get (slice_cmp nat_cmp) texts)
  pub by_class : Finds (class_at pool) (length pool) (tree.get (slice_cmp nat_cmp) classes)
  pub by_constant : Finds (key_at pool) (length pool) (tree.get key_cmp constants)
