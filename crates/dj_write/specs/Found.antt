-- What indices of a pool lead to, and how an index is found by it (JVMS 4.4).
use Rattle.std.specs.Prelude.{◌≡◌, ℕ, ◌<◌, List, slice_get, Option, Some, IsSome}
use Rattle.std.specs.declared.cmp.Ordering.{Ordering}
use Rattle.std.specs.Option.{option_map, option_and_then}
use Rattle.dj_names.specs.declared.members.Constant.{Constant}
use Rattle.dj_names.specs.declared.members.Constant.TheVariants as constant
use Rattle.dj_pool.specs.declared.entry.Entry.{Entry}
use Rattle.dj_class.specs.Described.{constant_of}
use Rattle.dj_write.specs.declared.constants.ConstantKey.{ConstantKey}
use Rattle.dj_write.specs.declared.constants.ConstantKey.TheVariants as key
use Rattle.dj_write.specs.contracts.constants.ConstantKeyOrd.TheImpl as key_ord

-- the constant that an index leads to, if it leads to one
abbrev pub constant_at : List Entry → ℕ → Option Constant
constant_at pool index = option_and_then (constant_of pool) (slice_get pool index)

-- some index leads to this
pub record IsLed {A : Type 0} (led : ℕ → Option A) (found : A) : Type 0 where
  pub index : ℕ
  pub leads : led index ≡ Some found

-- an index for each thing that one of the first so many indices leads to
pub record Finds {A : Type 0} (led : ℕ → Option A) (so_many : ℕ) (index_of : A → Option ℕ) : Type 0 where
  pub right : (found : A) (index : ℕ) → index_of found ≡ Some index → led index ≡ Some found
  pub each : (found : A) (index : ℕ) → index < so_many → led index ≡ Some found → IsSome (index_of found)

-- what a constant is found by
abbrev pub key_of : Constant → ConstantKey
key_of (constant.Int number) = key.Int number
key_of (constant.Long number) = key.Long number
key_of (constant.Text units) = key.Text units
key_of (constant.Float bits) = key.Float bits
key_of (constant.Double bits) = key.Double bits

-- what the constant that an index leads to is found by
abbrev pub key_at : List Entry → ℕ → Option ConstantKey
key_at pool index = option_map key_of (constant_at pool index)

-- the order of keys
abbrev pub key_cmp : ConstantKey → ConstantKey → Ordering
key_cmp = (key_ord.ghosts).cmp
