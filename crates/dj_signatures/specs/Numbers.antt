-- A number for each text: a name, or a spelled descriptor.
use Rattle.std.specs.Prelude.{◌≡◌, ℕ, ◌<◌, Option, Some}
use Rattle.std.specs.Ordering.{nat_cmp}
use Rattle.std.specs.Cmp.Lexicographic.{slice_cmp}
use Rattle.std.specs.BTreeMap as tree
use Rattle.std.specs.BTreeMap.{BTreeMap, btree_map_len}
use Rattle.dj_names.specs.Headers.{Name}

-- a number for each of some texts
abbrev pub Numbers : Type 0
Numbers = BTreeMap Name ℕ

-- the number of a text, if it has one
abbrev pub number_of : Numbers → Name → Option ℕ
number_of numbers text = tree.get (slice_cmp nat_cmp) numbers text

-- a number is one text's, and below how many there are
pub record AreNumbers (numbers : Numbers) : Type 0 where
  pub one_text : (first second : Name) (at : ℕ) → number_of numbers first ≡ Some at → number_of numbers second ≡ Some at → first ≡ second
  pub below : (text : Name) (at : ℕ) → number_of numbers text ≡ Some at → at < btree_map_len numbers

-- the new numbers are the old ones, and maybe more
abbrev pub Extends : Numbers → Numbers → Type 0
Extends old new = (text : Name) (at : ℕ) → number_of old text ≡ Some at → number_of new text ≡ Some at
