-- What the table of a pool tells at an index.
use Rattle.std.proofs.Common.{◌≡◌, ◌↔◌, ℕ, zero, suc, List, [], ◌∷◌, Option, IsTrue, IsSomeAnd, slice_get, sym, subst}
use Rattle.std.specs.Option.{option_and_then}
use Rattle.dj_names.specs.declared.descriptor.Descriptor as code_descriptor
use Rattle.dj_names.specs.ClassNames.{IsClassName}
use Rattle.dj_pool.specs.declared.entry.Entry.{Entry}
use Rattle.dj_pool.specs.declared.parsed.Parsed.{Parsed}
use Rattle.dj_pool.specs.PoolFormat.{text_at}
use Rattle.dj_pool.specs.PoolTable.{IsReadOf, IsTable}

read_at : (entries : List Entry) (table : List Parsed) (index : ℕ) → IsTable entries table → IsReadOf (text_at entries index) (option_and_then (λ (p : Parsed). p.descriptor) (slice_get table index))
read_at [] [] index all = λ descriptor none. none
read_at [] (read ∷ table) index all = absurd all
read_at (entry ∷ entries) [] index all = absurd all
read_at (entry ∷ entries) (read ∷ table) zero all = all.0.descriptor
read_at (entry ∷ entries) (read ∷ table) (suc index) all = read_at entries table index all.1

-- what the table has at an index is read of the entry there
pub table_reads : (entries : List Entry) (table : List Parsed) (index : ℕ) (found : Option code_descriptor.Descriptor) → IsTable entries table → found ≡ option_and_then (λ (p : Parsed). p.descriptor) (slice_get table index)
    → IsReadOf (text_at entries index) found
table_reads entries table index found all is = subst (IsReadOf (text_at entries index)) (sym is) (read_at entries table index all)

-- the table tells at an index whether a class's name is there
pub table_names : (entries : List Entry) (table : List Parsed) (index : ℕ) → IsTable entries table → IsSomeAnd (slice_get table index) (λ (p : Parsed). IsTrue p.is_class_name) ↔ IsSomeAnd (text_at entries index) IsClassName
table_names [] [] index all = (λ none. none, λ none. none)
table_names [] (read ∷ table) index all = absurd all
table_names (entry ∷ entries) [] index all = absurd all
table_names (entry ∷ entries) (read ∷ table) zero all = all.0.named
table_names (entry ∷ entries) (read ∷ table) (suc index) all = table_names entries table index all.1
