-- An instruction reads in one way, and so does a listing.
use Rattle.std.proofs.Common.{◌≡◌, ℕ, List, ◌==◌, length, refl}
use Rattle.dj_layout.specs.Layout.{Layout}
use Rattle.dj_layout.specs.Exact.{IsExact}
use Rattle.dj_layout.proofs.PartsAreExact.{exact-number, exact-run, exact-exactly, exact-headed, exact-times, exact-tested, exact-choice}
use Rattle.dj_layout.proofs.PassesAreExact.{exact-asked, exact-told_in_front, exact-sequence}
use Rattle.dj_pool.specs.declared.entry.Entry.{Entry}
use Rattle.dj_instructions.specs.declared.kinds.BadKind.{BadKind}
use Rattle.dj_instructions.specs.declared.kinds.BadKind.TheVariants.{CutOff}
use Rattle.dj_instructions.specs.declared.form.Form.{Form}
use Rattle.dj_instructions.specs.declared.form.Form.TheVariants as form
use Rattle.dj_instructions.specs.RawInstructions.{Raw, Plain, TableSwitch, LookupSwitch, Wide, Table, Lookup, Widened, form_of, opcode_of, first_of, second_of, table_of, lookup_of, widened_of, u1, u2, u4, pair, table, lookup, widened, one, two, behind, raw_instruction, spell_raw}
use Rattle.dj_instructions.specs.Listing.{size_of, listing}

exact-one : (op : ℕ) (part : Layout BadKind ℕ) → IsExact part → IsExact (one op part)
exact-one op part exact = exact-headed first_of part _ exact (λ x. exact-exactly (Plain op x 0))

exact-two : (op : ℕ) (part other : Layout BadKind ℕ) → IsExact part → IsExact other → IsExact (two op part other)
exact-two op part other exact other_exact = exact-headed first_of part _ exact (λ x. exact-headed second_of other _ other_exact (λ y. exact-exactly (Plain op x y)))

exact-table : (pc : ℕ) → IsExact (table pc)
exact-table pc =
    exact-headed (λ (t : Table). t.padding) _ _ (exact-run _ CutOff) (λ pad. exact-headed (λ (t : Table). t.other) _ _ (exact-number 4 CutOff) (λ other.
    exact-headed (λ (t : Table). t.low) _ _ (exact-number 4 CutOff) (λ low. exact-headed (λ (t : Table). t.high) _ _ (exact-number 4 CutOff) (λ high.
    exact-headed (λ (t : Table). t.offsets) _ _ (exact-times _ u4 (exact-number 4 CutOff)) (λ offsets. exact-exactly (record { padding = pad; other = other; low = low; high = high; offsets = offsets }))))))

exact-pair : IsExact pair
exact-pair = exact-headed (λ (p : ℕ × ℕ). p.0) _ _ (exact-number 4 CutOff) (λ key. exact-headed (λ (p : ℕ × ℕ). p.1) _ _ (exact-number 4 CutOff) (λ offset. exact-exactly (key, offset)))

exact-lookup : (pc : ℕ) → IsExact (lookup pc)
exact-lookup pc =
    exact-headed (λ (l : Lookup). l.padding) _ _ (exact-run _ CutOff) (λ pad. exact-headed (λ (l : Lookup). l.other) _ _ (exact-number 4 CutOff) (λ other.
    exact-headed (λ (l : Lookup). l.pairs) _ _ (exact-headed length _ _ (exact-number 4 CutOff) (λ n. exact-times n pair exact-pair)) (λ pairs. exact-exactly (record { padding = pad; other = other; pairs = pairs }))))

exact-widened : IsExact widened
exact-widened =
    exact-headed (λ (w : Widened). w.opcode) _ _ (exact-tested _ _ _ (exact-number 1 CutOff)) (λ op. exact-headed (λ (w : Widened). w.slot) _ _ (exact-number 2 CutOff) (λ slot.
    exact-headed (λ (w : Widened). w.by) _ _ (exact-choice (op == 132) _ _ (exact-number 2 CutOff) (exact-exactly 0)) (λ by. exact-exactly (record { opcode = op; slot = slot; by = by }))))

exact-behind : (pc op : ℕ) (of : Form) → IsExact (behind pc op of)
exact-behind pc op form.Unknown = exact-exactly (Plain op 0 0)
exact-behind pc op form.Alone = exact-exactly (Plain op 0 0)
exact-behind pc op form.Byte = exact-one op u1 (exact-number 1 CutOff)
exact-behind pc op form.Short = exact-one op u2 (exact-number 2 CutOff)
exact-behind pc op form.Word = exact-one op u4 (exact-number 4 CutOff)
exact-behind pc op form.Step = exact-two op u1 u1 (exact-number 1 CutOff) (exact-number 1 CutOff)
exact-behind pc op form.Counted = exact-two op u2 u2 (exact-number 2 CutOff) (exact-number 2 CutOff)
exact-behind pc op form.Sizes = exact-two op u2 u1 (exact-number 2 CutOff) (exact-number 1 CutOff)
exact-behind pc op form.Table = exact-headed table_of (table pc) _ (exact-table pc) (λ t. exact-exactly (TableSwitch op t))
exact-behind pc op form.Lookup = exact-headed lookup_of (lookup pc) _ (exact-lookup pc) (λ l. exact-exactly (LookupSwitch op l))
exact-behind pc op form.Wide = exact-headed widened_of widened _ exact-widened (λ w. exact-exactly (Wide op w))

exact-raw_instruction : (pc : ℕ) → IsExact (raw_instruction pc)
exact-raw_instruction pc = exact-told_in_front _ (exact-headed opcode_of _ _ (exact-tested _ _ _ (exact-number 1 CutOff)) (λ op. exact-behind pc op (form_of op)))

-- what stands behind an opcode is spelled alike at each pc
behind_alike : (pc op : ℕ) (of : Form) (x : Raw) → (behind pc op of).spell x ≡ (behind 0 op of).spell x
behind_alike pc op form.Unknown x = refl
behind_alike pc op form.Alone x = refl
behind_alike pc op form.Byte x = refl
behind_alike pc op form.Short x = refl
behind_alike pc op form.Word x = refl
behind_alike pc op form.Step x = refl
behind_alike pc op form.Counted x = refl
behind_alike pc op form.Sizes x = refl
behind_alike pc op form.Table x = refl
behind_alike pc op form.Lookup x = refl
behind_alike pc op form.Wide x = refl

-- an instruction is spelled alike at each pc
pub spelled_alike : (pc : ℕ) (x : Raw) → (raw_instruction pc).spell x ≡ spell_raw x
spelled_alike pc x = rw (behind_alike pc (opcode_of x) (form_of (opcode_of x)) x) refl

pub exact-listing : (pool : List Entry) (n : ℕ) → IsExact (listing pool n)
exact-listing pool n = exact-sequence spell_raw _ _ (λ before. exact-asked _ _ _ (exact-raw_instruction (size_of before))) (λ before x. spelled_alike (size_of before) x)
