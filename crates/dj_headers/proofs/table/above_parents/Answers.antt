use Rattle.std.proofs.Common.{◌≡◌, ◌⊎◌, Some, Contains, sym, ap, inl, inr, ◌∙◌}
use Rattle.std.proofs.lemmas.Option.{same_Some}
use Rattle.dj_headers.specs.Table.{IsParent}
use Rattle.dj_headers.proofs.TableLemmas.{IsUp-like, IsUp-join}
use Rattle.dj_headers.proofs.table.above_parents.Goals as goal

pub returns-in_ok-join_row-in-Some : goal.returns-in_ok-join_row-in-Some
returns-in_ok-join_row-in-Some c = record {
  up = λ headers index table.
      let interfaces = c.args.interfaces.now in
      let superclass = c.in-Some.superclass in
      IsUp-like headers (λ x. Contains interfaces x ⊎ (x ≡ superclass)) (IsParent c.args.superclass.now interfaces) c.args.places.now c.join_row.new.up
      (λ x. (
        λ h. elim h [ inl listed ↦ inr listed | inr same ↦ inl (c.in-Some.is ∙ ap Some (sym same)) ],
        λ h. elim h [ inl super ↦ inr (same_Some x superclass (sym super ∙ c.in-Some.is)) | inr listed ↦ inl listed ],
      ))
      (IsUp-join headers (Contains interfaces) c.args.places.now c.args.rows.now superclass c.place_at.result c.in_ok-up.up c.join_row.new.up index table c.place_at.ensures.place c.in_ok-join_row-in-Some.ensures.bits
      (c.in_ok-up.ensures.up headers index table));
}
