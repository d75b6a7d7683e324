-- What follows the pool of a class file, from its parts.
use Rattle.std.proofs.Common.{ℕ, List, [], Some, refl}
use Rattle.std.specs.List.{AllZip}
use Rattle.std.proofs.lemmas.List.Elements.{All-nil}
use Rattle.dj_layout.specs.Layout.{Layout, Spells, SpellsSome, SpellsAny}
use Rattle.dj_layout.specs.Parts.{times}
use Rattle.dj_names.specs.Headers.{Name}
use Rattle.dj_pool.specs.declared.fault.BrokenKind.{BrokenKind}
use Rattle.dj_pool.specs.declared.entry.Entry.{Entry}
use Rattle.dj_class.specs.declared.front.Front.{Front}
use Rattle.dj_class.specs.declared.own.OwnNames.{OwnNames}
use Rattle.dj_pool.specs.SharedParts.{u2, counted, attribute}
use Rattle.dj_class.specs.Members.{member}
use Rattle.dj_class.specs.FileFormat.{magic}
use Rattle.dj_class.specs.Described.{FieldOf, MethodOf, DescribesField, DescribesMethod}
use Rattle.dj_class.specs.FileFormat.{LeadsTo, named, field, method, front, class_indices, lawful_own, lawful_listed, lawful_rest, sound}
use Rattle.dj_class.specs.FileParts.{MembersOf, DescribesListed, DescribesRest, DescribesOwn}
use Rattle.dj_class.proofs.RestParts.{four_texts, rest_spelled, file_spelled}

-- no item is read
pub as_none : {A B : Type 0} (item : Layout BrokenKind A) (Means : A → B → Type 0) (bytes : List ℕ) → SpellsSome (times 0 item) (AllZip Means) bytes [] bytes
as_none item Means bytes = record { value = []; spells = record { fits = (refl, All-nil item.Fits); text = refl }; means = tt }

pub listed_read : (pool : List Entry) (bytes r s t u : List ℕ) (interfaces : List Name) (fields : List FieldOf) (methods : List MethodOf) → SpellsSome (class_indices pool) (AllZip (LeadsTo pool)) bytes interfaces r
    → SpellsSome (counted (field pool)) (AllZip (DescribesField pool)) r fields s → SpellsSome (counted (method pool)) (AllZip (DescribesMethod pool)) s methods t → SpellsAny (counted (named pool)) t u
    → SpellsSome (lawful_listed pool) (DescribesListed pool) bytes (record { interfaces = interfaces; fields = fields; methods = methods }) u
listed_read pool bytes r s t u interfaces fields methods p q w z = record {
  value = record { interfaces = p.value; fields = q.value; methods = w.value; attributes = z.value };
  spells = record {
    fits = (p.spells.fits, (q.spells.fits, (w.spells.fits, (z.spells.fits, refl))));
    text = four_texts bytes r s t u ((counted u2).spell p.value) ((counted member).spell q.value) ((counted member).spell w.value) ((counted attribute).spell z.value) p.spells.text q.spells.text w.spells.text z.spells.text;
  };
  means = record { interfaces = p.means; fields = q.means; methods = w.means };
}

pub rest_read : (pool : List Entry) (bytes r s : List ℕ) (own : OwnNames) (members : MembersOf) → SpellsSome (lawful_own pool) (DescribesOwn pool) bytes own r → SpellsSome (lawful_listed pool) (DescribesListed pool) r members s
    → SpellsSome (lawful_rest pool) (DescribesRest pool) bytes (own, members) s
rest_read pool bytes r s own members p q = record {
  value = record { own = p.value; listed = q.value };
  spells = rest_spelled (lawful_own pool) (lawful_listed pool) bytes r s p.value q.value p.spells q.spells;
  means = record { own = p.means; listed = q.means };
}

pub sound_read : (oldest : ℕ) (pool : List Entry) (bytes r s t : List ℕ) (m : ℕ) (start : Front) (found : OwnNames × MembersOf) → Spells magic bytes m r → Spells (front oldest (Some pool)) r start s
    → SpellsSome (lawful_rest pool) (DescribesRest pool) s found t → SpellsSome (sound oldest pool) (λ raw these. DescribesRest pool raw.rest these) bytes found t
sound_read oldest pool bytes r s t m start found p q w = record {
  value = record { front = start; rest = w.value };
  spells = file_spelled (front oldest (Some pool)) (lawful_rest pool) bytes r s t m start w.value p q w.spells;
  means = w.means;
}
