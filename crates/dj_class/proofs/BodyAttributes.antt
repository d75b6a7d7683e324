-- One more attribute of a method.
use Rattle.std.proofs.Common.{◌≡◌, ◌↔◌, IsTrue, ◌+◌, ℕ, List, [], ◌∷◌, ◌++◌, length, nat_eq, Option, Some, None, Bool, false, is_some, codes, sym, ap, ◌∙◌}
use Rattle.std.specs.List.{AllZip}
use Rattle.std.specs.Option.{option_copied}
use Rattle.std.proofs.Common.{Bor}
use Rattle.std.proofs.lemmas.Bool.{false≢true}
use Rattle.dj_layout.specs.declared.fault.Fault.{Fault}
use Rattle.dj_layout.specs.declared.fault.Stop.{Stop}
use Rattle.dj_layout.specs.declared.fault.Stop.TheVariants as stop
use Rattle.dj_layout.specs.Layout.{Spells, SpellsSome, Stops}
use Rattle.dj_layout.specs.Parts.{times}
use Rattle.dj_layout.proofs.Loops.{times_more}
use Rattle.dj_layout.proofs.Laws.{unique, whole_spells, halts_is_no_spelling}
use Rattle.dj_names.specs.Headers.{Name}
use Rattle.dj_pool.specs.declared.fault.BrokenKind.{BrokenKind}
use Rattle.dj_pool.specs.declared.raw.Attribute.{Attribute}
use Rattle.dj_pool.specs.declared.entry.Entry.{Entry}
use Rattle.dj_pool.specs.SharedParts.{attribute}
use Rattle.dj_pool.specs.PoolFormat.{text_at}
use Rattle.dj_class.specs.FileFormat.{named, class_indices, LeadsTo, IsExceptions, lawful_in_method}
use Rattle.dj_pool.specs.Attributes.{contents}
use Rattle.dj_class.specs.Described.{IsThrown}
use Rattle.dj_class.specs.FileParts.{HasCode, HasExceptions, HasFound, HasNoCode}
use Rattle.dj_class.proofs.FileIsExact.{exact-classes}
use Rattle.dj_pool.proofs.AttributeContents.{contents_named, contents_other}

-- ---- the content of an Exceptions

-- classes with bytes behind them are no such content
pub trailing_exceptions : (pool : List Entry) (content rest : List ℕ) (thrown : List Name) → SpellsSome (class_indices pool) (AllZip (LeadsTo pool)) content thrown rest → false ≡ nat_eq (length rest) 0 → IsExceptions pool content → ⊥
trailing_exceptions pool content rest thrown found some h =
    let same = unique (class_indices pool) (exact-classes pool) content found.value h.indices rest [] found.spells (whole_spells (class_indices pool) content h.indices h.content_is) in
    false≢true (some ∙ ap (λ (t : List ℕ). nat_eq (length t) 0) same.1)

-- nor are bytes with a fault
pub faulty_exceptions : (pool : List Entry) (content : List ℕ) (end : ℕ) (why : Stop BrokenKind) (fault : Fault BrokenKind) → why ≡ stop.Fault fault → Stops (class_indices pool).Halts end content why → IsExceptions pool content → ⊥
faulty_exceptions pool content end why fault is halts h =
    halts_is_no_spelling (class_indices pool) (exact-classes pool) end content h.indices [] fault (whole_spells (class_indices pool) content h.indices h.content_is) (rw is at halts)

-- ---- an attribute

same_code : (pool : List Entry) (before after : List Attribute) (code : Option (List ℕ)) → contents pool (codes "Code") after ≡ contents pool (codes "Code") before → HasCode pool before code → HasCode pool after code
same_code pool before after code same has = same ∙ has

same_exceptions : (pool : List Entry) (before after : List Attribute) (thrown : Option (List Name)) → contents pool (codes "Exceptions") after ≡ contents pool (codes "Exceptions") before
    → HasExceptions pool before thrown → HasExceptions pool after thrown
same_exceptions pool before after None same has = same ∙ has
same_exceptions pool before after (Some thrown) same (content, one, is) = (content, same ∙ one, is)

no_code : (pool : List Entry) (before : List Attribute) (code : Option (Bor (List ℕ))) → false ≡ is_some code → HasCode pool before (option_copied code) → contents pool (codes "Code") before ≡ []
no_code pool before None none has = has
no_code pool before (Some code) none has = absurd cc

no_exceptions : (pool : List Entry) (before : List Attribute) (thrown : Option (List Name)) → false ≡ is_some thrown → HasExceptions pool before thrown → contents pool (codes "Exceptions") before ≡ []
no_exceptions pool before None none has = has
no_exceptions pool before (Some thrown) none has = absurd cc

two_names : (o : Option (List ℕ)) → o ≡ Some (codes "Code") → o ≡ Some (codes "Exceptions") → ⊥
two_names o p q = let both : Some (codes "Code") ≡ Some (codes "Exceptions") = sym p ∙ q in absurd cc

-- an attribute that is neither
pub method_other : (pool : List Entry) (bytes rest : List ℕ) (this : Attribute) (found : Option (List ℕ) × Option (List Name)) (before : List Attribute) → Spells (named pool) bytes this rest
    → (text_at pool this.name ≡ Some (codes "Code") → ⊥) → (text_at pool this.name ≡ Some (codes "Exceptions") → ⊥) → HasFound pool before found
    → SpellsSome (lawful_in_method pool before) (λ a now. HasFound pool (before ++ a ∷ []) now) bytes found rest
method_other pool bytes rest this found before spells no_code no_exceptions has = record {
  value = this;
  spells = record { fits = (spells.fits, record { first_code = λ is. absurd (no_code is); first_exceptions = λ is. absurd (no_exceptions is); right = λ is. absurd (no_exceptions is) }); text = spells.text };
  means = record {
    code_is = same_code pool before (before ++ this ∷ []) found.0 (contents_other pool (codes "Code") before this no_code) has.code_is;
    thrown_are = same_exceptions pool before (before ++ this ∷ []) found.1 (contents_other pool (codes "Exceptions") before this no_exceptions) has.thrown_are;
  };
}

-- the first Code
pub method_code : (pool : List Entry) (bytes rest : List ℕ) (this : Attribute) (code : Option (Bor (List ℕ))) (thrown : Option (List Name)) (before : List Attribute) → Spells (named pool) bytes this rest
    → text_at pool this.name ≡ Some (codes "Code") → false ≡ is_some code → HasFound pool before (option_copied code, thrown)
    → SpellsSome (lawful_in_method pool before) (λ a now. HasFound pool (before ++ a ∷ []) now) bytes (Some this.content, thrown) rest
method_code pool bytes rest this code thrown before spells is none has =
    let nothing = no_code pool before code none has.code_is in
    let other : text_at pool this.name ≡ Some (codes "Exceptions") → ⊥ = two_names (text_at pool this.name) is in
    record {
      value = this;
      spells = record { fits = (spells.fits, record { first_code = λ _. nothing; first_exceptions = λ e. absurd (other e); right = λ e. absurd (other e) }); text = spells.text };
      means = record {
        code_is = contents_named pool (codes "Code") before this is ∙ ap (λ (t : List (List ℕ)). t ++ this.content ∷ []) nothing;
        thrown_are = same_exceptions pool before (before ++ this ∷ []) thrown (contents_other pool (codes "Exceptions") before this other) has.thrown_are;
      };
    }

-- the first Exceptions
pub method_exceptions : (pool : List Entry) (bytes rest : List ℕ) (this : Attribute) (code : Option (List ℕ)) (thrown : Option (List Name)) (names : List Name) (before : List Attribute) → Spells (named pool) bytes this rest
    → (text_at pool this.name ≡ Some (codes "Code") → ⊥) → text_at pool this.name ≡ Some (codes "Exceptions") → false ≡ is_some thrown → IsExceptions pool this.content → IsThrown pool (this.content ∷ []) names → HasFound pool before (code, thrown)
    → SpellsSome (lawful_in_method pool before) (λ a now. HasFound pool (before ++ a ∷ []) now) bytes (code, Some names) rest
method_exceptions pool bytes rest this code thrown names before spells other is none right thrown_is has =
    let nothing = no_exceptions pool before thrown none has.thrown_are in
    record {
      value = this;
      spells = record { fits = (spells.fits, record { first_code = λ e. absurd (other e); first_exceptions = λ _. nothing; right = λ _. right }); text = spells.text };
      means = record {
        code_is = same_code pool before (before ++ this ∷ []) code (contents_other pool (codes "Code") before this other) has.code_is;
        thrown_are = (this.content, contents_named pool (codes "Exceptions") before this is ∙ ap (λ (t : List (List ℕ)). t ++ this.content ∷ []) nothing, thrown_is);
      };
    }

-- ---- whether there is no Code

some_more : (xs : List (List ℕ)) (x : List ℕ) → xs ++ x ∷ [] ≡ [] → ⊥
some_more [] x e = absurd cc
some_more (y ∷ xs) x e = absurd cc

pub no_code_more : (pool : List Entry) (i : ℕ) (bytes rest after : List ℕ) (this : Attribute) (none now : Bool) → SpellsSome (times i attribute) (HasNoCode pool) bytes none rest → Spells attribute rest this after
    → IsTrue now ↔ (IsTrue none × (text_at pool this.name ≡ Some (codes "Code") → ⊥)) → SpellsSome (times (i + 1) attribute) (HasNoCode pool) bytes now after
no_code_more pool i bytes rest after this none now so_far one tells =
    let other : contents pool (codes "Code") (so_far.value ++ this ∷ []) ≡ [] → text_at pool this.name ≡ Some (codes "Code") → ⊥ =
    λ e is. some_more (contents pool (codes "Code") so_far.value) this.content (sym (contents_named pool (codes "Code") so_far.value this is) ∙ e) in
    record {
      value = so_far.value ++ this ∷ [];
      spells = times_more attribute i bytes rest after so_far.value this so_far.spells one;
      means = (
        λ yes. let both = tells.0 yes in contents_other pool (codes "Code") so_far.value this both.1 ∙ so_far.means.0 both.0,
        λ e. tells.1 (so_far.means.1 (sym (contents_other pool (codes "Code") so_far.value this (other e)) ∙ e), other e),
      );
    }
