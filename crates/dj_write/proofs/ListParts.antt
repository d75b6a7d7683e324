-- Members by their indices, one after another.
use Rattle.std.proofs.Common.{◌≡◌, ℕ, ◌+◌, ◌<◌, ◌≤◌, List, [], ◌∷◌, ◌++◌, length, map, take, get_or, sym, ap, subst, ◌∙◌}
use Rattle.std.specs.List.{All}
use Rattle.std.proofs.lemmas.List.{get_or-map, length-map, map-append, take_all, take_more}
use Rattle.std.proofs.lemmas.List.Elements.{All-get_or, All-push}
use Rattle.std.proofs.lemmas.Slice.Zip.{all_zipped_more}
use Rattle.dj_layout.specs.Layout.{Layout}
use Rattle.dj_pool.specs.declared.fault.BrokenKind.{BrokenKind}
use Rattle.dj_pool.specs.declared.entry.Entry.{Entry}
use Rattle.dj_pool.specs.PoolFormat.{class_at}
use Rattle.dj_class.specs.FileFormat.{LeadsTo}
use Rattle.dj_names.specs.Headers.{Name}
use Rattle.dj_class.specs.Members as plain
use Rattle.dj_write.specs.declared.members.RawMember.{RawMember}
use Rattle.dj_write.specs.Files.{view_member, view_members}
use Rattle.dj_write.specs.Written.{AreClasses, AreRaws, IsRaw, LeadsIn}

-- what holds of each item, as it is seen, holds of the one at hand
pub at_hand : {A B : Type 0} (view : A → B) (P : B → Type 0) (xs : List A) (i : ℕ) (x : A) → i < length xs → x ≡ get_or xs i x → All P (map view xs) → P (view x)
at_hand view P xs i x within is all =
    subst P (get_or-map view xs i x (view x) within ∙ ap view (sym is)) (All-get_or P (map view xs) i (view x) (rw length-map within) all)

-- one member more
pub raws_more : {A B : Type 0} (layout : Layout BrokenKind plain.RawMember) (Describes : plain.RawMember → B → Type 0) (view : A → B) (xs : List A) (i : ℕ) (x : A) (raws pushed : List RawMember) (raw : RawMember) → i < length xs → x ≡ get_or xs i x
    → AreRaws layout Describes (take i (map view xs)) raws → IsRaw layout Describes (view x) (view_member raw) → pushed ≡ raws ++ raw ∷ [] → AreRaws layout Describes (take (i + 1) (map view xs)) pushed
raws_more layout Describes view xs i x raws pushed raw within is so_far one is_pushed =
    let items : take (i + 1) (map view xs) ≡ take i (map view xs) ++ view x ∷ [] =
    take_more (map view xs) i (view x) (rw length-map within) ∙ ap (λ last. take i (map view xs) ++ last ∷ []) (get_or-map view xs i x (view x) within ∙ ap view (sym is)) in
    let seen : view_members pushed ≡ view_members raws ++ view_member raw ∷ [] = ap view_members is_pushed ∙ map-append view_member raws (raw ∷ []) in
    record {
      fit = subst (All layout.Fits) (sym seen) (All-push layout.Fits (view_members raws) (view_member raw) so_far.fit one.fits);
      describe = rw (seen, items) (all_zipped_more Describes (view_members raws) (take i (map view xs)) (view_member raw) (view x) so_far.describe one.describes);
    }

-- all members
pub raws_all : {A B : Type 0} (layout : Layout BrokenKind plain.RawMember) (Describes : plain.RawMember → B → Type 0) (view : A → B) (xs : List A) (i : ℕ) (raws : List RawMember) → length xs ≤ i → AreRaws layout Describes (take i (map view xs)) raws
    → AreRaws layout Describes (map view xs) raws
raws_all layout Describes view xs i raws past all = subst (λ items. AreRaws layout Describes items raws) (take_all i (map view xs) (rw length-map past)) all

-- one class more
pub classes_more : (pool : List Entry) (names : List Name) (i : ℕ) (name : Name) (indices pushed : List ℕ) (index : ℕ) → i < length names → name ≡ get_or names i name → AreClasses pool (take i names) indices → LeadsIn (class_at pool) index name
    → pushed ≡ indices ++ index ∷ [] → AreClasses pool (take (i + 1) names) pushed
classes_more pool names i name indices pushed index within is so_far one is_pushed =
    let items : take (i + 1) names ≡ take i names ++ name ∷ [] = take_more names i name within ∙ ap (λ last. take i names ++ last ∷ []) (sym is) in
    record {
      small = subst (All (λ at. at < 65536)) (sym is_pushed) (All-push (λ at. at < 65536) indices index so_far.small one.small);
      lead = rw (is_pushed, items) (all_zipped_more (LeadsTo pool) indices (take i names) index name so_far.lead one.leads);
    }
