-- The first offset behind 0 at which a frame is given, found by going through the frames.
use Rattle.std.proofs.Common.{◌≡◌, ◌⊎◌, ◌↔◌, ℕ, ◌+◌, ◌<◌, ◌≤◌, List, [], ◌∷◌, ◌++◌, Option, Some, length, take, get_or, refl, sym, ap, subst, inl, inr, ◌∙◌, arith}
use Rattle.std.proofs.lemmas.List.{take_more, take_all, map-append}
use Rattle.dj_frames.specs.declared.frame.Frame as code_frame
use Rattle.dj_frames.specs.Frames.{Frame, view_frame, view_frames}
use Rattle.dj_starts.specs.Starts.{IsGiven}
use Rattle.dj_birth_causes.specs.Leasts.{IsFirst, IsGivenBehind, lesser}
use Rattle.dj_birth_causes.proofs.Firsts.{first_map, first_either}

abbrev Listed : Type 0
Listed = List (ℕ × code_frame.Frame)

given_either : (first second : List (ℕ × Frame)) (pc : ℕ) → IsGiven (first ++ second) pc ↔ (IsGiven first pc ⊎ IsGiven second pc)
given_either [] second pc = (λ one. inr one, λ either. elim either [ inl none ↦ absurd none | inr one ↦ one ])
given_either (frame ∷ rest) second pc =
    let more = given_either rest second pc in (
      λ one. elim one [ inl here ↦ inl (inl here) | inr there ↦ elim (more.0 there) [ inl among ↦ inl (inr among) | inr behind ↦ inr behind ] ],
      λ either. elim either [ inl first ↦ elim first [ inl here ↦ inl here | inr there ↦ inr (more.1 (inl there)) ] | inr behind ↦ inr (more.1 (inr behind)) ],
    )

-- a frame at one offset
abbrev IsOne : ℕ → ℕ → Type 0
IsOne at pc = (0 < pc) × (pc ≡ at)

one_first : (at : ℕ) → 0 < at → IsFirst (IsOne at) (Some at)
one_first at above = record { here = (above, refl); least = λ other one. (let same = one.1 in omega (arith, same)) }

taken : (frames : Listed) (i : ℕ) (x : ℕ × code_frame.Frame) → i < length frames → x ≡ get_or frames i x → view_frames (take (i + 1) frames) ≡ view_frames (take i frames) ++ (x.0, view_frame x.1) ∷ []
taken frames i x within is = ap view_frames (take_more frames i x within) ∙ ap (λ (y : ℕ × code_frame.Frame). view_frames (take i frames ++ y ∷ [])) (sym is) ∙ map-append (λ (y : ℕ × code_frame.Frame). (y.0, view_frame y.1)) (take i frames) (x ∷ [])

module _ (frames : Listed) (i : ℕ) (x : ℕ × code_frame.Frame) (within : i < length frames) (is : x ≡ get_or frames i x) (least : Option ℕ) (were : IsFirst (IsGivenBehind (view_frames (take i frames))) least) where
  with_more : (found : Option ℕ) → IsFirst (IsGivenBehind (view_frames (take i frames) ++ (x.0, view_frame x.1) ∷ [])) found → IsFirst (IsGivenBehind (view_frames (take (i + 1) frames))) found
  with_more found = subst (λ (list : List (ℕ × Frame)). IsFirst (IsGivenBehind list) found) (sym (taken frames i x within is))

  pub given_more : 0 < x.0 → IsFirst (IsGivenBehind (view_frames (take (i + 1) frames))) (lesser least (Some x.0))
  given_more above = with_more (lesser least (Some x.0)) (first_map (λ pc. IsGivenBehind (view_frames (take i frames)) pc ⊎ IsOne x.0 pc) (IsGivenBehind (view_frames (take i frames) ++ (x.0, view_frame x.1) ∷ []))
      (λ pc either. elim either [ inl among ↦ (among.0, (given_either (view_frames (take i frames)) ((x.0, view_frame x.1) ∷ []) pc).1 (inl among.1)) | inr one ↦ (one.0, (given_either (view_frames (take i frames)) ((x.0, view_frame x.1) ∷ []) pc).1 (inr (inl one.1))) ])
      (λ pc has. elim ((given_either (view_frames (take i frames)) ((x.0, view_frame x.1) ∷ []) pc).0 has.1) [ inl among ↦ inl (has.0, among) | inr one ↦ elim one [ inl here ↦ inr (has.0, here) | inr none ↦ absurd none ] ])
      (lesser least (Some x.0))
      (first_either (IsGivenBehind (view_frames (take i frames))) (IsOne x.0) least (Some x.0) were (one_first x.0 above)))

  pub given_same : x.0 ≤ 0 → IsFirst (IsGivenBehind (view_frames (take (i + 1) frames))) least
  given_same low = with_more least (first_map (IsGivenBehind (view_frames (take i frames))) (IsGivenBehind (view_frames (take i frames) ++ (x.0, view_frame x.1) ∷ []))
      (λ pc among. (among.0, (given_either (view_frames (take i frames)) ((x.0, view_frame x.1) ∷ []) pc).1 (inl among.1)))
      (λ pc has. elim ((given_either (view_frames (take i frames)) ((x.0, view_frame x.1) ∷ []) pc).0 has.1) [ inl among ↦ (has.0, among) | inr one ↦ elim one [ inl here ↦ absurd (let above = has.0 in omega (arith, here, above, low)) | inr none ↦ absurd none ] ])
      least were)

pub given_all : (frames : Listed) (i : ℕ) → length frames ≤ i → (least : Option ℕ) → IsFirst (IsGivenBehind (view_frames (take i frames))) least → IsFirst (IsGivenBehind (view_frames frames)) least
given_all frames i past least were = subst (λ (list : Listed). IsFirst (IsGivenBehind (view_frames list)) least) (take_all i frames past) were
