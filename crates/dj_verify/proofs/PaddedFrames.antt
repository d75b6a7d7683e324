-- Locals behind which there is Top, and frames that go into them.
use Rattle.std.proofs.Common.{◌≡◌, ◌↔◌, Bool, ℕ, zero, suc, ◌-◌, List, [], ◌∷◌, ◌++◌, map, replicate, length, refl, sym, ap, ◌∙◌}
use Rattle.std.proofs.lemmas.List.{length-map}
use Rattle.dj_frames.specs.declared.tag.Tag as declared
use Rattle.dj_frames.specs.declared.tag.Tag.TheVariants as code
use Rattle.dj_frames.specs.declared.frame.Frame as code_frame
use Rattle.dj_frames.specs.Frames.{Tag, Top, view_tag, view_tags}
use Rattle.dj_tags.specs.Goes.{Assignability, LocalsGo, Working, FrameGoes, reversed}
use Rattle.dj_verify.specs.Rules.{padded}
use Rattle.dj_verify.specs.Frames.{working_of}

pub map_append : {A B : Type 0} (f : A → B) (xs ys : List A) → map f (xs ++ ys) ≡ map f xs ++ map f ys
map_append f [] ys = refl
map_append f (x ∷ xs) ys = ap (λ zs. f x ∷ zs) (map_append f xs ys)

map_tops : (count : ℕ) → view_tags (replicate count code.Top) ≡ replicate count Top
map_tops zero = refl
map_tops (suc count) = ap (λ tags. Top ∷ tags) (map_tops count)

-- Top put behind locals
tops_behind : (locals : List declared.Tag) (max_locals : ℕ) → view_tags (locals ++ replicate (max_locals - length locals) code.Top) ≡ view_tags locals ++ replicate (max_locals - length (view_tags locals)) Top
tops_behind locals max_locals =
    map_append view_tag locals (replicate (max_locals - length locals) code.Top) ∙ ap (λ tags. view_tags locals ++ tags) (map_tops (max_locals - length locals) ∙ ap (λ (n : ℕ). replicate (max_locals - n) Top) (sym (length-map locals view_tag)))

-- a frame of these parts
abbrev working : List Tag → List Tag → Bool → Working
working locals stack unborn_this = record { locals = locals; stack = stack; unborn_this = unborn_this }

-- a frame with Tops behind its locals
pub padded_is : (frame all : code_frame.Frame) (max_locals : ℕ) → all.locals ≡ frame.locals ++ replicate (max_locals - length frame.locals) code.Top → all.stack ≡ frame.stack → all.unborn_this ≡ frame.unborn_this → working_of all ≡ padded max_locals (working_of frame)
padded_is frame all max_locals locals stack flag =
    ap (λ tags. working tags (reversed (view_tags all.stack)) all.unborn_this) (ap view_tags locals ∙ tops_behind frame.locals max_locals)
    ∙ ap (λ tags. working (view_tags frame.locals ++ replicate (max_locals - length (view_tags frame.locals)) Top) (reversed (view_tags tags)) all.unborn_this) stack
    ∙ ap (λ unborn. working (view_tags frame.locals ++ replicate (max_locals - length (view_tags frame.locals)) Top) (reversed (view_tags frame.stack)) unborn) flag

module _ (Goes : Assignability) where
  into_tops : (froms : List Tag) (count : ℕ) → LocalsGo Goes froms (replicate count Top)
  into_tops froms zero = tt
  into_tops [] (suc count) = (tt, into_tops [] count)
  into_tops (from ∷ froms) (suc count) = (tt, into_tops froms count)

  locals_padded : (froms tos : List Tag) (count : ℕ) → LocalsGo Goes froms tos → LocalsGo Goes froms (tos ++ replicate count Top)
  locals_padded froms [] count go = into_tops froms count
  locals_padded [] (to ∷ tos) count go = (go.0, locals_padded [] tos count go.1)
  locals_padded (from ∷ froms) (to ∷ tos) count go = (go.0, locals_padded froms tos count go.1)

  locals_bare : (froms tos : List Tag) (count : ℕ) → LocalsGo Goes froms (tos ++ replicate count Top) → LocalsGo Goes froms tos
  locals_bare froms [] count go = tt
  locals_bare [] (to ∷ tos) count go = (go.0, locals_bare [] tos count go.1)
  locals_bare (from ∷ froms) (to ∷ tos) count go = (go.0, locals_bare froms tos count go.1)

  -- a frame goes into a padded one exactly where it goes into the other
  pub goes_padded : (max_locals : ℕ) (from to : Working) → FrameGoes Goes from to ↔ FrameGoes Goes from (padded max_locals to)
  goes_padded max_locals from to =
      (λ go. record { locals = locals_padded from.locals to.locals _ go.locals; stack = go.stack; flag = go.flag }, λ go. record { locals = locals_bare from.locals to.locals _ go.locals; stack = go.stack; flag = go.flag })
