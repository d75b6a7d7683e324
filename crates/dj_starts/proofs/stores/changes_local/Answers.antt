use Rattle.std.proofs.Common.{◌≡◌, ◌-◌, length, ◌∙◌, ap, sym}
use Rattle.std.proofs.lemmas.List.{length-map}
use Rattle.std.specs.Prelude.{slice_index_or}
use Rattle.dj_frames.specs.Frames.{Top, view_tag, view_tags, view_frame}
use Rattle.dj_starts.specs.Starts.{top_of}
use Rattle.dj_starts.proofs.Tags.{no_tag}
use Rattle.dj_starts.proofs.stores.changes_local.Goals as goal

pub returns-in-None : goal.returns-in-None
returns-in-None c =
    let tags = c.args.frame.now.stack in
    let last : length (view_tags tags) - 1 ≡ c.saturating_sub.result = ap (λ n. n - 1) (length-map tags view_tag ∙ sym c.len.ensures.len) ∙ sym c.saturating_sub.ensures in
    let top : top_of (view_frame c.args.frame.now) ≡ Top = ap (λ n. slice_index_or (view_tags tags) n Top) last ∙ no_tag tags c.saturating_sub.result c.in-None.ensures.tag in
    record { exact = rw (top, ← c.from-slot.ensures) c.changes_to-in-None.ensures.exact }
