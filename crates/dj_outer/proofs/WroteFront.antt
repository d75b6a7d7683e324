-- A writer that took the front of a piece, while the rest is still to be written.
use Rattle.std.proofs.Common.{◌≡◌, ℕ, List, ◌++◌, Option, take, drop, length, sym, ap, ◌∙◌, subst, append_assoc, take-append-drop}
use lib.Seq.{take-append_seam}
use Rattle.std.specs.Io.KnownBytes.{Appends, Keeps}
use Rattle.dj_outer.specs.Sink.{AppendsFront}
use Rattle.std.proofs.KnownBytes.{Appends-trans, Appends-kept}

-- what the writer took since `before` is the piece without the rest
pub record WroteFront (before now : Option (List ℕ)) (piece rest : List ℕ) : Type 0 where
  pub done : List ℕ
  pub split : piece ≡ done ++ rest
  pub appended : Appends before now done

pub WroteFront-more : (before now after : Option (List ℕ)) (piece rest : List ℕ) (count : ℕ) → WroteFront before now piece rest
    → Appends now after (take count rest) → WroteFront before after piece (drop count rest)
WroteFront-more before now after piece rest count front taken = record {
  done = front.done ++ take count rest;
  split = front.split ∙ ap (λ l. front.done ++ l) (sym (take-append-drop count rest)) ∙ sym (append_assoc front.done (take count rest) (drop count rest));
  appended = Appends-trans before now after front.done (take count rest) front.appended taken;
}

pub WroteFront-kept : (before now after : Option (List ℕ)) (piece rest : List ℕ) → WroteFront before now piece rest → Keeps now after → WroteFront before after piece rest
WroteFront-kept before now after piece rest front keeps =
    record { done = front.done; split = front.split; appended = Appends-kept before now after front.done front.appended keeps }

pub AppendsFront-rest : (before now : Option (List ℕ)) (piece rest : List ℕ) → WroteFront before now piece rest → AppendsFront before now piece
AppendsFront-rest before now piece rest front =
    (length front.done, subst (Appends before now) (sym (ap (take (length front.done)) front.split ∙ take-append_seam front.done rest)) front.appended)
