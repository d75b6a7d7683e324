use Rattle.dj_make.proofs.Room.{six_texts}
use Rattle.dj_make.proofs.file.push_texts.Goals as goal

pub returns : goal.returns
returns c = record {
  pushed = six_texts _ _ _ _ _ _ _ _ _ _ _ _ _ c.in_ok-push_text.ensures.pushed c.in_ok-push_text-2.ensures.pushed c.in_ok-push_text-3.ensures.pushed c.in_ok-push_text-4.ensures.pushed c.in_ok-push_text-5.ensures.pushed c.in_ok-push_text-6.ensures.pushed;
}
