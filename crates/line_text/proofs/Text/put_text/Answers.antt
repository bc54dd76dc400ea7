-- The part of the slice that the text is copied to.
use Rattle.std.proofs.Common.{refl, arith}
use Rattle.line_text.proofs.Writing.{put_part}
use Rattle.line_text.proofs.Text.put_text.Goals as goal

pub returns : goal.returns
returns c = put_part _ _ _ c.copy_from_slice.ensures.after refl (omega arith) c.requires
