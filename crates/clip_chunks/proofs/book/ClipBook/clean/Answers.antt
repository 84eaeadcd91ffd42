use Rattle.std.proofs.Common.{refl}
use Rattle.share_base.specs.declared.clip_id.ClipId.TheVariants.{Clipboard, Selection}
use Rattle.clip_chunks.proofs.BookCalls.{entered_follows}
use Rattle.clip_chunks.proofs.book.ClipBook.clean.Goals as goal

pub returns-in-Clipboard-clause-follows : goal.returns-in-Clipboard-clause-follows
returns-in-Clipboard-clause-follows c =
    entered_follows c.args.self.now _ _ c.args.clip Clipboard c.args.no.0 c.in-Clipboard.is refl
    refl refl refl c.clean.ensures.changes

pub returns-in-Selection-clause-follows : goal.returns-in-Selection-clause-follows
returns-in-Selection-clause-follows c =
    entered_follows c.args.self.now _ _ c.args.clip Selection c.args.no.0 c.in-Selection.is refl
    refl refl refl c.clean-in-Selection.ensures.changes
