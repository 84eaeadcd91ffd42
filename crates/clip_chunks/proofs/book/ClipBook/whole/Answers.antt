use Rattle.std.proofs.Common.{ℕ, List, ◌++◌, sym, ◌∙◌, ap, subst}
use Rattle.clip_chunks.specs.Rules.{known}
use Rattle.clip_chunks.specs.Books.{IsClip}
use Rattle.clip_chunks.proofs.BookCalls.{sent_follows}
use Rattle.clip_chunks.proofs.book.ClipBook.whole.Goals as goal

pub returns-clause-follows : goal.returns-clause-follows
returns-clause-follows c = λ screens is.
    let copy =
    c.in_ok-extend.ensures.ok
    ∙ ap (λ (t : List ℕ). t ++ c.args.bytes.now) c.new-known.ensures in
    let kept =
    subst
    (λ (bytes : List ℕ).
    IsClip c.known-2.result (known c.args.by.0 c.args.given bytes screens))
    copy (c.known-2.ensures screens is) in
    sent_follows c.args.self.now c.put.new.self c.args.clip c.kept-kept.result.now c.known-2.result
    c.args.by.0 c.args.given c.args.machine c.args.bytes.now screens
    c.kept-kept.ensures (sym c.is_owner.ensures ∙ c.if-not-is_owner.false)
    (sym c.is_current.ensures ∙ c.if-not-is_current.false) c.put.ensures kept
