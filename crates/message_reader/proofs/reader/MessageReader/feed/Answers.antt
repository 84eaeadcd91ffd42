use Rattle.std.proofs.Common.{◌+◌, ◌∙◌, refl, ap, sym, subst, length, arith}
use Rattle.wire_frames.specs.Framers.{FramerParts}
use Rattle.wire_frames.proofs.First.{IsBytes}
use Rattle.message_reader.specs.declared.reader.MessageReader.TheInside.{Inside}
use Rattle.message_reader.specs.ReaderParts.{ReaderParts}
use Rattle.message_reader.specs.Steps.{Extends}
use Rattle.message_reader.proofs.Stepping.{extends, fed_rest}
use Rattle.message_reader.proofs.reader.MessageReader.feed.Goals as goal
use Rattle.message_reader.proofs.reader.MessageReader.feed.Goals.{in-None+in_ok-feed, in_default}

pub returns-clause-ok : goal.returns-clause-ok
returns-clause-ok c =
    let was = c.self.inside in
    let piece = c.args.piece.now in
    let small : IsBytes piece = λ i. omega (arith, c.type_inv.piece i) in
    let from : ReaderParts =
    record {
      role = was.role;
      total = was.total;
      begun = was.begun;
      framer = was.framer;
      bad = was.bad;
    }
    in
    let after : Inside → ReaderParts =
    λ i.
    record {
      role = i.role;
      total = i.total + length piece;
      begun = i.begun;
      framer = i.framer;
      bad = i.bad;
    }
    in
    let Fed : Inside → Type 0 = λ i. Extends from (after i) piece in
    let fed : Fed c.match-self.self-inside = elim c.match-self.branch [
      | in-None+in_ok-feed w ↦
          let fed = w.in_ok-feed.ensures.ok in
          let rest =
          ap (λ (f : FramerParts). f.rest) fed
          ∙ fed_rest was.framer piece c.self.invariant.fine in
          subst Fed (sym w.self-inside-is)
          (extends from _ piece small refl refl refl (ap (λ (f : FramerParts). f.given) fed)
          refl (λ none. rest))
      | in_default w ↦
          subst Fed (sym w.self-inside-is)
          (extends from _ piece small refl refl refl refl refl
          (λ none. absurd (w.in_default.not-None none)))
    ] in
    subst (λ (r : ReaderParts). Extends r (after c.match-self.self-inside) piece) c.self.view_is fed
