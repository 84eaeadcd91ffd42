use Rattle.std.proofs.Common.{◌≡◌, ℕ, ◌+◌, ◌-◌, List, length, false, refl, arith, take, drop, ◌∙◌}
use Rattle.std.proofs.Common.{ap, ◌<◌, ◌≤◌, ◌^◌, Bool}
use Rattle.std.proofs.lemmas.Grind.{common_steps}
use Rattle.std.proofs.lemmas.List.{take_all, length-drop}
use Rattle.wire_frames.specs.Framing.{IsPartial}
use Rattle.wire_frames.specs.Framers.{FramerParts}
use Rattle.wire_frames.specs.Calls.{Waited, Extends}
use Rattle.wire_frames.proofs.First.{parts_of, gives_frame, bounded}
use Rattle.wire_frames.proofs.Histories.{stands_gave, stands_waited}
use Rattle.wire_frames.proofs.framer.Framer.next.Goals as goal

-- a slice from a place to the end
tail_is : (at : ℕ) (slice bytes : List ℕ) → slice ≡ bytes
    → take (length slice - at) (drop at slice) ≡ drop at bytes
tail_is at slice bytes same =
    take_all (length slice - at) (drop at slice) (omega (arith, length-drop at slice))
    ∙ ap (drop at) same

-- what is owed where less than a frame is at hand
abbrev Waits : FramerParts → Type 0
Waits f = record {
  answers : (f.over ≡ false) × IsPartial f.limit f.rest;
  bound : f.given + length f.rest < 2 ^ 63;
  extends : Extends f f Waited;
  after_borrow : Unit {0};
}

waits : (f : FramerParts) (gone given limit : ℕ) (over : Bool) (bytes : List ℕ)
    → parts_of gone given bytes limit over ≡ f → given ≤ length bytes → gone + length bytes < 2 ^ 63
    → (f.over ≡ false) × IsPartial f.limit f.rest → Waits f
waits f gone given limit over bytes parts le lt partial = record {
  answers = partial;
  bound = bounded f gone given limit over bytes parts le lt;
  extends = λ first calls s. stands_waited first f calls partial.0 partial.1 s;
  after_borrow = tt;
}

pub returns : goal.returns
returns c =
    let i = c.self.inside in
    let n = c.first_length-len.result in
    let shown = take (length c.deref.result.now - i.given) (drop i.given c.deref.result.now) in
    let given = gives_frame c.args.self.now i.gone i.given n i.limit i.over i.bytes.items shown
    c.self.view_is (tail_is _ _ _ c.deref.ensures.value)
    c.first_length-len.ensures.spelled c.first_length-len.ensures.value c.if-len-self.false
    c.if-rest-end.false c.self.invariant.3 in (
      (refl, (λ _. tt), given.left),
      record {
        answers = (given.place, given.not_over, given.first);
        extends =
            λ first calls s.
            stands_gave first c.args.self.now (i.gone + i.given) (take (4 + n - 4) (drop 4 shown))
            calls given.place given.not_over given.first s;
        after_borrow = tt;
        bound =
            bounded c.args.self.now i.gone i.given i.limit i.over i.bytes.items c.self.view_is
            c.self.invariant.0 c.self.invariant.1;
      },
    )

pub returns-then-rest-lt4 : goal.returns-then-rest-lt4
returns-then-rest-lt4 c =
    let i = c.self.inside in
    let shown-is : take (length c.deref.result.now - i.given) (drop i.given c.deref.result.now)
    ≡ drop i.given i.bytes.items = tail_is _ _ _ c.deref.ensures.value in (
      (refl, (λ _. tt), c.self.view_is),
      waits c.args.self.now i.gone i.given i.limit i.over i.bytes.items c.self.view_is
          c.self.invariant.0 c.self.invariant.1 (grind (arith, common_steps)),
    )

pub returns-then-rest-end : goal.returns-then-rest-end
returns-then-rest-end c =
    let i = c.self.inside in
    let shown-is : take (length c.deref.result.now - i.given) (drop i.given c.deref.result.now)
    ≡ drop i.given i.bytes.items = tail_is _ _ _ c.deref.ensures.value in (
      (refl, (λ _. tt), c.self.view_is),
      waits c.args.self.now i.gone i.given i.limit i.over i.bytes.items c.self.view_is
          c.self.invariant.0 c.self.invariant.1 (grind (arith, common_steps)),
    )
