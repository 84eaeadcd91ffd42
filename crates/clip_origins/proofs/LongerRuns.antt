-- A whole that a part ends is one among more parts before, too, and then the messages have one whole more.
use Rattle.std.specs.Prelude.{◌≡◌, ℕ, List, [], ◌∷◌, ◌++◌, reverse, Option, Some}
use Rattle.std.proofs.Common.{ap, sym, ◌∙◌, append_assoc}
use Rattle.std.proofs.lemmas.List.{reverse-append, reverse-reverse}
use Rattle.std.proofs.lemmas.List.Elements.{filter-append}
use Rattle.message_codec.specs.declared.messages.Msg.{Msg}
use Rattle.clip_chunks.specs.Parts.{Part, part_of, parts_among, of_clip, same_clip}
use Rattle.clip_chunks.specs.Wholes.{EndsWhole}
use Rattle.clip_chunks.specs.OpenRuns.{Whole, whole_at, whole_of, brought, wholes_among}
use Rattle.clip_chunks.proofs.EndedRuns.{ends_whole, whole_found}
use Rattle.clip_chunks.proofs.WholesGrow.{wholes_grow}

ends-longer : (limit : ℕ) (bytes : List ℕ) (p : Part) (older more : List Part) → EndsWhole limit bytes p older → EndsWhole limit bytes p (older ++ more)
ends-longer limit bytes p older more e =
    let mine : List Part → List Part = of_clip p.clip in
    let longer : mine (p ∷ (older ++ more)) ≡ mine (p ∷ older) ++ mine more = filter-append (λ (q : Part). same_clip p.clip q.clip) (p ∷ older) more in
    record {
      before = reverse (mine more) ++ e.before;
      parts = e.parts;
      last = ap reverse longer ∙ (reverse-append (mine (p ∷ older)) (mine more) ∙ (ap (λ (ps : List Part). reverse (mine more) ++ ps) e.last ∙ sym (append_assoc (reverse (mine more)) e.before e.parts)));
      whole = e.whole;
    }

-- the parts that were kept are the last of those that were sent
pub one-more-whole : (limit : ℕ) (bytes : List ℕ) (m : Msg) (p : Part) (earlier : List Msg) (dropped kept : List Part) → part_of m ≡ Some p → parts_among earlier ≡ dropped ++ reverse kept → whole_at limit p kept ≡ Some bytes
    → wholes_among limit (earlier ++ m ∷ []) ≡ wholes_among limit earlier ++ record { clip = p.clip; seq = p.seq; bytes = bytes } ∷ []
one-more-whole limit bytes m p earlier dropped kept is all at =
    let turned : reverse (parts_among earlier) ≡ kept ++ reverse dropped = ap reverse all ∙ (reverse-append dropped (reverse kept) ∙ ap (λ (ps : List Part). ps ++ reverse dropped) (reverse-reverse kept)) in
    let found : whole_at limit p (kept ++ reverse dropped) ≡ Some bytes = whole_found limit bytes p (kept ++ reverse dropped) (ends-longer limit bytes p kept (reverse dropped) (ends_whole limit bytes p kept at)) in
    let here : whole_at limit p (reverse (parts_among earlier)) ≡ Some bytes = ap (whole_at limit p) turned ∙ found in
    let one : brought limit (part_of m) (reverse (parts_among earlier)) ≡ record { clip = p.clip; seq = p.seq; bytes = bytes } ∷ [] = ap (λ (o : Option Part). brought limit o (reverse (parts_among earlier))) is ∙ ap (whole_of p) here in
    wholes_grow limit earlier m ∙ ap (λ (ws : List Whole). wholes_among limit earlier ++ ws) one
