-- One more message brings the whole that its part ends.
use Rattle.std.proofs.Common.{◌≡◌, ℕ, List, [], ◌∷◌, ◌++◌, Option, Some, None, refl, sym, ◌∙◌, ap}
use Rattle.std.specs.Prelude.{reverse}
use Rattle.std.specs.List.{filter_map}
use Rattle.std.proofs.lemmas.List.{append-nil, reverse-append}
use Rattle.std.proofs.lemmas.List.Elements.{filter_map-append}
use Rattle.message_codec.specs.declared.messages.Msg.{Msg}
use Rattle.clip_chunks.specs.Parts.{Part, part_of, parts_among}
use Rattle.clip_chunks.specs.OpenRuns.{wholes, wholes_among, brought}

-- the parts with those of one more message
one_more : (limit : ℕ) (parts : List Part) (p : Option Part) (more : List Part)
    → more ≡ filter_map (λ (x : Option Part). x) (p ∷ [])
    → wholes limit (reverse (parts ++ more))
    ≡ wholes limit (reverse parts) ++ brought limit p (reverse parts)
one_more limit parts None more is =
    ap (λ (ps : List Part). wholes limit (reverse (parts ++ ps))) is
    ∙ ap (λ (ps : List Part). wholes limit (reverse ps)) (append-nil parts)
    ∙ sym (append-nil (wholes limit (reverse parts)))
one_more limit parts (Some p) more is =
    ap (λ (ps : List Part). wholes limit (reverse (parts ++ ps))) is
    ∙ ap (wholes limit) (reverse-append parts (p ∷ []))

pub wholes_grow : (limit : ℕ) (messages : List Msg) (m : Msg)
    → wholes_among limit (messages ++ m ∷ [])
    ≡ wholes_among limit messages ++ brought limit (part_of m) (reverse (parts_among messages))
wholes_grow limit messages m =
    ap (λ (ps : List Part). wholes limit (reverse ps)) (filter_map-append part_of messages (m ∷ []))
    ∙ one_more limit (parts_among messages) (part_of m) (filter_map part_of (m ∷ [])) refl
