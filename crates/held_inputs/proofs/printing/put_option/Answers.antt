use Rattle.std.proofs.Common.{◌≡◌, ◌∙◌, ap, ◌++◌, [], ◌∷◌, List, ℕ, append_assoc}
use Rattle.std.specs.Prelude.{codes}
use Rattle.std.specs.Int.{w32, to_be_bytes}
use Rattle.std.specs.Fmt.{decimal}
use Rattle.held_inputs.specs.Line.{text}
use Rattle.share_base.specs.Hex.{hex}
use Rattle.held_inputs.proofs.printing.put_option.Goals as goal

-- five parts, one after another
five : (l l1 l2 l3 l4 l5 code value : List ℕ) → l1 ≡ l ++ codes "option " → l2 ≡ l1 ++ code
    → l3 ≡ l2 ++ 32 ∷ [] → l4 ≡ l3 ++ value → l5 ≡ l4 ++ 10 ∷ []
    → l5 ≡ l ++ text (codes "option") (code ∷ value ∷ [])
five l l1 l2 l3 l4 l5 code value e1 e2 e3 e4 e5 = rw (e5, e4, e3, e2, e1) (simp append_assoc)

pub returns-clause-printed : goal.returns-clause-printed
returns-clause-printed g c =
    five _ _ _ _ _ _ (hex (to_be_bytes w32 c.args.code)) (decimal c.args.value)
    c.extend.ensures.appended
    (c.put_hex.ensures.printed
    ∙ ap (λ (bytes : List ℕ). g.B.Buffer.content c.extend.new.self ++ hex bytes)
    c.to_be_bytes.ensures)
    c.extend-2.ensures.appended c.put_u32.ensures.printed c.extend-3.ensures.appended
