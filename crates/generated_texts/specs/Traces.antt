-- The trace: three clients join, answer the hello and say their shape, and then the turns of the
-- run pass.
use Rattle.std.specs.Prelude.{ℕ, List, [], ◌∷◌, ◌++◌, length, codes}
use Rattle.std.specs.List.{flat_map, range_with_len}
use Rattle.std.specs.Int.{w16, w32, to_be_bytes}
use Rattle.std.specs.Fmt.{decimal}
use Rattle.share_base.specs.Hex.{hex}
use Rattle.generated_texts.specs.Lines.{line}

-- ---- what the clients send

abbrev pub frame : List ℕ → List ℕ
frame body = to_be_bytes w32 (length body) ++ body

-- the answer of version 1.6 to a hello, with a name
abbrev pub hello_answer : List ℕ → List ℕ
hello_answer name = frame (codes "Synergy" ++ to_be_bytes w16 1 ++ to_be_bytes w16 6
    ++ to_be_bytes w32 (length name) ++ name)

-- x, y, width, height, warp, and the cursor's x and y
abbrev pub screen_info : List ℕ
screen_info = frame (codes "DINF"
    ++ flat_map (to_be_bytes w16) (0 ∷ 0 ∷ 1024 ∷ 768 ∷ 0 ∷ 512 ∷ 384 ∷ []))

-- ---- lines

abbrev pub turn : ℕ → List ℕ
turn t = line (codes "turn" ∷ decimal t ∷ [])

abbrev pub join : ℕ → List ℕ
join c = line (codes "join" ∷ decimal c ∷ [])

abbrev pub got : ℕ → List ℕ → List ℕ
got c bytes = line (codes "got" ∷ decimal c ∷ hex bytes ∷ [])

unfoldable pub trace_text : List ℕ
trace_text =
    turn 0 ++ flat_map join (1 ∷ 2 ∷ 3 ∷ [])
    ++ turn 0 ++ got 1 (hello_answer (codes "s1")) ++ got 2 (hello_answer (codes "s2"))
    ++ got 3 (hello_answer (codes "s3"))
    ++ turn 0 ++ flat_map (λ c. got c screen_info) (1 ∷ 2 ∷ 3 ∷ [])
    ++ flat_map turn (range_with_len 1 20)
