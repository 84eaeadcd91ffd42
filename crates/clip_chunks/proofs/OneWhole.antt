-- The parts that a clipboard is cut into are one whole.
use Rattle.std.proofs.Common.{◌≡◌, ℕ, ◌<◌, ◌≤◌, ◌^◌, true, List, [], ◌∷◌, ◌++◌, length, map, Some}
use Rattle.std.proofs.Common.{refl, sym, ◌∙◌, ap, arith}
use Rattle.std.specs.Prelude.{reverse}
use Rattle.std.specs.Fmt.{decimal}
use Rattle.std.specs.List.{concat, list_all}
use Rattle.std.specs.Char.{is_ascii_digit}
use Rattle.std.proofs.lemmas.List.{reverse-reverse}
use Rattle.std.proofs.lemmas.Fmt.{digits_decimal, digits_value-decimal, decimal_nonempty}
use Rattle.std.proofs.lemmas.Fmt.{length-decimal-le}
use Rattle.share_base.specs.declared.clip_id.ClipId.{ClipId}
use Rattle.message_codec.specs.declared.clip_mark.ClipMark.TheVariants as mark
use Rattle.clip_chunks.specs.Parts.{Part, part, run, message_of, parts_among, of_clip}
use Rattle.clip_chunks.specs.Wholes.{size_of, EndsWhole}
use Rattle.clip_chunks.specs.OpenRuns.{Whole, whole_of, whole_at, wholes}
use Rattle.clip_chunks.specs.Sending.{full_chunk, chunks_of, parts_of, HoldsOne}
use Rattle.clip_chunks.proofs.Sizes.{digits, size_of-some}
use Rattle.clip_chunks.proofs.Cuts.{cut-concat}
use Rattle.clip_chunks.proofs.Runs.{begun}
use Rattle.clip_chunks.proofs.EndedRuns.{turned, own_first, whole_found}

same_parts : (parts : List Part) → parts_among (map message_of parts) ≡ parts
same_parts [] = refl
same_parts (p ∷ parts) = ap (λ (ps : List Part). p ∷ ps) (same_parts parts)

-- without an end there is no whole
no_whole : (limit : ℕ) (clip : ClipId) (seq : ℕ) (text : List ℕ) (chunks : List (List ℕ))
    → wholes limit (begun clip seq text chunks []) ≡ []
no_whole limit clip seq text [] = refl
no_whole limit clip seq text (c ∷ cs) =
    ap (λ (ws : List Whole). ws ++ []) (no_whole limit clip seq text cs)

said : (n : ℕ) → n < 10 ^ 10 → size_of (decimal n) ≡ Some n
said n small =
    let all : list_all is_ascii_digit (decimal n) ≡ true = digits_decimal digits n (omega arith) in
    let some : 0 < length (decimal n) = decimal_nonempty n (omega arith) in
    let short : length (decimal n) ≤ 10 =
    length-decimal-le 10 n (omega arith) small (omega arith) in
    size_of-some (decimal n) (omega arith) short all
    ∙ ap Some (digits_value-decimal digits n (omega arith))

-- all of them are of that clipboard
all_own : (clip : ClipId) (seq : ℕ) (text : List ℕ) (chunks : List (List ℕ))
    → of_clip clip (begun clip seq text chunks []) ≡ begun clip seq text chunks []
all_own clip seq text [] = own_first (part mark.Start clip seq text) []
all_own clip seq text (c ∷ cs) =
    own_first (part mark.Chunk clip seq c) (begun clip seq text cs [])
    ∙ ap (λ (ps : List Part). part mark.Chunk clip seq c ∷ ps) (all_own clip seq text cs)

pub holds_one : (clip : ClipId) (seq : ℕ) (bytes : List ℕ) → length bytes < 10 ^ 10
    → HoldsOne clip seq bytes
holds_one clip seq bytes small limit within =
    let text : List ℕ = decimal (length bytes) in
    let chunks : List (List ℕ) = chunks_of bytes in
    let end : Part = part mark.End clip seq [] in
    let older : List Part = begun clip seq text (reverse chunks) [] in
    let back : reverse (end ∷ older) ≡ run clip seq text chunks [] =
    turned clip seq text (reverse chunks) [] []
    ∙ ap (λ (cs : List (List ℕ)). run clip seq text cs []) (reverse-reverse chunks) in
    let last_first : reverse (run clip seq text chunks []) ≡ end ∷ older =
    ap reverse (sym back) ∙ reverse-reverse (end ∷ older) in
    let all : bytes ≡ concat chunks =
    sym (cut-concat full_chunk (omega arith) (length bytes) bytes (omega arith)) in
    let whole : EndsWhole limit bytes end older = record {
      before = [];
      parts = run clip seq text chunks [];
      last =
          ap reverse
          (own_first end older
          ∙ ap (λ (ps : List Part). end ∷ ps) (all_own clip seq text (reverse chunks)))
          ∙ back;
      whole =
          record {
            digits = text;
            chunks = chunks;
            ignored = [];
            parts_are = refl;
            size = said (length bytes) small;
            within = within;
            bytes_are = all;
          };
    } in
    ap (λ (ps : List Part). wholes limit (reverse ps)) (same_parts (parts_of clip seq bytes))
    ∙ ap (wholes limit) last_first
    ∙ ap (λ (ws : List Whole). ws ++ whole_of end (whole_at limit end older))
    (no_whole limit clip seq text (reverse chunks))
    ∙ ap (whole_of end) (whole_found limit bytes end older whole)
