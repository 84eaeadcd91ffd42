-- A line is what stands before its comment, and the comment; and that is what is left without the
-- blanks at its end, and those.
use Rattle.std.proofs.Common.{◌≡◌, ℕ, Bool, true, false, cond, not, ◌==◌, ◌&&◌, List, [], ◌∷◌, ◌++◌}
use Rattle.std.proofs.Common.{length, take, Option, Some, None, refl, ap, sym, subst, ◌∙◌}
use Rattle.std.proofs.Common.{append-nil, take_at}
use Rattle.std.specs.List.{list_all, position}
use Rattle.std.proofs.lemmas.Bool.{and_parts, and_from, eqb-true, eq-eqb}
use Rattle.share_base.proofs.ListTests.{position_none, none_of_position}
use Rattle.text_lines.specs.Bytes.{is_blank}
use Rattle.text_lines.specs.Reading.{is_empty}
use Rattle.text_lines.specs.Lines.{cut_at, uncommented, trimmed}
use Rattle.text_lines.specs.Spelling.{IsRun, IsGap}
use Rattle.text_lines.specs.SpellingLines.{IsComment}
use Rattle.text_lines.proofs.FirstPlaces.{found_of, found_again}

-- ---- comments

abbrev pub begins_comment : ℕ → Bool
begins_comment b = b == 35

abbrev pub is_other : ℕ → Bool
is_other b = not (begins_comment b)

-- the line without its comment, in which no comment begins, and the comment
pub record Cut (raw line : List ℕ) : Type 0 where
  pub comment : List ℕ
  pub text : raw ≡ line ++ comment
  pub run : IsRun is_other line
  pub ends : IsComment comment

cut_by : (o : Option ℕ) (raw : List ℕ) → position begins_comment raw ≡ o → Cut raw (cut_at o raw)
cut_by None raw e =
    record {
      comment = [];
      text = sym (append-nil raw);
      run = none_of_position begins_comment raw e;
      ends = tt;
    }
cut_by (Some n) raw e =
    let f = found_of begins_comment raw n e in
    let line : f.good ≡ take n raw =
    sym (ap (take n) f.text ∙ take_at f.good (f.bad ∷ f.rest) n (sym f.stands)) in
    subst (λ (x : List ℕ). Cut raw x) line
    (record {
      comment = f.bad ∷ f.rest;
      text = f.text;
      run = f.run;
      ends = eqb-true f.bad 35 f.passes;
    })

pub cut_of : (raw : List ℕ) → Cut raw (uncommented raw)
cut_of raw = cut_by (position begins_comment raw) raw refl

pub cut_again : (line comment : List ℕ) → IsRun is_other line → IsComment comment
    → uncommented (line ++ comment) ≡ line
cut_again line [] run ends =
    ap uncommented (append-nil line)
    ∙ ap (λ (o : Option ℕ). cut_at o line) (position_none begins_comment line run)
cut_again line (b ∷ bs) run ends =
    ap (λ (o : Option ℕ). cut_at o (line ++ b ∷ bs))
    (found_again begins_comment line b bs run (eq-eqb b 35 ends))
    ∙ take_at line (b ∷ bs) (length line) refl

-- ---- blanks at the end

-- what is left without the blanks at the end, and these
pub record EndGap (xs kept : List ℕ) : Type 0 where
  pub gap : List ℕ
  pub text : xs ≡ kept ++ gap
  pub blank : IsGap gap

nothing_kept : (bs kept : List ℕ) → is_empty kept ≡ true → EndGap bs kept → IsGap bs
nothing_kept bs [] e g = ap (list_all is_blank) g.text ∙ g.blank
nothing_kept bs (x ∷ xs) e g = absurd cc

end_by : (t : Bool) (b : ℕ) (bs kept : List ℕ) → (is_blank b && is_empty kept) ≡ t → EndGap bs kept
    → EndGap (b ∷ bs) (cond t [] (b ∷ kept))
end_by true b bs kept e g =
    let both = and_parts (is_blank b) (is_empty kept) e in
    record {
      gap = b ∷ bs;
      text = refl;
      blank =
          and_from (is_blank b) (list_all is_blank bs) both.0 (nothing_kept bs kept both.1 g);
    }
end_by false b bs kept e g =
    record { gap = g.gap; text = ap (λ (t : List ℕ). b ∷ t) g.text; blank = g.blank }

pub end_gap_of : (xs : List ℕ) → EndGap xs (trimmed xs)
unfolding trimmed
end_gap_of [] = record { gap = []; text = refl; blank = refl }
end_gap_of (b ∷ bs) =
    end_by (is_blank b && is_empty (trimmed bs)) b bs (trimmed bs) refl (end_gap_of bs)
