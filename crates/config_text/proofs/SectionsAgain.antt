-- Whole sections that are read again, from their opening to their end, one after another.
use Rattle.std.proofs.Common.{◌≡◌, ℕ, ◌+◌, List, [], ◌∷◌, ◌++◌, length, Result, Ok, Option, None}
use Rattle.std.proofs.Common.{refl, ap, sym, ◌∙◌}
use Rattle.std.specs.Prelude.{codes}
use Rattle.std.specs.List.{flat_map}
use Rattle.std.specs.Str.Lines.{lines}
use Rattle.std.proofs.lemmas.List.Concat.{flat_map-append}
use Rattle.text_lines.specs.Lines.{trimmed, line_text}
use Rattle.text_lines.specs.Reading.{◌>>=◌, literal_at, sign_at, word_at}
use Rattle.text_lines.specs.LineByLine.{all_lines}
use Rattle.config_text.specs.declared.faults.ConfigRefusal.{ConfigRefusal}
use Rattle.config_text.specs.declared.sections.Opened.{Opened}
use Rattle.config_text.specs.declared.sections.Section.{Section}
use Rattle.config_text.specs.declared.sections.Section.TheVariants.{Screens, Aliases, Links}
use Rattle.config_text.specs.declared.sections.Section.TheVariants.{Options}
use Rattle.screen_config.specs.Configurations.{Configuration, nothing}
use Rattle.config_text.specs.Drafts.{Draft}
use Rattle.config_text.specs.Lines.{judged, reading, closed}
use Rattle.config_text.specs.Normal.{section_of}
use Rattle.config_text.specs.Shapes.{section_at}
use Rattle.config_text.specs.Sections.{section_text, section_named, opened_as, outside, words_in}
use Rattle.config_text.proofs.Runs.{draft_in, ended, AreLines, are_lines_both, lines_again}
use Rattle.config_text.proofs.Runs.{made_both, read_on, ReadsText}

-- the draft where no section is open
abbrev pub shut : Configuration → Draft
shut c = record { opened = None; header = None; config = c }

-- this text is made of whole sections which lead from one configuration to the other
pub record ReadsWhole (from : Configuration) (text : List ℕ) (to : Configuration) : Type 0 where
  pub parts : List (List ℕ)
  pub made : text ≡ flat_map ended parts
  pub whole : AreLines parts
  pub reads : (n : ℕ) → all_lines judged n (shut from) parts ≡ Ok (shut to)

opens : (s : Section) (n : ℕ) (c : Configuration)
    → judged n (shut c) (codes "section: " ++ section_text s)
    ≡ Ok (draft_in (opened_as s n 1) None c)
unfolding judged line_text trimmed words_in outside section_at literal_at sign_at word_at
    section_named
opens Screens n c = refl
opens Aliases n c = refl
opens Links n c = refl
opens Options n c = refl

closes : (n : ℕ) (o : Opened) (h : Option ℕ) (c : Configuration)
    → judged n (draft_in o h c) (codes "end") ≡ Ok (shut c)
unfolding judged line_text trimmed words_in
closes n o h c = refl

opening_line : (s : Section) → AreLines ((codes "section: " ++ section_text s) ∷ [])
opening_line Screens = ((refl, refl), tt)
opening_line Aliases = ((refl, refl), tt)
opening_line Links = ((refl, refl), tt)
opening_line Options = ((refl, refl), tt)

-- a section whose lines are read again
pub section_again : (s : Section) (from to : Configuration) (below : List ℕ)
    → ReadsText s from below to → ReadsWhole from (section_of (section_text s) below) to
unfolding section_of all_lines
section_again s from to below r = record {
  parts = (codes "section: " ++ section_text s) ∷ (r.parts ++ codes "end" ∷ []);
  made =
      ap (λ (t : List ℕ). ended (codes "section: " ++ section_text s) ++ (t ++ ended (codes "end")))
      r.made
      ∙ ap (λ (t : List ℕ). ended (codes "section: " ++ section_text s) ++ t)
      (sym (flat_map-append ended r.parts (codes "end" ∷ [])));
  whole =
      are_lines_both ((codes "section: " ++ section_text s) ∷ []) (r.parts ++ codes "end" ∷ [])
      (opening_line s) (are_lines_both r.parts (codes "end" ∷ []) r.whole ((refl, refl), tt));
  reads = λ n.
      let o = opened_as s n 1 in
      let inside = r.reads (n + 1) o None refl in
      ap
      (λ (a : Result Draft ConfigRefusal). a
      >>= λ d. all_lines judged (n + 1) d (r.parts ++ codes "end" ∷ []))
      (opens s n from)
      ∙ read_on (n + 1) (draft_in o None from) r.parts (draft_in o inside.0 to) (codes "end" ∷ [])
      inside.1
      ∙ ap (λ (a : Result Draft ConfigRefusal). a >>= λ d. Ok d)
      (closes (n + 1 + length r.parts) o inside.0 to);
}

pub whole_both : (a b c : Configuration) (text more : List ℕ) → ReadsWhole a text b
    → ReadsWhole b more c → ReadsWhole a (text ++ more) c
whole_both a b c text more r q = record {
  parts = r.parts ++ q.parts;
  made = made_both text more r.parts q.parts r.made q.made;
  whole = are_lines_both r.parts q.parts r.whole q.whole;
  reads =
      λ n. read_on n (shut a) r.parts (shut b) q.parts (r.reads n) ∙ q.reads (n + length r.parts);
}

-- a text of whole sections is read
pub whole_read : (text : List ℕ) (to : Configuration) → ReadsWhole nothing text to
    → reading text ≡ Ok to
unfolding reading
whole_read text to r =
    let cut : lines text ≡ r.parts = ap lines r.made ∙ lines_again r.parts r.whole in
    ap (λ (a : Result Draft ConfigRefusal). a >>= λ d. closed d.opened d.config)
    (ap (all_lines judged 1 (shut nothing)) cut ∙ r.reads 1)
