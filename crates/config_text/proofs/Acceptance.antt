-- Reading as a function, and as a relation on lines: each the other.
use Rattle.std.proofs.Common.{◌≡◌, ℕ, List, Result, Ok, Err, Option, Some, None, refl, ap, sym}
use Rattle.std.proofs.Common.{◌∙◌, ◌⊎◌, inl, inr}
use Rattle.std.specs.Str.Lines.{lines}
use Rattle.text_lines.specs.LineByLine.{all_lines}
use Rattle.text_lines.specs.Reading.{◌>>=◌}
use Rattle.text_lines.proofs.LineRuns.{after_good, after_bad, leads, led, offends, offended}
use Rattle.config_text.specs.declared.faults.ConfigKind.TheVariants as kind
use Rattle.config_text.specs.declared.faults.ConfigRefusal.{ConfigRefusal}
use Rattle.config_text.specs.declared.sections.Opened.{Opened}
use Rattle.screen_config.specs.Configurations.{Configuration}
use Rattle.config_text.specs.Drafts.{Draft}
use Rattle.config_text.specs.Lines.{judged, start, reading, closed, refused}
use Rattle.config_text.specs.Accepting.{Accepts, Offends, LeavesOpen, Refuses}

abbrev Step : Type 0
Step = Result Draft ConfigRefusal

abbrev Whole : Type 0
Whole = Result Configuration ConfigRefusal

is_closed : (o : Option Opened) (c d : Configuration) → closed o c ≡ Ok d → (o ≡ None) × (c ≡ d)
is_closed None c d h = (refl, cc)
is_closed (Some x) c d h = absurd cc

is_open : (o : Option Opened) (c : Configuration) (r : ConfigRefusal) → closed o c ≡ Err r
    → (x : Opened) × (o ≡ Some x) × (r ≡ refused x.line x.column kind.UnclosedSection)
is_open None c r h = absurd cc
is_open (Some x) c r h = (x, refl, cc)

pub accepts : (text : List ℕ) (c : Configuration) → reading text ≡ Ok c → Accepts text c
unfolding reading
accepts text c h =
    let b =
    after_good (all_lines judged 1 start (lines text)) (λ d. closed d.opened d.config) c h in
    let k = is_closed b.0.opened b.0.config c b.2 in
    record {
      draft = b.0;
      good = leads judged 1 start (lines text) b.0 b.1;
      closed = k.0;
      given = k.1;
    }

pub accepted : (text : List ℕ) (c : Configuration) → Accepts text c → reading text ≡ Ok c
unfolding reading
accepted text c h =
    ap (λ (r : Step). r >>= λ d. closed d.opened d.config)
    (led judged 1 start (lines text) h.draft h.good)
    ∙ ap (λ (o : Option Opened). closed o h.draft.config) h.closed
    ∙ ap (λ (x : Configuration). let a : Whole = Ok x in a) h.given

pub refuses : (text : List ℕ) (r : ConfigRefusal) → reading text ≡ Err r
    → Offends text r ⊎ LeavesOpen text r
unfolding reading
refuses text r h =
    elim (after_bad (all_lines judged 1 start (lines text)) (λ d. closed d.opened d.config) r h) [
      | inl e ↦ inl (offends judged start (lines text) r e)
      | inr b ↦
          let o = is_open b.0.opened b.0.config r b.2 in
          let good = leads judged 1 start (lines text) b.0 b.1 in
          inr (record { draft = b.0; opened = o.0; good = good; open_there = o.1; place = o.2 })
    ]

pub refused_so : (text : List ℕ) (r : ConfigRefusal) → Refuses text r → reading text ≡ Err r
unfolding reading
refused_so text r (inl h) =
    ap (λ (r : Step). r >>= λ d. closed d.opened d.config)
    (offended judged start (lines text) r h)
refused_so text r (inr h) =
    ap (λ (r : Step). r >>= λ d. closed d.opened d.config)
    (led judged 1 start (lines text) h.draft h.good)
    ∙ ap (λ (o : Option Opened). closed o h.draft.config) h.open_there
    ∙ ap (λ (x : ConfigRefusal). let a : Whole = Err x in a) (sym h.place)
