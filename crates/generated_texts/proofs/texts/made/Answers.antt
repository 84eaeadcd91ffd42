use Rattle.std.proofs.Common.{◌≡◌, List, ℕ, [], ◌++◌, ap, ◌∙◌, append_assoc}
use Rattle.std.specs.Fmt.{digits}
use Rattle.generated_texts.specs.declared.texts.Texts.{Texts}
use Rattle.generated_texts.specs.Screens.{config_text}
use Rattle.generated_texts.specs.Traces.{trace_text}
use Rattle.generated_texts.specs.Texts.{texts_of, script_start, script_text, event_lines}
use Rattle.generated_texts.proofs.texts.made.Goals as goal

-- a text in an empty list
alone : (empty new text : List ℕ) → empty ≡ [] → new ≡ empty ++ text → new ≡ text
alone empty new text e more = more ∙ ap (λ (t : List ℕ). t ++ text) e

script_made : (n : ℕ) (start out script end : List ℕ) → start ≡ script_start
    → out ≡ start ++ event_lines n 2000 → script ≡ out ++ end
    → script ≡ script_start ++ (event_lines n 2000 ++ end)
script_made n start out script end e events more =
    more ∙ ap (λ (t : List ℕ). t ++ end) (events ∙ ap (λ (t : List ℕ). t ++ event_lines n 2000) e)
    ∙ append_assoc script_start (event_lines n 2000) end

abbrev made_of : List ℕ → List ℕ → List ℕ → Texts
made_of config script trace = record { config = config; script = script; trace = trace }

texts_made : (n : ℕ) (config script trace : List ℕ) → config ≡ config_text
    → script ≡ script_text n → trace ≡ trace_text → made_of config script trace ≡ texts_of n
texts_made n config script trace c s t =
    ap (λ (x : List ℕ). made_of x script trace) c
    ∙ ap (λ (x : List ℕ). made_of config_text x trace) s
    ∙ ap (λ (x : List ℕ). made_of config_text (script_text n) x) t

pub returns : goal.returns
unfolding config_text trace_text digits
returns c =
    texts_made c.args.n c.extend.new.self c.extend-3.new.self c.extend-4.new.self
    (alone c.new-config.result c.extend.new.self _ c.new-config.ensures c.in_ok-extend.ensures.ok)
    (script_made c.args.n c.extend-2.new.self c.put_events.new.out c.extend-3.new.self _
    (alone c.new-script.result c.extend-2.new.self _ c.new-script.ensures
    c.in_ok-extend-2.ensures.ok) c.in_ok-put_events.ensures c.in_ok-extend-3.ensures.ok)
    (alone c.new-trace.result c.extend-4.new.self _ c.new-trace.ensures c.in_ok-extend-4.ensures.ok)
