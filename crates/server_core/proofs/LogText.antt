-- The log's text, and what was told the primary, after more lines and one more entry.
use Rattle.std.specs.Prelude.{◌≡◌, ℕ, true, false, List, [], ◌∷◌, ◌++◌}
use Rattle.std.specs.List.{flat_map}
use Rattle.std.proofs.Common.{sym, ap, ◌∙◌, append_assoc, append-nil}
use Rattle.std.proofs.lemmas.Grind.{flat_map-append}
use Rattle.std.proofs.lemmas.List.{map-append}
use Rattle.machine.specs.Targets.{Entry, Primary, same_target}
use Rattle.machine.specs.States.{LogLine}
use Rattle.machine.specs.Queues.{entries_for, messages_in, messages_for}
use Rattle.machine.specs.Logs.{log_line}
use Rattle.machine.proofs.Targets.{added_if, entries-more}

pub log-more : (front log new : List ℕ) (before lines : List LogLine) → front ++ log ≡ flat_map log_line before → new ≡ log ++ flat_map log_line lines → front ++ new ≡ flat_map log_line (before ++ lines)
log-more front log new before lines h e = ap (λ t. front ++ t) e ∙ (sym (append_assoc front log (flat_map log_line lines)) ∙ (ap (λ t. t ++ flat_map log_line lines) h ∙ sym (flat_map-append log_line before lines)))

-- one line
pub log-one : (front log new : List ℕ) (before : List LogLine) (line : LogLine) → front ++ log ≡ flat_map log_line before → new ≡ log ++ log_line line → front ++ new ≡ flat_map log_line (before ++ line ∷ [])
log-one front log new before line h e = log-more front log new before (line ∷ []) h (e ∙ ap (λ t. log ++ t) (sym (append-nil (log_line line))))

-- none
pub log-same : (front log new : List ℕ) (before : List LogLine) → front ++ log ≡ flat_map log_line before → new ≡ log → front ++ new ≡ flat_map log_line (before ++ [])
log-same front log new before h e = ap (λ t. front ++ t) e ∙ (h ∙ ap (λ ls. flat_map log_line ls) (sym (append-nil before)))

pub told-more : (routed : List Entry) (e : Entry) → same_target e.target Primary ≡ true → messages_for Primary (routed ++ e ∷ []) ≡ messages_for Primary routed ++ e.message ∷ []
told-more routed e mine = ap messages_in (entries-more Primary routed e ∙ ap (λ b. added_if b (entries_for Primary routed) e) mine) ∙ map-append (λ (x : Entry). x.message) (entries_for Primary routed) (e ∷ [])

pub told-same : (routed : List Entry) (e : Entry) → same_target e.target Primary ≡ false → messages_for Primary (routed ++ e ∷ []) ≡ messages_for Primary routed
told-same routed e other = ap messages_in (entries-more Primary routed e ∙ ap (λ b. added_if b (entries_for Primary routed) e) other)
