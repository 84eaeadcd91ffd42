-- What a file with a configuration decides.
use Rattle.std.proofs.Common.{◌≡◌, ℕ, ◌<◌, ◌≤◌, List, length, Result, Ok, Err, Some, refl, ap, sym, subst, ◌∙◌, inl, inr, arith}
use Rattle.share_base.specs.Told.{after}
use Rattle.share_base.specs.Writing.{SinkState}
use Rattle.config_text.specs.declared.faults.ConfigRefusal.{ConfigRefusal}
use Rattle.screen_config.specs.Configurations.{Configuration}
use Rattle.config_text.specs.Accepting.{Accepts, Refuses}
use Rattle.config_text.specs.Lines.{reading, refused}
use Rattle.config_text.specs.Normal.{normal}
use Rattle.config_text.proofs.Acceptance.{accepted, refused_so}
use Rattle.share_commands.specs.declared.status.Status.{Status}
use Rattle.share_commands.specs.declared.status.Status.TheVariants as status
use Rattle.share_commands.specs.Commands.{IsDecided}
use Rattle.share_commands.specs.Reading.{HasText}
use Rattle.share_commands.specs.Checking.{config_limit, too_big, Checks, bad_config}

-- ---- a text is accepted as one configuration, or refused in one way

abbrev Reading : Type 0
Reading = Result Configuration ConfigRefusal

pub same_config : (text : List ℕ) (a b : Configuration) → Accepts text a → Accepts text b → a ≡ b
same_config text a b x y = let same : reading text ≡ reading text = refl in let both : (let r : Reading = Ok a in r) ≡ Ok b = sym (accepted text a x) ∙ accepted text b y in cc

not_both : (text : List ℕ) (c : Configuration) (r : ConfigRefusal) → Accepts text c → Refuses text r → ⊥
not_both text c r x y = let both : (let a : Reading = Ok c in a) ≡ Err r = sym (accepted text c x) ∙ refused_so text r y in absurd cc

same_refusal : (text : List ℕ) (a b : ConfigRefusal) → Refuses text a → Refuses text b → a ≡ b
same_refusal text a b x y = let both : (let r : Reading = Err a in r) ≡ Err b = sym (refused_so text a x) ∙ refused_so text b y in cc

holds_of : (P : List ℕ → Type 0) (file : List ℕ) → HasText config_limit (Some file) P → P file
holds_of P file h = subst P h.is_file h.holds

too_long : (P : List ℕ → Type 0) (file : List ℕ) → HasText config_limit (Some file) P → config_limit < length file → ⊥
too_long P file h long = omega (arith, h.within, ap length h.is_file, long)

-- ---- each kind of file

pub accepted_is_printed : (file : List ℕ) (config : Configuration) (end : Status) (old new : SinkState) → length file ≤ config_limit → Accepts file config → Checks end (Some file) old new → IsDecided end
    → (end ≡ status.Ok) × (new.taken ≡ after old.taken (normal config))
accepted_is_printed file config status.Ok old new fits a h d =
    let same = same_config file h.0 config (holds_of (λ text. Accepts text h.0) file h.1) a in
    (refl, h.2 ∙ ap (λ (c : Configuration). after old.taken (normal c)) same)
accepted_is_printed file config (status.BadConfig line column kind) old new fits a (inl r, same) d =
    absurd (not_both file config (refused line column kind) a (holds_of (λ text. Refuses text (refused line column kind)) file r))
accepted_is_printed file config (status.BadConfig line column kind) old new fits a (inr b, same) d = absurd (omega (arith, b.1, fits))
accepted_is_printed file config status.ReadFault old new fits a h d = absurd d
accepted_is_printed file config status.WriteFault old new fits a h d = absurd d
accepted_is_printed file config status.OutOfMemory old new fits a h d = absurd d
accepted_is_printed file config _ old new fits a h d = absurd h.0

pub refused_is_said : (file : List ℕ) (r : ConfigRefusal) (end : Status) (old new : SinkState) → length file ≤ config_limit → Refuses file r → Checks end (Some file) old new → IsDecided end
    → (end ≡ bad_config r) × (new.taken ≡ old.taken)
refused_is_said file r status.Ok old new fits x h d = absurd (not_both file h.0 r (holds_of (λ text. Accepts text h.0) file h.1) x)
refused_is_said file r (status.BadConfig line column kind) old new fits x (inl y, same) d =
    (ap bad_config (same_refusal file (refused line column kind) r (holds_of (λ text. Refuses text (refused line column kind)) file y) x), same)
refused_is_said file r (status.BadConfig line column kind) old new fits x (inr b, same) d = absurd (omega (arith, b.1, fits))
refused_is_said file r status.ReadFault old new fits x h d = absurd d
refused_is_said file r status.WriteFault old new fits x h d = absurd d
refused_is_said file r status.OutOfMemory old new fits x h d = absurd d
refused_is_said file r _ old new fits x h d = absurd h.0

pub too_big_is_said : (file : List ℕ) (end : Status) (old new : SinkState) → config_limit < length file → Checks end (Some file) old new → IsDecided end → (end ≡ bad_config too_big) × (new.taken ≡ old.taken)
too_big_is_said file status.Ok old new long h d = absurd (too_long (λ text. Accepts text h.0) file h.1 long)
too_big_is_said file (status.BadConfig line column kind) old new long (inl y, same) d = absurd (too_long (λ text. Refuses text (refused line column kind)) file y long)
too_big_is_said file (status.BadConfig line column kind) old new long (inr b, same) d = (ap bad_config b.0, same)
too_big_is_said file status.ReadFault old new long h d = absurd d
too_big_is_said file status.WriteFault old new long h d = absurd d
too_big_is_said file status.OutOfMemory old new long h d = absurd d
too_big_is_said file _ old new long h d = absurd h.0
