-- What each call does to the tables and to the inputs that they keep.
use Rattle.std.proofs.Common.{◌≡◌, ℕ, ◌<◌, ◌≢◌, Bool, true, false, List, [], ◌∷◌, Option, None, Some, replicate, refl, ap, cond}
use Rattle.std.specs.Prelude.{is_some, slice_set, unwrap_or}
use Rattle.std.proofs.lemmas.List.Elements.{All-nil}
use Rattle.share_base.specs.declared.numbers.RuleNo.{RuleNo}
use Rattle.modifier_map.specs.Presses.{Call, Press, Release, Kept, StandsFor, down}
use Rattle.machine.specs.Routes.{taking}
use Rattle.machine.specs.Events.{taken_too, released}
use Rattle.pressed_inputs.specs.Tables.{Tabulates}
use Rattle.pressed_inputs.specs.Inputs.{nothing, id_down, is_among}
use Rattle.pressed_inputs.specs.Keeping.{Keeps}
use Rattle.pressed_inputs.proofs.Entries.{fresh, with_entry}
use Rattle.pressed_inputs.proofs.Takings.{same_test, other_test, taken_here, taken_elsewhere, released_here, released_elsewhere}
use Rattle.pressed_inputs.proofs.Mouse.{without, down_here, down_elsewhere, up_here, up_elsewhere}

pub nothing_kept : (count : ℕ) (mods : Kept) → count ≡ 256 → StandsFor mods []
    → Keeps (record { ids = replicate count 0; mods = mods; taken_keys = replicate count None; buttons = replicate count false; taken_buttons = replicate count None }) nothing
nothing_kept count mods e stands = record {
  ids = fresh ℕ count 0 (id_down []) e (λ n. refl);
  mods = stands;
  taken_keys = fresh (Option RuleNo) count None (taking []) e (λ n. refl);
  buttons = fresh Bool count false (is_among []) e (λ n. refl);
  each_button = All-nil (λ b. b < 256);
  taken_buttons = fresh (Option RuleNo) count None (taking []) e (λ n. refl);
}

-- ---- ids

id_press_here : (id k : ℕ) (presses : List Call) → id_down (Press id k ∷ presses) k ≡ id
id_press_here id k presses = ap (λ (test : Bool). unwrap_or (cond test (Some id) (down presses k)) 0) (same_test k k refl)

id_press_elsewhere : (id k n : ℕ) (presses : List Call) → n ≢ k → id_down (Press id k ∷ presses) n ≡ id_down presses n
id_press_elsewhere id k n presses ne = ap (λ (test : Bool). unwrap_or (cond test (Some id) (down presses n)) 0) (other_test n k ne)

id_release_here : (k : ℕ) (presses : List Call) → id_down (Release k ∷ presses) k ≡ 0
id_release_here k presses = ap (λ (test : Bool). unwrap_or (cond test None (down presses k)) 0) (same_test k k refl)

id_release_elsewhere : (k n : ℕ) (presses : List Call) → n ≢ k → id_down (Release k ∷ presses) n ≡ id_down presses n
id_release_elsewhere k n presses ne = ap (λ (test : Bool). unwrap_or (cond test None (down presses n)) 0) (other_test n k ne)

pub ids_press : (table : List ℕ) (id k : ℕ) (presses : List Call) → k < 256 → Tabulates ℕ table (id_down presses) → Tabulates ℕ (slice_set table k id) (id_down (Press id k ∷ presses))
ids_press table id k presses lt t = with_entry ℕ table (id_down presses) (id_down (Press id k ∷ presses)) k id lt t (id_press_here id k presses) (λ n ne. id_press_elsewhere id k n presses ne)

pub ids_release : (table : List ℕ) (k : ℕ) (presses : List Call) → k < 256 → Tabulates ℕ table (id_down presses) → Tabulates ℕ (slice_set table k 0) (id_down (Release k ∷ presses))
ids_release table k presses lt t = with_entry ℕ table (id_down presses) (id_down (Release k ∷ presses)) k 0 lt t (id_release_here k presses) (λ n ne. id_release_elsewhere k n presses ne)

-- ---- rules that took something

abbrev pub Rules : List (Option RuleNo) → List (ℕ × RuleNo) → Type 0
Rules table taken = Tabulates (Option RuleNo) table (taking taken)

pub rule_taken : (rule : Option RuleNo) (table : List (Option RuleNo)) (k : ℕ) (taken : List (ℕ × RuleNo)) → is_some rule ≡ true → k < 256 → Rules table taken → Rules (slice_set table k rule) (taken_too rule k taken)
rule_taken None table k taken some lt t = let different : false ≡ true = some in cc
rule_taken (Some rule) table k taken some lt t =
    with_entry (Option RuleNo) table (taking taken) (taking ((k, rule) ∷ taken)) k (Some rule) lt t (taken_here k rule taken) (λ n ne. taken_elsewhere k n rule taken ne)

pub no_rule_taken : (rule : Option RuleNo) (table : List (Option RuleNo)) (k : ℕ) (taken : List (ℕ × RuleNo)) → is_some rule ≡ false → Rules table taken → Rules table (taken_too rule k taken)
no_rule_taken None table k taken none t = t
no_rule_taken (Some rule) table k taken none t = let different : true ≡ false = none in cc

pub rule_released : (table : List (Option RuleNo)) (k : ℕ) (taken : List (ℕ × RuleNo)) → k < 256 → Rules table taken → Rules (slice_set table k None) (released k taken)
rule_released table k taken lt t =
    with_entry (Option RuleNo) table (taking taken) (taking (released k taken)) k None lt t (released_here k taken) (λ n ne. released_elsewhere k n taken ne)

-- ---- buttons of the mouse

pub mouse_down : (table : List Bool) (k : ℕ) (buttons : List ℕ) → k < 256 → Tabulates Bool table (is_among buttons) → Tabulates Bool (slice_set table k true) (is_among (k ∷ buttons))
mouse_down table k buttons lt t = with_entry Bool table (is_among buttons) (is_among (k ∷ buttons)) k true lt t (down_here k buttons) (λ n ne. down_elsewhere k n buttons ne)

pub mouse_up : (table : List Bool) (k : ℕ) (buttons : List ℕ) → k < 256 → Tabulates Bool table (is_among buttons) → Tabulates Bool (slice_set table k false) (is_among (without k buttons))
mouse_up table k buttons lt t = with_entry Bool table (is_among buttons) (is_among (without k buttons)) k false lt t (up_here k buttons) (λ n ne. up_elsewhere k n buttons ne)
