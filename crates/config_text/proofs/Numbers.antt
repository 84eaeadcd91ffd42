-- Parts that are added up over numbers from 0.
use Rattle.std.proofs.Common.{◌≡◌, ℕ, ◌+◌, ◌<◌, List, ◌++◌, length, drop, get_or, ap, sym, ◌∙◌}
use Rattle.std.proofs.Common.{zero-add, arith}
use Rattle.std.specs.List.{flat_map, range_with_len}
use Rattle.std.proofs.lemmas.List.FromFn.{length-range_with_len, get_or-range_with_len}
use Rattle.share_base.proofs.FlatMaps.{part_added}
use Rattle.screen_config.specs.Configurations.{Configuration}
use Rattle.screen_config.specs.Values.{numbers_of, hundredths}

in_range : (f : ℕ → List ℕ) (count i : ℕ) (out new total : List ℕ) → i < count
    → out ++ flat_map f (drop i (range_with_len 0 count)) ≡ total
    → new ≡ out ++ f i → new ++ flat_map f (drop (i + 1) (range_with_len 0 count)) ≡ total
in_range f count i out new total h whole added =
    let at : get_or (range_with_len 0 count) i 0 ≡ i =
    get_or-range_with_len 0 count i 0 h ∙ zero-add i in
    part_added f (range_with_len 0 count) i 0 out new total
    (omega (arith, length-range_with_len 0 count)) whole
    (added ∙ ap (λ (n : ℕ). out ++ f n) (sym at))

pub number_added : (f : ℕ → List ℕ) (c : Configuration) (i : ℕ) (out new total : List ℕ)
    → i < length c.screens → out ++ flat_map f (drop i (numbers_of c)) ≡ total
    → new ≡ out ++ f i → new ++ flat_map f (drop (i + 1) (numbers_of c)) ≡ total
unfolding numbers_of
number_added f c i out new total h whole added =
    in_range f (length c.screens) i out new total h whole added

pub hundredth_added : (f : ℕ → List ℕ) (i : ℕ) (out new total : List ℕ) → i < 100
    → out ++ flat_map f (drop i hundredths) ≡ total
    → new ≡ out ++ f i → new ++ flat_map f (drop (i + 1) hundredths) ≡ total
unfolding hundredths
hundredth_added f i out new total h whole added = in_range f 100 i out new total h whole added

pub count_of_numbers : (c : Configuration) → length (numbers_of c) ≡ length c.screens
unfolding numbers_of
count_of_numbers c = length-range_with_len 0 (length c.screens)

pub count_of_hundredths : length hundredths ≡ 100
unfolding hundredths
count_of_hundredths = length-range_with_len 0 100
