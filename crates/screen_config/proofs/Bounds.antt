-- Numbers of screens stay below the count of screens.
use Rattle.std.proofs.Common.{◌≡◌, ℕ, ◌<◌, ◌≤◌, Bool, true, false, cond, List, [], ◌∷◌, Some}
use Rattle.std.proofs.Common.{nat_lt, arith}
use Rattle.std.specs.List.{list_all, find}
use Rattle.std.specs.Option.{option_map}
use Rattle.std.proofs.lemmas.Bool.{lt-ltb, and_parts}
use borrow.Author.Tests.{ltb-true}
use Rattle.share_base.specs.Names.{same_name}
use Rattle.screen_links.specs.declared.link.Link.{Link}
use Rattle.screen_config.specs.declared.screens.Alias.{Alias}
use Rattle.screen_config.specs.Configurations.{alias_place}
use Rattle.screen_config.specs.Sound.{alias_below, link_below}

below_more : (k n m : ℕ) → n ≤ m → nat_lt k n ≡ true → nat_lt k m ≡ true
below_more k n m h e = lt-ltb k m (omega (arith, ltb-true k n e))

pub alias_more : (n m : ℕ) → n ≤ m → (a : Alias) → alias_below n a ≡ true → alias_below m a ≡ true
alias_more n m h a e = below_more a.screen n m h e

pub link_more : (n m : ℕ) → n ≤ m → (l : Link) → link_below n l ≡ true → link_below m l ≡ true
link_more n m h l e =
    let both = and_parts (nat_lt l.from.0 n) (nat_lt l.to.0 n) e in
    rw (below_more l.from.0 n m h both.0) (below_more l.to.0 n m h both.1)

by_name : (t : Bool) (n : ℕ) (a : Alias) (others : List Alias) (name : List ℕ) (k : ℕ)
    → alias_below n a ≡ true → (Some k ≡ alias_place others name → k < n)
    → Some k
    ≡ option_map (λ (x : Alias). x.screen)
    (cond t (Some a) (find (λ x. same_name x.name name) others))
    → k < n
by_name true n a others name k h rest e =
    let same : k ≡ a.screen = cc in omega (arith, same, ltb-true a.screen n h)
by_name false n a others name k h rest e = rest e

-- the screen of an alias is there
pub alias_known : (n : ℕ) (aliases : List Alias) (name : List ℕ) (k : ℕ)
    → list_all (alias_below n) aliases ≡ true → Some k ≡ alias_place aliases name → k < n
alias_known n [] name k h e = absurd cc
alias_known n (a ∷ others) name k h e =
    let both = and_parts (alias_below n a) (list_all (alias_below n) others) h in
    by_name (same_name a.name name) n a others name k both.0 (alias_known n others name k both.1) e
