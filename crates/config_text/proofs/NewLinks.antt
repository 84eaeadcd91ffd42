-- What a new link's line answers.
use Rattle.std.proofs.Common.{◌≡◌, ℕ, ◌<◌, false, length, Result, Ok, Err, refl, ap, sym, arith}
use Rattle.std.specs.List.{list_any}
use Rattle.std.proofs.lemmas.Bool.{lt-ltb, le-ltb}
use Rattle.screen_links.specs.declared.range.Range.{Range}
use Rattle.screen_links.specs.declared.link.Link.{Link}
use Rattle.screen_links.specs.Adding.{IsBlocked, IsFree, link_of}
use Rattle.config_text.proofs.Overlapping.{any_overlaps, none_overlaps}
use Rattle.config_text.specs.declared.faults.ConfigKind.TheVariants as kind
use Rattle.config_text.specs.declared.faults.Fault.{Fault}
use Rattle.screen_config.specs.Configurations.{Configuration, with_link}
use Rattle.config_text.specs.Shapes.{LinkText}
use Rattle.config_text.specs.Judging.{known_screen, good_range, new_link, one_link_more, screen_no}
use Rattle.config_text.specs.Judging.{overlaps, fault_at}

pub link_taken : (whole : ℕ) (c new : Configuration) (from to : ℕ) (l : LinkText)
    (range onto : Range)
    → known_screen c l.name ≡ Ok to → good_range l.source ≡ Ok range → good_range l.target ≡ Ok onto
    → list_any (overlaps (link_of (screen_no from) l.side range (screen_no to) onto)) c.links
    ≡ false
    → length c.links < 1024
    → new ≡ with_link c (link_of (screen_no from) l.side range (screen_no to) onto)
    → new_link whole c from l ≡ Ok new
unfolding new_link one_link_more
link_taken whole c new from to l range onto k r o n h e =
    rw (k, r, o, n, lt-ltb (length c.links) 1024 h)
    (ap (λ (x : Configuration). let a : Result Configuration Fault = Ok x in a) (sym e))

-- a link that is added, one that overlaps, and one that passes the limit
pub link_is_added : (whole left : ℕ) (c new : Configuration) (link : Link) → IsFree c.links link
    → length c.links < 1024 → new ≡ with_link c link → one_link_more whole c left link ≡ Ok new
unfolding one_link_more
link_is_added whole left c new link free room e =
    rw (none_overlaps link c.links free, lt-ltb (length c.links) 1024 room)
    (ap (λ (x : Configuration). let a : Result Configuration Fault = Ok x in a) (sym e))

pub link_is_blocked : (whole left : ℕ) (c : Configuration) (link : Link) → IsBlocked c.links link
    → one_link_more whole c left link ≡ Err (fault_at kind.Overlap left)
unfolding one_link_more
link_is_blocked whole left c link blocked = rw (any_overlaps link c.links blocked) refl

pub link_is_past : (whole left : ℕ) (c : Configuration) (link : Link) → IsFree c.links link
    → length c.links ≡ 1024 → one_link_more whole c left link ≡ Err (fault_at kind.TooMany whole)
unfolding one_link_more
link_is_past whole left c link free full =
    rw (none_overlaps link c.links free, le-ltb (length c.links) 1024 (omega arith)) refl

pub ruleset one_more = (link_is_added, link_is_blocked, link_is_past)
