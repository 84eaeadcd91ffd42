-- Links stay apart where a free one is added.
use Rattle.std.proofs.Common.{◌≡◌, ℕ, ◌<◌, Bool, true, false, List, [], ◌∷◌, ◌++◌, length, get_or}
use Rattle.std.proofs.Common.{sym, subst, arith}
use Rattle.std.specs.Prelude.{if◌then◌else◌}
use Rattle.std.proofs.lemmas.List.{get_or_default, length-append}
use Rattle.std.proofs.lemmas.List.Quantifiers.{all_pairs_push}
use Rattle.std.proofs.lemmas.List.Elements.{All-push}
use Rattle.screen_links.specs.declared.link.Link.{Link}
use Rattle.screen_links.specs.Adding.{HasGoodRanges, IsFree}
use Rattle.screen_links.specs.declared.links.TheConstants.{MOST_LINKS}
use Rattle.screen_links.specs.Apart.{Apart, JoinsScreens, AreSound}

apart_of_free : (links : List Link) (link : Link) → IsFree links link → (k : ℕ) (d : Link)
    → k < length links → Apart (get_or links k d) link
apart_of_free links link free k d lt same_screen same_side shared =
    free (
      k,
      get_or links k d,
      lt,
      get_or_default links k (get_or links k d) d lt,
      record { same_screen = same_screen; same_side = same_side; shared = shared },
    )

pub sound_push : (links : List Link) (link : Link) → AreSound links → HasGoodRanges link
    → IsFree links link → JoinsScreens link → length links < MOST_LINKS
    → AreSound (links ++ link ∷ [])
sound_push links link sound good free screens room = record {
  apart = all_pairs_push Apart links link sound.apart (apart_of_free links link free);
  ranges = All-push HasGoodRanges links link sound.ranges good;
  screens = All-push JoinsScreens links link sound.screens screens;
  few = omega (arith, length-append links (link ∷ []));
}

pub sound_after : (pushed : Bool) (links : List Link) (link : Link) (new : List Link)
    → new ≡ (if pushed then links ++ link ∷ [] else links)
    → AreSound links → HasGoodRanges link → IsFree links link → JoinsScreens link
    → length links < MOST_LINKS → AreSound new
sound_after true links link new e sound good free screens room =
    subst AreSound (sym e) (sound_push links link sound good free screens room)
sound_after false links link new e sound good free screens room = subst AreSound (sym e) sound
