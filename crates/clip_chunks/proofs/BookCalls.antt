-- A book follows what is put into it.
use Rattle.std.proofs.Common.{◌≡◌, ℕ, Bool, true, ◌&&◌, List, refl, sym, ◌∙◌, ap, subst}
use Rattle.std.specs.Prelude.{if◌then◌else◌, ◌==◌, nat_le}
use Rattle.share_base.specs.declared.clip_id.ClipId.{ClipId}
use Rattle.share_base.specs.declared.clip_id.ClipId.TheVariants.{Clipboard, Selection}
use Rattle.clip_chunks.specs.declared.kept.Kept.{Kept}
use Rattle.clip_chunks.specs.declared.book.ClipBook.{ClipBook}
use Rattle.clip_chunks.specs.Clips.{Clip, Clips, clip_of, with_clip}
use Rattle.clip_chunks.specs.Rules.{whole_counts, known, entered}
use Rattle.clip_chunks.specs.Calls.{Sent, Entered}
use Rattle.clip_chunks.specs.Books.{IsClip, Changes, StandsAt, Follows, kept_of, with_kept}

clip_kept : (clip : ClipId) (book : ClipBook) (clips : Clips) → StandsAt book clips
    → IsClip (kept_of clip book) (clip_of clip clips)
clip_kept Clipboard book clips s = s.clipboard
clip_kept Selection book clips s = s.selection

put_stands : (clip : ClipId) (kept : Kept) (c : Clip) (book : ClipBook) (clips : Clips)
    → IsClip kept c → StandsAt book clips
    → StandsAt (with_kept clip kept book) (with_clip clip c clips)
put_stands Clipboard kept c book clips is s = record { clipboard = is; selection = s.selection }
put_stands Selection kept c book clips is s = record { clipboard = s.clipboard; selection = is }

same_primary : (clip : ClipId) (kept : Kept) (book : ClipBook)
    → (with_kept clip kept book).primary ≡ book.primary
same_primary Clipboard kept book = refl
same_primary Selection kept book = refl

same_limit : (clip : ClipId) (kept : Kept) (book : ClipBook)
    → (with_kept clip kept book).limit ≡ book.limit
same_limit Clipboard kept book = refl
same_limit Selection kept book = refl

pub sent_follows : (old new : ClipBook) (clip : ClipId) (was kept : Kept) (by given machine : ℕ)
    (bytes screens : List ℕ)
    → was ≡ kept_of clip old → (was.owner.0 == by) ≡ true
    → (nat_le was.seq given && nat_le given machine) ≡ true → new ≡ with_kept clip kept old
    → IsClip kept (known by given bytes screens)
    → Follows old new (Sent clip by given machine bytes screens)
sent_follows old new clip was kept by given machine bytes screens was_is owner current new_is is =
    let after : Clip = known by given bytes screens in
    record {
      primary = ap (λ (b : ClipBook). b.primary) new_is ∙ same_primary clip kept old;
      limit = ap (λ (b : ClipBook). b.limit) new_is ∙ same_limit clip kept old;
      stands = λ clips s.
          let k : IsClip was (clip_of clip clips) =
          subst (λ (x : Kept). IsClip x (clip_of clip clips)) (sym was_is)
          (clip_kept clip old clips s) in
          let counts : whole_counts by given machine (clip_of clip clips) ≡ true =
          ap (λ (o : ℕ). (o == by) && nat_le (clip_of clip clips).seq given && nat_le given machine)
          (sym k.owner)
          ∙ ap (λ (b : Bool). b && nat_le (clip_of clip clips).seq given && nat_le given machine)
          owner
          ∙ ap (λ (n : ℕ). nat_le n given && nat_le given machine) (sym k.seq) ∙ current in
          let ruled_is : (if whole_counts by given machine (clip_of clip clips)
          then with_clip clip after clips else clips)
          ≡ with_clip clip after clips =
          ap (λ (b : Bool). if b then with_clip clip after clips else clips) counts in
          subst (λ (c : Clips). StandsAt new c) (sym ruled_is)
          (subst (λ (b : ClipBook). StandsAt b (with_clip clip after clips)) (sym new_is)
          (put_stands clip kept after old clips is s));
    }

-- the one of that name followed a screen's entering, and the other stayed
pub entered_follows : (old new : ClipBook) (kept : Kept) (clip at : ClipId) (screen : ℕ) → clip ≡ at
    → new.primary ≡ old.primary → new.limit ≡ old.limit
    → new.clipboard ≡ (with_kept at kept old).clipboard
    → new.selection ≡ (with_kept at kept old).selection
    → Changes (kept_of at old) kept (entered screen) → Follows old new (Entered clip screen)
entered_follows old new kept clip at screen is primary limit clipboard selection changes =
    subst (λ (c : ClipId). Follows old new (Entered c screen)) (sym is) (record {
      primary = primary;
      limit = limit;
      stands =
          λ clips s.
          let c : Clip = clip_of at clips in
          let after : Clips = with_clip at (entered screen c) clips in
          let put =
          put_stands at kept (entered screen c) old clips (changes c (clip_kept at old clips s)) s
          in
          record {
            clipboard = subst (λ (k : Kept). IsClip k after.clipboard) (sym clipboard)
                put.clipboard;
            selection = subst (λ (k : Kept). IsClip k after.selection) (sym selection)
                put.selection;
          };
    })
