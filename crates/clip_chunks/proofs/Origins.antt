-- Known bytes were brought by a copy or by the owner's whole.
use Rattle.std.proofs.Common.{◌≡◌, ℕ, Bool, true, false, ◌&&◌, List, [], ◌∷◌, Option, Some, None}
use Rattle.std.proofs.Common.{refl, sym, ◌∙◌, ap, subst}
use Rattle.std.specs.Prelude.{if◌then◌else◌, ◌==◌, nat_le}
use Rattle.std.proofs.lemmas.Bool.{eqb-true}
use Rattle.share_base.specs.declared.clip_id.ClipId.{ClipId}
use Rattle.share_base.specs.declared.clip_id.ClipId.TheVariants.{Clipboard, Selection}
use Rattle.clip_chunks.specs.Clips.{Clip, clip_of, with_clip}
use Rattle.clip_chunks.specs.Rules.{copy_counts, grab_counts, whole_counts, known, unknown, dirtied}
use Rattle.clip_chunks.specs.Rules.{joined, left, entered}
use Rattle.clip_chunks.specs.Calls.{Call, Copied, Grabbed, Sent, Joined, Left, Entered, ruled}
use Rattle.clip_chunks.specs.Calls.{clips_after}
use Rattle.clip_chunks.specs.Origins.{Brings, WereBrought, KnownWereBrought}
use Rattle.clip_chunks.proofs.Runs.{both}

-- a clipboard that kept its bytes and its sequence has them from the calls before
record Same (was now : Clip) : Type 0 where
  bytes : now.bytes ≡ was.bytes
  seq : now.seq ≡ was.seq

later : (primary limit : ℕ) (clip : ClipId) (seq : ℕ) (bytes : List ℕ) (calls : List Call)
    (call : Call)
    → WereBrought primary limit clip seq bytes calls
    → WereBrought primary limit clip seq bytes (call ∷ calls)
later primary limit clip seq bytes calls call w = record {
  newer = call ∷ w.newer;
  call = w.call;
  older = w.older;
  calls_are = ap (λ (cs : List Call). call ∷ cs) w.calls_are;
  brings = w.brings;
}

-- what a call leaves of a clipboard is known from before, or was brought by it
Goes : ℕ → ℕ → ClipId → List Call → Call → Clip → Type 0
Goes primary limit clip calls call now =
    (bytes : List ℕ) → now.bytes ≡ Some bytes
    → WereBrought primary limit clip now.seq bytes (call ∷ calls)

kept : (primary limit : ℕ) (clip : ClipId) (calls : List Call) (call : Call) (now : Clip)
    → KnownWereBrought primary limit clip calls
    → Same (clip_of clip (clips_after primary limit calls)) now
    → Goes primary limit clip calls call now
unfolding Goes
kept primary limit clip calls call now before same bytes is =
    let was : Clip = clip_of clip (clips_after primary limit calls) in
    subst (λ (n : ℕ). WereBrought primary limit clip n bytes (call ∷ calls)) (sym same.seq)
    (later primary limit clip was.seq bytes calls call (before bytes (sym same.bytes ∙ is)))

stays : (c : Clip) → Same c c
stays c = record { bytes = refl; seq = refl }

new : (primary limit : ℕ) (clip : ClipId) (calls : List Call) (call : Call) (owner seq : ℕ)
    (bytes screens : List ℕ)
    → Brings clip seq bytes (clip_of clip (clips_after primary limit calls)) call
    → Goes primary limit clip calls call (known owner seq bytes screens)
unfolding Goes
new primary limit clip calls call owner seq bytes screens brings got is =
    let e : bytes ≡ got = cc in
    record {
      newer = [];
      call = call;
      older = calls;
      calls_are = refl;
      brings =
          subst
          (λ (t : List ℕ).
          Brings clip seq t (clip_of clip (clips_after primary limit calls)) call)
          e brings;
    }

none : (primary limit : ℕ) (clip : ClipId) (calls : List Call) (call : Call) (owner seq : ℕ)
    → Goes primary limit clip calls call (unknown owner seq)
unfolding Goes
none primary limit clip calls call owner seq bytes is = absurd (let x : ⊥ = cc in x)

-- ---- what is put under one name leaves the other

put : (primary limit : ℕ) (clip id : ClipId) (calls : List Call) (call : Call) (c : Clip)
    → KnownWereBrought primary limit clip calls → (id ≡ clip → Goes primary limit clip calls call c)
    → Goes primary limit clip calls call
    (clip_of clip (with_clip id c (clips_after primary limit calls)))
put primary limit Clipboard Clipboard calls call c before own = own refl
put primary limit Clipboard Selection calls call c before own =
    kept primary limit Clipboard calls call (clips_after primary limit calls).clipboard before
    (stays (clips_after primary limit calls).clipboard)
put primary limit Selection Clipboard calls call c before own =
    kept primary limit Selection calls call (clips_after primary limit calls).selection before
    (stays (clips_after primary limit calls).selection)
put primary limit Selection Selection calls call c before own = own refl

-- where the test is true that is put
put_if : (primary limit : ℕ) (clip id : ClipId) (calls : List Call) (call : Call) (c : Clip)
    (b : Bool)
    → KnownWereBrought primary limit clip calls
    → (b ≡ true → id ≡ clip → Goes primary limit clip calls call c)
    → Goes primary limit clip calls call
    (clip_of clip
    (if b then with_clip id c (clips_after primary limit calls)
    else clips_after primary limit calls))
put_if primary limit clip id calls call c true before own =
    put primary limit clip id calls call c before (own refl)
put_if primary limit clip id calls call c false before own =
    kept primary limit clip calls call (clip_of clip (clips_after primary limit calls)) before
    (stays (clip_of clip (clips_after primary limit calls)))

-- ---- screens

joined_same : (screen : ℕ) (c : Clip) (b : Option (List ℕ)) → Same c (dirtied screen b c)
joined_same screen c None = record { bytes = refl; seq = refl }
joined_same screen c (Some bytes) = record { bytes = refl; seq = refl }

left_same : (primary : ℕ) (c : Clip) (b : Bool)
    → Same c (if b then record c { owner = primary } else c)
left_same primary c true = record { bytes = refl; seq = refl }
left_same primary c false = record { bytes = refl; seq = refl }

-- ---- every call

goes : (primary limit : ℕ) (clip : ClipId) (calls : List Call)
    → KnownWereBrought primary limit clip calls → (call : Call)
    → Goes primary limit clip calls call
    (clip_of clip (ruled primary limit call (clips_after primary limit calls)))
goes primary limit clip calls before (Copied id bytes machine screens) =
    let call : Call = Copied id bytes machine screens in
    put_if primary limit clip id calls call (known primary machine bytes screens)
    (copy_counts limit bytes) before
    (λ counts is. new primary limit clip calls call primary machine bytes screens (is, refl, refl))
goes primary limit clip calls before (Grabbed id by given machine) =
    let call : Call = Grabbed id by given machine in
    put_if primary limit clip id calls call (unknown by given)
    (grab_counts given machine (clip_of id (clips_after primary limit calls))) before
    (λ counts is. none primary limit clip calls call by given)
goes primary limit clip calls before (Sent id by given machine bytes screens) =
    let call : Call = Sent id by given machine bytes screens in
    let was : ClipId → Clip = λ i. clip_of i (clips_after primary limit calls) in
    put_if primary limit clip id calls call (known by given bytes screens)
    (whole_counts by given machine (was id)) before
    (λ counts is.
    let owner : (was id).owner ≡ by =
    eqb-true (was id).owner by
    (both ((was id).owner == by) (nat_le (was id).seq given)
    (both ((was id).owner == by && nat_le (was id).seq given) (nat_le given machine)
    counts).0).0
    in
    new primary limit clip calls call by given bytes screens
    (is, refl, refl, ap (λ (i : ClipId). (was i).owner) (sym is) ∙ owner))
goes primary limit Clipboard calls before (Joined screen) =
    let c : Clip = (clips_after primary limit calls).clipboard in
    kept primary limit Clipboard calls (Joined screen) (joined screen c) before
    (joined_same screen c c.bytes)
goes primary limit Selection calls before (Joined screen) =
    let c : Clip = (clips_after primary limit calls).selection in
    kept primary limit Selection calls (Joined screen) (joined screen c) before
    (joined_same screen c c.bytes)
goes primary limit Clipboard calls before (Left screen) =
    let c : Clip = (clips_after primary limit calls).clipboard in
    kept primary limit Clipboard calls (Left screen) (left primary screen c) before
    (left_same primary c (c.owner == screen))
goes primary limit Selection calls before (Left screen) =
    let c : Clip = (clips_after primary limit calls).selection in
    kept primary limit Selection calls (Left screen) (left primary screen c) before
    (left_same primary c (c.owner == screen))
goes primary limit clip calls before (Entered id screen) =
    let was : ClipId → Clip = λ i. clip_of i (clips_after primary limit calls) in
    put primary limit clip id calls (Entered id screen) (entered screen (was id)) before
    (λ is.
    kept primary limit clip calls (Entered id screen) (entered screen (was id)) before
    (record {
      bytes = ap (λ (i : ClipId). (was i).bytes) is;
      seq = ap (λ (i : ClipId). (was i).seq) is;
    }))

at_first : (primary limit : ℕ) (clip : ClipId) → KnownWereBrought primary limit clip []
at_first primary limit Clipboard bytes is = absurd (let x : ⊥ = cc in x)
at_first primary limit Selection bytes is = absurd (let x : ⊥ = cc in x)

pub known_were_brought : (primary limit : ℕ) (clip : ClipId) (calls : List Call)
    → KnownWereBrought primary limit clip calls
unfolding Goes
known_were_brought primary limit clip [] = at_first primary limit clip
known_were_brought primary limit clip (call ∷ calls) =
    goes primary limit clip calls (known_were_brought primary limit clip calls) call
