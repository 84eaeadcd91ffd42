-- A clipboard that is told in parts.
use Rattle.std.specs.Prelude.{◌≡◌, refl, ℕ, ◌<◌, min, List, [], ◌∷◌, ◌++◌, length, map}
use Rattle.std.specs.Fmt.{decimal}
use Rattle.std.proofs.Common.{sym, ap, ◌∙◌, subst}
use Rattle.share_base.specs.declared.clip_id.ClipId.{ClipId}
use Rattle.message_codec.specs.declared.clip_mark.ClipMark.TheVariants as mark
use Rattle.clip_chunks.specs.Parts.{Part, part, message_of}
use Rattle.clip_chunks.specs.Sending.{full_chunk, chunks_of}
use Rattle.clip_chunks.proofs.Cuts.{first_chunk, no_chunk}
use Rattle.machine.specs.Targets.{Client, Own}
use Rattle.machine.specs.States.{State}
use Rattle.machine.specs.Combining.{for_each}
use Rattle.machine.specs.Routing.{route}
use Rattle.machine.specs.Clipboards.{give}
use Rattle.server_core.specs.declared.server.ServerCore.{ServerCore}
use Rattle.server_core.specs.Targets.{IsThere}
use Rattle.server_core.specs.Sending.{tell_chunk, tell_chunks}
use Rattle.server_core.specs.Standing.{Beside, Stands}
use Rattle.server_core.specs.Leading.{LeadsWhere}

-- the server stands at a state from which the rest of the bytes leads to where all of them lead
pub record Told (b : Beside) (now : ServerCore) (clip : ClipId) (serial : ℕ) (rest : List ℕ) (end : State) : Type 0 where
  pub state : State
  pub there : IsThere state (Client serial)
  pub stands : Stands b now state
  pub ends : tell_chunks clip serial rest state ≡ end

abbrev pub Tells : ServerCore → ServerCore → ClipId → ℕ → List ℕ → List ℕ → Type 0
Tells old now clip serial rest all = (b : Beside) (s : State) → IsThere s (Client serial) → Stands b old s → Told b now clip serial rest (tell_chunks clip serial all s)

pub tells-none : (core : ServerCore) (clip : ClipId) (serial : ℕ) (rest all : List ℕ) → rest ≡ all → Tells core core clip serial rest all
tells-none core clip serial rest all e = λ b s there h. record { state = s; there = there; stands = h; ends = ap (λ xs. tell_chunks clip serial xs s) e }

pub tells-more : (old now new : ServerCore) (clip : ClipId) (serial : ℕ) (bytes front rest all : List ℕ) → bytes ≡ front ++ rest → length front ≡ min full_chunk (length bytes) → 0 < length bytes → Tells old now clip serial bytes all → LeadsWhere (λ s. IsThere s (Client serial)) now new (tell_chunk clip serial front) → Tells old new clip serial rest all
tells-more old now new clip serial bytes front rest all is long some so_far leads = λ b s there h.
    let told : Told b now clip serial bytes (tell_chunks clip serial all s) = so_far b s there h in
    record {
      state = tell_chunk clip serial front told.state;
      there = told.there;
      stands = leads b told.state told.there told.stands;
      ends = ap (λ cs. for_each cs (tell_chunk clip serial) told.state) (sym (first_chunk bytes front rest is long some)) ∙ told.ends;
    }

pub tells-all : (old new : ServerCore) (clip : ClipId) (serial : ℕ) (rest all : List ℕ) → length rest ≡ 0 → Tells old new clip serial rest all → LeadsWhere (λ s. IsThere s (Client serial)) old new (tell_chunks clip serial all)
tells-all old new clip serial rest all none tells = λ b s there h.
    let told : Told b new clip serial rest (tell_chunks clip serial all s) = tells b s there h in
    subst (λ t. Stands b new t) (ap (λ cs. for_each cs (tell_chunk clip serial) told.state) (sym (no_chunk rest none)) ∙ told.ends) told.stands

-- ---- whole

chunks-there : (clip : ClipId) (serial : ℕ) (cs : List (List ℕ)) (s : State) → IsThere s (Client serial) → IsThere (for_each cs (tell_chunk clip serial) s) (Client serial)
chunks-there clip serial [] s h = h
chunks-there clip serial (c ∷ cs) s h = chunks-there clip serial cs (tell_chunk clip serial c s) h

ended : (clip : ClipId) (serial : ℕ) (p : Part) (cs : List (List ℕ)) (s : State) → route Own (Client serial) (message_of p) (for_each cs (tell_chunk clip serial) s) ≡ for_each (map message_of (map (part mark.Chunk clip 0) cs ++ p ∷ [])) (route Own (Client serial)) s
ended clip serial p [] s = refl
ended clip serial p (c ∷ cs) s = ended clip serial p cs (tell_chunk clip serial c s)

abbrev pub tell_part : ClipId → ℕ → Part → State → State
tell_part clip serial p s = route Own (Client serial) (message_of p) s

-- a start, all chunks and an end
pub clip-told : (old begun middle new : ServerCore) (clip : ClipId) (serial : ℕ) (size bytes : List ℕ) → size ≡ decimal (length bytes)
    → LeadsWhere (λ s. IsThere s (Client serial)) old begun (tell_part clip serial (part mark.Start clip 0 size))
    → LeadsWhere (λ s. IsThere s (Client serial)) begun middle (tell_chunks clip serial bytes)
    → LeadsWhere (λ s. IsThere s (Client serial)) middle new (tell_part clip serial (part mark.End clip 0 []))
    → LeadsWhere (λ s. IsThere s (Client serial)) old new (give clip bytes (Client serial))
clip-told old begun middle new clip serial size bytes digits start chunks end = λ b s there h.
    let one : State = tell_part clip serial (part mark.Start clip 0 (decimal (length bytes))) s in
    let stood : Stands b begun one = subst (λ ds. Stands b begun (tell_part clip serial (part mark.Start clip 0 ds) s)) digits (start b s there h) in
    subst (λ t. Stands b new t) (ended clip serial (part mark.End clip 0 []) (chunks_of bytes) one)
    (end b (tell_chunks clip serial bytes one) (chunks-there clip serial (chunks_of bytes) one there) (chunks b one there stood))
