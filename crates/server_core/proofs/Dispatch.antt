-- Messages that a phase doesn't hear, and parts of clipboards.
use Rattle.std.specs.Prelude.{◌≡◌, refl, ℕ, ◌≤◌, ◌<◌, true, false, List, [], length, unwrap_or, Option, Some, None}
use Rattle.std.specs.Option.{option_map, option_map_or}
use Rattle.std.proofs.Common.{arith, sym, ap, ◌∙◌, subst}
use Rattle.share_base.specs.declared.clip_id.ClipId.{ClipId}
use Rattle.message_codec.specs.declared.clip_mark.ClipMark.{ClipMark}
use Rattle.message_codec.specs.declared.messages.Msg.{Msg}
use Rattle.message_codec.specs.declared.messages.Msg.TheVariants as msg
use Rattle.hello_states.specs.declared.info_fields.InfoFields.{InfoFields}
use Rattle.hello_states.specs.Information.{shape_in}
use Rattle.hello_states.specs.Phases.{AskedScreen, JoinedScreen}
use Rattle.clip_chunks.specs.Parts.{part}
use Rattle.clip_chunks.specs.OpenRuns.{whole_at}
use Rattle.clip_chunks.proofs.EndedRuns.{ends_whole}
use Rattle.machine.specs.Connections.{Connection, is_live}
use Rattle.machine.specs.States.{State}
use Rattle.machine.specs.Combining.{for_some, unchanged}
use Rattle.machine.specs.Screens.{connection, lives, change}
use Rattle.machine.specs.Clipboards.{clip_limit, whole}
use Rattle.machine.specs.Information.{hear_first_info, hear_later_info}
use Rattle.machine.specs.Hearing.{with_part, parts_from, hear_part, hear_asked, hear_joined}
use Rattle.connection_table.specs.declared.connection.Connection as kept
use Rattle.connection_table.specs.PartsTaken.{TakesPart}
use Rattle.connection_table.specs.Tables.{ChangesAt}
use Rattle.connection_table.proofs.Advancing.{are-parts, whole-found}
use Rattle.server_core.specs.declared.server.ServerCore.{ServerCore}
use Rattle.server_core.specs.Hearing.{info_of}
use Rattle.server_core.specs.Leading.{Leads, LeadsWhere}
use Rattle.server_core.specs.Standing.{Beside, around, Stands}
use Rattle.server_core.proofs.Changed.{stands-changed}

-- ---- an information

pub first-told : (asked : AskedScreen) (m : Msg) (info : InfoFields) (n : ℕ) (s : State) → Some info ≡ info_of m → hear_first_info asked (shape_in info) n s ≡ hear_asked asked m n s
first-told asked m info n s e = by m info e
  where
    by : (m : Msg) (info : InfoFields) → Some info ≡ info_of m → hear_first_info asked (shape_in info) n s ≡ hear_asked asked m n s
    by (msg.Info x y w h warp mx my) info e = let is : info ≡ record { x = x; y = y; w = w; h = h; warp = warp; mx = mx; my = my } = cc in ap (λ (i : InfoFields). hear_first_info asked (shape_in i) n s) is
    by _ info e = absurd (let x : ⊥ = cc in x)

pub first-passed : (asked : AskedScreen) (m : Msg) (n : ℕ) (s : State) → None ≡ info_of m → s ≡ hear_asked asked m n s
first-passed asked m n s e = by m e
  where
    by : (m : Msg) → None ≡ info_of m → s ≡ hear_asked asked m n s
    by (msg.Info x y w h warp mx my) e = absurd (let x : ⊥ = cc in x)
    by _ e = refl

pub later-told : (joined : JoinedScreen) (m : Msg) (info : InfoFields) (n : ℕ) (s : State) → Some info ≡ info_of m → hear_later_info joined (shape_in info) n s ≡ hear_joined joined m n s
later-told joined m info n s e = by m info e
  where
    by : (m : Msg) (info : InfoFields) → Some info ≡ info_of m → hear_later_info joined (shape_in info) n s ≡ hear_joined joined m n s
    by (msg.Info x y w h warp mx my) info e = let is : info ≡ record { x = x; y = y; w = w; h = h; warp = warp; mx = mx; my = my } = cc in ap (λ (i : InfoFields). hear_later_info joined (shape_in i) n s) is
    by _ info e = absurd (let x : ⊥ = cc in x)

-- ---- parts of clipboards

stands-part : (b : Beside) (core : ServerCore) (s : State) (table : List kept.Connection) (n seq : ℕ) (clip : ClipId) (mark : ClipMark) (bytes : List ℕ) (answer : Option (List ℕ)) → Stands b core s → ChangesAt n (TakesPart clip seq mark bytes answer) core.table table → Stands b (record core { table = table }) (change n (with_part (part mark clip seq bytes)) s)
stands-part b core s table n seq clip mark bytes answer h g = stands-changed b core s table n (with_part (part mark clip seq bytes)) (λ c. refl) h (are-parts (around b s) n clip seq mark bytes answer core.table table s.connections h.connections g)

answer-found : (b : Beside) (core : ServerCore) (s : State) (table : List kept.Connection) (n seq : ℕ) (clip : ClipId) (mark : ClipMark) (bytes : List ℕ) (answer : Option (List ℕ)) → lives s n ≡ true → Stands b core s → ChangesAt n (TakesPart clip seq mark bytes answer) core.table table → answer ≡ whole_at (clip_limit s) (part mark clip seq bytes) (parts_from s n)
answer-found b core s table n seq clip mark bytes answer on h g = by (connection s n) refl on
  where
    by : (o : Option Connection) → connection s n ≡ o → option_map_or is_live o false ≡ true → answer ≡ whole_at (clip_limit s) (part mark clip seq bytes) (unwrap_or (option_map (λ (c : Connection). c.parts) o) [])
    by None e on = absurd (let x : ⊥ = cc in x)
    by (Some c) e on = whole-found (around b s) n clip seq mark bytes answer core.table table s.connections c e h.connections g

pub part-goes-on : (core : ServerCore) (table : List kept.Connection) (n seq : ℕ) (clip : ClipId) (mark : ClipMark) (bytes : List ℕ) (answer : Option (List ℕ)) → answer ≡ None → ChangesAt n (TakesPart clip seq mark bytes answer) core.table table → LeadsWhere (λ s. lives s n ≡ true) core (record core { table = table }) (hear_part (part mark clip seq bytes) n)
part-goes-on core table n seq clip mark bytes answer none g = λ b s on h.
    subst (λ (o : Option (List ℕ)). Stands b (record core { table = table }) (for_some o (λ ws. whole clip n seq ws) unchanged (change n (with_part (part mark clip seq bytes)) s))) (sym none ∙ answer-found b core s table n seq clip mark bytes answer on h g)
    (stands-part b core s table n seq clip mark bytes answer h g)

pub part-ends : (core new : ServerCore) (table : List kept.Connection) (n seq : ℕ) (clip : ClipId) (mark : ClipMark) (bytes ws : List ℕ) (answer : Option (List ℕ)) → answer ≡ Some ws → ChangesAt n (TakesPart clip seq mark bytes answer) core.table table → Leads (record core { table = table }) new (whole clip n seq ws) → LeadsWhere (λ s. lives s n ≡ true) core new (hear_part (part mark clip seq bytes) n)
part-ends core new table n seq clip mark bytes ws answer some g leads = λ b s on h.
    subst (λ (o : Option (List ℕ)). Stands b new (for_some o (λ xs. whole clip n seq xs) unchanged (change n (with_part (part mark clip seq bytes)) s))) (sym some ∙ answer-found b core s table n seq clip mark bytes answer on h g)
    (leads b (change n (with_part (part mark clip seq bytes)) s) (stands-part b core s table n seq clip mark bytes answer h g))

-- no whole is longer than the limit
pub part-beyond : (core new : ServerCore) (table : List kept.Connection) (n seq limit : ℕ) (clip : ClipId) (mark : ClipMark) (bytes ws : List ℕ) (answer : Option (List ℕ)) → answer ≡ Some ws → ChangesAt n (TakesPart clip seq mark bytes answer) core.table table → ((b : Beside) (s : State) → Stands b (record core { table = table }) s → limit ≡ clip_limit s) → limit < length ws → LeadsWhere (λ s. lives s n ≡ true) core new (hear_part (part mark clip seq bytes) n)
part-beyond core new table n seq limit clip mark bytes ws answer some g reads lt = λ b s on h. absurd
    (let e : whole_at (clip_limit s) (part mark clip seq bytes) (parts_from s n) ≡ Some ws = sym (answer-found b core s table n seq clip mark bytes answer on h g) ∙ some in
    let short : length ws ≤ clip_limit s = (ends_whole (clip_limit s) ws (part mark clip seq bytes) (parts_from s n) e).whole.within in
    let is : limit ≡ clip_limit s = reads b (change n (with_part (part mark clip seq bytes)) s) (stands-part b core s table n seq clip mark bytes answer h g) in
    omega arith)
