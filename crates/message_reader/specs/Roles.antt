-- Which messages may stand where, and how long a body may be, for each role of a reader.
use Rattle.std.specs.Prelude.{◌≡◌, ℕ, ◌≤◌, Bool, true, false, not, ◌||◌, List, [], ◌∷◌}
use Rattle.std.proofs.Common.{lit≤}
use Rattle.message_codec.specs.declared.messages.End.TheVariants as ends
use Rattle.message_codec.specs.declared.messages.Msg.{Msg}
use Rattle.message_codec.specs.declared.messages.Msg.TheVariants as msg
use Rattle.message_codec.specs.Streams.{body_limit, Reader, plain}
use Rattle.message_reader.specs.declared.role.TheConstants.{HELLO_LIMIT}
use Rattle.message_reader.specs.declared.role.Role.{Role}
use Rattle.message_reader.specs.declared.role.Role.TheVariants as role

abbrev pub is_hello : Msg → Bool
is_hello (msg.Hello major minor) = true
is_hello _ = false

abbrev pub is_answer : Msg → Bool
is_answer (msg.HelloBack major minor name) = true
is_answer _ = false

abbrev pub is_refusal : Msg → Bool
is_refusal (msg.BadVersion major minor) = true
is_refusal msg.Busy = true
is_refusal msg.Unknown = true
is_refusal msg.Malformed = true
is_refusal _ = false

-- a message came before
abbrev pub has_begun : List Msg → Bool
has_begun [] = false
has_begun (m ∷ before) = true

-- one thing before the first message, and another after it
abbrev pub first_then : {A : Type 0} → A → A → List Msg → A
first_then first later [] = first
first_then first later (m ∷ before) = later

-- the first message is a hello answer, in a short body, and no later one is
abbrev pub server : Reader
server = record {
  from = ends.Client;
  limit = first_then HELLO_LIMIT body_limit;
  limited = limited;
  takes = first_then is_answer (λ m. not (is_answer m));
}
  where
    limited : (before : List Msg) → first_then HELLO_LIMIT body_limit before ≤ body_limit
    limited [] = lit≤ tt
    limited (m ∷ before) = lit≤ tt

-- the first message is a hello or a refusal, and no later one is a hello
abbrev pub client : Reader
client = record {
  from = ends.Server;
  limit = λ before. body_limit;
  limited = λ before. lit≤ tt;
  takes = first_then (λ m. is_hello m || is_refusal m) (λ m. not (is_hello m));
}

-- the reader in that role
abbrev pub reader_of : Role → Reader
reader_of role.Server = server
reader_of role.Client = client
reader_of (role.Observer end) = plain end

-- so many bytes may the next body have, where messages came before or not
abbrev pub IsLimit : Role → Bool → ℕ → Type 0
IsLimit r begun limit =
    (before : List Msg) → begun ≡ has_begun before → limit ≡ (reader_of r).limit before

-- whether the message may stand next
abbrev pub MayStand : Role → Bool → Msg → Bool → Type 0
MayStand r begun m answer =
    (before : List Msg) → begun ≡ has_begun before → answer ≡ (reader_of r).takes before m
