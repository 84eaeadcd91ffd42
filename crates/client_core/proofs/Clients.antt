-- Clients over messages one after another.
use Rattle.std.proofs.Common.{◌≡◌, ◌∙◌, ap, sym, refl, ℕ, List, [], ◌∷◌, ◌++◌, length, drop, Option, Some, None}
use Rattle.std.proofs.lemmas.List.{drop_at}
use Rattle.std.proofs.lemmas.List.Sums.{fold-append, fold_push}
use Rattle.message_codec.specs.declared.messages.Msg.{Msg}
use Rattle.message_codec.specs.Inboxes.{Inbox}
use Rattle.message_reader.specs.declared.reader.BadFrame.{BadFrame}
use Rattle.client_core.specs.declared.client_end.ClientEnd.{ClientEnd}
use Rattle.client_core.specs.declared.stop.Stop.{Stop}
use Rattle.client_core.specs.Ends.{stop_in}
use Rattle.client_core.specs.Clients.{Client, while_going, takes, hear, hear_all, fed, inbox_with, bad_in, fails, reads, got}

-- ---- one message

same_role : (done : Option ClientEnd) (by : Option Stop) (m : Msg) (c : Client) → (while_going done (takes by m) c).role ≡ c.role
same_role (Some e) by m c = refl
same_role None (Some s) m c = refl
same_role None None m c = refl

same_received : (done : Option ClientEnd) (by : Option Stop) (m : Msg) (c : Client) → (while_going done (takes by m) c).received ≡ c.received
same_received (Some e) by m c = refl
same_received None (Some s) m c = refl
same_received None None m c = refl

-- a message after which it goes on was heard
grown : (done : Option ClientEnd) (by : Option Stop) (m : Msg) (c : Client) → c.done ≡ done → (while_going done (takes by m) c).done ≡ None → (while_going done (takes by m) c).heard ≡ c.heard ++ m ∷ []
grown (Some e) by m c is none = absurd cc
grown None (Some s) m c is none = absurd cc
grown None None m c is none = refl

pub hear-role : (c : Client) (m : Msg) → (hear c m).role ≡ c.role
hear-role c m = same_role c.done (stop_in c.talk m) m c

pub hear-received : (c : Client) (m : Msg) → (hear c m).received ≡ c.received
hear-received c m = same_received c.done (stop_in c.talk m) m c

pub hear-heard : (c : Client) (m : Msg) → (hear c m).done ≡ None → (hear c m).heard ≡ c.heard ++ m ∷ []
hear-heard c m none = grown c.done (stop_in c.talk m) m c refl none

-- one that goes on takes a message by how it stops it
pub hear_is : (c : Client) (m : Msg) (by : Option Stop) → c.done ≡ None → stop_in c.talk m ≡ by → hear c m ≡ takes by m c
hear_is c m by none is = ap (λ (d : Option ClientEnd). while_going d (takes (stop_in c.talk m) m) c) none ∙ ap (λ (b : Option Stop). takes b m c) is

-- ---- more messages

-- one that is done hears none
pub over : (c : Client) (e : ClientEnd) (ms : List Msg) → c.done ≡ Some e → hear_all c ms ≡ c
over c e [] is = refl
over c e (m ∷ ms) is =
    ap (λ (d : Client). hear_all d ms) (ap (λ (done : Option ClientEnd). while_going done (takes (stop_in c.talk m) m) c) is) ∙ over c e ms is

pub one_more : (c : Client) (ms : List Msg) (m : Msg) → hear_all c (ms ++ m ∷ []) ≡ hear (hear_all c ms) m
one_more c ms m = fold_push hear c ms m

-- ---- a piece

-- one that goes on reads it
got_going : (piece : List ℕ) (c : Client) → c.done ≡ None → got piece c ≡ reads (inbox_with piece c) (fed piece c)
got_going piece c none = ap (λ (done : Option ClientEnd). while_going done (λ d. reads (inbox_with piece d) (fed piece d)) c) none

-- the messages that it has not heard
pub left_of : (box : Inbox) (heard more : List Msg) → box.messages ≡ heard ++ more → drop (length heard) box.messages ≡ more
left_of box heard more is = ap (λ (ms : List Msg). drop (length heard) ms) is ∙ drop_at heard more (length heard) refl

judged : (bad : Option BadFrame) (d : Client) → Client
judged bad d = while_going d.done (fails bad) d

-- all of its messages are heard, and it goes on until the bad frame
pub got_end : (piece : List ℕ) (c d : Client) (more : List Msg) (bad : Option BadFrame) → c.done ≡ None → d ≡ hear_all (fed piece c) more → d.done ≡ None → (inbox_with piece c).messages ≡ c.heard ++ more → bad_in (inbox_with piece c) ≡ bad → got piece c ≡ fails bad d
got_end piece c d more bad none is goes all bad-is =
    got_going piece c none
    ∙ ap (λ (ms : List Msg). (λ (e : Client). while_going e.done (fails (bad_in (inbox_with piece c))) e) (hear_all (fed piece c) ms)) (left_of (inbox_with piece c) c.heard more all)
    ∙ ap (λ (e : Client). while_going e.done (fails (bad_in (inbox_with piece c))) e) (sym is)
    ∙ ap (λ (done : Option ClientEnd). while_going done (fails (bad_in (inbox_with piece c))) d) goes
    ∙ ap (λ (b : Option BadFrame). fails b d) bad-is

-- a message of it ends it
pub got_stop : (piece : List ℕ) (c d : Client) (more tail : List Msg) (m : Msg) (e : ClientEnd) → c.done ≡ None → d ≡ hear_all (fed piece c) more → (hear d m).done ≡ Some e → (inbox_with piece c).messages ≡ c.heard ++ (more ++ m ∷ tail) → got piece c ≡ hear d m
got_stop piece c d more tail m e none is stops all =
    got_going piece c none
    ∙ ap (λ (ms : List Msg). (λ (x : Client). while_going x.done (fails (bad_in (inbox_with piece c))) x) (hear_all (fed piece c) ms)) (left_of (inbox_with piece c) c.heard (more ++ m ∷ tail) all)
    ∙ ap (λ (x : Client). while_going x.done (fails (bad_in (inbox_with piece c))) x) heard
    ∙ ap (λ (done : Option ClientEnd). while_going done (fails (bad_in (inbox_with piece c))) (hear d m)) stops
  where
    heard : hear_all (fed piece c) (more ++ m ∷ tail) ≡ hear d m
    heard = fold-append hear (fed piece c) more (m ∷ tail) ∙ ap (λ (x : Client). hear_all (hear x m) tail) (sym is) ∙ over (hear d m) e tail stops
