-- What one request does to the store and its session, and its answer (RFC 9051, 2.2.2).
use Rattle.std.specs.Prelude.{ℕ, ⊤}
use Rattle.imap_types.specs.declared.reply.Verdict.TheVariants.{No as no_reply, Bad as bad_reply}
use Rattle.imap_types.specs.declared.reply.BadText.TheVariants.{Syntax}
use Rattle.imap_types.specs.declared.reply.NoText.TheVariants.{Limit}
use Rattle.imap_types.specs.declared.request.Answer.{Answer}
use Rattle.imap_types.specs.declared.request.Request.{Request}
use Rattle.imap_types.specs.declared.request.Request.TheVariants.{Command as command, Unknown as unknown, TooBig as too_big}
use Rattle.mur_model.specs.declared.session.Sess.{Sess}
use Rattle.mur_model.specs.declared.store.Store.{Store}
use Rattle.mur_model.specs.declared.setting.Setting.{Setting}
use Rattle.mur_model.specs.Act.{act_of, need_of, MayGive}
use Rattle.mur_model.specs.Needed.{NeedsNothing}
use Rattle.imap_types.specs.Reply.{reply_of}

-- store, session and answer after a request
pub record Answered : Type 0 where
  pub store : Store
  pub session : Sess
  pub answer : Answer

-- a request that is no command is refused in every state (RFC 9051, 7.1.3)
unfoldable pub answer_of : Setting → Store → Sess → Request → ℕ → Answered
answer_of setting store session (command tag it) serial =
    let acted = act_of setting store session it serial in
    record { store = acted.store; session = acted.session; answer = record { tag = tag; reply = acted.reply } }
answer_of setting store session (unknown tag) serial =
    record { store = store; session = session; answer = record { tag = tag; reply = reply_of (bad_reply Syntax) } }
answer_of setting store session (too_big tag) serial =
    record { store = store; session = session; answer = record { tag = tag; reply = reply_of (no_reply Limit) } }

-- the serial is free where the request makes a mailbox
unfoldable pub MayTake : Setting → Store → Sess → Request → ℕ → Type 0
MayTake setting store session (command tag it) serial = MayGive setting store session it serial
MayTake setting store session (unknown tag) serial = ⊤
MayTake setting store session (too_big tag) serial = ⊤

-- the request is answered whatever mailboxes there are
unfoldable pub NeedsNoStore : Setting → Sess → Request → Type 0
NeedsNoStore setting session (command tag it) = NeedsNothing (need_of setting session it)
NeedsNoStore setting session (unknown tag) = ⊤
NeedsNoStore setting session (too_big tag) = ⊤
