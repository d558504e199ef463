-- What a frontend does with a request: it answers by itself what the one store answers whatever its mailboxes are, and that may be the last
-- answer of the connection; or it begins to wait, for an answer of a server or for the master's OK.
use Rattle.std.proofs.Common.{◌≡◌, ℕ, true, false, List, Option, None, Some, refl, sym, ◌∙◌, ap}
use Rattle.front_core.specs.declared.connection.Connection.{Connection}
use Rattle.front_core.specs.Taken.{Ways, answers_now, answers_last, asks, begun_in, lists, told_now, turned_by_need, request_in}
use Rattle.imap_types.specs.declared.command.Command.{Command}
use Rattle.imap_types.specs.declared.command.Tag.{Tag}
use Rattle.mur_model.specs.Needed.{Needed, NeedsNothing, Refusal, Turned as turned_at_once, Mailbox, Names, Work}
use Rattle.imap_types.specs.declared.reply.BadText.TheVariants.{Syntax}
use Rattle.imap_types.specs.declared.reply.NoText.TheVariants.{Limit}
use Rattle.imap_types.specs.declared.reply.Reply.{Reply}
use Rattle.imap_types.specs.declared.reply.Verdict.TheVariants.{Bad as bad_reply}
use Rattle.imap_types.specs.declared.request.Request.{Request}
use Rattle.imap_types.specs.declared.request.Request.TheVariants.{Command as a_command, Unknown as unknown, TooBig as too_big}
use Rattle.mur_model.specs.declared.commands.list.Listing.{Listing}
use Rattle.mur_model.specs.declared.session.Sess.{Sess}
use Rattle.mur_model.specs.declared.session.Sess.TheVariants.{Off, In, Selected, Ended as session_ended}
use Rattle.mur_model.specs.declared.setting.Setting.{Setting}
use Rattle.mur_model.specs.declared.store.Store.{Store}
use Rattle.mur_model.specs.Act.{need_of, act_by, act_of, session_after}
use Rattle.mur_model.specs.Answer.{NeedsNoStore, answer_of}
use Rattle.imap_talk.specs.SessionEnds.{has_ended, TurnEnds}
use Rattle.imap_talk.specs.Transcript.{ends}
use Rattle.imap_talk.proofs.AnswersEnd.{turned_ends}
use Rattle.imap_types.specs.Reply.{reply_of, refused}
use Rattle.mur_model.specs.Asking.{asked_for}
use Rattle.mur_model.specs.Need.{begun_of, told_with}
use Rattle.session_core.specs.Need.{begun_by_need, told_reply}

pub data IsTaken (setting : Setting) (ways : Ways) (conn : ℕ) (session : Sess) (request : Request) : Type 0 where
  here : (tag : Tag) (reply : Reply) (next : Sess)
      → ((store : Store) → answer_of setting store session request 0 ≡ record { store = store; session = next; answer = record { tag = tag; reply = reply } })
      → NeedsNoStore setting session request
      → ends reply ≡ false → has_ended next ≡ false
      → ((connection : Connection) → connection.session ≡ session → request_in setting ways conn connection request ≡ answers_now conn connection next tag reply)
      → IsTaken setting ways conn session request
  finishes : (tag : Tag) (it : Command) (reply : Reply) → request ≡ a_command tag it
      → ((store : Store) → answer_of setting store session request 0
      ≡ record { store = store; session = session_ended; answer = record { tag = tag; reply = reply } })
      → NeedsNoStore setting session request
      → ends reply ≡ true
      → ((connection : Connection) → connection.session ≡ session
      → request_in setting ways conn connection request ≡ answers_last conn (record connection { session = session_ended }) tag reply)
      → IsTaken setting ways conn session request
  asked : (tag : Tag) (it : Command) (name : List ℕ) (work : Work) → request ≡ a_command tag it → need_of setting session it ≡ Mailbox name work
      → ((connection : Connection) → connection.session ≡ session
      → request_in setting ways conn connection request ≡ asks ways conn connection tag name (asked_for name work))
      → IsTaken setting ways conn session request
  listed : (tag : Tag) (it : Command) (listing : Listing) → request ≡ a_command tag it → need_of setting session it ≡ Names listing
      → ((connection : Connection) → connection.session ≡ session → request_in setting ways conn connection request ≡ lists ways conn connection tag listing)
      → IsTaken setting ways conn session request

-- the frontend does what the session needs behind the command
begun_so : (setting : Setting) (ways : Ways) (conn : ℕ) (session : Sess) (tag : Tag) (it : Command) (need : Needed) → need_of setting session it ≡ need
    → (connection : Connection) → connection.session ≡ session
    → request_in setting ways conn connection (a_command tag it) ≡ begun_in ways conn connection tag (begun_by_need session need)
unfolding request_in
begun_so setting ways conn session tag it need e connection s =
    ap (λ x. begun_in ways conn connection tag (begun_by_need x (need_of setting x it))) s
    ∙ ap (λ n. begun_in ways conn connection tag (begun_by_need session n)) e

-- what comes of a command at once
turn_goes_on : (setting : Setting) (ways : Ways) (conn : ℕ) (session : Sess) (tag : Tag) (it : Command) (next : Option Sess) (reply : Reply)
    → need_of setting session it ≡ turned_at_once (record { session = next; reply = reply }) → ends reply ≡ false
    → has_ended (session_after session next) ≡ false
    → ((connection : Connection) → begun_in ways conn connection tag (told_reply session reply next) ≡ answers_now conn connection (session_after session next) tag reply)
    → IsTaken setting ways conn session (a_command tag it)
unfolding answer_of act_of act_by NeedsNoStore NeedsNothing begun_of
turn_goes_on setting ways conn session tag it next reply e stays lasts form =
    here tag reply (session_after session next)
    (λ store. rw e refl)
    (rw e tt)
    stays lasts
    (λ connection s. begun_so setting ways conn session tag it _ e connection s ∙ form connection)

turn_taken : (setting : Setting) (ways : Ways) (conn : ℕ) (session : Sess) (tag : Tag) (it : Command) (next : Option Sess) (reply : Reply)
    → need_of setting session it ≡ turned_at_once (record { session = next; reply = reply }) → TurnEnds (record { session = next; reply = reply })
    → has_ended session ≡ false → IsTaken setting ways conn session (a_command tag it)
unfolding answer_of act_of act_by NeedsNoStore NeedsNothing begun_of told_with turned_by_need told_now answers_last
turn_taken setting ways conn session tag it None reply e stays lasts =
    turn_goes_on setting ways conn session tag it None reply e stays lasts (λ connection. refl)
turn_taken setting ways conn session tag it (Some Off) reply e stays lasts =
    turn_goes_on setting ways conn session tag it (Some Off) reply e stays refl (λ connection. refl)
turn_taken setting ways conn session tag it (Some (In user)) reply e stays lasts =
    turn_goes_on setting ways conn session tag it (Some (In user)) reply e stays refl (λ connection. refl)
turn_taken setting ways conn session tag it (Some (Selected view)) reply e stays lasts =
    turn_goes_on setting ways conn session tag it (Some (Selected view)) reply e stays refl (λ connection. refl)
turn_taken setting ways conn session tag it (Some session_ended) reply e is_end lasts =
    finishes tag it reply refl
    (λ store. rw e refl)
    (rw e tt)
    is_end
    (λ connection s. begun_so setting ways conn session tag it _ e connection s)

need_taken : (setting : Setting) (ways : Ways) (conn : ℕ) (session : Sess) (tag : Tag) (it : Command) (need : Needed) → need_of setting session it ≡ need
    → has_ended session ≡ false → IsTaken setting ways conn session (a_command tag it)
unfolding answer_of act_of act_by NeedsNoStore NeedsNothing begun_of turned_by_need told_now ends
need_taken setting ways conn session tag it (Refusal verdict) e lasts =
    here tag (reply_of verdict) session
    (λ store. rw e refl)
    (rw e tt)
    refl lasts
    (λ connection s. begun_so setting ways conn session tag it _ e connection s)
need_taken setting ways conn session tag it (turned_at_once turn) e lasts =
    turn_taken setting ways conn session tag it turn.session turn.reply e (turned_ends setting session it turn e) lasts
need_taken setting ways conn session tag it (Mailbox name work) e lasts =
    asked tag it name work refl e
    (λ connection s. begun_so setting ways conn session tag it _ e connection s
    ∙ ap (λ x. asks ways conn (record connection { session = x }) tag name (asked_for name work)) (sym s))
need_taken setting ways conn session tag it (Names listing) e lasts =
    listed tag it listing refl e
    (λ connection s. begun_so setting ways conn session tag it _ e connection s
    ∙ ap (λ x. lists ways conn (record connection { session = x }) tag listing) (sym s))

pub request_taken : (setting : Setting) (ways : Ways) (conn : ℕ) (session : Sess) (request : Request) → has_ended session ≡ false
    → IsTaken setting ways conn session request
unfolding answer_of NeedsNoStore request_in ends
request_taken setting ways conn session (a_command tag it) lasts = need_taken setting ways conn session tag it (need_of setting session it) refl lasts
request_taken setting ways conn session (unknown tag) lasts =
    here tag (reply_of (bad_reply Syntax)) session (λ store. refl) tt refl lasts
    (λ connection s. ap (λ x. answers_now conn connection x tag (reply_of (bad_reply Syntax))) s)
request_taken setting ways conn session (too_big tag) lasts =
    here tag (refused Limit) session (λ store. refl) tt refl lasts (λ connection s. ap (λ x. answers_now conn connection x tag (refused Limit)) s)
