-- The refusal of a command whose mailbox is on its way to another server, or that needs a server which can't be reached (RFC 5530, 3: UNAVAILABLE).
-- Nothing is carried out: the store stays, the session stays and is told no news; but a SELECT or an EXAMINE leaves no mailbox selected, as where it is
-- refused for another cause (RFC 9051, 6.3.2).
use Rattle.std.specs.Prelude.{◌≡◌, ℕ, Bool, true, ⊤, List, [], ◌∷◌, Option, None, Some}
use Rattle.mur_base.specs.declared.point.What.{What}
use Rattle.mur_base.specs.declared.point.What.TheVariants.{Reserved as reserved, Unreached as unreached}
use Rattle.imap_types.specs.declared.command.Command.{Command}
use Rattle.imap_types.specs.declared.command.Command.TheVariants.{Select, Examine}
use Rattle.imap_types.specs.declared.command.Tag.{Tag}
use Rattle.imap_types.specs.declared.reply.NoText.{NoText}
use Rattle.imap_types.specs.declared.reply.NoText.TheVariants.{BeingMoved, NotReached}
use Rattle.imap_types.specs.declared.reply.ReplyLine.TheVariants.{Closed}
use Rattle.imap_types.specs.declared.reply.Verdict.TheVariants.{No as no_reply}
use Rattle.imap_types.specs.Reply.{refused}
use Rattle.mur_model.specs.declared.session.Sess.{Sess}
use Rattle.mur_model.specs.declared.session.Sess.TheVariants.{In, Selected as selected}
use Rattle.mur_model.specs.declared.session.Turn.{Turn}
use Rattle.mur_model.specs.declared.store.Store.{Store}
use Rattle.mur_model.specs.declared.view.View.{View}
use Rattle.mur_model.specs.Act.{session_after}
use Rattle.mur_model.specs.Answer.{Answered}
use Rattle.mur_model.specs.Left.{replied}
use Rattle.mur_model.specs.Needed.{Needed, Mailbox, Names}

-- the text, by the cause that the command's point tells
unfoldable pub cause_text : What → Option NoText
cause_text reserved = Some BeingMoved
cause_text (unreached node) = Some NotReached
cause_text what = None

-- what a command needs, for which it may be refused in a step: a server isn't reached that has its mailbox, or the names of all; or its mailbox is being
-- moved then
unfoldable pub MayBeRefused : (ℕ → List ℕ → Bool) → ℕ → What → Needed → Type 0
MayBeRefused moving step reserved (Mailbox name work) = moving step name ≡ true
MayBeRefused moving step (unreached node) (Mailbox name work) = ⊤
MayBeRefused moving step (unreached node) (Names listing) = ⊤
MayBeRefused moving step what needed = ⊥

-- what was selected is so no more, and its client is told that
abbrev pub refused_unselected : View → NoText → Turn
refused_unselected view why = record { session = Some (In view.user); reply = record { lines = Closed ∷ []; verdict = no_reply why } }

-- what a session's command is answered, and the session behind it if that is another
unfoldable pub refused_for : Sess → Command → NoText → Turn
refused_for (selected view) (Select text) why = refused_unselected view why
refused_for (selected view) (Examine text) why = refused_unselected view why
refused_for session it why = replied (refused why)

-- store, session and answer after it
abbrev pub after_refusal : Store → Sess → Tag → Command → NoText → Answered
after_refusal store session tag it why =
    let turn = refused_for session it why in
    record { store = store; session = session_after session turn.session; answer = record { tag = tag; reply = turn.reply } }
