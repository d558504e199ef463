-- The texts of each answer of a sound store to a sound request are sound, so a client reads what was meant; and the store stays sound.
use Rattle.std.proofs.Common.{ℕ, true, ◌^◌, List, [], codes, refl}
use Rattle.std.proofs.Common.{Option, None, Some}
use Rattle.std.specs.Prelude.{⊤, IfSome, unwrap_or}
use Rattle.std.proofs.lemmas.List.Elements.{All-nil, All-cons}
use Rattle.mail_message.specs.Literals.{IsPlain}
use Rattle.imap_types.specs.declared.command.Command.{Command}
use Rattle.imap_types.specs.declared.command.Command.TheVariants as command
use Rattle.imap_types.specs.declared.reply.Attribute.TheVariants.{NoSelect}
use Rattle.imap_types.specs.declared.reply.ReplyLine.TheVariants.{Listed}
use Rattle.imap_types.specs.declared.reply.NoText.{NoText}
use Rattle.mur_model.specs.Needed.{Needed, Refusal, Turned, Mailbox, Names, Work}
use Rattle.imap_types.specs.declared.reply.Bye.TheVariants.{Logout as logout_bye}
use Rattle.imap_types.specs.declared.reply.Reply.{Reply}
use Rattle.imap_types.specs.declared.reply.ReplyLine.{ReplyLine}
use Rattle.imap_types.specs.declared.reply.ReplyLine.TheVariants.{Bye, Capability, Enabled}
use Rattle.imap_types.specs.declared.request.Request.{Request}
use Rattle.imap_types.specs.declared.request.Request.TheVariants.{Command as a_command, Unknown as unknown, TooBig as too_big}
use Rattle.mur_model.specs.declared.session.Sess.{Sess}
use Rattle.mur_model.specs.declared.session.Sess.TheVariants.{Selected as selected}
use Rattle.mur_model.specs.declared.setting.Setting.{Setting}
use Rattle.mur_model.specs.declared.store.Store.{Store}
use Rattle.mur_model.specs.declared.view.View.{View}
use Rattle.mur_model.specs.Act.{act_by, act_of, worked_at, need_of}
use Rattle.mur_model.specs.Answer.{answer_of}
use Rattle.mur_model.specs.AtOnce.{told_at_once}
use Rattle.mur_model.specs.History.{Course}
use Rattle.mur_model.specs.Listing.{list_reply, names_in}
use Rattle.mur_model.specs.Relocation.{refused_for}
use Rattle.mur_model.specs.Store.{box_at, is_full}
use Rattle.mur_model.proofs.EachNeed.{OfAnswers, OfBegun, OfViewed, each_need}
use Rattle.mur_model.proofs.EachAnswer.{Keeps}
use Rattle.imap_command.specs.Ruled.{IsDate, IsRuled}
use Rattle.imap_talk.specs.SoundRequests.{IsSoundRequest, IsSoundStore}
use Rattle.imap_reply.specs.SoundTexts.{IsSoundTag, IsSoundLine, IsSoundVerdict}
use Rattle.imap_talk.specs.TranscriptRead.{IsAnswerReadAsMeant}
use Rattle.imap_reply.proofs.NoForgery.{read_as_meant}
use Rattle.imap_talk.proofs.ListedPlain.{list_sound}
use Rattle.imap_talk.proofs.PlainNames.{shown_plain}
use Rattle.imap_talk.proofs.SoundStores.{box_is}
use Rattle.imap_talk.proofs.SoundStores.{store_is}
use Rattle.imap_talk.proofs.SoundWorks.{SoundReply, SoundWork, SoundWorked, closed_sound, left_sound, unselected_sound, work_sound}
use Rattle.imap_reply.specs.ReadAsMeant.{IsReadAsMeant}
use Rattle.imap_types.specs.declared.command.Tag.{Tag}

abbrev SoundNeed : Needed → Type 0
SoundNeed (Refusal verdict) = IsSoundVerdict verdict
SoundNeed (Turned turn) = SoundReply turn.reply
SoundNeed (Mailbox name work) = SoundWork name work
SoundNeed (Names it) = ⊤

abbrev IsSoundCommand : Command → Type 0
IsSoundCommand it = IsRuled (2 ^ 64) it

-- what a command needs

-- a line, and the name of its command
at_once_sound : (line : ReplyLine) (name : List ℕ) → IsSoundLine line → IsPlain name → SoundReply (told_at_once line name).reply
unfolding IsSoundVerdict
at_once_sound line name sound plain = record { lines = All-cons IsSoundLine line [] sound (All-nil IsSoundLine); verdict = plain }

new_dated : (date : Option (List ℕ)) (other : List ℕ) → IsDate other → IfSome date IsDate → IsDate (unwrap_or date other)
new_dated None other or is = or
new_dated (Some date) other or is = is

answers_sound : OfAnswers SoundNeed
unfolding IsSoundVerdict IsSoundLine
answers_sound = record {
  refused = λ why. tt;
  bad = λ why. tt;
  completed = λ name plain. record { lines = All-nil IsSoundLine; verdict = plain };
  begun = λ name user plain. record { lines = All-nil IsSoundLine; verdict = plain };
  capability = at_once_sound Capability (codes "CAPABILITY") tt refl;
  logout = at_once_sound (Bye logout_bye) (codes "LOGOUT") tt refl;
}

begun_sound : (setting : Setting) → IsDate setting.date → OfBegun setting IsSoundCommand SoundNeed
unfolding IsSoundLine
begun_sound setting date_is = record {
  answers = answers_sound;
  enable = at_once_sound Enabled (codes "ENABLE") tt refl;
  unselected = unselected_sound;
  make = λ name named. named;
  delete = λ name named. tt;
  append = λ name text flags date body sound.
      record { ruled = sound.0; dated = new_dated date setting.date date_is sound.1.0; counted = sound.1.1 };
  status = λ user name items named. shown_plain user name named;
  select = λ user name text is_writable was_selected asked named. shown_plain user name named;
  separator = at_once_sound (Listed NoSelect []) (codes "LIST") refl refl;
  names = λ user pattern. tt;
}

viewed_sound : (view : View) → OfViewed IsSoundCommand SoundNeed view
viewed_sound view = record {
  left = left_sound view;
  news = λ why. tt;
  close = tt;
  expunge = λ only. tt;
  store = λ by_uid set mode is_silent flags sound. sound;
  fetch = λ it. tt;
  search = λ it. tt;
}

need_sound : (setting : Setting) (session : Sess) (it : Command) → IsDate setting.date → IsSoundCommand it → SoundNeed (need_of setting session it)
need_sound setting session it date_is sound = each_need (begun_sound setting date_is) session (λ view is. viewed_sound view) it sound

-- what comes of it

worked_sound : (store : Store) (name : List ℕ) (work : Work) (serial : ℕ) → IsSoundStore store → SoundWork name work
    → SoundWorked name (worked_at store name work serial)
worked_sound store name work serial all sound = work_sound name work serial (is_full store) (box_at store name) sound (box_is store name all)

act_sound : (store : Store) (session : Sess) (serial : ℕ) (need : Needed) → IsSoundStore store → SoundNeed need
    → SoundReply (act_by store session serial need).reply
unfolding act_by IsSoundVerdict list_reply
act_sound store session serial (Refusal verdict) all sound = record { lines = All-nil IsSoundLine; verdict = sound }
act_sound store session serial (Turned turn) all sound = sound
act_sound store session serial (Mailbox name work) all sound = (worked_sound store name work serial all sound).reply
act_sound store session serial (Names it) all sound = record { lines = list_sound it (names_in store) all.names; verdict = refl }

act_kept : (store : Store) (session : Sess) (serial : ℕ) (need : Needed) → IsSoundStore store → SoundNeed need
    → IsSoundStore (act_by store session serial need).store
unfolding act_by
act_kept store session serial (Refusal verdict) all sound = all
act_kept store session serial (Turned turn) all sound = all
act_kept store session serial (Mailbox name work) all sound =
    store_is store name (worked_at store name work serial).left (worked_sound store name work serial all sound).left all
act_kept store session serial (Names it) all sound = all

sound_by : (tag : Tag) (reply : Reply) → IsSoundTag tag → SoundReply reply → IsReadAsMeant tag reply
sound_by tag reply tagged sound = read_as_meant tag reply (record { tag_is = tagged; lines = sound.lines; verdict = sound.verdict })

-- whatever a sound store is asked soundly, the answer is read as it was meant
pub answer_read : (setting : Setting) (store : Store) (session : Sess) (request : Request) (serial : ℕ) → IsDate setting.date → IsSoundStore store
    → IsSoundRequest request
    → IsAnswerReadAsMeant (answer_of setting store session request serial).answer
unfolding answer_of act_of IsSoundVerdict
answer_read setting store session (a_command tag it) serial date_is all sound =
    sound_by tag (act_by store session serial (need_of setting session it)).reply sound.0
    (act_sound store session serial (need_of setting session it) all (need_sound setting session it date_is sound.1))
answer_read setting store session (unknown tag) serial date_is all sound = sound_by tag _ sound (record { lines = All-nil IsSoundLine; verdict = tt })
answer_read setting store session (too_big tag) serial date_is all sound = sound_by tag _ sound (record { lines = All-nil IsSoundLine; verdict = tt })

-- and the store stays sound
pub answer_kept : (setting : Setting) (store : Store) (session : Sess) (request : Request) (serial : ℕ) → IsDate setting.date → IsSoundStore store
    → IsSoundRequest request
    → IsSoundStore (answer_of setting store session request serial).store
unfolding answer_of act_of
answer_kept setting store session (a_command tag it) serial date_is all sound =
    act_kept store session serial (need_of setting session it) all (need_sound setting session it date_is sound.1)
answer_kept setting store session (unknown tag) serial date_is all sound = all
answer_kept setting store session (too_big tag) serial date_is all sound = all

-- a refusal for a move or for a server
refusal_sound : (session : Sess) (it : Command) (why : NoText) → SoundReply (refused_for session it why).reply
unfolding refused_for IsSoundVerdict
refusal_sound (selected view) (command.Select text) why = record { lines = closed_sound true; verdict = tt }
refusal_sound (selected view) (command.Examine text) why = record { lines = closed_sound true; verdict = tt }
refusal_sound session it why = record { lines = All-nil IsSoundLine; verdict = tt }

refusal_read : (session : Sess) (tag : Tag) (it : Command) (why : NoText) → IsSoundTag tag
    → IsReadAsMeant tag (refused_for session it why).reply
refusal_read session tag it why tagged = sound_by tag (refused_for session it why).reply tagged (refusal_sound session it why)

abbrev pub HasSoundStore : Course → Type 0
HasSoundStore course = IsSoundStore course.store

-- so each answer of a legal history of sound requests is read as it was meant, where the store is sound at first
pub answers_read : (setting : Setting) → IsDate setting.date → Keeps setting IsSoundRequest HasSoundStore IsAnswerReadAsMeant
answers_read setting date_is = record {
  kept = λ course conn request serial all sound. answer_kept setting course.store (course.sessions conn) request serial date_is all sound;
  told = λ course conn request serial all sound. answer_read setting course.store (course.sessions conn) request serial date_is all sound;
  refused = λ course conn tag it why all sound. all;
  refusal = λ course conn tag it why all sound. refusal_read (course.sessions conn) tag it why sound.0;
}
