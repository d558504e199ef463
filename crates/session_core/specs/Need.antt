-- A session behind what comes of a command, or of the home's answer to it, and what it needs of its frontend then (RFC 9051, 3.4).
use Rattle.std.specs.Prelude.{Option}
use Rattle.imap_types.specs.declared.reply.Reply.{Reply as ReplyOf}
use Rattle.mur_model.specs.declared.need.Begun.{Begun}
use Rattle.mur_model.specs.declared.need.Need.{Need}
use Rattle.mur_model.specs.declared.session.Sess.{Sess}
use Rattle.mur_model.specs.Act.{session_after}
use Rattle.mur_model.specs.Need.{begun_of, told_with}
use Rattle.mur_model.specs.Needed.{Needed}

pub record Behind : Type 0 where
  pub session : Sess
  pub need : Need

abbrev pub session_behind : Sess → Begun → Behind
session_behind session begun = record { session = session_after session begun.session; need = begun.need }

-- a reply, and the session behind it
abbrev pub told_reply : Sess → ReplyOf → Option Sess → Behind
told_reply session reply later = session_behind session (told_with reply later)

-- by what the command needs of the store
abbrev pub begun_by_need : Sess → Needed → Behind
begun_by_need session needed = session_behind session (begun_of needed)
