-- When a session ends with what is told (RFC 9051, 3.4 and 7.1.5).
use Rattle.std.specs.Prelude.{◌≡◌, Bool, true, false, Option, None, Some}
use Rattle.mur_model.specs.declared.session.Sess.{Sess}
use Rattle.mur_model.specs.declared.session.Sess.TheVariants.{Ended}
use Rattle.mur_model.specs.declared.session.Turn.{Turn}
use Rattle.imap_talk.specs.Transcript.{ends}

abbrev pub has_ended : Sess → Bool
has_ended Ended = true
has_ended session = false

-- the session behind a turn has ended, and was another before
abbrev pub ends_session : Option Sess → Bool
ends_session None = false
ends_session (Some later) = has_ended later

-- a turn's reply ends the connection exactly where the turn ends the session
abbrev pub TurnEnds : Turn → Type 0
TurnEnds turn = ends turn.reply ≡ ends_session turn.session
