-- A view and its mailbox's rows side by side, both in rising order of UID. Where each row of the mailbox is one of the view or above them all, one walk finds
-- what News finds by look-ups, and the mailbox's rows are the view behind the news.
use Rattle.std.specs.Prelude.{ℕ, suc, ◌+◌, ◌-◌, ◌==◌, nat_lt, Bool, ◌&&◌, if◌then◌else◌, List, [], ◌∷◌, ◌++◌, length, Option, None, Some}
use Rattle.mail_message.specs.declared.message.Row.{Row}
use Rattle.imap_types.specs.declared.reply.ReplyLine.TheVariants.{Expunge}
use Rattle.mur_model.specs.declared.beside.Walked.{Walked}
use Rattle.mur_model.specs.declared.news.Told.{Told}
use Rattle.mur_model.specs.News.{changed_line, exists_lines, is_among}
use Rattle.mail_message.specs.SameFlags.{is_same_flags}

-- how many rows of a view the mailbox has first, with the flags that were told
abbrev pub same_until : List Row → List Row → ℕ
same_until [] now = 0
same_until (row ∷ rows) [] = 0
same_until (row ∷ rows) (it ∷ now) = if it.uid == row.uid && is_same_flags row.flags it.flags then suc (same_until rows now) else 0

-- a walk before its first row, or behind so many that are the same
abbrev pub from_place : ℕ → Walked
from_place place = record { gone = []; changed = []; kept = place }

-- the walk by a message more that is gone; it is named by its number after the earlier ones
abbrev pub one_gone : Walked → Walked
one_gone walked = record walked { gone = walked.gone ++ Expunge (walked.kept + 1) ∷ [] }

-- and by one that is there
abbrev pub one_kept : List ℕ → Row → Row → Walked → Walked
one_kept told row it walked = record {
  gone = walked.gone;
  changed = walked.changed ++ changed_line (is_among told row.uid) (walked.kept + 1) row (Some it);
  kept = walked.kept + 1;
}

-- the walk by all rows of a view, beside those of the mailbox; none where a message is gone that may not be told yet, or the mailbox has one between the view's
abbrev pub walked : Bool → List ℕ → Walked → List Row → List Row → Option Walked
walked expunges told done [] now = Some done
walked expunges told done (row ∷ rows) [] = if expunges then walked expunges told (one_gone done) rows [] else None
walked expunges told done (row ∷ rows) (it ∷ now) =
    if it.uid == row.uid
    then walked expunges told (one_kept told row it done) rows now
    else if expunges && nat_lt row.uid it.uid then walked expunges told (one_gone done) rows (it ∷ now) else None

-- the news of a walk
abbrev pub told_walked : Walked → List Row → Told
told_walked done now = record { lines = done.gone ++ (exists_lines done.kept (length now - done.kept) ++ done.changed); rows = now }
