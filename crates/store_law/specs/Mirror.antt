-- What a client knows of the mailbox that it has selected, by what it asked and by the lines that it was given: how many messages there are, and of the
-- message of each number what it was told last (RFC 9051, 2.3.1.2, 7.4.1, 7.5.1 and 7.5.2).
use Rattle.std.specs.Prelude.{◌≡◌, ℕ, zero, suc, ⊤, ◌+◌, ◌-◌, nat_eq, ◌==◌, Bool, true, false, ◌||◌, if◌then◌else◌, List, [], ◌∷◌, ◌++◌, length, replicate, Option, None, Some}
use Rattle.std.specs.Prelude.{codes, IfSome, All}
use Rattle.std.specs.List.{fold, starts_with}
use Rattle.mail_fetch.specs.FlagText.{flags_text}
use Rattle.mail_fetch.specs.Parts.{uid_text}
use Rattle.mail_message.specs.Sets.{set_at, set_holds}
use Rattle.mail_message.specs.declared.message.Row.{Row}
use Rattle.mail_message.specs.declared.set.SetPart.{SetPart}
use Rattle.mur_base.specs.declared.point.Point.{Point}
use Rattle.imap_types.specs.declared.command.Command.{Command}
use Rattle.imap_types.specs.declared.command.Command.TheVariants as command
use Rattle.imap_types.specs.declared.reply.ReplyLine.{ReplyLine}
use Rattle.imap_types.specs.declared.reply.ReplyLine.TheVariants.{Exists, Expunge, Fetch}
use Rattle.imap_types.specs.declared.request.Answer.{Answer}
use Rattle.imap_types.specs.declared.request.Request.{Request}
use Rattle.imap_types.specs.declared.request.Request.TheVariants as request
use Rattle.mur_model.specs.ClientView.{without_number}
use Rattle.mur_model.specs.History.{Course, Talk, loses}
use Rattle.mur_model.specs.declared.session.Sess.{Sess}
use Rattle.mur_model.specs.declared.session.Sess.TheVariants.{Selected as selected}

-- a message as a client was told of it: its UID and its flags, each as the text that said so; and the UIDs, one of which may be its own, that silent
-- STOREs have named since its flags were told
pub record Seen : Type 0 where
  pub uid : Option (List ℕ)
  pub flags : Option (List ℕ)
  pub silenced : ℕ → Bool

abbrev pub no_uid : ℕ → Bool
no_uid uid = false

abbrev pub unseen : Seen
unseen = record { uid = None; flags = None; silenced = no_uid }

-- the messages by their numbers, of which the first is 1
abbrev pub Mirror : Type 0
Mirror = List Seen

-- a part of a FETCH line tells a UID, flags, or neither (RFC 9051, 7.5.2)
abbrev pub seen_by : Seen → List ℕ → Seen
seen_by seen part =
    if starts_with nat_eq part (codes "UID ") then record seen { uid = Some part }
    else if starts_with nat_eq part (codes "FLAGS ") then record seen { flags = Some part; silenced = no_uid } else seen

-- the one of this number becomes another
unfoldable pub at_number : {A : Type 0} → (A → A) → ℕ → List A → List A
at_number become number [] = []
at_number become zero items = items
at_number become (suc zero) (item ∷ items) = become item ∷ items
at_number become (suc (suc n)) (item ∷ items) = item ∷ at_number become (suc n) items

-- EXISTS adds messages of which nothing is known yet, EXPUNGE takes the one of its number away, and FETCH tells of the one of its number
unfoldable pub read_line : Mirror → ReplyLine → Mirror
read_line mirror (Exists count) = mirror ++ replicate (count - length mirror) unseen
read_line mirror (Expunge number) = without_number number mirror
read_line mirror (Fetch number parts) = at_number (λ seen. fold seen_by seen parts) number mirror
read_line mirror line = mirror

abbrev pub read_lines : Mirror → List ReplyLine → Mirror
read_lines mirror lines = fold read_line mirror lines

-- Whether a STORE names the message of a number, among so many, if this is its UID (RFC 9051, 9: sequence-set). `*` is the last message. UIDs rise with
-- the numbers (RFC 9051, 2.3.1.1), so any other message has a lower one than that: for it `*` is as good as the next UID.
unfoldable pub names : Bool → List SetPart → ℕ → ℕ → ℕ → Bool
names false set count number uid = set_holds (set_at count set) number
names true set count number uid = set_holds (set_at (if number == count then uid else uid + 1) set) uid

abbrev pub silenced_by : (ℕ → Bool) → Seen → Seen
silenced_by is_named seen = record seen { silenced = λ uid. seen.silenced uid || is_named uid }

-- a silent STORE names messages by number and UID; the first here has this number
unfoldable pub with_silent : (ℕ → ℕ → Bool) → ℕ → Mirror → Mirror
with_silent is_named number [] = []
with_silent is_named number (seen ∷ mirror) = silenced_by (is_named number) seen ∷ with_silent is_named (number + 1) mirror

-- A SELECT or an EXAMINE begins anew, whatever comes of it (RFC 9051, 6.3.2); a STORE that is silent tells no flags (RFC 9051, 6.4.6).
unfoldable pub asked : Mirror → Command → Mirror
asked mirror (command.Select text) = []
asked mirror (command.Examine text) = []
asked mirror (command.Store by_uid set mode true flags) = with_silent (names by_uid set (length mirror)) 1 mirror
asked mirror it = mirror

unfoldable pub asked_by : Mirror → Request → Mirror
asked_by mirror (request.Command tag it) = asked mirror it
asked_by mirror it = mirror

-- what is known behind answers to requests
unfoldable pub mirror_of : Mirror → List Request → List Answer → Mirror
mirror_of mirror (it ∷ requests) (answer ∷ answers) = mirror_of (read_lines (asked_by mirror it) answer.reply.lines) requests answers
mirror_of mirror requests answers = mirror

-- ---- that it is so

-- what was told of a message is so of a row; its flags, unless a silent STORE has named it since
abbrev pub IsSeenOf : Seen → Row → Type 0
IsSeenOf seen row =
    IfSome seen.uid (λ text. text ≡ uid_text row.uid) × IfSome seen.flags (λ text. seen.silenced row.uid ≡ false → text ≡ flags_text row.flags)

-- as many messages as there are rows, and what was told of each is so of the row in its place
unfoldable pub Mirrors : Mirror → List Row → Type 0
Mirrors [] [] = ⊤
Mirrors (seen ∷ mirror) (row ∷ rows) = IsSeenOf seen row × Mirrors mirror rows
Mirrors mirror rows = ⊥

-- where a mailbox is selected, this is so of the rows of its view
unfoldable pub OfView : (Mirror → List Row → Type 0) → Mirror → Sess → Type 0
OfView R mirror (selected view) = R mirror view.rows
OfView R mirror session = ⊤

abbrev pub IsCounted : Mirror → List Row → Type 0
IsCounted mirror rows = length mirror ≡ length rows

-- no command of the connection was lost: behind a loss its client is given no more lines
abbrev pub LosesNoneOf : ℕ → List Point → Type 0
LosesNoneOf conn points = All (λ (point : Point). point.ask.conn ≡ conn → loses point.what ≡ false) points

-- along each connection, from its first answer on
pub record ViewsAreTold (talk : Talk) (points : List Point) (last : Course) : Type 0 where
  -- a client that counts the messages of its mailbox by EXISTS and EXPUNGE has as many as the view of its session
  pub counted : (conn : ℕ) → LosesNoneOf conn points
      → OfView IsCounted (mirror_of [] (talk.requests conn) (talk.answers conn)) (last.sessions conn)
  -- and of each message whose UID or flags it was told, those told last are those of the view's row in its place; but the flags of one that a
  -- silent STORE has named since may be others
  pub told : (conn : ℕ) → LosesNoneOf conn points → OfView Mirrors (mirror_of [] (talk.requests conn) (talk.answers conn)) (last.sessions conn)
