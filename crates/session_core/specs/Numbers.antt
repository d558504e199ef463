-- The numbers that a client can derive from the lines that it is given are those of its session's view, at every moment (RFC 9051, 2.3.1.2 and 7.5.1): so
-- a message sequence number means the same message at both ends.
use Rattle.std.specs.Prelude.{◌≡◌, ⊤, false, List, [], ◌∷◌}
use Rattle.mur_model.specs.declared.work.ViewWork.TheVariants as work
use Rattle.imap_types.specs.declared.reply.ReplyLine.{ReplyLine}
use Rattle.imap_types.specs.declared.reply.ReplyLine.TheVariants.{Expunge}
use Rattle.mur_model.specs.declared.session.Sess.{Sess}
use Rattle.mur_model.specs.declared.session.Sess.TheVariants.{Selected}
use Rattle.mur_model.specs.ClientView.{Agrees, Known, known_after_all, uids}
use Rattle.mur_model.specs.declared.need.Awaited.{Awaited}
use Rattle.mur_model.specs.declared.need.Awaited.TheVariants.{Select, Viewed}
use Rattle.mur_model.specs.declared.need.Need.{Need}
use Rattle.mur_model.specs.declared.need.Need.TheVariants.{Reply, Leave, Home, Names}

-- where a mailbox is selected, its client knows the numbers of the view
unfoldable pub Knows : Known → Sess → Type 0
Knows known (Selected view) = Agrees known (uids view.rows)
Knows known session = ⊤

-- and still does behind the reply that is needed
unfoldable pub KnowsBehind : Known → Sess → Need → Type 0
KnowsBehind known session (Reply reply) = Knows (known_after_all known reply.lines) session
KnowsBehind known session (Leave reply) = Knows (known_after_all known reply.lines) session
KnowsBehind known session (Home name asking) = Knows known session
KnowsBehind known session (Names it) = Knows known session

-- of a mailbox that is selected nothing is known before (RFC 9051, 6.3.2)
unfoldable pub known_before : Awaited → Known → Known
known_before (Select name it) known = []
known_before awaited known = known

unfoldable pub HasNoExpunge : List ReplyLine → Type 0
HasNoExpunge [] = ⊤
HasNoExpunge (Expunge number ∷ lines) = ⊥
HasNoExpunge (line ∷ lines) = HasNoExpunge lines

unfoldable pub TellsNoExpunge : Need → Type 0
TellsNoExpunge (Reply reply) = HasNoExpunge reply.lines
TellsNoExpunge (Leave reply) = HasNoExpunge reply.lines
TellsNoExpunge (Home name asking) = ⊤
TellsNoExpunge (Names it) = ⊤

-- a FETCH, a STORE or a SEARCH by numbers, which may not change while it is answered (RFC 9051, 7.5.1)
unfoldable pub IsByNumbers : Awaited → Type 0
IsByNumbers (Viewed (work.Fetch it)) = it.by_uid ≡ false
IsByNumbers (Viewed (work.Store it)) = it.by_uid ≡ false
IsByNumbers (Viewed (work.Search it)) = it.by_uid ≡ false
IsByNumbers awaited = ⊥
