-- The commands of a selected session (RFC 9051, 6.4): what is told when the home has answered. A mailbox that the home hasn't
-- any more, or that is another of its name, is gone.
use Rattle.std.specs.Prelude.{codes, Option, None, Some}
use Rattle.session_core.specs.declared.result.OpResult.{OpResult}
use Rattle.session_core.specs.declared.result.OpResult.TheVariants.{Done, Missing}
use Rattle.link_msg.specs.declared.outcome.Outcome.{Outcome}
use Rattle.link_msg.specs.declared.outcome.Outcome.TheVariants.{None as nothing, Messages, Summaries, Rows, Uids, Limit as full, Gone}
use Rattle.mail_message.specs.declared.message.Snapshot.{Snapshot}
use Rattle.mur_model.specs.declared.work.ViewWork.{ViewWork}
use Rattle.mur_model.specs.declared.work.ViewWork.TheVariants.{News, Close, Expunge, Store, Fetch, Search}
use Rattle.mur_model.specs.declared.session.Sess.{Sess}
use Rattle.mur_model.specs.declared.session.Sess.TheVariants.{Selected}
use Rattle.mur_model.specs.declared.session.Turn.{Turn}
use Rattle.mur_model.specs.declared.view.View.{View}
use Rattle.mur_model.specs.Close.{left_by}
use Rattle.mur_model.specs.Expunge.{expunge_told}
use Rattle.mur_model.specs.Fetch.{fetch_told}
use Rattle.mur_model.specs.FetchRows.{rows_told}
use Rattle.mur_model.specs.FetchSummaries.{summaries_told}
use Rattle.mur_model.specs.Search.{search_told}
use Rattle.mur_model.specs.SearchRows.{rows_searched}
use Rattle.mur_model.specs.Selected.{gone}
use Rattle.mur_model.specs.StoreFlags.{store_told, store_refused}
use Rattle.mur_model.specs.Noop.{news_told}

-- the outcomes that the operation of each command can have
unfoldable pub viewed_done : View → ViewWork → Outcome → Snapshot → Option Turn
viewed_done view (News why) nothing seen = Some (news_told view why seen.rows)
viewed_done view Close (Uids uids) seen = Some (left_by view (codes "CLOSE"))
viewed_done view (Expunge only) (Uids uids) seen = Some (expunge_told view only seen.rows)
viewed_done view (Store it) (Rows changes) seen = Some (store_told view it changes seen.rows)
viewed_done view (Store it) full seen = Some (store_refused view it seen.rows)
viewed_done view (Fetch it) nothing seen = Some (rows_told view it seen.rows)
viewed_done view (Fetch it) (Summaries summaries) seen = Some (summaries_told view it summaries seen.rows)
viewed_done view (Fetch it) (Messages before) seen = Some (fetch_told view it before seen.rows)
viewed_done view (Search it) nothing seen = Some (rows_searched view it seen.rows)
viewed_done view (Search it) (Summaries found) seen = Some (search_told view it found seen.rows)
viewed_done view work outcome seen = None

-- the home has no mailbox of the name with this UIDVALIDITY
unfoldable pub viewed_told : View → ViewWork → Outcome → Snapshot → Option Turn
viewed_told view work Gone seen = Some gone
viewed_told view work outcome seen = viewed_done view work outcome seen

unfoldable pub viewed_turn : View → ViewWork → OpResult → Option Turn
viewed_turn view work (Done outcome seen) = viewed_told view work outcome seen
viewed_turn view work Missing = Some gone

-- by the view that the session has now; one without a view awaits no such answer
unfoldable pub viewed_in : Sess → ViewWork → OpResult → Option Turn
viewed_in (Selected view) work body = viewed_turn view work body
viewed_in session work body = None
