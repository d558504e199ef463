-- The master's OK comes for a LIST that waits for it: its client is told the store's reply, and the inputs that waited come.
use Rattle.std.proofs.Common.{◌≡◌, ◌≢◌, ℕ, ◌+◌, true, nat_eq, List, [], ◌∷◌, ◌++◌, Option, sym, ◌∙◌, ap, subst, arith}
use Rattle.std.proofs.lemmas.Bool.Decides.{nat_tests}
use Rattle.feed_core.specs.Listing.{mailbox_names}
use Rattle.feed_core.specs.declared.replica.Replica.{Replica}
use Rattle.feed_links.specs.Replicas.{recs_of, replica_of}
use Rattle.front_core.specs.declared.connection.Connection.{Connection}
use Rattle.front_core.specs.declared.connection.Stage.TheVariants.{Lists as lists_names, Ended}
use Rattle.front_core.specs.Answered.{lists_at, ok_by, ok_comes, reads_on}
use Rattle.front_core.specs.Taken.{Turned, Ways}
use Rattle.imap_reply.specs.ReplyText.{reply_text}
use Rattle.imap_talk.proofs.AnswersEnd.{list_ends}
use Rattle.imap_talk.specs.declared.inputs.Input.{Input}
use Rattle.imap_types.specs.declared.command.Tag.{Tag}
use Rattle.imap_types.specs.declared.request.Answer.{Answer}
use Rattle.link_msg.specs.declared.how.How.TheVariants.{Behind}
use Rattle.mark_history.specs.Marked.{Tale}
use Rattle.mur_base.specs.declared.point.AskId.{AskId}
use Rattle.mur_model.specs.Listing.{list_reply}
use Rattle.mur_model.specs.declared.commands.list.Listing.{Listing}
use Rattle.mur_model.specs.declared.session.Sess.{Sess}
use Rattle.mur_model.specs.declared.setting.Setting.{Setting}
use Rattle.node_record.specs.Table.{MailboxTable}
use Rattle.route_links.specs.Barriers.{Place as barrier}
use Rattle.front_core.specs.Ups.{Ups}
use Rattle.cluster_core.specs.declared.world.World.{World}
use Rattle.cluster_core.proofs.Commands.Knows.{KnowsNames, listed_by}
use Rattle.cluster_core.proofs.Commands.Knows.KnowsNames.{is_gone, is_listed, not_yet}
use Rattle.cluster_core.proofs.Commands.Place.{Place as place}
use Rattle.cluster_core.proofs.Commands.Standing.{Fixed, Lists, next_id}
use Rattle.cluster_core.proofs.Connections.FrameLaw.{ways_for}
use Rattle.cluster_core.proofs.Answers.GoesOn.{StandsSo}
use Rattle.cluster_core.proofs.Answers.Replied.{InputsCome, IsHeardFor, read_stands}
use Rattle.cluster_core.proofs.Answers.Tells.{IsTold, behind_told}

-- ---- the OK fits the command

fits_list : (setting : Setting) (ways : Ways) (conn : ℕ) (connection : Connection) (tag : Tag) (it : Listing) (id : AskId)
    → id.command ≡ connection.answered + 1 → connection.stage ≡ lists_names tag it
    → ok_comes setting ways conn connection id ≡ lists_at setting ways conn connection tag it
unfolding ok_comes ok_by
fits_list setting ways conn connection tag it id number stage =
    let same : nat_eq id.command (connection.answered + 1) ≡ true = grind (arith, nat_tests) in
    ap (λ b. ok_by setting ways conn connection b connection.stage) same ∙ ap (ok_by setting ways conn connection true) stage

-- it hasn't ended
pub lists_live : (connection : Connection) (tag : Tag) (it : Listing) → connection.stage ≡ lists_names tag it → connection.stage ≢ Ended
lists_live connection tag it stage ended = let no : lists_names tag it ≡ Ended = sym stage ∙ ended in cc

-- ---- what the store replied

same_barrier : (one other : MailboxTable) → place.is_barred (barrier.answered one) ≡ place.is_barred (barrier.answered other) → one ≡ other
same_barrier one other e = cc

not_asked : (table : MailboxTable) → place.is_barred (barrier.answered table) ≡ place.is_barred barrier.asked → ⊥
not_asked table e = cc

not_gone : (table : MailboxTable) → place.is_barred (barrier.answered table) ≡ place.is_barred barrier.nowhere → ⊥
not_gone table e = cc

record IsSaid (tag : Tag) (it : Listing) (was : Sess) (told said : List Answer) (session : Sess) (table : MailboxTable) : Type 0 where
  said_is : said ≡ told ++ listed_by tag it table ∷ []
  stays : was ≡ session

said_so : (tag : Tag) (it : Listing) (was : Sess) (told said : List Answer) (session : Sess) (table : MailboxTable)
    → KnowsNames tag it was told said session (place.is_barred (barrier.answered table)) → IsSaid tag it was told said session table
said_so tag it was told said session table (not_yet same stays at) = absurd (not_asked table at)
said_so tag it was told said session table (is_gone same stays at) = absurd (not_gone table at)
said_so tag it was told said session table (is_listed other more stays at) =
    record { said_is = more ∙ ap (λ t. told ++ listed_by tag it t ∷ []) (sym (same_barrier table other at)); stays = stays }

-- WHAT THE OK MAKES OF THE CONNECTION
pub listed_turns : (fixed : Fixed) (front : List ℕ) (ups : Ups) (replica : Replica) (conn : ℕ) (inputs : List Input) (held : Option (List ℕ)) (connection : Connection)
    (world : World) (story : Tale) (table : MailboxTable)
    (it : Lists fixed inputs held connection (story.told conn) (story.talk.answers conn) (story.course.sessions conn)
    (place.is_barred (barrier.answered table)))
    → IsHeardFor fixed front replica conn inputs held connection world story it.tag it.it → InputsCome fixed front ups replica conn inputs held world story
    → replica ≡ replica_of table
    → StandsSo fixed front replica conn inputs held world story
    (ok_comes fixed.setting (ways_for fixed ups replica) conn connection (next_id conn (story.told conn)))
listed_turns fixed front ups replica conn inputs held connection world story table it heard come has_all =
    let answer : Answer = listed_by it.tag it.listing table in
    let said = said_so it.tag it.listing connection.session (story.told conn) (story.talk.answers conn) (story.course.sessions conn) table it.knows in
    let told : IsTold fixed.setting world story conn Behind answer connection.session =
    subst (λ (s : Sess). IsTold fixed.setting world story conn Behind answer s) (sym said.stays)
    (behind_told fixed.setting world story conn answer heard.is_told said.said_is) in
    subst (λ (t : Turned). StandsSo fixed front replica conn inputs held world story t)
    (sym (fits_list fixed.setting (ways_for fixed ups replica) conn connection it.tag it.listing (next_id conn (story.told conn)) (ap (λ n. n + 1) (sym heard.count)) it.stage
    ∙ ap (λ (r : Replica). reads_on fixed.setting (ways_for fixed ups replica) conn connection Behind
    (reply_text it.tag (list_reply it.listing (mailbox_names r.records)))) has_all))
    (read_stands fixed front ups replica conn inputs held connection world story it.tag it.it heard Behind (list_reply it.listing (mailbox_names (recs_of table)))
    connection.session told it.lasts (list_ends it.listing (mailbox_names (recs_of table))) come)
