-- The master's OK comes for the command that waits for it: its client is told of the store's reply or of a refusal, or a server is asked.
use Rattle.std.proofs.Common.{◌≡◌, ℕ, ◌+◌, true, nat_eq, List, Option, refl, sym, ◌∙◌, ap, subst, arith}
use Rattle.std.proofs.lemmas.Bool.Decides.{nat_tests}
use Rattle.ask_routes.specs.declared.next.Why.{Why}
use Rattle.asking_core.specs.Answered.{WentOn}
use Rattle.asking_core.specs.Cleared.{cleared}
use Rattle.asking_core.specs.declared.waiting.At.{At}
use Rattle.asking_core.specs.declared.waiting.At.TheVariants.{Home, Barrier as at_master}
use Rattle.asking_core.specs.declared.waiting.Waiting.{Waiting as WaitingFor}
use Rattle.feed_core.specs.declared.replica.Replica.{Replica}
use Rattle.feed_links.specs.Replicas.{replica_of}
use Rattle.front_core.specs.declared.connection.Connection.{Connection}
use Rattle.front_core.specs.declared.connection.Stage.TheVariants.{Waits}
use Rattle.front_core.specs.Answered.{clears_at, goes_on_by, ok_by, ok_comes}
use Rattle.front_core.specs.Taken.{Turned, Ways, next_of}
use Rattle.imap_talk.specs.Inputs.{requests_in}
use Rattle.imap_talk.specs.declared.inputs.Input.{Input}
use Rattle.imap_types.specs.declared.command.Tag.{Tag}
use Rattle.mark_history.specs.Marked.{Tale}
use Rattle.mur_base.specs.declared.point.AskId.{AskId}
use Rattle.mur_model.specs.declared.setting.Setting.{Setting}
use Rattle.node_record.specs.Table.{MailboxTable}
use Rattle.point_links.specs.Barriers.{decided}
use Rattle.point_links.specs.Commands.{ClientCommand}
use Rattle.route_links.specs.Barriers.{Place as barrier}
use Rattle.front_core.specs.Ups.{Ups}
use Rattle.cluster_core.specs.declared.world.World.{World}
use Rattle.cluster_core.specs.World.{home_at}
use Rattle.cluster_core.proofs.Commands.Knows.{GoesOnAtOk, Knows}
use Rattle.cluster_core.proofs.Commands.Moving.{IsSeenBy}
use Rattle.cluster_core.proofs.Commands.Knows.GoesOnAtOk.{asks_on, is_refused}
use Rattle.cluster_core.proofs.Commands.Knows.Knows.{is_decided, undecided}
use Rattle.cluster_core.proofs.Commands.Place.{Place, Place as place}
use Rattle.cluster_core.proofs.Commands.Standing.{Fixed, WaitsAt, next_id}
use Rattle.cluster_core.proofs.Connections.FrameLaw.{ways_for}
use Rattle.cluster_core.proofs.Answers.GoesOn.{MaySend, StandsSo, on_stands, refused_stands, told_stands, turned_by}
use Rattle.cluster_core.proofs.Answers.Replied.{InputsCome, IsHeard}
use Rattle.cluster_core.proofs.Answers.WaitsOn.{AsksBackend}

-- what waits at the barrier waits for the master's OK
record AtBarrier (at : At) : Type 0 where
  cause : Why
  is : at ≡ at_master cause

at_barrier : (at : At) (table : MailboxTable) → WaitsAt at (place.is_barred (barrier.answered table)) → AtBarrier at
at_barrier (Home server) table waits = absurd waits
at_barrier (at_master cause) table waits = record { cause = cause; is = refl }

-- ---- the OK fits the command

fits_at : (setting : Setting) (ways : Ways) (conn : ℕ) (connection : Connection) (tag : Tag) (it : WaitingFor) (at : At) (cause : Why) → at ≡ at_master cause
    → clears_at setting ways conn connection tag it at
    ≡ goes_on_by setting ways conn connection tag (cleared ways.recs ways.master ways.first (next_of conn connection) connection.session it cause)
fits_at setting ways conn connection tag it at cause e = ap (clears_at setting ways conn connection tag it) e

pub fits_ok : (setting : Setting) (ways : Ways) (conn : ℕ) (connection : Connection) (tag : Tag) (it : WaitingFor) (id : AskId) (cause : Why)
    → id.command ≡ connection.answered + 1 → connection.stage ≡ Waits tag it → it.at ≡ at_master cause
    → ok_comes setting ways conn connection id
    ≡ goes_on_by setting ways conn connection tag (cleared ways.recs ways.master ways.first (next_of conn connection) connection.session it cause)
unfolding ok_comes ok_by
fits_ok setting ways conn connection tag it id cause number stage at =
    let same : nat_eq id.command (connection.answered + 1) ≡ true = grind (arith, nat_tests) in
    ap (λ b. ok_by setting ways conn connection b connection.stage) same ∙ ap (ok_by setting ways conn connection true) stage
    ∙ fits_at setting ways conn connection tag it it.at cause at

-- what is asked behind the OK is a backend
abbrev pub ClearsToBackend : Fixed → Replica → World → ClientCommand → Type 0
ClearsToBackend fixed replica world c = (cause : Why) → (c.waiting).at ≡ at_master cause
    → AsksBackend (home_at world) ((cleared replica.records fixed.master fixed.first c.id c.was c.waiting cause).waiting).at

module _ (fixed : Fixed) (front : List ℕ) (ups : Ups) (replica : Replica) (conn : ℕ) (inputs : List Input) (held : Option (List ℕ)) (connection : Connection)
    (world : World) (story : Tale) (table : MailboxTable)
    (heard : IsHeard fixed front replica conn inputs held connection world story (place.is_barred (barrier.answered table))) where
  abbrev c : ClientCommand
  c = (heard.waiting).c

  abbrev here : Place
  here = place.is_barred (barrier.answered table)

  -- what comes of it
  abbrev next : Why → WentOn
  next cause = cleared replica.records fixed.master fixed.first c.id c.was c.waiting cause

  next_is : next_of conn connection ≡ c.id
  next_is = ap (λ n. record { conn = conn; command = n + 1 }) heard.count ∙ sym ((heard.waiting).of).its

  turns_so : (cause : Why) → (c.waiting).at ≡ at_master cause
      → ok_comes fixed.setting (ways_for fixed ups replica) conn connection c.id
      ≡ turned_by fixed front ups replica conn inputs held connection world story here heard (next cause)
  turns_so cause at =
      fits_ok fixed.setting (ways_for fixed ups replica) conn connection (heard.waiting).tag c.waiting c.id cause
      (ap (λ (i : AskId). i.command) (sym next_is)) (heard.waiting).stage at
      ∙ ap (λ i. goes_on_by fixed.setting (ways_for fixed ups replica) conn connection (heard.waiting).tag
      (cleared replica.records fixed.master fixed.first i connection.session c.waiting cause)) next_is
      ∙ ap (λ s. goes_on_by fixed.setting (ways_for fixed ups replica) conn connection (heard.waiting).tag
      (cleared replica.records fixed.master fixed.first c.id s c.waiting cause)) (sym ((heard.waiting).of).was_is)

  module _ (come : InputsCome fixed front ups replica conn inputs held world story) (may : MaySend fixed front ups conn world story)
      (requests : story.talk.requests conn ≡ requests_in inputs)
      (seen : IsSeenBy story.talk.moving world.marks (next_id conn (story.told conn)) table)
      (has_all : replica ≡ replica_of table) (backends : ClearsToBackend fixed replica world c) where
    -- what it is by the table is what it is by the replica
    by_table : (cause : Why) → next cause ≡ decided table fixed.master fixed.first c cause
    by_table cause = ap (λ (r : Replica). cleared r.records fixed.master fixed.first c.id c.was c.waiting cause) has_all

    by_ok : (cause : Why) → (c.waiting).at ≡ at_master cause → story.talk.answers conn ≡ story.told conn → c.was ≡ story.course.sessions conn
        → GoesOnAtOk table fixed.master c (next cause)
        → StandsSo fixed front replica conn inputs held world story
        (turned_by fixed front ups replica conn inputs held connection world story here heard (next cause))
    by_ok cause at said was (is_refused is reserved) =
        refused_stands fixed front ups replica conn inputs held connection world story here heard come (next cause) is requests said was table seen reserved
    by_ok cause at said was (asks_on on) =
        on_stands fixed front ups replica conn inputs held connection world story here heard come requests may (next cause) on (backends cause at) said was

    by_knows : (cause : Why) → (c.waiting).at ≡ at_master cause
        → Knows fixed.master fixed.first front c (heard.waiting).tag (story.told conn) (story.talk.answers conn) (story.course.sessions conn) here
        → StandsSo fixed front replica conn inputs held world story (ok_comes fixed.setting (ways_for fixed ups replica) conn connection c.id)
    by_knows cause at (undecided said was tells) =
        subst (λ (t : Turned). StandsSo fixed front replica conn inputs held world story t) (sym (turns_so cause at))
        (by_ok cause at said was (subst (GoesOnAtOk table fixed.master c) (sym (by_table cause)) (tells (c.waiting).at cause)))
    by_knows cause at (is_decided turn said session both brings) =
        subst (λ (t : Turned). StandsSo fixed front replica conn inputs held world story t) (sym (turns_so cause at))
        (told_stands fixed front ups replica conn inputs held connection world story here heard come turn (next cause)
        (by_table cause ∙ brings (c.waiting).at cause) said session both)

    -- WHAT THE OK MAKES OF THE CONNECTION
    pub ok_turns : StandsSo fixed front replica conn inputs held world story (ok_comes fixed.setting (ways_for fixed ups replica) conn connection c.id)
    ok_turns =
        let at = at_barrier (c.waiting).at table (heard.waiting).at in
        by_knows at.cause at.is (heard.waiting).knows
