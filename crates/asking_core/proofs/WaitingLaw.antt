-- What goes out for a command that waits, what refuses it, and that the master isn't asked twice.
use Rattle.std.proofs.Common.{◌≡◌, ℕ, List, Option, None, Some, refl, sym, subst}
use Rattle.feed_core.specs.Feed.{Recs}
use Rattle.feed_core.specs.Routes.{server_at}
use Rattle.imap_types.specs.declared.op.Op.{Op}
use Rattle.imap_types.specs.declared.reply.Reply.{Reply}
use Rattle.imap_types.specs.declared.op.Op.TheVariants as op
use Rattle.link_msg.specs.declared.answer.AnswerBody.TheVariants as answer
use Rattle.mur_base.specs.declared.point.AskId.{AskId}
use Rattle.mur_base.specs.declared.point.What.{What}
use Rattle.mur_base.specs.declared.point.What.TheVariants.{Reserved}
use Rattle.mur_model.specs.declared.need.Need.{Need}
use Rattle.mur_model.specs.declared.session.Sess.{Sess}
use Rattle.session_core.specs.declared.result.OpResult.{OpResult}
use Rattle.session_core.specs.declared.result.OpResult.TheVariants.{Done, Missing}
use Rattle.session_core.specs.Finish.{finish}
use Rattle.ask_routes.specs.declared.ask_for.AskFor.{AskFor}
use Rattle.ask_routes.specs.declared.next.Next.{Next}
use Rattle.ask_routes.specs.declared.next.Next.TheVariants as next
use Rattle.ask_routes.specs.declared.next.Why.{Why}
use Rattle.ask_routes.specs.declared.next.Why.TheVariants as why
use Rattle.ask_routes.specs.Ways.{ask_for, behind_ok, first_step, mailbox_first}
use Rattle.ask_routes.specs.WayLaws.{IsBehind}
use Rattle.ask_routes.proofs.WayLaw.{each_behind}
use Rattle.asking_core.specs.declared.then.Then.TheVariants as then
use Rattle.asking_core.specs.declared.waiting.At.TheVariants.{Home, Barrier}
use Rattle.asking_core.specs.declared.waiting.Sent.{Sent}
use Rattle.asking_core.specs.declared.waiting.Waiting.{Waiting}
use Rattle.asking_core.specs.Begins.{asks_master, asks_server, first_by, first_sent}
use Rattle.asking_core.specs.Answered.{answered, goes_on, needs_by, sends, told}
use Rattle.asking_core.specs.Cleared.{cleared}
use Rattle.asking_core.specs.Laws.{AsksOn, BeginsAsDecided, BeginsToAsk, IsHeldBack, AsksTheSame, ClearedAsksTheSame, RefusedByAnswer, RefusedBehindOk}
use Rattle.asking_core.specs.Laws.{ClearedOnce}

-- ---- what goes out

server_asked : (master : List ℕ) (id : AskId) (session : Sess) (it : Waiting) (server : List ℕ)
    → AsksOn master id session it (asks_server id session it server).waiting (asks_server id session it server).sent
server_asked master id session it server = record { name_is = refl; asking_is = refl; fits = (refl, refl) }

master_asked : (master : List ℕ) (id : AskId) (session : Sess) (it : Waiting) (cause : Why)
    → AsksOn master id session it (asks_master master id it cause).waiting (asks_master master id it cause).sent
master_asked master id session it cause = record { name_is = refl; asking_is = refl; fits = (refl, refl) }

first_asks : (master : List ℕ) (id : AskId) (session : Sess) (it : Waiting) (found : Next)
    → AsksOn master id session it (first_by master id session it found).waiting (first_by master id session it found).sent
first_asks master id session it (next.Ask server) = server_asked master id session it server
first_asks master id session it (next.Barrier cause) = master_asked master id session it cause
first_asks master id session it next.Missing = master_asked master id session it why.Missing
first_asks master id session it next.Refused = master_asked master id session it why.Missing

pub begins_to_ask : BeginsToAsk
unfolding first_sent
begins_to_ask recs master first id session it = first_asks master id session it (first_step recs first (ask_for it.name it.asking.op))

-- a server or the master is asked, and nothing else is decided first
abbrev IsDecided : List ℕ → AskId → Sess → Waiting → Next → Type 0
IsDecided master id session it found = sends session (first_by master id session it found) ≡ goes_on master id session it found

mailbox_decided : (master : List ℕ) (id : AskId) (session : Sess) (it : Waiting) (server : Option (List ℕ))
    → IsDecided master id session it (mailbox_first server)
mailbox_decided master id session it None = refl
mailbox_decided master id session it (Some server) = refl

decided_for : (recs : Recs) (master first : List ℕ) (id : AskId) (session : Sess) (it : Waiting) (name : List ℕ) (asks : Op)
    → IsDecided master id session it (first_step recs first (ask_for name asks))
decided_for recs master first id session it name op.Create = refl
decided_for recs master first id session it name op.Look = mailbox_decided master id session it (server_at recs name)
decided_for recs master first id session it name (op.Read uids sees) = mailbox_decided master id session it (server_at recs name)
decided_for recs master first id session it name (op.Summaries uids) = mailbox_decided master id session it (server_at recs name)
decided_for recs master first id session it name (op.Flags uids mode flags) = mailbox_decided master id session it (server_at recs name)
decided_for recs master first id session it name (op.Expunge only) = mailbox_decided master id session it (server_at recs name)
decided_for recs master first id session it name (op.Append messages) = mailbox_decided master id session it (server_at recs name)
decided_for recs master first id session it name op.Delete = mailbox_decided master id session it (server_at recs name)
decided_for recs master first id session it name (op.Xfer server partition) = mailbox_decided master id session it (server_at recs name)

pub begins_as_decided : BeginsAsDecided
unfolding first_sent
begins_as_decided recs master first id session it = decided_for recs master first id session it it.name it.asking.op

-- ---- what comes of an answer

by_need : (master : List ℕ) (id : AskId) (session : Sess) (it : Waiting) (later : Sess) (need : Option Need)
    → IsHeldBack master id session it (record { session = later; waiting = it; then = needs_by need }) (needs_by need)
by_need master id session it later None = refl
by_need master id session it later (Some need) = tt

told_held : (master : List ℕ) (id : AskId) (session : Sess) (it : Waiting) (result : OpResult)
    → IsHeldBack master id session it (told session it result) (told session it result).then
told_held master id session it result =
    by_need master id session it (finish session it.asking.awaited result).session (finish session it.asking.awaited result).need

next_held : (master : List ℕ) (id : AskId) (session : Sess) (it : Waiting) (found : Next)
    → IsHeldBack master id session it (goes_on master id session it found) (goes_on master id session it found).then
next_held master id session it (next.Ask server) = (refl, server_asked master id session it server)
next_held master id session it (next.Barrier cause) = (refl, master_asked master id session it cause)
next_held master id session it next.Missing = told_held master id session it Missing
next_held master id session it next.Refused = tt

pub asks_the_same : AsksTheSame
unfolding answered
asks_the_same master id session it (answer.Done outcome seen) = told_held master id session it (Done outcome seen)
asks_the_same master id session it answer.NotNow = next_held master id session it (next.Barrier why.NotNow)
asks_the_same master id session it (answer.Moved server) = next_held master id session it (next.Ask server)
asks_the_same master id session it (answer.Unreached node) = tt
asks_the_same master id session it answer.Lost = refl

pub cleared_asks_the_same : ClearedAsksTheSame
unfolding cleared
cleared_asks_the_same recs master first id session it cause = next_held master id session it (behind_ok recs first (ask_for it.name it.asking.op) cause)

-- ---- refusals

need_never_refuses : (found : Option Need) (cause : What) (reply : Reply) → needs_by found ≡ then.Refused cause reply → ⊥
need_never_refuses None cause reply e = cc
need_never_refuses (Some found) cause reply e = cc

same_cause : {one other : What} {first second : Reply} → then.Refused one first ≡ then.Refused other second → one ≡ other
same_cause e = cc

pub refused_by_answer : RefusedByAnswer
unfolding answered
refused_by_answer master id session it (answer.Done outcome seen) cause reply e =
    absurd (need_never_refuses (finish session it.asking.awaited (Done outcome seen)).need cause reply e)
refused_by_answer master id session it answer.NotNow cause reply e = absurd (let no : ⊥ = cc in no)
refused_by_answer master id session it (answer.Moved server) cause reply e = absurd (let no : ⊥ = cc in no)
refused_by_answer master id session it (answer.Unreached node) cause reply e = (node, refl, sym (same_cause e))
refused_by_answer master id session it answer.Lost cause reply e = absurd (let no : ⊥ = cc in no)

next_refuses : (master : List ℕ) (id : AskId) (session : Sess) (it : Waiting) (found : Next) (cause : What) (reply : Reply)
    → (goes_on master id session it found).then ≡ then.Refused cause reply → (cause ≡ Reserved) × (found ≡ next.Refused)
next_refuses master id session it (next.Ask server) cause reply e = absurd (let no : ⊥ = cc in no)
next_refuses master id session it (next.Barrier reason) cause reply e = absurd (let no : ⊥ = cc in no)
next_refuses master id session it next.Missing cause reply e = absurd (need_never_refuses (finish session it.asking.awaited Missing).need cause reply e)
next_refuses master id session it next.Refused cause reply e = (sym (same_cause e), refl)

pub refused_behind_ok : RefusedBehindOk
unfolding cleared
refused_behind_ok recs master first id session it reason cause reply e =
    next_refuses master id session it (behind_ok recs first (ask_for it.name it.asking.op) reason) cause reply e

-- ---- no round of NOOPs

need_never_sends : (found : Option Need) (sent : Sent) → needs_by found ≡ then.Sends sent → ⊥
need_never_sends None sent e = cc
need_never_sends (Some found) sent e = cc

next_bars : (master : List ℕ) (id : AskId) (session : Sess) (it : Waiting) (found : Next) (again : Why) (sent : Sent)
    → (goes_on master id session it found).then ≡ then.Sends sent → (goes_on master id session it found).waiting.at ≡ Barrier again
    → found ≡ next.Barrier again
next_bars master id session it (next.Ask server) again sent e at = absurd (let no : Home server ≡ Barrier again = at in cc)
next_bars master id session it (next.Barrier reason) again sent e at = let same : Barrier reason ≡ Barrier again = at in cc
next_bars master id session it next.Missing again sent e at = absurd (need_never_sends (finish session it.asking.awaited Missing).need sent e)
next_bars master id session it next.Refused again sent e at = absurd (let no : ⊥ = cc in no)

never_again : (recs : Recs) (first : List ℕ) (what : AskFor) (it again : Why) → behind_ok recs first what it ≡ next.Barrier again → ⊥
never_again recs first what it again e = subst (λ (n : Next). IsBehind recs first what it n) e (each_behind recs first what it)

pub cleared_once : ClearedOnce
unfolding cleared
cleared_once recs master first id session it reason again sent e at =
    never_again recs first (ask_for it.name it.asking.op) reason again
    (next_bars master id session it (behind_ok recs first (ask_for it.name it.asking.op) reason) again sent e at)
