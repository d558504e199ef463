-- What the law says of the first command of a connection that was heard whole and isn't answered: it waits at its frontend.
use Rattle.std.proofs.Common.{◌≡◌, ◌⊎◌, inl, inr, ℕ, ◌+◌, true, false, List, length, Option, sym, ap, subst}
use Rattle.std.specs.List.{list_any}
use Rattle.front_core.specs.Front.{is_asked}
use Rattle.front_core.specs.declared.connection.Connection.{Connection}
use Rattle.imap_talk.specs.Heard.{Heard, frames_heard, has_closed}
use Rattle.imap_talk.specs.Inputs.{inputs_of, requests_in}
use Rattle.imap_talk.specs.Transcript.{Stop, ends}
use Rattle.imap_talk.specs.Transcript.Stop.{silent}
use Rattle.imap_talk.specs.declared.inputs.Input.{Input}
use Rattle.imap_talk.proofs.RequestsOf.{answered_lengths, requests_of}
use Rattle.imap_types.specs.declared.request.Answer.{Answer}
use Rattle.mur_config.specs.declared.config.Config.{Config}
use Rattle.mur_model.specs.declared.session.Sess.{Sess}
use Rattle.cluster_core.specs.Headline.OneNode.{node_of}
use Rattle.cluster_core.specs.Headline.OneStore.{IsAnsweredThrough}
use Rattle.cluster_core.specs.Headline.WaitedFor.{IsWaitedFor}
use Rattle.cluster_core.specs.LawSetting.{law_setting}
use Rattle.cluster_core.specs.declared.world.World.{World}
use Rattle.cluster_core.proofs.Commands.Place.{Place}
use Rattle.cluster_core.proofs.Commands.Standing.{Fixed, Stands, next_id}
use Rattle.cluster_core.proofs.Commands.Standing.Stands.{reads, waits, lists, faulted, finished}
use Rattle.cluster_core.proofs.Connections.KeepsLaw.{ConnectionIs, KeepsLaw, fixed_of}
use Rattle.cluster_core.proofs.Connections.KeepsLaw.ConnectionIs.{is_nobody, is_elsewhere, is_open, is_cut_off, is_closed}
use Rattle.cluster_core.proofs.OneServer.SaysOf.{last_ends}

-- a connection was answered through, or its next command waits
through_or_waits : (fixed : Fixed) (front : List ℕ) (conn : ℕ) (inputs : List Input) (held : Option (List ℕ)) (connection : Connection)
    (told said : List Answer) (session : Sess) (here : Place) → Stands fixed front conn inputs held connection told said session here
    → IsAnsweredThrough (requests_in inputs) told ⊎ (is_asked connection.stage ≡ 1)
through_or_waits fixed front conn inputs held connection told said session here (reads a b c d all f at) = inl (inl (sym (answered_lengths inputs told all)))
through_or_waits fixed front conn inputs held connection told said session here (waits waiting) = inr (ap is_asked waiting.stage)
through_or_waits fixed front conn inputs held connection told said session here (lists waiting) = inr (ap is_asked waiting.stage)
through_or_waits fixed front conn inputs held connection told said session here (faulted a b all d e at) = inl (inl (sym all))
through_or_waits fixed front conn inputs held connection told said session here (finished passed more asking before last a b c all ended f at) =
    inl (inr (subst (λ t. list_any (λ (answer : Answer). ends answer.reply) t ≡ true) (sym all) (last_ends before last ended)))

waits_by : (config : Config) (all : ℕ → Heard) (world : World) (law : KeepsLaw config all world) (conn : ℕ) (stop : Stop) (heard : Heard)
    → ConnectionIs (fixed_of config) conn world law.story stop heard → has_closed heard ≡ false → stop ≡ silent
    → (IsAnsweredThrough (requests_of (law_setting config) (frames_heard heard)) (law.story.told conn) → ⊥)
    → IsWaitedFor world (next_id conn (law.story.told conn))
unfolding frames_heard has_closed requests_in inputs_of
waits_by config all world law conn stop heard (is_nobody none fronts untold) stays quiet unanswered = absurd (unanswered (inl (ap length untold.told)))
waits_by config all world law conn stop heard (is_elsewhere node given at none untold) stays quiet unanswered = absurd (unanswered (inl (ap length untold.told)))
waits_by config all world law conn stop heard (is_open bytes node front connection at reader standing) stays quiet unanswered =
    by (through_or_waits (fixed_of config) node conn _ _ connection (law.story.told conn) (law.story.talk.answers conn) (law.story.course.sessions conn)
    standing.here standing.stands)
  where
    by : IsAnsweredThrough (requests_of (law_setting config) (frames_heard heard)) (law.story.told conn) ⊎ (is_asked connection.stage ≡ 1)
        → IsWaitedFor world (next_id conn (law.story.told conn))
    by (inl through) = absurd (unanswered through)
    by (inr waiting) = record {
      node = node;
      client = ap node_of standing.client;
      front = front;
      at = at.at;
      connection = connection;
      there = at.has;
      number = ap (λ n. n + 1) (sym standing.count);
      waits = waiting;
    }
waits_by config all world law conn stop heard (is_cut_off bytes node front connection at gone waiting) stays quiet unanswered = cc
waits_by config all world law conn stop heard (is_closed _ bytes node front connection at gone) stays quiet unanswered = cc

pub next_waits : (config : Config) (heard : ℕ → Heard) (world : World) (law : KeepsLaw config heard world) (conn : ℕ) → has_closed (heard conn) ≡ false
    → law.stops conn ≡ silent → (IsAnsweredThrough (requests_of (law_setting config) (frames_heard (heard conn))) (law.story.told conn) → ⊥)
    → IsWaitedFor world (next_id conn (law.story.told conn))
next_waits config heard world law conn stays quiet unanswered =
    waits_by config heard world law conn (law.stops conn) (heard conn) (law.connections conn) stays quiet unanswered
