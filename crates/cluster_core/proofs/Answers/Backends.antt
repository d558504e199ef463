-- Behind the master's OK a backend is asked: the one of the name's record, or where a new mailbox is made.
use Rattle.std.proofs.Common.{◌≡◌, ℕ, List, Option, None, Some, refl, sym, ◌∙◌, ap, subst}
use Rattle.std.specs.Option.{IsSome}
use Rattle.ask_routes.specs.Ways.{ask_for, behind_ok, behind_record, behind_reserved, create_behind, mailbox_behind}
use Rattle.ask_routes.specs.declared.ask_for.AskFor.{AskFor}
use Rattle.ask_routes.specs.declared.ask_for.AskFor.TheVariants as about
use Rattle.ask_routes.specs.declared.next.Next.{Next}
use Rattle.ask_routes.specs.declared.next.Next.TheVariants as next
use Rattle.ask_routes.specs.declared.next.Why.{Why}
use Rattle.ask_routes.specs.declared.next.Why.TheVariants as why
use Rattle.asking_core.specs.Answered.{goes_on}
use Rattle.asking_core.specs.Cleared.{cleared}
use Rattle.asking_core.specs.declared.waiting.At.TheVariants.{Home, Barrier as at_master}
use Rattle.asking_core.specs.declared.waiting.Waiting.{Waiting}
use Rattle.feed_core.specs.Feed.{Recs, rec_at}
use Rattle.feed_core.specs.Routes.{server_by}
use Rattle.feed_core.specs.declared.rec.Rec.{Rec}
use Rattle.feed_core.specs.declared.rec.Rec.TheVariants.{Active, Reserved}
use Rattle.many_links.specs.Murder.{Nodes}
use Rattle.mur_base.specs.declared.home.Location.{Location}
use Rattle.mur_base.specs.declared.point.AskId.{AskId}
use Rattle.mur_model.specs.declared.session.Sess.{Sess}
use Rattle.cluster_core.proofs.Connections.AsksFirst.{home_is_backend}
use Rattle.cluster_core.proofs.Connections.KeepsLaw.{NamesBackends}
use Rattle.cluster_core.proofs.Connections.Sends.{the_backend}
use Rattle.cluster_core.proofs.Answers.AnswerComes.{same_server}
use Rattle.cluster_core.proofs.Answers.WaitsOn.{AsksBackend}

no_server : {cause : Why} {server : List ℕ} → at_master cause ≡ Home server → ⊥
no_server e = cc

-- who is asked next is a backend
abbrev NextIsBackend : Nodes → Next → Type 0
NextIsBackend nodes (next.Ask server) = IsSome (nodes server)
NextIsBackend nodes other = Unit {0}

module _ (nodes : Nodes) (recs : Recs) (known : NamesBackends nodes recs) where
  by_reserved : (cause : Why) (place : Location) → IsSome (nodes place.server) → NextIsBackend nodes (behind_reserved place.server cause)
  by_reserved why.NotNow place there = tt
  by_reserved why.Missing place there = there

  by_record : (name : List ℕ) (cause : Why) (it : Rec) → rec_at recs name ≡ Some it → NextIsBackend nodes (behind_record cause it)
  by_record name cause (Active place acl) e = known name place.server (ap server_by e)
  by_record name cause (Reserved place acl) e = by_reserved cause place (known name place.server (ap server_by e))

  by_mailbox : (name : List ℕ) (cause : Why) (found : Option Rec) → rec_at recs name ≡ found → NextIsBackend nodes (mailbox_behind cause found)
  by_mailbox name cause None e = tt
  by_mailbox name cause (Some it) e = by_record name cause it e

  module _ (first : List ℕ) (there : IsSome (nodes first)) where
    by_create : (name : List ℕ) (cause : Why) (found : Option Rec) → rec_at recs name ≡ found
        → NextIsBackend nodes (create_behind recs first name cause found)
    by_create name cause None e = home_is_backend nodes recs first name known there
    by_create name cause (Some it) e = by_record name cause it e

    behind_backend : (what : AskFor) (cause : Why) → NextIsBackend nodes (behind_ok recs first what cause)
    behind_backend (about.Mailbox name) cause = by_mailbox name cause (rec_at recs name) refl
    behind_backend (about.Create name) cause = by_create name cause (rec_at recs name) refl

    goes_to_backend : (master : List ℕ) (id : AskId) (session : Sess) (it : Waiting) (cause : Why) (found : Next) → it.at ≡ at_master cause
        → NextIsBackend nodes found → AsksBackend nodes ((goes_on master id session it found).waiting).at
    goes_to_backend master id session it cause (next.Ask server) at is = λ other e.
        let same : server ≡ other = same_server e in the_backend (nodes other) (subst (λ s. IsSome (nodes s)) same is)
    goes_to_backend master id session it cause (next.Barrier reason) at is = λ other e. absurd (let no : at_master reason ≡ Home other = e in cc)
    goes_to_backend master id session it cause next.Missing at is = λ other e. absurd (no_server (sym at ∙ e))
    goes_to_backend master id session it cause next.Refused at is = λ other e. absurd (no_server (sym at ∙ e))

    pub cleared_backend : (master : List ℕ) (id : AskId) (session : Sess) (it : Waiting) (cause : Why) → it.at ≡ at_master cause
        → AsksBackend nodes ((cleared recs master first id session it cause).waiting).at
    unfolding cleared
    cleared_backend master id session it cause at =
        goes_to_backend master id session it cause (behind_ok recs first (ask_for it.name it.asking.op) cause) at
        (behind_backend (ask_for it.name it.asking.op) cause)
