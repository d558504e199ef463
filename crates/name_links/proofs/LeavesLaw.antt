-- No step of a backend but a message step changes what a mailbox contains.
use Rattle.std.proofs.Common.{◌≡◌, ◌≢◌, ◌⊎◌, inl, inr, ℕ, Bool, true, false, cond, List, [], ◌∷◌, Option, None, Some, refl, sym, ap, subst, ◌∙◌}
use Rattle.std.specs.Ordering.{nat_cmp}
use Rattle.std.specs.Cmp.Lexicographic.{slice_cmp}
use Rattle.mur_base.proofs.MapLaws.{names_apart, same_or_other}
use Rattle.mur_base.specs.declared.home.Location.{Location}
use Rattle.mupdate_codec.specs.declared.command.MResponse.{MResponse}
use Rattle.mupdate_codec.specs.declared.tag.Tag.{Tag}
use Rattle.node_record.specs.declared.held.Held.{Held}
use Rattle.node_record.specs.declared.backend.BackendRecord.{BackendRecord}
use Rattle.node_record.specs.Held.{held_at, with_phase, has_content, pointer}
use Rattle.node_record.specs.Table.{record_at}
use Rattle.home_law.specs.Items.{Mine}
use Rattle.home_law.specs.Link.{see}
use Rattle.home_law.specs.ManyNames.{Mailbox}
use Rattle.home_law.specs.Rows.{mine_of, control_ok}
use Rattle.name_flows.specs.declared.sent.SentLine.{SentLine}
use Rattle.name_flows.specs.OneName.{ctl_of}
use Rattle.name_flows.specs.Steps.{FlowStep, held_with, handed}
use Rattle.name_flows.proofs.OneStep.{held_placed-other}
use Rattle.name_links.specs.Contents.{state_at, acl_in, new_box, content_in, ContentHolds, AsksLeaveContents, HearsLeavesContents}
use Rattle.name_links.specs.Known.{known}
use Rattle.name_links.specs.LinkIs.{tagged_by, AreAnswers, LinkHolds}
use Rattle.name_links.specs.OneLink.{OneLink, server_of, back_of, hears}
use Rattle.name_links.proofs.BoxLaw.{asked_me}
use Rattle.name_links.proofs.ContentLaw.{step, leaves, told_by_ok}
use Rattle.name_links.proofs.HearEvents.{same as same_tag, none_answers}
use Rattle.name_links.proofs.HeldTurn.{Becomes, same, brought, gone, moved, becomes, IsPlain, Makes, heard_entry}
use Rattle.name_links.proofs.LinkLaw.{hears_law}
use Rattle.name_links.proofs.PhaseFacts.{mine_mailbox, IsThere, mailbox_there, home_fits}

pub asks_leave : AsksLeaveContents
asks_leave link ask = ap (λ (k : Option BackendRecord). held_with link.held k) (asked_me link.flows link.held ask).1

there_content : (it : Held) → has_content it.phase ≡ true → content_in (Some it) ≡ Some it.content
there_content it e = ap (λ (t : Bool). cond t (Some it.content) None) e

content_stays : (old new : Option Held) → Becomes old new → IsThere new → content_in new ≡ content_in old
content_stays old new (same e) t = ap (λ (h : Option Held). content_in h) e
content_stays old new (brought it p e had c f) t =
    let is : t.it ≡ with_phase p it = (let there : Some t.it ≡ Some (with_phase p it) = sym t.there ∙ f in cc) in
    let here : has_content p ≡ true = sym (ap (λ (h : Held). has_content h.phase) is) ∙ t.content in
    ap (λ (h : Option Held). content_in h) f ∙ there_content (with_phase p it) here ∙ sym (ap (λ (h : Option Held). content_in h) e ∙ there_content it had)
content_stays old new (gone e) t = let no : (let o : Option Held = None in o ≡ Some t.it) = sym e ∙ t.there in cc
content_stays old new (moved server e) t =
    let is : t.it ≡ pointer server = (let there : Some t.it ≡ Some (pointer server) = sym t.there ∙ e in cc) in
    let no : has_content (t.it).phase ≡ false = ap (λ (h : Held). has_content h.phase) is in cc

module _ (link : OneLink) (it : Tag × MResponse) (downs : List (Tag × MResponse)) (holds : LinkHolds link) (c : ContentHolds link) (e : link.downs ≡ it ∷ downs)
    (line : SentLine) (lines : List SentLine) (first : link.flows.sent ≡ line ∷ lines) (n : Mailbox) (acl : List ℕ)
    (is : acl_in (state_at link.table (server_of link) n) ≡ Some acl) where
  abbrev now : FlowStep
  now = step link it downs holds c e line lines first

  me_is : now.flows.me ≡ link.flows.me
  me_is = (leaves link it downs holds c e line lines first).me_is

  abbrev mine_at : Mine
  mine_at = mine_of (see (known link.table n) (now.flows.me).server)

  control_then : control_ok mine_at (ctl_of true (held_with link.held now.entry) (handed link.held now).flows n) ≡ true
  unfolding back_of
  control_then = ((hears_law link it downs holds e).is.named n).control

  there_then : IsThere (held_at (held_with link.held now.entry) n)
  there_then =
      mailbox_there (held_at (held_with link.held now.entry) n) mine_at
      (mine_mailbox (now.flows.me).server (record_at link.table n) acl (subst (λ (me : Location). acl_in (state_at link.table me.server n) ≡ Some acl) (sym me_is) is))
      (home_fits mine_at (ctl_of true (held_with link.held now.entry) (handed link.held now).flows n) control_then)

  by_step : IsPlain link.flows.running link.held now ⊎ Makes link.flows line it.1 now → content_in (held_at (hears link it downs).held n) ≡ content_in (held_at link.held n)
  by_step (inl plain) = content_stays (held_at link.held n) (held_at (held_with link.held now.entry) n) (becomes link.held holds.ready.held n now.entry plain.entry_is) there_then
  by_step (inr made) = by_name (same_or_other (slice_cmp nat_cmp) names_apart n made.name)
    where
      by_name : (n ≡ made.name) ⊎ (n ≢ made.name) → content_in (held_at (hears link it downs).held n) ≡ content_in (held_at link.held n)
      by_name (inl own) =
          let none : acl_in (state_at link.table (server_of link) n) ≡ None = ap (λ (k : Mailbox). acl_in (state_at link.table (server_of link) k)) own
          ∙ ap acl_in (told_by_ok link it downs holds c e line lines first made).reserved in cc
      by_name (inr ne) =
          ap (λ (h : Option Held). content_in h)
          (ap (λ (s : FlowStep). held_at (held_with link.held s.entry) n) made.step_is ∙ held_placed-other link.held made.name n (new_box made.name made.serial) ne)

  hear_leaves : content_in (held_at (hears link it downs).held n) ≡ content_in (held_at link.held n)
  hear_leaves = by_step (heard_entry link.flows link.held it.0 line lines first (same_tag link it downs holds.ready holds.is e line lines first) holds.ready.running it.1)

pub hears_leave : HearsLeavesContents
hears_leave link it downs holds c e n acl is = by_sent link.flows.sent refl
  where
    by_sent : (ls : List SentLine) → link.flows.sent ≡ ls → content_in (held_at (hears link it downs).held n) ≡ content_in (held_at link.held n)
    by_sent [] first =
        absurd (none_answers it downs holds.is.tied.left (subst (λ (ds : List (Tag × MResponse)). AreAnswers [] ds holds.is.tied.left) e
        (subst (λ (ls : List SentLine). AreAnswers (tagged_by link.flows.found ls) link.downs holds.is.tied.left) first holds.is.tied.answers)))
    by_sent (line ∷ lines) first = hear_leaves link it downs holds c e line lines first n acl is
