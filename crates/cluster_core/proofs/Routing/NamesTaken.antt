-- No step works on a LIST but the one in which the master takes its NOOP: a LIST needs no mailbox.
use Rattle.std.proofs.Common.{◌≡◌, ℕ, ◌+◌, ◌≤◌, Bool, true, false, List, ◌∷◌, length, Option, Some, sym, ◌∙◌, ap, subst, if◌then◌else◌}
use Rattle.cluster_core.specs.Flow.{run_steps}
use Rattle.cluster_core.specs.Headline.Routing.{IsList, IsStepOf, TakesNoop, Taken}
use Rattle.cluster_core.specs.Headline.Routing.IsStepOf.{at_home, at_master}
use Rattle.cluster_core.specs.Heard.{heard}
use Rattle.cluster_core.specs.Numbers.{NumbersFit}
use Rattle.cluster_core.specs.World.{master_of, start}
use Rattle.cluster_core.specs.declared.world.World.{World}
use Rattle.imap_talk.specs.Heard.{Heard}
use Rattle.imap_types.specs.declared.command.Command.{Command}
use Rattle.imap_types.specs.declared.command.Command.TheVariants as command
use Rattle.imap_types.specs.declared.command.Tag.{Tag}
use Rattle.imap_types.specs.declared.request.Request.{Request}
use Rattle.imap_types.specs.declared.request.Request.TheVariants.{Command as a_command}
use Rattle.link_msg.specs.declared.message.LinkMsg.{LinkMsg}
use Rattle.link_msg.specs.declared.message.LinkMsg.TheVariants.{Line}
use Rattle.mupdate_codec.specs.Asks.{line_ask}
use Rattle.mur_base.specs.declared.point.AskId.{AskId}
use Rattle.mur_config.specs.declared.config.Config.{Config}
use Rattle.mur_model.proofs.HistoryGrows.{numbered_on}
use Rattle.mur_model.specs.Act.{need_begun, need_in, need_of, need_selected, need_taken}
use Rattle.mur_model.specs.History.{GoesOn, Talk, numbered}
use Rattle.mur_model.specs.Listing.{list, separator_told}
use Rattle.mur_model.specs.Needed.{Mailbox, Names, Work}
use Rattle.mur_model.specs.Traits.{is_in, may_be, traits_of}
use Rattle.mur_model.specs.declared.commands.list.Listing.{Listing}
use Rattle.mur_model.specs.declared.session.Sess.{Sess}
use Rattle.mur_model.specs.declared.session.Sess.TheVariants.{Off, In, Selected as selected, Ended}
use Rattle.mur_model.specs.declared.setting.Setting.{Setting}
use Rattle.point_links.specs.Commands.{ClientCommand}
use Rattle.schedule_text.specs.declared.event.Event.{Event}
use Rattle.cluster_core.proofs.OneServer.EachStep.{LawBehind}
use Rattle.cluster_core.proofs.Routing.Works.{IsLineOf, IsOf, ask_tells, line_tells, of_mailbox, of_names}

-- ---- its need

begun_needs_none : (setting : Setting) (user reference mailbox name : List ℕ) (work : Work) → list setting user reference mailbox ≡ Mailbox name work → ⊥
unfolding list
begun_needs_none setting user reference mailbox name work = by _ _
  where
    by : (separator : Bool) (it : Listing) → (if separator then separator_told else Names it) ≡ Mailbox name work → ⊥
    by true it e = cc
    by false it e = cc

needs_none : (setting : Setting) (session : Sess) (reference mailbox name : List ℕ) (work : Work)
    → need_of setting session (command.List reference mailbox) ≡ Mailbox name work → ⊥
unfolding need_of need_taken need_in need_selected need_begun is_in may_be traits_of
needs_none setting Off reference mailbox name work e = cc
needs_none setting (In user) reference mailbox name work e = begun_needs_none setting user reference mailbox name work e
needs_none setting (selected view) reference mailbox name work e = begun_needs_none setting view.user reference mailbox name work e
needs_none setting Ended reference mailbox name work e = cc

same_command : {tag of : Tag} {one other : Command} → ◌≡◌ {A = Option Request} (Some (a_command tag one)) (Some (a_command of other)) → one ≡ other
same_command e = cc

-- ---- its step

module _ (config : Config) (steps : List Event) (talk : Talk) (whole : ℕ → List Request) (on : GoesOn talk.requests whole) (taken : Taken config steps)
    (law : LawBehind config taken.before) (earlier : GoesOn law.story.talk.requests whole) (fits : NumbersFit (λ conn. heard config conn taken.before))
    (id : AskId) (is_list : IsList talk id)
    (is_on : (line : List ℕ) → taken.message ≡ Line line → line_ask line ≡ Some id → length (law.story.told id.conn) + 1 ≤ id.command) where
  abbrev came : ℕ → Heard
  came conn = heard config conn taken.before

  abbrev world : World
  world = run_steps (start config) taken.before

  -- no command of this number needs a mailbox
  no_mailbox : (tag : Tag) (c : ClientCommand) → IsOf config came world law id tag c.it → ⊥
  no_mailbox tag c asked =
      let early : numbered (whole id.conn) id.command ≡ Some (a_command tag c.it) =
      numbered_on law.story.talk.requests whole earlier id.conn id.command (a_command tag c.it) asked in
      let late = numbered_on talk.requests whole on id.conn id.command (a_command is_list.tag (command.List is_list.reference is_list.mailbox))
      is_list.asked in
      let same : c.it ≡ command.List is_list.reference is_list.mailbox = same_command (sym early ∙ late) in
      needs_none c.setting c.was is_list.reference is_list.mailbox c.name c.work (ap (need_of c.setting c.was) (sym same) ∙ c.need)

  by_line : (line : List ℕ) → taken.message ≡ Line line → taken.to ≡ master_of config → IsLineOf config came world law id line → TakesNoop config steps taken id
  by_line line is mine (of_mailbox tag c asked) = absurd (no_mailbox tag c asked)
  by_line line is mine (of_names noop) = record { line = is ∙ ap Line noop; to = mine }

  pub takes_noop : IsStepOf config steps id taken → TakesNoop config steps taken id
  takes_noop (at_home ask is its none home) =
      let tells = ask_tells config came world law taken.from taken.to ask taken.rest (taken.comes ∙ ap (λ (m : LinkMsg). m ∷ taken.rest) is) in
      absurd (no_mailbox tells.tag tells.c (subst (λ (i : AskId). IsOf config came world law i tells.tag (tells.c).it) its tells.asked))
  takes_noop (at_master line is its mine) =
      by_line line is mine
      (line_tells config came world law taken.from taken.to line taken.rest id (taken.comes ∙ ap (λ (m : LinkMsg). m ∷ taken.rest) is) its
      (is_on line is its) mine fits).is_line
