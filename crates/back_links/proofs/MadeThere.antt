-- The mailbox that a CREATE makes is new.
use Rattle.std.proofs.Common.{◌≡◌, ℕ, true, List, [], ◌∷◌, Option, Some, sym, ap, subst, ◌∙◌}
use Rattle.home_law.specs.Items.{Server}
use Rattle.link_msg.specs.declared.message.LinkMsg.{LinkMsg}
use Rattle.link_msg.specs.declared.message.LinkMsg.TheVariants.{Line}
use Rattle.master_core.specs.declared.master.Master.{Master}
use Rattle.master_core.specs.declared.sender.Sender.{Sender}
use Rattle.master_core.specs.declared.sender.Sender.TheVariants.{Backend}
use Rattle.master_core.specs.Replies.{reply_to}
use Rattle.master_core.specs.Step.{Planned, replied, line_step}
use Rattle.mupdate_codec.specs.declared.command.MCommand.{MCommand}
use Rattle.mupdate_codec.specs.declared.tag.Tag.{Tag}
use Rattle.mupdate_codec.specs.Arguments.{exact}
use Rattle.mupdate_codec.specs.Commands.{command_line}
use Rattle.mupdate_codec.specs.Whole.{command_in}
use Rattle.node_record.specs.declared.master.MasterRecord.TheVariants as entry
use Rattle.back_node.specs.declared.node.BackNode.{BackNode}
use Rattle.name_links.specs.Lines.{is_asked}
use Rattle.name_links.specs.OneLink.{OneLink}
use Rattle.name_links.specs.Serials.{Given, gives, IsMade}
use Rattle.name_links.proofs.MadeLaw.{create_makes_one}
use Rattle.back_links.specs.Created.{TakesActivate, IsMadeThere, CreateMakesNew}
use Rattle.back_links.specs.OneTalk.{link_of, HasTalk}
use Rattle.back_links.specs.Written.{command_message}
use Rattle.back_links.proofs.Queues.{IsFirst, first_of}
use Rattle.back_links.proofs.Texts.{command_read}
use Rattle.back_links.proofs.FirstLine.{IsItsLine, its_line, step_replies, gives_same}

line_again : {one other : List ℕ} → Line one ≡ Line other → one ≡ other
line_again e = cc

some_again : {one other : Tag × MCommand} → (let o : Option (Tag × MCommand) = Some one in o ≡ Some other) → one ≡ other
some_again e = cc

module _ (master : Master) (name : List ℕ) (node : BackNode) (up down : List LinkMsg) (given : Given) (message : LinkMsg) (mailbox acl : List ℕ)
    (talk : HasTalk master name node (message ∷ up) down given) (activates : TakesActivate master name message mailbox acl)
    (first : IsFirst command_message message up talk.ups) where
  abbrev line : IsItsLine master name message first.it
  line = its_line master name node up down given message talk first

  same_bytes : activates.bytes ≡ (command_line exact).text first.it
  same_bytes = line_again (sym activates.is ∙ first.is)

  same_command : (activates.tag, activates.it) ≡ first.it
  same_command = some_again (sym activates.read ∙ ap command_in same_bytes ∙ command_read first.it line.spelled)

  made_entry : (reply_to master.table (Backend name) (first.it).1).entry ≡ Some (entry.Active mailbox activates.place acl)
  unfolding replied
  made_entry =
      sym (ap (λ (p : Planned). p.entry) (step_replies master name message first.it line))
      ∙ ap (λ (bytes : List ℕ). (line_step master (Backend name) bytes).entry) (sym same_bytes)
      ∙ ap (λ (from : Sender). (line_step master from activates.bytes).entry) (sym line.sender)
      ∙ activates.taken

  abbrev at : OneLink
  at = link_of master node talk.ups talk.downs

  made : IsMade at given (first.it).1 mailbox acl
  made =
      create_makes_one at given first.it first.more mailbox activates.place acl talk.holds.names talk.holds.contents talk.holds.serials first.are
      (subst (λ (c : Tag × MCommand). is_asked c.0 ≡ true) same_command activates.asked)
      (subst (λ (b : Server). (reply_to master.table (Backend b) (first.it).1).entry ≡ Some (entry.Active mailbox activates.place acl))
      (sym talk.each.named) made_entry)

  made_there : IsMadeThere master name node given message mailbox acl
  made_there = record {
    serial = made.serial;
    made = made.made;
    first = made.first;
    gives = gives_same master name message first.it line
        ∙ subst (λ (b : Server). gives master.table b (first.it).1 ≡ (mailbox, made.serial) ∷ []) talk.each.named made.gives_it;
    positive = made.positive;
    new = made.new;
  }

pub create_makes_new : CreateMakesNew
create_makes_new master name node up down given message mailbox acl talk activates =
    made_there master name node up down given message mailbox acl talk activates (first_of command_message message up talk.ups talk.written.up_is)
