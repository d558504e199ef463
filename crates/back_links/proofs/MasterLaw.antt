-- A talk goes on when the master takes a line of its backend, or of another one.
use Rattle.std.proofs.Common.{◌≢◌, ℕ, List, ◌∷◌, ◌++◌, map, sym, ap, subst, ◌∙◌, append-nil}
use Rattle.std.specs.List.{AllByRecursion}
use Rattle.home_law.specs.Items.{Server}
use Rattle.link_msg.specs.declared.message.LinkMsg.{LinkMsg}
use Rattle.master_core.specs.declared.master.Master.{Master}
use Rattle.master_core.specs.Linked.{node_says, let_out}
use Rattle.master_core.specs.Outside.{Stepped}
use Rattle.master_core.specs.Step.{replied}
use Rattle.mupdate_codec.specs.declared.command.MCommand.{MCommand}
use Rattle.mupdate_codec.specs.declared.command.MResponse.{MResponse}
use Rattle.mupdate_codec.specs.declared.tag.Tag.{Tag}
use Rattle.back_node.specs.declared.node.BackNode.{BackNode}
use Rattle.name_links.specs.Answers.{answers_to}
use Rattle.name_links.specs.OneLink.{OneLink, server_of, table_by, under}
use Rattle.name_links.specs.Serials.{Given, gives}
use Rattle.name_links.proofs.BoxLaw.{others_boxes, takes_boxes}
use Rattle.name_links.proofs.ContentLaw.{others_content}
use Rattle.name_links.proofs.ContentTakes.{takes_content}
use Rattle.name_links.proofs.LinkLaw.{others_law, takes_law}
use Rattle.name_links.proofs.OnWay.{all_append}
use Rattle.name_links.proofs.SerialTurn.{lines_serials}
use Rattle.back_links.specs.MasterEvents.{TalkAfterMaster, given_in, TakesKeepsTalk, OthersKeepTalk}
use Rattle.back_links.specs.OneTalk.{AreOfPlace, link_of, HoldsOfEachName, HasTalk}
use Rattle.back_links.specs.Spelled.{HasCommandTexts, HasResponseTexts}
use Rattle.back_links.specs.Written.{command_message, response_message}
use Rattle.back_links.proofs.AnswersTold.{answers_told, under_spelled}
use Rattle.back_links.proofs.Queues.{written_then, IsFirst, first_of}
use Rattle.back_links.proofs.FirstLine.{IsItsLine, first_meant, its_line, next, says_reply, gives_same, table_told, own_messages, other_messages}

-- ---- of its backend

module _ (master : Master) (name : List ℕ) (node : BackNode) (up down : List LinkMsg) (given : Given) (message : LinkMsg)
    (talk : HasTalk master name node (message ∷ up) down given) (first : IsFirst command_message message up talk.ups) where
  abbrev it : Tag × MCommand
  it = first.it

  abbrev its : IsItsLine master name message it
  its = its_line master name node up down given message talk first

  abbrev link : OneLink
  link = link_of master node talk.ups talk.downs

  abbrev downs_then : Server → List (Tag × MResponse)
  downs_then b = talk.downs ++ map (under it.0) (answers_to master.table b it.1)

  abbrev link_then : Server → OneLink
  link_then b = record { table = table_by master.table b it.1; flows = node.flows; held = node.home.held; ups = first.more; downs = downs_then b }

  holds_then : HoldsOfEachName (link_then name) (given ++ gives master.table name it.1)
  holds_then =
      subst (λ (b : Server). HoldsOfEachName (link_then b) (given ++ gives master.table b it.1)) talk.each.named
      (record {
        names = takes_law link it first.more talk.holds.names first.are;
        contents = takes_content link it first.more talk.holds.names talk.holds.contents first.are;
        boxes = takes_boxes link given it first.more talk.holds.names talk.holds.contents talk.holds.boxes first.are;
        serials = lines_serials master.table given (server_of link) it.0 it.1
            (first_meant link it first.more talk.holds.names first.are).0 talk.holds.names.ready.table talk.holds.serials
            (first_meant link it first.more talk.holds.names first.are).1;
      })

  taken_talk : TalkAfterMaster (let_out (next master name message it its)) name node up down (given ++ gives master.table name it.1)
  unfolding replied
  taken_talk = record {
    ups = first.more;
    downs = downs_then name;
    written = record {
      up_is = first.rest;
      down_is = written_then response_message down _ talk.downs (map (under it.0) (answers_to master.table name it.1)) talk.written.down_is
          (own_messages master name message it its talk.each.no_stream);
      commands = (subst (AllByRecursion HasCommandTexts) first.are talk.written.commands).1;
      responses = all_append HasResponseTexts talk.downs (map (under it.0) (answers_to master.table name it.1)) talk.written.responses
          (under_spelled it.0 (answers_to master.table name it.1) its.spelled.0
          (answers_told master.table talk.told its.low name it.0 it.1 its.line its.meant));
    };
    own_place = (subst (AreOfPlace node.flows.me) first.are talk.own_place).1;
    each = record {
      named = talk.each.named;
      backend = talk.each.backend;
      no_stream = talk.each.no_stream;
      its_master = talk.each.its_master;
      owes = talk.each.owes;
    };
    told = table_told master name message it its talk.told;
    said = talk.said;
    holds = holds_then;
  }

  takes_first : TalkAfterMaster (node_says master name message) name node up down (given ++ given_in master.table name message)
  takes_first =
      subst (λ (s : Stepped). TalkAfterMaster s name node up down (given ++ given_in master.table name message)) (sym (says_reply master name message it its))
      (subst (λ (g : Given). TalkAfterMaster (let_out (next master name message it its)) name node up down (given ++ g))
      (sym (gives_same master name message it its)) taken_talk)

pub takes_keeps_talk : TakesKeepsTalk
takes_keeps_talk master name node up down given message talk =
    takes_first master name node up down given message talk (first_of command_message message up talk.ups talk.written.up_is)

-- ---- of another one

module _ (master : Master) (name other : List ℕ) (node : BackNode) (up down : List LinkMsg) (given : Given) (message : LinkMsg) (ne : other ≢ name)
    (talk : HasTalk master name node up down given) (it : Tag × MCommand) (its : IsItsLine master other message it) where
  abbrev there : OneLink
  there = link_of master node talk.ups talk.downs

  abbrev apart : other ≢ server_of there
  apart = λ e. ne (e ∙ talk.each.named)

  other_talk : TalkAfterMaster (let_out (next master other message it its)) name node up down (given ++ gives master.table other it.1)
  unfolding replied
  other_talk =
      subst (λ (d : List LinkMsg). HasTalk (next master other message it its).master name node up d (given ++ gives master.table other it.1))
      (sym (ap (λ (l : List LinkMsg). down ++ l) (other_messages master other message it its name ne talk.each.no_stream) ∙ append-nil down))
      (record {
        ups = talk.ups;
        downs = talk.downs;
        written = talk.written;
        own_place = talk.own_place;
        each = record {
          named = talk.each.named;
          backend = talk.each.backend;
          no_stream = talk.each.no_stream;
          its_master = talk.each.its_master;
          owes = talk.each.owes;
        };
        told = table_told master other message it its talk.told;
        said = talk.said;
        holds = record {
          names = others_law there other it.0 it.1 its.line talk.holds.names its.no_bang apart its.meant;
          contents = others_content there other it.0 it.1 its.line talk.holds.names talk.holds.contents apart its.meant;
          boxes = others_boxes there given other it.0 it.1 its.line talk.holds.names talk.holds.boxes apart its.meant;
          serials = lines_serials master.table given other it.0 it.1 its.line its.table talk.holds.serials its.meant;
        };
      })

  others_first : TalkAfterMaster (node_says master other message) name node up down (given ++ given_in master.table other message)
  others_first =
      subst (λ (s : Stepped). TalkAfterMaster s name node up down (given ++ given_in master.table other message)) (sym (says_reply master other message it its))
      (subst (λ (g : Given). TalkAfterMaster (let_out (next master other message it its)) name node up down (given ++ g))
      (sym (gives_same master other message it its)) other_talk)

pub others_keep_talk : OthersKeepTalk
others_keep_talk master name other node its up down its_up its_down given message ne talk others =
    let first = first_of command_message message its_up others.ups others.written.up_is in
    others_first master name other node up down given message ne talk first.it (its_line master other its its_up its_down given message others first)
