-- What a client from outside does lets out bytes for that client alone, and changes nothing of the master but its own connection.
use Rattle.std.proofs.Common.{◌≡◌, ◌≢◌, ℕ, Bool, true, false, ◌&&◌, not, cond, List, [], ◌∷◌, ◌++◌, map, Option, None, Some, refl, sym, ap, ◌∙◌, subst}
use Rattle.std.proofs.Common.{append-nil}
use Rattle.std.specs.Prelude.{⊤}
use Rattle.std.specs.List.{fold}
use Rattle.std.specs.Ordering.{is_eq, nat_cmp}
use Rattle.link_msg.specs.declared.out.Out.{Out}
use Rattle.link_msg.specs.declared.out.Out.TheVariants.{Client, Close}
use Rattle.mupdate_codec.specs.declared.command.MCommand.{MCommand}
use Rattle.mupdate_codec.specs.declared.command.MResponse.{MResponse}
use Rattle.mupdate_codec.specs.declared.tag.Tag.{Tag}
use Rattle.mur_base.specs.Map.{value_at, without_key}
use Rattle.mur_base.proofs.MapLaws.{numbers_apart, not_equal, value_at-with_entry-other, value_at-with_value-other}
use Rattle.node_record.specs.declared.master.MasterRecord.{MasterRecord}
use Rattle.master_core.specs.declared.master.Master.{Master}
use Rattle.master_core.specs.declared.outside.Outside.{Outside}
use Rattle.master_core.specs.declared.outside.Outside.TheVariants as outside
use Rattle.master_core.specs.declared.reply.Reply.{Reply}
use Rattle.master_core.specs.declared.sender.Sender.TheVariants as sender
use Rattle.master_core.specs.declared.streams.StreamStep.{StreamStep}
use Rattle.master_core.specs.declared.streams.StreamStep.TheVariants as stream
use Rattle.master_core.specs.Changes.{change_outs}
use Rattle.master_core.specs.Cutting.{cut_from}
use Rattle.mupdate_codec.specs.Whole.{command_in}
use Rattle.master_core.specs.Lines.{tag_before}
use Rattle.master_core.specs.Outside.{Stepped, still, outside_at, connect, connect_at, is_open, line_comes, lines_come, with_begun, bytes_at, bytes_in}
use Rattle.master_core.specs.Replies.{reply_to, bad_reply}
use Rattle.master_core.specs.Step.{Planned, answered, table_with, reply_outs, replied, settled, bad_step, command_step, line_by, line_step}
use Rattle.master_core.specs.Streams.{is_stream, streaming, ended_if, without, may_follow_update, stream_step}
use Rattle.master_core.proofs.OutsideLaw.{no_entry}

-- bytes for this client, or its close
abbrev pub IsItsOwn : ℕ → Out → Type 0
IsItsOwn conn (Client other bytes) = other ≡ conn
IsItsOwn conn (Close other) = other ≡ conn
IsItsOwn conn out = ⊥

unfoldable pub AreItsOwn : ℕ → List Out → Type 0
AreItsOwn conn [] = ⊤
AreItsOwn conn (out ∷ outs) = IsItsOwn conn out × AreItsOwn conn outs

both_own : (conn : ℕ) (one two : List Out) → AreItsOwn conn one → AreItsOwn conn two → AreItsOwn conn (one ++ two)
unfolding AreItsOwn
both_own conn [] two first second = second
both_own conn (out ∷ one) two first second = (first.0, both_own conn one two first.1 second)

-- the master but for one connection
pub record IsBeside (conn : ℕ) (master next : Master) : Type 0 where
  pub me : next.me ≡ master.me
  pub backends : next.backends ≡ master.backends
  pub streams : next.streams ≡ master.streams
  pub table : next.table ≡ master.table
  pub outside : (other : ℕ) → other ≢ conn → outside_at next other ≡ outside_at master other
  pub watchers : (other : ℕ) → other ≢ conn → value_at nat_cmp next.watchers other ≡ value_at nat_cmp master.watchers other

pub record ActsAlone (conn : ℕ) (master next : Master) (outs : List Out) : Type 0 where
  pub beside : IsBeside conn master next
  pub own : AreItsOwn conn outs

same_beside : (conn : ℕ) (master : Master) → IsBeside conn master master
same_beside conn master = record { me = refl; backends = refl; streams = refl; table = refl; outside = λ other ne. refl; watchers = λ other ne. refl }

beside_more : (conn : ℕ) (one two three : Master) → IsBeside conn one two → IsBeside conn two three → IsBeside conn one three
beside_more conn one two three first second = record {
  me = second.me ∙ first.me;
  backends = second.backends ∙ first.backends;
  streams = second.streams ∙ first.streams;
  table = second.table ∙ first.table;
  outside = λ other ne. second.outside other ne ∙ first.outside other ne;
  watchers = λ other ne. second.watchers other ne ∙ first.watchers other ne;
}

alone_nothing : (conn : ℕ) (master next : Master) → IsBeside conn master next → ActsAlone conn master next []
unfolding AreItsOwn
alone_nothing conn master next beside = record { beside = beside; own = tt }

alone_more : (conn : ℕ) (one two three : Master) (before outs : List Out) → ActsAlone conn one two before → ActsAlone conn two three outs
    → ActsAlone conn one three (before ++ outs)
alone_more conn one two three before outs first second = record {
  beside = beside_more conn one two three first.beside second.beside;
  own = both_own conn before outs first.own second.own;
}

-- another key finds what it found once a key is gone
without_other_by : {X : Type 0} (e : ℕ × X) (es : List (ℕ × X)) (k q : ℕ) → is_eq (nat_cmp q k) ≡ false
    → value_at nat_cmp (without_key nat_cmp es k) q ≡ value_at nat_cmp es q
    → (b : Bool) → is_eq (nat_cmp k e.0) ≡ b → value_at nat_cmp (without_key nat_cmp (e ∷ es) k) q ≡ value_at nat_cmp (e ∷ es) q
without_other_by e es k q ne ih true h =
    let same : k ≡ e.0 = numbers_apart.exact k e.0 h in
    let gone : is_eq (nat_cmp q e.0) ≡ false = subst (λ x. is_eq (nat_cmp q x) ≡ false) same ne in rw (h, gone) refl
without_other_by e es k q ne ih false h = rw h (ap (λ found. cond (is_eq (nat_cmp q e.0)) (Some e.1) found) ih)

value_at-without_key-other : {X : Type 0} (es : List (ℕ × X)) (k q : ℕ) → q ≢ k → value_at nat_cmp (without_key nat_cmp es k) q ≡ value_at nat_cmp es q
value_at-without_key-other [] k q ne = refl
value_at-without_key-other (e ∷ es) k q ne =
    without_other_by e es k q (not_equal nat_cmp numbers_apart q k ne) (value_at-without_key-other es k q ne) (is_eq (nat_cmp k e.0)) refl

-- the outputs of a reply that changes nothing are its answers

pub answers_alone : (master : Master) (conn : ℕ) (tag : Tag) (reply : Reply) → reply.entry ≡ None
    → reply_outs master (sender.Outside conn) tag reply ≡ map (answered (sender.Outside conn) tag) reply.answers
unfolding change_outs
answers_alone master conn tag reply e =
    ap (λ (entry : Option MasterRecord). map (answered (sender.Outside conn) tag) reply.answers ++ (change_outs master.streams master.watchers entry ++ [])) e
    ∙ append-nil (map (answered (sender.Outside conn) tag) reply.answers)

answers_own : (conn : ℕ) (tag : Tag) (answers : List MResponse) → AreItsOwn conn (map (answered (sender.Outside conn) tag) answers)
unfolding AreItsOwn
answers_own conn tag [] = tt
answers_own conn tag (answer ∷ answers) = (refl, answers_own conn tag answers)

replied_alone : (master : Master) (conn : ℕ) (tag : Tag) (reply : Reply) → reply.entry ≡ None
    → ActsAlone conn master (replied master (sender.Outside conn) tag reply).master (replied master (sender.Outside conn) tag reply).outs
unfolding replied
replied_alone master conn tag reply e = record {
  beside = record { me = refl; backends = refl; streams = refl; table = ap (table_with master.table) e; outside = λ other ne. refl; watchers = λ other ne. refl };
  own = subst (λ outs. AreItsOwn conn outs) (sym (answers_alone master conn tag reply e)) (answers_own conn tag reply.answers);
}

ended_other : (all : List (ℕ × Outside)) (conn other : ℕ) (found : Option Outside) → other ≢ conn
    → value_at nat_cmp (ended_if all conn found) other ≡ value_at nat_cmp all other
ended_other all conn other None ne = refl
ended_other all conn other (Some it) ne = value_at-with_value-other nat_cmp numbers_apart all conn other outside.Ended ne

without_beside : (master : Master) (conn : ℕ) → IsBeside conn master (without master (sender.Outside conn))
unfolding without
without_beside master conn = record {
  me = refl;
  backends = refl;
  streams = refl;
  table = refl;
  outside = λ other ne. ended_other master.outside conn other (value_at nat_cmp master.outside conn) ne;
  watchers = λ other ne. value_at-without_key-other master.watchers conn other ne;
}

-- the client closes its connection
pub ends_alone : (master : Master) (conn : ℕ) → ActsAlone conn master (without master (sender.Outside conn)) []
ends_alone master conn = alone_nothing conn master (without master (sender.Outside conn)) (without_beside master conn)

settled_alone : (master : Master) (conn : ℕ) (planned : Planned) (tag : Tag) (step : StreamStep) → ActsAlone conn master planned.master planned.outs
    → ActsAlone conn master (settled planned (sender.Outside conn) tag step).master (settled planned (sender.Outside conn) tag step).outs
unfolding settled streaming AreItsOwn
settled_alone master conn planned tag stream.Stays alone = alone
settled_alone master conn planned tag stream.Begins alone = record {
  beside = beside_more conn master planned.master _ alone.beside (record {
    me = refl;
    backends = refl;
    streams = refl;
    table = refl;
    outside = λ other ne. refl;
    watchers = λ other ne. value_at-with_entry-other nat_cmp numbers_apart planned.master.watchers conn other tag ne;
  });
  own = alone.own;
}
settled_alone master conn planned tag stream.Ends alone =
    alone_more conn master planned.master (without planned.master (sender.Outside conn)) planned.outs (Close conn ∷ []) alone
    (record { beside = without_beside planned.master conn; own = (refl, tt) })

bad_alone : (master : Master) (conn : ℕ) (tag : Tag)
    → ActsAlone conn master (bad_step master (sender.Outside conn) tag).master (bad_step master (sender.Outside conn) tag).outs
unfolding bad_step bad_reply
bad_alone master conn tag = replied_alone master conn tag bad_reply refl

command_alone : (master : Master) (conn : ℕ) (tag : Tag) (it : MCommand)
    → ActsAlone conn master (command_step master (sender.Outside conn) tag it).master (command_step master (sender.Outside conn) tag it).outs
unfolding command_step
command_alone master conn tag it = by_test (is_stream master (sender.Outside conn) && not (may_follow_update it))
  where
    taken : Planned
    taken = settled (replied master (sender.Outside conn) tag (reply_to master.table (sender.Outside conn) it)) (sender.Outside conn) tag (stream_step it)

    by_test : (b : Bool) → (let planned : Planned = cond b (bad_step master (sender.Outside conn) tag) taken in ActsAlone conn master planned.master planned.outs)
    by_test true = bad_alone master conn tag
    by_test false = settled_alone master conn (replied master (sender.Outside conn) tag (reply_to master.table (sender.Outside conn) it)) tag (stream_step it)
        (replied_alone master conn tag (reply_to master.table (sender.Outside conn) it) (no_entry master.table conn it))

line_alone : (master : Master) (conn : ℕ) (line : List ℕ)
    → ActsAlone conn master (line_step master (sender.Outside conn) line).master (line_step master (sender.Outside conn) line).outs
unfolding line_step line_by
line_alone master conn line = by_command (command_in line)
  where
    by_command : (it : Option (Tag × MCommand))
        → ActsAlone conn master (line_by master (sender.Outside conn) line it).master (line_by master (sender.Outside conn) line it).outs
    by_command None = bad_alone master conn (tag_before line)
    by_command (Some it) = command_alone master conn it.0 it.1

one_line_alone : (master : Master) (conn : ℕ) (so_far : Stepped) (line : List ℕ) → ActsAlone conn master so_far.master so_far.outs
    → ActsAlone conn master (line_comes conn so_far line).master (line_comes conn so_far line).outs
unfolding line_comes
one_line_alone master conn so_far line alone = by_open (is_open so_far.master conn)
  where
    next : Planned
    next = line_step so_far.master (sender.Outside conn) line

    by_open : (b : Bool) → (let after : Stepped = cond b (record { master = next.master; outs = so_far.outs ++ next.outs }) so_far in ActsAlone conn master after.master after.outs)
    by_open true = alone_more conn master so_far.master next.master so_far.outs next.outs alone (line_alone so_far.master conn line)
    by_open false = alone

lines_alone : (master : Master) (conn : ℕ) (so_far : Stepped) (lines : List (List ℕ)) → ActsAlone conn master so_far.master so_far.outs
    → ActsAlone conn master (fold (line_comes conn) so_far lines).master (fold (line_comes conn) so_far lines).outs
lines_alone master conn so_far [] alone = alone
lines_alone master conn so_far (line ∷ lines) alone =
    lines_alone master conn (line_comes conn so_far line) lines (one_line_alone master conn so_far line alone)

-- its bytes come
pub bytes_alone : (master : Master) (conn : ℕ) (piece : List ℕ) → ActsAlone conn master (bytes_in master conn piece).master (bytes_in master conn piece).outs
unfolding bytes_in bytes_at lines_come
bytes_alone master conn piece = by_outside (outside_at master conn)
  where
    cut_alone : (begun : List ℕ) → ActsAlone conn master (with_begun master conn begun) []
    cut_alone begun = alone_nothing conn master (with_begun master conn begun) (record {
      me = refl;
      backends = refl;
      streams = refl;
      table = refl;
      outside = λ other ne. value_at-with_value-other nat_cmp numbers_apart master.outside conn other (outside.Open (Some begun)) ne;
      watchers = λ other ne. refl;
    })

    by_outside : (it : Option Outside) → ActsAlone conn master (bytes_at master conn piece it).master (bytes_at master conn piece it).outs
    by_outside None = alone_nothing conn master master (same_beside conn master)
    by_outside (Some outside.Ended) = alone_nothing conn master master (same_beside conn master)
    by_outside (Some (outside.Open None)) = alone_nothing conn master master (same_beside conn master)
    by_outside (Some (outside.Open (Some begun))) =
        lines_alone master conn (still (with_begun master conn (cut_from begun piece).begun)) (cut_from begun piece).lines (cut_alone (cut_from begun piece).begun)

-- it connects
pub connects_alone : (master : Master) (conn : ℕ) → ActsAlone conn master (connect master conn).master (connect master conn).outs
unfolding connect connect_at AreItsOwn
connects_alone master conn = by_outside (outside_at master conn)
  where
    by_outside : (it : Option Outside) → ActsAlone conn master (connect_at master conn it).master (connect_at master conn it).outs
    by_outside (Some there) = alone_nothing conn master master (same_beside conn master)
    by_outside None = record {
      beside = record {
        me = refl;
        backends = refl;
        streams = refl;
        table = refl;
        outside = λ other ne. value_at-with_entry-other nat_cmp numbers_apart master.outside conn other (outside.Open (Some [])) ne;
        watchers = λ other ne. refl;
      };
      own = (refl, tt);
    }
