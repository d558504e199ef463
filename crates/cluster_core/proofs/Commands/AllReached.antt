-- The marks of a run: each is made so as mark_history says, and before a link has broken no client was told that a node isn't reached.
use Rattle.std.proofs.Common.{◌≡◌, ◌≢◌, ℕ, ◌+◌, ◌≤◌, Bool, List, [], ◌∷◌, ◌++◌, length, Some, All}
use Rattle.std.proofs.lemmas.List.Elements.{All-append, All-cons, All-nil}
use Rattle.imap_types.specs.declared.command.Command.{Command}
use Rattle.imap_types.specs.declared.command.Tag.{Tag}
use Rattle.imap_types.specs.declared.reply.NoText.TheVariants.{BeingMoved, NotReached}
use Rattle.imap_types.specs.declared.request.Answer.{Answer}
use Rattle.imap_types.specs.declared.request.Request.{Request}
use Rattle.link_msg.specs.declared.counts.Counts.{Counts}
use Rattle.link_msg.specs.declared.counts.Counts.TheVariants.{IfAnswered}
use Rattle.link_queue.specs.Broken.{Broken}
use Rattle.link_msg.specs.declared.how.How.TheVariants.{Here, Behind, Reserved, Unreached}
use Rattle.mark_history.specs.Marked.{AreMarked, AreMarked as made, CanAct, CanRefuse, CanRefuseNow, IsUnreplied, IsUntold, Tale, acting, asking, done, first_tale, last_of}
use Rattle.mark_history.specs.Marked.{mark_now, open_ask, refusal, refusing, taking_back, telling}
use Rattle.mark_history.specs.declared.mark.Mark.{Mark}
use Rattle.mark_history.specs.declared.mark.MarkKind.TheVariants.{Home, Told}
use Rattle.mark_history.proofs.Reached.{TellsReached}
use Rattle.mur_base.specs.declared.point.AskId.{AskId}
use Rattle.mur_model.specs.Answer.{NeedsNoStore}
use Rattle.mur_model.specs.History.{GoesOn, numbered}
use Rattle.mur_model.specs.declared.setting.Setting.{Setting}

pub record AreMarkedSo (setting : Setting) (broken : Broken) (now : ℕ) (marks : List Mark) (tale : Tale) : Type 0 where
  pub marked : AreMarked setting now marks tale
  pub reached : broken ≡ [] → All TellsReached marks

one_more : (marks : List Mark) (mark : Mark) → All TellsReached marks → TellsReached mark → All TellsReached (marks ++ mark ∷ [])
one_more marks mark all is = All-append TellsReached marks (mark ∷ []) all (All-cons TellsReached mark [] is (All-nil TellsReached))

pub nothing : (setting : Setting) (broken : Broken) (moving : ℕ → List ℕ → Bool) → AreMarkedSo setting broken 0 [] (first_tale moving)
nothing setting broken moving = record { marked = made.nothing moving; reached = λ whole. All-nil TellsReached }

module _ {setting : Setting} {broken : Broken} where
  pub a_step : (now next : ℕ) (marks : List Mark) (tale : Tale) → now ≤ next → AreMarkedSo setting broken now marks tale → AreMarkedSo setting broken next marks tale
  a_step now next marks tale le so = record { marked = made.a_step now next marks tale le so.marked; reached = so.reached }

  pub asks : (now : ℕ) (marks : List Mark) (tale : Tale) (requests : ℕ → List Request) → GoesOn tale.talk.requests requests
      → AreMarkedSo setting broken now marks tale → AreMarkedSo setting broken now marks (asking tale requests)
  asks now marks tale requests more so = record { marked = made.asks now marks tale requests more so.marked; reached = so.reached }

  pub sees : (now : ℕ) (marks : List Mark) (tale : Tale) (conn : ℕ) (request : Request) → IsUnreplied tale conn
      → numbered (tale.talk.requests conn) (length (tale.told conn) + 1) ≡ Some request
      → AreMarkedSo setting broken now marks tale → AreMarkedSo setting broken now (marks ++ mark_now now tale conn (Home IfAnswered) ∷ []) tale
  sees now marks tale conn request unreplied asked so = record {
    marked = made.sees now marks tale conn request unreplied asked so.marked;
    reached = λ whole. one_more marks (mark_now now tale conn (Home IfAnswered)) (so.reached whole) (λ node e. cc);
  }

  pub sees_late : (now : ℕ) (marks : List Mark) (tale : Tale) (id : AskId) → id.command ≤ length (tale.told id.conn)
      → AreMarkedSo setting broken now marks tale
      → AreMarkedSo setting broken now (marks ++ (record { step = now; ask = id; kind = Home IfAnswered }) ∷ []) tale
  sees_late now marks tale id low so = record {
    marked = made.sees_late now marks tale id low so.marked;
    reached = λ whole. one_more marks (record { step = now; ask = id; kind = Home IfAnswered }) (so.reached whole) (λ node e. cc);
  }

  pub carries_out : (now : ℕ) (marks : List Mark) (tale : Tale) (conn : ℕ) (counts : Counts) (request : Request) (serial : ℕ)
      → CanAct setting tale conn request serial → (counts ≡ IfAnswered → (done setting tale conn request serial).store ≡ tale.course.store)
      → AreMarkedSo setting broken now marks tale
      → AreMarkedSo setting broken now (marks ++ mark_now now tale conn (Home counts) ∷ []) (acting setting tale conn request serial)
  carries_out now marks tale conn counts request serial can stays so = record {
    marked = made.carries_out now marks tale conn counts request serial can stays so.marked;
    reached = λ whole. one_more marks (mark_now now tale conn (Home counts)) (so.reached whole) (λ node e. cc);
  }

  pub tells : (now : ℕ) (marks : List Mark) (tale : Tale) (conn : ℕ) (answer : Answer) → IsUntold tale conn answer
      → AreMarkedSo setting broken now marks tale
      → AreMarkedSo setting broken now (marks ++ mark_now now tale conn (Told Behind) ∷ []) (telling tale conn answer)
  tells now marks tale conn answer untold so = record {
    marked = made.tells now marks tale conn answer untold so.marked;
    reached = λ whole. one_more marks (mark_now now tale conn (Told Behind)) (so.reached whole) (λ node e. cc);
  }

  pub tells_at_once : (now : ℕ) (marks : List Mark) (tale : Tale) (conn : ℕ) (request : Request) (serial : ℕ) → CanAct setting tale conn request serial
      → NeedsNoStore setting (tale.course.sessions conn) request → AreMarkedSo setting broken now marks tale
      → AreMarkedSo setting broken now (marks ++ mark_now now tale conn (Told Here) ∷ [])
      (telling (acting setting tale conn request serial) conn (done setting tale conn request serial).answer)
  tells_at_once now marks tale conn request serial can alone so = record {
    marked = made.tells_at_once now marks tale conn request serial can alone so.marked;
    reached = λ whole. one_more marks (mark_now now tale conn (Told Here)) (so.reached whole) (λ node e. cc);
  }

  pub refuses : (now : ℕ) (marks : List Mark) (tale : Tale) (conn : ℕ) (tag : Tag) (it : Command) (serial : ℕ) → CanRefuse setting marks tale conn tag it
      → AreMarkedSo setting broken now marks tale
      → AreMarkedSo setting broken now (marks ++ mark_now now tale conn (Told Reserved) ∷ [])
      (telling (refusing tale conn tag it BeingMoved serial) conn (refusal tale conn tag it BeingMoved).answer)
  refuses now marks tale conn tag it serial can so = record {
    marked = made.refuses now marks tale conn tag it serial can so.marked;
    reached = λ whole. one_more marks (mark_now now tale conn (Told Reserved)) (so.reached whole) (λ node e. cc);
  }

  -- a link has broken before
  pub refuses_at_once : (now : ℕ) (marks : List Mark) (tale : Tale) (conn : ℕ) (tag : Tag) (it : Command) (node : List ℕ) (serial : ℕ)
      → CanRefuseNow setting tale now conn tag it node → broken ≢ [] → AreMarkedSo setting broken now marks tale
      → AreMarkedSo setting broken now (marks ++ mark_now now tale conn (Told (Unreached node)) ∷ [])
      (telling (refusing tale conn tag it NotReached serial) conn (refusal tale conn tag it NotReached).answer)
  refuses_at_once now marks tale conn tag it node serial can cut so = record {
    marked = made.refuses_at_once now marks tale conn tag it node serial can so.marked;
    reached = λ whole. absurd (cut whole);
  }

  pub takes_back : (now : ℕ) (marks : List Mark) (tale : Tale) (conn : ℕ) (answer : Answer) → IsUntold tale conn answer
      → last_of (open_ask tale conn) marks ≡ Some (Home IfAnswered) → AreMarkedSo setting broken now marks tale
      → AreMarkedSo setting broken now marks (taking_back tale conn)
  takes_back now marks tale conn answer untold last so =
      record { marked = made.takes_back now marks tale conn answer untold last so.marked; reached = so.reached }

-- another link breaks, or comes up
pub relinked : (setting : Setting) (broken next : Broken) (now : ℕ) (marks : List Mark) (tale : Tale) → (next ≡ [] → broken ≡ [])
    → AreMarkedSo setting broken now marks tale → AreMarkedSo setting next now marks tale
relinked setting broken next now marks tale was so = record { marked = so.marked; reached = λ whole. so.reached (was whole) }
