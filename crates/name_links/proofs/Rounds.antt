-- The asks that waited for a resync, one after the other.
use Rattle.std.proofs.Common.{◌≡◌, ◌≢◌, ◌⊎◌, inl, inr, ℕ, ◌<◌, ◌^◌, Bool, true, false, ◌&&◌, ◌||◌, not, cond, is_some, List, [], ◌∷◌, ◌++◌, Option, None, Some, refl, sym, ap, subst, ◌∙◌, append-nil, append_assoc}
use Rattle.std.specs.List.{fold}
use Rattle.std.specs.Ordering.{nat_cmp}
use Rattle.std.specs.Cmp.Lexicographic.{slice_cmp}
use Rattle.mur_base.specs.Map.{value_at, with_entry}
use Rattle.mur_base.proofs.MapLaws.{names_apart, same_or_other, value_at-with_entry, value_at-with_entry-other}
use Rattle.mur_base.specs.declared.home.Phase.{Phase}
use Rattle.mur_base.specs.declared.home.Phase.TheVariants.{Creating, Open, Closing, Receiving, Ready, Pointer}
use Rattle.link_msg.specs.declared.answer.AnswerBody.{AnswerBody}
use Rattle.link_msg.specs.declared.answer.AnswerBody.TheVariants.{NotNow, Unreached}
use Rattle.mupdate_codec.specs.Asks.{tag_of}
use Rattle.mupdate_codec.proofs.AsksLaw.{ask_again}
use Rattle.node_record.specs.declared.held.Held.{Held}
use Rattle.node_record.specs.Held.{Names, held_at}
use Rattle.home_law.specs.Items.{Mine, Item, reserve, deactivate}
use Rattle.home_law.specs.Steps.{BackStep}
use Rattle.home_law.specs.LinkOk.{LinkOk}
use Rattle.home_law.specs.ManyNames.{Mailbox}
use Rattle.home_law.proofs.SameName.{is_another}
use Rattle.name_flows.specs.declared.ask.AskKind.{AskKind}
use Rattle.name_flows.specs.declared.ask.AskKind.TheVariants.{Create, Delete as Remove}
use Rattle.name_flows.specs.declared.ask.NameAsk.{NameAsk}
use Rattle.name_flows.specs.declared.flows.Flows.{Flows}
use Rattle.name_flows.specs.declared.resync.Resync.{Resync}
use Rattle.name_flows.specs.Asked.{first_of, create_refusal, delete_refusal, delete_refusal_in, refusal, first_line, flow_for, begun_flow, begun_line, tested_by, asked_by, asked_step}
use Rattle.name_flows.specs.Listed.{with_line, Round, round_by, round}
use Rattle.name_flows.specs.OneName.{sent_items, line_items, ctl_of, seen_by, asked_as}
use Rattle.name_flows.specs.Phases.{is_creating_phase, is_open, is_closing, pointer_in}
use Rattle.name_flows.specs.Running.{has_flow}
use Rattle.name_flows.proofs.AskedLaw.{asked_as_one}
use Rattle.name_links.specs.Lines.{is_asked}
use Rattle.name_links.specs.LinkIs.{AreNumbered, is_tagged_as, IsTagged}
use Rattle.name_links.proofs.LinesByName.{says, IsAboutIt, Each, says_none, each_put, says_put-other, says_put-same, passes}
use Rattle.name_links.proofs.LinkRows.{back, asked_row}

-- ---- what an ask that is carried out finds

rest_none : (b : Bool) (body : AnswerBody) (rest : Option AnswerBody) → cond b (Some body) rest ≡ None → (b ≡ false) × (rest ≡ None)
rest_none true body rest e = cc
rest_none false body rest e = (refl, e)

neither : (a b : Bool) → (not a || b) ≡ false → (a ≡ true) × (b ≡ false)
neither true b e = (refl, e)
neither false b e = cc

open_not_closing : (h : Option Held) → is_open h ≡ true → is_closing h ≡ false
open_not_closing None e = cc
open_not_closing (Some it) e = by_phase it.phase refl
  where
    by_phase : (p : Phase) → it.phase ≡ p → is_closing (Some it) ≡ false
    by_phase Creating at = rw at refl
    by_phase Open at = rw at refl
    by_phase Closing at = let o : is_open (Some it) ≡ false = rw at refl in cc
    by_phase Receiving at = rw at refl
    by_phase Ready at = rw at refl
    by_phase (Pointer server) at = rw at refl

deleted_free : (flows : Flows) (held : Names) (name : Mailbox) (p : Option (List ℕ)) → delete_refusal_in flows held name p ≡ None
    → (has_flow flows name ≡ false) × (is_closing (held_at held name) ≡ false)
unfolding delete_refusal_in
deleted_free flows held name (Some server) e = cc
deleted_free flows held name None e =
    let a = rest_none (not (is_open (held_at held name)) || has_flow flows name) NotNow (first_of ((not flows.up, Unreached flows.master) ∷ [])) e in
    let b = neither (is_open (held_at held name)) (has_flow flows name) a.0 in (b.1, open_not_closing (held_at held name) b.0)

pub carried_out : (flows : Flows) (held : Names) (name : Mailbox) (k : AskKind) → refusal flows held name k ≡ None
    → (has_flow flows name ≡ false) × (is_closing (held_at held name) ≡ false)
unfolding create_refusal delete_refusal
carried_out flows held name Create e =
    let a = rest_none (has_flow flows name) NotNow (first_of ((not flows.up, Unreached flows.master) ∷ (is_closing (held_at held name), NotNow) ∷ [])) e in
    let b = rest_none (not flows.up) (Unreached flows.master) (first_of ((is_closing (held_at held name), NotNow) ∷ [])) a.1 in
    let c = rest_none (is_closing (held_at held name)) NotNow None b.1 in (a.0, c.0)
carried_out flows held name Remove e = deleted_free flows held name (pointer_in (held_at held name)) e

-- ---- a mailbox that was made here and is forgotten is refused as one that isn't here

abbrev pub SameFor : Option Held → Option Held → Type 0
SameFor g h = (is_closing g ≡ is_closing h) × (is_open g ≡ is_open h) × (pointer_in g ≡ pointer_in h)

same_refusal_in : (flows : Flows) (here there : Names) (name : Mailbox) → SameFor (held_at here name) (held_at there name) → (p : Option (List ℕ))
    → delete_refusal_in flows here name p ≡ delete_refusal_in flows there name p
unfolding delete_refusal_in
same_refusal_in flows here there name s (Some server) = refl
same_refusal_in flows here there name s None = ap (λ (o : Bool). first_of ((not o || has_flow flows name, NotNow) ∷ (not flows.up, Unreached flows.master) ∷ [])) s.1

same_refusal : (flows : Flows) (here there : Names) (name : Mailbox) → SameFor (held_at here name) (held_at there name) → (k : AskKind)
    → refusal flows here name k ≡ refusal flows there name k
unfolding create_refusal delete_refusal
same_refusal flows here there name s Create = ap (λ (c : Bool). first_of ((has_flow flows name, NotNow) ∷ (not flows.up, Unreached flows.master) ∷ (c, NotNow) ∷ [])) s.0
same_refusal flows here there name s Remove =
    ap (λ (p : Option (List ℕ)). delete_refusal_in flows here name p) s.2 ∙ same_refusal_in flows here there name s (pointer_in (held_at there name))

pub forgotten_same : (n : Mailbox) (t : Bool) (h : Option Held) → SameFor (cond (passes (λ e. is_creating_phase (e.1).phase && not t) n h) None h) h
forgotten_same n t None = (refl, refl, refl)
forgotten_same n t (Some it) = by_phase it.phase refl t
  where
    by_phase : (p : Phase) → it.phase ≡ p → (t : Bool) → SameFor (cond (passes (λ e. is_creating_phase (e.1).phase && not t) n (Some it)) None (Some it)) (Some it)
    by_phase Creating e true = rw e (refl, refl, refl)
    by_phase Creating e false = rw e (refl, refl, refl)
    by_phase Open e t = rw e (refl, refl, refl)
    by_phase Closing e t = rw e (refl, refl, refl)
    by_phase Receiving e t = rw e (refl, refl, refl)
    by_phase Ready e t = rw e (refl, refl, refl)
    by_phase (Pointer server) e t = rw e (refl, refl, refl)

-- ---- a round

-- what holds of the state between two asks, with the flows of the resync's end
pub record IsRound (start : Flows) (held : Names) (it : Round) : Type 0 where
  pub resync : it.flows.resync ≡ None
  pub sent_is : it.flows.sent ≡ start.sent
  pub found_is : it.flows.found ≡ start.found
  pub me_is : it.flows.me ≡ start.me
  pub about : Each IsAboutIt it.lines
  pub tagged : Each (λ e. IsTagged e.1) it.lines
  -- only a name with a flow, or one that is closed here, has a line
  pub others_none : (k : Mailbox) → has_flow it.flows k ≡ false → is_closing (held_at held k) ≡ false → value_at (slice_cmp nat_cmp) it.lines k ≡ None

begun_about : (ask : NameAsk) (k : AskKind) (m : Mailbox) → ask.name ≢ m → sent_items m (first_line k ask.name) ≡ []
begun_about ask Create m ne = ap (λ (t : Bool). cond t (reserve ∷ []) []) (is_another ask.name m ne)
begun_about ask Remove m ne = ap (λ (t : Bool). cond t (deactivate ∷ []) []) (is_another ask.name m ne)

begun_tagged : (ask : NameAsk) → ask.id.conn < 2 ^ 64 → ask.id.command < 2 ^ 64 → (k : AskKind) → is_tagged_as (is_asked (tag_of ask.id)) (first_line k ask.name)
begun_tagged ask a b Create = ap (λ i. is_some i) (ask_again ask.id a b)
begun_tagged ask a b Remove = ap (λ i. is_some i) (ask_again ask.id a b)

module _ (start : Flows) (held : Names) (it : Round) (ask : NameAsk) (is : IsRound start held it) (conn : ask.id.conn < 2 ^ 64) (command : ask.id.command < 2 ^ 64) where
  begun_none : (k : Mailbox) → (k ≡ ask.name) ⊎ (k ≢ ask.name) → has_flow (begun_flow it.flows ask) k ≡ false → is_closing (held_at held k) ≡ false
      → value_at (slice_cmp nat_cmp) (with_line it.lines ask.name (begun_line ask)) k ≡ None
  begun_none k (inl same) f c =
      let there : is_some (value_at (slice_cmp nat_cmp) (with_entry (slice_cmp nat_cmp) it.flows.running ask.name (flow_for ask)) ask.name) ≡ true =
      ap (λ o. is_some o) (value_at-with_entry (slice_cmp nat_cmp) names_apart it.flows.running ask.name (flow_for ask)) in
      let none : is_some (value_at (slice_cmp nat_cmp) (with_entry (slice_cmp nat_cmp) it.flows.running ask.name (flow_for ask)) ask.name) ≡ false =
      subst (λ (z : Mailbox). has_flow (begun_flow it.flows ask) z ≡ false) same f in cc
  begun_none k (inr ne) f c =
      value_at-with_entry-other (slice_cmp nat_cmp) names_apart it.lines ask.name k (begun_line ask) ne
      ∙ is.others_none k (ap (λ o. is_some o) (sym (value_at-with_entry-other (slice_cmp nat_cmp) names_apart it.flows.running ask.name k (flow_for ask) ne)) ∙ f) c

  round_is_by : (body : Option AnswerBody) → IsRound start held (round_by it ask body)
  round_is_by (Some body) = record {
    resync = is.resync;
    sent_is = is.sent_is;
    found_is = is.found_is;
    me_is = is.me_is;
    about = is.about;
    tagged = is.tagged;
    others_none = is.others_none;
  }
  round_is_by None = record {
    resync = is.resync;
    sent_is = is.sent_is;
    found_is = is.found_is;
    me_is = is.me_is;
    about = each_put ask.name (begun_line ask) IsAboutIt (λ m ne. begun_about ask ask.kind m ne) it.lines is.about;
    tagged = each_put ask.name (begun_line ask) (λ e. IsTagged e.1) (begun_tagged ask conn command ask.kind) it.lines is.tagged;
    others_none = λ k f c. begun_none k (same_or_other (slice_cmp nat_cmp) names_apart k ask.name) f c;
  }

  pub round_is : IsRound start held (round held it ask)
  round_is = round_is_by (refusal it.flows held ask.name ask.kind)

  -- the lines to a name, with one that is sent now behind them
  said_more : (n : Mailbox) → refusal it.flows held ask.name ask.kind ≡ None → (ask.name ≡ n) ⊎ (ask.name ≢ n)
      → says n (with_line it.lines ask.name (begun_line ask)) ≡ says n it.lines ++ line_items n (begun_line ask)
  said_more n none (inl same) =
      subst (λ (k : Mailbox). says k (with_line it.lines ask.name (begun_line ask)) ≡ says k it.lines ++ line_items k (begun_line ask)) same
      (let free = carried_out it.flows held ask.name ask.kind none in
      let empty = is.others_none ask.name free.0 free.1 in
      says_put-same ask.name (begun_line ask) it.lines is.about empty ∙ sym (ap (λ (xs : List Item). xs ++ line_items ask.name (begun_line ask)) (says_none ask.name it.lines is.about empty)))
  said_more n none (inr ne) =
      says_put-other ask.name (begun_line ask) n ne (λ m other. begun_about ask ask.kind m other) it.lines is.about
      ∙ sym (ap (λ (xs : List Item). says n it.lines ++ xs) (begun_about ask ask.kind n ne) ∙ append-nil (says n it.lines))

  module _ (after : Names) (same : SameFor (held_at after ask.name) (held_at held ask.name)) (n : Mailbox) where
    step_is : asked_as n ask (ctl_of true after it.flows n) ≡ seen_by n true after (tested_by it.flows ask (refusal it.flows held ask.name ask.kind))
    unfolding asked_step asked_by
    step_is =
        asked_as_one true n it.flows after ask
        ∙ ap (λ (r : Option Resync). seen_by n true after (asked_by it.flows after ask r)) is.resync
        ∙ ap (λ (r : Option AnswerBody). seen_by n true after (tested_by it.flows ask r)) (same_refusal it.flows after held ask.name same ask.kind)

    round_by_kept : (m : Mine) (d u : List Item) (body : Option AnswerBody) → refusal it.flows held ask.name ask.kind ≡ body
        → LinkOk m (back (seen_by n true after (tested_by it.flows ask body)).ctl d ((u ++ says n it.lines) ++ (seen_by n true after (tested_by it.flows ask body)).says))
        → LinkOk m (back (ctl_of true after (round_by it ask body).flows n) d (u ++ says n (round_by it ask body).lines))
    round_by_kept m d u (Some body) e ok = subst (λ (z : List Item). LinkOk m (back (ctl_of true after it.flows n) d z)) (append-nil (u ++ says n it.lines)) ok
    round_by_kept m d u None e ok =
        subst (λ (z : List Item). LinkOk m (back (ctl_of true after (begun_flow it.flows ask) n) d z))
        (ap (λ (xs : List Item). (u ++ says n it.lines) ++ xs) (append-nil (line_items n (begun_line ask)))
        ∙ append_assoc u (says n it.lines) (line_items n (begun_line ask))
        ∙ ap (λ (xs : List Item). u ++ xs) (sym (said_more n e (same_or_other (slice_cmp nat_cmp) names_apart ask.name n))))
        ok

    -- to a name a round is the ask
    pub round_kept : (m : Mine) (d u : List Item) → LinkOk m (back (ctl_of true after it.flows n) d (u ++ says n it.lines))
        → LinkOk m (back (ctl_of true after (round held it ask).flows n) d (u ++ says n (round held it ask).lines))
    round_kept m d u ok =
        round_by_kept m d u (refusal it.flows held ask.name ask.kind) refl
        (subst (λ (s : BackStep). LinkOk m (back s.ctl d ((u ++ says n it.lines) ++ s.says))) step_is
        (asked_row n ask m (ctl_of true after it.flows n) d (u ++ says n it.lines) refl ok))

-- ---- all rounds

pub rounds_are : (start : Flows) (held : Names) (asks : List NameAsk) (it : Round) → AreNumbered asks → IsRound start held it → IsRound start held (fold (round held) it asks)
rounds_are start held [] it fit is = is
rounds_are start held (ask ∷ asks) it fit is = rounds_are start held asks (round held it ask) fit.1 (round_is start held it ask is fit.0.0 fit.0.1)

pub rounds_kept : (start : Flows) (held after : Names) → ((k : Mailbox) → SameFor (held_at after k) (held_at held k)) → (n : Mailbox) (asks : List NameAsk) (it : Round) → AreNumbered asks
    → IsRound start held it → (m : Mine) (d u : List Item) → LinkOk m (back (ctl_of true after it.flows n) d (u ++ says n it.lines))
    → LinkOk m (back (ctl_of true after (fold (round held) it asks).flows n) d (u ++ says n (fold (round held) it asks).lines))
rounds_kept start held after same n [] it fit is m d u ok = ok
rounds_kept start held after same n (ask ∷ asks) it fit is m d u ok =
    rounds_kept start held after same n asks (round held it ask) fit.1 (round_is start held it ask is fit.0.0 fit.0.1) m d u
    (round_kept start held it ask is fit.0.0 fit.0.1 after (same ask.name) n m d u ok)
