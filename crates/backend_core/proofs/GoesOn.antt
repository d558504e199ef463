-- A mailbox goes on through every step: it keeps its UIDVALIDITY, and UIDNEXT never falls.
use Rattle.std.proofs.Math.Logic.{⊎_elim}
use Rattle.std.proofs.Common.{◌≡◌, ◌≢◌, ℕ, ◌≤◌, List, Option, Some, refl, sym, ◌∙◌, ap, subst, arith}
use Rattle.std.specs.Ordering.{nat_cmp}
use Rattle.std.specs.Cmp.Lexicographic.{slice_cmp}
use Rattle.mur_base.proofs.MapLaws.{names_apart, same_or_other, value_at-with_value}
use Rattle.link_msg.specs.declared.ask.FrontAsk.{FrontAsk}
use Rattle.backend_core.specs.declared.backend.Backend.{Backend}
use Rattle.node_record.specs.declared.held.Held.{Held}
use Rattle.backend_core.specs.HomeStep.{held_at}
use Rattle.backend_core.specs.HomeLaws.{MailboxStays}
use Rattle.backend_core.specs.Step.{home_step}
use Rattle.backend_core.proofs.Leaves.{Leaves, stays, turns, leaves}
use Rattle.backend_core.proofs.Others.{others_stay}

goes_to : (held later : Held) (found : Option Held) → found ≡ Some later → later.content.serial ≡ held.content.serial
    → held.content.next ≤ later.content.next → MailboxStays held found
goes_to held later found is serial next = subst (MailboxStays held) (sym is) (serial, next)

goes_as_it_was : (held : Held) (found : Option Held) → found ≡ Some held → MailboxStays held found
goes_as_it_was held found is = goes_to held held found is refl (omega arith)

-- the mailbox of the name that was asked for
mine_by : (home : Backend) (name : List ℕ) (after : Backend) (held : Held) → held_at home name ≡ Some held → Leaves home name after
    → MailboxStays held (held_at after name)
mine_by home name after held there (stays is) = goes_as_it_was held _ (ap (λ (h : Backend). held_at h name) is ∙ there)
mine_by home name after held there (turns same content found opened follows below is) =
    let later = record same { content = content } in
    let one : same ≡ held = cc (found, there) in
    goes_to held later (held_at after name)
    (ap (λ (h : Backend). held_at h name) is ∙ value_at-with_value (slice_cmp nat_cmp) names_apart home.held name later same found)
    (follows.0 ∙ ap (λ (h : Held). h.content.serial) one)
    (subst (λ (h : Held). h.content.next ≤ content.next) one follows.1)

pub goes_on : (home : Backend) (ask : FrontAsk) (name : List ℕ) (held : Held) → held_at home name ≡ Some held
    → MailboxStays held (held_at (home_step home ask).home name)
goes_on home ask name held there =
    ⊎_elim
    (λ (e : name ≡ ask.name). subst (λ n. MailboxStays held (held_at (home_step home ask).home n)) (sym e)
    (mine_by home ask.name (home_step home ask).home held (subst (λ n. held_at home n ≡ Some held) e there) (leaves home ask)))
    (λ (ne : name ≢ ask.name). goes_as_it_was held _ (others_stay home ask name ne ∙ there))
    (same_or_other (slice_cmp nat_cmp) names_apart name ask.name)
