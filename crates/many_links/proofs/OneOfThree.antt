-- What the store does where the master takes a message is exactly one of a CREATE, a DELETE and nothing.
use Rattle.std.proofs.Common.{◌≡◌, ℕ, List, [], ◌∷◌, refl, sym, ap, subst, ◌∙◌}
use Rattle.std.specs.List.{AllByRecursion}
use Rattle.std.proofs.lemmas.Option.{same_Some}
use Rattle.link_msg.specs.declared.counts.Counts.TheVariants.{Always, IfAnswered}
use Rattle.link_msg.specs.declared.message.LinkMsg.{LinkMsg}
use Rattle.link_msg.specs.declared.message.LinkMsg.TheVariants.{Line}
use Rattle.link_msg.specs.declared.out.Out.{Out}
use Rattle.mur_base.specs.declared.point.AskId.{AskId}
use Rattle.mupdate_codec.specs.declared.command.MCommand.{MCommand}
use Rattle.mupdate_codec.specs.declared.command.MCommand.TheVariants as command
use Rattle.mupdate_codec.specs.declared.tag.Tag.{Tag}
use Rattle.mupdate_codec.specs.Whole.{command_in}
use Rattle.home_law.specs.ManyNames.{Mailbox}
use Rattle.name_links.specs.Serials.{Given}
use Rattle.mur_model.specs.Store.{without_box}
use Rattle.store_links.specs.TableEntries.{store_with}
use Rattle.many_links.specs.Marks.{IsOnlyTold, CarryNoneOut}
use Rattle.many_links.specs.MasterEvents.{IsDoneFor, nothing, created, removed, ExactlyOne}

-- a message is one command
same_command : (ask its : AskId) (message : LinkMsg) (it other : MCommand) (outs : List Out) → IsDoneFor ask message it outs → IsDoneFor its message other outs
    → it ≡ other
same_command ask its message it other outs done too =
    let lines : Line done.bytes ≡ Line too.bytes = sym done.is ∙ too.is in
    let bytes : done.bytes ≡ too.bytes = cc in
    let one : Tag × MCommand = (done.tag, it) in
    let two : Tag × MCommand = (too.tag, other) in
    ap (λ (c : Tag × MCommand). c.1) (same_Some one two (sym done.read ∙ ap command_in bytes ∙ too.read))

-- what is done counts whatever becomes of the command
done_counts : (ask : AskId) (message : LinkMsg) (it : MCommand) (outs : List Out) → IsDoneFor ask message it outs → CarryNoneOut outs → ⊥
done_counts ask message it outs done none =
    let first : AllByRecursion IsOnlyTold ((ask, Always) ∷ []) = subst (AllByRecursion IsOnlyTold) done.marked none in
    let no : Always ≡ IfAnswered = first.0 in cc

abbrev first_name : Given → Mailbox
first_name [] = []
first_name (g ∷ more) = g.0

abbrev first_serial : Given → ℕ
first_serial [] = 0
first_serial (g ∷ more) = g.1

given_again : (n m : Mailbox) (serial its : ℕ) → ◌≡◌ {A = Given} ((n, serial) ∷ []) ((m, its) ∷ []) → (n ≡ m) × (serial ≡ its)
given_again n m serial its e = (ap first_name e, ap first_serial e)

pub exactly_one : ExactlyOne
exactly_one message outs gives store _ _ (nothing none told) (nothing too only) = refl
exactly_one message outs gives store _ _ (nothing none told) (created ask n place acl serial done new free gave) =
    let no : (let empty : Given = [] in empty ≡ (n, serial) ∷ []) = sym none ∙ gave in cc
exactly_one message outs gives store _ _ (nothing none told) (removed ask n box done there too) =
    absurd (done_counts ask message (command.Delete n) outs done told)
exactly_one message outs gives store _ _ (created ask n place acl serial done new free gave) (nothing none told) =
    let no : (let empty : Given = [] in empty ≡ (n, serial) ∷ []) = sym none ∙ gave in cc
exactly_one message outs gives store _ _ (created ask n place acl serial done new free gave) (created its m at list other too none may also) =
    let same = given_again n m serial other (sym gave ∙ also) in
    ap (λ (k : Mailbox). store_with store k serial) same.0 ∙ ap (λ (s : ℕ). store_with store m s) same.1
exactly_one message outs gives store _ _ (created ask n place acl serial done new free gave) (removed its m box too there none) =
    let no : (let empty : Given = [] in empty ≡ (n, serial) ∷ []) = sym none ∙ gave in cc
exactly_one message outs gives store _ _ (removed ask n box done there none) (nothing too told) =
    absurd (done_counts ask message (command.Delete n) outs done told)
exactly_one message outs gives store _ _ (removed ask n box done there none) (created its m place acl serial too new free gave) =
    let no : (let empty : Given = [] in empty ≡ (m, serial) ∷ []) = sym none ∙ gave in cc
exactly_one message outs gives store _ _ (removed ask n box done there none) (removed its m other too here also) =
    let commands : command.Delete n ≡ command.Delete m =
    same_command ask its message (command.Delete n) (command.Delete m) outs done too in
    let same : n ≡ m = cc in ap (λ (k : Mailbox). without_box store k) same
