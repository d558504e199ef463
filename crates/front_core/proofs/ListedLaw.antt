-- A LIST that waits is answered at the master's OK to its NOOP.
use Rattle.std.proofs.Common.{◌≡◌, ℕ, ◌+◌, ◌==◌, true, List, Result, Ok, Err, sym, ◌∙◌, ap, arith}
use Rattle.std.specs.Prelude.{IfOk}
use Rattle.std.proofs.lemmas.Bool.Decides.{nat_tests}
use Rattle.imap_types.specs.declared.command.Tag.{Tag}
use Rattle.link_msg.specs.declared.out.Out.{Out}
use Rattle.mur_base.specs.declared.memory.Memory.{Memory}
use Rattle.mur_base.specs.declared.point.AskId.{AskId}
use Rattle.mur_model.specs.declared.commands.list.Listing.{Listing}
use Rattle.mur_model.specs.declared.setting.Setting.{Setting}
use Rattle.front_core.specs.declared.connection.Connection.{Connection}
use Rattle.front_core.specs.declared.connection.Stage.TheVariants.{Lists}
use Rattle.front_core.specs.Answered.{listed_by, ok_by, ok_comes}
use Rattle.front_core.specs.Taken.{Ways}

same_number : (one other : ℕ) → one ≡ other → (one == other) ≡ true
same_number one other is = grind (arith, nat_tests, is)

ok_listed : (setting : Setting) (ways : Ways) (conn : ℕ) (c : Connection) (id : AskId) (tag : Tag) (it : Listing) → c.stage ≡ Lists tag it
    → id.command ≡ c.answered + 1 → listed_by setting ways conn c c.stage ≡ ok_comes setting ways conn c id
unfolding listed_by ok_comes ok_by
ok_listed setting ways conn c id tag it stage number =
    ap (listed_by setting ways conn c) stage
    ∙ sym (ap (λ b. ok_by setting ways conn c b c.stage) (same_number id.command (c.answered + 1) number) ∙ ap (ok_by setting ways conn c true) stage)

pub listed_done : (setting : Setting) (ways : Ways) (conn : ℕ) (c new : Connection) (id : AskId) (result : Result (List Out) Memory) (tag : Tag)
    (it : Listing) → c.stage ≡ Lists tag it → id.command ≡ c.answered + 1
    → IfOk result (λ outs. record { connection = new; outs = outs } ≡ listed_by setting ways conn c c.stage)
    → IfOk result (λ outs. record { connection = new; outs = outs } ≡ ok_comes setting ways conn c id)
listed_done setting ways conn c new id (Ok outs) tag it stage number is = is ∙ ok_listed setting ways conn c id tag it stage number
listed_done setting ways conn c new id (Err fault) tag it stage number is = tt
