use Rattle.std.proofs.Common.{◌≡◌, Result, Ok, Err, sym, ap, ◌∙◌, ⊎_elim}
use Rattle.imap_types.specs.declared.request.Request.TheVariants as asks
use Rattle.imap_types.specs.declared.command.Command.{Command}
use Rattle.imap_types.specs.declared.command.Tag.{Tag}
use Rattle.imap_command.specs.declared.fault.Bad.{Bad}
use Rattle.imap_command.specs.declared.fault.ReadFault.{ReadFault}
use Rattle.imap_command.specs.declared.fault.ReadFault.TheVariants as fault
use Rattle.imap_command.proofs.RequestLaws.{request_read, request_refused}
use Rattle.imap_command.proofs.request.read_request.Goals as goal

no_command : (of : ReadFault) (tagged : Tag × Command) → (let r : Result (Tag × Command) ReadFault = Err of in r ≡ Ok tagged) → ⊥
no_command of tagged e = cc

no_memory : (of : ReadFault) (bad : Bad) → of ≡ fault.Bad bad → (let r : Result (Tag × Command) ReadFault = Err of in r ≡ Err fault.Memory) → ⊥
no_memory of bad is e = cc

pub returns-in-Ok : goal.returns-in-Ok
returns-in-Ok c = sym (request_read c.args.frame.now c.in-Ok.tag c.in-Ok.command c.in-Ok.ensures.found)

pub returns-in-Err-Bad : goal.returns-in-Err-Bad
returns-in-Err-Bad c =
    ap asks.Unknown c.or_star.ensures
    ∙ sym (request_refused c.args.frame.now c.in-Err-Bad.bad.tag
    (λ tagged spelled. ⊎_elim (no_command c.in-Err-Bad.field-0 tagged) (no_memory c.in-Err-Bad.field-0 c.in-Err-Bad.bad c.in-Err-Bad.field-0-is)
    (c.in-Err-Bad.ensures.only tagged spelled))
    (c.in-Err-Bad.ensures.bad c.in-Err-Bad.bad (ap Err c.in-Err-Bad.field-0-is)).tagged)
