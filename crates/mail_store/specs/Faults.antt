-- Why a mailbox isn't changed.
use Rattle.std.specs.Prelude.{◌≡◌, Option, Some, None, Result, Err, MatchResult}
use Rattle.mail_store.specs.declared.fault.StoreFault.{StoreFault}
use Rattle.mail_store.specs.declared.fault.StoreFault.TheVariants.{Memory}

-- the result is this value, refused by this fault or where memory is wanting
abbrev pub IsValueUnless : {A : Type 0} → Option StoreFault → A → Result A StoreFault → Type 0
IsValueUnless (Some fault) value result = result ≡ Err fault
IsValueUnless None value result = MatchResult result (λ given. given ≡ value) (λ fault. fault ≡ Memory)
