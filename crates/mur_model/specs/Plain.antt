-- AUTHENTICATE PLAIN (RFC 9051, 6.2.2): what a response says of a client (RFC 4616, 2), and the session that begins with it.
use Rattle.std.specs.Prelude.{ℕ, ◌+◌, Bool, ◌==◌, ◌||◌, if◌then◌else◌, List, [], length, take, drop, position, Option, None, Some, codes}
use Rattle.std.specs.Result.{result_ok}
use Rattle.std.specs.Str.{bytes_eq}
use Rattle.base64.specs.Engines.{standard}
use Rattle.base64.specs.GeneralPurpose.{decode_of}
use Rattle.mur_base.specs.Ascii.{nul}
use Rattle.mur_base.specs.declared.user.User.{User}
use Rattle.mur_model.specs.Needed.{Needed, Refusal}
use Rattle.imap_types.specs.declared.reply.BadText.TheVariants.{Syntax}
use Rattle.imap_types.specs.declared.reply.Verdict.TheVariants.{Bad as bad_reply}
use Rattle.mur_model.specs.Login.{login, login_failed}

-- the bytes that a response stands for: base64 with its padding (RFC 4648, 4), and `=` is the empty response (RFC 9051, 6.2.2)
unfoldable pub decoded : List ℕ → Option (List ℕ)
decoded response = if bytes_eq response (codes "=") then Some [] else result_ok (decode_of standard response)

abbrev pub is_nul : ℕ → Bool
is_nul byte = byte == nul

unfoldable pub cut_at : List ℕ → Option ℕ → Option (List ℕ × List ℕ)
cut_at text None = None
cut_at text (Some at) = Some (take at text, drop (at + 1) text)

-- the text before the first NUL, and the one behind it
unfoldable pub cut_at_nul : List ℕ → Option (List ℕ × List ℕ)
cut_at_nul text = cut_at text (position is_nul text)

-- a client acts as the user whose password it has (authzid is empty or that user)
abbrev pub acts_as : List ℕ → List ℕ → Bool
acts_as authzid user = length authzid == 0 || bytes_eq authzid user

unfoldable pub authenticate_by : List User → List ℕ → Option (List ℕ × List ℕ) → Needed
authenticate_by users authzid None = login_failed
authenticate_by users authzid (Some (user, password)) =
    if acts_as authzid user then login users (codes "AUTHENTICATE") user password else login_failed

-- message = [authzid] NUL authcid NUL passwd (RFC 4616, 2)
unfoldable pub authenticate_as : List User → Option (List ℕ × List ℕ) → Needed
authenticate_as users None = login_failed
authenticate_as users (Some (authzid, rest)) = authenticate_by users authzid (cut_at_nul rest)

unfoldable pub authenticate_with : List User → Option (List ℕ) → Needed
authenticate_with users None = login_failed
authenticate_with users (Some message) = authenticate_as users (cut_at_nul message)

-- a line `*` ends the exchange (RFC 9051, 6.2.2)
unfoldable pub authenticate : List User → List ℕ → Needed
authenticate users response =
    if bytes_eq response (codes "*") then Refusal (bad_reply Syntax) else authenticate_with users (decoded response)
