-- Who logs in (RFC 9051, 6.2.2 and 6.2.3): a session begins only with the name and the password of a user of the list, and is this user's until it ends.
-- The list, bytes and base64 (RFC 4648) say it, and not the server's own test of a password.
use Rattle.std.specs.Prelude.{◌≡◌, ◌≢◌, ◌⊎◌, ℕ, List, [], ◌∷◌, ◌++◌, Option, None, Some, Ok}
use Rattle.std.specs.List.{All, Contains}
use Rattle.base64.specs.Engines.{standard}
use Rattle.base64.specs.GeneralPurpose.{decode_of}
use Rattle.mur_base.specs.Ascii.{nul}
use Rattle.mur_base.specs.Users.{AreUsers}
use Rattle.mur_base.specs.declared.user.User.{User}
use Rattle.imap_types.specs.declared.command.Command.{Command}
use Rattle.imap_types.specs.declared.command.Command.TheVariants.{Login, Authenticate}
use Rattle.imap_types.specs.declared.request.Request.{Request}
use Rattle.imap_types.specs.declared.request.Request.TheVariants.{Command as command}
use Rattle.mur_model.specs.declared.session.Sess.{Sess}
use Rattle.mur_model.specs.declared.session.Sess.TheVariants.{Off, In, Selected as selected, Ended}
use Rattle.mur_model.specs.declared.setting.Setting.{Setting}
use Rattle.mur_model.specs.declared.store.Store.{Store}
use Rattle.mur_model.specs.Answer.{answer_of}

-- whose session it is, where it has begun
unfoldable pub session_user : Sess → Option (List ℕ)
session_user Off = None
session_user (In user) = Some user
session_user (selected view) = Some view.user
session_user Ended = None

-- message = [authzid] UTF8NUL authcid UTF8NUL passwd (RFC 4616, 2)
abbrev pub plain_message : List ℕ → List ℕ → List ℕ → List ℕ
plain_message authzid authcid passwd = authzid ++ nul ∷ (authcid ++ nul ∷ passwd)

-- the response is base64 (RFC 4648, 4) of the name and the password of this user, who acts as nobody else
pub record IsPlainOf (user : User) (response : List ℕ) : Type 0 where
  pub authzid : List ℕ
  pub acts_as_self : (authzid ≡ []) ⊎ (authzid ≡ user.name)
  pub message : decode_of standard response ≡ Ok (plain_message authzid user.name user.password)

-- a command that says the name and the password of this user, byte by byte
unfoldable pub SaysUser : User → Command → Type 0
SaysUser user (Login name password) = (name ≡ user.name) × (password ≡ user.password)
SaysUser user (Authenticate (Some response)) = IsPlainOf user response
SaysUser user it = ⊥

-- what is no command logs nobody in
unfoldable pub LogsIn : User → Request → Type 0
LogsIn user (command tag it) = SaysUser user it
LogsIn user request = ⊥

-- a login of the user of the list who has this name
pub record IsLoginOf (users : List User) (name : List ℕ) (request : Request) : Type 0 where
  pub user : User
  pub known : Contains users user
  pub named : user.name ≡ name
  pub said : LogsIn user request

-- the sessions before and behind a request
pub record GoesOnAsUser (users : List User) (before : Sess) (request : Request) (behind : Sess) : Type 0 where
  -- a user's session was this user's before, or it begins, by this user's login
  pub begins : (user : List ℕ) → session_user behind ≡ Some user → (session_user before ≡ Some user) ⊎ ((before ≡ Off) × IsLoginOf users user request)
  -- it stays this user's until it ends
  pub stays : (user : List ℕ) → session_user before ≡ Some user → (session_user behind ≡ Some user) ⊎ (behind ≡ Ended)
  -- and each user is let in so, where users have names of their own, without NUL, as they do in a configuration
  pub lets_in : AreUsers users → (user : User) → Contains users user → All (λ byte. byte ≢ nul) user.name → before ≡ Off → LogsIn user request
      → behind ≡ In user.name

-- whatever the store, the session and the request: by these users
abbrev pub BeginsByLogin : List User → Setting → Type 0
BeginsByLogin users setting = (store : Store) (session : Sess) (request : Request) (serial : ℕ)
    → GoesOnAsUser users session request (answer_of setting store session request serial).session
