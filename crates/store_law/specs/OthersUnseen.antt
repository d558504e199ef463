-- Whom the store refuses: a user learns nothing of a mailbox on which they have no rights, not even whether it is there, and changes nothing in it.
-- Rights are said here by the bytes of names and by the list of users, and not by the commands' own tests.
use Rattle.std.specs.Prelude.{◌≡◌, ◌↔◌, ◌⊎◌, ℕ, ◌≤◌, ⊤, true, List, ◌++◌, length, None, codes}
use Rattle.std.specs.List.{Any}
use Rattle.mur_base.specs.declared.limits.TheConstants.{MAILBOX_LIMIT}
use Rattle.mur_base.specs.declared.user.User.{User}
use Rattle.imap_types.specs.declared.command.Command.{Command}
use Rattle.imap_types.specs.declared.command.Command.TheVariants.{Create}
use Rattle.imap_types.specs.declared.request.Request.{Request}
use Rattle.imap_types.specs.declared.request.Request.TheVariants.{Command as a_command}
use Rattle.mur_model.specs.declared.session.Sess.{Sess}
use Rattle.mur_model.specs.declared.session.Sess.TheVariants.{Off, In, Selected as selected, Ended}
use Rattle.mur_model.specs.declared.setting.Setting.{Setting}
use Rattle.mur_model.specs.declared.store.Store.{Store}
use Rattle.mur_model.specs.Answer.{Answered, answer_of}
use Rattle.mur_model.specs.Store.{box_at}

-- `user.NAME` is the own mailbox of the user NAME, and each name that goes on from there with a `.` is one below it
abbrev pub IsBelowOwn : List ℕ → List ℕ → Type 0
IsBelowOwn user name = (below : List ℕ) × (name ≡ codes "user." ++ user ++ codes "." ++ below)

abbrev pub IsOwnName : List ℕ → List ℕ → Type 0
IsOwnName user name = (name ≡ codes "user." ++ user) ⊎ IsBelowOwn user name

-- an administrator of the list has this name
abbrev pub IsAdministrator : List User → List ℕ → Type 0
IsAdministrator users name = Any (λ (user : User). (user.name ≡ name) × (user.admin ≡ true)) users

-- an administrator has rights on every name, another user on their own mailbox and on those below it
abbrev pub HasRightsOn : List User → List ℕ → List ℕ → Type 0
HasRightsOn users user name = IsAdministrator users user ⊎ IsOwnName user name

-- an administrator may make a mailbox of any name, another user those below their own but not that one (RFC 9051, 6.3.4 leaves it to the server)
abbrev pub MayMakeAt : List User → List ℕ → List ℕ → Type 0
MayMakeAt users user name = IsAdministrator users user ⊎ IsBelowOwn user name

-- the names on which the user of a session has rights: none before a login, nor behind the session's end
unfoldable pub MayUse : List User → Sess → List ℕ → Type 0
MayUse users Off name = ⊥
MayUse users (In user) name = HasRightsOn users user name
MayUse users (selected view) name = HasRightsOn users view.user name
MayUse users Ended name = ⊥

-- the names at which the user of a session may make a mailbox
unfoldable pub MayMake : List User → Sess → List ℕ → Type 0
MayMake users Off name = ⊥
MayMake users (In user) name = MayMakeAt users user name
MayMake users (selected view) name = MayMakeAt users view.user name
MayMake users Ended name = ⊥

-- the user of a session has rights on the mailbox that it has selected, if it has one
unfoldable pub HasOwnSelected : List User → Sess → Type 0
HasOwnSelected users Off = ⊤
HasOwnSelected users (In user) = ⊤
HasOwnSelected users (selected view) = HasRightsOn users view.user view.name
HasOwnSelected users Ended = ⊤

unfoldable pub Creates : Command → Type 0
Creates (Create text) = ⊤
Creates it = ⊥

unfoldable pub IsCreate : Request → Type 0
IsCreate (a_command tag it) = Creates it
IsCreate request = ⊥

-- the store has as many mailboxes as there may be: this server's limit
abbrev pub IsFull : Store → Type 0
IsFull store = MAILBOX_LIMIT ≤ length store.boxes

-- Another store, in which others' mailboxes may be any: at each name that the session may use it has the same mailbox, or none as well. For a CREATE both
-- are full, or neither is.
pub record IsAlike (users : List User) (session : Sess) (request : Request) (store other : Store) : Type 0 where
  pub boxes : (name : List ℕ) → MayUse users session name → box_at store name ≡ box_at other name
  pub full : IsCreate request → (IsFull store ↔ IsFull other)

-- two stores gave a request the same answer; behind it the session is the same, and so are the mailboxes that it might use before
pub record IsAnsweredAlike (users : List User) (before : Sess) (here there : Answered) : Type 0 where
  pub answer : here.answer ≡ there.answer
  pub session : here.session ≡ there.session
  pub boxes : (name : List ℕ) → MayUse users before name → box_at here.store name ≡ box_at there.store name

-- of a store and a session, whatever that asks
pub record KeepsToItsOwn (setting : Setting) (store : Store) (session : Sess) : Type 0 where
  pub own_selected : HasOwnSelected setting.users session
  -- it changes nothing in a mailbox on whose name its user has no rights, makes none there and removes none
  pub others_stay : (request : Request) (serial : ℕ) (name : List ℕ) → ¬ MayUse setting.users session name
      → box_at (answer_of setting store session request serial).store name ≡ box_at store name
  -- it makes a mailbox only where its user may
  pub none_made : (request : Request) (serial : ℕ) (name : List ℕ) → ¬ MayMake setting.users session name → box_at store name ≡ None
      → box_at (answer_of setting store session request serial).store name ≡ None
  -- and whatever mailboxes have names on which its user has no rights, it is answered the same
  pub others_unseen : (other : Store) (request : Request) (serial : ℕ) → IsAlike setting.users session request store other
      → IsAnsweredAlike setting.users session (answer_of setting store session request serial) (answer_of setting other session request serial)
