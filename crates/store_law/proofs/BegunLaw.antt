-- A session is as its readers take it: it begins just where its command is read as one that begins it, and then goes on until it ends.
use Rattle.std.proofs.Common.{◌≡◌, ℕ, Bool, true, false, if◌then◌else◌, List, Option, None, Some, codes, refl, inl, inr}
use Rattle.std.specs.Prelude.{◌⊎◌}
use Rattle.std.specs.Str.{bytes_eq}
use Rattle.mur_base.specs.declared.user.User.{User}
use Rattle.imap_types.specs.declared.command.Command.{Command}
use Rattle.imap_types.specs.declared.command.Command.TheVariants as command
use Rattle.mur_model.specs.Needed.{Needed, Refusal, Turned}
use Rattle.imap_types.specs.declared.reply.BadText.TheVariants.{Syntax}
use Rattle.imap_types.specs.declared.reply.Verdict.{Verdict}
use Rattle.imap_types.specs.declared.reply.Verdict.TheVariants.{Bad as bad_reply}
use Rattle.mur_model.specs.declared.session.Sess.{Sess}
use Rattle.mur_model.specs.declared.session.Sess.TheVariants.{Off, In, Selected as selected, Ended}
use Rattle.mur_model.specs.declared.setting.Setting.{Setting}
use Rattle.mur_model.specs.declared.store.Store.{Store}
use Rattle.mur_model.specs.Act.{act_by, act_of, need_of, need_off, need_taken}
use Rattle.mur_model.specs.Login.{begun_by, login, login_as, login_by, login_failed}
use Rattle.mur_model.specs.Plain.{acts_as, authenticate, authenticate_as, authenticate_by, authenticate_with, cut_at_nul, decoded}
use Rattle.mur_model.specs.Rights.{user_named}
use Rattle.mur_model.specs.Traits.{is_in, may_be, traits_of}
use Rattle.mur_model.specs.Waits.{begins, begins_by, begins_session, begun_behind}
use Rattle.store_law.specs.Begun.{has_begun, IsReadSo, BeginsAsRead}
use Rattle.store_law.specs.Logins.{session_user}
use Rattle.store_law.proofs.StaysOwn.{stays_own}

-- a session that hadn't begun has begun behind a need just where the need begins it
abbrev BeginsBy : Needed → Type 0
BeginsBy need = (store : Store) (serial : ℕ) → has_begun (act_by store Off serial need).session ≡ begins_by need

refused : (verdict : Verdict) → BeginsBy (Refusal verdict)
unfolding act_by begins_by has_begun
refused verdict = λ store serial. refl

begun : (name user : List ℕ) → BeginsBy (Turned (begun_by name user))
unfolding act_by begins_by begins_session has_begun
begun name user = λ store serial. refl

failed : BeginsBy login_failed
failed = refused _

either : (test : Bool) (one other : Needed) → BeginsBy one → BeginsBy other → BeginsBy (if test then one else other)
either true one other is is_other = is
either false one other is is_other = is_other

login_by_is : (name user : List ℕ) (same : Bool) → BeginsBy (login_by name user same)
unfolding login_by
login_by_is name user true = begun name user
login_by_is name user false = failed

login_as_is : (name : List ℕ) (found : Option User) (password : List ℕ) → BeginsBy (login_as name found password)
unfolding login_as
login_as_is name None password = failed
login_as_is name (Some user) password = login_by_is name user.name (bytes_eq user.password password)

login_is : (users : List User) (name user password : List ℕ) → BeginsBy (login users name user password)
unfolding login
login_is users name user password = login_as_is name (user_named users user) password

plain_by_is : (users : List User) (authzid : List ℕ) (rest : Option (List ℕ × List ℕ)) → BeginsBy (authenticate_by users authzid rest)
unfolding authenticate_by
plain_by_is users authzid None = failed
plain_by_is users authzid (Some (user, password)) =
    either (acts_as authzid user) (login users (codes "AUTHENTICATE") user password) login_failed
    (login_is users (codes "AUTHENTICATE") user password) failed

plain_as_is : (users : List User) (parts : Option (List ℕ × List ℕ)) → BeginsBy (authenticate_as users parts)
unfolding authenticate_as
plain_as_is users None = failed
plain_as_is users (Some (authzid, rest)) = plain_by_is users authzid (cut_at_nul rest)

plain_with_is : (users : List User) (message : Option (List ℕ)) → BeginsBy (authenticate_with users message)
unfolding authenticate_with
plain_with_is users None = failed
plain_with_is users (Some message) = plain_as_is users (cut_at_nul message)

plain_is : (users : List User) (response : List ℕ) → BeginsBy (authenticate users response)
unfolding authenticate
plain_is users response =
    either (bytes_eq response (codes "*")) (Refusal (bad_reply Syntax)) (authenticate_with users (decoded response)) (refused (bad_reply Syntax))
    (plain_with_is users (decoded response))

off_is : (setting : Setting) (store : Store) (serial : ℕ) (it : Command)
    → has_begun (act_by store Off serial (need_of setting Off it)).session ≡ begins setting it
unfolding need_of need_taken need_off is_in may_be traits_of act_by has_begun begins
off_is setting store serial (command.Login user password) = login_is setting.users (codes "LOGIN") user password store serial
off_is setting store serial (command.Authenticate (Some response)) = plain_is setting.users response store serial
off_is setting store serial (command.Authenticate None) = refl
off_is setting store serial (command.Idle None) = refl
off_is setting store serial (command.Idle (Some line)) = refl
off_is setting store serial it = refl

read_so : (begun : Bool) (session : Sess) → has_begun session ≡ begun → IsReadSo begun session
unfolding IsReadSo
read_so begun Off e = e
read_so begun (In user) e = e
read_so begun (selected view) e = e
read_so begun Ended e = tt

-- a session that stays its user's, or ends, has begun as before
own_has_begun : (user : List ℕ) (behind : Sess) → (session_user behind ≡ Some user) ⊎ (behind ≡ Ended) → IsReadSo true behind
unfolding session_user IsReadSo has_begun
own_has_begun user Off (inl own) = cc
own_has_begun user Off (inr ends) = cc
own_has_begun user (In other) is = refl
own_has_begun user (selected view) is = refl
own_has_begun user Ended is = tt

pub begins_as_read : (setting : Setting) → BeginsAsRead setting
unfolding act_of need_of is_in begun_behind has_begun IsReadSo act_by session_user
begins_as_read setting = λ store session it serial. by store session it serial
  where
    by : (store : Store) (session : Sess) (it : Command) (serial : ℕ)
        → IsReadSo (begun_behind setting (has_begun session) it) (act_of setting store session it serial).session
    by store Off it serial = read_so (begins setting it) _ (off_is setting store serial it)
    by store (In user) it serial = own_has_begun user _ (stays_own setting store (In user) it serial user refl)
    by store (selected view) it serial = own_has_begun view.user _ (stays_own setting store (selected view) it serial view.user refl)
    by store Ended it serial = tt
