-- A session begins only by the name and the password of a user, and stays this user's until it ends.
use Rattle.std.proofs.Common.{◌≡◌, ℕ, ◌+◌, ◌==◌, ◌||◌, Bool, true, false, if◌then◌else◌, List, [], ◌∷◌, ◌++◌, length, take, drop, position}
use Rattle.std.proofs.Common.{Option, None, Some, Result, Ok, Err, codes, refl, sym, ◌∙◌, ap, ap₂, subst, arith, inl, inr}
use Rattle.std.specs.Prelude.{⊤, ◌⊎◌, slice_index}
use Rattle.std.specs.List.{Contains, find}
use Rattle.std.proofs.Math.Logic.{⊎_elim}
use Rattle.std.specs.Result.{result_ok}
use Rattle.std.specs.Str.{bytes_eq}
use Rattle.std.proofs.lemmas.Bool.Decides.{nat_tests}
use Rattle.std.proofs.lemmas.List.{drop_more, nil_from_length, take-append-drop}
use Rattle.std.proofs.lemmas.List.Elements.{Contains-append_right}
use Rattle.std.proofs.lemmas.List.Quantifiers.{position-Some}
use Rattle.std.proofs.lemmas.Option.{none-some, same_Some}
use Rattle.std.proofs.lemmas.Slice.Eq.{bytes_eq-Decides}
use Rattle.base64.specs.Engines.{standard}
use Rattle.base64.specs.GeneralPurpose.{decode_of}
use Rattle.base64.specs.declared.decode.DecodeError.{DecodeError}
use Rattle.mur_base.specs.Ascii.{nul}
use Rattle.mur_base.specs.Users.{is_user_named}
use Rattle.mur_base.specs.declared.user.User.{User}
use Rattle.imap_types.specs.declared.command.Command.{Command}
use Rattle.imap_types.specs.declared.command.Command.TheVariants as command
use Rattle.imap_types.specs.declared.command.Tag.{Tag}
use Rattle.imap_types.specs.declared.request.Request.{Request}
use Rattle.imap_types.specs.declared.request.Request.TheVariants.{Command as asks, Unknown as unknown, TooBig as too_big}
use Rattle.imap_types.specs.declared.reply.BadText.TheVariants.{State, Syntax}
use Rattle.imap_types.specs.declared.reply.Verdict.TheVariants.{Bad as bad_reply}
use Rattle.mur_model.specs.declared.session.Sess.{Sess}
use Rattle.mur_model.specs.declared.session.Sess.TheVariants.{Off, In, Selected as selected, Ended}
use Rattle.mur_model.specs.declared.setting.Setting.{Setting}
use Rattle.mur_model.specs.declared.store.Store.{Store}
use Rattle.mur_model.specs.Act.{act_by, act_of, need_of, need_off, need_taken, session_after}
use Rattle.mur_model.specs.Answer.{answer_of}
use Rattle.mur_model.specs.Login.{login, login_as, login_by, login_failed}
use Rattle.mur_model.specs.Needed.{Needed, Refusal, Turned, Mailbox, Names}
use Rattle.mur_model.specs.Plain.{acts_as, authenticate, authenticate_as, authenticate_by, authenticate_with, cut_at, cut_at_nul, decoded, is_nul}
use Rattle.mur_model.specs.Rights.{user_named}
use Rattle.mur_model.specs.Traits.{is_in, traits_of}
use Rattle.store_law.specs.Logins.{session_user, plain_message, SaysUser, LogsIn, IsLoginOf, GoesOnAsUser, BeginsByLogin}
use Rattle.store_law.proofs.LetsIn.{lets_in}
use Rattle.store_law.proofs.StaysOwn.{stays_own}

-- ---- the user of a name

at_head : (user : User) (users : List User) → Contains (user ∷ users) user
at_head user users = (0, omega arith, refl)

found_by : (name : List ℕ) (first : User) (users : List User) (user : User) (same : Bool) → bytes_eq first.name name ≡ same
    → (find (is_user_named name) users ≡ Some user → Contains users user × (user.name ≡ name))
    → (if same then Some first else find (is_user_named name) users) ≡ Some user → Contains (first ∷ users) user × (user.name ≡ name)
found_by name first users user true same rest e =
    subst (λ (u : User). Contains (first ∷ users) u × (u.name ≡ name)) (same_Some first user e)
    (at_head first users, (bytes_eq-Decides first.name name).0 same)
found_by name first users user false same rest e =
    let there = rest e in (Contains-append_right (first ∷ []) users user there.0, there.1)

found : (users : List User) (name : List ℕ) (user : User) → find (is_user_named name) users ≡ Some user → Contains users user × (user.name ≡ name)
unfolding is_user_named
found [] name user e = cc
found (first ∷ users) name user e = found_by name first users user (bytes_eq first.name name) refl (found users name user) e

-- ---- what a session that has not begun needs

-- the command says the user of the list who has this name
record IsSaidOf (users : List User) (name : List ℕ) (it : Command) : Type 0 where
  user : User
  known : Contains users user
  named : user.name ≡ name
  said : SaysUser user it

-- a session that begins with a turn is that of a user who logs in with the command
abbrev BeginsOwn : List User → Command → Option Sess → Type 0
BeginsOwn users it None = ⊤
BeginsOwn users it (Some later) = (user : List ℕ) → session_user later ≡ Some user → IsSaidOf users user it

unfoldable IsLoginNeed : List User → Command → Needed → Type 0
IsLoginNeed users it (Refusal verdict) = ⊤
IsLoginNeed users it (Turned turn) = BeginsOwn users it turn.session
IsLoginNeed users it (Mailbox name work) = ⊥
IsLoginNeed users it (Names listing) = ⊤

either_need : (users : List User) (it : Command) (test : Bool) (one other : Needed) → (test ≡ true → IsLoginNeed users it one) → IsLoginNeed users it other
    → IsLoginNeed users it (if test then one else other)
either_need users it true one other is is_other = is refl
either_need users it false one other is is_other = is_other

-- a command that says the name and the password of each user of this name and this password
abbrev SaysBoth : Command → List ℕ → List ℕ → Type 0
SaysBoth it name password = (user : User) → user.name ≡ name → user.password ≡ password → SaysUser user it

login_by_is : (users : List User) (it : Command) (command name password : List ℕ) (user : User) (same : Bool) → Contains users user × (user.name ≡ name)
    → bytes_eq user.password password ≡ same → SaysBoth it name password → IsLoginNeed users it (login_by command user.name same)
unfolding login_by IsLoginNeed session_user
login_by_is users it command name password user false there same says = tt
login_by_is users it command name password user true there same says = λ other e. record {
  user = user;
  known = there.0;
  named = same_Some user.name other e;
  said = says user there.1 ((bytes_eq-Decides user.password password).0 same);
}

login_as_is : (users : List User) (it : Command) (command name password : List ℕ) (found_user : Option User)
    → ((user : User) → found_user ≡ Some user → Contains users user × (user.name ≡ name)) → SaysBoth it name password
    → IsLoginNeed users it (login_as command found_user password)
unfolding login_as IsLoginNeed
login_as_is users it command name password None there says = tt
login_as_is users it command name password (Some user) there says =
    login_by_is users it command name password user (bytes_eq user.password password) (there user refl) refl says

login_is : (users : List User) (it : Command) (command name password : List ℕ) → SaysBoth it name password
    → IsLoginNeed users it (login users command name password)
unfolding login user_named
login_is users it command name password says =
    login_as_is users it command name password (user_named users name) (found users name) says

-- a text cut at its first NUL
cut_is : (text : List ℕ) (place : Option ℕ) (before behind : List ℕ) → position is_nul text ≡ place → cut_at text place ≡ Some (before, behind)
    → text ≡ before ++ nul ∷ behind
unfolding cut_at
cut_is text None before behind at e = cc
cut_is text (Some place) before behind at e =
    let there = position-Some is_nul text place 0 at in
    let whole : text ≡ take place text ++ drop place text = sym (take-append-drop place text) in
    let is_here : slice_index text place ≡ nul = grind (arith, nat_tests, there.1) in
    let rest : drop place text ≡ nul ∷ drop (place + 1) text = drop_more text place 0 there.0 ∙ ap (λ b. b ∷ drop (place + 1) text) is_here in
    let parts = same_Some (take place text, drop (place + 1) text) (before, behind) e in
    whole ∙ ap (λ t. take place text ++ t) rest ∙ ap (λ (cut : List ℕ × List ℕ). cut.0 ++ nul ∷ cut.1) parts

nul_cut : (text before behind : List ℕ) → cut_at_nul text ≡ Some (before, behind) → text ≡ before ++ nul ∷ behind
unfolding cut_at_nul
nul_cut text before behind e = cut_is text (position is_nul text) before behind refl e

own_by : (authzid user : List ℕ) (empty : Bool) → (length authzid == 0) ≡ empty → (empty || bytes_eq authzid user) ≡ true → (authzid ≡ []) ⊎ (authzid ≡ user)
own_by authzid user true is e = inl (nil_from_length authzid (grind (arith, nat_tests, is)))
own_by authzid user false is e = inr ((bytes_eq-Decides authzid user).0 e)

-- who acts as nobody else has an authorization identity that is empty or the own name
acts_as_self : (authzid user : List ℕ) → acts_as authzid user ≡ true → (authzid ≡ []) ⊎ (authzid ≡ user)
acts_as_self authzid user e = own_by authzid user (length authzid == 0) refl e

-- the response says the name and the password of each user whose they are
plain_says : (response authzid rest name password : List ℕ) → decode_of standard response ≡ Ok (authzid ++ nul ∷ rest) → rest ≡ name ++ nul ∷ password
    → acts_as authzid name ≡ true → SaysBoth (command.Authenticate (Some response)) name password
unfolding SaysUser
plain_says response authzid rest name password is_text is_rest acts = λ user named same. record {
  authzid = authzid;
  acts_as_self = subst (λ n. (authzid ≡ []) ⊎ (authzid ≡ n)) (sym named) (acts_as_self authzid name acts);
  message = is_text ∙ ap (λ r. Ok (authzid ++ nul ∷ r)) is_rest ∙ ap₂ (λ n p. Ok (plain_message authzid n p)) (sym named) (sym same);
}

plain_by_is : (users : List User) (response authzid rest : List ℕ) (parts : Option (List ℕ × List ℕ)) → cut_at_nul rest ≡ parts
    → decode_of standard response ≡ Ok (authzid ++ nul ∷ rest)
    → IsLoginNeed users (command.Authenticate (Some response)) (authenticate_by users authzid parts)
unfolding authenticate_by IsLoginNeed
plain_by_is users response authzid rest None cut is_text = tt
plain_by_is users response authzid rest (Some (name, password)) cut is_text =
    let it = command.Authenticate (Some response) in
    either_need users it (acts_as authzid name) (login users (codes "AUTHENTICATE") name password) login_failed
    (λ acts. login_is users it (codes "AUTHENTICATE") name password
    (plain_says response authzid rest name password is_text (nul_cut rest name password cut) acts)) tt

plain_as_is : (users : List User) (response message : List ℕ) (parts : Option (List ℕ × List ℕ)) → cut_at_nul message ≡ parts
    → decode_of standard response ≡ Ok message → IsLoginNeed users (command.Authenticate (Some response)) (authenticate_as users parts)
unfolding authenticate_as IsLoginNeed
plain_as_is users response message None cut is_text = tt
plain_as_is users response message (Some (authzid, rest)) cut is_text =
    plain_by_is users response authzid rest (cut_at_nul rest) refl (is_text ∙ ap Ok (nul_cut message authzid rest cut))

ok_is : (result : Result (List ℕ) DecodeError) (message : List ℕ) → result_ok result ≡ Some message → result ≡ Ok message
ok_is (Ok text) message e = ap Ok (same_Some text message e)
ok_is (Err fault) message e = cc

plain_with_is : (users : List User) (response : List ℕ) (message : Option (List ℕ)) → result_ok (decode_of standard response) ≡ message
    → IsLoginNeed users (command.Authenticate (Some response)) (authenticate_with users message)
unfolding authenticate_with IsLoginNeed
plain_with_is users response None is_text = tt
plain_with_is users response (Some message) is_text =
    plain_as_is users response message (cut_at_nul message) refl (ok_is (decode_of standard response) message is_text)

-- an empty response says nothing, and any other is base64
plain_decoded_is : (users : List User) (response : List ℕ) (equals : Bool) → decoded response ≡ (if equals then Some [] else result_ok (decode_of standard response))
    → IsLoginNeed users (command.Authenticate (Some response)) (authenticate_with users (decoded response))
unfolding authenticate_with authenticate_as cut_at_nul cut_at IsLoginNeed
plain_decoded_is users response true e =
    subst (λ m. IsLoginNeed users (command.Authenticate (Some response)) (authenticate_with users m)) (sym e) tt
plain_decoded_is users response false e =
    subst (λ m. IsLoginNeed users (command.Authenticate (Some response)) (authenticate_with users m)) (sym e)
    (plain_with_is users response (result_ok (decode_of standard response)) refl)

plain_is : (users : List User) (response : List ℕ) → IsLoginNeed users (command.Authenticate (Some response)) (authenticate users response)
unfolding authenticate IsLoginNeed decoded
plain_is users response =
    either_need users (command.Authenticate (Some response)) (bytes_eq response (codes "*")) (Refusal (bad_reply Syntax))
    (authenticate_with users (decoded response)) (λ _. tt) (plain_decoded_is users response (bytes_eq response (codes "=")) refl)

off_need : (setting : Setting) (it : Command) → IsLoginNeed setting.users it (need_off setting it)
unfolding need_off IsLoginNeed SaysUser session_user
off_need setting (command.Login name password) =
    login_is setting.users (command.Login name password) (codes "LOGIN") name password (λ user named same. (sym named, sym same))
off_need setting (command.Authenticate (Some response)) = plain_is setting.users response
off_need setting command.Logout = λ user e. cc
off_need setting it = tt

off_taken : (setting : Setting) (it : Command) → IsLoginNeed setting.users it (need_of setting Off it)
unfolding need_of need_taken IsLoginNeed
off_taken setting it =
    either_need setting.users it (is_in Off (traits_of it).states) (need_off setting it) (Refusal (bad_reply State)) (λ _. off_need setting it) tt

-- ---- what comes of it

begins_with : (users : List User) (it : Command) (later : Option Sess) → BeginsOwn users it later → (user : List ℕ)
    → session_user (session_after Off later) ≡ Some user → IsSaidOf users user it
unfolding session_user
begins_with users it None is user e = cc
begins_with users it (Some later) is user e = is user e

begins_by : (users : List User) (it : Command) (store : Store) (serial : ℕ) (need : Needed) → IsLoginNeed users it need → (user : List ℕ)
    → session_user (act_by store Off serial need).session ≡ Some user → IsSaidOf users user it
unfolding act_by IsLoginNeed session_user
begins_by users it store serial (Refusal verdict) is user e = cc
begins_by users it store serial (Turned turn) is user e = begins_with users it turn.session is user e
begins_by users it store serial (Mailbox name work) is user e = absurd is
begins_by users it store serial (Names listing) is user e = cc

-- a session that has ended begins no more
ended_stays : (setting : Setting) (store : Store) (it : Command) (serial : ℕ) → (act_of setting store Ended it serial).session ≡ Ended
unfolding act_of need_of is_in act_by
ended_stays setting store it serial = refl

-- the same user behind a command as before it, where both sessions have begun
same_user : (before behind : Sess) (own user : List ℕ) → session_user before ≡ Some own → session_user behind ≡ Some user
    → (session_user behind ≡ Some own) ⊎ (behind ≡ Ended) → session_user before ≡ Some user
unfolding session_user
same_user before behind own user was is (inl stays) = was ∙ sym stays ∙ is
same_user before Ended own user was is (inr ends) = cc
same_user before Off own user was is (inr ends) = cc
same_user before (In other) own user was is (inr ends) = cc
same_user before (selected view) own user was is (inr ends) = cc

begins : (setting : Setting) (session : Sess) (store : Store) (it : Command) (serial : ℕ) (user : List ℕ)
    → session_user (act_of setting store session it serial).session ≡ Some user
    → (session_user session ≡ Some user) ⊎ ((session ≡ Off) × IsSaidOf setting.users user it)
unfolding session_user act_of
begins setting Off store it serial user e =
    inr (refl, begins_by setting.users it store serial (need_of setting Off it) (off_taken setting it) user e)
begins setting (In own) store it serial user e =
    inl (same_user (In own) (act_of setting store (In own) it serial).session own user refl e (stays_own setting store (In own) it serial own refl))
begins setting (selected view) store it serial user e =
    inl (same_user (selected view) (act_of setting store (selected view) it serial).session view.user user refl e
    (stays_own setting store (selected view) it serial view.user refl))
begins setting Ended store it serial user e =
    absurd (none-some user (sym (ap session_user (ended_stays setting store it serial)) ∙ e))

-- the sessions before and behind a command
goes_on : (setting : Setting) (store : Store) (session : Sess) (tag : Tag) (it : Command) (serial : ℕ)
    → GoesOnAsUser setting.users session (asks tag it) (act_of setting store session it serial).session
unfolding LogsIn
goes_on setting store session tag it serial = record {
  begins = λ user e. ⊎_elim inl (λ said. inr (said.0, logs_in said.1)) (begins setting session store it serial user e);
  stays = λ user own. stays_own setting store session it serial user own;
  lets_in = λ are user known bare off said.
      subst (λ s. (act_of setting store s it serial).session ≡ In user.name) (sym off) (lets_in setting store user it serial are known bare said);
}
  where
    logs_in : {name : List ℕ} → IsSaidOf setting.users name it → IsLoginOf setting.users name (asks tag it)
    logs_in said = record { user = said.user; known = said.known; named = said.named; said = said.said }

-- a request that is no command leaves its session as it was
same_session : (users : List User) (session : Sess) (request : Request) → ((user : User) → LogsIn user request → ⊥)
    → GoesOnAsUser users session request session
same_session users session request none = record {
  begins = λ user e. inl e;
  stays = λ user own. inl own;
  lets_in = λ are user known bare off said. absurd (none user said);
}

pub begins_by_login : (setting : Setting) → BeginsByLogin setting.users setting
unfolding answer_of LogsIn
begins_by_login setting = λ store session request serial. by store session request serial
  where
    by : (store : Store) (session : Sess) (request : Request) (serial : ℕ)
        → GoesOnAsUser setting.users session request (answer_of setting store session request serial).session
    by store session (asks tag it) serial = goes_on setting store session tag it serial
    by store session (unknown tag) serial = same_session setting.users session (unknown tag) (λ user said. said)
    by store session (too_big tag) serial = same_session setting.users session (too_big tag) (λ user said. said)
