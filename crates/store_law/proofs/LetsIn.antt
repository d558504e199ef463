-- Each user is let in by the name and the password, where users have names of their own.
use Rattle.std.proofs.Common.{◌≡◌, ◌≢◌, ℕ, zero, suc, ◌+◌, ◌<◌, ◌==◌, ◌||◌, Bool, true, false, if◌then◌else◌, List, [], ◌∷◌, ◌++◌, length, position}
use Rattle.std.proofs.Common.{get_or, take, drop, None, Some, Ok, codes, refl, sym, ◌∙◌, ap, subst, arith, inl, inr, true≢false, length-append, append_assoc}
use Rattle.std.specs.Prelude.{◌⊎◌, is_ok}
use Rattle.std.specs.List.{All, AllPairs, Contains, find, position_or_len}
use Rattle.std.specs.Result.{result_ok}
use Rattle.std.specs.Str.{bytes_eq}
use Rattle.std.proofs.lemmas.Bool.{lt-ltb}
use Rattle.std.proofs.lemmas.Bool.Decides.{nat_tests}
use Rattle.std.proofs.lemmas.List.{drop_at, get_or_append_left, get_or_at, take_at}
use Rattle.std.proofs.lemmas.List.Elements.{All-contains, All-nil}
use Rattle.std.proofs.lemmas.List.Sums.{position_or_len_is}
use Rattle.std.proofs.lemmas.Slice.Eq.{bytes_eq-Decides}
use Rattle.base64.specs.Engines.{standard}
use Rattle.base64.specs.GeneralPurpose.{decode_of}
use Rattle.base64.proofs.OnLiterals.{base64_on_literals}
use Rattle.mur_base.specs.Ascii.{nul}
use Rattle.mur_base.specs.Users.{AreUsers, is_user_named}
use Rattle.mur_base.specs.declared.user.User.{User}
use Rattle.imap_types.specs.declared.command.Command.{Command}
use Rattle.imap_types.specs.declared.command.Command.TheVariants as command
use Rattle.imap_types.specs.declared.reply.BadText.TheVariants.{Syntax}
use Rattle.imap_types.specs.declared.reply.Verdict.TheVariants.{Bad as bad_reply}
use Rattle.mur_model.specs.declared.session.Sess.TheVariants.{Off, In}
use Rattle.mur_model.specs.declared.setting.Setting.{Setting}
use Rattle.mur_model.specs.declared.store.Store.{Store}
use Rattle.mur_model.specs.Act.{act_by, act_of, need_of, need_off, need_taken}
use Rattle.mur_model.specs.Login.{begun_by, login, login_as, login_by, login_failed}
use Rattle.mur_model.specs.Needed.{Refusal, Turned}
use Rattle.mur_model.specs.Plain.{acts_as, authenticate, authenticate_as, authenticate_by, authenticate_with, cut_at, cut_at_nul, decoded, is_nul}
use Rattle.mur_model.specs.Rights.{user_named}
use Rattle.mur_model.specs.Traits.{is_in, may_be, traits_of}
use Rattle.store_law.specs.Logins.{plain_message, IsPlainOf, SaysUser}

-- ---- the user of a name

-- each name is that of one user
abbrev AreApart : List User → Type 0
AreApart users = AllPairs (λ (one other : User). one.name ≢ other.name) users

apart_first : (first : User) (users : List User) → AreApart (first ∷ users) → All (λ (other : User). first.name ≢ other.name) users
apart_first first users apart = λ k d within. apart 0 (suc k) d (omega arith) (omega arith)

apart_rest : (first : User) (users : List User) → AreApart (first ∷ users) → AreApart users
apart_rest first users apart = λ i j d less within. apart (suc i) (suc j) d (omega arith) (omega arith)

among : (first : User) (users : List User) (user : User) → Contains (first ∷ users) user → (first ≡ user) ⊎ Contains users user
among first users user (zero, within, same) = inl same
among first users user (suc k, within, same) = inr (k, omega arith, same)

find_by : (first : User) (users : List User) (user : User) (same : Bool) → bytes_eq first.name user.name ≡ same → (first ≡ user) ⊎ Contains users user
    → AreApart (first ∷ users) → (Contains users user → find (is_user_named user.name) users ≡ Some user)
    → (if same then Some first else find (is_user_named user.name) users) ≡ Some user
find_by first users user true is (inl one) apart rest = ap Some one
find_by first users user true is (inr later) apart rest =
    absurd (All-contains (λ (other : User). first.name ≢ other.name) users user (apart_first first users apart) later
    ((bytes_eq-Decides first.name user.name).0 is))
find_by first users user false is (inl one) apart rest =
    absurd (true≢false (sym ((bytes_eq-Decides first.name user.name).1 (ap (λ (u : User). u.name) one)) ∙ is))
find_by first users user false is (inr later) apart rest = rest later

find_known : (users : List User) (user : User) → AreApart users → Contains users user → find (is_user_named user.name) users ≡ Some user
unfolding is_user_named
find_known [] user apart (k, within, same) = absurd (omega arith)
find_known (first ∷ users) user apart there =
    find_by first users user (bytes_eq first.name user.name) refl (among first users user there) apart
    (find_known users user (apart_rest first users apart))

login_taken : (users : List User) (user : User) (command password : List ℕ) → find (is_user_named user.name) users ≡ Some user → password ≡ user.password
    → login users command user.name password ≡ Turned (begun_by command user.name)
unfolding login login_as login_by user_named
login_taken users user command password known same =
    ap (λ found. login_as command found password) known
    ∙ ap (λ is. login_by command user.name is) ((bytes_eq-Decides user.password password).1 (sym same))

-- ---- PLAIN

cut_found : (text before behind : List ℕ) (place : ℕ) → position is_nul text ≡ Some place → take place text ≡ before → drop (place + 1) text ≡ behind
    → cut_at_nul text ≡ Some (before, behind)
unfolding cut_at_nul cut_at
cut_found text before behind place found front rest =
    ap (cut_at text) found ∙ ap (λ b. Some (b, drop (place + 1) text)) front ∙ ap (λ b. Some (before, b)) rest

-- a text without NUL is what stands before the first one
cut_of : (before behind : List ℕ) → All (λ byte. byte ≢ nul) before → cut_at_nul (before ++ nul ∷ behind) ≡ Some (before, behind)
cut_of before behind bare =
    let text : List ℕ = before ++ nul ∷ behind in
    let long : length text ≡ length before + suc (length behind) = length-append before (nul ∷ behind) in
    let not_yet : (k : ℕ) → k < length before → is_nul (get_or text k 0) ≡ false =
    λ k within. not_nul (get_or text k 0) (λ is. bare k 0 within (sym (get_or_append_left before (nul ∷ behind) 0 k within) ∙ is)) in
    let here : is_nul (get_or text (length before) 0) ≡ true = ap is_nul (get_or_at before nul behind 0 (length before) refl) in
    let at : position_or_len is_nul text ≡ length before =
    position_or_len_is is_nul text (length before) 0 (omega (arith, long)) not_yet (λ _. here) in
    let found : position is_nul text ≡ Some (length before) = found_at is_nul text (length before) at (omega (arith, long)) in
    let rest : drop (length before + 1) text ≡ behind =
    ap (drop (length before + 1)) (sym (append_assoc before (nul ∷ []) behind))
    ∙ drop_at (before ++ nul ∷ []) behind (length before + 1) (length-append before (nul ∷ [])) in
    cut_found text before behind (length before) found (take_at before (nul ∷ behind) (length before) refl) rest
  where
    not_nul : (byte : ℕ) → byte ≢ nul → is_nul byte ≡ false
    not_nul byte other = by (is_nul byte) refl
      where
        by : (test : Bool) → is_nul byte ≡ test → test ≡ false
        by true is = absurd (other (grind (arith, nat_tests, is)))
        by false is = refl

    found_at : (test : ℕ → Bool) (text : List ℕ) (place : ℕ) → position_or_len test text ≡ place → place < length text → position test text ≡ Some place
    found_at test text place at within =
        subst (λ p. p < length text → position test text ≡ Some p) at
        (λ inside. ap (λ t. if t then Some (position_or_len test text) else None) (lt-ltb (position_or_len test text) (length text) inside)) within

acts_by : (authzid user : List ℕ) → (authzid ≡ []) ⊎ (authzid ≡ user) → acts_as authzid user ≡ true
acts_by authzid user (inl none) = ap (λ a. (length a == 0) || bytes_eq a user) none
acts_by authzid user (inr own) = or_true (length authzid == 0) _ ((bytes_eq-Decides authzid user).1 own)
  where
    or_true : (one other : Bool) → other ≡ true → (one || other) ≡ true
    or_true true other e = refl
    or_true false other e = e

-- a text that isn't base64 isn't a response that is
is_other : (text response message : List ℕ) → is_ok (decode_of standard text) ≡ false → decode_of standard response ≡ Ok message
    → bytes_eq response text ≡ false
is_other text response message bad good = by (bytes_eq response text) refl
  where
    by : (test : Bool) → bytes_eq response text ≡ test → test ≡ false
    by true is =
        absurd (true≢false (sym (ap (λ r. is_ok r) good) ∙ ap (λ r. is_ok (decode_of standard r)) ((bytes_eq-Decides response text).0 is) ∙ bad))
    by false is = refl

star_is_bad : is_ok (decode_of standard (codes "*")) ≡ false
unfolding base64_on_literals
star_is_bad = refl

equals_is_bad : is_ok (decode_of standard (codes "=")) ≡ false
unfolding base64_on_literals
equals_is_bad = refl

bare_identity : (authzid name : List ℕ) → (authzid ≡ []) ⊎ (authzid ≡ name) → All (λ byte. byte ≢ nul) name → All (λ byte. byte ≢ nul) authzid
bare_identity authzid name (inl none) bare = subst (All (λ byte. byte ≢ nul)) (sym none) (All-nil (λ byte. byte ≢ nul))
bare_identity authzid name (inr own) bare = subst (All (λ byte. byte ≢ nul)) (sym own) bare

plain_taken : (users : List User) (user : User) (response : List ℕ) → find (is_user_named user.name) users ≡ Some user
    → All (λ byte. byte ≢ nul) user.name → IsPlainOf user response → authenticate users response ≡ Turned (begun_by (codes "AUTHENTICATE") user.name)
unfolding authenticate authenticate_with authenticate_as authenticate_by decoded
plain_taken users user response known bare said =
    let authzid : List ℕ = said.authzid in
    let name : List ℕ = user.name in
    let password : List ℕ = user.password in
    let rest : List ℕ = name ++ nul ∷ password in
    let it : List ℕ = codes "AUTHENTICATE" in
    let star : bytes_eq response (codes "*") ≡ false = is_other (codes "*") response (plain_message authzid name password) star_is_bad said.message in
    let equals : bytes_eq response (codes "=") ≡ false = is_other (codes "=") response (plain_message authzid name password) equals_is_bad said.message in
    let message : decoded response ≡ Some (authzid ++ nul ∷ rest) =
    ap (λ e. if e then Some [] else result_ok (decode_of standard response)) equals ∙ ap result_ok said.message in
    ap (λ e. if e then Refusal (bad_reply Syntax) else authenticate_with users (decoded response)) star
    ∙ ap (authenticate_with users) message
    ∙ ap (authenticate_as users) (cut_of authzid rest (bare_identity authzid name said.acts_as_self bare))
    ∙ ap (authenticate_by users authzid) (cut_of name password bare)
    ∙ ap (λ acts. if acts then login users it name password else login_failed) (acts_by authzid name said.acts_as_self)
    ∙ login_taken users user it password known refl

-- ---- a session that has not begun

need_taken_off : (setting : Setting) (user : User) (it : Command) → AreUsers setting.users → Contains setting.users user
    → All (λ byte. byte ≢ nul) user.name → SaysUser user it → (command : List ℕ) × (need_of setting Off it ≡ Turned (begun_by command user.name))
unfolding need_of need_taken need_off is_in may_be traits_of SaysUser
need_taken_off setting user (command.Login name password) are known bare said = (
  codes "LOGIN",
  ap (λ n. login setting.users (codes "LOGIN") n password) said.0
      ∙ login_taken setting.users user (codes "LOGIN") password (find_known setting.users user are.names known) said.1,
)
need_taken_off setting user (command.Authenticate (Some response)) are known bare said =
    (codes "AUTHENTICATE", plain_taken setting.users user response (find_known setting.users user are.names known) bare said)
need_taken_off setting user (command.Authenticate None) are known bare said = absurd said
need_taken_off setting user it are known bare said = absurd said

pub lets_in : (setting : Setting) (store : Store) (user : User) (it : Command) (serial : ℕ) → AreUsers setting.users → Contains setting.users user
    → All (λ byte. byte ≢ nul) user.name → SaysUser user it → (act_of setting store Off it serial).session ≡ In user.name
unfolding act_of act_by
lets_in setting store user it serial are known bare said =
    let taken = need_taken_off setting user it are known bare said in
    ap (λ need. (act_by store Off serial need).session) taken.1
