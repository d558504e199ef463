-- A NOOP or an OK that is about the connection of its command tells that command, so the numbers of that have 64 bits: larger ones are read by nobody.
use Rattle.std.proofs.Common.{◌≡◌, ℕ, ◌<◌, ◌^◌, Bool, true, false, cond, nat_eq, nat_lt, List, [], ◌∷◌, ◌++◌, Option, None, Some, refl, sym, ◌∙◌, ap, subst, append-nil, append_assoc, arith}
use Rattle.std.specs.List.{list_all}
use Rattle.std.proofs.lemmas.Bool.Decides.{nat_tests}
use Rattle.ask_routes.specs.Barrier.{noop_line}
use Rattle.front_core.proofs.OneConnection.Places.{about, about_command, nobody_whom, of_connection}
use Rattle.grammar.proofs.Conditions.{and_left, and_right}
use Rattle.grammar.proofs.NumeralLaw.{decimal_writes}
use Rattle.grammar.specs.Numbers.{decimal_text}
use Rattle.master_core.specs.Replies.{done}
use Rattle.mupdate_codec.proofs.LineAsks.{own_command, own_response}
use Rattle.mupdate_codec.specs.Asks.{ask_by, ask_id_of, ask_in, split_dash, tag_of}
use Rattle.mupdate_codec.specs.declared.command.MCommand.TheVariants as command
use Rattle.mupdate_codec.specs.declared.command.MResponse.TheVariants as response
use Rattle.mur_base.specs.Number.{digits_behind, is_digit, is_numeral, number_of}
use Rattle.mur_base.specs.declared.point.AskId.{AskId}
use Rattle.route_links.specs.Answered.{IsNumbered, noop_of, ok_of}

-- ---- a number that is read has 64 bits

read_fits : (text : List ℕ) (n : ℕ) → number_of text ≡ Some n → digits_behind 0 text < 2 ^ 64
unfolding number_of
read_fits text n e = by (is_numeral text) (nat_lt (digits_behind 0 text) (2 ^ 64)) refl e
  where
    by : (numeral fits : Bool) → nat_lt (digits_behind 0 text) (2 ^ 64) ≡ fits → cond numeral (cond fits (Some (digits_behind 0 text)) None) None ≡ Some n
        → digits_behind 0 text < 2 ^ 64
    by true true h k = grind (arith, nat_tests)
    by true false h k = cc
    by false fits h k = cc

fits_itself : (n m : ℕ) → number_of (decimal_text n) ≡ Some m → n < 2 ^ 64
fits_itself n m e =
    let value : digits_behind 0 (decimal_text n) ≡ n = (decimal_writes n).value in
    subst (λ v. v < 2 ^ 64) value (read_fits (decimal_text n) m e)

-- ---- so do the two numbers that a tag tells

no_dash : (c : ℕ) → is_digit c ≡ true → nat_eq c 45 ≡ false
unfolding is_digit
no_dash c h = grind (arith, nat_tests)

record IsTold (one two : List ℕ) (told : AskId) : Type 0 where
  conn : number_of one ≡ Some told.conn
  command : number_of two ≡ Some told.command

told_by : (one two : List ℕ) (told : AskId) (first second : Option ℕ) → number_of one ≡ first → number_of two ≡ second → ask_by first second ≡ Some told
    → IsTold one two told
told_by one two told (Some n) (Some m) h k e =
    let same : record { conn = n; command = m } ≡ told = cc in
    record { conn = h ∙ ap (λ (i : AskId). Some i.conn) same; command = k ∙ ap (λ (i : AskId). Some i.command) same }
told_by one two told (Some n) None h k e = cc
told_by one two told None second h k e = cc

told_behind : (told : AskId) (front digits rest : List ℕ) → list_all is_digit digits ≡ true → ask_in (split_dash front (digits ++ 45 ∷ rest)) ≡ Some told
    → IsTold (front ++ digits) rest told
unfolding split_dash
told_behind told front [] rest all e =
    subst (λ t. IsTold t rest told) (sym (append-nil front)) (told_by front rest told (number_of front) (number_of rest) refl refl e)
told_behind told front (c ∷ digits) rest all e =
    subst (λ t. IsTold t rest told) (append_assoc front (c ∷ []) digits)
    (told_behind told (front ++ c ∷ []) digits rest (and_right (is_digit c) _ all)
    (sym (ap (λ b. ask_in (cond b (Some (front, digits ++ 45 ∷ rest)) (split_dash (front ++ c ∷ []) (digits ++ 45 ∷ rest))))
    (no_dash c (and_left _ _ all))) ∙ e))

told_numbered : (id told : AskId) → ask_id_of (tag_of id) ≡ Some told → IsNumbered id
unfolding ask_id_of tag_of
told_numbered id told e =
    let parts = told_behind told [] (decimal_text id.conn) (decimal_text id.command) (decimal_writes id.conn).digits e in
    (fits_itself id.conn told.conn parts.conn, fits_itself id.command told.command parts.command)

-- ---- the lines of a barrier

told_of_tag : (id : AskId) (conn : ℕ) (told : Option AskId) → ask_id_of (tag_of id) ≡ told → about_command told ≡ of_connection conn → IsNumbered id
told_of_tag id conn None e own = absurd (nobody_whom conn own)
told_of_tag id conn (Some told) e own = told_numbered id told e

pub noop_numbered : (id : AskId) (conn : ℕ) → about (noop_of id) ≡ of_connection conn → IsNumbered id
unfolding noop_line
noop_numbered id conn own =
    told_of_tag id conn (ask_id_of (tag_of id)) refl (sym (ap about_command (own_command id command.Noop)) ∙ own)

pub ok_numbered : (id : AskId) (conn : ℕ) → about (ok_of id) ≡ of_connection conn → IsNumbered id
ok_numbered id conn own =
    told_of_tag id conn (ask_id_of (tag_of id)) refl (sym (ap about_command (own_response id (response.Ok done))) ∙ own)
