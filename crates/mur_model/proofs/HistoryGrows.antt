-- Lists of what was asked and answered that grow: the earlier ones stand in front of the later, and what had a number keeps it.
use Rattle.std.proofs.Common.{◌≡◌, ℕ, Bool, true, false, ◌&&◌, cond, nat_eq, nat_lt, nat_le, List, [], ◌∷◌, ◌++◌, Some, refl, sym, ◌∙◌, ap}
use Rattle.std.proofs.lemmas.List.{append-nil}
use Rattle.imap_types.specs.declared.request.Request.{Request}
use Rattle.mur_model.specs.declared.setting.Setting.{Setting}
use Rattle.mur_model.specs.History.{Course, Talk, GoesOn, TalkGoesOn, Takes, numbered}
use Rattle.mur_model.proofs.Numbered.{with_item, numbered_more}

pub same_lists : {T : Type 0} (lists : ℕ → List T) → GoesOn lists lists
same_lists lists = record { more = λ conn. []; parts = λ conn. sym (append-nil (lists conn)) }

pub same_talk : (talk : Talk) → TalkGoesOn talk talk
same_talk talk = record {
  requests = same_lists talk.requests;
  answers = same_lists talk.answers;
  serials = same_lists talk.serials;
  moving = refl;
}

lists_follow : {T : Type 0} (one two three : ℕ → List T) → GoesOn one two → GoesOn two three → GoesOn one three
lists_follow one two three first second = record {
  more = λ conn. first.more conn ++ second.more conn;
  parts = λ conn. second.parts conn ∙ ap (λ l. l ++ second.more conn) (first.parts conn) ∙ append_thrice (one conn) (first.more conn) (second.more conn);
}
  where
    append_thrice : {T : Type 0} (a b c : List T) → (a ++ b) ++ c ≡ a ++ (b ++ c)
    append_thrice [] b c = refl
    append_thrice (x ∷ a) b c = ap (λ l. x ∷ l) (append_thrice a b c)

pub talks_follow : (one two three : Talk) → TalkGoesOn one two → TalkGoesOn two three → TalkGoesOn one three
talks_follow one two three first second = record {
  requests = lists_follow one.requests two.requests three.requests first.requests second.requests;
  answers = lists_follow one.answers two.answers three.answers first.answers second.answers;
  serials = lists_follow one.serials two.serials three.serials first.serials second.serials;
  moving = second.moving ∙ first.moving;
}

-- one item more at one connection
pub item_more : {T : Type 0} (lists : ℕ → List T) (conn : ℕ) (item : T) → GoesOn lists (with_item lists conn item)
unfolding with_item
item_more lists conn item = record {
  more = λ other. cond (nat_eq other conn) (item ∷ []) [];
  parts = λ other. by other (nat_eq other conn);
}
  where
    by : (other : ℕ) (same : Bool) → cond same (lists other ++ item ∷ []) (lists other) ≡ lists other ++ cond same (item ∷ []) []
    by other true = refl
    by other false = sym (append-nil (lists other))

pub numbered_on : {T : Type 0} (lists longer : ℕ → List T) → GoesOn lists longer → (conn number : ℕ) (item : T) → numbered (lists conn) number ≡ Some item
    → numbered (longer conn) number ≡ Some item
numbered_on lists longer on conn number item h = ap (λ l. numbered l number) (on.parts conn) ∙ numbered_more (lists conn) (on.more conn) number item h

pub takes_on : (setting : Setting) (talk longer : Talk) → TalkGoesOn talk longer → (course : Course) (conn number : ℕ) (request : Request) (serial : ℕ)
    → Takes setting talk course conn number request serial → Takes setting longer course conn number request serial
takes_on setting talk longer on course conn number request serial takes = record {
  asked = numbered_on talk.requests longer.requests on.requests conn number request takes.asked;
  given = numbered_on talk.serials longer.serials on.serials conn number serial takes.given;
  free = takes.free;
}

-- one where a number is among the first so many, else none
unfoldable pub one_up_to : ℕ → ℕ → ℕ
one_up_to count number = cond (nat_lt 0 number && nat_le number count) 1 0
