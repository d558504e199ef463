-- The lines and the responses on their way, one by one: what `home_law` says of each name holds of each line about it, and of each answer.
use Rattle.std.proofs.Common.{◌≡◌, Bool, true, false, cond, List, [], ◌∷◌, ◌++◌, Option, Some, sym, subst}
use Rattle.std.specs.List.{flat_map, AllByRecursion}
use Rattle.mupdate_codec.specs.declared.command.MCommand.{MCommand}
use Rattle.mupdate_codec.specs.declared.command.MCommand.TheVariants as command
use Rattle.mupdate_codec.specs.declared.command.MResponse.{MResponse}
use Rattle.mupdate_codec.specs.declared.command.MResponse.TheVariants as response
use Rattle.mupdate_codec.specs.declared.tag.Tag.{Tag}
use Rattle.home_law.specs.Items.{Server, is_same_server, Item, reserve_ok, reserve, make, again}
use Rattle.home_law.specs.LinkOk.{EachItem}
use Rattle.home_law.specs.ManyNames.{Mailbox, SentLine as OpenLine, sent_reserve, sent_make, sent_again, ok_items, downs_of}
use Rattle.home_law.proofs.SameName.{is_itself}
use Rattle.name_flows.specs.OneName.{told_by}
use Rattle.name_links.specs.Contents.{EachAnswer}
use Rattle.name_links.specs.Lines.{is_asked, backend_line, items_of}
use Rattle.name_links.specs.LinkIs.{AreAnswers, AreSent, lines_after}
use Rattle.name_links.specs.OneLink.{items_if, up_items, told_of}
use Rattle.name_links.proofs.EachCommand.{if_so}
use Rattle.name_links.proofs.Tied.{lines_of, after_more, downs_one}

-- ---- lists

module _ {X : Type 0} where
  pub all_append : (P : X → Type 0) (xs ys : List X) → AllByRecursion P xs → AllByRecursion P ys → AllByRecursion P (xs ++ ys)
  all_append P [] ys a b = b
  all_append P (x ∷ xs) ys a b = (a.0, all_append P xs ys a.1 b)

  pub all_first : (P : X → Type 0) (xs ys : List X) → AllByRecursion P (xs ++ ys) → AllByRecursion P xs
  all_first P [] ys a = tt
  all_first P (x ∷ xs) ys a = (a.0, all_first P xs ys a.1)

  pub all_both : (P Q R : X → Type 0) → ((x : X) → P x → Q x → R x) → (xs : List X) → AllByRecursion P xs → AllByRecursion Q xs → AllByRecursion R xs
  all_both P Q R f [] a b = tt
  all_both P Q R f (x ∷ xs) a b = (f x a.0 b.0, all_both P Q R f xs a.1 b.1)

  pub all_as : (P Q : X → Type 0) → ((x : X) → P x → Q x) → (xs : List X) → AllByRecursion P xs → AllByRecursion Q xs
  all_as P Q f [] a = tt
  all_as P Q f (x ∷ xs) a = (f x a.0, all_as P Q f xs a.1)

each_first : (P : Item → Type 0) (xs ys : List Item) → EachItem P (xs ++ ys) → EachItem P xs
unfolding EachItem
each_first P [] ys a = tt
each_first P (x ∷ xs) ys a = (a.0, each_first P xs ys a.1)

each_rest : (P : Item → Type 0) (xs ys : List Item) → EachItem P (xs ++ ys) → EachItem P ys
unfolding EachItem
each_rest P [] ys a = a
each_rest P (x ∷ xs) ys a = each_rest P xs ys a.1

-- ---- lines

-- what a line that reserves or activates a name is to it
abbrev pub item_fits : (Mailbox → Item → Type 0) → Bool → MCommand → Type 0
item_fits P asked (command.Reserve n place) = P n reserve
item_fits P asked (command.Activate n place acl) = P n (cond asked make again)
item_fits P asked it = Unit {0}

abbrev pub ItemFits : (Mailbox → Item → Type 0) → Tag × MCommand → Type 0
ItemFits P it = item_fits P (is_asked it.0) it.1

module _ (P : Mailbox → Item → Type 0) where
  activate_one : (m : Mailbox) (t : Bool) → EachItem (P m) (items_of m (cond t (sent_make m) (sent_again m))) → P m (cond t make again)
  unfolding items_of EachItem
  activate_one m true e = let all : EachItem (P m) (make ∷ []) = subst (λ (s : Bool). EachItem (P m) (cond s (make ∷ []) [])) (is_itself m) e in all.0
  activate_one m false e = let all : EachItem (P m) (again ∷ []) = subst (λ (s : Bool). EachItem (P m) (cond s (again ∷ []) [])) (is_itself m) e in all.0

  reserve_one : (m : Mailbox) → EachItem (P m) (items_of m (sent_reserve m)) → P m reserve
  unfolding items_of EachItem
  reserve_one m e = let all : EachItem (P m) (reserve ∷ []) = subst (λ (s : Bool). EachItem (P m) (cond s (reserve ∷ []) [])) (is_itself m) e in all.0

  module _ (b : Server) where
    one_on_way : (tag : Tag) (it : MCommand) (line : OpenLine) → backend_line b tag it ≡ Some line → ((n : Mailbox) → EachItem (P n) (items_if n (backend_line b tag it))) → item_fits P (is_asked tag) it
    unfolding backend_line
    one_on_way tag (command.Reserve m place) line e all =
        let f = if_so (is_same_server place.server b) (sent_reserve m) line e in
        reserve_one m (subst (λ (l : OpenLine). EachItem (P m) (items_of m l)) (sym f.1) (subst (λ (o : Option OpenLine). EachItem (P m) (items_if m o)) e (all m)))
    one_on_way tag (command.Activate m place acl) line e all =
        let f = if_so (is_same_server place.server b) (cond (is_asked tag) (sent_make m) (sent_again m)) line e in
        activate_one m (is_asked tag) (subst (λ (l : OpenLine). EachItem (P m) (items_of m l)) (sym f.1) (subst (λ (o : Option OpenLine). EachItem (P m) (items_if m o)) e (all m)))
    one_on_way tag it line e all = tt

    pub lines_on_way : (lines : List (Tag × OpenLine)) (ups : List (Tag × MCommand)) → AreSent b lines ups
        → ((n : Mailbox) → EachItem (P n) (flat_map (up_items b n) ups)) → AllByRecursion (ItemFits P) ups
    unfolding AreSent
    lines_on_way [] [] s all = tt
    lines_on_way [] (it ∷ ups) s all = absurd s
    lines_on_way (line ∷ lines) [] s all = tt
    lines_on_way (line ∷ lines) (it ∷ ups) s all = (
      one_on_way it.0 it.1 line.1 s.1 (λ n. each_first (P n) (up_items b n it) (flat_map (up_items b n) ups) (all n)),
      lines_on_way lines ups s.2 (λ n. each_rest (P n) (up_items b n it) (flat_map (up_items b n) ups) (all n)),
    )

-- ---- answers

-- what RESERVE's OK is to its name
abbrev pub told_fits : (Mailbox → Item → Type 0) → OpenLine → MResponse → Type 0
told_fits P (sent_reserve n) (response.Ok text) = P n reserve_ok
told_fits P line it = Unit {0}

module _ (P : Mailbox → Item → Type 0) where
  ok_told : (m : Mailbox) → EachItem (P m) (ok_items m (sent_reserve m) ++ []) → P m reserve_ok
  unfolding ok_items EachItem
  ok_told m e = let all : EachItem (P m) (reserve_ok ∷ []) = subst (λ (s : Bool). EachItem (P m) (cond s (reserve_ok ∷ []) [] ++ [])) (is_itself m) e in all.0

  one_told : (line : OpenLine) (it : MResponse) → ((n : Mailbox) → EachItem (P n) (downs_of n (line ∷ []) (told_by it))) → told_fits P line it
  unfolding downs_of
  one_told (sent_reserve m) (response.Ok text) all = ok_told m (all m)
  one_told line it all = tt

  pub answers_on_way : (lines : List (Tag × OpenLine)) (downs : List (Tag × MResponse)) (left : List (Tag × OpenLine)) → AreAnswers lines downs left
      → ((n : Mailbox) → EachItem (P n) (downs_of n (lines_of lines) (told_of downs))) → EachAnswer (told_fits P) lines downs
  unfolding AreAnswers EachAnswer
  answers_on_way lines [] left a all = tt
  answers_on_way [] (it ∷ more) left a all = tt
  answers_on_way (line ∷ lines) (it ∷ more) left a all = (
    one_told line.1 it.1 (λ n. each_first (P n) (downs_of n (line.1 ∷ []) (told_by it.1)) (later n) (parts n)),
    answers_on_way (lines_after line lines it.1) more left a.2 (λ n. each_rest (P n) (downs_of n (line.1 ∷ []) (told_by it.1)) (later n) (parts n)),
  )
    where
      later : Mailbox → List Item
      later n = downs_of n (lines_of (lines_after line lines it.1)) (told_of more)

      parts : (n : Mailbox) → EachItem (P n) (downs_of n (line.1 ∷ []) (told_by it.1) ++ later n)
      parts n = subst (λ (xs : List Item). EachItem (P n) xs) (downs_one n line lines it.1 (told_of more)) (all n)

-- two facts of each answer
pub answer_both : (P Q R : OpenLine → MResponse → Type 0) → ((line : OpenLine) (it : MResponse) → P line it → Q line it → R line it)
    → (lines : List (Tag × OpenLine)) (downs : List (Tag × MResponse)) → EachAnswer P lines downs → EachAnswer Q lines downs → EachAnswer R lines downs
unfolding EachAnswer
answer_both P Q R f lines [] a b = tt
answer_both P Q R f [] (it ∷ more) a b = tt
answer_both P Q R f (line ∷ lines) (it ∷ more) a b = (f line.1 it.1 a.0 b.0, answer_both P Q R f (lines_after line lines it.1) more a.1 b.1)

pub answer_as : (P Q : OpenLine → MResponse → Type 0) → ((line : OpenLine) (it : MResponse) → P line it → Q line it)
    → (lines : List (Tag × OpenLine)) (downs : List (Tag × MResponse)) → EachAnswer P lines downs → EachAnswer Q lines downs
unfolding EachAnswer
answer_as P Q f lines [] a = tt
answer_as P Q f [] (it ∷ more) a = tt
answer_as P Q f (line ∷ lines) (it ∷ more) a = (f line.1 it.1 a.0, answer_as P Q f (lines_after line lines it.1) more a.1)

pub answer_first : (P : OpenLine → MResponse → Type 0) (lines : List (Tag × OpenLine)) (downs more : List (Tag × MResponse)) → EachAnswer P lines (downs ++ more)
    → EachAnswer P lines downs
unfolding EachAnswer
answer_first P lines [] more e = tt
answer_first P [] (it ∷ downs) more e = tt
answer_first P (line ∷ lines) (it ∷ downs) more e = (e.0, answer_first P (lines_after line lines it.1) downs more e.1)

-- lines behind them change nothing
pub answer_more : (P : OpenLine → MResponse → Type 0) (lines extra : List (Tag × OpenLine)) (downs : List (Tag × MResponse)) (left : List (Tag × OpenLine))
    → AreAnswers lines downs left → EachAnswer P lines downs → EachAnswer P (lines ++ extra) downs
unfolding AreAnswers EachAnswer
answer_more P lines extra [] left a e = tt
answer_more P [] extra (it ∷ more) left a e = absurd a
answer_more P (line ∷ lines) extra (it ∷ more) left a e = (
  e.0,
  subst (λ (ls : List (Tag × OpenLine)). EachAnswer P ls more) (sym (after_more line lines extra it.1)) (answer_more P (lines_after line lines it.1) extra more left a.2 e.1),
)

-- answers to the lines that are left come behind them
pub answer_then : (P : OpenLine → MResponse → Type 0) (lines left : List (Tag × OpenLine)) (downs more : List (Tag × MResponse)) → AreAnswers lines downs left
    → EachAnswer P lines downs → EachAnswer P left more → EachAnswer P lines (downs ++ more)
unfolding AreAnswers EachAnswer
answer_then P lines left [] more a e f = subst (λ (ls : List (Tag × OpenLine)). EachAnswer P ls more) (sym a) f
answer_then P [] left (it ∷ downs) more a e f = absurd a
answer_then P (line ∷ lines) left (it ∷ downs) more a e f = (e.0, answer_then P (lines_after line lines it.1) left downs more a.2 e.1 f)
