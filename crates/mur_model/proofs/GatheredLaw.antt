-- What is gathered for a LIST is listed as the mailboxes are that the user is told of.
use Rattle.std.proofs.Common.{◌≡◌, ℕ, Bool, true, false, ◌&&◌, ◌||◌, List, [], ◌∷◌, map, filter, Option, None, Some, is_some, codes, refl, sym, ap, ◌∙◌}
use Rattle.std.proofs.lemmas.List.Folds.{list_any-append}
use Rattle.std.specs.List.{fold, list_any}
use Rattle.std.specs.Str.{bytes_eq}
use Rattle.imap_types.specs.declared.reply.Code.TheVariants.{None as no_code}
use Rattle.imap_types.specs.declared.reply.Verdict.TheVariants.{Ok as ok_reply}
use Rattle.mur_base.specs.Inbox.{behind, moved, own_name, owns, shown_name}
use Rattle.name_listing.specs.Found.{found_lines}
use Rattle.imap_types.specs.declared.reply.ReplyLine.{ReplyLine}
use Rattle.name_listing.specs.Listing.{Lines, is_above, is_among, listed_as}
use Rattle.name_listing.specs.Told.{line_of}
use Rattle.name_listing.proofs.FoundOrder.{found_listing}
use Rattle.name_listing.proofs.OneListing.{one_listing}
use Rattle.mur_model.specs.Listing.{Gathering, all_gathered, gathered_of, gathered_with, list_reply, nothing_gathered, shown_to, tells}
use Rattle.mur_model.specs.declared.commands.list.Listing.{Listing}

-- ---- a test of what is shown of the names that are told

shown_tested_by : (it : Listing) (test : List ℕ → Bool) (name : List ℕ) (names : List (List ℕ)) (told : Bool)
    → list_any test (map (shown_name it.user) (filter (tells it) names)) ≡ list_any (λ n. tells it n && test (shown_name it.user n)) names
    → tells it name ≡ told
    → list_any test (map (shown_name it.user) (filter (tells it) (name ∷ names))) ≡ list_any (λ n. tells it n && test (shown_name it.user n)) (name ∷ names)
shown_tested_by it test name names true more is = rw (is, more) refl
shown_tested_by it test name names false more is = rw (is, more) refl

pub shown_tested : (it : Listing) (test : List ℕ → Bool) (names : List (List ℕ))
    → list_any test (shown_to it names) ≡ list_any (λ n. tells it n && test (shown_name it.user n)) names
unfolding shown_to
shown_tested it test [] = refl
shown_tested it test (name ∷ names) = shown_tested_by it test name names (tells it name) (shown_tested it test names) refl

-- ---- and of what is gathered

not_own : (user name : List ℕ) → owns user name ≡ false → shown_name user name ≡ name
unfolding owns shown_name
not_own user name none = by (behind (own_name user) name) none
  where
    by : (rest : Option (List ℕ)) → is_some rest ≡ false → moved name (codes "INBOX") rest ≡ name
    by None e = refl
    by (Some rest) e = cc

to_own : (own named one : Bool) → ((own || (one || false)) || named) ≡ ((own || named) || one)
to_own true named one = refl
to_own false true true = refl
to_own false true false = refl
to_own false false true = refl
to_own false false false = refl

to_named : (own named one : Bool) → (own || (named || (one || false))) ≡ ((own || named) || one)
to_named true named one = refl
to_named false true one = refl
to_named false false true = refl
to_named false false false = refl

to_none : (found : Bool) → found ≡ (found || false)
to_none true = refl
to_none false = refl

grouped : (found one more : Bool) → ((found || one) || more) ≡ (found || (one || more))
grouped true one more = refl
grouped false one more = refl

module _ (it : Listing) (test : List ℕ → Bool) where
  abbrev finds : Gathering → Bool
  finds so_far = list_any test so_far.own || list_any test so_far.named

  abbrev passes : List ℕ → Bool
  passes name = tells it name && test (shown_name it.user name)

  finds_by : (so_far : Gathering) (name : List ℕ) (own admin : Bool) → owns it.user name ≡ own → it.is_admin ≡ admin
      → finds (gathered_with it so_far name) ≡ (finds so_far || passes name)
  unfolding gathered_with tells
  finds_by so_far name true true own admin =
      rw (own, admin) (ap (λ b. b || list_any test so_far.named) (list_any-append test so_far.own (shown_name it.user name ∷ []))
      ∙ to_own (list_any test so_far.own) (list_any test so_far.named) (test (shown_name it.user name)))
  finds_by so_far name true false own admin =
      rw (own, admin) (ap (λ b. b || list_any test so_far.named) (list_any-append test so_far.own (shown_name it.user name ∷ []))
      ∙ to_own (list_any test so_far.own) (list_any test so_far.named) (test (shown_name it.user name)))
  finds_by so_far name false true own admin =
      rw (own, admin) (ap (λ b. list_any test so_far.own || b) (list_any-append test so_far.named (name ∷ []))
      ∙ to_named (list_any test so_far.own) (list_any test so_far.named) (test name)
      ∙ ap (λ n. finds so_far || test n) (sym (not_own it.user name own)))
  finds_by so_far name false false own admin = rw (own, admin) (to_none (finds so_far))

  finds_all : (so_far : Gathering) (names : List (List ℕ)) → finds (fold (gathered_with it) so_far names) ≡ (finds so_far || list_any passes names)
  finds_all so_far [] = to_none (finds so_far)
  finds_all so_far (name ∷ names) =
      finds_all (gathered_with it so_far name) names
      ∙ ap (λ b. b || list_any passes names) (finds_by so_far name (owns it.user name) it.is_admin refl refl)
      ∙ grouped (finds so_far) (passes name) (list_any passes names)

  gathered_tested : (names : List (List ℕ)) → list_any test (all_gathered (gathered_of it names)) ≡ list_any test (shown_to it names)
  unfolding gathered_of
  gathered_tested names =
      let all : Gathering = fold (gathered_with it) nothing_gathered names in
      list_any-append test all.own all.named ∙ finds_all nothing_gathered names ∙ sym (shown_tested it test names)

-- ---- so the same is listed

module _ (it : Listing) (names : List (List ℕ)) where
  listed_so : (name : List ℕ) → listed_as it.pattern (all_gathered (gathered_of it names)) name ≡ listed_as it.pattern (shown_to it names) name
  unfolding listed_as is_among
  listed_so name = rw (gathered_tested it (bytes_eq name) names, gathered_tested it (is_above name) names) refl

  found_so : found_lines it.pattern (all_gathered (gathered_of it names)) ≡ found_lines it.pattern (shown_to it names)
  found_so =
      let here = found_listing it.pattern (all_gathered (gathered_of it names)) in
      one_listing it.pattern (shown_to it names) (found_lines it.pattern (all_gathered (gathered_of it names)))
      (found_lines it.pattern (shown_to it names)) (record { rising = here.rising; told = λ name. here.told name ∙ listed_so name })
      (found_listing it.pattern (shown_to it names))

  pub reply_so : (gathered : Gathering) → gathered ≡ gathered_of it names
      → record { lines = map line_of (found_lines it.pattern (all_gathered gathered)); verdict = ok_reply no_code (codes "LIST") } ≡ list_reply it names
  unfolding list_reply
  reply_so gathered same =
      ap (λ (g : Gathering). record { lines = map line_of (found_lines it.pattern (all_gathered g)); verdict = ok_reply no_code (codes "LIST") }) same
      ∙ ap (λ l. record { lines = map line_of l; verdict = ok_reply no_code (codes "LIST") }) found_so

pub reply_is : (it : Listing) (names : List (List ℕ)) (gathered : Gathering) (all : List (List ℕ)) (found : Lines) (lines : List ReplyLine) (text : List ℕ)
    → gathered ≡ gathered_of it names → all ≡ all_gathered gathered → found ≡ found_lines it.pattern all → lines ≡ map line_of found → text ≡ codes "LIST"
    → record { lines = lines; verdict = ok_reply no_code text } ≡ list_reply it names
reply_is it names gathered all found lines text same every finds tells named =
    ap (λ t. record { lines = lines; verdict = ok_reply no_code t }) named
    ∙ ap (λ l. record { lines = l; verdict = ok_reply no_code (codes "LIST") })
    (tells ∙ ap (map line_of) (finds ∙ ap (found_lines it.pattern) every))
    ∙ reply_so it names gathered same
