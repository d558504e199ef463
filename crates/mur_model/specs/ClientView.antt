-- What a client derives from the lines that it is given (RFC 9051, 7.4.1 and 7.5.1): how many messages there are, and under which number each stands.
use Rattle.std.specs.Prelude.{◌≡◌, ℕ, zero, suc, ◌-◌, ⊤, replicate, List, [], ◌∷◌, ◌++◌, length, map, Option, None, Some}
use Rattle.std.specs.List.{fold}
use Rattle.mail_message.specs.declared.message.Row.{Row}
use Rattle.imap_types.specs.declared.reply.ReplyLine.{ReplyLine}
use Rattle.imap_types.specs.declared.reply.ReplyLine.TheVariants.{Exists, Expunge}

-- the UIDs of a view
abbrev pub uids : List Row → List ℕ
uids rows = map (λ row. row.uid) rows

-- for each number the UID of its message, where the client knows it
abbrev pub Known : Type 0
Known = List (Option ℕ)

-- without the one of this number; the first has the number 1
unfoldable pub without_number : {A : Type 0} → ℕ → List A → List A
without_number zero items = items
without_number (suc n) [] = []
without_number (suc zero) (item ∷ items) = items
without_number (suc (suc n)) (item ∷ items) = item ∷ without_number (suc n) items

-- EXISTS adds messages of which nothing is known yet, EXPUNGE takes the one of its number away; no other line changes a number
unfoldable pub known_after : Known → ReplyLine → Known
known_after known (Exists count) = known ++ replicate (count - length known) None
known_after known (Expunge number) = without_number number known
known_after known line = known

abbrev pub known_after_all : Known → List ReplyLine → Known
known_after_all known lines = fold known_after known lines

-- the client knows as many messages as there are UIDs, and of each, where it knows it, the UID at its number
unfoldable pub Agrees : Known → List ℕ → Type 0
Agrees [] [] = ⊤
Agrees (None ∷ known) (uid ∷ uids) = Agrees known uids
Agrees (Some told ∷ known) (uid ∷ uids) = (told ≡ uid) × Agrees known uids
Agrees known uids = ⊥
