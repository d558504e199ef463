-- The messages that have a mark are those that pass the test.
use Rattle.std.proofs.Common.{◌≡◌, ℕ, suc, Bool, true, false, cond, List, [], ◌∷◌, length, map, refl, ap, arith}
use Rattle.std.specs.List.{filter, zip}
use Rattle.mail_message.specs.declared.message.Summary.{Summary}
use Rattle.mail_search.specs.Matching.{Test}
use Rattle.mail_search.specs.Search.{Numbered, marks, marked}

pub length-marks : (test : Test) (messages : List Summary) (numbers : List ℕ) → length numbers ≡ length messages
    → length (marks test (zip messages numbers)) ≡ length messages
length-marks test [] numbers same = refl
length-marks test (message ∷ messages) [] same = absurd (omega (arith, same))
length-marks test (message ∷ messages) (number ∷ numbers) same = ap suc (length-marks test messages numbers (omega (arith, same)))

found_by : (message : Summary) (number : ℕ) (mark : Bool) (marked_rest : List (Summary × Bool)) (found_rest : Numbered)
    → map (λ row. row.0.uid) marked_rest ≡ map (λ row. row.0.uid) found_rest
    → map (λ row. row.0.uid) (cond mark ((message, mark) ∷ marked_rest) marked_rest)
    ≡ map (λ row. row.0.uid) (cond mark ((message, number) ∷ found_rest) found_rest)
found_by message number true marked_rest found_rest same = ap (λ uids. message.uid ∷ uids) same
found_by message number false marked_rest found_rest same = same

pub marked-found : (test : Test) (messages : List Summary) (numbers : List ℕ) → length numbers ≡ length messages
    → marked (zip messages (marks test (zip messages numbers))) ≡ map (λ row. row.0.uid) (filter (λ row. test row.0 row.1) (zip messages numbers))
marked-found test [] numbers same = refl
marked-found test (message ∷ messages) [] same = absurd (omega (arith, same))
marked-found test (message ∷ messages) (number ∷ numbers) same =
    found_by message number (test message number) _ _ (marked-found test messages numbers (omega (arith, same)))
