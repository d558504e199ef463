-- The words of the table: each is its own row's, has no space, and begins no line that is passed over.
use Rattle.std.proofs.Common.{◌≡◌, ℕ, Bool, true, false, List, [], ◌∷◌, ◌++◌, Ok, refl, ap, ◌∙◌}
use Rattle.std.specs.Str.{bytes_eq}
use Rattle.std.proofs.lemmas.Slice.Eq.{bytes_eq-Decides}
use Rattle.schedule_text.specs.declared.words.Word.{Word}
use Rattle.schedule_text.specs.declared.words.Word.TheVariants.{Open as open_word, Data as data_word, Hang as hang_word, Deliver as deliver_word, Cut as cut_word, Join as join_word, Flow as flow_word, Heal as heal_word}
use Rattle.schedule_text.specs.Schedule.{is_passed_over}
use Rattle.schedule_text.specs.Words.{word_text, all_words, word_among, word_named}
use Rattle.schedule_text.proofs.HighBytes.{AreFrom}

pub record IsRow (word : Word) : Type 0 where
  pub named : word_named (word_text word) ≡ Ok word
  pub from : AreFrom 33 (word_text word)
  pub counts : (rest : List ℕ) → is_passed_over (word_text word ++ rest) ≡ false

pub is_row : (word : Word) → IsRow word
unfolding word_named word_among word_text is_passed_over
is_row open_word = record { named = refl; from = refl; counts = λ rest. refl }
is_row data_word = record { named = refl; from = refl; counts = λ rest. refl }
is_row hang_word = record { named = refl; from = refl; counts = λ rest. refl }
is_row deliver_word = record { named = refl; from = refl; counts = λ rest. refl }
is_row cut_word = record { named = refl; from = refl; counts = λ rest. refl }
is_row join_word = record { named = refl; from = refl; counts = λ rest. refl }
is_row flow_word = record { named = refl; from = refl; counts = λ rest. refl }
is_row heal_word = record { named = refl; from = refl; counts = λ rest. refl }

among_by : (words : List Word) (word : Word) (text : List ℕ) (found : Word) → (word_among words text ≡ Ok found → text ≡ word_text found)
    → (is : Bool) → bytes_eq text (word_text word) ≡ is → word_among (word ∷ words) text ≡ Ok found → text ≡ word_text found
unfolding word_among
among_by words word text found later true e h =
    let same : word ≡ found = (let there : Ok word ≡ Ok found = rw e at h in cc) in
    (bytes_eq-Decides text (word_text word)).0 e ∙ ap word_text same
among_by words word text found later false e h = later (rw e at h)

among_is : (words : List Word) (text : List ℕ) (found : Word) → word_among words text ≡ Ok found → text ≡ word_text found
unfolding word_among
among_is [] text found h = cc
among_is (word ∷ words) text found h = among_by words word text found (among_is words text found) _ refl h

pub named_is : (text : List ℕ) (found : Word) → word_named text ≡ Ok found → text ≡ word_text found
unfolding word_named
named_is text found h = among_is all_words text found h
