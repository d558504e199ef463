-- Texts, each put behind those before it.
use Rattle.std.proofs.Common.{◌≡◌, ℕ, List, ◌++◌, refl, append_assoc}

pub joined_three : (out a b c one two three : List ℕ) → one ≡ out ++ a → two ≡ one ++ b → three ≡ two ++ c → three ≡ out ++ (a ++ b ++ c)
joined_three out a b c one two three is_one is_two is_three = rw (is_three, is_two, is_one) (simp append_assoc refl)

pub joined_six : (out a b c d e f one two three four five six : List ℕ) → one ≡ out ++ a → two ≡ one ++ b → three ≡ two ++ c → four ≡ three ++ d
    → five ≡ four ++ e → six ≡ five ++ f → six ≡ out ++ (a ++ b ++ c ++ d ++ e ++ f)
joined_six out a b c d e f one two three four five six is_one is_two is_three is_four is_five is_six =
    rw (is_six, is_five, is_four, is_three, is_two, is_one) (simp append_assoc refl)
