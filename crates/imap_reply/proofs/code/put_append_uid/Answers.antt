use Rattle.std.proofs.Common.{◌≡◌, ℕ, List, ◌++◌, refl, append_assoc}
use Rattle.std.proofs.lemmas.Result.{on_ok_weaker}
use Rattle.imap_reply.proofs.code.put_append_uid.Goals as goal

-- five texts, each put behind those before it
joined : (out a b c d e one two three four five : List ℕ)
    → one ≡ out ++ a → two ≡ one ++ b → three ≡ two ++ c → four ≡ three ++ d → five ≡ four ++ e → five ≡ out ++ (a ++ (b ++ (c ++ (d ++ e))))
joined out a b c d e one two three four five is_one is_two is_three is_four is_five =
    rw (is_five, is_four, is_three, is_two, is_one) (simp append_assoc refl)

pub returns : goal.returns
returns c =
    on_ok_weaker c.extend_from_slice-2.result
    (λ last. joined c.args.out.now _ _ _ _ _ _ _ _ _ _ c.in_ok-extend_from_slice.ensures.ok c.in_ok-put_number.ensures.ok c.in_ok-push.ensures.ok
    c.in_ok-put_number-2.ensures.ok last)
    c.extend_from_slice-2.ensures.ok
