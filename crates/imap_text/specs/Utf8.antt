-- Characters of two to four bytes (RFC 3629, 4), put behind a text.
use Rattle.std.specs.Prelude.{ℕ, List, ◌++◌}
use Rattle.grammar.specs.Part.{Part, ◌then◌, map, choose, exactly, between}
use Rattle.imap_text.specs.Characters.{is_utf8_tail}

-- a first byte in a range, a second in a range, and tails
unfoldable pub led : ℕ → ℕ → ℕ → ℕ → ℕ → List ℕ → Part (List ℕ)
led low high second_low second_high tails so_far =
    exactly (between low high) 1 then λ first. exactly (between second_low second_high) 1 then λ second.
    map (λ rest. so_far ++ first ++ second ++ rest) (exactly is_utf8_tail tails)

-- UTF8-2 = %xC2-DF UTF8-tail
unfoldable pub utf8_2 : List ℕ → Part (List ℕ)
utf8_2 so_far = led 194 223 128 191 0 so_far

-- UTF8-3 = %xE0 %xA0-BF UTF8-tail / %xE1-EC 2(UTF8-tail) / %xED %x80-9F UTF8-tail / %xEE-EF 2(UTF8-tail)
unfoldable pub utf8_3 : List ℕ → Part (List ℕ)
utf8_3 so_far =
    choose (between 224 224) (led 224 224 160 191 1 so_far)
    (choose (between 225 236) (led 225 236 128 191 1 so_far)
    (choose (between 237 237) (led 237 237 128 159 1 so_far) (led 238 239 128 191 1 so_far)))

-- UTF8-4 = %xF0 %x90-BF 2(UTF8-tail) / %xF1-F3 3(UTF8-tail) / %xF4 %x80-8F 2(UTF8-tail)
unfoldable pub utf8_4 : List ℕ → Part (List ℕ)
utf8_4 so_far =
    choose (between 240 240) (led 240 240 144 191 2 so_far)
    (choose (between 241 243) (led 241 243 128 191 2 so_far) (led 244 244 128 143 2 so_far))

unfoldable pub utf8_char : List ℕ → Part (List ℕ)
utf8_char so_far = choose (between 194 223) (utf8_2 so_far) (choose (between 224 239) (utf8_3 so_far) (utf8_4 so_far))
