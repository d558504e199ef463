-- Characters of two to four bytes (RFC 3629, 4), and the bytes that are read as one.
use Rattle.std.proofs.Common.{◌≡◌, ℕ, ◌+◌, ◌-◌, ◌*◌, ◌/◌, ◌%◌, ◌<◌, ◌≤◌, List, [], ◌∷◌, ◌++◌, Bool, true, false, ◌&&◌, nat_lt, nat_le, refl, ap, sym, ◌∙◌, arith}
use Rattle.std.proofs.lemmas.Bool.Decides.{nat_tests}
use Rattle.std.specs.Str.{IsUtf8}
use Rattle.std.proofs.lemmas.Str.{encode_ascii}
use lib.Utf8.{encode, encodes, scalar}
use Rattle.text_parts.specs.Names.{lead_of}

-- a character of these bytes
pub record IsCharacter (bytes : List ℕ) : Type 0 where
  pub char : ℕ
  pub is_scalar : scalar char ≡ true
  pub spelled : encode char ≡ bytes

pub two : (b t : ℕ) → 194 ≤ b → b ≤ 223 → 128 ≤ t → t ≤ 191 → IsCharacter (b ∷ t ∷ [])
unfolding encode
two b t lb hb lt ht =
    let c : ℕ = (b - 192) * 64 + (t - 128) in
    let first : 192 + c / 64 ≡ b = omega arith in
    let second : 128 + c % 64 ≡ t = omega arith in
    let over : nat_lt c 128 ≡ false = grind (arith, nat_tests) in
    let under : nat_lt c 2048 ≡ true = grind (arith, nat_tests) in
    let low : nat_lt c 55296 ≡ true = grind (arith, nat_tests) in
    record { char = c; is_scalar = rw low refl; spelled = rw (over, under, first, second) refl }

pub three : (b t u : ℕ) → 224 ≤ b → b ≤ 239 → (b ≡ 224 → 160 ≤ t) → (b ≡ 237 → t ≤ 159) → 128 ≤ t → t ≤ 191 → 128 ≤ u → u ≤ 191
    → IsCharacter (b ∷ t ∷ u ∷ [])
unfolding encode
three b t u lb hb least most lt ht lu hu =
    let c : ℕ = ((b - 224) * 64 + (t - 128)) * 64 + (u - 128) in
    let first : 224 + c / 4096 ≡ b = omega arith in
    let second : 128 + (c / 64) % 64 ≡ t = omega arith in
    let third : 128 + c % 64 ≡ u = omega arith in
    let over : nat_lt c 128 ≡ false = grind (arith, nat_tests) in
    let past : nat_lt c 2048 ≡ false = grind (arith, nat_tests) in
    let under : nat_lt c 65536 ≡ true = grind (arith, nat_tests) in
    record { char = c; is_scalar = grind (arith, nat_tests); spelled = rw (over, past, under, first, second, third) refl }

pub four : (b t u v : ℕ) → 240 ≤ b → b ≤ 244 → (b ≡ 240 → 144 ≤ t) → (b ≡ 244 → t ≤ 143) → 128 ≤ t → t ≤ 191 → 128 ≤ u → u ≤ 191 → 128 ≤ v → v ≤ 191
    → IsCharacter (b ∷ t ∷ u ∷ v ∷ [])
unfolding encode
four b t u v lb hb least most lt ht lu hu lv hv =
    let c : ℕ = (((b - 240) * 64 + (t - 128)) * 64 + (u - 128)) * 64 + (v - 128) in
    let first : 240 + c / 262144 ≡ b = omega arith in
    let second : 128 + (c / 4096) % 64 ≡ t = omega arith in
    let third : 128 + (c / 64) % 64 ≡ u = omega arith in
    let fourth : 128 + c % 64 ≡ v = omega arith in
    let over : nat_lt c 128 ≡ false = grind (arith, nat_tests) in
    let past : nat_lt c 2048 ≡ false = grind (arith, nat_tests) in
    let beyond : nat_lt c 65536 ≡ false = grind (arith, nat_tests) in
    record { char = c; is_scalar = grind (arith, nat_tests); spelled = rw (over, past, beyond, first, second, third, fourth) refl }

-- what the first byte says, by how many bytes follow
pub record Leads (b due low high : ℕ) : Type 0 where
  pub few : due ≤ 3
  pub one : due ≡ 1 → (194 ≤ b) × (b ≤ 223)
  pub two_more : due ≡ 2 → (224 ≤ b) × (b ≤ 239) × (b ≡ 224 → 160 ≤ low) × (b ≡ 237 → high ≤ 159)
  pub three_more : due ≡ 3 → (240 ≤ b) × (b ≤ 244) × (b ≡ 240 → 144 ≤ low) × (b ≡ 244 → high ≤ 143)
  pub least : 0 < due → 128 ≤ low
  pub most : 0 < due → high ≤ 191

pub leads : (b : ℕ) → Leads b (lead_of b).due (lead_of b).low (lead_of b).high
unfolding lead_of
leads b = record {
  few = grind (arith, nat_tests);
  one = λ e. (grind (arith, nat_tests), grind (arith, nat_tests));
  two_more = λ e. (grind (arith, nat_tests), grind (arith, nat_tests), λ f. grind (arith, nat_tests), λ f. grind (arith, nat_tests));
  three_more = λ e. (grind (arith, nat_tests), grind (arith, nat_tests), λ f. grind (arith, nat_tests), λ f. grind (arith, nat_tests));
  least = λ e. grind (arith, nat_tests);
  most = λ e. grind (arith, nat_tests);
}

pub ascii_utf8 : (c : ℕ) → c < 128 → IsCharacter (c ∷ [])
ascii_utf8 c h = record { char = c; is_scalar = grind (arith, nat_tests); spelled = encode_ascii c h }
