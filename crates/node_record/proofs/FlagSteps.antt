-- What the code of flags rests on.
use Rattle.std.proofs.Common.{◌≡◌, ◌≢◌, ◌⊎◌, ℕ, zero, suc, ◌+◌, ◌-◌, ◌/◌, ◌%◌, ◌<◌, ◌≤◌, List, [], ◌∷◌, ◌++◌, length, Bool, true, false, cond, nat_lt, nat_le, Result, Ok, Err, None, Some}
use Rattle.std.proofs.Common.{Ordering, Less, Equal, Greater, ⊎_elim, refl, sym, ap, ◌∙◌, subst, arith, eq-eqb, ne_eqb, length-append}
use Rattle.std.proofs.lemmas.Bool.{false≢true}
use Rattle.std.proofs.lemmas.Bool.Decides.{nat_tests}
use Rattle.std.proofs.lemmas.Cmp.{nat_list_cmp_total}
use Rattle.std.specs.Ordering.{nat_cmp, match_ordering, ordering_reverse}
use Rattle.std.specs.Cmp.Lexicographic.{slice_cmp}
use Rattle.std.specs.BTreeSet.{insert_key}
use Rattle.std.specs.List.{AllByRecursion}
use Rattle.mail_message.specs.declared.system_flags.SystemFlag.{SystemFlag}
use Rattle.mail_message.specs.declared.system_flags.SystemFlag.TheVariants.{Answered, Flagged, Deleted, Seen, Draft}
use Rattle.mail_message.specs.declared.system_flags.SystemFlags.{SystemFlags}
use Rattle.mail_message.specs.declared.flag_name.FlagFault.{FlagFault}
use Rattle.mail_message.specs.declared.flag_name.FlagFault.TheVariants as fault
use Rattle.mail_message.specs.declared.flag_name.FlagName.{FlagName}
use Rattle.mail_message.specs.declared.flag_name.FlagName.TheVariants.{System, Keyword}
use Rattle.mail_message.specs.SystemFlags.{system_flag_in, with_system_flag}
use Rattle.mail_message.specs.FlagSets.{Flags, with_flag, has_too_many, IsMade, IsMadeBy}
use Rattle.mail_message.specs.Keywords.{with_keyword, keyword_fault}
use Rattle.grammar.specs.Part.{Part, ◌>>=◌, map, between}
use Rattle.grammar.specs.declared.error.Stop.{Stop}
use Rattle.grammar.specs.declared.error.ReadError.{ReadError}
use Rattle.grammar.specs.declared.error.ReadError.TheVariants.{Stopped}
use Rattle.grammar.specs.Gives.{StopsAs}
use Rattle.node_record.specs.Parts.{small}
use Rattle.node_record.specs.Flags.{is_set, keyword, keywords, most_keywords, kept, rising, is_next}
use Rattle.node_record.specs.Rising.{IsBelow}
use Rattle.node_record.proofs.KeywordsLaw.{Next, next_is, Fits, kept_is}
use Rattle.node_record.proofs.FlagsLaw.{order, rises_less, Keyword as IsKeyword, keyword_is}

-- flags that aren't too many are made

fits : (flags : Flags) → length flags.keywords ≤ 16 → has_too_many flags ≡ false
fits flags few = grind (arith, nat_tests, few)

pub made_is : (flags made : Flags) → length flags.keywords ≤ 16 → IsMade flags (Ok made) → made ≡ flags
made_is flags made few is = by_room (has_too_many flags) (fits flags few) is
  where
    by_room : (b : Bool) → b ≡ false → IsMadeBy b flags (Ok made) → made ≡ flags
    by_room true e is = absurd (false≢true (sym e))
    by_room false e is = is

-- the only fault is want of memory
pub fault_is : (flags : Flags) (why : FlagFault) → length flags.keywords ≤ 16 → IsMade flags (Err why) → why ≡ fault.Memory
fault_is flags why few is = by_room (has_too_many flags) (fits flags few) is
  where
    by_room : (b : Bool) → b ≡ false → IsMadeBy b flags (Err why) → why ≡ fault.Memory
    by_room true e is = absurd (false≢true (sym e))
    by_room false e is = is

-- a flag that isn't set may be taken away
pub still_clear : (flags : SystemFlags) (flag : SystemFlag) → system_flag_in flags flag ≡ false → with_system_flag flags flag false ≡ flags
still_clear flags Answered h = ap (λ (b : Bool). let f : SystemFlags = record flags { answered = b } in f) (sym h)
still_clear flags Flagged h = ap (λ (b : Bool). let f : SystemFlags = record flags { flagged = b } in f) (sym h)
still_clear flags Deleted h = ap (λ (b : Bool). let f : SystemFlags = record flags { deleted = b } in f) (sym h)
still_clear flags Seen h = ap (λ (b : Bool). let f : SystemFlags = record flags { seen = b } in f) (sym h)
still_clear flags Draft h = ap (λ (b : Bool). let f : SystemFlags = record flags { draft = b } in f) (sym h)

-- the highest keyword goes behind all others

behind : (keyword other : List ℕ) → order other keyword ≡ Less → order keyword other ≡ Greater
behind keyword other h = nat_list_cmp_total.antisymm keyword other ∙ ap ordering_reverse h

pub put_highest : (texts : List (List ℕ)) (text : List ℕ) → AllByRecursion (λ keyword. order keyword text ≡ Less) texts → with_keyword texts text ≡ texts ++ text ∷ []
put_highest [] text above = refl
put_highest (first ∷ texts) text above =
    ap (λ (o : Ordering). match_ordering o (text ∷ first ∷ texts) (first ∷ texts) (first ∷ insert_key order texts text)) (behind text first above.0)
    ∙ ap (λ (l : List (List ℕ)). first ∷ l) (put_highest texts text above.1)

pub more_fits : (flags : Flags) (text : List ℕ) → AllByRecursion (λ keyword. order keyword text ≡ Less) flags.keywords → length flags.keywords < 16
    → length (with_keyword flags.keywords text) ≤ 16
more_fits flags text above room =
    subst (λ (l : List (List ℕ)). length l ≤ 16) (sym (put_highest flags.keywords text above)) (omega (arith, room, length-append flags.keywords (text ∷ [])))

-- what is above the last keyword is above all

pub below_next : (last text : List ℕ) (texts : List (List ℕ)) → order last text ≡ Less → IsBelow last texts → AllByRecursion (λ keyword. order keyword text ≡ Less) texts
below_next last text [] less b = tt
below_next last text (first ∷ texts) less b = (b.0 text less, below_next last text texts less b.1)

pub below_more : (last text : List ℕ) (texts : List (List ℕ)) → order last text ≡ Less → IsBelow last texts → IsBelow text (texts ++ text ∷ [])
below_more last text [] less b = ((λ higher h. h), tt)
below_more last text (first ∷ texts) less b =
    ((λ higher h. b.0 higher (nat_list_cmp_total.trans last text higher less h)), below_more last text texts less b.1)

-- one keyword more is read

pub next_less : (before : List ℕ) (above : ℕ) (text : List ℕ) → is_next before above (length text) text ≡ true → order before text ≡ Less
next_less before above text h = rises_less before text (next_is before above (length text) text h).higher

pub rising_more : (before : List ℕ) (above : ℕ) (so_far : List (List ℕ)) (bytes text rest : List ℕ) → (keyword before above).at bytes ≡ Ok (text, rest)
    → is_next before above (length text) text ≡ true → keyword_fault text ≡ None
    → (rising above text (so_far ++ text ∷ [])).at rest ≡ (rising (suc above) before so_far).at bytes
unfolding rising
rising_more before above so_far bytes text rest e next named =
    let n = next_is before above (length text) text next in
    let fits : Fits above text = record { atoms = n.atoms; short = (keyword_is text named).few; room = n.room } in
    ap (λ (b : List ℕ). (rising above b (so_far ++ text ∷ [])).at rest) (sym (kept_is above text fits))
    ∙ sym (ap (λ r. r >>= (λ (t rest : List ℕ). (rising above (kept above t) (so_far ++ t ∷ [])).at rest)) e)

pub rising_stops : (before : List ℕ) (above left : ℕ) (so_far : List (List ℕ)) (bytes : List ℕ) → (keyword before above).at bytes ≡ Err left
    → (rising (suc above) before so_far).at bytes ≡ Err left
unfolding rising
rising_stops before above left so_far bytes e = ap (λ r. r >>= (λ (t rest : List ℕ). (rising above (kept above t) (so_far ++ t ∷ [])).at rest)) e

pub rising_ends : (before : List ℕ) (so_far : List (List ℕ)) (bytes : List ℕ) → (rising zero before so_far).at bytes ≡ Ok (so_far, bytes)
unfolding rising
rising_ends before so_far bytes = refl

-- what all keywords give

abbrev with_texts : Flags → List (List ℕ) → Flags
with_texts flags texts = record flags { keywords = texts }

module _ (system : Flags) (bytes after : List ℕ) (count : ℕ) (read : (small (between 0 16)).at bytes ≡ Ok (count, after)) (few : between 0 16 count ≡ true) where
  counted : (keywords).at bytes ≡ (rising count [] []).at after
  counted =
      let short : nat_le count 16 ≡ true = grind (arith, nat_tests, few) in
      ap (λ r. r >>= (λ (n : ℕ) (rest : List ℕ). (rising (most_keywords n) [] []).at rest)) read
      ∙ ap (λ (b : Bool). (rising (cond b count 0) [] []).at after) short

  pub keywords_stop : (left : ℕ) → (rising count [] []).at after ≡ Err left → (map (with_texts system) keywords).at bytes ≡ Err left
  keywords_stop left e = ap (λ r. r >>= (λ (list : List (List ℕ)) (rest : List ℕ). Ok (with_texts system list, rest))) (counted ∙ e)

  pub keywords_end : (made : Flags) (rest : List ℕ) → (rising count [] []).at after ≡ Ok (made.keywords, rest) → made.system ≡ system.system
      → (map (with_texts system) keywords).at bytes ≡ Ok (made, rest)
  keywords_end made rest e same =
      ap (λ r. r >>= (λ (list : List (List ℕ)) (rest : List ℕ). Ok (with_texts system list, rest))) (counted ∙ e)
      ∙ ap (λ (s : SystemFlags). let f : Flags = record made { system = s } in Ok (f, rest)) (sym same)

pub stopped_as : {A : Type 0} (wanted : Result A ℕ) (stop : Stop) (error : ReadError) → error ≡ Stopped stop → wanted ≡ Err stop.left → StopsAs error wanted
stopped_as wanted stop error is h = λ other e. let same : stop ≡ other = cc in h ∙ ap (λ (s : Stop). Err s.left) same

-- one flag more, as the code puts it

pub bit_is : (so_far made : Flags) (flag : SystemFlag) (bit byte : ℕ) → so_far.keywords ≡ [] → (byte / bit) % 2 ≡ 1
    → IsMade (with_flag so_far (System flag)) (Ok made) → made ≡ record so_far { system = with_system_flag so_far.system flag (is_set bit byte) }
bit_is so_far made flag bit byte bare set is =
    let on : is_set bit byte ≡ true = eq-eqb ((byte / bit) % 2) 1 set in
    let few : length so_far.keywords ≤ 16 = omega (arith, ap length bare) in
    made_is (with_flag so_far (System flag)) made few is
    ∙ ap (λ (b : Bool). let f : Flags = record so_far { system = with_system_flag so_far.system flag b } in f) (sym on)

pub bit_is_not : (so_far : Flags) (flag : SystemFlag) (bit byte : ℕ) → system_flag_in so_far.system flag ≡ false → (byte / bit) % 2 ≢ 1
    → so_far ≡ record so_far { system = with_system_flag so_far.system flag (is_set bit byte) }
bit_is_not so_far flag bit byte clear unset =
    let off : is_set bit byte ≡ false = ne_eqb ((byte / bit) % 2) 1 unset in
    ap (λ (s : SystemFlags). let f : Flags = record so_far { system = s } in f) (sym (still_clear so_far.system flag clear))
    ∙ ap (λ (b : Bool). let f : Flags = record so_far { system = with_system_flag so_far.system flag b } in f) (sym off)

pub bit_fault : (so_far : Flags) (flag : SystemFlag) (why : FlagFault) → so_far.keywords ≡ [] → IsMade (with_flag so_far (System flag)) (Err why) → why ≡ fault.Memory
bit_fault so_far flag why bare is =
    let few : length so_far.keywords ≤ 16 = omega (arith, ap length bare) in
    fault_is (with_flag so_far (System flag)) why few is

pub highest_is : (so_far made : Flags) (keyword text : List ℕ) → keyword ≡ text → length so_far.keywords < 16
    → AllByRecursion (λ other. order other text ≡ Less) so_far.keywords → IsMade (with_flag so_far (Keyword keyword)) (Ok made)
    → made ≡ record so_far { keywords = so_far.keywords ++ text ∷ [] }
highest_is so_far made keyword text same room above is =
    let whole : IsMade (with_flag so_far (Keyword text)) (Ok made) = subst (λ (k : List ℕ). IsMade (with_flag so_far (Keyword k)) (Ok made)) same is in
    made_is (with_flag so_far (Keyword text)) made (more_fits so_far text above room) whole
    ∙ ap (λ (l : List (List ℕ)). let f : Flags = record so_far { keywords = l } in f) (put_highest so_far.keywords text above)

pub highest_fault : (so_far : Flags) (keyword text : List ℕ) (why : FlagFault) → keyword ≡ text → length so_far.keywords < 16
    → AllByRecursion (λ other. order other text ≡ Less) so_far.keywords → IsMade (with_flag so_far (Keyword keyword)) (Err why) → why ≡ fault.Memory
highest_fault so_far keyword text why same room above is =
    fault_is (with_flag so_far (Keyword text)) why (more_fits so_far text above room)
    (subst (λ (k : List ℕ). IsMade (with_flag so_far (Keyword k)) (Err why)) same is)
