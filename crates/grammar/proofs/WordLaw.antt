-- Words are read to their end, where no byte that follows goes on with one.
use Rattle.std.proofs.Common.{◌≡◌, ℕ, List, [], ◌∷◌, ◌++◌, Result, Ok, Err, Bool, true, false, cond, refl, sym, ap, subst, ◌∙◌}
use Rattle.std.proofs.Common.{append_assoc, append-nil}
use Rattle.grammar.specs.Part.{◌>>=◌, Joins}
use Rattle.grammar.specs.Exact.{Stops, Taken, IsViable, FirstIsIn, Good}
use Rattle.grammar.specs.Words.{Words, Lawful, Apart, word, scan, halt}
use Rattle.grammar.proofs.Reading.{ok_parts, takes_some, good_from}

module _ (w : Words) (lawful : Lawful w) where
  -- the scan behind some text, once the next byte is tested
  scan_step : (front : List ℕ) (c : ℕ) (rest : List ℕ) (b : Bool) → w.begins (front ++ c ∷ []) ≡ b →
      scan w front (c ∷ rest) ≡ cond b (scan w (front ++ c ∷ []) rest) (halt (w.whole front) front (c ∷ rest))
  scan_step front c rest b e = ap (λ b. cond b (scan w (front ++ c ∷ []) rest) (halt (w.whole front) front (c ∷ rest))) e

  halt_sound : (b : Bool) (front bytes rest v : List ℕ) → w.whole front ≡ b → halt b front bytes ≡ Ok (v, rest)
      → (front ≡ v) × (bytes ≡ rest) × (w.whole v ≡ true)
  halt_sound true front bytes rest v is e = let same = ok_parts e in (same.0, same.1, ap w.whole (sym same.0) ∙ is)
  halt_sound false front bytes rest v is e = cc

  scan_sound : (front bytes rest v : List ℕ) → scan w front bytes ≡ Ok (v, rest)
      → (x : List ℕ) × (bytes ≡ x ++ rest) × (front ++ x ≡ v) × (w.whole v ≡ true)
  scan_sound front [] rest v e =
      let h = halt_sound (w.whole front) front [] rest v refl e in
      ([], h.1, append-nil front ∙ h.0, h.2)
  scan_sound front (c ∷ bytes) rest v e =
      by_test (w.begins (front ++ c ∷ [])) (λ e. scan_sound (front ++ c ∷ []) bytes rest v e) e
    where
      by_test : (b : Bool) →
          (scan w (front ++ c ∷ []) bytes ≡ Ok (v, rest) →
          (x : List ℕ) × (bytes ≡ x ++ rest) × ((front ++ c ∷ []) ++ x ≡ v) × (w.whole v ≡ true)) →
          cond b (scan w (front ++ c ∷ []) bytes) (halt (w.whole front) front (c ∷ bytes)) ≡ Ok (v, rest) →
          (x : List ℕ) × ((let s : List ℕ = c ∷ bytes in s) ≡ x ++ rest) × (front ++ x ≡ v) × (w.whole v ≡ true)
      by_test true again e = let s = again e in (c ∷ s.0, ap (λ t. c ∷ t) s.1, sym (append_assoc front (c ∷ []) s.0) ∙ s.2, s.3)
      by_test false again e = let h = halt_sound (w.whole front) front (c ∷ bytes) rest v refl e in ([], h.1, append-nil front ∙ h.0, h.2)

  -- a text that begins a word is passed over
  scan_over : (front x rest : List ℕ) → w.begins (front ++ x) ≡ true → scan w front (x ++ rest) ≡ scan w (front ++ x) rest
  scan_over front [] rest e = ap (λ s. scan w s rest) (sym (append-nil front))
  scan_over front (c ∷ x) rest e =
      let together : (front ++ c ∷ []) ++ x ≡ front ++ c ∷ x = append_assoc front (c ∷ []) x in
      let all : w.begins ((front ++ c ∷ []) ++ x) ≡ true = ap w.begins together ∙ e in
      scan_step front c (x ++ rest) true (lawful.front (front ++ c ∷ []) x all)
      ∙ scan_over (front ++ c ∷ []) x rest all ∙ ap (λ s. scan w s rest) together

  -- a whole word before a byte that goes on with none is read
  pub word_reads : (front rest : List ℕ) (c : ℕ) → w.whole front ≡ true → w.begins (front ++ c ∷ []) ≡ false
      → scan w [] (front ++ (c ∷ rest)) ≡ Ok (front, c ∷ rest)
  word_reads front rest c whole ends =
      scan_over [] front (c ∷ rest) (lawful.whole front whole) ∙ scan_step front c rest false ends ∙ ap (λ b. halt b front (c ∷ rest)) whole

module _ {V : Type 0} (w : Words) (lawful : Lawful w) (after : ℕ → Bool) (apart : Apart w after)
    (next : List ℕ → List ℕ → Result V ℕ) (v : (a : List ℕ) → IsViable (next a)) (f : (a : List ℕ) → FirstIsIn after (next a)) where
  -- behind a whole word the reading goes on with what follows
  at_word : (front rest : List ℕ) (x : V) → w.whole front ≡ true → next front rest ≡ Ok x → scan w front rest >>= next ≡ Ok x
  at_word front [] x whole n = ap (λ b. halt b front [] >>= next) whole ∙ n
  at_word front (c ∷ rest) x whole n =
      ap (λ r. r >>= next) (scan_step w lawful front c rest false (apart front whole c (f front c rest x n)))
      ∙ ap (λ b. halt b front (c ∷ rest) >>= next) whole ∙ n

  word_only : (bytes : List ℕ) (x : V) → Joins (word w).lang (λ a. Taken (next a)) bytes x → scan w [] bytes >>= next ≡ Ok x
  word_only bytes x j =
      let is : w.whole j.between ≡ true = j.begins.1 in
      ap (λ s. scan w [] s >>= next) (j.parts ∙ ap (λ s. s ++ j.back) j.begins.0)
      ∙ ap (λ r. r >>= next) (scan_over w lawful [] j.between j.back (lawful.whole j.between is))
      ∙ at_word j.between j.back x is j.goes_on

  -- a stop of the scan behind a text that begins a word
  abbrev Stopped : List ℕ → List ℕ → ℕ → Type 0
  Stopped front bytes left = Stops (Taken (λ s. scan w [] s >>= next)) (front ++ bytes) left

  -- where the scan halted it halts with any text that begins with the same byte
  halts : (front bytes : List ℕ) → ((c : ℕ) (tail : List ℕ) → bytes ≡ c ∷ tail → w.begins (front ++ c ∷ []) ≡ false) →
      (x : List ℕ) (c : ℕ) (tail more : List ℕ) → bytes ≡ x ++ (c ∷ tail) →
      scan w front (x ++ (c ∷ more)) ≡ halt (w.whole front) front (x ++ (c ∷ more))
  halts front bytes last [] c tail more e = scan_step w lawful front c more false (last c tail e)
  halts front bytes last (d ∷ x) c tail more e = scan_step w lawful front d (x ++ (c ∷ more)) false (last d (x ++ (c ∷ tail)) e)

  -- where the scan halts, what follows the word stops, or the text is no word yet
  at_halt : (front bytes : List ℕ) (left : ℕ) (b : Bool) → w.begins front ≡ true → w.whole front ≡ b →
      ((c : ℕ) (tail : List ℕ) → bytes ≡ c ∷ tail → w.begins (front ++ c ∷ []) ≡ false) →
      halt b front bytes >>= next ≡ Err left → Stopped front bytes left
  at_halt front bytes left true begins whole last e =
      let s = v front bytes left e in
      record {
        front = front ++ s.front;
        rest = s.rest;
        parts = ap (λ t. front ++ t) s.parts ∙ sym (append_assoc front s.front s.rest);
        left_is = s.left_is;
        more = s.more;
        value = s.value;
        begins = ap (λ t. scan w [] t >>= next) (append_assoc front s.front s.more)
            ∙ ap (λ r. r >>= next) (scan_over w lawful [] front (s.front ++ s.more) begins) ∙ at_word front (s.front ++ s.more) s.value whole s.begins;
        ends = λ c tail more u same taken. s.ends c tail more u same
            (sym (ap (λ t. scan w [] t >>= next) (append_assoc front s.front (c ∷ more))
            ∙ ap (λ r. r >>= next)
            (scan_over w lawful [] front (s.front ++ (c ∷ more)) begins
            ∙ halts front bytes last s.front c tail more (s.parts ∙ ap (λ t. s.front ++ t) same))
            ∙ ap (λ b. halt b front (s.front ++ (c ∷ more)) >>= next) whole) ∙ taken);
      }
  at_halt front bytes left false begins whole last e =
      let on = lawful.goes_on front begins in
      let some = takes_some (next (front ++ on.0)) (v (front ++ on.0)) in
      record {
        front = front;
        rest = bytes;
        parts = refl;
        left_is = cc;
        more = on.0 ++ some.0;
        value = some.1;
        begins = word_only _ _
            (record {
              front = front ++ on.0;
              back = some.0;
              between = front ++ on.0;
              parts =
                  sym (append_assoc front on.0 some.0);
              begins = (refl, on.1);
              goes_on = some.2;
            });
        ends = λ c tail more u same taken.
            let stop : halt false front (c ∷ more) >>= next ≡ Ok u =
            sym (ap (λ r. r >>= next) (scan_over w lawful [] front (c ∷ more) begins ∙ halts front bytes last [] c tail more same)
            ∙ ap (λ b. halt b front (c ∷ more) >>= next) whole) ∙ taken in
            cc;
      }

  scan_stops : (front bytes : List ℕ) (left : ℕ) → w.begins front ≡ true → scan w front bytes >>= next ≡ Err left → Stopped front bytes left
  scan_stops front [] left begins e = at_halt front [] left (w.whole front) begins refl (λ c tail same. cc) e
  scan_stops front (c ∷ bytes) left begins e =
      by_test (w.begins (front ++ c ∷ [])) refl (λ is e. scan_stops (front ++ c ∷ []) bytes left is e) e
    where
      by_test : (b : Bool) → w.begins (front ++ c ∷ []) ≡ b
          → (w.begins (front ++ c ∷ []) ≡ true → scan w (front ++ c ∷ []) bytes >>= next ≡ Err left → Stopped (front ++ c ∷ []) bytes left) →
          cond b (scan w (front ++ c ∷ []) bytes) (halt (w.whole front) front (c ∷ bytes)) >>= next ≡ Err left → Stopped front (c ∷ bytes) left
      by_test true is again e = subst (λ s. Stops (Taken (λ s. scan w [] s >>= next)) s left) (append_assoc front (c ∷ []) bytes) (again is e)
      by_test false is again e =
          at_halt front (c ∷ bytes) left (w.whole front) begins refl
          (λ d tail same. let first : c ≡ d = cc in ap (λ x. w.begins (front ++ x ∷ [])) (sym first) ∙ is) e

-- a word, behind which no byte of the set goes on with one
pub good_word : {V : Type 0} (w : Words) → Lawful w → (after : ℕ → Bool) → Apart w after → Good V after (word w)
good_word {V} w lawful after apart =
    good_from (word w) sound (λ next v f. word_only w lawful after apart next v f)
    (λ next v f bytes left e. scan_stops w lawful after apart next v f [] bytes left lawful.empty_begins e)
  where
    sound : (bytes rest a : List ℕ) → scan w [] bytes ≡ Ok (a, rest) → (front : List ℕ) × (bytes ≡ front ++ rest) × (word w).lang front a
    sound bytes rest a e = let s = scan_sound w lawful [] bytes rest a e in (s.0, s.1, (s.2, s.3))
